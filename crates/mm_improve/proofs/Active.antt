-- The active hypotheses of a statement are labelled statements before it.
use Rattle.std.proofs.Common.{◌≡◌, ℕ, suc, zero, ◌≤◌, ◌<◌, Bool, true, false, cond, List, [], ◌∷◌, ◌++◌, map, length, nat_le, refl, arith, length-append}
use Rattle.std.specs.List.{All, AllByRecursion}
use Rattle.std.proofs.lemmas.List.Elements.{All-from_recursion, recursion_from_All}
use Rattle.mm_tables.specs.Moves.{in_force}
use Rattle.mm_scope.specs.Contents.{labels_of, stated_at, active_at, events_of, past_before}
use Rattle.mm_scope.specs.Events.{Event, constant, variable, float, essential, asserted, theorem, distinct, opened, closed, labels, hypothesis_moves}
use Rattle.mm_subst.specs.declared.symbol.WSym.{WSym}
use Rattle.mm_subst.specs.Statements.{statement_of, symbol_of}
use Rattle.mm_plain.specs.Forms.{IsFormed}
use Rattle.mm_improve.proofs.Forms.{IsStatedAs}

abbrev Low : ℕ → List ℕ → Type 0
Low n xs = AllByRecursion (λ k. k < n) xs

raised : (m n : ℕ) (xs : List ℕ) → m ≤ n → Low m xs → Low n xs
raised m n [] h low = tt
raised m n (x ∷ xs) h low = (omega (arith, h, low.0), raised m n xs h low.1)

low_push : (n x : ℕ) (xs : List ℕ) → x < n → Low n xs → Low n (xs ++ x ∷ [])
low_push n x [] h low = (h, tt)
low_push n x (y ∷ ys) h low = (low.0, low_push n x ys h low.1)

one_label : (ls : List (List ℕ)) (l : List ℕ) (xs : List ℕ) → Low (length ls) xs → Low (length (ls ++ l ∷ [])) xs
one_label ls l xs low = raised (length ls) (length (ls ++ l ∷ [])) xs (omega (arith, length-append ls (l ∷ []))) low

one_hypothesis : (ls : List (List ℕ)) (l : List ℕ) (xs : List ℕ) → Low (length ls) xs → Low (length (ls ++ l ∷ [])) (xs ++ length ls ∷ [])
one_hypothesis ls l xs low = low_push (length (ls ++ l ∷ [])) (length ls) xs (omega (arith, length-append ls (l ∷ []))) (one_label ls l xs low)

active_low : (n : ℕ) (past : List Event) → Low (length (labels past)) (in_force n (hypothesis_moves past))
unfolding in_force hypothesis_moves labels
active_low n [] = tt
active_low n (constant t m ∷ past) = active_low n past
active_low n (variable t m ∷ past) = active_low n past
active_low n (distinct ss ∷ past) = active_low n past
active_low zero (float l ss d ∷ past) = one_hypothesis (labels past) l (in_force zero (hypothesis_moves past)) (active_low zero past)
active_low (suc n) (float l ss d ∷ past) = one_label (labels past) l (in_force (suc n) (hypothesis_moves past)) (active_low (suc n) past)
active_low zero (essential l ss d ∷ past) = one_hypothesis (labels past) l (in_force zero (hypothesis_moves past)) (active_low zero past)
active_low (suc n) (essential l ss d ∷ past) = one_label (labels past) l (in_force (suc n) (hypothesis_moves past)) (active_low (suc n) past)
active_low zero (asserted l ss d ∷ past) = one_label (labels past) l (in_force zero (hypothesis_moves past)) (active_low zero past)
active_low (suc n) (asserted l ss d ∷ past) = one_label (labels past) l (in_force (suc n) (hypothesis_moves past)) (active_low (suc n) past)
active_low zero (theorem l ss from to d ∷ past) = one_label (labels past) l (in_force zero (hypothesis_moves past)) (active_low zero past)
active_low (suc n) (theorem l ss from to d ∷ past) = one_label (labels past) l (in_force (suc n) (hypothesis_moves past)) (active_low (suc n) past)
active_low zero (opened p ∷ past) = active_low zero past
active_low (suc n) (opened p ∷ past) = active_low n past
active_low n (closed ∷ past) = active_low (suc n) past

within : (n k : ℕ) → nat_le n k ≡ true → n ≤ k
within n k h = grind (arith, h)

before_low : (id : ℕ) (past : List Event) → length (labels (past_before id past)) ≤ id
unfolding past_before labels
before_low id [] = omega arith
before_low id (e ∷ past) = by (nat_le (length (labels (e ∷ past))) id) refl (before_low id past)
  where
    by : (b : Bool) → nat_le (length (labels (e ∷ past))) id ≡ b → length (labels (past_before id past)) ≤ id → length (labels (cond b (e ∷ past) (past_before id past))) ≤ id
    by true h low = within (length (labels (e ∷ past))) id h
    by false h low = low

pub active_own : (bytes : List ℕ) (id : ℕ) → id < length (labels_of bytes) → All (λ m. m < length (labels_of bytes)) (active_at bytes id)
unfolding active_at
active_own bytes id h =
    let past = past_before id (events_of bytes) in
    let low : length (labels past) ≤ length (labels_of bytes) = (let b = before_low id (events_of bytes) in omega (arith, b, h)) in
    All-from_recursion (λ m. m < length (labels_of bytes)) (in_force zero (hypothesis_moves past)) (raised (length (labels past)) (length (labels_of bytes)) (in_force zero (hypothesis_moves past)) low (active_low zero past))

each : {P : ℕ → Type 0} (n : ℕ) (xs : List ℕ) → ((id : ℕ) → id < n → P id) → Low n xs → AllByRecursion P xs
each n [] h low = tt
each n (x ∷ xs) h low = (h x low.0, each n xs h low.1)

stated_as : (f : ℕ → WSym) (xs : List ℕ) → 0 < length xs → (code : WSym) × (text : List WSym) × (map f xs ≡ code ∷ text)
stated_as f [] h = absurd (omega (arith, h))
stated_as f (x ∷ xs) h = (f x, map f xs, refl)

is_stated : (bytes : List ℕ) (id : ℕ) → 0 < length (stated_at bytes id).symbols → IsStatedAs bytes id
unfolding statement_of
is_stated bytes id h = stated_as (symbol_of bytes) (stated_at bytes id).symbols h

pub active_stated : (bytes : List ℕ) → ((id : ℕ) → id < length (labels_of bytes) → IsFormed bytes id) → (at : ℕ) → at < length (labels_of bytes) → All (IsStatedAs bytes) (active_at bytes at)
active_stated bytes formed at h =
    All-from_recursion (IsStatedAs bytes) (active_at bytes at)
    (each (length (labels_of bytes)) (active_at bytes at) (λ id own. is_stated bytes id (formed id own).some) (recursion_from_All (λ m. m < length (labels_of bytes)) (active_at bytes at) (active_own bytes at h)))
