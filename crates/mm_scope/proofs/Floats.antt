-- The active `$f` and `$e`, by looking back.
use Rattle.std.proofs.Common.{◌≡◌, ℕ, zero, suc, ◌≤◌, ◌<◌, Bool, true, false, cond, ◌&&◌, ◌||◌, List, [], ◌∷◌, ◌++◌, Option, length, filter, nat_eq, slice_index, refl, sym, ap, ◌∙◌, subst, arith, length-append}
use Rattle.std.proofs.lemmas.Bool.{eqb-true, true≢false, false≢true, or_left, or_right}
use Rattle.std.proofs.lemmas.List.{get_or_append_left}
use Rattle.std.proofs.Math.Seq.{get_or-append_seam}
use Rattle.std.specs.List.{list_any}
use Rattle.mm_tokens.specs.declared.pieces.Span.{Span}
use Rattle.mm_tables.specs.Moves.{Move, in_force}
use Rattle.mm_tables.specs.Moves as move
use Rattle.mm_scope.specs.Events.{Event, constant, variable, float, essential, asserted, theorem, distinct, opened, closed, labels, statements, hypothesis_moves, active_hypotheses}
use Rattle.mm_scope.specs.Looks.{moves, is_floated_of}
use Rattle.mm_stated.specs.Mandatory.{statement_at}
use Rattle.mm_stated.specs.Stated.{Stated, no_statement, a_hypothesis, is_essential, is_same_kind}
use Rattle.mm_stated.specs.declared.statement.Kind.TheVariants as kind
use Rattle.mm_scope.specs.declared.ending.Ending.TheVariants.{Active, Floated}
use Rattle.mm_scope.proofs.Booleans.{list_any-append}
use Rattle.mm_scope.proofs.Declared.{any_pushed, or_false}
use Rattle.mm_stated.proofs.Rising.{Rises, rises_push}

-- blocks, and the `$e` that end with them, by id
unfoldable pub essential_moves : List Event → List (Move ℕ)
essential_moves [] = []
essential_moves (essential l ss d ∷ past) = move.item (length (labels past) ∷ []) ∷ essential_moves past
essential_moves (opened p ∷ past) = move.opened ∷ essential_moves past
essential_moves (closed ∷ past) = move.closed ∷ essential_moves past
essential_moves (_ ∷ past) = essential_moves past

-- the id of the last `$f` with a variable, active or not
unfoldable pub last_float : List Event → ℕ → ℕ
last_float [] v = 0
last_float (float l ss d ∷ past) v = cond (nat_eq v (slice_index ss 1)) (length (labels past)) (last_float past v)
last_float (_ ∷ past) v = last_float past v

-- whether the statement with an id is a `$f` with a variable
abbrev pub floats_it : List Stated → ℕ → ℕ → Bool
floats_it ss k v = is_same_kind kind.Float (statement_at ss k).kind && nat_eq (slice_index (statement_at ss k).symbols 1) v

-- all are below n
abbrev pub Low : ℕ → List ℕ → Type 0
Low n [] = Unit {0}
Low n (x ∷ xs) = (x < n) × Low n xs

pub raised : (m n : ℕ) (xs : List ℕ) → m ≤ n → Low m xs → Low n xs
raised m n [] h low = tt
raised m n (x ∷ xs) h low = (omega (arith, h, low.0), raised m n xs h low.1)

low_push : (n x : ℕ) (xs : List ℕ) → x < n → Low n xs → Low n (xs ++ x ∷ [])
low_push n x [] h low = (h, tt)
low_push n x (y ∷ ys) h low = (low.0, low_push n x ys h low.1)

pub low_any : (n k : ℕ) (xs : List ℕ) → Low n xs → list_any (nat_eq k) xs ≡ true → k < n
low_any n k [] low on = absurd (false≢true on)
low_any n k (x ∷ xs) low on = by (nat_eq k x) refl (low_any n k xs low.1)
  where
    by : (b : Bool) → nat_eq k x ≡ b → (list_any (nat_eq k) xs ≡ true → k < n) → k < n
    by true e later = let same : k ≡ x = eqb-true k x e in omega (arith, same, low.0)
    by false e later = later (ap (λ b. b || list_any (nat_eq k) xs) (sym e) ∙ on)

any_low : (p q : ℕ → Bool) (n : ℕ) (xs : List ℕ) → Low n xs → ((k : ℕ) → k < n → p k ≡ q k) → list_any p xs ≡ list_any q xs
any_low p q n [] low same = refl
any_low p q n (x ∷ xs) low same = ap (λ b. b || list_any p xs) (same x low.0) ∙ ap (λ b. q x || b) (any_low p q n xs low.1 same)

filter_low : (p q : ℕ → Bool) (n : ℕ) (xs : List ℕ) → Low n xs → ((k : ℕ) → k < n → p k ≡ q k) → filter p xs ≡ filter q xs
filter_low p q n [] low same = refl
filter_low p q n (x ∷ xs) low same =
    ap (λ b. cond b (x ∷ filter p xs) (filter p xs)) (same x low.0) ∙ ap (λ ys. cond (q x) (x ∷ ys) ys) (filter_low p q n xs low.1 same)

filter_push : (p : ℕ → Bool) (xs : List ℕ) (x : ℕ) → filter p (xs ++ x ∷ []) ≡ filter p xs ++ cond (p x) (x ∷ []) []
filter_push p [] x = refl
filter_push p (y ∷ ys) x = by (p y) (filter_push p ys x)
  where
    by : (b : Bool) → filter p (ys ++ x ∷ []) ≡ filter p ys ++ cond (p x) (x ∷ []) []
        → cond b (y ∷ filter p (ys ++ x ∷ [])) (filter p (ys ++ x ∷ [])) ≡ cond b (y ∷ filter p ys) (filter p ys) ++ cond (p x) (x ∷ []) []
    by true rest = ap (λ zs. y ∷ zs) rest
    by false rest = rest

pub one_more : (ls : List (List ℕ)) (l : List ℕ) → length ls ≤ length (ls ++ l ∷ [])
one_more ls l = omega (arith, length-append ls (l ∷ []))

last_low : (ls : List (List ℕ)) (l : List ℕ) → length ls < length (ls ++ l ∷ [])
last_low ls l = omega (arith, length-append ls (l ∷ []))

-- hypotheses have rising ids, below the number of labels
abbrev pub RisesLow : ℕ → List ℕ → Type 0
RisesLow n xs = Rises 0 xs × Low n xs

more_labels : (ls : List (List ℕ)) (l : List ℕ) (xs : List ℕ) → RisesLow (length ls) xs → RisesLow (length (ls ++ l ∷ [])) xs
more_labels ls l xs r = (r.0, raised (length ls) (length (ls ++ l ∷ [])) xs (one_more ls l) r.1)

one_hypothesis : (ls : List (List ℕ)) (l : List ℕ) (xs : List ℕ) → RisesLow (length ls) xs → RisesLow (length (ls ++ l ∷ [])) (xs ++ length ls ∷ [])
one_hypothesis ls l xs r = (
  rises_push (length ls) 0 xs (omega arith) r.0 (λ k on. low_any (length ls) k xs r.1 on),
  low_push (length (ls ++ l ∷ [])) (length ls) xs (last_low ls l) (more_labels ls l xs r).1,
)

pub active_rises : (n : ℕ) (past : List Event) → RisesLow (length (labels past)) (in_force n (hypothesis_moves past))
unfolding in_force hypothesis_moves labels
active_rises n [] = (tt, tt)
active_rises n (constant t m ∷ past) = active_rises n past
active_rises n (variable t m ∷ past) = active_rises n past
active_rises n (distinct ss ∷ past) = active_rises n past
active_rises zero (float l ss d ∷ past) = one_hypothesis (labels past) l (in_force zero (hypothesis_moves past)) (active_rises zero past)
active_rises (suc n) (float l ss d ∷ past) = more_labels (labels past) l (in_force (suc n) (hypothesis_moves past)) (active_rises (suc n) past)
active_rises zero (essential l ss d ∷ past) = one_hypothesis (labels past) l (in_force zero (hypothesis_moves past)) (active_rises zero past)
active_rises (suc n) (essential l ss d ∷ past) = more_labels (labels past) l (in_force (suc n) (hypothesis_moves past)) (active_rises (suc n) past)
active_rises zero (asserted l ss d ∷ past) = more_labels (labels past) l (in_force zero (hypothesis_moves past)) (active_rises zero past)
active_rises (suc n) (asserted l ss d ∷ past) = more_labels (labels past) l (in_force (suc n) (hypothesis_moves past)) (active_rises (suc n) past)
active_rises zero (theorem l ss from to d ∷ past) = more_labels (labels past) l (in_force zero (hypothesis_moves past)) (active_rises zero past)
active_rises (suc n) (theorem l ss from to d ∷ past) = more_labels (labels past) l (in_force (suc n) (hypothesis_moves past)) (active_rises (suc n) past)
active_rises zero (opened p ∷ past) = active_rises zero past
active_rises (suc n) (opened p ∷ past) = active_rises n past
active_rises n (closed ∷ past) = active_rises (suc n) past

-- there are as many statements as labels
both_more : (ss : List Stated) (x : Stated) (ls : List (List ℕ)) (l : List ℕ) → length ss ≡ length ls → length (ss ++ x ∷ []) ≡ length (ls ++ l ∷ [])
both_more ss x ls l same = omega (arith, length-append ss (x ∷ []), length-append ls (l ∷ []), same)

pub counted : (past : List Event) → length (statements past) ≡ length (labels past)
unfolding statements labels
counted [] = refl
counted (constant t m ∷ past) = counted past
counted (variable t m ∷ past) = counted past
counted (distinct ss ∷ past) = counted past
counted (opened p ∷ past) = counted past
counted (closed ∷ past) = counted past
counted (float l ss d ∷ past) = both_more (statements past) _ (labels past) l (counted past)
counted (essential l ss d ∷ past) = both_more (statements past) _ (labels past) l (counted past)
counted (asserted l ss d ∷ past) = both_more (statements past) _ (labels past) l (counted past)
counted (theorem l ss from to d ∷ past) = both_more (statements past) _ (labels past) l (counted past)

-- an earlier statement, and the new one
pub kept_at : (past : List Event) (x : Stated) (k : ℕ) → k < length (labels past) → statement_at (statements past ++ x ∷ []) k ≡ statement_at (statements past) k
kept_at past x k h = get_or_append_left (statements past) (x ∷ []) no_statement k (omega (arith, h, counted past))

pub new_at : (past : List Event) (x : Stated) → statement_at (statements past ++ x ∷ []) (length (labels past)) ≡ x
new_at past x = subst (λ n. statement_at (statements past ++ x ∷ []) n ≡ x) (counted past) (get_or-append_seam (statements past) x [] no_statement)

still_floats : (past : List Event) (x : Stated) (k v : ℕ) → k < length (labels past) → floats_it (statements past ++ x ∷ []) k v ≡ floats_it (statements past) k v
still_floats past x k v h = ap (λ s. is_same_kind kind.Float s.kind && nat_eq (slice_index s.symbols 1) v) (kept_at past x k h)

new_floats : (past : List Event) (x : Stated) (v : ℕ) → floats_it (statements past ++ x ∷ []) (length (labels past)) v ≡ (is_same_kind kind.Float x.kind && nat_eq (slice_index x.symbols 1) v)
new_floats past x v = ap (λ s. is_same_kind kind.Float s.kind && nat_eq (slice_index s.symbols 1) v) (new_at past x)

-- a variable has an active `$f` where one of the active hypotheses is one
abbrev pub any_floats : List Event → List Stated → ℕ → ℕ → Bool
any_floats past ss v n = list_any (λ k. floats_it ss k v) (in_force n (hypothesis_moves past))

any_still : (past : List Event) (x : Stated) (v n : ℕ) → any_floats past (statements past ++ x ∷ []) v n ≡ any_floats past (statements past) v n
any_still past x v n = any_low _ _ (length (labels past)) (in_force n (hypothesis_moves past)) (active_rises n past).1 (λ k h. still_floats past x k v h)

any_new : (past : List Event) (x : Stated) (v : ℕ) (b : Bool) → (is_same_kind kind.Float x.kind && nat_eq (slice_index x.symbols 1) v) ≡ b
    → list_any (λ k. floats_it (statements past ++ x ∷ []) k v) (in_force zero (hypothesis_moves past) ++ length (labels past) ∷ []) ≡ (any_floats past (statements past) v zero || b)
any_new past x v b e =
    any_pushed (λ k. floats_it (statements past ++ x ∷ []) k v) (in_force zero (hypothesis_moves past)) (length (labels past))
    ∙ ap (λ a. a || floats_it (statements past ++ x ∷ []) (length (labels past)) v) (any_still past x v zero)
    ∙ ap (λ a. any_floats past (statements past) v zero || a) (new_floats past x v ∙ e)

flipped : (m n : ℕ) → nat_eq m n ≡ nat_eq n m
flipped m n = grind arith

pub floated_as : (v n : ℕ) (past : List Event) → list_any (is_floated_of v) (in_force n (moves past)) ≡ any_floats past (statements past) v n
unfolding in_force moves hypothesis_moves statements
floated_as v n [] = refl
floated_as v n (constant t m ∷ past) = floated_as v n past
floated_as v zero (variable t m ∷ past) =
    any_pushed (is_floated_of v) (in_force zero (moves past)) (Active m) ∙ or_false (list_any (is_floated_of v) (in_force zero (moves past))) ∙ floated_as v zero past
floated_as v (suc n) (variable t m ∷ past) = floated_as v (suc n) past
floated_as v n (distinct ss ∷ past) = floated_as v n past
floated_as v zero (float l ss d ∷ past) =
    any_pushed (is_floated_of v) (in_force zero (moves past)) (Floated (slice_index ss 1))
    ∙ ap (λ a. a || nat_eq v (slice_index ss 1)) (floated_as v zero past)
    ∙ sym (any_new past (a_hypothesis kind.Float ss d) v (nat_eq v (slice_index ss 1)) (flipped (slice_index ss 1) v))
floated_as v (suc n) (float l ss d ∷ past) = floated_as v (suc n) past ∙ sym (any_still past _ v (suc n))
floated_as v zero (essential l ss d ∷ past) =
    floated_as v zero past ∙ sym (or_false (any_floats past (statements past) v zero)) ∙ sym (any_new past (a_hypothesis kind.Essential ss d) v false refl)
floated_as v (suc n) (essential l ss d ∷ past) = floated_as v (suc n) past ∙ sym (any_still past _ v (suc n))
floated_as v zero (asserted l ss d ∷ past) = floated_as v zero past ∙ sym (any_still past _ v zero)
floated_as v (suc n) (asserted l ss d ∷ past) = floated_as v (suc n) past ∙ sym (any_still past _ v (suc n))
floated_as v zero (theorem l ss from to d ∷ past) = floated_as v zero past ∙ sym (any_still past _ v zero)
floated_as v (suc n) (theorem l ss from to d ∷ past) = floated_as v (suc n) past ∙ sym (any_still past _ v (suc n))
floated_as v zero (opened p ∷ past) = floated_as v zero past
floated_as v (suc n) (opened p ∷ past) = floated_as v n past
floated_as v n (closed ∷ past) = floated_as v (suc n) past

-- the active `$e` are those among the active hypotheses
abbrev pub essentials_in : List Stated → List ℕ → List ℕ
essentials_in ss xs = filter (λ k. is_essential (statement_at ss k).kind) xs

in_still : (past : List Event) (x : Stated) (n : ℕ) → essentials_in (statements past ++ x ∷ []) (in_force n (hypothesis_moves past)) ≡ essentials_in (statements past) (in_force n (hypothesis_moves past))
in_still past x n = filter_low _ _ (length (labels past)) (in_force n (hypothesis_moves past)) (active_rises n past).1 (λ k h. ap (λ s. is_essential s.kind) (kept_at past x k h))

in_new : (past : List Event) (x : Stated) (b : Bool) → is_essential x.kind ≡ b
    → essentials_in (statements past ++ x ∷ []) (in_force zero (hypothesis_moves past) ++ length (labels past) ∷ [])
    ≡ essentials_in (statements past) (in_force zero (hypothesis_moves past)) ++ cond b (length (labels past) ∷ []) []
in_new past x b e =
    filter_push _ (in_force zero (hypothesis_moves past)) (length (labels past))
    ∙ ap (λ xs. xs ++ cond (is_essential (statement_at (statements past ++ x ∷ []) (length (labels past))).kind) (length (labels past) ∷ []) []) (in_still past x zero)
    ∙ ap (λ a. essentials_in (statements past) (in_force zero (hypothesis_moves past)) ++ cond a (length (labels past) ∷ []) []) (ap (λ s. is_essential s.kind) (new_at past x) ∙ e)

no_more : (xs : List ℕ) → xs ≡ xs ++ []
no_more [] = refl
no_more (x ∷ xs) = ap (λ ys. x ∷ ys) (no_more xs)

pub essentials_as : (n : ℕ) (past : List Event) → in_force n (essential_moves past) ≡ essentials_in (statements past) (in_force n (hypothesis_moves past))
unfolding in_force essential_moves hypothesis_moves statements
essentials_as n [] = refl
essentials_as n (constant t m ∷ past) = essentials_as n past
essentials_as n (variable t m ∷ past) = essentials_as n past
essentials_as n (distinct ss ∷ past) = essentials_as n past
essentials_as zero (float l ss d ∷ past) =
    essentials_as zero past ∙ no_more (essentials_in (statements past) (in_force zero (hypothesis_moves past))) ∙ sym (in_new past (a_hypothesis kind.Float ss d) false refl)
essentials_as (suc n) (float l ss d ∷ past) = essentials_as (suc n) past ∙ sym (in_still past _ (suc n))
essentials_as zero (essential l ss d ∷ past) =
    ap (λ xs. xs ++ length (labels past) ∷ []) (essentials_as zero past) ∙ sym (in_new past (a_hypothesis kind.Essential ss d) true refl)
essentials_as (suc n) (essential l ss d ∷ past) = essentials_as (suc n) past ∙ sym (in_still past _ (suc n))
essentials_as zero (asserted l ss d ∷ past) = essentials_as zero past ∙ sym (in_still past _ zero)
essentials_as (suc n) (asserted l ss d ∷ past) = essentials_as (suc n) past ∙ sym (in_still past _ (suc n))
essentials_as zero (theorem l ss from to d ∷ past) = essentials_as zero past ∙ sym (in_still past _ zero)
essentials_as (suc n) (theorem l ss from to d ∷ past) = essentials_as (suc n) past ∙ sym (in_still past _ (suc n))
essentials_as zero (opened p ∷ past) = essentials_as zero past
essentials_as (suc n) (opened p ∷ past) = essentials_as n past
essentials_as n (closed ∷ past) = essentials_as (suc n) past

-- where a block is closed no more is in force
pub fewer : (p : ℕ → Bool) (n : ℕ) (ms : List (Move ℕ)) → list_any p (in_force (suc n) ms) ≡ true → list_any p (in_force n ms) ≡ true
unfolding in_force
fewer p n [] on = on
fewer p n (move.closed ∷ ms) on = fewer p (suc n) ms on
fewer p zero (move.opened ∷ ms) on = on
fewer p (suc n) (move.opened ∷ ms) on = fewer p n ms on
fewer p zero (move.item xs ∷ ms) on = list_any-append p (in_force zero ms) xs ∙ or_left (list_any p (in_force zero ms)) (list_any p xs) (fewer p zero ms on)
fewer p (suc n) (move.item xs ∷ ms) on = fewer p (suc n) ms on
fewer p zero (move.noted ∷ ms) on = fewer p zero ms on
fewer p (suc n) (move.noted ∷ ms) on = fewer p (suc n) ms on

pub any_of : (p : ℕ → Bool) (k : ℕ) (xs : List ℕ) → list_any (nat_eq k) xs ≡ true → p k ≡ true → list_any p xs ≡ true
any_of p k [] on it = absurd (false≢true on)
any_of p k (x ∷ xs) on it = by (nat_eq k x) refl (λ rest. any_of p k xs rest it)
  where
    by : (b : Bool) → nat_eq k x ≡ b → (list_any (nat_eq k) xs ≡ true → list_any p xs ≡ true) → list_any p (x ∷ xs) ≡ true
    by true e later = or_left (p x) (list_any p xs) (ap p (sym (eqb-true k x e)) ∙ it)
    by false e later = or_right (p x) (list_any p xs) (later (ap (λ b. b || list_any (nat_eq k) xs) (sym e) ∙ on))

-- the last `$f` of a variable is the active one
abbrev pub FloatsKnown : List Event → Type 0
FloatsKnown past = (k v : ℕ) → list_any (nat_eq k) (active_hypotheses past) ≡ true → floats_it (statements past) k v ≡ true → last_float past v ≡ k

pub known_closed : (past : List Event) → FloatsKnown past → FloatsKnown (closed ∷ past)
unfolding in_force hypothesis_moves statements last_float
known_closed past known k v on it = known k v (fewer (nat_eq k) zero (hypothesis_moves past) on) it

pub known_opened : (past : List Event) (p : ℕ) → FloatsKnown past → FloatsKnown (opened p ∷ past)
unfolding in_force hypothesis_moves statements last_float
known_opened past p known = known

low_of : (past : List Event) (k : ℕ) → list_any (nat_eq k) (active_hypotheses past) ≡ true → k < length (labels past)
low_of past k on = low_any (length (labels past)) k (active_hypotheses past) (active_rises zero past).1 on

known_still : (past : List Event) (x : Stated) → FloatsKnown past → (k v : ℕ) → list_any (nat_eq k) (active_hypotheses past) ≡ true → floats_it (statements past ++ x ∷ []) k v ≡ true → last_float past v ≡ k
known_still past x known k v on it = known k v on (sym (still_floats past x k v (low_of past k on)) ∙ it)

pub known_asserted : (past : List Event) (l ss : List ℕ) (d : Option Span) → FloatsKnown past → FloatsKnown (asserted l ss d ∷ past)
unfolding in_force hypothesis_moves statements last_float
known_asserted past l ss d known k v on it = known_still past _ known k v on it

pub known_theorem : (past : List Event) (l ss : List ℕ) (from to : ℕ) (d : Option Span) → FloatsKnown past → FloatsKnown (theorem l ss from to d ∷ past)
unfolding in_force hypothesis_moves statements last_float
known_theorem past l ss from to d known k v on it = known_still past _ known k v on it

either : (a b : Bool) → (a || b) ≡ true → b ≡ false → a ≡ true
either true b h e = refl
either false b h e = absurd (false≢true (sym e ∙ h))

-- the new hypothesis, or one that was active
of_both : (past : List Event) (x : Stated) (k : ℕ) (P : Type 0) → list_any (nat_eq k) (active_hypotheses past ++ length (labels past) ∷ []) ≡ true
    → (k ≡ length (labels past) → P) → (list_any (nat_eq k) (active_hypotheses past) ≡ true → P) → P
of_both past x k P on new old = by (nat_eq k (length (labels past))) refl
  where
    by : (b : Bool) → nat_eq k (length (labels past)) ≡ b → P
    by true e = new (eqb-true k (length (labels past)) e)
    by false e = old (either (list_any (nat_eq k) (active_hypotheses past)) (nat_eq k (length (labels past))) (sym (any_pushed (nat_eq k) (active_hypotheses past) (length (labels past))) ∙ on) e)

pub known_essential : (past : List Event) (l ss : List ℕ) (d : Option Span) → FloatsKnown past → FloatsKnown (essential l ss d ∷ past)
unfolding in_force hypothesis_moves statements last_float
known_essential past l ss d known k v on it =
    let x : Stated = a_hypothesis kind.Essential ss d in
    of_both past x k (last_float past v ≡ k) on
    (λ e. absurd (false≢true (sym (new_floats past x v) ∙ ap (λ j. floats_it (statements past ++ x ∷ []) j v) (sym e) ∙ it)))
    (λ old. known_still past x known k v old it)

pub known_float : (past : List Event) (l ss : List ℕ) (d : Option Span) → list_any (is_floated_of (slice_index ss 1)) (in_force zero (moves past)) ≡ false
    → FloatsKnown past → FloatsKnown (float l ss d ∷ past)
unfolding in_force hypothesis_moves statements last_float
known_float past l ss d free known k v on it =
    of_both past x k (cond (nat_eq v w) (length (labels past)) (last_float past v) ≡ k) on
    (λ e. let same : w ≡ v = eqb-true w v (sym (new_floats past x v) ∙ ap (λ j. floats_it (statements past ++ x ∷ []) j v) (sym e) ∙ it) in
    ap (λ b. cond b (length (labels past)) (last_float past v)) (flipped v w ∙ ap (nat_eq w) (sym same) ∙ itself w) ∙ sym e)
    (λ old. by (nat_eq v w) refl old (sym (still_floats past x k v (low_of past k old)) ∙ it))
  where
    w : ℕ
    w = slice_index ss 1

    x : Stated
    x = a_hypothesis kind.Float ss d

    itself : (n : ℕ) → nat_eq n n ≡ true
    itself n = grind arith

    by : (b : Bool) → nat_eq v w ≡ b → list_any (nat_eq k) (active_hypotheses past) ≡ true → floats_it (statements past) k v ≡ true → cond b (length (labels past)) (last_float past v) ≡ k
    by true e old floats =
        absurd (true≢false (sym (any_of (λ j. floats_it (statements past) j v) k (active_hypotheses past) old floats) ∙ sym (floated_as v zero past)
        ∙ ap (λ m. list_any (is_floated_of m) (in_force zero (moves past))) (eqb-true v w e) ∙ free))
    by false e old floats = known k v old floats
