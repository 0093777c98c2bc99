-- A symbol's number is the place of its text, now and later.
use Rattle.std.proofs.Common.{◌≡◌, ◌≢◌, ◌<◌, ℕ, Bool, true, false, cond, ◌||◌, List, [], ◌∷◌, ◌++◌, Option, None, Some, length, position, slice_get, get_or, nat_eq, refl, sym, ap, ◌∙◌, arith, length-append, append-nil, append_assoc, inl, inr}
use Rattle.std.proofs.Math.Seq.{get_or-append_seam}
use Rattle.std.proofs.lemmas.Bool.{eqb-true, true≢false, false≢true, cases_lt, or_from, or_right, false_from_ne_true}
use Rattle.std.proofs.lemmas.List.{get_or_append_left}
use Rattle.std.proofs.lemmas.List.Folds.{list_any_at}
use Rattle.std.proofs.lemmas.List.Quantifiers.{position-Some}
use Rattle.std.proofs.lemmas.Option.{slice_get_within, slice_get-get_or, get_or_from_slice_get}
use Rattle.std.proofs.lemmas.Slice.Eq.{bytes_eq-Decides}
use Rattle.std.specs.List.{list_any}
use Rattle.std.specs.Str.{bytes_eq}
use Rattle.mm_tables.specs.Texts.{with_text}
use Rattle.mm_scope.specs.Events.{Event, constant, variable, float, essential, asserted, theorem, distinct, opened, closed, symbols}
use Rattle.mm_scope.specs.Laws.{IsInScope}
use Rattle.mm_scope.specs.Looks.{look_back, known_as, constants}
use Rattle.mm_grammar.specs.Rules.{IsNew, FollowsRules}
use Rattle.mm_grammar.proofs.Known.{not_there}
use Rattle.mm_grammar.proofs.Answering.{grows}
use Rattle.mm_grammar.proofs.Scoping.{is_constant}

-- no two texts are the same
abbrev AreDistinct : List (List ℕ) → Type 0
AreDistinct ts = (i j : ℕ) → i < j → j < length ts → get_or ts i [] ≢ get_or ts j []

is_itself : (t u : List ℕ) → t ≡ u → bytes_eq t u ≡ true
is_itself t u e = (bytes_eq-Decides t u).1 e

distinct_more : (ts : List (List ℕ)) (t : List ℕ) → AreDistinct ts → list_any (bytes_eq t) ts ≡ false → AreDistinct (ts ++ t ∷ [])
distinct_more ts t d new i j less small = elim (cases_lt j (length ts)) [
  | inl within ↦ λ e. d i j less within
      (sym (get_or_append_left ts (t ∷ []) [] i (omega (arith, less, within))) ∙ e ∙ get_or_append_left ts (t ∷ []) [] j within)
  | inr past ↦ λ e.
      let last : length ts ≡ j = omega (arith, length-append ts (t ∷ []), small, past) in
      let before : i < length ts = omega (arith, less, last) in
      let at_end : get_or (ts ++ t ∷ []) j [] ≡ t = ap (λ k. get_or (ts ++ t ∷ []) k []) (sym last) ∙ get_or-append_seam ts t [] [] in
      let same : get_or ts i [] ≡ t = sym (get_or_append_left ts (t ∷ []) [] i before) ∙ e ∙ at_end in
      absurd (true≢false (sym (list_any_at (bytes_eq t) ts i [] before (is_itself t (get_or ts i []) (sym same))) ∙ new))
]

with_distinct : (ts : List (List ℕ)) (t : List ℕ) → AreDistinct ts → AreDistinct (with_text ts t)
with_distinct ts t d = by (list_any (bytes_eq t) ts) refl
  where
    by : (b : Bool) → list_any (bytes_eq t) ts ≡ b → AreDistinct (cond b ts (ts ++ t ∷ []))
    by true e = d
    by false e = distinct_more ts t d e

distinct_symbols : (past : List Event) → AreDistinct (symbols past)
unfolding symbols
distinct_symbols [] = λ i j less small. absurd (omega (arith, small))
distinct_symbols (constant t n ∷ past) = with_distinct (symbols past) t (distinct_symbols past)
distinct_symbols (variable t n ∷ past) = with_distinct (symbols past) t (distinct_symbols past)
distinct_symbols (float l ss d ∷ past) = distinct_symbols past
distinct_symbols (essential l ss d ∷ past) = distinct_symbols past
distinct_symbols (asserted l ss d ∷ past) = distinct_symbols past
distinct_symbols (theorem l ss from to d ∷ past) = distinct_symbols past
distinct_symbols (distinct ss ∷ past) = distinct_symbols past
distinct_symbols (opened p ∷ past) = distinct_symbols past
distinct_symbols (closed ∷ past) = distinct_symbols past

-- so a text at a place is found there
place_by : (ts : List (List ℕ)) (t : List ℕ) (n : ℕ) → AreDistinct ts → slice_get ts n ≡ Some t → (r : Option ℕ) → position (bytes_eq t) ts ≡ r → r ≡ Some n
place_by ts t n d e None h =
    absurd (true≢false (sym (list_any_at (bytes_eq t) ts n [] (slice_get_within ts n t e) (is_itself t (get_or ts n []) (sym (get_or_from_slice_get ts n t [] e)))) ∙ not_there (bytes_eq t) ts h))
place_by ts t n d e (Some m) h =
    let found = position-Some (bytes_eq t) ts m [] h in
    let at_m : get_or ts m [] ≡ t = sym ((bytes_eq-Decides t (get_or ts m [])).0 found.1) in
    let at_n : get_or ts n [] ≡ t = get_or_from_slice_get ts n t [] e in
    elim (cases_lt m n) [
      | inl less ↦ absurd (d m n less (slice_get_within ts n t e) (at_m ∙ sym at_n))
      | inr more ↦ elim (cases_lt n m) [
        | inl less ↦ absurd (d n m less found.0 (at_n ∙ sym at_m))
        | inr same ↦ ap Some (omega (arith, more, same))
      ]
    ]

pub found_now : (past : List Event) (t : List ℕ) (n : ℕ) → slice_get (symbols past) n ≡ Some t → position (bytes_eq t) (symbols past) ≡ Some n
found_now past t n e = place_by (symbols past) t n (distinct_symbols past) e (position (bytes_eq t) (symbols past)) refl

pub known_now : (past : List Event) (t : List ℕ) (n : ℕ) → slice_get (symbols past) n ≡ Some t → look_back past t ≡ known_as past t (Some n)
known_now past t n e = ap (known_as past t) (found_now past t n e)

-- a new text is not found
pub unknown_now : (past : List Event) (t : List ℕ) → IsNew (symbols past) t → look_back past t ≡ known_as past t None
unknown_now past t new = ap (known_as past t) (by (position (bytes_eq t) (symbols past)) refl)
  where
    by : (r : Option ℕ) → position (bytes_eq t) (symbols past) ≡ r → r ≡ None
    by None e = refl
    by (Some m) e = let found = position-Some (bytes_eq t) (symbols past) m [] e in absurd (true≢false (sym (list_any_at (bytes_eq t) (symbols past) m [] found.0 found.1) ∙ new))

last_place : (ts : List (List ℕ)) (t : List ℕ) (n : ℕ) → AreDistinct (ts ++ t ∷ []) → slice_get (ts ++ t ∷ []) n ≡ Some t → n ≡ length ts
last_place ts t n d e = same (place_by (ts ++ t ∷ []) t n d e (Some (length ts)) (place_by (ts ++ t ∷ []) t (length ts) d at_end (position (bytes_eq t) (ts ++ t ∷ [])) refl))
  where
    at_end : slice_get (ts ++ t ∷ []) (length ts) ≡ Some t
    at_end = slice_get-get_or (ts ++ t ∷ []) (length ts) [] (omega (arith, length-append ts (t ∷ []))) ∙ ap Some (get_or-append_seam ts t [] [])

    value : Option ℕ → ℕ
    value None = 0
    value (Some k) = k

    same : Some (length ts) ≡ Some n → n ≡ length ts
    same h = sym (ap value h)

-- a symbol that is declared gets its number
pub declared_now : (past : List Event) (t : List ℕ) (n : ℕ) → slice_get (with_text (symbols past) t) n ≡ Some t → (look_back past t).number ≡ n
declared_now past t n = by (list_any (bytes_eq t) (symbols past)) refl
  where
    by : (b : Bool) → list_any (bytes_eq t) (symbols past) ≡ b → slice_get (cond b (symbols past) (symbols past ++ t ∷ [])) n ≡ Some t → (look_back past t).number ≡ n
    by true e h = ap (λ a. a.number) (known_now past t n h)
    by false e h = ap (λ a. a.number) (unknown_now past t e) ∙ sym (last_place (symbols past) t n (distinct_more (symbols past) t (distinct_symbols past) e) h)

-- the symbols of a past are the first of those of what comes after it
record IsFirst (xs ys : List (List ℕ)) : Type 0 where
  rest : List (List ℕ)
  whole : ys ≡ xs ++ rest

first_further : (xs ys : List (List ℕ)) (t : List ℕ) → IsFirst xs ys → IsFirst xs (with_text ys t)
first_further xs ys t b = by (list_any (bytes_eq t) ys)
  where
    by : (is : Bool) → IsFirst xs (cond is ys (ys ++ t ∷ []))
    by true = b
    by false = record { rest = b.rest ++ t ∷ []; whole = ap (λ zs. zs ++ t ∷ []) b.whole ∙ append_assoc xs b.rest (t ∷ []) }

first_event : (xs : List (List ℕ)) (e : Event) (past : List Event) → IsFirst xs (symbols past) → IsFirst xs (symbols (e ∷ past))
unfolding symbols
first_event xs (constant t n) past b = first_further xs (symbols past) t b
first_event xs (variable t n) past b = first_further xs (symbols past) t b
first_event xs (float l ss d) past b = b
first_event xs (essential l ss d) past b = b
first_event xs (asserted l ss d) past b = b
first_event xs (theorem l ss from to d) past b = b
first_event xs (distinct ss) past b = b
first_event xs (opened p) past b = b
first_event xs closed past b = b

first_symbols : (later past : List Event) → IsFirst (symbols past) (symbols (later ++ past))
first_symbols [] past = record { rest = []; whole = sym (append-nil (symbols past)) }
first_symbols (e ∷ later) past = first_event (symbols past) e (later ++ past) (first_symbols later past)

-- so a number that is one of a past's symbols names the same text then
pub named_then : (later past : List Event) (n : ℕ) (t : List ℕ) → slice_get (symbols (later ++ past)) n ≡ Some t → n < length (symbols past) → slice_get (symbols past) n ≡ Some t
named_then later past n t e small =
    let f = first_symbols later past in
    slice_get-get_or (symbols past) n [] small
    ∙ ap Some (sym (get_or_append_left (symbols past) f.rest [] n small) ∙ ap (λ ts. get_or ts n []) (sym f.whole) ∙ get_or_from_slice_get (symbols (later ++ past)) n t [] e)

-- the numbers of the variables ever declared
abbrev ever : List Event → List ℕ
ever [] = []
ever (variable t n ∷ past) = n ∷ ever past
ever (_ ∷ past) = ever past

ever_in_scope : (n : ℕ) (t : List ℕ) (earlier later : List Event) → list_any (nat_eq n) (ever (later ++ variable t n ∷ earlier)) ≡ true
ever_in_scope n t earlier [] = ap (λ b. b || list_any (nat_eq n) (ever earlier)) (same n)
  where
    same : (k : ℕ) → nat_eq k k ≡ true
    same k = grind arith
ever_in_scope n t earlier (variable u m ∷ later) = or_right (nat_eq n m) (list_any (nat_eq n) (ever (later ++ variable t n ∷ earlier))) (ever_in_scope n t earlier later)
ever_in_scope n t earlier (constant u m ∷ later) = ever_in_scope n t earlier later
ever_in_scope n t earlier (float l ss d ∷ later) = ever_in_scope n t earlier later
ever_in_scope n t earlier (essential l ss d ∷ later) = ever_in_scope n t earlier later
ever_in_scope n t earlier (asserted l ss d ∷ later) = ever_in_scope n t earlier later
ever_in_scope n t earlier (theorem l ss from to d ∷ later) = ever_in_scope n t earlier later
ever_in_scope n t earlier (distinct ss ∷ later) = ever_in_scope n t earlier later
ever_in_scope n t earlier (opened p ∷ later) = ever_in_scope n t earlier later
ever_in_scope n t earlier (closed ∷ later) = ever_in_scope n t earlier later

either_or : (a b : Bool) → (a || b) ≡ true → (a ≡ false → b ≡ true)
either_or true b h g = absurd (true≢false g)
either_or false b h g = h

ever_within : (past : List Event) (n : ℕ) → FollowsRules past → list_any (nat_eq n) (ever past) ≡ true → n < length (symbols past)
unfolding symbols
ever_within [] n r h = absurd (false≢true h)
ever_within (variable t m ∷ past) n r h = by (nat_eq n m) refl h (ever_within past n r.1)
  where
    by : (b : Bool) → nat_eq n m ≡ b → (b || list_any (nat_eq n) (ever past)) ≡ true → (list_any (nat_eq n) (ever past) ≡ true → n < length (symbols past)) → n < length (with_text (symbols past) t)
    by true e g older = omega (arith, eqb-true n m e, slice_get_within (with_text (symbols past) t) m t r.0.named)
    by false e g older = omega (arith, older g, grows (variable t m) past)
ever_within (constant t m ∷ past) n r h = omega (arith, ever_within past n r.1 h, grows (constant t m) past)
ever_within (float l ss d ∷ past) n r h = ever_within past n r.1 h
ever_within (essential l ss d ∷ past) n r h = ever_within past n r.1 h
ever_within (asserted l ss d ∷ past) n r h = ever_within past n r.1 h
ever_within (theorem l ss from to d ∷ past) n r h = ever_within past n r.1 h
ever_within (distinct ss ∷ past) n r h = ever_within past n r.1 h
ever_within (opened p ∷ past) n r h = ever_within past n r.1 h
ever_within (closed ∷ past) n r h = ever_within past n r.1 h

-- no variable is a constant
never_constant : (past : List Event) (n : ℕ) → FollowsRules past → list_any (nat_eq n) (ever past) ≡ true → list_any (nat_eq n) (constants past) ≡ false
unfolding constants
never_constant [] n r h = absurd (false≢true h)
never_constant (constant t m ∷ past) n r h = or_from (nat_eq n m) (list_any (nat_eq n) (constants past)) (false_from_ne_true (nat_eq n m) (λ e. omega (arith, eqb-true n m e, last, ever_within past n r.1 h))) (never_constant past n r.1 h)
  where
    last : m ≡ length (symbols past)
    last = sym (declared_now past t m r.0.named) ∙ ap (λ a. a.number) (unknown_now past t r.0.symbol)
never_constant (variable t m ∷ past) n r h = by (nat_eq n m) refl (never_constant past n r.1)
  where
    by : (b : Bool) → nat_eq n m ≡ b → (list_any (nat_eq n) (ever past) ≡ true → list_any (nat_eq n) (constants past) ≡ false) → list_any (nat_eq n) (constants past) ≡ false
    by true e older = ap (λ k. list_any (nat_eq k) (constants past)) (eqb-true n m e) ∙ false_from_ne_true (list_any (nat_eq m) (constants past)) (λ c. r.0.inactive (inl (is_constant past m c)))
    by false e older = older (either_or (nat_eq n m) (list_any (nat_eq n) (ever past)) h e)
never_constant (float l ss d ∷ past) n r h = never_constant past n r.1 h
never_constant (essential l ss d ∷ past) n r h = never_constant past n r.1 h
never_constant (asserted l ss d ∷ past) n r h = never_constant past n r.1 h
never_constant (theorem l ss from to d ∷ past) n r h = never_constant past n r.1 h
never_constant (distinct ss ∷ past) n r h = never_constant past n r.1 h
never_constant (opened p ∷ past) n r h = never_constant past n r.1 h
never_constant (closed ∷ past) n r h = never_constant past n r.1 h

pub variable_now : (past : List Event) (n : ℕ) → FollowsRules past → IsInScope past n → list_any (nat_eq n) (constants past) ≡ false
variable_now past n r f = never_constant past n r (ap (λ q. list_any (nat_eq n) (ever q)) f.whole ∙ ever_in_scope n f.text f.earlier f.later)
