-- The numbers of symbols.
use Rattle.std.proofs.Common.{◌≡◌, ◌<◌, ℕ, suc, ◌+◌, Bool, true, false, cond, not, ◌||◌, List, [], ◌∷◌, ◌++◌, Option, None, Some, length, position, slice_get, get_or, nat_lt, is_some, refl, sym, ap, ◌∙◌, arith, length-append}
use Rattle.std.proofs.Math.Seq.{get_or-append_seam}
use Rattle.std.proofs.lemmas.Bool.{true≢false}
use Rattle.std.proofs.lemmas.List.{get_or_append_left}
use Rattle.std.proofs.lemmas.List.Quantifiers.{position-Some}
use Rattle.std.proofs.lemmas.Option.{slice_get_within, slice_get-get_or, get_or_from_slice_get}
use Rattle.std.proofs.lemmas.Slice.Eq.{bytes_eq-Decides}
use Rattle.std.specs.List.{list_any, position_or_len}
use Rattle.std.specs.Str.{bytes_eq}
use Rattle.mm_tables.specs.Texts.{with_text}
use Rattle.mm_scope.specs.Events.{Event, symbols}
use Rattle.mm_scope.specs.Looks.{look_back, known_as}

-- a text that is found stands at its place
pub same_text : (t : List ℕ) (all : List (List ℕ)) (n : ℕ) → position (bytes_eq t) all ≡ Some n → slice_get all n ≡ Some t
same_text t all n e =
    let found = position-Some (bytes_eq t) all n [] e in
    slice_get-get_or all n [] found.0 ∙ ap Some (sym ((bytes_eq-Decides t (get_or all n [])).0 found.1))

named_as : (past : List Event) (t : List ℕ) (r : Option ℕ) → position (bytes_eq t) (symbols past) ≡ r → not ((known_as past t r).constant || (known_as past t r).active) ≡ false
    → slice_get (symbols past) (known_as past t r).number ≡ Some t
named_as past t None e h = absurd (true≢false h)
named_as past t (Some n) e h = same_text t (symbols past) n e

-- of a symbol that is active
pub active_named : (past : List Event) (t : List ℕ) → not ((look_back past t).constant || (look_back past t).active) ≡ false
    → slice_get (symbols past) (look_back past t).number ≡ Some t
active_named past t h = named_as past t (position (bytes_eq t) (symbols past)) refl h

-- one text more leaves the numbers
pub kept_named : (all : List (List ℕ)) (t u : List ℕ) (n : ℕ) → slice_get all n ≡ Some u → slice_get (with_text all t) n ≡ Some u
kept_named all t u n e = by (list_any (bytes_eq t) all)
  where
    small : n < length all
    small = slice_get_within all n u e

    by : (is : Bool) → slice_get (cond is all (all ++ t ∷ [])) n ≡ Some u
    by true = e
    by false =
        slice_get-get_or (all ++ t ∷ []) n [] (omega (arith, small, length-append all (t ∷ [])))
        ∙ ap Some (get_or_append_left all (t ∷ []) [] n small ∙ get_or_from_slice_get all n u [] e)

last_text : (all : List (List ℕ)) (t : List ℕ) → slice_get (all ++ t ∷ []) (length all) ≡ Some t
last_text all t = slice_get-get_or (all ++ t ∷ []) (length all) [] (omega (arith, length-append all (t ∷ []))) ∙ ap Some (get_or-append_seam all t [] [])

-- a text that is not found is not there
found_any : {A : Type 0} (p : A → Bool) (xs : List A) → nat_lt (position_or_len p xs) (length xs) ≡ list_any p xs
found_any p [] = refl
found_any p (x ∷ xs) = by (p x) (found_any p xs)
  where
    first : (n : ℕ) → nat_lt 0 (suc n) ≡ true
    first n = grind arith

    later : (m n : ℕ) → nat_lt (1 + m) (suc n) ≡ nat_lt m n
    later m n = grind arith

    by : (is : Bool) → nat_lt (position_or_len p xs) (length xs) ≡ list_any p xs → nat_lt (cond (not is) (1 + position_or_len p xs) 0) (suc (length xs)) ≡ (is || list_any p xs)
    by true h = first (length xs)
    by false h = later (position_or_len p xs) (length xs) ∙ h

none_found : (b : Bool) (n : ℕ) → cond b (Some n) None ≡ None → b ≡ false
none_found true n h = absurd (true≢false (ap is_some h))
none_found false n h = refl

pub not_there : {A : Type 0} (p : A → Bool) (xs : List A) → position p xs ≡ None → list_any p xs ≡ false
not_there p xs h = sym (found_any p xs) ∙ none_found (nat_lt (position_or_len p xs) (length xs)) (position_or_len p xs) h

-- of a symbol that is declared
pub declared_named : (past : List Event) (t : List ℕ) → slice_get (with_text (symbols past) t) (look_back past t).number ≡ Some t
declared_named past t = by (position (bytes_eq t) (symbols past)) refl
  where
    by : (r : Option ℕ) → position (bytes_eq t) (symbols past) ≡ r → slice_get (with_text (symbols past) t) (known_as past t r).number ≡ Some t
    by None e = ap (λ b. slice_get (cond b (symbols past) (symbols past ++ t ∷ [])) (length (symbols past))) (not_there (bytes_eq t) (symbols past) e) ∙ last_text (symbols past) t
    by (Some n) e = kept_named (symbols past) t t n (same_text t (symbols past) n e)
