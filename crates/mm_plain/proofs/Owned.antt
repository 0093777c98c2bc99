-- Trees whose steps name statements of the database.
use Rattle.std.proofs.Common.{◌≡◌, ℕ, ◌<◌, Bool, true, false, List, [], ◌∷◌, ◌++◌, map, length, nat_lt, nat_eq, if◌then◌else◌, refl, sym, ◌∙◌, ap, inl, inr, arith, length-append}
use Rattle.std.specs.List.{All, AllByRecursion as ByRecursion, list_any}
use Rattle.std.proofs.lemmas.Bool.{cases_lt, false≢true}
use Rattle.std.proofs.lemmas.Bool.Decides.{nat_tests}
use Rattle.std.proofs.lemmas.List.{get_or_past}
use Rattle.std.proofs.lemmas.List.Elements.{recursion_from_All}
use Rattle.mm_scope.specs.Contents.{labels_of, statements_of, stated_at, active_at, events_of}
use Rattle.mm_scope.specs.Events.{Event, constant, variable, float, essential, asserted, theorem, distinct, opened, closed, labels, statements}
use Rattle.mm_stated.specs.Stated.{Stated, no_statement, is_hypothesis}
use Rattle.mm_subst.specs.declared.symbol.WSym.{WSym}
use Rattle.mm_plain.specs.declared.plain.Plain.{Plain}
use Rattle.mm_plain.specs.declared.plain.Plain.TheOpen.{Plain-F}
use Rattle.mm_plain.specs.declared.plain.Plain.TheOpen as L
use Rattle.mm_plain.specs.declared.plain.Plain.TheViews as V
use Rattle.mm_plain.specs.Premises.{may_stand}
use Rattle.mm_plain.specs.Shape.{Each, Proof, steps_of}
use Rattle.mm_plain.specs.Sources.{label_layer, label_of}
use Rattle.mm_plain.specs.Numbers.{IsOwnLabel, HasOwnLabels, labels_in}
use Rattle.mm_plain.specs.Valid.{good_layer, IsGood, IsSound, IsValid}

-- a labelled statement has a label
one_more : {A B : Type 0} (xs : List A) (ys : List B) (x : A) (y : B) → length xs ≡ length ys → length (xs ++ x ∷ []) ≡ length (ys ++ y ∷ [])
one_more xs ys x y h = omega (arith, length-append xs (x ∷ []), length-append ys (y ∷ []))

counted : (past : List Event) → length (statements past) ≡ length (labels past)
unfolding statements labels
counted [] = refl
counted (constant t n ∷ past) = counted past
counted (variable t n ∷ past) = counted past
counted (float l ss d ∷ past) = one_more _ _ _ _ (counted past)
counted (essential l ss d ∷ past) = one_more _ _ _ _ (counted past)
counted (asserted l ss d ∷ past) = one_more _ _ _ _ (counted past)
counted (theorem l ss from to d ∷ past) = one_more _ _ _ _ (counted past)
counted (distinct ss ∷ past) = counted past
counted (opened p ∷ past) = counted past
counted (closed ∷ past) = counted past

counted_of : (bytes : List ℕ) → length (statements_of bytes) ≡ length (labels_of bytes)
unfolding statements_of labels_of
counted_of bytes = counted (events_of bytes)

-- where there is no statement stands no hypothesis
hypothesis-own : (bytes : List ℕ) (id : ℕ) → is_hypothesis (stated_at bytes id).kind ≡ true → id < length (labels_of bytes)
hypothesis-own bytes id is = elim (cases_lt id (length (statements_of bytes))) [
  | inl within ↦ omega (arith, within, counted_of bytes)
  | inr past ↦ absurd (false≢true (sym (ap (λ (s : Stated). is_hypothesis s.kind) (get_or_past (statements_of bytes) id no_statement past)) ∙ is))
]

stands_by : (b a : Bool) (id at n : ℕ) → (b ≡ true → id < n) → at < n → (if b then a else nat_lt id at) ≡ true → id < n
stands_by true a id at n own h is = own refl
stands_by false a id at n own h is = (let low : id < at = grind (arith, nat_tests, is) in omega arith)

pub stands-own : (bytes : List ℕ) (at id : ℕ) → at < length (labels_of bytes) → may_stand bytes at id ≡ true → id < length (labels_of bytes)
unfolding may_stand
stands-own bytes at id h is =
    stands_by (is_hypothesis (stated_at bytes id).kind) (list_any (λ n. nat_eq id n) (active_at bytes at)) id at (length (labels_of bytes)) (hypothesis-own bytes id) h is

layer-own : (bytes : List ℕ) (at next : ℕ) (x : Plain-F Plain) → at < length (labels_of bytes) → good_layer (record { bytes = bytes; at = at; next = next }) x → IsOwnLabel bytes (label_layer x)
layer-own bytes at next (L.Unknown t) h good = tt
layer-own bytes at next (L.Known t l s kids) h good = stands-own bytes at l h good.names.stands

good-own : (bytes : List ℕ) (at next : ℕ) (x : Plain) → at < length (labels_of bytes) → IsGood (record { bytes = bytes; at = at; next = next }) x → IsOwnLabel bytes (label_of x)
unfolding IsGood label_of
good-own bytes at next x h good = layer-own bytes at next (V.out-Plain x) h good

each-own : (bytes : List ℕ) (at next : ℕ) (xs : List Plain) → at < length (labels_of bytes) → Each (IsGood (record { bytes = bytes; at = at; next = next })) xs → Each (λ y. IsOwnLabel bytes (label_of y)) xs
each-own bytes at next [] h good = tt
each-own bytes at next (x ∷ xs) h good = (good-own bytes at next x h good.0, each-own bytes at next xs h good.1)

-- the steps of a valid proof name statements of the database
pub own-valid : (bytes : List ℕ) (at : ℕ) (goal : List WSym) (p : Proof) → at < length (labels_of bytes) → IsValid bytes at goal p → HasOwnLabels bytes p.plain
unfolding IsSound HasOwnLabels
own-valid bytes at goal p h valid = each-own bytes at p.next (steps_of p.plain) h valid.steps

-- the same by the list of labels
each-label : (bytes : List ℕ) (xs : List Plain) → ByRecursion (IsOwnLabel bytes) (map label_of xs) → Each (λ y. IsOwnLabel bytes (label_of y)) xs
each-label bytes [] h = tt
each-label bytes (x ∷ xs) h = (h.0, each-label bytes xs h.1)

pub own-labels : (bytes : List ℕ) (x : Plain) → All (IsOwnLabel bytes) (labels_in x) → HasOwnLabels bytes x
unfolding HasOwnLabels
own-labels bytes x h = each-label bytes (steps_of x) (recursion_from_All (IsOwnLabel bytes) (labels_in x) h)
