-- What a substitution makes of strings: the equations of its definition, and what follows.
use Rattle.std.proofs.Common.{◌≡◌, ℕ, ◌+◌, ◌≤◌, ◌<◌, true, false, List, [], ◌∷◌, ◌++◌, length, take, drop, get_or, Option, None, Some, refl, sym, ◌∙◌, ap, arith, length-append}
use Rattle.std.specs.List.{All, AllByRecursion as ByRecursion}
use Rattle.std.specs.Option.{option_map}
use Rattle.std.proofs.lemmas.List.{append-nil, take_more, take-append-drop}
use Rattle.std.proofs.lemmas.List.Concat.{flat_map-append}
use Rattle.std.proofs.lemmas.List.Elements.{All-from_recursion, recursion_from_All, All-append}
use Rattle.mm_subst.specs.Symbols.{is_same}
use Rattle.mm_subst.specs.Substitutions.{Pairs, value_at, or_itself, value_of, applied, with_values, then_by}
use Rattle.mm_subst.specs.declared.symbol.WSym.{WSym}

pub applied-nil : (theta : Pairs) → applied theta [] ≡ []
unfolding applied
applied-nil theta = refl

pub applied-cons : (theta : Pairs) (x : WSym) (s : List WSym) → applied theta (x ∷ s) ≡ value_of theta x ++ applied theta s
unfolding applied
applied-cons theta x s = refl

-- a string of two parts
pub applied-append : (theta : Pairs) (s t : List WSym) → applied theta (s ++ t) ≡ applied theta s ++ applied theta t
unfolding applied
applied-append theta s t = flat_map-append (value_of theta) s t

-- one symbol
pub applied-one : (theta : Pairs) (x : WSym) → applied theta (x ∷ []) ≡ value_of theta x
unfolding applied
applied-one theta x = append-nil (value_of theta x)

-- one symbol more
pub applied_more : (theta : Pairs) (s : List WSym) (i : ℕ) (d : WSym) → i < length s → applied theta (take (i + 1) s) ≡ applied theta (take i s) ++ value_of theta (get_or s i d)
applied_more theta s i d h =
    ap (applied theta) (take_more s i d h)
    ∙ applied-append theta (take i s) (get_or s i d ∷ [])
    ∙ ap (λ t. applied theta (take i s) ++ t) (applied-one theta (get_or s i d))

-- the length is the sum of the lengths
pub length-applied-append : (theta : Pairs) (s t : List WSym) → length (applied theta (s ++ t)) ≡ length (applied theta s) + length (applied theta t)
length-applied-append theta s t = ap length (applied-append theta s t) ∙ length-append (applied theta s) (applied theta t)

pub length-applied-cons : (theta : Pairs) (x : WSym) (s : List WSym) → length (applied theta (x ∷ s)) ≡ length (value_of theta x) + length (applied theta s)
length-applied-cons theta x s = ap length (applied-cons theta x s) ∙ length-append (value_of theta x) (applied theta s)

-- a part of a string makes no longer string than the whole
pub length-applied-take : (theta : Pairs) (s : List WSym) (i : ℕ) → length (applied theta (take i s)) ≤ length (applied theta s)
length-applied-take theta s i = omega (arith, length-applied-append theta (take i s) (drop i s), ap (λ (t : List WSym). length (applied theta t)) (take-append-drop i s))

-- where no value is empty the string gets no shorter
no_shorter : (theta : Pairs) (s : List WSym) → ByRecursion (λ x. 1 ≤ length (value_of theta x)) s → length s ≤ length (applied theta s)
no_shorter theta [] h = omega arith
no_shorter theta (x ∷ xs) h = let one = h.0 in omega (arith, no_shorter theta xs h.1, length-applied-cons theta x xs)

pub length-applied-le : (theta : Pairs) (s : List WSym) → All (λ x. 1 ≤ length (value_of theta x)) s → length s ≤ length (applied theta s)
length-applied-le theta s h = no_shorter theta s (recursion_from_All _ s h)

-- two substitutions with the same values of the symbols of a string
same_by : (theta tau : Pairs) (s : List WSym) → ByRecursion (λ x. value_of theta x ≡ value_of tau x) s → applied theta s ≡ applied tau s
same_by theta tau [] h = applied-nil theta ∙ sym (applied-nil tau)
same_by theta tau (x ∷ xs) h =
    applied-cons theta x xs
    ∙ ap (λ v. v ++ applied theta xs) h.0
    ∙ ap (λ t. value_of tau x ++ t) (same_by theta tau xs h.1)
    ∙ sym (applied-cons tau x xs)

pub applied-same : (theta tau : Pairs) (s : List WSym) → All (λ x. value_of theta x ≡ value_of tau x) s → applied theta s ≡ applied tau s
applied-same theta tau s h = same_by theta tau s (recursion_from_All _ s h)

-- a symbol that is no key
pub value_of-none : (theta : Pairs) (x : WSym) → value_at theta x ≡ None → value_of theta x ≡ x ∷ []
value_of-none theta x h = ap (or_itself x) h

pub value_of-some : (theta : Pairs) (x : WSym) (v : List WSym) → value_at theta x ≡ Some v → value_of theta x ≡ v
value_of-some theta x v h = ap (or_itself x) h

-- a string in which no key occurs stays as it is
stays : (theta : Pairs) (s : List WSym) → ByRecursion (λ x. value_at theta x ≡ None) s → applied theta s ≡ s
stays theta [] h = applied-nil theta
stays theta (x ∷ xs) h =
    applied-cons theta x xs
    ∙ ap (λ v. v ++ applied theta xs) (value_of-none theta x h.0)
    ∙ ap (λ t. x ∷ t) (stays theta xs h.1)

pub applied-keyless : (theta : Pairs) (s : List WSym) → All (λ x. value_at theta x ≡ None) s → applied theta s ≡ s
applied-keyless theta s h = stays theta s (recursion_from_All _ s h)

none_at : (s : List WSym) → ByRecursion (λ x. value_at [] x ≡ None) s
none_at [] = tt
none_at (x ∷ xs) = (refl, none_at xs)

-- the substitution without a pair
pub applied-empty : (s : List WSym) → applied [] s ≡ s
applied-empty s = stays [] s (none_at s)

-- what holds of each symbol that comes in holds of each symbol of the string
all_by : (P : WSym → Type 0) (theta : Pairs) (s : List WSym) → ByRecursion (λ x. All P (value_of theta x)) s → All P (applied theta s)
unfolding applied
all_by P theta [] h = All-from_recursion P [] tt
all_by P theta (x ∷ xs) h = All-append P (value_of theta x) (applied theta xs) h.0 (all_by P theta xs h.1)

pub All-applied : (P : WSym → Type 0) (theta : Pairs) (s : List WSym) → All (λ x. All P (value_of theta x)) s → All P (applied theta s)
All-applied P theta s h = all_by P theta s (recursion_from_All _ s h)

-- theta on the values of sigma
pub value_at-with_values : (theta sigma : Pairs) (x : WSym) → value_at (with_values theta sigma) x ≡ option_map (applied theta) (value_at sigma x)
value_at-with_values theta [] x = refl
value_at-with_values theta (p ∷ ps) x = let ih = value_at-with_values theta ps x in elim (is_same p.0 x) as (λ b. is_same p.0 x ≡ b → value_at (with_values theta (p ∷ ps)) x ≡ option_map (applied theta) (value_at (p ∷ ps) x)) [ true ↦ λ e. rw e refl | false ↦ λ e. rw e ih ] refl

value_kept : (theta : Pairs) (x : WSym) (o : Option (List WSym)) → (o ≡ None → value_at theta x ≡ None) → or_itself x (option_map (applied theta) o) ≡ applied theta (or_itself x o)
value_kept theta x None h = sym (applied-one theta x ∙ value_of-none theta x (h refl))
value_kept theta x (Some v) h = refl

pub value_of-with_values : (theta sigma : Pairs) (x : WSym) → (value_at sigma x ≡ None → value_at theta x ≡ None) → value_of (with_values theta sigma) x ≡ applied theta (value_of sigma x)
value_of-with_values theta sigma x h = ap (or_itself x) (value_at-with_values theta sigma x) ∙ value_kept theta x (value_at sigma x) h

-- Where each symbol is a key of sigma or none of theta, theta after sigma is theta on the values of sigma.
by_values : (theta sigma : Pairs) (s : List WSym) → ByRecursion (λ x. value_at sigma x ≡ None → value_at theta x ≡ None) s
    → applied theta (applied sigma s) ≡ applied (with_values theta sigma) s
by_values theta sigma [] h = ap (applied theta) (applied-nil sigma) ∙ applied-nil theta ∙ sym (applied-nil (with_values theta sigma))
by_values theta sigma (x ∷ xs) h =
    ap (applied theta) (applied-cons sigma x xs)
    ∙ applied-append theta (value_of sigma x) (applied sigma xs)
    ∙ ap (λ v. v ++ applied theta (applied sigma xs)) (sym (value_of-with_values theta sigma x h.0))
    ∙ ap (λ t. value_of (with_values theta sigma) x ++ t) (by_values theta sigma xs h.1)
    ∙ sym (applied-cons (with_values theta sigma) x xs)

pub applied-with_values : (theta sigma : Pairs) (s : List WSym) → All (λ x. value_at sigma x ≡ None → value_at theta x ≡ None) s
    → applied theta (applied sigma s) ≡ applied (with_values theta sigma) s
applied-with_values theta sigma s h = by_values theta sigma s (recursion_from_All _ s h)

abbrev pub or_next : Option (List WSym) → Option (List WSym) → Option (List WSym)
or_next None o = o
or_next (Some v) o = Some v

pub value_at-append : (ps qs : Pairs) (x : WSym) → value_at (ps ++ qs) x ≡ or_next (value_at ps x) (value_at qs x)
value_at-append [] qs x = refl
value_at-append (p ∷ ps) qs x = let ih = value_at-append ps qs x in elim (is_same p.0 x) as (λ b. is_same p.0 x ≡ b → value_at (p ∷ ps ++ qs) x ≡ or_next (value_at (p ∷ ps) x) (value_at qs x)) [ true ↦ λ e. rw e refl | false ↦ λ e. rw e ih ] refl

value_then : (theta : Pairs) (x : WSym) (o : Option (List WSym)) → or_itself x (or_next (option_map (applied theta) o) (value_at theta x)) ≡ applied theta (or_itself x o)
value_then theta x None = sym (applied-one theta x)
value_then theta x (Some v) = refl

pub value_of-then_by : (theta sigma : Pairs) (x : WSym) → value_of (then_by theta sigma) x ≡ applied theta (value_of sigma x)
value_of-then_by theta sigma x =
    ap (or_itself x) (value_at-append (with_values theta sigma) theta x)
    ∙ ap (λ o. or_itself x (or_next o (value_at theta x))) (value_at-with_values theta sigma x)
    ∙ value_then theta x (value_at sigma x)

-- two substitutions, one after the other, are one
pub applied-then_by : (theta sigma : Pairs) (s : List WSym) → applied (then_by theta sigma) s ≡ applied theta (applied sigma s)
applied-then_by theta sigma [] = applied-nil (then_by theta sigma) ∙ sym (ap (applied theta) (applied-nil sigma) ∙ applied-nil theta)
applied-then_by theta sigma (x ∷ xs) =
    applied-cons (then_by theta sigma) x xs
    ∙ ap (λ v. v ++ applied (then_by theta sigma) xs) (value_of-then_by theta sigma x)
    ∙ ap (λ t. applied theta (value_of sigma x) ++ t) (applied-then_by theta sigma xs)
    ∙ sym (applied-append theta (value_of sigma x) (applied sigma xs))
    ∙ ap (applied theta) (sym (applied-cons sigma x xs))

-- one symbol more of a string that is made
pub one_more : (theta : Pairs) (s : List WSym) (i : ℕ) (d : WSym) (out v now : List WSym) → i < length s → out ≡ applied theta (take i s)
    → v ≡ value_of theta (get_or s i d) → now ≡ out ++ v → now ≡ applied theta (take (i + 1) s)
one_more theta s i d out v now h e f g =
    g ∙ ap (λ t. t ++ v) e ∙ ap (λ t. applied theta (take i s) ++ t) f ∙ sym (applied_more theta s i d h)

-- where that is too much, all of it is
pub too_long : (theta : Pairs) (s : List WSym) (i : ℕ) (d : WSym) (out v : List WSym) (n : ℕ) → i < length s → out ≡ applied theta (take i s)
    → v ≡ value_of theta (get_or s i d) → n < length out + length v → n < length (applied theta s)
too_long theta s i d out v n h e f big =
    let whole = length-applied-take theta s (i + 1) in
    let more : length (applied theta (take (i + 1) s)) ≡ length out + length v =
    ap length (sym (one_more theta s i d out v (out ++ v) h e f refl)) ∙ length-append out v in
    omega arith
