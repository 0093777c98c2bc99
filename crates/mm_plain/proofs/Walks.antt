-- Walks over the steps of a tree: what each child adds.
use Rattle.std.proofs.Common.{◌≡◌, ℕ, ◌+◌, ◌<◌, ◌≤◌, cond, Bool, true, false, not, List, [], ◌∷◌, ◌++◌, map, length, take, get_or, count_by, is_none, Option, None, Some, refl, sym, ◌∙◌, ap, subst, arith, append_assoc, if◌then◌else◌, zero, suc}
use Rattle.std.specs.List.{flat_map, sum_by, last_or}
use Rattle.std.proofs.lemmas.List.{map-append, take_more, append-nil, take_all}
use Rattle.std.proofs.lemmas.List.Concat.{flat_map-append, length-flat_map}
use Rattle.std.proofs.lemmas.List.Sums.{sum_by-append, sum_by_more_le, count_by-le-length}
use Rattle.mm_scope.specs.Contents.{labels_of}
use Rattle.mm_subst.specs.declared.symbol.WSym.{WSym}
use Rattle.mm_subst.specs.Statements.{statement_of}
use Rattle.mm_subst.specs.Substitutions.{Pairs, applied}
use Rattle.mm_subst.specs.Symbols.{is_same}
use Rattle.std.specs.Cmp.Lexicographic.{pointwise}
use Rattle.mm_plain.specs.declared.plain.Plain.{Plain}
use Rattle.mm_plain.specs.Shape.{Each, unknown, known, size_of, steps_of}
use Rattle.mm_plain.specs.Sources.{label_of, is_pending}
use Rattle.mm_plain.specs.Numbers.{numbers_from, labels_in, unknowns_among, IsOwnLabel, HasOwnLabels}
use Rattle.mm_plain.proofs.Equations.{steps_of-unknown, steps_of-known, length-steps_of, size_of-known}
use Rattle.mm_plain.proofs.Read.{label_of-unknown, label_of-known, is_pending-known, is_pending-unknown}

-- the labels

map-steps : (kids : List Plain) → map label_of (flat_map steps_of kids) ≡ flat_map labels_in kids
map-steps [] = refl
map-steps (x ∷ xs) = map-append label_of (steps_of x) (flat_map steps_of xs) ∙ ap (λ n. labels_in x ++ n) (map-steps xs)

pub labels_in-unknown : (t : List WSym) → labels_in (unknown t) ≡ None ∷ []
labels_in-unknown t = ap (map label_of) (steps_of-unknown t) ∙ ap (λ o. o ∷ []) (label_of-unknown t)

pub labels_in-known : (t : List WSym) (l : ℕ) (s : Pairs) (kids : List Plain) → labels_in (known t l s kids) ≡ flat_map labels_in kids ++ (Some l ∷ [])
labels_in-known t l s kids =
    ap (map label_of) (steps_of-known t l s kids)
    ∙ map-append label_of (flat_map steps_of kids) (known t l s kids ∷ [])
    ∙ ap (λ n. n ++ (label_of (known t l s kids) ∷ [])) (map-steps kids)
    ∙ ap (λ o. flat_map labels_in kids ++ (o ∷ [])) (label_of-known t l s kids)

length-map : {A B : Type 0} (f : A → B) (xs : List A) → length (map f xs) ≡ length xs
length-map f [] = refl
length-map f (x ∷ xs) = ap suc (length-map f xs)

pub length-labels_in : (x : Plain) → length (labels_in x) ≡ size_of x
length-labels_in x = length-map label_of (steps_of x) ∙ length-steps_of x

-- the parts of one more child

pub flat_map-more : {A : Type 0} (f : Plain → List A) (kids : List Plain) (i : ℕ) (d : Plain) → i < length kids
    → flat_map f (take (i + 1) kids) ≡ flat_map f (take i kids) ++ f (get_or kids i d)
flat_map-more f kids i d h =
    ap (flat_map f) (take_more kids i d h)
    ∙ flat_map-append f (take i kids) (get_or kids i d ∷ [])
    ∙ ap (λ n. flat_map f (take i kids) ++ n) (append-nil (f (get_or kids i d)))

-- the numbers

pub numbers_from-append : {A : Type 0} (p : A → Bool) (n : ℕ) (xs ys : List A) → numbers_from p n (xs ++ ys) ≡ numbers_from p n xs ++ numbers_from p (n + length xs) ys
numbers_from-append p n [] ys = let z : n ≡ n + 0 = omega arith in ap (λ m. numbers_from p m ys) z
numbers_from-append p n (x ∷ xs) ys =
    let z : n + 1 + length xs ≡ n + suc (length xs) = omega arith in
    let e : numbers_from p (n + 1) (xs ++ ys) ≡ numbers_from p (n + 1) xs ++ numbers_from p (n + suc (length xs)) ys
    = numbers_from-append p (n + 1) xs ys ∙ ap (λ m. numbers_from p (n + 1) xs ++ numbers_from p m ys) z in
    step (p x) n _ _ _ e
  where
    step : (b : Bool) (n : ℕ) (a front back : List ℕ) → a ≡ front ++ back → (if b then (n ∷ a) else a) ≡ (if b then (n ∷ front) else front) ++ back
    step true n a front back e = ap (λ l. n ∷ l) e
    step false n a front back e = e

pub last_or-append : {A : Type 0} (o : Option A) (xs ys : List A) → last_or o (xs ++ ys) ≡ last_or (last_or o xs) ys
last_or-append o [] ys = refl
last_or-append o (x ∷ xs) ys = last_or-append (Some x) xs ys

lengths-sum : {A : Type 0} (f : Plain → List A) (xs : List Plain) → ((x : Plain) → length (f x) ≡ size_of x) → length (flat_map f xs) ≡ sum_by size_of xs
lengths-sum f xs e = length-flat_map f xs ∙ ap (λ g. sum_by g xs) (λ i x. e x i)

pub numbers-more : {A : Type 0} (p : A → Bool) (f : Plain → List A) (n m : ℕ) (kids : List Plain) (i : ℕ) (d : Plain) → ((x : Plain) → length (f x) ≡ size_of x)
    → i < length kids → m ≡ n + sum_by size_of (take i kids)
    → numbers_from p n (flat_map f (take (i + 1) kids)) ≡ numbers_from p n (flat_map f (take i kids)) ++ numbers_from p m (f (get_or kids i d))
numbers-more p f n m kids i d e h g =
    let z : n + length (flat_map f (take i kids)) ≡ m = omega (arith, lengths-sum f (take i kids) e) in
    ap (numbers_from p n) (flat_map-more f kids i d h)
    ∙ numbers_from-append p n (flat_map f (take i kids)) (f (get_or kids i d))
    ∙ ap (λ k. numbers_from p n (flat_map f (take i kids)) ++ numbers_from p k (f (get_or kids i d))) z

-- the labels of the database

pub each-append : (P : Plain → Type 0) (xs ys : List Plain) → Each P (xs ++ ys) → Each P xs × Each P ys
each-append P [] ys h = (tt, h)
each-append P (x ∷ xs) ys h = ((h.0, (each-append P xs ys h.1).0), (each-append P xs ys h.1).1)

own-kids : (bytes : List ℕ) (kids : List Plain) → Each (λ y. IsOwnLabel bytes (label_of y)) (flat_map steps_of kids) → Each (HasOwnLabels bytes) kids
unfolding HasOwnLabels
own-kids bytes [] h = tt
own-kids bytes (x ∷ xs) h =
    let parts = each-append (λ y. IsOwnLabel bytes (label_of y)) (steps_of x) (flat_map steps_of xs) h in
    (parts.0, own-kids bytes xs parts.1)

pub own-known : (bytes : List ℕ) (t : List WSym) (l : ℕ) (s : Pairs) (kids : List Plain) → HasOwnLabels bytes (known t l s kids)
    → Each (HasOwnLabels bytes) kids × (l < length (labels_of bytes))
unfolding HasOwnLabels
own-known bytes t l s kids h =
    let parts = each-append (λ y. IsOwnLabel bytes (label_of y)) (flat_map steps_of kids) (known t l s kids ∷ []) (subst (Each (λ y. IsOwnLabel bytes (label_of y))) (steps_of-known t l s kids) h) in
    (own-kids bytes kids parts.0, subst (IsOwnLabel bytes) (label_of-known t l s kids) parts.1.0)

pub each-at : (P : Plain → Type 0) (xs : List Plain) (i : ℕ) (d : Plain) → Each P xs → i < length xs → P (get_or xs i d)
each-at P [] i d h g = absurd (omega arith)
each-at P (x ∷ xs) zero d h g = h.0
each-at P (x ∷ xs) (suc i) d h g = each-at P xs i d h.1 (omega arith)

-- a known step whose children are items, of which the first i have been walked over

-- one more child is not the last step
pub kid-below : (t : List WSym) (l : ℕ) (s : Pairs) (kids items : List Plain) (x kid : Plain) (i : ℕ) → known t l s kids ≡ x → items ≡ kids
    → i < length items → kid ≡ get_or items i kid → sum_by size_of (take i items) + size_of kid + 1 ≤ size_of x
kid-below t l s kids items x kid i is same h at =
    omega (arith, ap size_of is, size_of-known t l s kids, ap (sum_by size_of) same, sum_by_more_le size_of items i kid h, ap size_of at)

labels-all : (t : List WSym) (l : ℕ) (s : Pairs) (kids items : List Plain) (x : Plain) (i : ℕ) → known t l s kids ≡ x → items ≡ kids → length items ≤ i
    → labels_in x ≡ flat_map labels_in (take i items) ++ (Some l ∷ [])
labels-all t l s kids items x i is same h =
    ap labels_in (sym is) ∙ labels_in-known t l s kids ∙ ap (λ ks. flat_map labels_in ks ++ (Some l ∷ [])) (sym same ∙ sym (take_all i items h))

pub labels-walked : (t : List WSym) (l : ℕ) (s : Pairs) (kids items : List Plain) (x : Plain) (i : ℕ) (front now new : List (Option ℕ)) → known t l s kids ≡ x → items ≡ kids → length items ≤ i
    → now ≡ front ++ flat_map labels_in (take i items) → new ≡ now ++ (Some l ∷ []) → new ≡ front ++ labels_in x
labels-walked t l s kids items x i front now new is same h so_far last =
    last ∙ ap (λ n. n ++ (Some l ∷ [])) so_far ∙ append_assoc front (flat_map labels_in (take i items)) (Some l ∷ [])
    ∙ ap (λ n. front ++ n) (sym (labels-all t l s kids items x i is same h))

count-append : {A : Type 0} (p : A → Bool) (xs ys : List A) → count_by p (xs ++ ys) ≡ count_by p xs + count_by p ys
count-append p xs ys = sum_by-append (λ x. cond (p x) 1 0) xs ys

pub unknowns-walked : (t : List WSym) (l : ℕ) (s : Pairs) (kids items : List Plain) (x : Plain) (i : ℕ) → known t l s kids ≡ x → items ≡ kids → length items ≤ i
    → unknowns_among (flat_map labels_in (take i items)) ≡ unknowns_among (labels_in x)
unknowns-walked t l s kids items x i is same h =
    sym (ap unknowns_among (labels-all t l s kids items x i is same h) ∙ count-append is_none (flat_map labels_in (take i items)) (Some l ∷ []) ∙ omega arith)

-- what is counted is no more than the steps
pub unknowns-below : (x : Plain) → unknowns_among (labels_in x) ≤ size_of x
unknowns-below x = omega (arith, count_by-le-length is_none (labels_in x), length-labels_in x)

pub unknowns-so-far : (items : List Plain) (i : ℕ) → unknowns_among (flat_map labels_in (take i items)) ≤ sum_by size_of (take i items)
unknowns-so-far items i = omega (arith, count_by-le-length is_none (flat_map labels_in (take i items)), lengths-sum labels_in (take i items) length-labels_in)

pub last-walked : (t : List WSym) (l : ℕ) (s : Pairs) (kids items : List Plain) (x : Plain) (i n : ℕ) (found : Option ℕ) → known t l s kids ≡ x → items ≡ kids → length items ≤ i
    → last_or found (numbers_from is_none n (flat_map labels_in (take i items))) ≡ last_or found (numbers_from is_none n (labels_in x))
last-walked t l s kids items x i n found is same h =
    sym (ap (λ n. last_or found n) (ap (numbers_from is_none n) (labels-all t l s kids items x i is same h)
    ∙ numbers_from-append is_none n (flat_map labels_in (take i items)) (Some l ∷ []) ∙ append-nil (numbers_from is_none n (flat_map labels_in (take i items)))))

pub last-more : (items : List Plain) (i n m : ℕ) (kid : Plain) (found : Option ℕ) → i < length items → kid ≡ get_or items i kid → m ≡ n + sum_by size_of (take i items)
    → last_or (last_or found (numbers_from is_none n (flat_map labels_in (take i items)))) (numbers_from is_none m (labels_in kid))
    ≡ last_or found (numbers_from is_none n (flat_map labels_in (take (i + 1) items)))
last-more items i n m kid found h at number =
    ap (λ k. last_or (last_or found (numbers_from is_none n (flat_map labels_in (take i items)))) (numbers_from is_none m (labels_in k))) at
    ∙ sym (last_or-append found (numbers_from is_none n (flat_map labels_in (take i items))) (numbers_from is_none m (labels_in (get_or items i kid))))
    ∙ ap (last_or found) (sym (numbers-more is_none labels_in n m items i kid length-labels_in h number))

steps-all : (t : List WSym) (l : ℕ) (s : Pairs) (kids items : List Plain) (x : Plain) (i : ℕ) → known t l s kids ≡ x → items ≡ kids → length items ≤ i
    → steps_of x ≡ flat_map steps_of (take i items) ++ (x ∷ [])
steps-all t l s kids items x i is same h =
    ap steps_of (sym is) ∙ steps_of-known t l s kids
    ∙ ap (λ ks. flat_map steps_of ks ++ (known t l s kids ∷ [])) (sym same ∙ sym (take_all i items h))
    ∙ ap (λ y. flat_map steps_of (take i items) ++ (y ∷ [])) is

pub numbers-walked : (p : Plain → Bool) (b : Bool) (t : List WSym) (l : ℕ) (s : Pairs) (kids items : List Plain) (x : Plain) (i n m : ℕ) → known t l s kids ≡ x → items ≡ kids → length items ≤ i
    → m ≡ n + sum_by size_of (take i items) → p x ≡ b
    → numbers_from p n (steps_of x) ≡ numbers_from p n (flat_map steps_of (take i items)) ++ (if b then (m ∷ []) else [])
numbers-walked p b t l s kids items x i n m is same h number test =
    let z : n + length (flat_map steps_of (take i items)) ≡ m = omega (arith, lengths-sum steps_of (take i items) length-steps_of) in
    ap (numbers_from p n) (steps-all t l s kids items x i is same h)
    ∙ numbers_from-append p n (flat_map steps_of (take i items)) (x ∷ [])
    ∙ ap (λ k. numbers_from p n (flat_map steps_of (take i items)) ++ numbers_from p k (x ∷ [])) z
    ∙ ap (λ c. numbers_from p n (flat_map steps_of (take i items)) ++ (if c then (m ∷ []) else [])) test

pub numbers-so-far : (p : Plain → Bool) (items : List Plain) (i n m : ℕ) (kid : Plain) (front now new : List ℕ) → i < length items → kid ≡ get_or items i kid
    → m ≡ n + sum_by size_of (take i items) → now ≡ front ++ numbers_from p n (flat_map steps_of (take i items)) → new ≡ now ++ numbers_from p m (steps_of kid)
    → new ≡ front ++ numbers_from p n (flat_map steps_of (take (i + 1) items))
numbers-so-far p items i n m kid front now new h at number so_far more =
    more
    ∙ ap (λ k. now ++ numbers_from p m (steps_of k)) at
    ∙ ap (λ z. z ++ numbers_from p m (steps_of (get_or items i kid))) so_far
    ∙ append_assoc front (numbers_from p n (flat_map steps_of (take i items))) (numbers_from p m (steps_of (get_or items i kid)))
    ∙ ap (λ z. front ++ z) (sym (numbers-more p steps_of n m items i kid length-steps_of h number))

pub own-kid : (bytes : List ℕ) (t : List WSym) (l : ℕ) (s : Pairs) (kids items : List Plain) (x kid : Plain) (i : ℕ) → known t l s kids ≡ x → items ≡ kids
    → HasOwnLabels bytes x → i < length items → kid ≡ get_or items i kid → HasOwnLabels bytes kid
own-kid bytes t l s kids items x kid i is same own h at =
    let all : Each (HasOwnLabels bytes) items = subst (Each (HasOwnLabels bytes)) (sym same) (own-known bytes t l s kids (subst (HasOwnLabels bytes) (sym is) own)).0 in
    subst (HasOwnLabels bytes) (sym at) (each-at (HasOwnLabels bytes) items i kid all h)

pub own-label : (bytes : List ℕ) (t : List WSym) (l : ℕ) (s : Pairs) (kids : List Plain) (x : Plain) → known t l s kids ≡ x → HasOwnLabels bytes x → l < length (labels_of bytes)
own-label bytes t l s kids x is own = (own-known bytes t l s kids (subst (HasOwnLabels bytes) (sym is) own)).1

pub pending-unless : (bytes : List ℕ) (t : List WSym) (l : ℕ) (s : Pairs) (kids : List Plain) (x : Plain) (target : List WSym) (r : Bool) → known t l s kids ≡ x
    → target ≡ t → r ≡ pointwise is_same target (applied s (statement_of bytes l)) → is_pending bytes x ≡ not r
pending-unless bytes t l s kids x target r is same test =
    ap (is_pending bytes) (sym is) ∙ is_pending-known bytes t l s kids
    ∙ ap not (sym (test ∙ ap (λ u. pointwise is_same u (applied s (statement_of bytes l))) same))

pub none-pending : (bytes : List ℕ) (t : List WSym) (x : Plain) (n : ℕ) → unknown t ≡ x → numbers_from (is_pending bytes) n (steps_of x) ≡ []
none-pending bytes t x n is =
    ap (λ y. numbers_from (is_pending bytes) n (steps_of y)) (sym is)
    ∙ ap (numbers_from (is_pending bytes) n) (steps_of-unknown t)
    ∙ ap (λ b. if b then (n ∷ []) else []) (is_pending-unknown bytes t)
