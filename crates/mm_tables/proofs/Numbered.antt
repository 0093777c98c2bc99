-- The numbers of the groups that hold a variable.
use Rattle.std.proofs.Common.{◌≡◌, ◌<◌, ◌≤◌, ℕ, zero, suc, ◌+◌, ◌-◌, Bool, true, false, cond, ◌||◌, ◌&&◌, List, [], ◌∷◌, ◌++◌, length, map, filter, take, drop, subst, get_or, set, nat_eq, refl, ap, sym, ◌∙◌, arith, length-append, append_assoc, Vec, not}
use Rattle.std.specs.List.{list_any}
use Rattle.std.specs.Result.{OnErr}
use Rattle.std.specs.Prelude.{Result, Ok, Err}
use Rattle.std.proofs.lemmas.Grind.{common_steps}
use Rattle.std.proofs.lemmas.Bool.{eqb-true}
use Rattle.std.proofs.lemmas.List.{get_or-set_same, set-get_or, map-set, get_or-map, take-take, length-take-le, take_at, take_all, drop_more, drop_all, map-append, length-map, append-nil}
use Rattle.std.proofs.lemmas.List.Elements.{filter_more}
use Rattle.std.proofs.Math.Bool.{and-true, and-false, or-false}
use Rattle.std.proofs.lemmas.List.Folds.{list_any-append}
use Rattle.mm_tables.specs.Texts.{texts}
use Rattle.mm_tables.specs.Distinct.{is_held, holds_both}
use Rattle.mm_tables.specs.Numbering.{numbers_of, copies, numbers_from, shorter, AreNumbers, share, AtLeast, IsRising}

-- one group more
pub numbers_push : (first : ℕ) (gs : List (List ℕ)) (g : List ℕ) (v : ℕ)
    → numbers_from first (gs ++ g ∷ []) v ≡ numbers_from first gs v ++ copies (first + length gs) g v
numbers_push first [] g v = append-nil (copies first g v) ∙ ap (λ n. copies n g v) (omega arith)
numbers_push first (h ∷ gs) g v =
    ap (λ xs. copies first h v ++ xs) (numbers_push (suc first) gs g v)
    ∙ sym (append_assoc (copies first h v) (numbers_from (suc first) gs v) (copies (suc first + length gs) g v))
    ∙ ap (λ n. (copies first h v ++ numbers_from (suc first) gs v) ++ copies n g v) (omega arith)

-- and taken away again
pub shorter_back : (xs ys : List ℕ) (n : ℕ) → length ys ≡ n → shorter n (xs ++ ys) ≡ xs
shorter_back xs ys n h = take_at xs ys (length (xs ++ ys) - n) (omega (arith, length-append xs ys, h))

pub shorter_copies : (xs : List ℕ) (number : ℕ) (g : List ℕ) (v : ℕ) → shorter (length (filter (λ m. nat_eq v m) g)) (xs ++ copies number g v) ≡ xs
shorter_copies xs number g v = shorter_back xs (copies number g v) (length (filter (λ m. nat_eq v m) g)) (length-map (filter (λ m. nat_eq v m) g) (λ _. number))

pub shorter_more : (a b : ℕ) (xs : List ℕ) → shorter b (shorter a xs) ≡ shorter (a + b) xs
shorter_more a b xs =
    let len : length (take (length xs - a) xs) ≡ length xs - a = length-take-le (length xs - a) xs (omega arith) in
    ap (λ n. take (n - b) (take (length xs - a) xs)) len
    ∙ take-take ((length xs - a) - b) (length xs - a) xs (omega arith)
    ∙ ap (λ n. take n xs) (omega arith)

pub shorter_none : (xs : List ℕ) → shorter 0 xs ≡ xs
shorter_none xs = take_all (length xs - 0) xs (omega arith)

-- a loop's step: one variable more of a group
pub shorter_step : (g : List ℕ) (i : ℕ) (d n : ℕ) (xs : List ℕ) → i < length g
    → shorter (length (filter (λ m. nat_eq n m) (get_or g i d ∷ []))) (shorter (length (filter (λ m. nat_eq n m) (take i g))) xs)
    ≡ shorter (length (filter (λ m. nat_eq n m) (take (i + 1) g))) xs
shorter_step g i d n xs h =
    shorter_more (length (filter (λ m. nat_eq n m) (take i g))) (length (filter (λ m. nat_eq n m) (get_or g i d ∷ []))) xs
    ∙ ap (λ k. shorter k xs) (sym (ap length (filter_more (λ m. nat_eq n m) g i d h) ∙ length-append (filter (λ m. nat_eq n m) (take i g)) (filter (λ m. nat_eq n m) (get_or g i d ∷ []))))

pub copies_step : (number : ℕ) (g : List ℕ) (i : ℕ) (d n : ℕ) (xs : List ℕ) → i < length g
    → (xs ++ copies number (take i g) n) ++ copies number (get_or g i d ∷ []) n ≡ xs ++ copies number (take (i + 1) g) n
copies_step number g i d n xs h =
    append_assoc xs (copies number (take i g) n) (copies number (get_or g i d ∷ []) n)
    ∙ ap (λ ys. xs ++ ys) (sym (ap (λ ys. map (λ _. number) ys) (filter_more (λ m. nat_eq n m) g i d h)
    ∙ map-append (λ _. number) (filter (λ m. nat_eq n m) (take i g)) (filter (λ m. nat_eq n m) (get_or g i d ∷ []))))

other : (hs : List (List ℕ)) (place n : ℕ) (ys : List ℕ) → nat_eq n place ≡ false → get_or (set hs place ys) n [] ≡ get_or hs n []
other hs place n ys h = grind (arith, common_steps, h)

-- one variable's numbers are changed
put_by : (hs : List (List ℕ)) (place number n : ℕ) (b : Bool) → place < length hs → nat_eq n place ≡ b
    → get_or (set hs place (get_or hs place [] ++ number ∷ [])) n [] ≡ get_or hs n [] ++ map (λ (_ : ℕ). number) (cond b (place ∷ []) [])
put_by hs place number n true h e =
    let same : n ≡ place = eqb-true n place e in
    rw same (get_or-set_same hs place (get_or hs place [] ++ number ∷ []) [] h)
put_by hs place number n false h e =
    other hs place n (get_or hs place [] ++ number ∷ []) e ∙ sym (append-nil (get_or hs n []))

pub numbers_put : (hs : List (List ℕ)) (place number n : ℕ) → place < length hs
    → numbers_of (set hs place (numbers_of hs place ++ number ∷ [])) n ≡ numbers_of hs n ++ copies number (place ∷ []) n
numbers_put hs place number n h = put_by hs place number n (nat_eq n place) h refl

remove_by : (hs : List (List ℕ)) (place n : ℕ) (b : Bool) → place < length hs → nat_eq n place ≡ b
    → get_or (set hs place (shorter 1 (get_or hs place []))) n [] ≡ shorter (length (cond b (place ∷ []) [])) (get_or hs n [])
remove_by hs place n true h e =
    let same : n ≡ place = eqb-true n place e in
    rw same (get_or-set_same hs place (shorter 1 (get_or hs place [])) [] h)
remove_by hs place n false h e = other hs place n (shorter 1 (get_or hs place [])) e ∙ sym (shorter_none (get_or hs n []))

pub numbers_remove : (hs : List (List ℕ)) (place n : ℕ) → place < length hs
    → numbers_of (set hs place (shorter 1 (numbers_of hs place))) n ≡ shorter (length (filter (λ m. nat_eq n m) (place ∷ []))) (numbers_of hs n)
numbers_remove hs place n h = remove_by hs place n (nat_eq n place) h refl

read : {Z : Type 0} (vs : List (Vec ℕ Z)) (i : ℕ) (old : Vec ℕ Z) → i < length vs → old ≡ get_or vs i old → old.items ≡ get_or (texts vs) i []
read vs i old h e = ap (λ v. v.items) e ∙ sym (get_or-map (λ v. v.items) vs i old [] h)

written : {Z : Type 0} (vs : List (Vec ℕ Z)) (i : ℕ) (new : Vec ℕ Z) (ys : List ℕ) → new.items ≡ ys → texts (set vs i new) ≡ set (texts vs) i ys
written vs i new ys e = map-set (λ v. v.items) vs i new ∙ ap (λ y. set (texts vs) i y) e

-- a write to the vector of one variable
pub put_ok : {Z : Type 0} (vs : List (Vec ℕ Z)) (i number n : ℕ) (old new : Vec ℕ Z) (now : List (List ℕ)) → i < length vs → old ≡ get_or vs i old
    → new.items ≡ old.items ++ number ∷ [] → texts vs ≡ now → numbers_of (texts (set vs i new)) n ≡ numbers_of now n ++ copies number (i ∷ []) n
put_ok vs i number n old new now h e w s =
    let small : i < length (texts vs) = omega (arith, h, length-map vs (λ v. v.items)) in
    ap (λ hs. numbers_of hs n) (written vs i new (numbers_of (texts vs) i ++ number ∷ []) (w ∙ ap (λ y. y ++ number ∷ []) (read vs i old h e)))
    ∙ numbers_put (texts vs) i number n small ∙ ap (λ hs. numbers_of hs n ++ copies number (i ∷ []) n) s

pub put_err : {Z : Type 0} (vs : List (Vec ℕ Z)) (i n : ℕ) (old new : Vec ℕ Z) (now : List (List ℕ)) → i < length vs → old ≡ get_or vs i old
    → new.items ≡ old.items → texts vs ≡ now → numbers_of (texts (set vs i new)) n ≡ numbers_of now n
put_err vs i n old new now h e w s =
    ap (λ hs. numbers_of hs n) (written vs i new (get_or (texts vs) i []) (w ∙ read vs i old h e) ∙ set-get_or (texts vs) i [] ∙ s)

pub removed : {Z : Type 0} (vs : List (Vec ℕ Z)) (i n : ℕ) (old new : Vec ℕ Z) (now : List (List ℕ)) → i < length vs → old ≡ get_or vs i old
    → new.items ≡ shorter 1 old.items → texts vs ≡ now
    → numbers_of (texts (set vs i new)) n ≡ shorter (length (filter (λ m. nat_eq n m) (i ∷ []))) (numbers_of now n)
removed vs i n old new now h e w s =
    let small : i < length (texts vs) = omega (arith, h, length-map vs (λ v. v.items)) in
    ap (λ hs. numbers_of hs n) (written vs i new (shorter 1 (numbers_of (texts vs) i)) (w ∙ ap (λ y. shorter 1 y) (read vs i old h e)))
    ∙ numbers_remove (texts vs) i n small ∙ ap (λ hs. shorter (length (filter (λ m. nat_eq n m) (i ∷ []))) (numbers_of hs n)) s

-- room for a variable more
pub roomier : (hs : List (List ℕ)) (n : ℕ) → numbers_of (hs ++ [] ∷ []) n ≡ numbers_of hs n
roomier [] zero = refl
roomier [] (suc n) = refl
roomier (h ∷ hs) zero = refl
roomier (h ∷ hs) (suc n) = roomier hs n

-- the newest group is taken off
pub popped : (kept new gs : List (List ℕ)) (g : List ℕ) → AreNumbers kept (gs ++ g ∷ [])
    → ((v : ℕ) → numbers_of new v ≡ shorter (length (filter (λ m. nat_eq v m) g)) (numbers_of kept v)) → AreNumbers new gs
popped kept new gs g are h = λ v.
    h v ∙ ap (λ xs. shorter (length (filter (λ m. nat_eq v m) g)) xs) (are v ∙ numbers_push 0 gs g v)
    ∙ shorter_copies (numbers_from 0 gs v) (0 + length gs) g v

-- a group is put on top
pub pushed : (kept new gs : List (List ℕ)) (g : List ℕ) (number : ℕ) → number ≡ length gs → AreNumbers kept gs
    → ((v : ℕ) → numbers_of new v ≡ numbers_of kept v ++ copies number g v) → AreNumbers new (gs ++ g ∷ [])
pushed kept new gs g number e are h = λ v.
    h v ∙ ap (λ xs. xs ++ copies number g v) (are v) ∙ ap (λ n. numbers_from 0 gs v ++ copies n g v) (omega (arith, e)) ∙ sym (numbers_push 0 gs g v)

-- and taken off again
pub undone : (kept new last gs : List (List ℕ)) (g : List ℕ) (number : ℕ) → AreNumbers kept gs
    → ((v : ℕ) → numbers_of new v ≡ numbers_of kept v ++ copies number g v)
    → ((v : ℕ) → numbers_of last v ≡ shorter (length (filter (λ m. nat_eq v m) g)) (numbers_of new v)) → AreNumbers last gs
undone kept new last gs g number are h back = λ v.
    back v ∙ ap (λ xs. shorter (length (filter (λ m. nat_eq v m) g)) xs) (h v) ∙ shorter_copies (numbers_of kept v) number g v ∙ are v

differs : (n m : ℕ) → n < m → nat_eq n m ≡ false
differs n m h = grind (arith, h)

differs_above : (n m : ℕ) → m < n → nat_eq n m ≡ false
differs_above n m h = grind (arith, h)

or_assoc : (a b c : Bool) → (a || (b || c)) ≡ ((a || b) || c)
or_assoc true b c = refl
or_assoc false b c = refl

absorbs : (a b : Bool) → (b || (a && b)) ≡ b
absorbs true true = refl
absorbs true false = refl
absorbs false true = refl
absorbs false false = refl

any_by : (q : ℕ → Bool) (number x : ℕ) (xs : List ℕ) (here rest b : Bool) → list_any q (map (λ (_ : ℕ). number) xs) ≡ (rest && q number)
    → list_any q (map (λ (_ : ℕ). number) (cond b (x ∷ xs) xs)) ≡ ((b || rest) && q number)
any_by q number x xs here rest true e = ap (λ r. q number || r) e ∙ absorbs rest (q number)
any_by q number x xs here rest false e = e

any_copies : (q : ℕ → Bool) (number : ℕ) (g : List ℕ) (u : ℕ) → list_any q (copies number g u) ≡ (is_held g u && q number)
any_copies q number [] u = refl
any_copies q number (x ∷ g) u = any_by q number x (filter (λ m. nat_eq u m) g) true (is_held g u) (nat_eq u x) (any_copies q number g u)

-- a number below a bound is not among those that are not
none_below : (k n : ℕ) (xs : List ℕ) → n < k → AtLeast k xs → is_held xs n ≡ false
none_below k n [] h all = refl
none_below k n (x ∷ xs) h all = ap (λ b. b || is_held xs n) (differs n x (omega (arith, all.0))) ∙ none_below k n xs h all.1

at_least_weaker : (j k : ℕ) (xs : List ℕ) → j ≤ k → AtLeast k xs → AtLeast j xs
at_least_weaker j k [] h all = tt
at_least_weaker j k (x ∷ xs) h all = (omega (arith, all.0), at_least_weaker j k xs h all.1)

at_least_before : (k : ℕ) (zs rest : List ℕ) → AtLeast k rest → AtLeast k (map (λ (_ : ℕ). k) zs ++ rest)
at_least_before k [] rest h = h
at_least_before k (z ∷ zs) rest h = (omega arith, at_least_before k zs rest h)

rising_before : (k : ℕ) (zs rest : List ℕ) → AtLeast k rest → IsRising rest → IsRising (map (λ (_ : ℕ). k) zs ++ rest)
rising_before k [] rest h r = r
rising_before k (z ∷ zs) rest h r = (at_least_before k zs rest h, rising_before k zs rest h r)

numbers_at_least : (first : ℕ) (gs : List (List ℕ)) (v : ℕ) → AtLeast first (numbers_from first gs v)
numbers_at_least first [] v = tt
numbers_at_least first (g ∷ gs) v =
    at_least_before first (filter (λ m. nat_eq v m) g) (numbers_from (suc first) gs v)
    (at_least_weaker first (suc first) (numbers_from (suc first) gs v) (omega arith) (numbers_at_least (suc first) gs v))

pub numbers_rise : (first : ℕ) (gs : List (List ℕ)) (v : ℕ) → IsRising (numbers_from first gs v)
numbers_rise first [] v = tt
numbers_rise first (g ∷ gs) v =
    rising_before first (filter (λ m. nat_eq v m) g) (numbers_from (suc first) gs v)
    (at_least_weaker first (suc first) (numbers_from (suc first) gs v) (omega arith) (numbers_at_least (suc first) gs v))
    (numbers_rise (suc first) gs v)

same_number : (n : ℕ) → nat_eq n n ≡ true
same_number n = grind arith

-- the first group's number is among a variable's numbers where that group holds it
first_held : (first : ℕ) (g : List ℕ) (rest : List ℕ) (v : ℕ) → AtLeast (suc first) rest → is_held (copies first g v ++ rest) first ≡ is_held g v
first_held first g rest v h =
    list_any-append (λ m. nat_eq first m) (copies first g v) rest
    ∙ ap (λ b. b || is_held rest first) (any_copies (λ m. nat_eq first m) first g v ∙ ap (λ b. is_held g v && b) (same_number first) ∙ and-true (is_held g v))
    ∙ ap (λ b. is_held g v || b) (none_below (suc first) first rest (omega arith) h) ∙ or-false (is_held g v)

-- and no later number is
later_held : (first : ℕ) (g : List ℕ) (rest : List ℕ) (v n : ℕ) → first < n → is_held (copies first g v ++ rest) n ≡ is_held rest n
later_held first g rest v n h =
    list_any-append (λ m. nat_eq n m) (copies first g v) rest
    ∙ ap (λ b. b || is_held rest n) (any_copies (λ m. nat_eq n m) first g v ∙ ap (λ b. is_held g v && b) (differs_above n first h) ∙ and-false (is_held g v))

later_shared : (first : ℕ) (g : List ℕ) (rest : List ℕ) (v : ℕ) (xs : List ℕ) → AtLeast (suc first) xs → share xs (copies first g v ++ rest) ≡ share xs rest
later_shared first g rest v [] h = refl
later_shared first g rest v (x ∷ xs) h =
    ap (λ b. b || share xs (copies first g v ++ rest)) (later_held first g rest v x (omega (arith, h.0)))
    ∙ ap (λ b. is_held rest x || b) (later_shared first g rest v xs h.1)

-- a number is common to two variables where its group holds both
pub shared : (first : ℕ) (gs : List (List ℕ)) (u v : ℕ) → share (numbers_from first gs u) (numbers_from first gs v) ≡ list_any (holds_both u v) gs
shared first [] u v = refl
shared first (g ∷ gs) u v =
    let later : List ℕ = numbers_from (suc first) gs u in
    let others : List ℕ = numbers_from (suc first) gs v in
    list_any-append (λ x. is_held (copies first g v ++ others) x) (copies first g u) later
    ∙ ap (λ b. b || share later (copies first g v ++ others))
    (any_copies (λ x. is_held (copies first g v ++ others) x) first g u
    ∙ ap (λ b. is_held g u && b) (first_held first g others v (numbers_at_least (suc first) gs v)))
    ∙ ap (λ b. (is_held g u && is_held g v) || b)
    (later_shared first g others v later (numbers_at_least (suc first) gs u) ∙ shared (suc first) gs u v)

-- the steps of a merge
pub share_same : (x : ℕ) (xs ys : List ℕ) → share (x ∷ xs) (x ∷ ys) ≡ true
share_same x xs ys = ap (λ b. (b || is_held ys x) || share xs (x ∷ ys)) (same_number x)

pub share_left : (x y : ℕ) (xs ys : List ℕ) → x < y → IsRising (y ∷ ys) → share (x ∷ xs) (y ∷ ys) ≡ share xs (y ∷ ys)
share_left x y xs ys h r = ap (λ b. b || share xs (y ∷ ys)) (none_below y x (y ∷ ys) h (omega arith, r.0))

skip : (k y : ℕ) (xs ys : List ℕ) → y < k → AtLeast k xs → share xs (y ∷ ys) ≡ share xs ys
skip k y [] ys h all = refl
skip k y (x ∷ xs) ys h all =
    ap (λ b. (b || is_held ys x) || share xs (y ∷ ys)) (differs_above x y (omega (arith, all.0)))
    ∙ ap (λ b. is_held ys x || b) (skip k y xs ys h all.1)

pub share_right : (x y : ℕ) (xs ys : List ℕ) → y < x → IsRising (x ∷ xs) → share (x ∷ xs) (y ∷ ys) ≡ share (x ∷ xs) ys
share_right x y xs ys h r = skip x y (x ∷ xs) ys h (omega arith, r.0)

pub share_none : (xs : List ℕ) → share xs [] ≡ false
share_none [] = refl
share_none (x ∷ xs) = share_none xs

not_zero : (n : ℕ) → nat_eq (suc n) 0 ≡ false
not_zero n = grind arith

some_number : (xs ys : List ℕ) → not (nat_eq (length (xs ++ ys)) 0) ≡ (not (nat_eq (length xs) 0) || not (nat_eq (length ys) 0))
some_number [] ys = refl
some_number (x ∷ xs) ys = ap not (not_zero (length (xs ++ ys))) ∙ sym (ap (λ b. not b || not (nat_eq (length ys) 0)) (not_zero (length xs)))

some_copy : (number : ℕ) (g : List ℕ) (v : ℕ) → not (nat_eq (length (copies number g v)) 0) ≡ is_held g v
some_copy number [] v = refl
some_copy number (x ∷ g) v = by (nat_eq v x) (some_copy number g v)
  where
    by : (b : Bool) → not (nat_eq (length (copies number g v)) 0) ≡ is_held g v
        → not (nat_eq (length (map (λ (_ : ℕ). number) (cond b (x ∷ filter (λ m. nat_eq v m) g) (filter (λ m. nat_eq v m) g)))) 0) ≡ (b || is_held g v)
    by true e = ap not (not_zero (length (map (λ (_ : ℕ). number) (filter (λ m. nat_eq v m) g))))
    by false e = e

-- some group holds a variable that has a number
pub held_somewhere : (first : ℕ) (gs : List (List ℕ)) (v : ℕ) → not (nat_eq (length (numbers_from first gs v)) 0) ≡ list_any (λ g. is_held g v) gs
held_somewhere first [] v = refl
held_somewhere first (g ∷ gs) v =
    some_number (copies first g v) (numbers_from (suc first) gs v)
    ∙ ap (λ b. b || not (nat_eq (length (numbers_from (suc first) gs v)) 0)) (some_copy first g v)
    ∙ ap (λ b. is_held g v || b) (held_somewhere (suc first) gs v)

pub on_err : {T E : Type 0} (r : Result T E) (P : Type 0) → P → OnErr r P
on_err (Ok x) P p = tt
on_err (Err e) P p = p

-- what a merge of two rising lists keeps, where it has come to these places
pub record IsMerging (xs ys : List ℕ) (i j : ℕ) : Type 0 where
  pub same : share (drop i xs) (drop j ys) ≡ share xs ys
  pub left : IsRising (drop i xs)
  pub right : IsRising (drop j ys)

pub step_left : (xs ys : List ℕ) (i j : ℕ) → IsMerging xs ys i j → i < length xs → j < length ys → get_or xs i 0 < get_or ys j 0 → IsMerging xs ys (i + 1) j
step_left xs ys i j m hi hj below =
    let ei : drop i xs ≡ get_or xs i 0 ∷ drop (i + 1) xs = drop_more xs i 0 hi in
    let ej : drop j ys ≡ get_or ys j 0 ∷ drop (j + 1) ys = drop_more ys j 0 hj in
    let left : IsRising (get_or xs i 0 ∷ drop (i + 1) xs) = let P : List ℕ → Type 0 = λ l. IsRising l in subst P ei m.left in
    let right : IsRising (get_or ys j 0 ∷ drop (j + 1) ys) = let P : List ℕ → Type 0 = λ l. IsRising l in subst P ej m.right in
    record {
      same = ap (λ l. share (drop (i + 1) xs) l) ej ∙ sym (share_left (get_or xs i 0) (get_or ys j 0) (drop (i + 1) xs) (drop (j + 1) ys) below right)
          ∙ sym (ap (λ l. share l (get_or ys j 0 ∷ drop (j + 1) ys)) ei) ∙ sym (ap (λ l. share (drop i xs) l) ej) ∙ m.same;
      left = left.1;
      right = m.right;
    }

pub step_right : (xs ys : List ℕ) (i j : ℕ) → IsMerging xs ys i j → i < length xs → j < length ys → get_or ys j 0 < get_or xs i 0 → IsMerging xs ys i (j + 1)
step_right xs ys i j m hi hj below =
    let ei : drop i xs ≡ get_or xs i 0 ∷ drop (i + 1) xs = drop_more xs i 0 hi in
    let ej : drop j ys ≡ get_or ys j 0 ∷ drop (j + 1) ys = drop_more ys j 0 hj in
    let left : IsRising (get_or xs i 0 ∷ drop (i + 1) xs) = let P : List ℕ → Type 0 = λ l. IsRising l in subst P ei m.left in
    let right : IsRising (get_or ys j 0 ∷ drop (j + 1) ys) = let P : List ℕ → Type 0 = λ l. IsRising l in subst P ej m.right in
    record {
      same = ap (λ l. share l (drop (j + 1) ys)) ei ∙ sym (share_right (get_or xs i 0) (get_or ys j 0) (drop (i + 1) xs) (drop (j + 1) ys) below left)
          ∙ sym (ap (λ l. share l (get_or ys j 0 ∷ drop (j + 1) ys)) ei) ∙ sym (ap (λ l. share (drop i xs) l) ej) ∙ m.same;
      left = m.left;
      right = right.1;
    }

pub met : (xs ys : List ℕ) (i j : ℕ) → IsMerging xs ys i j → i < length xs → j < length ys → get_or xs i 0 ≡ get_or ys j 0 → share xs ys ≡ true
met xs ys i j m hi hj e =
    sym m.same ∙ ap (λ l. share l (drop j ys)) (drop_more xs i 0 hi) ∙ ap (λ l. share (get_or xs i 0 ∷ drop (i + 1) xs) l) (drop_more ys j 0 hj)
    ∙ ap (λ x. share (get_or xs i 0 ∷ drop (i + 1) xs) (x ∷ drop (j + 1) ys)) (sym e) ∙ share_same (get_or xs i 0) (drop (i + 1) xs) (drop (j + 1) ys)

pub ended_left : (xs ys : List ℕ) (i j : ℕ) → IsMerging xs ys i j → length xs ≤ i → share xs ys ≡ false
ended_left xs ys i j m h = sym m.same ∙ ap (λ l. share l (drop j ys)) (drop_all i xs h)

pub ended_right : (xs ys : List ℕ) (i j : ℕ) → IsMerging xs ys i j → length ys ≤ j → share xs ys ≡ false
ended_right xs ys i j m h = sym m.same ∙ ap (λ l. share (drop i xs) l) (drop_all j ys h) ∙ share_none (drop i xs)
