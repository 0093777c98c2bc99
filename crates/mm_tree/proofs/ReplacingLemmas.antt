-- The children that a step takes over, one after another.
use Rattle.std.proofs.Common.{zero, suc, ◌≡◌, ℕ, ◌+◌, ◌*◌, ◌≤◌, ◌<◌, max, Bool, true, false, if◌then◌else◌, List, [], ◌∷◌, ◌++◌, map, take, drop, length, get_or, refl, sym, ◌∙◌, ap, subst, arith, ◌||◌, Option, None, Some, is_some}
use Rattle.std.specs.List.{list_any, sum_by}
use Rattle.std.proofs.lemmas.List.Folds.{list_any_more, list_any_at}
use Rattle.std.specs.Cmp.Lexicographic.{pointwise}
use Rattle.std.proofs.lemmas.Bool.{true≢false}
use Rattle.std.proofs.lemmas.List.{at_drop_more, at_drop_all, map-append, take_more}
use Rattle.std.proofs.lemmas.List.Sums.{sum_by-append, sum_by-cons}
use Rattle.mm_subst.specs.declared.symbol.WSym.{WSym}
use Rattle.mm_subst.specs.Substitutions.{Pairs, applied}
use Rattle.mm_subst.specs.Symbols.{is_same}
use Rattle.mm_plain.specs.Binding.{bound}
use Rattle.mm_plain.specs.declared.plain.Plain.{Plain}
use Rattle.mm_plain.specs.Lengths.{first_long}
use Rattle.mm_plain.specs.Shape.{Each, unknown, target_of, greatest}
use Rattle.mm_plain.proofs.Binding.{bound-unknown, target_of-bound}
use Rattle.mm_tree.specs.Falls.{count-unknown}
use Rattle.mm_tree.specs.Lines.{Line}
use Rattle.mm_tree.specs.Meanings.{mean, means, mean-unknown, unknown_timed, count, youngest}
use Rattle.mm_tree.specs.Replacing.{AreChildrenWith, IsChildWith, first_with, long_at}
use Rattle.mm_tree.specs.View.{Shared, values}
use Rattle.mm_tree.specs.declared.timed.Text.{Text}
use Rattle.mm_tree.specs.declared.timed.TimedTree.{TimedTree}
use Rattle.mm_tree.proofs.Bindings.{string-new}
use Rattle.mm_tree.proofs.Longs.{bound-at, many-bound}
use Rattle.mm_tree.proofs.Shapes.{youngest-unknown}

-- the first of some kept trees, under theta
abbrev pub first_among : Pairs → Line → List Shared → List WSym → Plain
first_among theta line items t = first_with (map (bound theta) (means line (values items))) t

chosen-by : (b : Bool) (x y : Plain) → b ≡ true → (if b then x else y) ≡ x
chosen-by true x y e = refl
chosen-by false x y e = cc

passed-by : (b : Bool) (x y : Plain) → b ≡ false → (if b then x else y) ≡ y
passed-by true x y e = cc
passed-by false x y e = refl

first-next : (theta : Pairs) (line : Line) (items : List Shared) (i : ℕ) (kid : Shared) (t : List WSym) → i < length items → kid ≡ get_or items i kid
    → first_among theta line (drop i items) t ≡ (if pointwise is_same (target_of (bound theta (mean kid.value line))) t then bound theta (mean kid.value line) else first_among theta line (drop (i + 1) items) t)
first-next theta line items i kid t h is =
    at_drop_more (λ (ks : List Shared). first_among theta line ks t) items i kid h
    ∙ ap (λ (r : Shared). if pointwise is_same (target_of (bound theta (mean r.value line))) t then bound theta (mean r.value line) else first_among theta line (drop (i + 1) items) t) (sym is)

kid-young : (items : List Shared) (i : ℕ) (kid : Shared) → i < length items → kid ≡ get_or items i kid → youngest kid.value ≤ greatest (map youngest (values items))
kid-young [] i kid h is = absurd (omega arith)
kid-young (x ∷ xs) zero kid h is = omega (arith, ap (λ (r : Shared). youngest r.value) is)
kid-young (x ∷ xs) (suc i) kid h is = omega (arith, kid-young xs i kid (omega arith) is)

kid-few : (items : List Shared) (i : ℕ) (kid : Shared) → i < length items → kid ≡ get_or items i kid → count kid.value ≤ sum_by count (values items)
kid-few [] i kid h is = absurd (omega arith)
kid-few (x ∷ xs) zero kid h is = omega (arith, ap (λ (r : Shared). count r.value) is, sum_by-cons count x.value (values xs))
kid-few (x ∷ xs) (suc i) kid h is = omega (arith, kid-few xs i kid (omega arith) is, sum_by-cons count x.value (values xs))

-- a tree that proves the goal
pub child-here : (theta : Pairs) (line : Line) (items : List Shared) (i : ℕ) (kid : Shared) (goal target wanted : List WSym) (birth : ℕ) (x : TimedTree) (b : Bool) → i < length items → kid ≡ get_or items i kid
    → target ≡ applied theta (target_of (mean kid.value line)) → wanted ≡ applied theta goal → b ≡ pointwise is_same target wanted → b ≡ true → x ≡ kid.value
    → first_among theta line (drop i items) wanted ≡ first_among theta line items wanted → IsChildWith theta line (values items) goal birth x
child-here theta line items i kid goal target wanted birth x b h is t w test told same so_far =
    let y : Plain = bound theta (mean kid.value line) in
    let found : pointwise is_same (target_of y) wanted ≡ true = ap (λ s. pointwise is_same s wanted) (target_of-bound theta (mean kid.value line) ∙ sym t) ∙ sym test ∙ told in
    record {
      meaning = ap (λ (z : TimedTree). bound theta (mean z line)) same
          ∙ sym (chosen-by (pointwise is_same (target_of y) wanted) y (first_among theta line (drop (i + 1) items) wanted) found)
          ∙ sym (first-next theta line items i kid wanted h is)
          ∙ so_far
          ∙ ap (first_among theta line items) w;
      born = omega (arith, ap youngest same, kid-young items i kid h is);
      few = omega (arith, ap count same, kid-few items i kid h is);
    }

pub child-later : (theta : Pairs) (line : Line) (items : List Shared) (i : ℕ) (kid : Shared) (target wanted : List WSym) (b : Bool) → i < length items → kid ≡ get_or items i kid
    → target ≡ applied theta (target_of (mean kid.value line)) → b ≡ pointwise is_same target wanted → b ≡ false
    → first_among theta line (drop i items) wanted ≡ first_among theta line items wanted → first_among theta line (drop (i + 1) items) wanted ≡ first_among theta line items wanted
child-later theta line items i kid target wanted b h is t test told so_far =
    let y : Plain = bound theta (mean kid.value line) in
    let other : pointwise is_same (target_of y) wanted ≡ false = ap (λ s. pointwise is_same s wanted) (target_of-bound theta (mean kid.value line) ∙ sym t) ∙ sym test ∙ told in
    sym (passed-by (pointwise is_same (target_of y) wanted) y (first_among theta line (drop (i + 1) items) wanted) other)
    ∙ sym (first-next theta line items i kid wanted h is) ∙ so_far

-- where there is none
pub child-new : (theta : Pairs) (line : Line) (items : List Shared) (i : ℕ) (goal wanted : List WSym) (birth : ℕ) (t : Text) (x : TimedTree) → length items ≤ i → length line ≤ birth → wanted ≡ applied theta goal
    → t ≡ record { birth = birth; string = goal } → x ≡ unknown_timed t
    → first_among theta line (drop i items) wanted ≡ first_among theta line items wanted → IsChildWith theta line (values items) goal birth x
child-new theta line items i goal wanted birth t x h long w e is so_far =
    let new : Text = record { birth = birth; string = goal } in
    let it : x ≡ unknown_timed new = is ∙ ap unknown_timed e in
    record {
      meaning = ap (λ (z : TimedTree). bound theta (mean z line)) it
          ∙ ap (bound theta) (mean-unknown new line ∙ ap unknown (string-new line birth goal long))
          ∙ bound-unknown theta goal
          ∙ ap unknown (sym w)
          ∙ sym (at_drop_all (λ (ks : List Shared). first_among theta line ks wanted) items i h)
          ∙ so_far
          ∙ ap (first_among theta line items) w;
      born = omega (arith, ap youngest it, youngest-unknown new);
      few = omega (arith, ap count it, count-unknown new);
    }

greatest-append : (ms : List ℕ) (n : ℕ) → greatest (ms ++ n ∷ []) ≡ max (greatest ms) n
greatest-append [] n = omega arith
greatest-append (m ∷ ms) n = omega (arith, greatest-append ms n)

-- one more of several
pub children-more : (theta : Pairs) (line : Line) (olds : List TimedTree) (goals : List (List WSym)) (i birth : ℕ) (goal : List WSym) (x : TimedTree) (front now : List TimedTree) → i < length goals → goal ≡ get_or goals i []
    → sum_by count olds < 1000000 → IsChildWith theta line olds goal birth x → AreChildrenWith theta line olds (take i goals) birth front → now ≡ front ++ x ∷ []
    → AreChildrenWith theta line olds (take (i + 1) goals) birth now
children-more theta line olds goals i birth goal x front now h at small one so_far more =
    let f : List WSym → Plain = λ t. first_with (map (bound theta) (means line olds)) (applied theta t) in
    let goals_are : take (i + 1) goals ≡ take i goals ++ goal ∷ [] = take_more goals i [] h ∙ ap (λ t. take i goals ++ t ∷ []) (sym at) in
    let ms : List ℕ = map youngest front in
    record {
      meaning = ap (λ (ys : List TimedTree). map (bound theta) (means line ys)) more
          ∙ ap (map (bound theta)) (map-append (λ (y : TimedTree). mean y line) front (x ∷ []))
          ∙ map-append (bound theta) (means line front) (mean x line ∷ [])
          ∙ ap (λ (ys : List Plain). ys ++ bound theta (mean x line) ∷ []) so_far.meaning
          ∙ ap (λ (y : Plain). map f (take i goals) ++ y ∷ []) one.meaning
          ∙ sym (map-append f (take i goals) (goal ∷ []))
          ∙ ap (map f) (sym goals_are);
      born = omega (
        arith,
        ap (λ (ys : List TimedTree). greatest (map youngest ys)) more,
        ap greatest (map-append youngest front (x ∷ [])),
        greatest-append ms (youngest x),
        so_far.born,
        one.born,
      );
      few = omega (
        arith,
        ap (sum_by count) more,
        sum_by-append count front (x ∷ []),
        sum_by-cons count x [],
        so_far.few,
        one.few,
        small,
        ap length goals_are,
        length-more (take i goals) goal,
      );
    }
  where
    length-more : (ts : List (List WSym)) (t : List WSym) → length (ts ++ t ∷ []) ≡ length ts + 1
    length-more [] t = refl
    length-more (u ∷ us) t = omega (arith, length-more us t)

-- whether a string of one of several trees is too long, tree after tree

pub each-at : (P : Plain → Type 0) (xs : List Plain) (i : ℕ) (x : Plain) → i < length xs → x ≡ get_or xs i x → Each P xs → P x
each-at P [] i x h at e = absurd (omega arith)
each-at P (y ∷ ys) zero x h at e = subst P (sym at) e.0
each-at P (y ∷ ys) (suc i) x h at e = each-at P ys i x (omega arith) at e.1

abbrev pub has_long_string : List ℕ → Plain → Bool
has_long_string bytes x = is_some (first_long bytes x)

pub long-more : (bytes : List ℕ) (theta : Pairs) (items : List Plain) (i : ℕ) (kid : Plain) (o : Option ℕ) (b : Bool) → i < length items → kid ≡ get_or items i kid
    → o ≡ first_long bytes (bound theta kid) → b ≡ is_some o → b ≡ false → list_any (has_long_string bytes) (take i (map (bound theta) items)) ≡ false
    → list_any (has_long_string bytes) (take (i + 1) (map (bound theta) items)) ≡ false
long-more bytes theta items i kid o b h at e f told so_far =
    let ys : List Plain = map (bound theta) items in
    let y : Plain = bound theta kid in
    list_any_more (has_long_string bytes) ys i y (omega (arith, h, many-bound theta items))
    ∙ ap (λ (c : Bool). c || has_long_string bytes (get_or ys i y)) so_far
    ∙ ap (has_long_string bytes) (sym (bound-at theta items i kid h at))
    ∙ ap is_some (sym e) ∙ sym f ∙ told

pub long-found : (bytes : List ℕ) (theta : Pairs) (items : List Plain) (i : ℕ) (kid : Plain) (o : Option ℕ) (b : Bool) → i < length items → kid ≡ get_or items i kid
    → o ≡ first_long bytes (bound theta kid) → b ≡ is_some o → b ≡ true → true ≡ list_any (has_long_string bytes) (map (bound theta) items)
long-found bytes theta items i kid o b h at e f told =
    let ys : List Plain = map (bound theta) items in
    let y : Plain = bound theta kid in
    sym (list_any_at (has_long_string bytes) ys i y (omega (arith, h, many-bound theta items))
    (ap (has_long_string bytes) (sym (bound-at theta items i kid h at)) ∙ ap is_some (sym e) ∙ sym f ∙ told))

pub long-own : (o : Option ℕ) (b : Bool) (m n : ℕ) → is_some o ≡ false → b ≡ true → n ≡ m → Some n ≡ long_at o b m
long-own (Some s) b m n none told e = absurd (true≢false none)
long-own None true m n none told e = ap (λ (k : ℕ). Some k) e
long-own None false m n none told e = absurd (true≢false (sym told))
