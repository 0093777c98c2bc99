-- Changes of values, as they come into force and go.
use Rattle.std.proofs.Common.{◌≡◌, ◌≤◌, ◌<◌, ◌^◌, ℕ, zero, suc, ◌+◌, ◌-◌, ◌%◌, Bool, true, false, not, cond, ◌||◌, List, [], ◌∷◌, ◌++◌, length, take, drop, map, filter, get_or, nat_le, nat_eq, All, refl, ap, sym, ◌∙◌, subst, arith, length-append, append_assoc, inl, inr}
use Rattle.std.specs.Prelude.{Result, Ok, Err, OnOk, OnErr}
use Rattle.std.specs.List.{list_any, AllWithin}
use Rattle.std.specs.List.Sorted.{IsNonDecreasing, IsPartitionPoint}
use Rattle.std.proofs.lemmas.Bool.{eqb-true, cases_lt}
use Rattle.std.proofs.lemmas.List.{append-nil, take-append-drop, get_or_append_left, take_all, length-drop}
use Rattle.std.proofs.lemmas.List.Elements.{filter-append, All-append, All-cons, All-nil, All-tail, All-head, All-weaker}
use Rattle.std.proofs.lemmas.List.Folds.{list_any-append}
use Rattle.std.proofs.lemmas.List.Sorted.{IsNonDecreasingBy-push, IsNonDecreasingBy-short}
use Rattle.std.proofs.Math.Seq.{get_or-append_seam}
use Rattle.mm_tables.specs.Layered.{Layered, nothing, pushed, begun, ended, marked}
use Rattle.mm_tables.specs.Numbering.{numbers_of, copies}
use Rattle.mm_tables.specs.Changes.{is_now, was_at, HasOnce, AreChanges}
use Rattle.mm_tables.specs.Nesting.{Nests}
use Rattle.mm_tables.proofs.Nesting.{last, front_is, last_is, again, nests_more, nests_one_more}

abbrev turned : Bool → Bool → Bool
turned a b = cond a (not b) b

not_turned : (a b : Bool) → not (turned a b) ≡ turned (not a) b
not_turned true true = refl
not_turned true false = refl
not_turned false b = refl

turned_none : (a : Bool) → turned a false ≡ a
turned_none true = refl
turned_none false = refl

is_now-append : (cs ds : List ℕ) → is_now (cs ++ ds) ≡ turned (is_now cs) (is_now ds)
is_now-append [] ds = refl
is_now-append (c ∷ cs) ds = ap not (is_now-append cs ds) ∙ not_turned (is_now cs) (is_now ds)

was_by : (k c : ℕ) (cs ds : List ℕ) (b : Bool) → was_at k (cs ++ ds) ≡ turned (was_at k cs) (was_at k ds)
    → cond b (not (was_at k (cs ++ ds))) (was_at k (cs ++ ds)) ≡ turned (cond b (not (was_at k cs)) (was_at k cs)) (was_at k ds)
was_by k c cs ds true h = ap not h ∙ not_turned (was_at k cs) (was_at k ds)
was_by k c cs ds false h = h

was_at-append : (k : ℕ) (cs ds : List ℕ) → was_at k (cs ++ ds) ≡ turned (was_at k cs) (was_at k ds)
was_at-append k [] ds = refl
was_at-append k (c ∷ cs) ds = was_by k c cs ds (nat_le c k) (was_at-append k cs ds)

reached : (c k : ℕ) → c ≤ k → nat_le c k ≡ true
reached c k h = grind (arith, h)

not_reached : (c k : ℕ) → k < c → nat_le c k ≡ false
not_reached c k h = grind (arith, h)

-- after all changes
was_now : (k : ℕ) (cs : List ℕ) → All (λ c. c ≤ k) cs → was_at k cs ≡ is_now cs
was_now k [] all = refl
was_now k (c ∷ cs) all =
    rw (reached c k (All-head (λ c. c ≤ k) c cs all)) (ap not (was_now k cs (All-tail (λ c. c ≤ k) c cs all)))

-- before all changes
was_none : (k : ℕ) (cs : List ℕ) → All (λ c. k < c) cs → was_at k cs ≡ false
was_none k [] all = refl
was_none k (c ∷ cs) all =
    rw (not_reached c k (All-head (λ c. k < c) c cs all)) (was_none k cs (All-tail (λ c. k < c) c cs all))

all_copies : (P : ℕ → Type 0) (m : ℕ) (vs : List ℕ) → P m → All P (map (λ (_ : ℕ). m) vs)
all_copies P m [] h = All-nil P
all_copies P m (v ∷ vs) h = All-cons P m (map (λ (_ : ℕ). m) vs) h (all_copies P m vs h)

-- changes before the next moment do not tell of those that were
was_kept : (k m : ℕ) (cs vs : List ℕ) → k < m → was_at k (cs ++ map (λ (_ : ℕ). m) vs) ≡ was_at k cs
was_kept k m cs vs h =
    was_at-append k cs (map (λ (_ : ℕ). m) vs)
    ∙ ap (turned (was_at k cs)) (was_none k (map (λ (_ : ℕ). m) vs) (all_copies (λ c. k < c) m vs h))
    ∙ turned_none (was_at k cs)

past_more : (m : ℕ) (cs vs : List ℕ) → All (λ c. c ≤ m) cs → All (λ c. c ≤ m) (cs ++ map (λ (_ : ℕ). m) vs)
past_more m cs vs all = All-append (λ c. c ≤ m) cs (map (λ (_ : ℕ). m) vs) all (all_copies (λ c. c ≤ m) m vs (omega arith))

rising_more : (m : ℕ) (cs vs : List ℕ) → All (λ c. c ≤ m) cs → IsNonDecreasing cs → IsNonDecreasing (cs ++ map (λ (_ : ℕ). m) vs)
rising_more m cs [] all up = rw (append-nil cs) up
rising_more m cs (v ∷ vs) all up =
    let one_up : IsNonDecreasing (cs ++ m ∷ []) = IsNonDecreasingBy-push (λ x. x) cs m up (λ d some. all (length cs - 1) d (omega arith)) in
    rw (← append_assoc cs (m ∷ []) (map (λ (_ : ℕ). m) vs)) (rising_more m (cs ++ m ∷ []) vs (past_more m cs (v ∷ []) all) one_up)

-- a list of one value or none, in two parts
one_goes : (v m : ℕ) (now block : Bool) (gone : List ℕ) → cond now (v ∷ []) [] ≡ cond block (v ∷ []) [] ++ gone
    → turned now (is_now (map (λ (_ : ℕ). m) gone)) ≡ block
one_goes v m true true [] h = refl
one_goes v m true true (w ∷ ws) h = cc
one_goes v m true false gone h = rw (← h) refl
one_goes v m false true gone h = cc
one_goes v m false false gone h = rw (← h) refl

module _ (l : Layered ℕ) (changes new : List (List ℕ)) (standing heights : List ℕ) (are : AreChanges l changes standing heights) where
  -- nothing changes
  pub kept : ((v : ℕ) → numbers_of new v ≡ numbers_of changes v) → AreChanges l new standing heights
  kept same = record {
    once = are.once;
    nests = are.nests;
    now = λ v. rw (same v) (are.now v);
    earlier = λ v k h. rw (same v) (are.earlier v k h);
    rising = λ v. rw (same v) (are.rising v);
    past = λ v. rw (same v) (are.past v);
    small = are.small;
  }

  -- a block begins
  pub opens : AreChanges (begun l) changes standing (heights ++ length standing ∷ [])
  opens = record {
    once = are.once;
    nests = nests_one_more HasOnce 0 heights l.outer standing l.now (rw (take_all (length standing) standing (omega arith)) are.once) are.nests;
    now = are.now;
    earlier = are.earlier;
    rising = are.rising;
    past = are.past;
    small = are.small;
  }

  next : (v k : ℕ) → k < length (l.moments ++ l.now ∷ []) → was_at k (numbers_of changes v) ≡ list_any (nat_eq v) (get_or (l.moments ++ l.now ∷ []) k [])
  next v k h = elim (cases_lt k (length l.moments)) [
    | inl before ↦ are.earlier v k before ∙ ap (list_any (nat_eq v)) (sym (get_or_append_left l.moments (l.now ∷ []) [] k before))
    | inr here ↦
        let last : k ≡ length l.moments = omega (arith, here, h, length-append l.moments (l.now ∷ [])) in
        was_now k (numbers_of changes v) (subst (λ n. All (λ c. c ≤ n) (numbers_of changes v)) (sym last) (are.past v))
        ∙ are.now v
        ∙ ap (list_any (nat_eq v)) (sym (ap (λ n. get_or (l.moments ++ l.now ∷ []) n []) last ∙ get_or-append_seam l.moments l.now [] []))
  ]

  -- a moment is noted
  pub notes : length l.moments + 1 < 2 ^ 32 → AreChanges (marked l) changes standing heights
  notes few = record {
    once = are.once;
    nests = are.nests;
    now = are.now;
    earlier = next;
    rising = are.rising;
    past = λ v. All-weaker (λ c. c ≤ length l.moments) (λ c. c ≤ length (l.moments ++ l.now ∷ [])) (λ c h. omega (arith, h, length-append l.moments (l.now ∷ []))) (numbers_of changes v) (are.past v);
    small = omega (arith, few, length-append l.moments (l.now ∷ []));
  }

  pub noted_or_not : length l.moments + 1 < 2 ^ 32 → {E : Type 0} (r : Result (Unit {0}) E) (l2 : Layered ℕ) → OnOk r (l2 ≡ marked l) → OnErr r (l2 ≡ l) → AreChanges l2 changes standing heights
  noted_or_not few (Ok u) l2 ok err = rw ok (notes few)
  noted_or_not few (Err e) l2 ok err = rw err are

  again_now : (w : ℕ) → list_any (nat_eq w) l.now ≡ true → (v : ℕ) → list_any (nat_eq v) (l.now ++ w ∷ []) ≡ list_any (nat_eq v) l.now
  again_now w h v = list_any-append (nat_eq v) l.now (w ∷ []) ∙ by (nat_eq v w) refl
    where
      by : (b : Bool) → nat_eq v w ≡ b → (list_any (nat_eq v) l.now || (b || false)) ≡ list_any (nat_eq v) l.now
      by true e = let same : v ≡ w = eqb-true v w e in rw (same, h) refl
      by false e = or_none (list_any (nat_eq v) l.now)
        where
          or_none : (b : Bool) → (b || false) ≡ b
          or_none true = refl
          or_none false = refl

  -- a value comes that is in force
  pub comes_again : (w : ℕ) → list_any (nat_eq w) l.now ≡ true → AreChanges (pushed l (w ∷ [])) changes standing heights
  comes_again w h = record {
    once = λ v. rw (again_now w h v) (are.once v);
    nests = are.nests;
    now = λ v. rw (again_now w h v) (are.now v);
    earlier = are.earlier;
    rising = are.rising;
    past = are.past;
    small = are.small;
  }

  came_once : (w : ℕ) → list_any (nat_eq w) l.now ≡ false → HasOnce (standing ++ w ∷ []) (l.now ++ w ∷ [])
  came_once w h v = filter-append (nat_eq v) standing (w ∷ []) ∙ ap (λ vs. vs ++ cond (nat_eq v w) (w ∷ []) []) (are.once v) ∙ by (nat_eq v w) refl ∙ ap (λ b. cond b (v ∷ []) []) (sym (list_any-append (nat_eq v) l.now (w ∷ [])))
    where
      by : (b : Bool) → nat_eq v w ≡ b → cond (list_any (nat_eq v) l.now) (v ∷ []) [] ++ cond b (w ∷ []) [] ≡ cond (list_any (nat_eq v) l.now || (b || false)) (v ∷ []) []
      by true e = let same : v ≡ w = eqb-true v w e in rw (same, h) refl
      by false e = in_force (list_any (nat_eq v) l.now)
        where
          in_force : (b : Bool) → cond b (v ∷ []) [] ++ [] ≡ cond (b || false) (v ∷ []) []
          in_force true = refl
          in_force false = refl

  came_now : (w : ℕ) → list_any (nat_eq w) l.now ≡ false → (v m : ℕ)
      → turned (list_any (nat_eq v) l.now) (is_now (copies m (w ∷ []) v)) ≡ list_any (nat_eq v) (l.now ++ w ∷ [])
  came_now w h v m = by (nat_eq v w) refl ∙ sym (list_any-append (nat_eq v) l.now (w ∷ []))
    where
      by : (b : Bool) → nat_eq v w ≡ b → turned (list_any (nat_eq v) l.now) (is_now (map (λ (_ : ℕ). m) (cond b (w ∷ []) []))) ≡ (list_any (nat_eq v) l.now || (b || false))
      by true e = let same : v ≡ w = eqb-true v w e in rw (same, h) refl
      by false e = in_force (list_any (nat_eq v) l.now)
        where
          in_force : (b : Bool) → turned b false ≡ (b || false)
          in_force true = refl
          in_force false = refl

  -- a value comes that is not
  pub comes : (w : ℕ) → list_any (nat_eq w) l.now ≡ false → ((v : ℕ) → numbers_of new v ≡ numbers_of changes v ++ copies (length l.moments) (w ∷ []) v)
      → AreChanges (pushed l (w ∷ [])) new (standing ++ w ∷ []) heights
  comes w h more =
      let m : ℕ = length l.moments in
      record {
        once = came_once w h;
        nests = nests_more HasOnce 0 heights l.outer standing (w ∷ []) are.nests;
        now = λ v.
            ap is_now (more v)
            ∙ is_now-append (numbers_of changes v) (copies m (w ∷ []) v)
            ∙ ap (λ b. turned b (is_now (copies m (w ∷ []) v))) (are.now v)
            ∙ came_now w h v m;
        earlier = λ v k small. ap (was_at k) (more v) ∙ was_kept k m (numbers_of changes v) (filter (nat_eq v) (w ∷ [])) small ∙ are.earlier v k small;
        rising = λ v. rw (more v) (rising_more m (numbers_of changes v) (filter (nat_eq v) (w ∷ [])) (are.past v) (are.rising v));
        past = λ v. rw (more v) (past_more m (numbers_of changes v) (filter (nat_eq v) (w ∷ [])) (are.past v));
        small = are.small;
      }

  none_once : HasOnce [] []
  none_once v = refl

  -- the innermost block ends
  pub closes : (height : ℕ) → height ≡ get_or heights (length heights - 1) 0
      → ((v : ℕ) → numbers_of new v ≡ numbers_of changes v ++ copies (length l.moments) (drop height standing) v)
      → AreChanges (ended l) new (take height standing) (take (length heights - 1) heights)
  closes height h more =
      let m : ℕ = length l.moments in
      let after = again HasOnce [] heights l.outer standing none_once are.nests in
      let top : height ≡ last 0 heights = h ∙ last_is 0 heights in
      let block : HasOnce (take height standing) (get_or l.outer (length l.outer - 1) []) = rw (top, last_is [] l.outer) after.block in
      record {
        once = block;
        nests = rw (front_is heights, front_is l.outer, top) after.nests;
        now = λ v.
            ap is_now (more v)
            ∙ is_now-append (numbers_of changes v) (copies m (drop height standing) v)
            ∙ ap (λ b. turned b (is_now (copies m (drop height standing) v))) (are.now v)
            ∙ one_goes v m (list_any (nat_eq v) l.now) (list_any (nat_eq v) (get_or l.outer (length l.outer - 1) [])) (filter (nat_eq v) (drop height standing))
            (sym (are.once v) ∙ ap (filter (nat_eq v)) (sym (take-append-drop height standing)) ∙ filter-append (nat_eq v) (take height standing) (drop height standing)
            ∙ ap (λ vs. vs ++ filter (nat_eq v) (drop height standing)) (block v));
        earlier = λ v k small. ap (was_at k) (more v) ∙ was_kept k m (numbers_of changes v) (filter (nat_eq v) (drop height standing)) small ∙ are.earlier v k small;
        rising = λ v. rw (more v) (rising_more m (numbers_of changes v) (filter (nat_eq v) (drop height standing)) (are.past v) (are.rising v));
        past = λ v. rw (more v) (past_more m (numbers_of changes v) (filter (nat_eq v) (drop height standing)) (are.past v));
        small = are.small;
      }

  -- and no block began with more than there are
  pub closes_own : (height : ℕ) → height ≡ get_or heights (length heights - 1) 0 → height ≤ length standing
  closes_own height h =
      let after = again HasOnce [] heights l.outer standing none_once are.nests in
      omega (arith, after.own, h, last_is 0 heights)

pub no_changes : AreChanges nothing [] [] []
unfolding Nests
no_changes = record {
  once = λ v. refl;
  nests = omega arith;
  now = λ v. none_of v;
  earlier = λ v k h. absurd (omega (arith, h));
  rising = λ v. subst (λ cs. IsNonDecreasing cs) (sym (numbers_none v)) (IsNonDecreasingBy-short (λ x. x) [] (omega arith));
  past = λ v. subst (λ cs. All (λ c. c ≤ 0) cs) (sym (numbers_none v)) (All-nil (λ c. c ≤ 0));
  small = omega arith;
}
  where
    numbers_none : (v : ℕ) → numbers_of [] v ≡ []
    numbers_none zero = refl
    numbers_none (suc v) = refl

    none_of : (v : ℕ) → is_now (numbers_of [] v) ≡ false
    none_of v = ap is_now (numbers_none v)

-- whether a number is odd, one by one
abbrev odd : ℕ → Bool
odd zero = false
odd (suc n) = not (odd n)

rest_or_not : (n : ℕ) (b : Bool) → nat_eq (n % 2) 1 ≡ b → nat_eq (suc n % 2) 1 ≡ not b
rest_or_not n true h = grind arith
rest_or_not n false h = grind arith

odd_is : (n : ℕ) → nat_eq (n % 2) 1 ≡ odd n
odd_is zero = refl
odd_is (suc n) = rest_or_not n (odd n) (odd_is n)

now_is : (cs : List ℕ) → odd (length cs) ≡ is_now cs
now_is [] = refl
now_is (c ∷ cs) = ap not (now_is cs)

-- a value is in force after an odd number of changes
pub is_odd : (cs : List ℕ) → nat_eq (length cs % 2) 1 ≡ is_now cs
is_odd cs = odd_is (length cs) ∙ now_is cs

-- the changes up to a moment are the first ones
first_ones : (k p : ℕ) (cs : List ℕ) → p ≤ length cs → AllWithin (λ c. nat_le c k ≡ true) cs 0 p → AllWithin (λ c. nat_le c k ≡ false) cs p (length cs) → odd p ≡ was_at k cs
first_ones k zero [] h low high = refl
first_ones k (suc p) [] h low high = absurd (omega (arith, h))
first_ones k zero (c ∷ cs) h low high =
    rw (high 0 c (omega arith) (omega arith)) (first_ones k zero cs (omega arith) (λ i d a b. absurd (omega (arith, b))) (λ i d a b. high (suc i) d (omega arith) (omega (arith, b))))
first_ones k (suc p) (c ∷ cs) h low high =
    rw (low 0 c (omega arith) (omega arith))
    (ap not (first_ones k p cs (omega (arith, h)) (λ i d a b. low (suc i) d (omega arith) (omega (arith, b))) (λ i d a b. high (suc i) d (omega (arith, a)) (omega (arith, b)))))

pub up_to : (k p : ℕ) (cs : List ℕ) → p ≤ length cs → IsPartitionPoint (λ c. nat_le c k ≡ true) (λ c. nat_le c k ≡ false) cs p → nat_eq (p % 2) 1 ≡ was_at k cs
up_to k p cs h split = odd_is p ∙ first_ones k p cs h split.0 split.1

pub take_rest : (n : ℕ) (xs : List ℕ) → take (length xs - n) (drop n xs) ≡ drop n xs
take_rest n xs = take_all (length xs - n) (drop n xs) (omega (arith, length-drop n xs))
