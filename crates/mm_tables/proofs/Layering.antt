-- Groups by their numbers, in layers.
use Rattle.std.proofs.Common.{◌≡◌, ◌<◌, ◌≤◌, ℕ, ◌+◌, ◌-◌, Bool, true, false, ◌||◌, List, [], ◌∷◌, ◌++◌, Option, None, Some, length, map, take, get_or, All, refl, ap, sym, ◌∙◌, arith, length-append, Vec}
use Rattle.std.specs.List.{list_any}
use Rattle.std.specs.Option.{MatchOption, unwrap_or}
use Rattle.std.proofs.Math.ListN.{get_or-eq_default}
use Rattle.std.proofs.lemmas.List.{length-map, map-append, take-map, take-append-le, get_or_append_left, get_or-map}
use Rattle.std.proofs.lemmas.List.Elements.{All-tail, All-cons, All-append, All-take, All-get_or}
use Rattle.std.proofs.lemmas.List.Folds.{list_any-append}
use Rattle.std.proofs.Math.Seq.{get_or-append_seam, take-length}
use Rattle.mm_tables.specs.Texts.{texts}
use Rattle.mm_tables.specs.Layered.{Layered, pushed, begun, ended}
use Rattle.mm_tables.specs.Nesting.{Nests}
use Rattle.mm_tables.specs.Parting.{groups_of, layers_of_groups, AreBelow, Knows, IsPart, AreInLayers}
use Rattle.mm_tables.proofs.Nesting.{front_is, last_is, last, again, nests_more, nests_one_more}

below_more : (n m : ℕ) (ks : List ℕ) → n ≤ m → AreBelow n ks → AreBelow m ks
below_more n m ks h all = λ k d small. (let here = all k d small in omega (arith, here, h))

all_below_more : (n m : ℕ) (kss : List (List ℕ)) → n ≤ m → All (AreBelow n) kss → All (AreBelow m) kss
all_below_more n m kss h all = λ k d small. below_more n m (get_or kss k d) h (all k d small)

below_one : (n k : ℕ) → k < n → AreBelow n (k ∷ [])
below_one n k h = All-cons (λ m. m < n) k [] h (λ i d small. absurd (omega (arith, small)))

-- a group more changes none of those before it
groups_kept : (groups : List (List ℕ)) (g : List ℕ) (ks : List ℕ) → AreBelow (length groups) ks → groups_of (groups ++ g ∷ []) ks ≡ groups_of groups ks
groups_kept groups g [] all = refl
groups_kept groups g (k ∷ ks) all =
    let here : get_or (groups ++ g ∷ []) k [] ≡ get_or groups k [] = get_or_append_left groups (g ∷ []) [] k (all 0 k (omega arith)) in
    let rest : groups_of (groups ++ g ∷ []) ks ≡ groups_of groups ks = groups_kept groups g ks (All-tail (λ n. n < length groups) k ks all) in
    ap (λ x. x ∷ groups_of (groups ++ g ∷ []) ks) here ∙ ap (λ xs. get_or groups k [] ∷ xs) rest

blocks_kept : (groups : List (List ℕ)) (g : List ℕ) (kss : List (List ℕ)) → All (AreBelow (length groups)) kss
    → map (groups_of (groups ++ g ∷ [])) kss ≡ map (groups_of groups) kss
blocks_kept groups g [] all = refl
blocks_kept groups g (ks ∷ kss) all =
    let here : groups_of (groups ++ g ∷ []) ks ≡ groups_of groups ks = groups_kept groups g ks (all 0 ks (omega arith)) in
    let rest : map (groups_of (groups ++ g ∷ [])) kss ≡ map (groups_of groups) kss = blocks_kept groups g kss (All-tail (AreBelow (length groups)) ks kss all) in
    ap (λ x. x ∷ map (groups_of (groups ++ g ∷ [])) kss) here ∙ ap (λ xs. groups_of groups ks ∷ xs) rest

pub spare_kept : (groups : List (List ℕ)) (g : List ℕ) (l : Layered ℕ) → Knows (length groups) l → layers_of_groups (groups ++ g ∷ []) l ≡ layers_of_groups groups l
spare_kept groups g l known =
    rw (groups_kept groups g l.now known.now, blocks_kept groups g l.outer known.outer, blocks_kept groups g l.moments known.moments) refl

longer : (groups : List (List ℕ)) (g : List ℕ) → length (groups ++ g ∷ []) ≡ length groups + 1
longer groups g = length-append groups (g ∷ [])

-- a group that no number stands for
pub with_spare : (groups : List (List ℕ)) (g : List ℕ) (l : Layered ℕ) (parted : List (List ℕ)) (heights : List ℕ) → AreInLayers groups l parted heights
    → AreInLayers (groups ++ g ∷ []) l parted heights
with_spare groups g l parted heights are =
    let more : length groups ≤ length (groups ++ g ∷ []) = omega (arith, longer groups g) in
    record {
      knows = record {
        now = below_more (length groups) (length (groups ++ g ∷ [])) l.now more are.knows.now;
        outer = all_below_more (length groups) (length (groups ++ g ∷ [])) l.outer more are.knows.outer;
        moments = all_below_more (length groups) (length (groups ++ g ∷ [])) l.moments more are.knows.moments;
      };
      now = are.now ∙ sym (groups_kept groups g l.now are.knows.now);
      nests = are.nests;
    }

now_with : (groups : List (List ℕ)) (g : List ℕ) (ks : List ℕ) (number : ℕ) → number ≡ length groups → AreBelow (length groups) ks
    → groups_of (groups ++ g ∷ []) (ks ++ number ∷ []) ≡ groups_of groups ks ++ g ∷ []
now_with groups g ks number h all =
    let gs = groups ++ g ∷ [] in
    let newest : get_or gs number [] ≡ g = ap (λ n. get_or gs n []) h ∙ get_or-append_seam groups g [] [] in
    map-append (λ n. get_or gs n []) ks (number ∷ [])
    ∙ ap (λ xs. xs ++ get_or gs number [] ∷ []) (groups_kept groups g ks all)
    ∙ ap (λ x. groups_of groups ks ++ x ∷ []) newest

-- a group comes into force
pub pushes : (groups : List (List ℕ)) (g : List ℕ) (l : Layered ℕ) (number : ℕ) → number ≡ length groups → Knows (length groups) l
    → layers_of_groups (groups ++ g ∷ []) (pushed l (number ∷ [])) ≡ pushed (layers_of_groups groups l) (g ∷ [])
pushes groups g l number h known =
    rw (now_with groups g l.now number h known.now, blocks_kept groups g l.outer known.outer, blocks_kept groups g l.moments known.moments) refl

last_below : (n : ℕ) (kss : List (List ℕ)) → All (AreBelow n) kss → AreBelow n (get_or kss (length kss - 1) [])
last_below n [] all = λ i d small. absurd (omega (arith, small))
last_below n (ks ∷ kss) all = All-get_or (AreBelow n) (ks ∷ kss) (length (ks ∷ kss) - 1) [] (omega arith) all

-- the number that a list gives away, 0 where it is empty
pub last_of : (heights : List ℕ) (n k : ℕ) (last : Option ℕ) → n ≡ length heights → (0 < n → last ≡ Some (get_or heights (n - 1) 0))
    → MatchOption last ((n ≡ 0) × (k ≡ 0)) (λ _. k + 1 ≡ n) → unwrap_or last 0 ≡ get_or heights (length heights - 1) 0
last_of heights n k None len h cases = sym (get_or-eq_default heights 0 (omega (arith, cases.0, len)))
last_of heights n k (Some x) len h cases =
    let same : Some x ≡ Some (get_or heights (n - 1) 0) = h (omega (arith, cases)) in
    let given : x ≡ get_or heights (n - 1) 0 = cc in
    given ∙ ap (λ m. get_or heights (m - 1) 0) len

-- the innermost block ends
pub in_ended : (groups : List (List ℕ)) (l : Layered ℕ) (parted : List (List ℕ)) (heights : List ℕ) (height : ℕ) → AreInLayers groups l parted heights
    → height ≡ get_or heights (length heights - 1) 0
    → AreInLayers groups (ended l) (take height parted) (take (length heights - 1) heights)
in_ended groups l parted heights height are h =
    let after = again IsPart [] heights l.outer l.now refl are.nests in
    let top : height ≡ last 0 heights = h ∙ last_is 0 heights in
    let block : get_or l.outer (length l.outer - 1) [] ≡ take height l.now = last_is [] l.outer ∙ after.block ∙ ap (λ n. take n l.now) (sym top) in
    record {
      knows = record {
        now = last_below (length groups) l.outer are.knows.outer;
        outer = All-take (AreBelow (length groups)) (length l.outer - 1) l.outer are.knows.outer;
        moments = are.knows.moments;
      };
      now = ap (take height) are.now ∙ take-map (λ n. get_or groups n []) height l.now ∙ ap (groups_of groups) (sym block);
      nests = rw (front_is heights, front_is l.outer, last_is [] l.outer, after.block) after.nests;
    }

-- a block begins
pub in_begun : (groups : List (List ℕ)) (l : Layered ℕ) (parted : List (List ℕ)) (heights : List ℕ) → AreInLayers groups l parted heights
    → AreInLayers groups (begun l) parted (heights ++ length parted ∷ [])
in_begun groups l parted heights are =
    let len : length parted ≡ length l.now = ap length are.now ∙ length-map l.now (λ n. get_or groups n []) in
    record {
      knows = record {
        now = are.knows.now;
        outer = All-append (AreBelow (length groups)) l.outer (l.now ∷ []) are.knows.outer
            (All-cons (AreBelow (length groups)) l.now [] are.knows.now (λ i d small. absurd (omega (arith, small))));
        moments = are.knows.moments;
      };
      now = are.now;
      nests = rw len (nests_one_more IsPart 0 heights l.outer l.now l.now (sym (take-length l.now)) are.nests);
    }

-- a group comes into force
pub in_pushed : (groups : List (List ℕ)) (g : List ℕ) (l : Layered ℕ) (parted : List (List ℕ)) (heights : List ℕ) (number : ℕ)
    → AreInLayers groups l parted heights → number ≡ length groups
    → AreInLayers (groups ++ g ∷ []) (pushed l (number ∷ [])) (parted ++ g ∷ []) heights
in_pushed groups g l parted heights number are h =
    let spare = with_spare groups g l parted heights are in
    let small : number < length (groups ++ g ∷ []) = omega (arith, longer groups g, h) in
    record {
      knows = record {
        now = All-append (λ k. k < length (groups ++ g ∷ [])) l.now (number ∷ []) spare.knows.now (below_one (length (groups ++ g ∷ [])) number small);
        outer = spare.knows.outer;
        moments = spare.knows.moments;
      };
      now = ap (λ ps. ps ++ g ∷ []) are.now ∙ sym (now_with groups g l.now number h are.knows.now);
      nests = nests_more IsPart 0 heights l.outer l.now (number ∷ []) are.nests;
    }

pub in_none : AreInLayers [] (record { now = []; outer = []; moments = [] }) [] []
unfolding Nests
in_none = record {
  knows = record {
    now = λ i d small. absurd (omega (arith, small));
    outer = λ i d small. absurd (omega (arith, small));
    moments = λ i d small. absurd (omega (arith, small));
  };
  now = refl;
  nests = omega arith;
}

-- what was added goes again
pub taken_off : (parted : List (List ℕ)) (g : List ℕ) (before : ℕ) → before ≡ length parted → take before (parted ++ g ∷ []) ≡ parted
taken_off parted g before h = rw h (take-append-le (length parted) parted (g ∷ []) (omega arith) ∙ take-length parted)

-- the numbers that a walk has still to see
abbrev pub left_of : Option (List ℕ × ℕ) → List ℕ
left_of None = []
left_of (Some p) = p.0 ++ p.1 ∷ []

pub left_is : (older : List ℕ) (r : Option (List ℕ × ℕ)) → MatchOption r (older ≡ []) (λ p. older ≡ p.0 ++ p.1 ∷ []) → left_of r ≡ older
left_is older None h = sym h
left_is older (Some p) h = sym h

pub below_last : (n : ℕ) (ks : List ℕ) (k : ℕ) → AreBelow n (ks ++ k ∷ []) → k < n
below_last n ks k all =
    let here : get_or (ks ++ k ∷ []) (length ks) k < n = all (length ks) k (omega (arith, length-append ks (k ∷ []))) in
    rw (get_or-append_seam ks k [] k) at here

pub below_front : (n : ℕ) (ks : List ℕ) (k : ℕ) → AreBelow n (ks ++ k ∷ []) → AreBelow n ks
below_front n ks k all = λ i d small.
    let here : get_or (ks ++ k ∷ []) i d < n = all i d (omega (arith, small, length-append ks (k ∷ []))) in
    rw (get_or_append_left ks (k ∷ []) d i small) at here

-- the group of a number, where groups are owned
pub group_is : {Z : Type 0} (groups : List (Vec ℕ Z)) (k : ℕ) (g : Vec ℕ Z) → k < length groups → g ≡ get_or groups k g → get_or (texts groups) k [] ≡ g.items
group_is groups k g h e = get_or-map (λ v. v.items) groups k g [] h ∙ ap (λ v. v.items) (sym e)

-- the newest group passes, or one below it
pub one_passes : (p : List ℕ → Bool) (groups : List (List ℕ)) (ks : List ℕ) (k : ℕ)
    → list_any p (groups_of groups (ks ++ k ∷ [])) ≡ (list_any p (groups_of groups ks) || (p (get_or groups k []) || false))
one_passes p groups ks k = ap (list_any p) (map-append (λ n. get_or groups n []) ks (k ∷ [])) ∙ list_any-append p (groups_of groups ks) (get_or groups k [] ∷ [])

pub or_true : (a b : Bool) → b ≡ true → (a || (b || false)) ≡ true
or_true true b h = refl
or_true false b h = rw h refl

pub or_false : (a b : Bool) → b ≡ false → (a || (b || false)) ≡ a
or_false true b h = refl
or_false false b h = rw h refl
