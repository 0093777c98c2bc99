-- What a step back or forward makes of the lists.
use Rattle.std.proofs.Common.{zero, suc, ◌≡◌, ℕ, ◌+◌, ◌-◌, ◌≤◌, ◌<◌, Bool, true, false, List, [], ◌∷◌, ◌++◌, map, take, drop, length, Option, Some, None, refl, sym, ap, subst, ◌∙◌, arith, length-append, length-drop, take_all}
use Rattle.std.specs.List.{All, AllByRecursion as ByRecursion, slice_get}
use Rattle.std.proofs.lemmas.List.{map-append, drop-append-le, drop-drop, drop_all}
use Rattle.std.proofs.lemmas.List.Elements.{All-from_recursion, recursion_from_All, All-append, All-drop, All-nil}
use Rattle.mm_plain.specs.Shape.{Proof}
use Rattle.mm_tree.specs.Versions.{Versions, IsAlive, IsKept, KeepsMarks, KeepsOlder, KeepsUpTo, HasNoDrafts, StandsAt, BeginsAlike, is_draft, named}
use Rattle.mm_tree.specs.declared.tree.Mark.{Mark}
use Rattle.mm_undo.specs.Histories.{Marks, Place, KeepsSettled, IsLasting, IsHistoryOf, IsMarkOfBeginning, IsNoLater, AreInOrder, IsUndone, IsRedone, lists_of, place_of, beginning}
use Rattle.mm_undo.proofs.Orders.{place-by, stands, before, moved-on, pushed, cut-marks, map-newest, places_by, stepped}

abbrev pub record-by : List Mark → List Mark → ℕ → Marks
record-by past future depth = record { past = past; future = future; depth = depth }

some-is : (y z : Mark) → Some y ≡ Some z → y ≡ z
some-is y z e = ap (λ (o : Option Mark). or_else o y) e
  where
    or_else : Option Mark → Mark → Mark
    or_else None d = d
    or_else (Some m) d = m

not-none : (y : Mark) → Some y ≡ None → ⊥
not-none y e = subst holds e tt
  where
    holds : Option Mark → Type 0
    holds None = ⊥
    holds (Some m) = Unit {0}

-- the last of a list, and the others
pub last-split : (xs : List Mark) (y : Mark) → Some y ≡ slice_get xs (length xs - 1) → xs ≡ take (length xs - 1) xs ++ y ∷ []
last-split [] y e = absurd (not-none y e)
last-split (x ∷ []) y e =
    let z : length (x ∷ []) - 1 ≡ 0 = omega arith in
    ap (λ (m : Mark). m ∷ []) (sym (some-is y x (e ∙ ap (slice_get (x ∷ [])) z))) ∙ ap (λ (n : ℕ). take n (x ∷ []) ++ y ∷ []) (sym z)
last-split (x ∷ w ∷ xs) y e =
    let z : length (x ∷ w ∷ xs) - 1 ≡ suc (length (w ∷ xs) - 1) = omega arith in
    ap (λ (l : List Mark). x ∷ l) (last-split (w ∷ xs) y (e ∙ ap (slice_get (x ∷ w ∷ xs)) z)) ∙ ap (λ (n : ℕ). take n (x ∷ w ∷ xs) ++ y ∷ []) (sym z)

pub none-last : (xs : List Mark) → None ≡ slice_get xs (length xs - 1) → xs ≡ []
none-last [] e = refl
none-last (x ∷ xs) e = absurd (past (x ∷ xs) (length (x ∷ xs) - 1) (omega arith) (sym e))
  where
    past : (ys : List Mark) (i : ℕ) → i < length ys → slice_get ys i ≡ None → ⊥
    past [] i h f = absurd (omega arith)
    past (y ∷ ys) zero h f = not-none y f
    past (y ∷ ys) (suc i) h f = past ys i (omega arith) f

pub first-split : (xs : List Mark) (y : Mark) → Some y ≡ slice_get xs 0 → xs ≡ y ∷ drop 1 xs
first-split [] y e = absurd (not-none y e)
first-split (x ∷ xs) y e = ap (λ (m : Mark). m ∷ xs) (sym (some-is y x e))

pub none-first : (xs : List Mark) → None ≡ slice_get xs 0 → xs ≡ []
none-first [] e = refl
none-first (x ∷ xs) e = absurd (not-none x (sym e))

pub keep-all : {X : Type 0} (n : ℕ) (xs : List X) → length xs ≤ n → drop (length xs - n) xs ≡ xs
keep-all n xs h = let z : length xs - n ≡ 0 = omega arith in ap (λ (k : ℕ). drop k xs) z

pub keeps-lasting : (v w : Versions) (n : Mark) → KeepsUpTo n v w → KeepsSettled v w
keeps-lasting v w n keeps m settled alive = keeps m (λ t. absurd (differ (sym settled ∙ t))) alive
  where
    told : Bool → Type 0
    told true = ⊥
    told false = Unit {0}

    differ : false ≡ true → ⊥
    differ e = subst told e tt

kept-list : (v w : Versions) (ms : List Mark) → KeepsSettled v w → ByRecursion (IsLasting v) ms → ByRecursion (IsLasting w) ms
kept-list v w [] keeps h = tt
kept-list v w (m ∷ ms) keeps h = (record { settled = h.0.settled; alive = (keeps m h.0.settled h.0.alive).alive }, kept-list v w ms keeps h.1)

same-list : (v w : Versions) (ms : List Mark) → KeepsSettled v w → ByRecursion (IsLasting v) ms → map (named w) ms ≡ map (named v) ms
same-list v w [] keeps h = refl
same-list v w (m ∷ ms) keeps h = ap (λ p. p ∷ map (named w) ms) (keeps m h.0.settled h.0.alive).same ∙ ap (λ l. named v m ∷ l) (same-list v w ms keeps h.1)

pub lasting-kept : (v w : Versions) (ms : List Mark) → KeepsSettled v w → All (IsLasting v) ms → All (IsLasting w) ms
lasting-kept v w ms keeps h = All-from_recursion (IsLasting w) ms (kept-list v w ms keeps (recursion_from_All (IsLasting v) ms h))

pub names-kept : (v w : Versions) (ms : List Mark) → KeepsSettled v w → All (IsLasting v) ms → map (named w) ms ≡ map (named v) ms
names-kept v w ms keeps h = same-list v w ms keeps (recursion_from_All (IsLasting v) ms h)

-- parts of such a list
front : (v : Versions) (xs ys : List Mark) → ByRecursion (IsLasting v) (xs ++ ys) → ByRecursion (IsLasting v) xs × ByRecursion (IsLasting v) ys
front v [] ys h = (tt, h)
front v (x ∷ xs) ys h = let r = front v xs ys h.1 in ((h.0, r.0), r.1)

pub lasting-front : (v : Versions) (xs ys : List Mark) → All (IsLasting v) (xs ++ ys) → All (IsLasting v) xs × All (IsLasting v) ys
lasting-front v xs ys h = let r = front v xs ys (recursion_from_All (IsLasting v) (xs ++ ys) h) in (All-from_recursion (IsLasting v) xs r.0, All-from_recursion (IsLasting v) ys r.1)

pub lasting-one : (v : Versions) (m : Mark) → IsLasting v m → All (IsLasting v) (m ∷ [])
lasting-one v m h = All-from_recursion (IsLasting v) (m ∷ []) (h, tt)

pub lasting-head : (v : Versions) (m : Mark) → All (IsLasting v) (m ∷ []) → IsLasting v m
lasting-head v m h = (recursion_from_All (IsLasting v) (m ∷ []) h).0

pub take-none : {X : Type 0} (n : ℕ) (xs : List X) → xs ≡ [] → take n xs ≡ xs
take-none n xs e = take_all n xs (omega (arith, ap length e))

pub drop-none : {X : Type 0} (n : ℕ) (xs : List X) → xs ≡ [] → drop n xs ≡ xs
drop-none n xs e = drop_all n xs (omega (arith, ap length e)) ∙ sym e

-- one step back
pub record IsStep (v w : Versions) (h now : Marks) (p q : Proof) : Type 0 where
  pub undone : IsUndone true (lists_of v h) (lists_of w now) p q
  pub held : IsHistoryOf w now
  pub settled : HasNoDrafts w

pub stepped-back : (v w : Versions) (h now : Marks) (earlier later : Mark) (p q : Proof) → h.past ≡ now.past ++ earlier ∷ [] → now.future ≡ later ∷ h.future → now.depth ≡ h.depth → IsHistoryOf v h
    → (is_draft earlier ≡ false → KeepsSettled v w × HasNoDrafts w) → IsLasting v later → named v later ≡ p → q ≡ named v earlier
    → place_of later ≡ beginning v → (HasNoDrafts w → place_of earlier ≡ beginning w) → IsStep v w h now p q
stepped-back v w h now earlier later p q past future depth holds keeps lasting is-p is-q left to =
    let parts = lasting-front v now.past (earlier ∷ []) (subst (All (IsLasting v)) past holds.past) in
    let kept = keeps (lasting-head v earlier parts.1).settled in
    let coming : All (IsLasting v) now.future = subst (All (IsLasting v)) (sym future) (All-append (IsLasting v) (later ∷ []) h.future (lasting-one v later lasting) holds.future) in
    record {
      undone = (
        ap (map (named v)) past ∙ map-append (named v) now.past (earlier ∷ [])
            ∙ ap (λ (l : List Proof). l ++ named v earlier ∷ []) (sym (names-kept v w now.past kept.0 parts.0))
            ∙ ap (λ (r : Proof). map (named w) now.past ++ r ∷ []) (sym is-q),
        names-kept v w now.future kept.0 coming ∙ ap (map (named v)) future ∙ ap (λ (r : Proof). r ∷ map (named v) h.future) is-p,
        depth,
      );
      held = record {
        past = lasting-kept v w now.past kept.0 parts.0;
        future = lasting-kept v w now.future kept.0 coming;
        order = subst AreInOrder (ap (λ (l : List Mark). places_by l (beginning v) h.future) past
            ∙ stepped now.past earlier (beginning w) (beginning v) later h.future (to kept.1) left
            ∙ ap (λ (l : List Mark). places_by now.past (beginning w) l) (sym future)) holds.order;
      };
      settled = kept.1;
    }

-- and one forward
pub record IsStepOn (v w : Versions) (h now : Marks) (p q : Proof) : Type 0 where
  pub redone : IsRedone true (lists_of v h) (lists_of w now) p q
  pub held : IsHistoryOf w now
  pub settled : HasNoDrafts w

pub stepped-on : (v w : Versions) (h now : Marks) (earlier later : Mark) (p q : Proof) → h.future ≡ later ∷ now.future → now.past ≡ h.past ++ earlier ∷ [] → now.depth ≡ h.depth → IsHistoryOf v h
    → (is_draft later ≡ false → KeepsSettled v w × HasNoDrafts w) → IsLasting v earlier → named v earlier ≡ p → q ≡ named v later
    → place_of earlier ≡ beginning v → (HasNoDrafts w → place_of later ≡ beginning w) → IsStepOn v w h now p q
stepped-on v w h now earlier later p q future past depth holds keeps lasting is-p is-q left to =
    let parts = lasting-front v (later ∷ []) now.future (subst (All (IsLasting v)) future holds.future) in
    let kept = keeps (lasting-head v later parts.0).settled in
    let gone : All (IsLasting v) now.past = subst (All (IsLasting v)) (sym past) (All-append (IsLasting v) h.past (earlier ∷ []) holds.past (lasting-one v earlier lasting)) in
    record {
      redone = (
        ap (map (named v)) future
            ∙ ap (λ (l : List Proof). named v later ∷ l) (sym (names-kept v w now.future kept.0 parts.1))
            ∙ ap (λ (r : Proof). r ∷ map (named w) now.future) (sym is-q),
        names-kept v w now.past kept.0 gone ∙ ap (map (named v)) past ∙ map-append (named v) h.past (earlier ∷ []) ∙ ap (λ (r : Proof). map (named v) h.past ++ r ∷ []) is-p,
        depth,
      );
      held = record {
        past = lasting-kept v w now.past kept.0 gone;
        future = lasting-kept v w now.future kept.0 parts.1;
        order = subst AreInOrder (ap (λ (l : List Mark). places_by h.past (beginning v) l) future
            ∙ sym (stepped h.past earlier (beginning v) (beginning w) later now.future left (to kept.1))
            ∙ ap (λ (l : List Mark). places_by l (beginning w) now.future) (sym past)) holds.order;
      };
      settled = kept.1;
    }

no-marks : (v : Versions) → All (IsLasting v) []
no-marks v = All-nil (IsLasting v)

-- no versions
pub held-empty : (v : Versions) (depth : ℕ) → IsHistoryOf v (record-by [] [] depth)
held-empty v depth = record { past = no-marks v; future = no-marks v; order = tt }

-- the newest of the past, and no future
pub held-newest : (v : Versions) (h : Marks) (k depth : ℕ) → IsHistoryOf v h → IsHistoryOf v (record-by (drop k h.past) [] depth)
held-newest v h k depth holds = record {
  past = All-drop (IsLasting v) k h.past holds.past;
  future = no-marks v;
  order = cut-marks k h.past (beginning v ∷ []) (moved-on (map place_of h.past) (beginning v) (beginning v) (map place_of h.future) holds.order (omega arith, omega arith));
}

-- one more mark, of the version at which the drafts begin, and no future
pub held-more : (v : Versions) (h : Marks) (m : Mark) (depth : ℕ) → IsHistoryOf v h → IsMarkOfBeginning v m → IsHistoryOf v (record-by (h.past ++ m ∷ []) [] depth)
held-more v h m depth holds b = record {
  past = All-append (IsLasting v) h.past (m ∷ []) holds.past (lasting-one v m b.lasting);
  future = no-marks v;
  order = subst (λ (l : List Place). AreInOrder (l ++ beginning v ∷ [])) (ap (λ (r : Place). map place_of h.past ++ r ∷ []) (sym b.place) ∙ sym (map-append place_of h.past (m ∷ [])))
      (pushed (map place_of h.past) (beginning v) (beginning v) (map place_of h.future) holds.order (omega arith, omega arith));
}

-- the drafts made lasting
older-list : (v w : Versions) (ms : List Mark) → KeepsOlder v w → ByRecursion (IsLasting v) ms → ByRecursion (λ p. IsNoLater p (beginning v)) (map place_of ms)
    → ByRecursion (IsLasting w) ms × (map (named w) ms ≡ map (named v) ms)
older-list v w [] keeps h o = (tt, refl)
older-list v w (m ∷ ms) keeps h o =
    let k : IsKept v w m = keeps m h.0.settled o.0.0 o.0.1 h.0.alive in
    let r = older-list v w ms keeps h.1 o.1 in
    ((record { settled = h.0.settled; alive = k.alive }, r.0), ap (λ p. p ∷ map (named w) ms) k.same ∙ ap (λ l. named v m ∷ l) r.1)

abbrev pub IsLater : Versions → Versions → Type 0
IsLater v w = IsNoLater (beginning v) (beginning w)

pub record IsMadeLasting (v w : Versions) (h : Marks) : Type 0 where
  pub held : IsHistoryOf w h
  pub same : map (named w) h.past ≡ map (named v) h.past

pub made-lasting : (v w : Versions) (h : Marks) → h.future ≡ [] → IsHistoryOf v h → KeepsOlder v w → IsLater v w → IsMadeLasting v w h
made-lasting v w h none holds keeps later =
    let r = older-list v w h.past keeps (recursion_from_All (IsLasting v) h.past holds.past) (before (map place_of h.past) (beginning v) (map place_of h.future) holds.order) in
    record {
      held = record {
        past = All-from_recursion (IsLasting w) h.past r.0;
        future = subst (All (IsLasting w)) (sym none) (no-marks w);
        order = subst (λ (l : List Mark). AreInOrder (places_by h.past (beginning w) l)) (sym none) (moved-on (map place_of h.past) (beginning v) (beginning w) (map place_of h.future) holds.order later);
      };
      same = r.1;
    }

pub newest-proofs : (v : Versions) (past : List Mark) (m : Mark) (depth : ℕ)
    → map (named v) (drop (length (past ++ m ∷ []) - depth) (past ++ m ∷ [])) ≡ drop (length (map (named v) past ++ named v m ∷ []) - depth) (map (named v) past ++ named v m ∷ [])
newest-proofs v past m depth = map-newest (named v) depth (past ++ m ∷ [])
    ∙ ap (λ (l : List Proof). drop (length l - depth) l) (map-append (named v) past (m ∷ []))

-- what edits keep
pub begins : (v w : Versions) → BeginsAlike v w → beginning w ≡ beginning v
begins v w b = place-by b.0 b.1

pub held-kept : (v w : Versions) (h : Marks) → KeepsSettled v w → beginning w ≡ beginning v → IsHistoryOf v h → IsHistoryOf w h
held-kept v w h keeps b holds = record {
  past = lasting-kept v w h.past keeps holds.past;
  future = lasting-kept v w h.future keeps holds.future;
  order = subst (λ (p : Place). AreInOrder (places_by h.past p h.future)) (sym b) holds.order;
}

pub lists-kept : (v w : Versions) (h : Marks) → KeepsSettled v w → IsHistoryOf v h → lists_of w h ≡ lists_of v h
lists-kept v w h keeps holds = λ i. record { past = names-kept v w h.past keeps holds.past i; future = names-kept v w h.future keeps holds.future i; depth = h.depth }

pub keeps-edited : (v w : Versions) → KeepsMarks v w → KeepsSettled v w
keeps-edited v w keeps m settled alive = keeps m alive

pub begun-kept : (v w : Versions) (m : Mark) → KeepsSettled v w → beginning w ≡ beginning v → IsMarkOfBeginning v m → IsMarkOfBeginning w m
begun-kept v w m keeps b h = record {
  lasting = record { settled = h.lasting.settled; alive = (keeps m h.lasting.settled h.lasting.alive).alive };
  place = h.place ∙ sym b;
}

pub begun-marked : (v : Versions) (m : Mark) → HasNoDrafts v → is_draft m ≡ false → IsAlive v m → StandsAt v m.root m.length → IsMarkOfBeginning v m
begun-marked v m none settled alive at = record { lasting = record { settled = settled; alive = alive }; place = stands v m none at }

pub marks-by : {past past' future future' : List Mark} {depth depth' : ℕ} → past ≡ past' → future ≡ future' → depth ≡ depth'
    → record-by past future depth ≡ record-by past' future' depth'
marks-by a b c = λ i. record-by (a i) (b i) (c i)

pub keep-short : {X : Type 0} (n : ℕ) (xs : List X) → length (drop (length xs - n) xs) ≤ n
keep-short n xs = omega (arith, length-drop (length xs - n) xs)

-- the newest of the newest and some more
pub keep-twice : {X : Type 0} (n : ℕ) (xs ys : List X) → drop (length (drop (length xs - n) xs ++ ys) - n) (drop (length xs - n) xs ++ ys) ≡ drop (length (xs ++ ys) - n) (xs ++ ys)
keep-twice n xs ys =
    let i = length xs - n in
    let e : drop i xs ++ ys ≡ drop i (xs ++ ys) = sym (drop-append-le i xs ys (omega arith)) in
    ap (λ l. drop (length l - n) l) e ∙ drop-drop (length (drop i (xs ++ ys)) - n) i (xs ++ ys)
    ∙ (let z : i + (length (drop i (xs ++ ys)) - n) ≡ length (xs ++ ys) - n = omega (arith, length-drop i (xs ++ ys), length-append xs ys) in ap (λ (k : ℕ). drop k (xs ++ ys)) z)
