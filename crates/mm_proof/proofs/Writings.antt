-- What writing leaves alone.
use Rattle.std.proofs.Common.{◌≡◌, ℕ, ◌+◌, ◌<◌, ◌≤◌, Bool, true, false, cond, not, ◌&&◌, ◌||◌, eqb, List, [], ◌∷◌, ◌++◌, length, take, Option, None, Some, refl, sym, ap, ◌∙◌, subst, arith, append_assoc}
use Rattle.std.proofs.lemmas.List.{append-nil, take_at}
use Rattle.std.proofs.lemmas.Option.{none-some}
use Rattle.mm_proof.specs.Trees.{Tree, Trees, none, more, tree, trees_of, same_tree, is_some_tree, has_unknown}
use Rattle.mm_proof.specs.Compacting.{Whole, Writing, start, found, is_shared, earlier, named, put, written}
use Rattle.mm_proof.specs.Parts.{IsIn, AreIn, IsClosed}
use Rattle.mm_proof.specs.declared.written.Step.{Step}
use Rattle.mm_proof.specs.declared.written.Step.TheVariants.{Back}
use Rattle.mm_proof.proofs.Same.{same_tree_from, same_tree_refl}
use Rattle.mm_proof.proofs.Folds.{or_else, found-append}

-- how many trees there are
abbrev weight : Trees → ℕ
weight none = 0
weight (more l cs rest) = 1 + weight cs + weight rest

other_found : (o : Option ℕ) (b : Bool) (k : ℕ) → b ≡ false → or_else o (cond b (Some k) None) ≡ o
other_found None true k h = cc
other_found None false k h = refl
other_found (Some j) b k h = refl

is_false : (b : Bool) → (b ≡ true → ⊥) → b ≡ false
is_false true h = absurd (h refl)
is_false false h = refl

found_other : (seen : List Whole) (t u : Tree) (place : ℕ) → same_tree t u ≡ false → found (seen ++ record { tree = t; place = place } ∷ []) u ≡ found seen u
found_other seen t u place h = found-append seen (record { tree = t; place = place }) u ∙ other_found (found seen u) (same_tree t u) place h

lighter : (t u : Tree) → weight t.children < weight u.children → same_tree t u ≡ false
lighter t u h = is_false (same_tree t u) (λ e. let f = ap (λ (x : Tree). weight x.children) (same_tree_from t u e) in absurd (omega arith))

put_found : (o : Option ℕ) (b : Bool) (t u : Tree) (w walked : Writing) (place : ℕ) → same_tree t u ≡ false → found walked.seen u ≡ found w.seen u
    → found (cond b (walked.seen ++ record { tree = t; place = place } ∷ []) walked.seen) u ≡ found w.seen u
put_found o true t u w walked place h e = found_other walked.seen t u place h ∙ e
put_found o false t u w walked place h e = e

put_found_by : (o : Option ℕ) (t u : Tree) (w walked : Writing) → same_tree t u ≡ false → found walked.seen u ≡ found w.seen u → found (put o t w walked).seen u ≡ found w.seen u
put_found_by (Some k) t u w walked h e = refl
put_found_by None t u w walked h e = put_found None (is_shared t) t u w walked (length walked.steps) h e

-- a tree that is heavier than what is written isn't seen by it
pub heavy : (ts : Trees) (w : Writing) (u : Tree) → weight ts ≤ weight u.children → found (written w ts).seen u ≡ found w.seen u
unfolding written
heavy none w u h = refl
heavy (more l cs rest) w u h =
    heavy rest (put (earlier w.seen (tree l cs)) (tree l cs) w (written w cs)) u (omega arith)
    ∙ put_found_by (earlier w.seen (tree l cs)) (tree l cs) u w (written w cs) (lighter (tree l cs) u (omega arith)) (heavy cs w u (omega arith))

pub own_children : (l : ℕ) (cs : Trees) (w : Writing) → found (written w cs).seen (tree l cs) ≡ found w.seen (tree l cs)
own_children l cs w = heavy cs w (tree l cs) (omega arith)

-- the steps go on
pub record Longer (xs ys : List Step) : Type 0 where
  pub more_steps : List Step
  pub is : ys ≡ xs ++ more_steps

longer_put : (o : Option ℕ) (t : Tree) (w walked : Writing) → Longer w.steps walked.steps → Longer w.steps (put o t w walked).steps
longer_put (Some k) t w walked h = record { more_steps = Back k ∷ []; is = refl }
longer_put None t w walked h = record { more_steps = h.more_steps ++ named t.label ∷ []; is = ap (λ x. x ++ named t.label ∷ []) h.is ∙ append_assoc w.steps h.more_steps (named t.label ∷ []) }

pub longer : (ts : Trees) (w : Writing) → Longer w.steps (written w ts).steps
unfolding written
longer none w = record { more_steps = []; is = sym (append-nil w.steps) }
longer (more l cs rest) w =
    let a = longer_put (earlier w.seen (tree l cs)) (tree l cs) w (written w cs) (longer cs w) in
    let b = longer rest (put (earlier w.seen (tree l cs)) (tree l cs) w (written w cs)) in
    record { more_steps = a.more_steps ++ b.more_steps; is = b.is ∙ ap (λ x. x ++ b.more_steps) a.is ∙ append_assoc w.steps a.more_steps b.more_steps }

pub shorter : (ts : Trees) (w : Writing) → take (length w.steps) (written w ts).steps ≡ w.steps
shorter ts w = let a = longer ts w in ap (take (length w.steps)) a.is ∙ take_at w.steps a.more_steps (length w.steps) refl

-- what was seen stays
or_else_some : (o p : Option ℕ) (k : ℕ) → o ≡ Some k → or_else o p ≡ Some k
or_else_some None p k h = absurd (none-some k h)
or_else_some (Some j) p k h = h

stays_with : (b : Bool) (seen : List Whole) (v : Whole) (t : Tree) (k : ℕ) → found seen t ≡ Some k → found (cond b (seen ++ v ∷ []) seen) t ≡ Some k
stays_with true seen v t k h = found-append seen v t ∙ or_else_some (found seen t) (cond (same_tree v.tree t) (Some v.place) None) k h
stays_with false seen v t k h = h

Keeps : List Whole → List Whole → Type 0
Keeps a b = (t : Tree) (k : ℕ) → found a t ≡ Some k → found b t ≡ Some k

stays_put : (o : Option ℕ) (u : Tree) (w walked : Writing) (t : Tree) (k : ℕ) → found w.seen t ≡ Some k → found walked.seen t ≡ Some k → found (put o u w walked).seen t ≡ Some k
stays_put (Some j) u w walked t k g h = g
stays_put None u w walked t k g h = stays_with (is_shared u) walked.seen (record { tree = u; place = length walked.steps }) t k h

pub stays : (ts : Trees) (w : Writing) (t : Tree) (k : ℕ) → found w.seen t ≡ Some k → found (written w ts).seen t ≡ Some k
unfolding written
stays none w t k h = h
stays (more l cs rest) w t k h =
    stays rest (put (earlier w.seen (tree l cs)) (tree l cs) w (written w cs)) t k
    (stays_put (earlier w.seen (tree l cs)) (tree l cs) w (written w cs) t k h (stays cs w t k h))

IsIn_stays : (a b : List Whole) (l : ℕ) (cs : Trees) → ((t : Tree) (k : ℕ) → found a t ≡ Some k → found b t ≡ Some k) → IsIn a l cs → IsIn b l cs
IsIn_stays a b l none f h = tt
IsIn_stays a b l (more m ds qs) f h = (h.0, f (tree l (more m ds qs)) h.0 h.1)

AreIn_stays : (a b : List Whole) (ts : Trees) → ((t : Tree) (k : ℕ) → found a t ≡ Some k → found b t ≡ Some k) → AreIn a ts → AreIn b ts
AreIn_stays a b none f h = tt
AreIn_stays a b (more l cs rest) f h = (IsIn_stays a b l cs f h.0, AreIn_stays a b rest f h.1)

pub no_unknown_parts : (a b c : Bool) → (a || (b || c)) ≡ false → (b ≡ false) × (c ≡ false) × (a ≡ false)
no_unknown_parts true b c h = cc
no_unknown_parts false true c h = cc
no_unknown_parts false false c h = (refl, h, refl)

own_by : (a b : Bool) → a ≡ false → b ≡ false → not (a || (b || false)) ≡ true
own_by a b e f = ap (λ x. not (x || (b || false))) e ∙ ap (λ x. not (x || false)) f

shared_by : (l m : ℕ) (ds qs : Trees) → eqb l 0 ≡ false → has_unknown (more m ds qs) ≡ false → is_shared (tree l (more m ds qs)) ≡ true
shared_by l m ds qs z h = own_by (eqb l 0) (has_unknown (more m ds qs)) z h

-- a tree that is in is written without anything new to see
seen_put : (l : ℕ) (cs : Trees) (w : Writing) → eqb l 0 ≡ false → has_unknown cs ≡ false → IsIn w.seen l cs → (put (earlier w.seen (tree l cs)) (tree l cs) w (written w cs)).seen ≡ w.seen
unfolding written
seen_put l none w z h i = refl
seen_put l (more m ds qs) w z h i =
    ap (λ o. (put o (tree l (more m ds qs)) w (written w (more m ds qs))).seen)
    (ap (λ b. cond b (found w.seen (tree l (more m ds qs))) None) (shared_by l m ds qs z h) ∙ i.1)

pub nothing_new : (ts : Trees) (w : Writing) → has_unknown ts ≡ false → AreIn w.seen ts → (written w ts).seen ≡ w.seen
unfolding written
nothing_new none w h i = refl
nothing_new (more l cs rest) w h i =
    let p = no_unknown_parts (eqb l 0) (has_unknown cs) (has_unknown rest) h in
    let e = seen_put l cs w p.2 p.0 i.0 in
    let P : List Whole → Type 0 = λ s. AreIn s rest in
    nothing_new rest (put (earlier w.seen (tree l cs)) (tree l cs) w (written w cs)) p.1 (subst P (sym e) i.1) ∙ e

-- all that is written without an unknown step is in
in_by : (b : Bool) (seen : List Whole) (t : Tree) (place : ℕ) → b ≡ true → (k : ℕ) × (found (cond b (seen ++ record { tree = t; place = place } ∷ []) seen) t ≡ Some k)
in_by false seen t place h = cc
in_by true seen t place h = last (found seen t) refl
  where
    last : (o : Option ℕ) → found seen t ≡ o → (k : ℕ) × (found (seen ++ record { tree = t; place = place } ∷ []) t ≡ Some k)
    last None e = (place, found-append seen (record { tree = t; place = place }) t ∙ ap (λ x. or_else x (cond (same_tree t t) (Some place) None)) e ∙ ap (λ b. cond b (Some place) None) (same_tree_refl t))
    last (Some k) e = (k, found-append seen (record { tree = t; place = place }) t ∙ or_else_some (found seen t) (cond (same_tree t t) (Some place) None) k e)

in_put_by : (o : Option ℕ) (t : Tree) (w walked : Writing) → is_shared t ≡ true → ((k : ℕ) → o ≡ Some k → found w.seen t ≡ Some k) → (k : ℕ) × (found (put o t w walked).seen t ≡ Some k)
in_put_by (Some k) t w walked h f = (k, f k refl)
in_put_by None t w walked h f = in_by (is_shared t) walked.seen t (length walked.steps) h

earlier_found : (b : Bool) (o : Option ℕ) (k : ℕ) → cond b o None ≡ Some k → o ≡ Some k
earlier_found true o k h = h
earlier_found false o k h = absurd (none-some k h)

in_put : (l : ℕ) (cs : Trees) (w : Writing) → eqb l 0 ≡ false → has_unknown cs ≡ false → IsIn (put (earlier w.seen (tree l cs)) (tree l cs) w (written w cs)).seen l cs
in_put l none w z h = tt
in_put l (more m ds qs) w z h =
    in_put_by (earlier w.seen (tree l (more m ds qs))) (tree l (more m ds qs)) w (written w (more m ds qs)) (shared_by l m ds qs z h)
    (λ k. earlier_found (is_shared (tree l (more m ds qs))) (found w.seen (tree l (more m ds qs))) k)

pub all_in : (ts : Trees) (w : Writing) → has_unknown ts ≡ false → AreIn (written w ts).seen ts
unfolding written
all_in none w h = tt
all_in (more l cs rest) w h =
    let p = no_unknown_parts (eqb l 0) (has_unknown cs) (has_unknown rest) h in
    let v = put (earlier w.seen (tree l cs)) (tree l cs) w (written w cs) in
    (IsIn_stays v.seen (written v rest).seen l cs (stays rest v) (in_put l cs w p.2 p.0), all_in rest v p.1)

-- what is seen stays closed
closed_by : (o : Option ℕ) (b : Bool) (place k : ℕ) (P : Type 0) → or_else o (cond b (Some place) None) ≡ Some k → (o ≡ Some k → P) → (b ≡ true → P) → P
closed_by None true place k P h old new = new refl
closed_by None false place k P h old new = absurd (none-some k h)
closed_by (Some j) b place k P h old new = old h

pub not_true : (b : Bool) → not b ≡ true → b ≡ false
not_true true h = cc
not_true false h = refl

pub shared_known : (a b : Bool) → a && b ≡ true → b ≡ true
shared_known true b h = h
shared_known false b h = cc

closed_with : (b : Bool) (seen : List Whole) (t : Tree) (place : ℕ) → (b ≡ true → AreIn seen t.children) → IsClosed seen → IsClosed (cond b (seen ++ record { tree = t; place = place } ∷ []) seen)
closed_with false seen t place i h u k e = h u k e
closed_with true seen t place i h u k e =
    let new = seen ++ record { tree = t; place = place } ∷ [] in
    let keep = λ (v : Tree) (n : ℕ) (f : found seen v ≡ Some n). stays_with true seen (record { tree = t; place = place }) v n f in
    closed_by (found seen u) (same_tree t u) place k (AreIn new u.children) (sym (found-append seen (record { tree = t; place = place }) u) ∙ e)
    (λ old. AreIn_stays seen new u.children keep (h u k old))
    (λ same. AreIn_stays seen new u.children keep (let P : Tree → Type 0 = λ x. AreIn seen x.children in subst P (same_tree_from t u same) (i refl)))

closed_put : (o : Option ℕ) (l : ℕ) (cs : Trees) (w : Writing) → IsClosed w.seen → IsClosed (written w cs).seen → IsClosed (put o (tree l cs) w (written w cs)).seen
closed_put (Some k) l cs w g h = g
closed_put None l cs w g h =
    closed_with (is_shared (tree l cs)) (written w cs).seen (tree l cs) (length (written w cs).steps)
    (λ e. all_in cs w (no_unknown_parts (eqb l 0) (has_unknown cs) false (not_true (has_unknown (more l cs none)) (shared_known (is_some_tree cs) (not (has_unknown (more l cs none))) e))).0) h

pub closed : (ts : Trees) (w : Writing) → IsClosed w.seen → IsClosed (written w ts).seen
unfolding written
closed none w h = h
closed (more l cs rest) w h = closed rest (put (earlier w.seen (tree l cs)) (tree l cs) w (written w cs)) (closed_put (earlier w.seen (tree l cs)) l cs w h (closed cs w h))

pub closed_start : IsClosed start.seen
closed_start t k e = absurd (none-some k e)

-- trees behind trees
pub written-append : (ts us : List Tree) (w : Writing) → written w (trees_of (ts ++ us)) ≡ written (written w (trees_of ts)) (trees_of us)
unfolding written
written-append [] us w = refl
written-append (t ∷ ts) us w = written-append ts us (put (earlier w.seen (tree t.label t.children)) (tree t.label t.children) w (written w t.children))
