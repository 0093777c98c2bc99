-- What each change of the versions keeps.
use Rattle.std.proofs.Common.{zero, suc, ◌≡◌, ◌==◌, ℕ, ◌+◌, ◌-◌, ◌≤◌, ◌<◌, Bool, true, false, not, List, [], ◌∷◌, ◌++◌, take, length, get_or, refl, sym, ◌∙◌, ap, subst, arith, length-append, inl, inr, Option, Some, None, is_none}
use Rattle.std.proofs.lemmas.Grind.{common_steps}
use Rattle.std.proofs.lemmas.Bool.{false≢true, eqb-true, eq-eqb, cases_lt}
use Rattle.std.proofs.lemmas.Bool.Decides.{eqb_tells}
use Rattle.std.proofs.lemmas.List.{get_or_append_left, get_or-append_right, get_or-take, get_or-map}
use Rattle.std.proofs.lemmas.Option.{get_or_from_slice_get, slice_get-get_or}
use Rattle.std.specs.List.{slice_get}
use Rattle.mm_subst.specs.Substitutions.{Pairs}
use Rattle.mm_plain.specs.declared.plain.Plain.{Plain}
use Rattle.mm_plain.specs.Shape.{Proof}
use Rattle.mm_tree.specs.Lines.{Line}
use Rattle.mm_tree.specs.Meanings.{mean}
use Rattle.mm_tree.specs.Versions.{Versions, is_draft, roots_of, line_of, node_of, no_node, hand_root, hand_length, hand_node, hand_plain, named, IsSound, IsAlive, IsKept, KeepsMarks, KeepsOlder, KeepsUpTo, HasNoDrafts}
use Rattle.mm_tree.specs.Trees.{IsWhole, State, state_by}
use Rattle.mm_tree.specs.View.{Shared, values}
use Rattle.mm_tree.specs.declared.timed.TimedTree.{TimedTree}
use Rattle.mm_tree.specs.declared.tree.Mark.{Mark}
use Rattle.mm_tree.proofs.Shapes.{length-values}

pub take-all : {X : Type 0} (n : ℕ) (xs : List X) → length xs ≤ n → take n xs ≡ xs
take-all zero [] h = refl
take-all zero (x ∷ xs) h = absurd (omega arith)
take-all (suc n) [] h = refl
take-all (suc n) (x ∷ xs) h = ap (λ l. x ∷ l) (take-all n xs (omega arith))

pub length-take-le : {X : Type 0} (n : ℕ) (xs : List X) → n ≤ length xs → length (take n xs) ≡ n
length-take-le zero xs h = refl
length-take-le (suc n) [] h = absurd (omega arith)
length-take-le (suc n) (x ∷ xs) h = ap suc (length-take-le n xs (omega arith))

take-front : {X : Type 0} (k n : ℕ) (xs ys : List X) → k ≤ n → n ≤ length xs → take k (take n xs ++ ys) ≡ take k xs
take-front zero n xs ys h g = refl
take-front (suc k) zero xs ys h g = absurd (omega arith)
take-front (suc k) (suc n) [] ys h g = absurd (omega arith)
take-front (suc k) (suc n) (x ∷ xs) ys h g = ap (λ l. x ∷ l) (take-front k n xs ys (omega arith) (omega arith))

get-front : {X : Type 0} (k n : ℕ) (xs ys : List X) (d : X) → k < n → n ≤ length xs → get_or (take n xs ++ ys) k d ≡ get_or xs k d
get-front k zero xs ys d h g = absurd (omega arith)
get-front k (suc n) [] ys d h g = absurd (omega arith)
get-front zero (suc n) (x ∷ xs) ys d h g = refl
get-front (suc k) (suc n) (x ∷ xs) ys d h g = get-front k n xs ys d (omega arith) (omega arith)

append-nil : {X : Type 0} (xs : List X) → xs ++ [] ≡ xs
append-nil [] = refl
append-nil (x ∷ xs) = ap (λ l. x ∷ l) (append-nil xs)

take-more : {X : Type 0} (k : ℕ) (xs ys : List X) → k ≤ length xs → take k (xs ++ ys) ≡ take k xs
take-more zero xs ys h = refl
take-more (suc k) [] ys h = absurd (omega arith)
take-more (suc k) (x ∷ xs) ys h = ap (λ l. x ∷ l) (take-more k xs ys (omega arith))

take-take : {X : Type 0} (k n : ℕ) (xs : List X) → k ≤ n → take k (take n xs) ≡ take k xs
take-take zero n xs h = refl
take-take (suc k) zero xs h = absurd (omega arith)
take-take (suc k) (suc n) [] h = refl
take-take (suc k) (suc n) (x ∷ xs) h = ap (λ l. x ∷ l) (take-take k n xs (omega arith))

append-take : {X : Type 0} (xs ys : List X) (n k : ℕ) → length xs ≡ n → xs ++ take k ys ≡ take (n + k) (xs ++ ys)
append-take [] ys n k h = let z : k ≡ n + k = omega arith in ap (λ (j : ℕ). take j ys) z
append-take (x ∷ xs) ys zero k h = absurd (omega arith)
append-take (x ∷ xs) ys (suc n) k h = ap (λ l. x ∷ l) (append-take xs ys n k (omega arith)) ∙ (let z : suc (n + k) ≡ suc n + k = omega arith in ap (λ (j : ℕ). take j (x ∷ xs ++ ys)) z)

pub length-roots : (v : Versions) (next : ℕ) → IsWhole v next → length (roots_of v true) ≡ hand_root v + 1
length-roots v next w = let b = w.begun_root in omega (arith, length-append (take (v.begun_root + 1) v.roots) v.draft_roots, length-take-le (v.begun_root + 1) v.roots (omega arith))

pub length-line : (v : Versions) (next : ℕ) → IsWhole v next → length (line_of v true) ≡ hand_length v
length-line v next w = omega (arith, length-append (take v.begun_length v.trail) v.draft_bindings, length-take-le v.begun_length v.trail w.begun_length)

-- a mark is kept where its root and its bindings are
abbrev proof_of : ℕ → Plain → Proof
proof_of next p = record { plain = p; next = next }

kept-by : (v w : Versions) (m : Mark) → m.root < length (roots_of w (is_draft m)) → m.length ≤ length (line_of w (is_draft m)) → node_of w (is_draft m) m.root ≡ node_of v (is_draft m) m.root
    → take m.length (line_of w (is_draft m)) ≡ take m.length (line_of v (is_draft m)) → (is_draft m ≡ true → (m.turn ≡ w.turn) × (w.begun_root ≤ m.root) × (w.begun_length ≤ m.length)) → IsAlive v m → IsKept v w m
kept-by v w m root long e f later alive = record {
  alive = record { root = root; long = long; sound = subst (λ (x : TimedTree). IsSound x m.length m.next) (sym e) alive.sound; later = later };
  same = ap (λ (x : TimedTree). proof_of m.next (mean x (take m.length (line_of w (is_draft m))))) e ∙ ap (λ (l : Line). proof_of m.next (mean (node_of v (is_draft m) m.root) l)) f;
}

-- the drafts made lasting, with another turn
abbrev pub settled : Versions → ℕ → Versions
settled v turn = record { roots = roots_of v true; trail = line_of v true; draft_roots = []; draft_bindings = []; begun_root = hand_root v; begun_length = hand_length v; turn = turn }

roots-settled : (v : Versions) (turn next : ℕ) → IsWhole v next → roots_of (settled v turn) true ≡ roots_of v true
roots-settled v turn next w = append-nil (take (hand_root v + 1) (roots_of v true)) ∙ take-all (hand_root v + 1) (roots_of v true) (omega (arith, length-roots v next w))

pub line-settled : (v : Versions) (turn next : ℕ) → IsWhole v next → line_of (settled v turn) true ≡ line_of v true
line-settled v turn next w = append-nil (take (hand_length v) (line_of v true)) ∙ take-all (hand_length v) (line_of v true) (omega (arith, length-line v next w))

hand-settled : (v : Versions) (turn next : ℕ) → IsWhole v next → hand_node (settled v turn) ≡ hand_node v
hand-settled v turn next w = ap (λ (l : List TimedTree). get_or l (hand_root v + 0) no_node) (roots-settled v turn next w)
    ∙ (let z : hand_root v + 0 ≡ hand_root v = omega arith in ap (λ (n : ℕ). node_of v true n) z)

pub plain-settled : (v : Versions) (turn next : ℕ) → IsWhole v next → hand_plain (settled v turn) ≡ hand_plain v
plain-settled v turn next w = ap (λ (x : TimedTree). mean x (line_of (settled v turn) true)) (hand-settled v turn next w) ∙ ap (mean (hand_node v)) (line-settled v turn next w)

pub sound-at : (x y : TimedTree) (m n next : ℕ) → x ≡ y → m ≡ n → IsSound y n next → IsSound x m next
sound-at x y m n next e f h = subst (λ (z : TimedTree). IsSound z m next) (sym e) (subst (λ (k : ℕ). IsSound y k next) (sym f) h)

pub whole-settled : (v : Versions) (turn next : ℕ) → 1 ≤ turn → IsWhole v next → IsWhole (settled v turn) next
whole-settled v turn next t w = record {
  begun_root = omega (arith, length-roots v next w);
  begun_length = omega (arith, length-line v next w);
  sound = sound-at _ _ _ (hand_length v) next (hand-settled v turn next w) (omega arith) w.sound;
  turn = t;
}

pub older-settled : (v : Versions) (turn next : ℕ) → IsWhole v next → KeepsOlder v (settled v turn)
older-settled v turn next w m e root long alive = kept-by v (settled v turn) m
    (at-false (λ b. m.root < length (roots_of (settled v turn) b)) (omega (arith, length-roots v next w)))
    (at-false (λ b. m.length ≤ length (line_of (settled v turn) b)) (omega (arith, length-line v next w)))
    (at-false (λ b. node_of (settled v turn) b m.root ≡ node_of v b m.root) (get-front m.root (v.begun_root + 1) v.roots v.draft_roots no_node (omega arith) (let b = w.begun_root in omega arith)))
    (at-false (λ b. take m.length (line_of (settled v turn) b) ≡ take m.length (line_of v b)) (take-front m.length v.begun_length v.trail v.draft_bindings long w.begun_length))
    (λ t. absurd (false≢true (sym e ∙ t)))
    alive
  where
    at-false : (P : Bool → Type 0) → P false → P (is_draft m)
    at-false P h = subst P (sym e) h

-- one binding more
abbrev pub with_binding : Versions → Pairs → Versions
with_binding v theta = record v { draft_bindings = v.draft_bindings ++ theta ∷ [] }

pub line-more : (v : Versions) (theta : Pairs) → line_of (with_binding v theta) true ≡ line_of v true ++ theta ∷ []
line-more v theta = grind (arith, common_steps)

bound-length : (v : Versions) (theta : Pairs) (k : ℕ) (b : Bool) → k ≤ length (line_of v b) → k ≤ length (line_of (with_binding v theta) b)
bound-length v theta k true h = omega (arith, ap length (line-more v theta), length-append (line_of v true) (theta ∷ []))
bound-length v theta k false h = h

bound-take : (v : Versions) (theta : Pairs) (k : ℕ) (b : Bool) → k ≤ length (line_of v b) → take k (line_of (with_binding v theta) b) ≡ take k (line_of v b)
bound-take v theta k true h = ap (take k) (line-more v theta) ∙ take-more k (line_of v true) (theta ∷ []) h
bound-take v theta k false h = refl

bound-roots : (v : Versions) (theta : Pairs) (b : Bool) → roots_of (with_binding v theta) b ≡ roots_of v b
bound-roots v theta true = refl
bound-roots v theta false = refl

pub kept-bound : (v : Versions) (theta : Pairs) → KeepsMarks v (with_binding v theta)
kept-bound v theta m alive = kept-by v (with_binding v theta) m (omega (arith, alive.root, ap length (bound-roots v theta (is_draft m)))) (bound-length v theta m.length (is_draft m) alive.long)
    (ap (λ (l : List TimedTree). get_or l m.root no_node) (bound-roots v theta (is_draft m))) (bound-take v theta m.length (is_draft m) alive.long) alive.later alive

-- one root more
abbrev pub with_root : Versions → TimedTree → Versions
with_root v x = record v { draft_roots = v.draft_roots ++ x ∷ [] }

roots-more : (v : Versions) (x : TimedTree) → roots_of (with_root v x) true ≡ roots_of v true ++ x ∷ []
roots-more v x = grind (arith, common_steps)

root-length : (v : Versions) (x : TimedTree) (k : ℕ) (b : Bool) → k < length (roots_of v b) → k < length (roots_of (with_root v x) b)
root-length v x k true h = omega (arith, ap length (roots-more v x), length-append (roots_of v true) (x ∷ []))
root-length v x k false h = h

root-node : (v : Versions) (x : TimedTree) (k : ℕ) (b : Bool) → k < length (roots_of v b) → node_of (with_root v x) b k ≡ node_of v b k
root-node v x k true h = ap (λ (l : List TimedTree). get_or l k no_node) (roots-more v x) ∙ get_or_append_left (roots_of v true) (x ∷ []) no_node k h
root-node v x k false h = refl

root-line : (v : Versions) (x : TimedTree) (b : Bool) → line_of (with_root v x) b ≡ line_of v b
root-line v x true = refl
root-line v x false = refl

pub kept-root : (v : Versions) (x : TimedTree) → KeepsMarks v (with_root v x)
kept-root v x m alive = kept-by v (with_root v x) m (root-length v x m.root (is_draft m) alive.root) (omega (arith, alive.long, ap length (root-line v x (is_draft m))))
    (root-node v x m.root (is_draft m) alive.root) (ap (take m.length) (root-line v x (is_draft m))) alive.later alive

get-last : {X : Type 0} (xs : List X) (x d : X) (n : ℕ) → length xs ≡ n → get_or (xs ++ x ∷ []) n d ≡ x
get-last [] x d zero h = refl
get-last [] x d (suc n) h = absurd (omega arith)
get-last (y ∷ xs) x d zero h = absurd (omega arith)
get-last (y ∷ xs) x d (suc n) h = get-last xs x d n (omega arith)

pub hand-more : (v : Versions) (x : TimedTree) (next : ℕ) → IsWhole v next → hand_node (with_root v x) ≡ x
hand-more v x next w =
    ap (λ (l : List TimedTree). get_or l (hand_root (with_root v x)) no_node) (roots-more v x)
    ∙ get-last (roots_of v true) x no_node (hand_root (with_root v x)) (omega (arith, length-roots v next w, length-append v.draft_roots (x ∷ [])))

-- back to a draft
abbrev pub cut_to : Versions → Mark → Versions
cut_to v m = record v { draft_roots = take (m.root - v.begun_root) v.draft_roots; draft_bindings = take (m.length - v.begun_length) v.draft_bindings }

roots-cut : (v : Versions) (m : Mark) (next : ℕ) → IsWhole v next → v.begun_root ≤ m.root → roots_of (cut_to v m) true ≡ take (m.root + 1) (roots_of v true)
roots-cut v m next w h = let b = w.begun_root in append-take (take (v.begun_root + 1) v.roots) v.draft_roots (v.begun_root + 1) (m.root - v.begun_root) (length-take-le (v.begun_root + 1) v.roots (omega arith))
    ∙ (let z : v.begun_root + 1 + (m.root - v.begun_root) ≡ m.root + 1 = omega arith in ap (λ (j : ℕ). take j (roots_of v true)) z)

pub line-cut : (v : Versions) (m : Mark) (next : ℕ) → IsWhole v next → v.begun_length ≤ m.length → line_of (cut_to v m) true ≡ take m.length (line_of v true)
line-cut v m next w h = append-take (take v.begun_length v.trail) v.draft_bindings v.begun_length (m.length - v.begun_length) (length-take-le v.begun_length v.trail w.begun_length)
    ∙ (let z : v.begun_length + (m.length - v.begun_length) ≡ m.length = omega arith in ap (λ (j : ℕ). take j (line_of v true)) z)

pub hand-cut : (v : Versions) (m : Mark) (next : ℕ) → IsWhole v next → v.begun_root ≤ m.root → m.root < length (roots_of v true) → hand_root (cut_to v m) ≡ m.root
hand-cut v m next w h g = omega (arith, length-roots v next w, length-take-le (m.root - v.begun_root) v.draft_roots (omega (arith, length-roots v next w)))

pub length-cut : (v : Versions) (m : Mark) (next : ℕ) → IsWhole v next → v.begun_length ≤ m.length → m.length ≤ length (line_of v true) → hand_length (cut_to v m) ≡ m.length
length-cut v m next w h g = omega (arith, length-line v next w, length-take-le (m.length - v.begun_length) v.draft_bindings (omega (arith, length-line v next w)))

node-cut : (v : Versions) (m : Mark) (next : ℕ) → IsWhole v next → v.begun_root ≤ m.root → m.root < length (roots_of v true) → hand_node (cut_to v m) ≡ node_of v true m.root
node-cut v m next w h g = ap (λ (l : List TimedTree). get_or l (hand_root (cut_to v m)) no_node) (roots-cut v m next w h)
    ∙ ap (λ (n : ℕ). get_or (take (m.root + 1) (roots_of v true)) n no_node) (hand-cut v m next w h g)
    ∙ get_or-take (m.root + 1) (roots_of v true) m.root no_node (omega arith)

-- an alive mark of a draft
pub record IsDraft (v : Versions) (m : Mark) : Type 0 where
  pub root : m.root < length (roots_of v true)
  pub long : m.length ≤ length (line_of v true)
  pub sound : IsSound (node_of v true m.root) m.length m.next
  pub later_root : v.begun_root ≤ m.root
  pub later_length : v.begun_length ≤ m.length
  pub same : (named v m).plain ≡ mean (node_of v true m.root) (take m.length (line_of v true))

pub draft-mark : (v : Versions) (m : Mark) → is_draft m ≡ true → IsAlive v m → IsDraft v m
draft-mark v m e a = record {
  root = subst (λ (b : Bool). m.root < length (roots_of v b)) e a.root;
  long = subst (λ (b : Bool). m.length ≤ length (line_of v b)) e a.long;
  sound = subst (λ (b : Bool). IsSound (node_of v b m.root) m.length m.next) e a.sound;
  later_root = (a.later e).1;
  later_length = (a.later e).2;
  same = ap (λ (b : Bool). mean (node_of v b m.root) (take m.length (line_of v b))) e;
}

pub plain-cut : (v : Versions) (m : Mark) (next : ℕ) → IsWhole v next → is_draft m ≡ true → IsAlive v m → hand_plain (cut_to v m) ≡ (named v m).plain
plain-cut v m next w e a = let d = draft-mark v m e a in
    ap (λ (x : TimedTree). mean x (line_of (cut_to v m) true)) (node-cut v m next w d.later_root d.root)
    ∙ ap (mean (node_of v true m.root)) (line-cut v m next w d.later_length) ∙ sym d.same

pub whole-cut : (v : Versions) (m : Mark) (next : ℕ) → IsWhole v next → is_draft m ≡ true → IsAlive v m → IsWhole (cut_to v m) m.next
whole-cut v m next w e a = let d = draft-mark v m e a in record {
  begun_root = w.begun_root;
  begun_length = w.begun_length;
  sound = sound-at _ _ _ m.length m.next (node-cut v m next w d.later_root d.root) (length-cut v m next w d.later_length d.long) d.sound;
  turn = w.turn;
}

cut-root : (v : Versions) (m : Mark) (next : ℕ) → IsWhole v next → IsDraft v m → (k : ℕ) (b : Bool) → (b ≡ true → k ≤ m.root) → k < length (roots_of v b) → k < length (roots_of (cut_to v m) b)
cut-root v m next w d k true f h = let r = d.root in omega (arith, f refl, ap length (roots-cut v m next w d.later_root), length-take-le (m.root + 1) (roots_of v true) (omega arith))
cut-root v m next w d k false f h = h

cut-node : (v : Versions) (m : Mark) (next : ℕ) → IsWhole v next → IsDraft v m → (k : ℕ) (b : Bool) → (b ≡ true → k ≤ m.root) → node_of (cut_to v m) b k ≡ node_of v b k
cut-node v m next w d k true f = ap (λ (l : List TimedTree). get_or l k no_node) (roots-cut v m next w d.later_root) ∙ get_or-take (m.root + 1) (roots_of v true) k no_node (omega (arith, f refl))
cut-node v m next w d k false f = refl

cut-long : (v : Versions) (m : Mark) (next : ℕ) → IsWhole v next → IsDraft v m → (k : ℕ) (b : Bool) → (b ≡ true → k ≤ m.length) → k ≤ length (line_of v b) → k ≤ length (line_of (cut_to v m) b)
cut-long v m next w d k true f h = let r = d.long in omega (arith, f refl, ap length (line-cut v m next w d.later_length), length-take-le m.length (line_of v true) r)
cut-long v m next w d k false f h = h

cut-line : (v : Versions) (m : Mark) (next : ℕ) → IsWhole v next → IsDraft v m → (k : ℕ) (b : Bool) → (b ≡ true → k ≤ m.length) → take k (line_of (cut_to v m) b) ≡ take k (line_of v b)
cut-line v m next w d k true f = ap (take k) (line-cut v m next w d.later_length) ∙ take-take k m.length (line_of v true) (f refl)
cut-line v m next w d k false f = refl

pub kept-cut : (v : Versions) (m : Mark) (next : ℕ) → IsWhole v next → is_draft m ≡ true → IsAlive v m → KeepsUpTo m v (cut_to v m)
kept-cut v m next w e a n upto alive = let d = draft-mark v m e a in kept-by v (cut_to v m) n
    (cut-root v m next w d n.root (is_draft n) (λ t. (upto t).1) alive.root)
    (cut-long v m next w d n.length (is_draft n) (λ t. (upto t).2) alive.long)
    (cut-node v m next w d n.root (is_draft n) (λ t. (upto t).1))
    (cut-line v m next w d n.length (is_draft n) (λ t. (upto t).2))
    alive.later alive

-- back to a settled version
abbrev pub set_to : Versions → Mark → ℕ → Versions
set_to v m turn = record { roots = v.roots; trail = v.trail; draft_roots = []; draft_bindings = []; begun_root = m.root; begun_length = m.length; turn = turn }

-- an alive mark of a settled version
pub record IsSettled (v : Versions) (m : Mark) : Type 0 where
  pub root : m.root < length v.roots
  pub long : m.length ≤ length v.trail
  pub sound : IsSound (get_or v.roots m.root no_node) m.length m.next
  pub same : (named v m).plain ≡ mean (get_or v.roots m.root no_node) (take m.length v.trail)

pub settled-mark : (v : Versions) (m : Mark) → is_draft m ≡ false → IsAlive v m → IsSettled v m
settled-mark v m e a = record {
  root = subst (λ (b : Bool). m.root < length (roots_of v b)) e a.root;
  long = subst (λ (b : Bool). m.length ≤ length (line_of v b)) e a.long;
  sound = subst (λ (b : Bool). IsSound (node_of v b m.root) m.length m.next) e a.sound;
  same = ap (λ (b : Bool). mean (node_of v b m.root) (take m.length (line_of v b))) e;
}

node-set : (v : Versions) (m : Mark) (turn : ℕ) → IsSettled v m → hand_node (set_to v m turn) ≡ get_or v.roots m.root no_node
node-set v m turn s = let r = s.root in
    let z : hand_root (set_to v m turn) ≡ m.root = omega arith in
    ap (λ (n : ℕ). node_of (set_to v m turn) true n) z ∙ get-front m.root (m.root + 1) v.roots [] no_node (omega arith) (omega arith)

pub plain-set : (v : Versions) (m : Mark) (turn : ℕ) → is_draft m ≡ false → IsAlive v m → hand_plain (set_to v m turn) ≡ (named v m).plain
plain-set v m turn e a = let s = settled-mark v m e a in
    ap (λ (x : TimedTree). mean x (line_of (set_to v m turn) true)) (node-set v m turn s)
    ∙ ap (mean (get_or v.roots m.root no_node)) (append-nil (take m.length v.trail)) ∙ sym s.same

pub whole-set : (v : Versions) (m : Mark) (turn : ℕ) → 1 ≤ turn → is_draft m ≡ false → IsAlive v m → IsWhole (set_to v m turn) m.next
whole-set v m turn t e a = let s = settled-mark v m e a in record {
  begun_root = s.root;
  begun_length = s.long;
  sound = sound-at _ _ _ m.length m.next (node-set v m turn s) (omega arith) s.sound;
  turn = t;
}

pub kept-set : (v : Versions) (m : Mark) (turn : ℕ) → is_draft m ≡ false → KeepsUpTo m v (set_to v m turn)
kept-set v m turn e n upto alive = by_kind (is_draft n) refl
  where
    never : is_draft n ≡ true → ⊥
    never t = false≢true (sym e ∙ (upto t).0)

    by_kind : (b : Bool) → is_draft n ≡ b → IsKept v (set_to v m turn) n
    by_kind true t = absurd (never t)
    by_kind false f = kept-by v (set_to v m turn) n
        (subst (λ (b : Bool). n.root < length (roots_of (set_to v m turn) b)) (sym f) (settled-mark v n f alive).root)
        (subst (λ (b : Bool). n.length ≤ length (line_of (set_to v m turn) b)) (sym f) (settled-mark v n f alive).long)
        (subst (λ (b : Bool). node_of (set_to v m turn) b n.root ≡ node_of v b n.root) (sym f) refl)
        (subst (λ (b : Bool). take n.length (line_of (set_to v m turn) b) ≡ take n.length (line_of v b)) (sym f) refl)
        (λ t. absurd (never t)) alive

pub values-take : (n : ℕ) (xs : List Shared) → values (take n xs) ≡ take n (values xs)
values-take zero xs = refl
values-take (suc n) [] = refl
values-take (suc n) (x ∷ xs) = ap (λ (l : List TimedTree). x.value ∷ l) (values-take n xs)

pub values-append : (xs ys : List Shared) → values (xs ++ ys) ≡ values xs ++ values ys
values-append [] ys = refl
values-append (x ∷ xs) ys = ap (λ (l : List TimedTree). x.value ∷ l) (values-append xs ys)

abbrev pub seven : List TimedTree → Line → List TimedTree → Line → ℕ → ℕ → ℕ → Versions
seven rs tr dr ds br bl t = record { roots = rs; trail = tr; draft_roots = dr; draft_bindings = ds; begun_root = br; begun_length = bl; turn = t }

pub seven-same : {rs rs' : List TimedTree} {tr tr' : Line} {dr dr' : List TimedTree} {ds ds' : Line} {br br' bl bl' t t' : ℕ}
    → rs ≡ rs' → tr ≡ tr' → dr ≡ dr' → ds ≡ ds' → br ≡ br' → bl ≡ bl' → t ≡ t' → seven rs tr dr ds br bl t ≡ seven rs' tr' dr' ds' br' bl' t'
seven-same a b c d e f g = λ i. seven (a i) (b i) (c i) (d i) (e i) (f i) (g i)

pub values-moved : (n : ℕ) (rs cut moved dr : List Shared) → moved ≡ cut ++ dr → cut ≡ take n rs → values moved ≡ take n (values rs) ++ values dr
values-moved n rs cut moved dr a b = ap values a ∙ values-append cut dr ∙ ap (λ (l : List Shared). values l ++ values dr) b ∙ ap (λ (l : List TimedTree). l ++ values dr) (values-take n rs)

pub pairs-moved : (n : ℕ) (tr cut moved ds : Line) → moved ≡ cut ++ ds → cut ≡ take n tr → moved ≡ take n tr ++ ds
pairs-moved n tr cut moved ds a b = a ∙ ap (λ (l : Line). l ++ ds) b

-- the mark of the version in hand
abbrev pub mark_by : Versions → ℕ → ℕ → Mark
mark_by v next turn = record { root = hand_root v; length = hand_length v; next = next; turn = turn }

pub record IsOwnTurn (v : Versions) (turn : ℕ) : Type 0 where
  pub settled : turn ≡ 0 → HasNoDrafts v
  pub drafts : 1 ≤ turn → turn ≡ v.turn

pub no-turn : (turn : ℕ) → not (turn == 0) ≡ false → turn ≡ 0
no-turn turn e = elim (eqb_tells turn 0) [
  | inl p ↦ p.1
  | inr p ↦ absurd (false≢true (sym e ∙ ap not p.0))
]

a-turn : (turn : ℕ) → not (turn == 0) ≡ true → 1 ≤ turn
a-turn turn e = elim (cases_lt 0 turn) [
  | inl h ↦ omega (arith, h)
  | inr h ↦ absurd (false≢true (sym (ap not (eq-eqb turn 0 (omega (arith, h)))) ∙ e))
]

pub no-items : {X : Type 0} (xs : List X) (n : ℕ) → n ≡ length xs → (n == 0) ≡ true → xs ≡ []
no-items [] n h e = refl
no-items (x ∷ xs) n h e = absurd (omega (arith, h, eqb-true n 0 e))

pub some-items : {X : Type 0} (xs : List X) (n : ℕ) → n ≡ length xs → (n == 0) ≡ false → xs ≡ [] → ⊥
some-items xs n h e is = false≢true (sym e ∙ eq-eqb n 0 (omega (arith, h, ap length is)))

pub no-values : (xs : List Shared) → values xs ≡ [] → xs ≡ []
no-values [] e = refl
no-values (x ∷ xs) e = absurd (omega (arith, ap length e))

line-none : (v : Versions) (next : ℕ) → IsWhole v next → HasNoDrafts v → take (hand_length v) v.trail ≡ line_of v true
line-none v next w none =
    let z : hand_length v ≡ v.begun_length = omega (arith, ap length none.no_bindings) in
    ap (λ (n : ℕ). take n v.trail) z ∙ sym (append-nil (take v.begun_length v.trail)) ∙ ap (λ (l : Line). take v.begun_length v.trail ++ l) (sym none.no_bindings)

node-none : (v : Versions) (next : ℕ) → IsWhole v next → HasNoDrafts v → get_or v.roots (hand_root v) no_node ≡ hand_node v
node-none v next w none = let b = w.begun_root in
    sym (get-front (hand_root v) (v.begun_root + 1) v.roots v.draft_roots no_node (omega (arith, ap length none.no_roots)) (omega arith))

pub hand-alive : (v : Versions) (next turn : ℕ) → IsWhole v next → IsOwnTurn v turn → IsAlive v (mark_by v next turn)
hand-alive v next turn w own = by_kind (is_draft (mark_by v next turn)) refl
  where
    by_kind : (b : Bool) → is_draft (mark_by v next turn) ≡ b → IsAlive v (mark_by v next turn)
    by_kind true e = record {
      root = subst (λ (b : Bool). hand_root v < length (roots_of v b)) (sym e) (omega (arith, length-roots v next w));
      long = subst (λ (b : Bool). hand_length v ≤ length (line_of v b)) (sym e) (omega (arith, length-line v next w));
      sound = subst (λ (b : Bool). IsSound (node_of v b (hand_root v)) (hand_length v) next) (sym e) w.sound;
      later = λ t. (own.drafts (a-turn turn e), omega arith, omega arith);
    }
    by_kind false e = let none = own.settled (no-turn turn e) in record {
      root = subst (λ (b : Bool). hand_root v < length (roots_of v b)) (sym e) (let b = w.begun_root in omega (arith, ap length none.no_roots));
      long = subst (λ (b : Bool). hand_length v ≤ length (line_of v b)) (sym e) (let b = w.begun_length in omega (arith, ap length none.no_bindings));
      sound = subst (λ (b : Bool). IsSound (node_of v b (hand_root v)) (hand_length v) next) (sym e) (sound-at _ _ _ (hand_length v) next (node-none v next w none) refl w.sound);
      later = λ t. absurd (false≢true (sym e ∙ t));
    }

pub hand-named : (v : Versions) (next turn : ℕ) → IsWhole v next → IsOwnTurn v turn → (named v (mark_by v next turn)).plain ≡ hand_plain v
hand-named v next turn w own = by_kind (is_draft (mark_by v next turn)) refl
  where
    by_kind : (b : Bool) → is_draft (mark_by v next turn) ≡ b → (named v (mark_by v next turn)).plain ≡ hand_plain v
    by_kind true e = ap (λ (b : Bool). mean (node_of v b (hand_root v)) (take (hand_length v) (line_of v b))) e
        ∙ ap (mean (hand_node v)) (take-all (hand_length v) (line_of v true) (omega (arith, length-line v next w)))
    by_kind false e = let none = own.settled (no-turn turn e) in
        ap (λ (b : Bool). mean (node_of v b (hand_root v)) (take (hand_length v) (line_of v b))) e
        ∙ ap (λ (x : TimedTree). mean x (take (hand_length v) v.trail)) (node-none v next w none)
        ∙ ap (mean (hand_node v)) (line-none v next w none)

some≢none : {X : Type 0} (x : X) → Some x ≡ None → ⊥
some≢none {X} x e = false≢true (ap (λ (o : Option X). is_none o) e)

same_mark : (m : Mark) (r l n : ℕ) → m.root ≡ r → m.length ≡ l → m.next ≡ n → m ≡ record { root = r; length = l; next = n; turn = m.turn }
same_mark m r l n a b c = λ i. record { root = a i; length = b i; next = c i; turn = m.turn }

pub own-mark : (v : Versions) (next : ℕ) (s : State) (m : Mark) → state_by v next ≡ s → IsWhole v next → m.root ≡ hand_root v → m.length ≡ hand_length s.versions → m.next ≡ next → IsOwnTurn s.versions m.turn
    → IsAlive s.versions m × (named s.versions m ≡ s.proof)
own-mark v next s m e w r l n own = subst (λ (z : State). m.length ≡ hand_length z.versions → IsOwnTurn z.versions m.turn → IsAlive z.versions m × (named z.versions m ≡ z.proof)) e at l own
  where
    at : m.length ≡ hand_length v → IsOwnTurn v m.turn → IsAlive v m × (named v m ≡ proof_of next (hand_plain v))
    at l own = subst (λ (z : Mark). IsAlive v z × (named v z ≡ proof_of next (hand_plain v))) (sym (same_mark m (hand_root v) (hand_length v) next r l n))
        (hand-alive v next m.turn w own, ap (proof_of next) (hand-named v next m.turn w own))

-- the root in hand, as it is kept
pub last-root : (rs dr : List Shared) (n : ℕ) (r : Shared) → n < length rs → Some r ≡ slice_get dr (length dr - 1) → get_or (take (n + 1) (values rs) ++ values dr) (n + length (values dr)) no_node ≡ r.value
last-root rs [] n r h e = absurd (some≢none r e)
last-root rs (d ∷ ds) n r h e =
    let many : length (take (n + 1) (values rs)) ≡ n + 1 = length-take-le (n + 1) (values rs) (omega (arith, h, length-values rs)) in
    let low : length (d ∷ ds) - 1 < length (d ∷ ds) = omega arith in
    let z : n + length (values (d ∷ ds)) - (n + 1) ≡ length (d ∷ ds) - 1 = omega (arith, length-values (d ∷ ds)) in
    get_or-append_right (take (n + 1) (values rs)) (values (d ∷ ds)) (n + 1) (n + length (values (d ∷ ds))) no_node many (omega (arith, length-values (d ∷ ds)))
    ∙ ap (λ (k : ℕ). get_or (values (d ∷ ds)) k no_node) z
    ∙ get_or-map (λ (x : Shared). x.value) (d ∷ ds) (length (d ∷ ds) - 1) r no_node low
    ∙ ap (λ (x : Shared). x.value) (get_or_from_slice_get (d ∷ ds) (length (d ∷ ds) - 1) r r (sym e))

pub first-root : (rs dr : List Shared) (n : ℕ) (r : Shared) → n < length rs → None ≡ slice_get dr (length dr - 1) → r ≡ get_or rs n r → get_or (take (n + 1) (values rs) ++ values dr) (n + length (values dr)) no_node ≡ r.value
first-root rs (d ∷ ds) n r h e is = absurd (some≢none (get_or (d ∷ ds) (length (d ∷ ds) - 1) r) (sym (e ∙ slice_get-get_or (d ∷ ds) (length (d ∷ ds) - 1) r (omega arith))))
first-root rs [] n r h e is =
    let z : n + 0 ≡ n = omega arith in
    ap (λ (k : ℕ). get_or (take (n + 1) (values rs) ++ []) k no_node) z
    ∙ get-front n (n + 1) (values rs) [] no_node (omega arith) (omega (arith, h, length-values rs))
    ∙ get_or-map (λ (x : Shared). x.value) rs n r no_node h ∙ ap (λ (x : Shared). x.value) (sym is)
