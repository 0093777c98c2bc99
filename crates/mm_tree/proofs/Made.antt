-- The version in hand, and what each call makes of it.
use Rattle.std.proofs.Common.{◌≡◌, ℕ, ◌+◌, ◌≤◌, true, List, [], ◌∷◌, map, take, length, refl, sym, ◌∙◌, ap, subst, arith, length-append, Result, Ok, Err, IfOk, OnOk}
use Rattle.std.specs.List.{sum_by}
use Rattle.std.proofs.lemmas.List.{append-nil}
use Rattle.std.proofs.lemmas.List.Sums.{sum_by-cons}
use Rattle.mm_subst.specs.declared.symbol.WSym.{WSym}
use Rattle.mm_subst.specs.Substitutions.{Pairs, applied}
use Rattle.mm_plain.specs.declared.plain.Plain.{Plain}
use Rattle.mm_plain.specs.Shape.{unknown, known, unknowns, size_of, height_of, greatest, put, step_at}
use Rattle.mm_plain.specs.Numbers.{HasOwnLabels, IsOwnLabel}
use Rattle.mm_plain.specs.Sources.{label_of}
use Rattle.mm_plain.proofs.Parts.{each-part}
use Rattle.mm_plain.specs.Valid.{most_steps, most_levels}
use Rattle.mm_plain.specs.Binding.{bound, HasWorkKeys}
use Rattle.mm_tree.specs.Lines.{Line}
use Rattle.mm_tree.specs.Meanings.{mean, means, mean-unknown, mean-known, text_now, unknown_timed, count, tall, youngest}
use Rattle.mm_tree.specs.Falls.{count-unknown}
use Rattle.mm_tree.specs.Paths.{IsPut}
use Rattle.mm_tree.specs.Placed.{unknowns_timed, placed_timed}
use Rattle.mm_tree.specs.Versions.{Versions, line_of, hand_node, hand_length, hand_plain, IsSound}
use Rattle.mm_tree.specs.Trees.{State, state_by, IsWhole}
use Rattle.mm_tree.specs.declared.timed.Text.{Text}
use Rattle.mm_tree.specs.declared.timed.TimedTree.{TimedTree}
use Rattle.mm_tree.proofs.Shapes.{size_of-mean, height_of-mean, youngest-unknown, youngest-known, tall-unknown}
use Rattle.mm_tree.proofs.Bindings.{string-new, values-new, mean-bind}
use Rattle.mm_tree.proofs.Keeping.{take-all, with_root, with_binding, hand-more, length-line, line-more, sound-at, seven}

-- what holds of a tree as it is seen
pub record IsFine (s : State) : Type 0 where
  pub whole : IsWhole s.versions s.proof.next
  pub plain : hand_plain s.versions ≡ s.proof.plain

pub fine : (v : Versions) (next : ℕ) (s : State) → state_by v next ≡ s → IsWhole v next → IsFine s
fine v next s e w = subst IsFine e (record { whole = w; plain = refl })

-- unknown steps that are as young as the version, and a known step over them
unknowns-means : (line : Line) (born : ℕ) (sigma : Pairs) (hs : List (List WSym)) → length line ≤ born → means line (unknowns_timed born sigma hs) ≡ unknowns sigma hs
unknowns-means line born sigma [] h = refl
unknowns-means line born sigma (s ∷ ss) h =
    ap (λ (n : Plain). n ∷ means line (unknowns_timed born sigma ss)) (mean-unknown (record { birth = born; string = applied sigma s }) line ∙ ap unknown (string-new line born (applied sigma s) h))
    ∙ ap (λ (n : List Plain). unknown (applied sigma s) ∷ n) (unknowns-means line born sigma ss h)

pub placed-mean : (line : Line) (born : ℕ) (t : Text) (id : ℕ) (sigma : Pairs) (hs : List (List WSym)) → length line ≤ born → mean (placed_timed born t id sigma hs) line ≡ known (text_now line t) id sigma (unknowns sigma hs)
placed-mean line born t id sigma hs h =
    mean-known t id (record { birth = born; pairs = sigma }) (unknowns_timed born sigma hs) line
    ∙ ap (λ (ps : Pairs). known (text_now line t) id ps (means line (unknowns_timed born sigma hs))) (values-new line born sigma h)
    ∙ ap (known (text_now line t) id sigma) (unknowns-means line born sigma hs h)

unknowns-young : (born : ℕ) (sigma : Pairs) (hs : List (List WSym)) → greatest (map youngest (unknowns_timed born sigma hs)) ≤ born
unknowns-young born sigma [] = omega arith
unknowns-young born sigma (s ∷ ss) = omega (arith, unknowns-young born sigma ss, youngest-unknown (record { birth = born; string = applied sigma s }))

pub placed-young : (born : ℕ) (t : Text) (id : ℕ) (sigma : Pairs) (hs : List (List WSym)) → t.birth ≤ born → youngest (placed_timed born t id sigma hs) ≤ born
placed-young born t id sigma hs h =
    omega (arith, h, youngest-known t id (record { birth = born; pairs = sigma }) (unknowns_timed born sigma hs), unknowns-young born sigma hs)

pub unknowns-count : (born : ℕ) (sigma : Pairs) (hs : List (List WSym)) → sum_by count (unknowns_timed born sigma hs) ≡ length hs
unknowns-count born sigma [] = refl
unknowns-count born sigma (s ∷ ss) =
    sum_by-cons count (unknown_timed (record { birth = born; string = applied sigma s })) (unknowns_timed born sigma ss)
    ∙ omega (arith, unknowns-count born sigma ss, count-unknown (record { birth = born; string = applied sigma s }))

-- one root more
pub more-plain : (v : Versions) (next k : ℕ) (new y : TimedTree) → IsWhole v next → IsPut (hand_node v) k new y → hand_plain (with_root v y) ≡ put (hand_plain v) k (mean new (line_of v true))
more-plain v next k new y w p = ap (λ (x : TimedTree). mean x (line_of v true)) (hand-more v y next w) ∙ p.meaning (line_of v true)

pub more-whole : (v : Versions) (next k : ℕ) (new y : TimedTree) → IsWhole v next → IsPut (hand_node v) k new y → youngest new ≤ hand_length v
    → size_of (put (hand_plain v) k (mean new (line_of v true))) ≤ most_steps → height_of (put (hand_plain v) k (mean new (line_of v true))) ≤ most_levels → IsWhole (with_root v y) next
more-whole v next k new y w p young few low = record {
  begun_root = w.begun_root;
  begun_length = w.begun_length;
  sound = subst (λ (x : TimedTree). IsSound x (hand_length v) next) (sym (hand-more v y next w)) sound-y;
  turn = w.turn;
}
  where
    sound-y : IsSound y (hand_length v) next
    sound-y = record {
      born = let b = w.sound.born in let c = p.births in omega arith;
      few = omega (arith, few, size_of-mean (line_of v true) y, ap size_of (p.meaning (line_of v true)));
      low = omega (arith, low, height_of-mean (line_of v true) y, ap height_of (p.meaning (line_of v true)));
      first = w.sound.first;
      last = w.sound.last;
    }

-- another root
pub root-mean : (v : Versions) (next : ℕ) (y : TimedTree) → IsWhole v next → hand_plain (with_root v y) ≡ mean y (line_of v true)
root-mean v next y w = ap (λ (x : TimedTree). mean x (line_of v true)) (hand-more v y next w)

pub root-whole : (v : Versions) (next : ℕ) (y : TimedTree) → IsWhole v next → youngest y ≤ hand_length v → count y ≤ most_steps → tall y ≤ most_levels → IsWhole (with_root v y) next
root-whole v next y w young few low = record {
  begun_root = w.begun_root;
  begun_length = w.begun_length;
  sound = subst (λ (x : TimedTree). IsSound x (hand_length v) next) (sym (hand-more v y next w)) (record { born = young; few = few; low = low; first = w.sound.first; last = w.sound.last });
  turn = w.turn;
}

-- one binding more
pub bound-plain : (v : Versions) (next : ℕ) (theta : Pairs) → HasWorkKeys theta → IsWhole v next → hand_plain (with_binding v theta) ≡ bound theta (hand_plain v)
bound-plain v next theta keys w = ap (mean (hand_node v)) (line-more v theta) ∙ mean-bind (line_of v true) theta keys (hand_node v) (let b = w.sound.born in omega (arith, length-line v next w))

pub bound-whole : (v : Versions) (next : ℕ) (theta : Pairs) → IsWhole v next → IsWhole (with_binding v theta) next
bound-whole v next theta w = record {
  begun_root = w.begun_root;
  begun_length = w.begun_length;
  sound = record {
    born = let b = w.sound.born in omega (arith, length-append v.draft_bindings (theta ∷ []));
    few = w.sound.few;
    low = w.sound.low;
    first = w.sound.first;
    last = w.sound.last;
  };
  turn = w.turn;
}

-- a tree with one version
pub rooted-whole : (x : TimedTree) (line : Line) (n next : ℕ) → n ≡ length line → IsSound x (length line) next → IsWhole (seven (x ∷ []) line [] [] 0 n 1) next
rooted-whole x line n next e h = record {
  begun_root = omega arith;
  begun_length = omega (arith, e);
  sound = sound-at x x (n + 0) (length line) next refl (omega (arith, e)) h;
  turn = omega arith;
}

pub rooted-plain : (x : TimedTree) (line : Line) (n : ℕ) → n ≡ length line → hand_plain (seven (x ∷ []) line [] [] 0 n 1) ≡ mean x line
rooted-plain x line n e = ap (mean x) (append-nil (take n line) ∙ take-all n line (omega (arith, e)))

-- that of one unknown step
pub begun-sound : (t : Text) (x : TimedTree) → t.birth ≡ 0 → x ≡ unknown_timed t → (n : ℕ) → IsSound x n 1
begun-sound t x h is n = record {
  born = omega (arith, ap youngest is, youngest-unknown t, h);
  few = omega (arith, ap count is, count-unknown t);
  low = omega (arith, ap tall is, tall-unknown t);
  first = omega arith;
  last = omega arith;
}

pub begun-plain : (t : Text) (x : TimedTree) (line : Line) → t.birth ≡ 0 → x ≡ unknown_timed t → line ≡ [] → mean x line ≡ unknown t.string
begun-plain t x line h is e =
    ap (λ (l : Line). mean x l) e ∙ ap (λ (y : TimedTree). mean y []) is ∙ mean-unknown t [] ∙ ap unknown (string-new [] t.birth t.string (omega arith))

-- the root of the version in hand
pub root-sound : (v : Versions) (next : ℕ) (s : State) (x : TimedTree) → state_by v next ≡ s → IsWhole v next → x ≡ hand_node s.versions → IsSound x (length (line_of s.versions true)) s.proof.next
root-sound v next s x e w is =
    subst (λ (y : TimedTree). IsSound y (length (line_of s.versions true)) s.proof.next) (sym is)
    (subst (λ (t : State). IsSound (hand_node t.versions) (length (line_of t.versions true)) t.proof.next) e
    (subst (λ (n : ℕ). IsSound (hand_node v) n next) (sym (length-line v next w)) w.sound))

pub root-plain : (v : Versions) (next : ℕ) (s : State) (x : TimedTree) → state_by v next ≡ s → x ≡ hand_node s.versions → mean x (line_of s.versions true) ≡ s.proof.plain
root-plain v next s x e is =
    ap (λ (y : TimedTree). mean y (line_of s.versions true)) is
    ∙ subst (λ (t : State). mean (hand_node t.versions) (line_of t.versions true) ≡ t.proof.plain) e refl

-- what holds of an answer, if there is one
pub if-ok : {X E : Type 0} (r : Result X E) (P Q : X → Type 0) → ((x : X) → P x → Q x) → IfOk r P → IfOk r Q
if-ok (Ok x) P Q f h = f x h
if-ok (Err e) P Q f h = tt

pub on-ok : {E : Type 0} (r : Result Unit E) (P Q : Type 0) → (P → Q) → OnOk r P → OnOk r Q
on-ok (Ok x) P Q f h = f h
on-ok (Err e) P Q f h = tt

pub fine-few : (s : State) → IsFine s → size_of s.proof.plain ≤ 1000000
fine-few s f = let a = f.whole.sound.few in omega (arith, a, size_of-mean (line_of s.versions true) (hand_node s.versions), ap size_of f.plain)

pub fine-low : (s : State) → IsFine s → height_of s.proof.plain ≤ 2000
fine-low s f = let a = f.whole.sound.low in omega (arith, a, height_of-mean (line_of s.versions true) (hand_node s.versions), ap height_of f.plain)

-- a step's labels are the database's own where those of the whole are
pub own-part : (bytes : List ℕ) (x : Plain) (k : ℕ) → 1 ≤ k → k ≤ size_of x → HasOwnLabels bytes x → HasOwnLabels bytes (step_at x k)
unfolding HasOwnLabels
own-part bytes x k h g own = each-part (λ y. IsOwnLabel bytes (label_of y)) x k h g own

pub root-young : (v : Versions) (next : ℕ) (s : State) (x : TimedTree) → state_by v next ≡ s → IsWhole v next → x ≡ hand_node s.versions → youngest x ≤ hand_length s.versions
root-young v next s x e w is =
    subst (λ (y : TimedTree). youngest y ≤ hand_length s.versions) (sym is)
    (subst (λ (t : State). youngest (hand_node t.versions) ≤ hand_length t.versions) e w.sound.born)
