-- The node of the proof that labels begin.
use Rattle.std.proofs.Common.{◌≡◌, ℕ, ◌+◌, ◌≤◌, ◌<◌, List, [], ◌∷◌, ◌++◌, map, length, Option, None, Some, Result, Err, sym, ◌∙◌, ap, subst, arith}
use Rattle.std.specs.Prelude.{reverse, IsErr, IsErrAnd}
use Rattle.std.specs.List.{All}
use Rattle.std.specs.Option.{option_map}
use Rattle.std.proofs.lemmas.List.{reverse-reverse}
use Rattle.mm_scope.specs.Contents.{labels_of}
use Rattle.mm_subst.specs.declared.symbol.WSym.{WSym}
use Rattle.mm_subst.specs.Statements.{statement_of}
use Rattle.mm_plain.specs.declared.plain.Plain.{Plain}
use Rattle.mm_plain.specs.LabelTrees.{MayStand, fresh_proof, fresh_proof_of}
use Rattle.mm_plain.specs.Numbers.{IsOwnLabel}
use Rattle.mm_plain.specs.Rows.{Row, fresh_rows, rows_of, with_rows}
use Rattle.mm_plain.specs.Shape.{Proof, size_of, height_of}
use Rattle.mm_plain.specs.Valid.{IsValid, first_setting, most_levels, most_steps, most_works}
use Rattle.mm_plain.proofs.Forms.{string_of_statement}
use Rattle.mm_plain.proofs.LabelTrees.{height-begun, next-begun, size-begun, valid-begun}
use Rattle.mm_plain.proofs.Owned.{stands-own}
use Rattle.mm_plain.proofs.Rows.{made-begun, rows-begun}
use Rattle.mm_tree.specs.Labelled.{AreCounted, FoldLow, IsBegun, draws_all}
use Rattle.mm_tree.specs.Meanings.{mean}
use Rattle.mm_tree.specs.Versions.{IsSound}
use Rattle.mm_tree.specs.View.{Shared, values}
use Rattle.mm_tree.specs.Written.{written}
use Rattle.mm_tree.specs.Trees.{State}
use Rattle.mm_tree.specs.declared.labelled.OfLabelsFault.{OfLabelsFault}
use Rattle.mm_tree.specs.declared.labelled.OfLabelsFault.TheVariants.{WorkSpent, Memory}
use Rattle.mm_tree.specs.declared.timed.TimedTree.{TimedTree}
use Rattle.mm_tree.proofs.Rooms.{same_error}
use Rattle.mm_tree.proofs.Written.{count-written, mean-written, tall-written, young-written}

-- a label that may stand names a statement of the database

own_one : (bytes : List ℕ) (at : ℕ) (o : Option ℕ) → at < length (labels_of bytes) → MayStand bytes at o → IsOwnLabel bytes o
own_one bytes at None h m = tt
own_one bytes at (Some id) h m = stands-own bytes at id h m

pub own_all : (bytes : List ℕ) (at : ℕ) (labels : List (Option ℕ)) → at < length (labels_of bytes) → All (MayStand bytes at) labels → All (IsOwnLabel bytes) labels
own_all bytes at labels h m = λ k d l. own_one bytes at _ h (m k d l)

-- the proof that labels begin

pub record Begun (bytes : List ℕ) (at : ℕ) (labels : List (Option ℕ)) : Type 0 where
  pub proof : Proof
  pub is : fresh_proof_of bytes (statement_of bytes at) labels ≡ Some proof
  pub next : proof.next ≡ 1 + draws_all bytes labels
  pub few : size_of proof.plain ≡ length labels
  pub low : height_of proof.plain ≤ most_levels

pub begun : (bytes : List ℕ) (at : ℕ) (labels : List (Option ℕ)) → FoldLow bytes labels → Begun bytes at labels
begun bytes at labels fold =
    let goal : List WSym = statement_of bytes at in
    let p : Proof = fresh_proof bytes goal fold.0 in
    let is : fresh_proof_of bytes goal labels ≡ Some p = ap (option_map (fresh_proof bytes goal)) fold.1 in
    let low = fold.2 in
    record {
      proof = p;
      is = is;
      next = next-begun bytes goal labels p is;
      few = size-begun bytes goal labels p is;
      low = omega (arith, low, height-begun bytes goal labels fold.0 p fold.1 is);
    }

same_proof : (p q : Proof) → Some p ≡ Some q → p ≡ q
same_proof p q h = cc

pub is_the_one : (bytes : List ℕ) (at : ℕ) (labels : List (Option ℕ)) (b : Begun bytes at labels) (p : Proof) → fresh_proof_of bytes (statement_of bytes at) labels ≡ Some p → b.proof ≡ p
is_the_one bytes at labels b p h = same_proof b.proof p (sym b.is ∙ h)

pub few_works : (bytes : List ℕ) (at : ℕ) (labels : List (Option ℕ)) (b : Begun bytes at labels) (p : Proof) → b.proof ≡ p → draws_all bytes labels ≤ most_works → p.next ≤ most_works + 1
few_works bytes at labels b p same few = let next = b.next in omega (arith, next, ap (λ (q : Proof). q.next) same, few)

pub spent_works : (bytes : List ℕ) (at : ℕ) (labels : List (Option ℕ)) (b : Begun bytes at labels) (p : Proof) → b.proof ≡ p → most_works < draws_all bytes labels → most_works + 1 < p.next
spent_works bytes at labels b p same many = let next = b.next in omega (arith, next, ap (λ (q : Proof). q.next) same, many)

pub valid_begun : (bytes : List ℕ) (at : ℕ) (labels : List (Option ℕ)) (b : Begun bytes at labels) → All (MayStand bytes at) labels → length labels ≤ most_steps → draws_all bytes labels ≤ most_works
    → IsValid bytes at (statement_of bytes at) b.proof
valid_begun bytes at labels b m few drawn =
    let next = b.next in
    valid-begun bytes at (statement_of bytes at) labels b.proof b.is m (string_of_statement (first_setting bytes at) at) few b.low (omega arith)

-- its rows make its one node

pub one_node : (bytes : List ℕ) (at : ℕ) (labels : List (Option ℕ)) (b : Begun bytes at labels) (rows : List Row) (nodes : List Shared) (goal : List WSym) (next : ℕ) → All (MayStand bytes at) labels
    → goal ≡ statement_of bytes at → next ≡ draws_all bytes labels + 1 → rows ≡ fresh_rows bytes next (goal ∷ []) (reverse labels) → values nodes ≡ map (written 0) (with_rows bytes [] (reverse rows))
    → values nodes ≡ written 0 b.proof.plain ∷ []
one_node bytes at labels b rows nodes goal next m g n r e =
    let p : Proof = b.proof in
    let bn = b.next in
    let same : next ≡ p.next = omega (arith, n, bn) in
    e ∙ ap (λ (rs : List Row). map (written 0) (with_rows bytes [] (reverse rs)))
    (r ∙ ap (λ (k : ℕ). fresh_rows bytes k (goal ∷ []) (reverse labels)) same
    ∙ ap (λ (t : List WSym). fresh_rows bytes p.next (t ∷ []) (reverse labels)) g
    ∙ sym (rows-begun bytes at (statement_of bytes at) labels p b.is m))
    ∙ ap (λ (rs : List Row). map (written 0) (with_rows bytes [] rs)) (reverse-reverse (rows_of p.plain))
    ∙ ap (map (written 0)) (made-begun bytes at (statement_of bytes at) labels p b.is m)

last_one : (vs : List TimedTree) (v w : TimedTree) → vs ++ v ∷ [] ≡ w ∷ [] → v ≡ w
last_one [] v w h = cc
last_one (u ∷ []) v w h = absurd (omega (arith, ap length h))
last_one (u ∷ t ∷ ts) v w h = absurd (omega (arith, ap length h))

pub popped_root : (nodes rest : List Shared) (root : Shared) (w : TimedTree) → values nodes ≡ w ∷ [] → nodes ≡ rest ++ root ∷ [] → root.value ≡ w
popped_root nodes [] root w h e = last_one [] root.value w (sym (ap values e) ∙ h)
popped_root nodes (r ∷ rs) root w h e = absurd (longer rs (sym (ap values e) ∙ h))
  where
    longer : (rs : List Shared) → r.value ∷ values (rs ++ root ∷ []) ≡ w ∷ [] → ⊥
    longer [] h = omega (arith, ap length h)
    longer (q ∷ qs) h = omega (arith, ap length h)

pub none_popped : (nodes : List Shared) (w : TimedTree) → values nodes ≡ w ∷ [] → length nodes ≡ 0 → ⊥
none_popped [] w h z = omega (arith, ap length h)
none_popped (n ∷ ns) w h z = omega (arith, z)

pub sound_root : (bytes : List ℕ) (at : ℕ) (labels : List (Option ℕ)) (b : Begun bytes at labels) (x : TimedTree) (n next : ℕ) → x ≡ written 0 b.proof.plain → length labels ≤ most_steps
    → next ≡ draws_all bytes labels + 1 → draws_all bytes labels ≤ most_works → IsSound x n next
sound_root bytes at labels b x n next e few is drawn =
    subst (λ (y : TimedTree). IsSound y n next) (sym e) (record {
      born = omega (arith, young-written 0 b.proof.plain);
      few = (let same = b.few in omega (arith, same, count-written 0 b.proof.plain, few));
      low = (let low = b.low in omega (arith, low, tall-written 0 b.proof.plain));
      first = omega arith;
      last = omega arith;
    })

pub proof_root : (bytes : List ℕ) (at : ℕ) (labels : List (Option ℕ)) (b : Begun bytes at labels) (x : TimedTree) (line : List (List (WSym × List WSym))) (next : ℕ) (p : Proof) → x ≡ written 0 b.proof.plain → line ≡ []
    → next ≡ draws_all bytes labels + 1 → p ≡ record { plain = mean x line; next = next } → p ≡ b.proof
proof_root bytes at labels b x line next p e none is h =
    let bn = b.next in
    let same : next ≡ b.proof.next = omega (arith, is, bn) in
    h ∙ ap (λ (y : TimedTree). record { plain = mean y line; next = next }) e
    ∙ ap (λ (t : Plain). record { plain = t; next = next }) (mean-written 0 line (omega (arith, ap length none)) b.proof.plain)
    ∙ ap (λ (k : ℕ). record { plain = b.proof.plain; next = k }) same

-- what is refused of the count is refused of the tree

refused_by : (bytes : List ℕ) (at : ℕ) (labels : List (Option ℕ)) (b : Begun bytes at labels) (f : OfLabelsFault) (p : Proof) → b.proof ≡ p → AreCounted (Err f) (draws_all bytes labels) → IsBegun (Err f) p
refused_by bytes at labels b WorkSpent p same many = spent_works bytes at labels b p same many
refused_by bytes at labels b Memory p same many = tt

pub refused : (bytes : List ℕ) (at : ℕ) (labels : List (Option ℕ)) (b : Begun bytes at labels) (r : Result State OfLabelsFault) (f : OfLabelsFault) → IsErrAnd r (λ e. e ≡ f) → IsErr r
    → AreCounted (Err f) (draws_all bytes labels) → (p : Proof) → fresh_proof_of bytes (statement_of bytes at) labels ≡ Some p → IsBegun r p
refused bytes at labels b r f same is counted p h =
    subst (λ (q : Result State OfLabelsFault). IsBegun q p) (sym (same_error r f same is)) (refused_by bytes at labels b f p (is_the_one bytes at labels b p h) counted)
