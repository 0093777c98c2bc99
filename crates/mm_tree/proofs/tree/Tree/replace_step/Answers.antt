use Rattle.std.proofs.Common.{◌≡◌, ℕ, ◌≤◌, [], ◌∷◌, true, ap, sym, refl, subst, ◌∙◌, arith}
use Rattle.mm_plain.specs.declared.plain.Plain.{Plain}
use Rattle.mm_plain.specs.Shape.{Proof, size_of, height_of, depth_at, put}
use Rattle.mm_plain.specs.Grafts.{grafted_in}
use Rattle.mm_plain.proofs.Sizes.{size-put}
use Rattle.mm_plain.proofs.Parts.{size-part}
use Rattle.mm_tree.specs.Meanings.{mean, count, youngest}
use Rattle.mm_tree.specs.Paths.{IsPut}
use Rattle.mm_tree.specs.Versions.{Versions, KeepsMarks, hand_plain, hand_node, hand_length, line_of}
use Rattle.mm_tree.specs.Trees.{State, FindsKeys, IsWhole, state_by, versions_of}
use Rattle.mm_tree.specs.View.{values}
use Rattle.mm_tree.specs.declared.timed.TimedTree.{TimedTree}
use Rattle.mm_tree.proofs.Shapes.{length-values, size_of-mean, depth_at-mean}
use Rattle.mm_tree.proofs.Keeping.{seven, seven-same, with_root, kept-root, values-append}
use Rattle.mm_tree.proofs.Made.{more-plain, more-whole}
use Rattle.mm_tree.proofs.tree.Tree.replace_step.Goals as goal

abbrev proof_by : ℕ → Plain → Proof
proof_by next p = record { plain = p; next = next }

pub put-requires : goal.put-requires
put-requires g c =
    let seen : state_by (seven (values c.reserve.new.self.items) c.self.inside.trail.items (values c.self.inside.draft_roots.items) c.self.inside.draft_bindings.items c.self.inside.begun_root c.self.inside.begun_length c.self.inside.turn) c.self.inside.next ≡ c.args.self.now
    = ap (λ (w : Versions). state_by w c.self.inside.next) (seven-same (ap values c.reserve.ensures.items) refl refl refl refl refl refl) ∙ c.self.view_is in
    let high : size_of c.args.self.now.proof.plain ≡ count c.hand.result.now = ap size_of (sym (c.hand.ensures.plain ∙ ap (λ (s : State). s.proof.plain) seen)) ∙ size_of-mean _ c.hand.result.now in
    record {
      small = omega (arith, c.requires.few, size-put (mean c.args.new.value (line_of c.args.self.now.versions true)) c.args.self.now.proof.plain c.args.step c.requires.exists.0 c.requires.exists.1, size-part c.args.self.now.proof.plain c.args.step c.requires.exists.0 c.requires.exists.1, size_of-mean (line_of c.args.self.now.versions true) c.args.new.value, high, c.hand.ensures.few);
      exists = (omega (arith, c.from.ensures, c.requires.exists.0), omega (arith, c.from.ensures, c.requires.exists.1, high));
    }

pub returns-in_err-root-clause-cost : goal.returns-in_err-root-clause-cost
returns-in_err-root-clause-cost g c =
    let seen : state_by (seven (values c.reserve.new.self.items) c.self.inside.trail.items (values c.self.inside.draft_roots.items) c.self.inside.draft_bindings.items c.self.inside.begun_root c.self.inside.begun_length c.self.inside.turn) c.self.inside.next ≡ c.args.self.now
    = ap (λ (w : Versions). state_by w c.self.inside.next) (seven-same (ap values c.reserve.ensures.items) refl refl refl refl refl refl) ∙ c.self.view_is in
    let deep : depth_at (mean c.hand.result.now []) c.from.result ≡ depth_at c.args.self.now.proof.plain c.args.step
    = sym (depth_at-mean _ c.hand.result.now c.from.result) ∙ ap (λ (x : Plain). depth_at x c.from.result) (c.hand.ensures.plain ∙ ap (λ (s : State). s.proof.plain) seen) ∙ ap (depth_at c.args.self.now.proof.plain) c.from.ensures in
    omega (arith, c.put.ensures.cost, deep)

pub returns-in_err-push-clause-cost : goal.returns-in_err-push-clause-cost
returns-in_err-push-clause-cost g c =
    let seen : state_by (seven (values c.reserve.new.self.items) c.self.inside.trail.items (values c.self.inside.draft_roots.items) c.self.inside.draft_bindings.items c.self.inside.begun_root c.self.inside.begun_length c.self.inside.turn) c.self.inside.next ≡ c.args.self.now
    = ap (λ (w : Versions). state_by w c.self.inside.next) (seven-same (ap values c.reserve.ensures.items) refl refl refl refl refl refl) ∙ c.self.view_is in
    let deep : depth_at (mean c.hand.result.now []) c.from.result ≡ depth_at c.args.self.now.proof.plain c.args.step
    = sym (depth_at-mean _ c.hand.result.now c.from.result) ∙ ap (λ (x : Plain). depth_at x c.from.result) (c.hand.ensures.plain ∙ ap (λ (s : State). s.proof.plain) seen) ∙ ap (depth_at c.args.self.now.proof.plain) c.from.ensures in
    omega (arith, c.put.ensures.cost, deep)

pub returns-clause-cost : goal.returns-clause-cost
returns-clause-cost g c =
    let seen : state_by (seven (values c.reserve.new.self.items) c.self.inside.trail.items (values c.self.inside.draft_roots.items) c.self.inside.draft_bindings.items c.self.inside.begun_root c.self.inside.begun_length c.self.inside.turn) c.self.inside.next ≡ c.args.self.now
    = ap (λ (w : Versions). state_by w c.self.inside.next) (seven-same (ap values c.reserve.ensures.items) refl refl refl refl refl refl) ∙ c.self.view_is in
    let deep : depth_at (mean c.hand.result.now []) c.from.result ≡ depth_at c.args.self.now.proof.plain c.args.step
    = sym (depth_at-mean _ c.hand.result.now c.from.result) ∙ ap (λ (x : Plain). depth_at x c.from.result) (c.hand.ensures.plain ∙ ap (λ (s : State). s.proof.plain) seen) ∙ ap (depth_at c.args.self.now.proof.plain) c.from.ensures in
    omega (arith, c.put.ensures.cost, deep)

pub invariant_of-self-3 : goal.invariant_of-self-3
invariant_of-self-3 g c =
    let v : Versions = versions_of c.self.inside in
    let reserved : seven (values c.reserve.new.self.items) c.self.inside.trail.items (values c.self.inside.draft_roots.items) c.self.inside.draft_bindings.items c.self.inside.begun_root c.self.inside.begun_length c.self.inside.turn ≡ v
    = seven-same (ap values c.reserve.ensures.items) refl refl refl refl refl refl in
    let e : seven (values c.reserve.new.self.items) c.self.inside.trail.items (values c.push.new.self.items) c.self.inside.draft_bindings.items c.self.inside.begun_root c.self.inside.begun_length c.self.inside.turn ≡ with_root v c.in_ok-root.root.value
    = seven-same (ap values c.reserve.ensures.items) refl (ap values c.in_ok-push.ensures.items ∙ values-append c.self.inside.draft_roots.items (c.in_ok-root.root ∷ [])) refl refl refl refl in
    let p : IsPut (hand_node v) c.args.step c.args.new.value c.in_ok-root.root.value
    = subst (λ (k : ℕ). IsPut (hand_node v) k c.args.new.value c.in_ok-root.root.value) c.from.ensures
    (subst (λ (x : TimedTree). IsPut x c.from.result c.args.new.value c.in_ok-root.root.value) (c.hand.ensures.node ∙ ap hand_node reserved) c.in_ok-root.ensures.meaning) in
    let w : IsWhole v c.self.inside.next = c.self.invariant.whole in
    let b = w.begun_root in
    record {
      whole = subst (λ (u : Versions). IsWhole u c.self.inside.next) (sym e) (more-whole v c.self.inside.next c.args.step c.args.new.value c.in_ok-root.root.value w p
          (subst (λ (s : State). youngest c.args.new.value ≤ hand_length s.versions) (sym c.self.view_is) c.requires.born)
          (subst (λ (s : State). size_of (put s.proof.plain c.args.step (mean c.args.new.value (line_of s.versions true))) ≤ 1000000) (sym c.self.view_is) c.requires.few)
          (subst (λ (s : State). height_of (put s.proof.plain c.args.step (mean c.args.new.value (line_of s.versions true))) ≤ 2000) (sym c.self.view_is) c.requires.low));
      roots = omega (arith, c.in_ok-reserve.ensures.ok, c.in_ok-push.ensures.len, c.len-drafts.ensures, c.reserve.ensures.len, length-values c.self.inside.roots.items, c.self.inside.roots.ok.0);
      trail = c.self.invariant.trail;
      keyed = subst (FindsKeys c.self.inside.keyed) (sym e) c.self.invariant.keyed;
    }

pub returns-clause-ok : goal.returns-clause-ok
returns-clause-ok g c =
    let v : Versions = versions_of c.self.inside in
    let reserved : seven (values c.reserve.new.self.items) c.self.inside.trail.items (values c.self.inside.draft_roots.items) c.self.inside.draft_bindings.items c.self.inside.begun_root c.self.inside.begun_length c.self.inside.turn ≡ v
    = seven-same (ap values c.reserve.ensures.items) refl refl refl refl refl refl in
    let e : seven (values c.reserve.new.self.items) c.self.inside.trail.items (values c.push.new.self.items) c.self.inside.draft_bindings.items c.self.inside.begun_root c.self.inside.begun_length c.self.inside.turn ≡ with_root v c.in_ok-root.root.value
    = seven-same (ap values c.reserve.ensures.items) refl (ap values c.in_ok-push.ensures.items ∙ values-append c.self.inside.draft_roots.items (c.in_ok-root.root ∷ [])) refl refl refl refl in
    let p : IsPut (hand_node v) c.args.step c.args.new.value c.in_ok-root.root.value
    = subst (λ (k : ℕ). IsPut (hand_node v) k c.args.new.value c.in_ok-root.root.value) c.from.ensures
    (subst (λ (x : TimedTree). IsPut x c.from.result c.args.new.value c.in_ok-root.root.value) (c.hand.ensures.node ∙ ap hand_node reserved) c.in_ok-root.ensures.meaning) in
    ap (λ (u : Versions). proof_by c.self.inside.next (hand_plain u)) e
    ∙ ap (proof_by c.self.inside.next) (more-plain v c.self.inside.next c.args.step c.args.new.value c.in_ok-root.root.value c.self.invariant.whole p)
    ∙ ap (λ (s : State). grafted_in s.proof c.args.step (mean c.args.new.value (line_of s.versions true))) c.self.view_is

pub returns-clause-marks : goal.returns-clause-marks
returns-clause-marks g c =
    let v : Versions = versions_of c.self.inside in
    let reserved : seven (values c.reserve.new.self.items) c.self.inside.trail.items (values c.self.inside.draft_roots.items) c.self.inside.draft_bindings.items c.self.inside.begun_root c.self.inside.begun_length c.self.inside.turn ≡ v
    = seven-same (ap values c.reserve.ensures.items) refl refl refl refl refl refl in
    let e : seven (values c.reserve.new.self.items) c.self.inside.trail.items (values c.push.new.self.items) c.self.inside.draft_bindings.items c.self.inside.begun_root c.self.inside.begun_length c.self.inside.turn ≡ with_root v c.in_ok-root.root.value
    = seven-same (ap values c.reserve.ensures.items) refl (ap values c.in_ok-push.ensures.items ∙ values-append c.self.inside.draft_roots.items (c.in_ok-root.root ∷ [])) refl refl refl refl in
    let p : IsPut (hand_node v) c.args.step c.args.new.value c.in_ok-root.root.value
    = subst (λ (k : ℕ). IsPut (hand_node v) k c.args.new.value c.in_ok-root.root.value) c.from.ensures
    (subst (λ (x : TimedTree). IsPut x c.from.result c.args.new.value c.in_ok-root.root.value) (c.hand.ensures.node ∙ ap hand_node reserved) c.in_ok-root.ensures.meaning) in
    subst (λ (s : State). KeepsMarks s.versions (seven (values c.reserve.new.self.items) c.self.inside.trail.items (values c.push.new.self.items) c.self.inside.draft_bindings.items c.self.inside.begun_root c.self.inside.begun_length c.self.inside.turn)) c.self.view_is
    (subst (λ (u : Versions). KeepsMarks v u) (sym e) (kept-root v c.in_ok-root.root.value))

pub returns-clause-begun : goal.returns-clause-begun
returns-clause-begun g c = (ap (λ (s : State). s.versions.begun_root) c.self.view_is, ap (λ (s : State). s.versions.begun_length) c.self.view_is)
