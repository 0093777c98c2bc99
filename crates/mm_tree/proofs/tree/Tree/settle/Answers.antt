use Rattle.std.proofs.Common.{◌≡◌, ℕ, ◌+◌, length, ap, sym, refl, subst, ◌∙◌, arith}
use Rattle.mm_plain.specs.declared.plain.Plain.{Plain}
use Rattle.mm_plain.specs.Shape.{Proof}
use Rattle.mm_tree.specs.Versions.{Versions, KeepsOlder, hand_plain, hand_length, hand_root}
use Rattle.mm_tree.specs.Trees.{State, FindsKeys, IsWhole, versions_of}
use Rattle.mm_tree.specs.View.{values}
use Rattle.mm_tree.proofs.Shapes.{length-values}
use Rattle.mm_tree.proofs.Keeping.{seven, seven-same, settled, plain-settled, whole-settled, older-settled, values-moved, pairs-moved}
use Rattle.mm_tree.proofs.Finding.{finds-settled}
use Rattle.mm_tree.proofs.tree.Tree.settle.Goals as goal

abbrev proof_by : ℕ → Plain → Proof
proof_by next p = record { plain = p; next = next }

pub invariant_of-self : goal.invariant_of-self
invariant_of-self c =
    let v : Versions = versions_of c.self.inside in
    let turn = c.turn_after-self-inside.result in
    let e : seven (values c.move_all.new.to.items) c.move_all-2.new.to.items (values c.move_all.new.from.items) c.move_all-2.new.from.items (c.self.inside.begun_root + c.len.result) c.length-length.result turn ≡ settled v turn
    = seven-same (values-moved (c.self.inside.begun_root + 1) c.self.inside.roots.items c.truncate.new.self.items c.move_all.new.to.items c.self.inside.draft_roots.items c.move_all.ensures.moved c.truncate.ensures.items)
    (pairs-moved c.self.inside.begun_length c.self.inside.trail.items c.truncate-2.new.self.items c.move_all-2.new.to.items c.self.inside.draft_bindings.items c.move_all-2.ensures.moved c.truncate-2.ensures.items)
    (ap values c.move_all.ensures.empty) c.move_all-2.ensures.empty
    (let z : c.self.inside.begun_root + c.len.result ≡ c.self.inside.begun_root + length (values c.self.inside.draft_roots.items) = omega (arith, c.len.ensures, length-values c.self.inside.draft_roots.items, c.self.inside.draft_roots.ok.0) in z)
    (c.length-length.ensures.hand ∙ sym (ap (λ (s : State). hand_length s.versions) c.self.view_is)) refl in
    let r = c.self.invariant.roots in
    let t = c.self.invariant.trail in
    record {
      whole = subst (λ (w : Versions). IsWhole w c.self.inside.next) (sym e) (whole-settled v turn c.self.inside.next c.turn_after-self-inside.ensures c.self.invariant.whole);
      roots = omega (arith, c.len.ensures, c.truncate.ensures.capacity, c.move_all.ensures.room, c.move_all.new.from.ok.0, ap length c.move_all.ensures.empty);
      trail = omega (arith, c.length-length.ensures.hand, ap (λ (s : State). hand_length s.versions) c.self.view_is, c.self.inside.draft_bindings.ok.0, c.truncate-2.ensures.capacity, c.move_all-2.ensures.room, c.move_all-2.new.from.ok.0, ap length c.move_all-2.ensures.empty);
      keyed = subst (FindsKeys c.self.inside.keyed) (sym e) (finds-settled c.self.inside.keyed v turn c.self.inside.next c.self.invariant.whole c.self.invariant.keyed);
    }

pub returns-clause-same : goal.returns-clause-same
returns-clause-same c =
    let v : Versions = versions_of c.self.inside in
    let turn = c.turn_after-self-inside.result in
    let e : seven (values c.move_all.new.to.items) c.move_all-2.new.to.items (values c.move_all.new.from.items) c.move_all-2.new.from.items (c.self.inside.begun_root + c.len.result) c.length-length.result turn ≡ settled v turn
    = seven-same (values-moved (c.self.inside.begun_root + 1) c.self.inside.roots.items c.truncate.new.self.items c.move_all.new.to.items c.self.inside.draft_roots.items c.move_all.ensures.moved c.truncate.ensures.items)
    (pairs-moved c.self.inside.begun_length c.self.inside.trail.items c.truncate-2.new.self.items c.move_all-2.new.to.items c.self.inside.draft_bindings.items c.move_all-2.ensures.moved c.truncate-2.ensures.items)
    (ap values c.move_all.ensures.empty) c.move_all-2.ensures.empty
    (let z : c.self.inside.begun_root + c.len.result ≡ c.self.inside.begun_root + length (values c.self.inside.draft_roots.items) = omega (arith, c.len.ensures, length-values c.self.inside.draft_roots.items, c.self.inside.draft_roots.ok.0) in z)
    (c.length-length.ensures.hand ∙ sym (ap (λ (s : State). hand_length s.versions) c.self.view_is)) refl in
    ap (λ (w : Versions). proof_by c.self.inside.next (hand_plain w)) e ∙ ap (proof_by c.self.inside.next) (plain-settled v turn c.self.inside.next c.self.invariant.whole) ∙ ap (λ (s : State). s.proof) c.self.view_is

pub returns-clause-marks : goal.returns-clause-marks
returns-clause-marks c =
    let v : Versions = versions_of c.self.inside in
    let turn = c.turn_after-self-inside.result in
    let e : seven (values c.move_all.new.to.items) c.move_all-2.new.to.items (values c.move_all.new.from.items) c.move_all-2.new.from.items (c.self.inside.begun_root + c.len.result) c.length-length.result turn ≡ settled v turn
    = seven-same (values-moved (c.self.inside.begun_root + 1) c.self.inside.roots.items c.truncate.new.self.items c.move_all.new.to.items c.self.inside.draft_roots.items c.move_all.ensures.moved c.truncate.ensures.items)
    (pairs-moved c.self.inside.begun_length c.self.inside.trail.items c.truncate-2.new.self.items c.move_all-2.new.to.items c.self.inside.draft_bindings.items c.move_all-2.ensures.moved c.truncate-2.ensures.items)
    (ap values c.move_all.ensures.empty) c.move_all-2.ensures.empty
    (let z : c.self.inside.begun_root + c.len.result ≡ c.self.inside.begun_root + length (values c.self.inside.draft_roots.items) = omega (arith, c.len.ensures, length-values c.self.inside.draft_roots.items, c.self.inside.draft_roots.ok.0) in z)
    (c.length-length.ensures.hand ∙ sym (ap (λ (s : State). hand_length s.versions) c.self.view_is)) refl in
    subst (λ (s : State). KeepsOlder s.versions (seven (values c.move_all.new.to.items) c.move_all-2.new.to.items (values c.move_all.new.from.items) c.move_all-2.new.from.items (c.self.inside.begun_root + c.len.result) c.length-length.result turn)) c.self.view_is
    (subst (λ (w : Versions). KeepsOlder v w) (sym e) (older-settled v turn c.self.inside.next c.self.invariant.whole))

pub returns-clause-settled : goal.returns-clause-settled
returns-clause-settled c = record { no_roots = ap values c.move_all.ensures.empty; no_bindings = c.move_all-2.ensures.empty }

pub returns-clause-hand : goal.returns-clause-hand
returns-clause-hand c =
    let v : Versions = versions_of c.self.inside in
    let turn = c.turn_after-self-inside.result in
    let e : seven (values c.move_all.new.to.items) c.move_all-2.new.to.items (values c.move_all.new.from.items) c.move_all-2.new.from.items (c.self.inside.begun_root + c.len.result) c.length-length.result turn ≡ settled v turn
    = seven-same (values-moved (c.self.inside.begun_root + 1) c.self.inside.roots.items c.truncate.new.self.items c.move_all.new.to.items c.self.inside.draft_roots.items c.move_all.ensures.moved c.truncate.ensures.items)
    (pairs-moved c.self.inside.begun_length c.self.inside.trail.items c.truncate-2.new.self.items c.move_all-2.new.to.items c.self.inside.draft_bindings.items c.move_all-2.ensures.moved c.truncate-2.ensures.items)
    (ap values c.move_all.ensures.empty) c.move_all-2.ensures.empty
    (let z : c.self.inside.begun_root + c.len.result ≡ c.self.inside.begun_root + length (values c.self.inside.draft_roots.items) = omega (arith, c.len.ensures, length-values c.self.inside.draft_roots.items, c.self.inside.draft_roots.ok.0) in z)
    (c.length-length.ensures.hand ∙ sym (ap (λ (s : State). hand_length s.versions) c.self.view_is)) refl in
    (ap hand_root e ∙ more-none (hand_root v) ∙ ap (λ (s : State). hand_root s.versions) c.self.view_is, ap hand_length e ∙ more-none (hand_length v) ∙ ap (λ (s : State). hand_length s.versions) c.self.view_is)
  where
    more-none : (n : ℕ) → n + 0 ≡ n
    more-none n = omega arith
