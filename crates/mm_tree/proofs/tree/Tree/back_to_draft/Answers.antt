use Rattle.std.proofs.Common.{◌≡◌, ℕ, ◌-◌, ap, sym, refl, subst, ◌∙◌, arith}
use Rattle.mm_plain.specs.declared.plain.Plain.{Plain}
use Rattle.mm_plain.specs.Shape.{Proof}
use Rattle.mm_tree.specs.Versions.{Versions, IsAlive, KeepsUpTo, hand_plain, hand_length, hand_root, named}
use Rattle.mm_tree.specs.Trees.{State, FindsKeys, IsWhole, versions_of}
use Rattle.mm_tree.specs.View.{values}
use Rattle.mm_tree.proofs.Keeping.{seven, seven-same, cut_to, plain-cut, whole-cut, kept-cut, draft-mark, hand-cut, length-cut, values-take}
use Rattle.mm_tree.proofs.Finding.{finds-cut}
use Rattle.mm_tree.proofs.tree.Tree.back_to_draft.Goals as goal

abbrev proof_by : ℕ → Plain → Proof
proof_by next p = record { plain = p; next = next }

pub invariant_of-self : goal.invariant_of-self
invariant_of-self c =
    let v : Versions = versions_of c.self.inside in
    let e : seven (values c.self.inside.roots.items) c.self.inside.trail.items (values c.truncate.new.self.items) c.truncate-2.new.self.items c.self.inside.begun_root c.self.inside.begun_length c.self.inside.turn ≡ cut_to v c.args.m
    = seven-same refl refl (ap values c.truncate.ensures.items ∙ values-take (c.args.m.root - c.self.inside.begun_root) c.self.inside.draft_roots.items) c.truncate-2.ensures.items refl refl refl in
    let a : IsAlive v c.args.m = subst (λ (s : State). IsAlive s.versions c.args.m) (sym c.self.view_is) c.requires.alive in
    let r = c.self.invariant.roots in
    let t = c.self.invariant.trail in
    record {
      whole = subst (λ (w : Versions). IsWhole w c.args.m.next) (sym e) (whole-cut v c.args.m c.self.inside.next c.self.invariant.whole c.requires.kind a);
      roots = omega (arith, c.truncate.ensures.len);
      trail = omega (arith, c.truncate-2.ensures.len);
      keyed = subst (FindsKeys c.self.inside.keyed) (sym e) (finds-cut c.self.inside.keyed v c.args.m c.self.inside.next c.self.invariant.whole c.requires.kind a c.self.invariant.keyed);
    }

pub returns-clause-proof : goal.returns-clause-proof
returns-clause-proof c =
    let v : Versions = versions_of c.self.inside in
    let e : seven (values c.self.inside.roots.items) c.self.inside.trail.items (values c.truncate.new.self.items) c.truncate-2.new.self.items c.self.inside.begun_root c.self.inside.begun_length c.self.inside.turn ≡ cut_to v c.args.m
    = seven-same refl refl (ap values c.truncate.ensures.items ∙ values-take (c.args.m.root - c.self.inside.begun_root) c.self.inside.draft_roots.items) c.truncate-2.ensures.items refl refl refl in
    let a : IsAlive v c.args.m = subst (λ (s : State). IsAlive s.versions c.args.m) (sym c.self.view_is) c.requires.alive in
    ap (λ (w : Versions). proof_by c.args.m.next (hand_plain w)) e ∙ ap (proof_by c.args.m.next) (plain-cut v c.args.m c.self.inside.next c.self.invariant.whole c.requires.kind a) ∙ ap (λ (s : State). named s.versions c.args.m) c.self.view_is

pub returns-clause-marks : goal.returns-clause-marks
returns-clause-marks c =
    let v : Versions = versions_of c.self.inside in
    let e : seven (values c.self.inside.roots.items) c.self.inside.trail.items (values c.truncate.new.self.items) c.truncate-2.new.self.items c.self.inside.begun_root c.self.inside.begun_length c.self.inside.turn ≡ cut_to v c.args.m
    = seven-same refl refl (ap values c.truncate.ensures.items ∙ values-take (c.args.m.root - c.self.inside.begun_root) c.self.inside.draft_roots.items) c.truncate-2.ensures.items refl refl refl in
    let a : IsAlive v c.args.m = subst (λ (s : State). IsAlive s.versions c.args.m) (sym c.self.view_is) c.requires.alive in
    subst (λ (s : State). KeepsUpTo c.args.m s.versions (seven (values c.self.inside.roots.items) c.self.inside.trail.items (values c.truncate.new.self.items) c.truncate-2.new.self.items c.self.inside.begun_root c.self.inside.begun_length c.self.inside.turn)) c.self.view_is
    (subst (λ (w : Versions). KeepsUpTo c.args.m v w) (sym e) (kept-cut v c.args.m c.self.inside.next c.self.invariant.whole c.requires.kind a))

pub returns-clause-hand : goal.returns-clause-hand
returns-clause-hand c =
    let v : Versions = versions_of c.self.inside in
    let e : seven (values c.self.inside.roots.items) c.self.inside.trail.items (values c.truncate.new.self.items) c.truncate-2.new.self.items c.self.inside.begun_root c.self.inside.begun_length c.self.inside.turn ≡ cut_to v c.args.m
    = seven-same refl refl (ap values c.truncate.ensures.items ∙ values-take (c.args.m.root - c.self.inside.begun_root) c.self.inside.draft_roots.items) c.truncate-2.ensures.items refl refl refl in
    let a : IsAlive v c.args.m = subst (λ (s : State). IsAlive s.versions c.args.m) (sym c.self.view_is) c.requires.alive in
    let d = draft-mark v c.args.m c.requires.kind a in
    (ap hand_root e ∙ hand-cut v c.args.m c.self.inside.next c.self.invariant.whole d.later_root d.root, ap hand_length e ∙ length-cut v c.args.m c.self.inside.next c.self.invariant.whole d.later_length d.long)

pub returns-clause-begun : goal.returns-clause-begun
returns-clause-begun c = (ap (λ (s : State). s.versions.begun_root) c.self.view_is, ap (λ (s : State). s.versions.begun_length) c.self.view_is)
