use Rattle.std.proofs.Common.{◌≡◌, ℕ, length, ap, sym, refl, subst, ◌∙◌, arith}
use Rattle.mm_plain.specs.declared.plain.Plain.{Plain}
use Rattle.mm_plain.specs.Shape.{Proof}
use Rattle.mm_tree.specs.Versions.{Versions, IsAlive, KeepsUpTo, hand_plain, named}
use Rattle.mm_tree.specs.Trees.{State, FindsKeys, IsWhole, versions_of}
use Rattle.mm_tree.specs.View.{values}
use Rattle.mm_tree.proofs.Shapes.{length-values}
use Rattle.mm_tree.proofs.Keeping.{seven, seven-same, set_to, plain-set, whole-set, kept-set, settled-mark}
use Rattle.mm_tree.proofs.Finding.{finds-set}
use Rattle.mm_tree.proofs.tree.Tree.back_to_settled.Goals as goal

abbrev proof_by : ℕ → Plain → Proof
proof_by next p = record { plain = p; next = next }

pub invariant_of-self : goal.invariant_of-self
invariant_of-self c =
    let v : Versions = versions_of c.self.inside in
    let turn = c.turn_after-self-inside.result in
    let e : seven (values c.self.inside.roots.items) c.self.inside.trail.items (values c.clear.new.self.items) c.clear-2.new.self.items c.args.m.root c.args.m.length turn ≡ set_to v c.args.m turn
    = seven-same refl refl (ap values c.clear.ensures.items) c.clear-2.ensures.items refl refl refl in
    let a : IsAlive v c.args.m = subst (λ (s : State). IsAlive s.versions c.args.m) (sym c.self.view_is) c.requires.alive in
    let s = (settled-mark v c.args.m c.requires.kind a).root in
    record {
      whole = subst (λ (w : Versions). IsWhole w c.args.m.next) (sym e) (whole-set v c.args.m turn c.turn_after-self-inside.ensures c.requires.kind a);
      roots = omega (arith, s, length-values c.self.inside.roots.items, c.self.inside.roots.ok.0, c.self.inside.roots.ok.1, c.clear.new.self.ok.0, ap length c.clear.ensures.items);
      trail = (let l = (settled-mark v c.args.m c.requires.kind a).long in omega (arith, l, c.self.inside.trail.ok.0, c.self.inside.trail.ok.1, c.clear-2.new.self.ok.0, ap length c.clear-2.ensures.items));
      keyed = subst (FindsKeys c.self.inside.keyed) (sym e) (finds-set c.self.inside.keyed v c.args.m turn c.self.invariant.keyed);
    }

pub returns-clause-proof : goal.returns-clause-proof
returns-clause-proof c =
    let v : Versions = versions_of c.self.inside in
    let turn = c.turn_after-self-inside.result in
    let e : seven (values c.self.inside.roots.items) c.self.inside.trail.items (values c.clear.new.self.items) c.clear-2.new.self.items c.args.m.root c.args.m.length turn ≡ set_to v c.args.m turn
    = seven-same refl refl (ap values c.clear.ensures.items) c.clear-2.ensures.items refl refl refl in
    let a : IsAlive v c.args.m = subst (λ (s : State). IsAlive s.versions c.args.m) (sym c.self.view_is) c.requires.alive in
    ap (λ (w : Versions). proof_by c.args.m.next (hand_plain w)) e ∙ ap (proof_by c.args.m.next) (plain-set v c.args.m turn c.requires.kind a) ∙ ap (λ (s : State). named s.versions c.args.m) c.self.view_is

pub returns-clause-marks : goal.returns-clause-marks
returns-clause-marks c =
    let v : Versions = versions_of c.self.inside in
    let turn = c.turn_after-self-inside.result in
    let e : seven (values c.self.inside.roots.items) c.self.inside.trail.items (values c.clear.new.self.items) c.clear-2.new.self.items c.args.m.root c.args.m.length turn ≡ set_to v c.args.m turn
    = seven-same refl refl (ap values c.clear.ensures.items) c.clear-2.ensures.items refl refl refl in
    let a : IsAlive v c.args.m = subst (λ (s : State). IsAlive s.versions c.args.m) (sym c.self.view_is) c.requires.alive in
    subst (λ (s : State). KeepsUpTo c.args.m s.versions (seven (values c.self.inside.roots.items) c.self.inside.trail.items (values c.clear.new.self.items) c.clear-2.new.self.items c.args.m.root c.args.m.length turn)) c.self.view_is
    (subst (λ (w : Versions). KeepsUpTo c.args.m v w) (sym e) (kept-set v c.args.m turn c.requires.kind))

pub returns-clause-settled : goal.returns-clause-settled
returns-clause-settled c = record { no_roots = ap values c.clear.ensures.items; no_bindings = c.clear-2.ensures.items }

pub returns-clause-hand : goal.returns-clause-hand
returns-clause-hand c = (omega (arith, ap length (ap values c.clear.ensures.items)), omega (arith, ap length c.clear-2.ensures.items))
