use Rattle.std.proofs.Common.{◌≡◌, ℕ, ap, sym, refl, subst, ◌∙◌, arith}
use Rattle.mm_plain.specs.declared.plain.Plain.{Plain}
use Rattle.mm_plain.specs.Shape.{Proof}
use Rattle.mm_plain.specs.Binding.{bound_in}
use Rattle.mm_tree.specs.Versions.{Versions, KeepsMarks, hand_plain}
use Rattle.mm_tree.specs.Trees.{State, FindsKeys, IsWhole, versions_of}
use Rattle.mm_tree.specs.View.{values}
use Rattle.mm_tree.proofs.Keeping.{seven, seven-same, with_binding, kept-bound}
use Rattle.mm_tree.proofs.Made.{bound-plain, bound-whole}
use Rattle.mm_tree.proofs.Finding.{finds-bound}
use Rattle.mm_tree.proofs.tree.Tree.add_binding.Goals as goal

abbrev proof_by : ℕ → Plain → Proof
proof_by next p = record { plain = p; next = next }

pub invariant_of-self-2 : goal.invariant_of-self-2
invariant_of-self-2 c =
    let v : Versions = versions_of c.self.inside in
    let e : seven (values c.self.inside.roots.items) c.reserve.new.self.items (values c.self.inside.draft_roots.items) c.push.new.self.items c.self.inside.begun_root c.self.inside.begun_length c.self.inside.turn ≡ with_binding v c.args.theta
    = seven-same refl c.reserve.ensures.items refl c.in_ok-push.ensures.items refl refl refl in
    let w : IsWhole v c.self.inside.next = c.self.invariant.whole in
    let b = w.begun_length in
    record {
      whole = subst (λ (u : Versions). IsWhole u c.self.inside.next) (sym e) (bound-whole v c.self.inside.next c.args.theta w);
      roots = c.self.invariant.roots;
      trail = omega (arith, b, c.in_ok-reserve.ensures.ok, c.in_ok-push.ensures.len, c.len-drafts.ensures, c.reserve.ensures.len, c.self.inside.trail.ok.0);
      keyed = subst (FindsKeys c.add_keys.new.self) (sym e) (finds-bound c.self.inside.keyed c.add_keys.new.self v c.self.inside.next _ c.args.theta w (omega (arith, c.len-drafts.ensures, c.self.inside.draft_bindings.ok.0)) c.add_keys.ensures.kept c.self.invariant.keyed c.in_ok-add_keys.ensures.ok);
    }

pub returns-clause-ok : goal.returns-clause-ok
returns-clause-ok c =
    let v : Versions = versions_of c.self.inside in
    let e : seven (values c.self.inside.roots.items) c.reserve.new.self.items (values c.self.inside.draft_roots.items) c.push.new.self.items c.self.inside.begun_root c.self.inside.begun_length c.self.inside.turn ≡ with_binding v c.args.theta
    = seven-same refl c.reserve.ensures.items refl c.in_ok-push.ensures.items refl refl refl in
    ap (λ (u : Versions). proof_by c.self.inside.next (hand_plain u)) e
    ∙ ap (proof_by c.self.inside.next) (bound-plain v c.self.inside.next c.args.theta c.requires c.self.invariant.whole)
    ∙ ap (λ (s : State). bound_in c.args.theta s.proof) c.self.view_is

pub returns-clause-marks : goal.returns-clause-marks
returns-clause-marks c =
    let v : Versions = versions_of c.self.inside in
    let e : seven (values c.self.inside.roots.items) c.reserve.new.self.items (values c.self.inside.draft_roots.items) c.push.new.self.items c.self.inside.begun_root c.self.inside.begun_length c.self.inside.turn ≡ with_binding v c.args.theta
    = seven-same refl c.reserve.ensures.items refl c.in_ok-push.ensures.items refl refl refl in
    subst (λ (s : State). KeepsMarks s.versions (seven (values c.self.inside.roots.items) c.reserve.new.self.items (values c.self.inside.draft_roots.items) c.push.new.self.items c.self.inside.begun_root c.self.inside.begun_length c.self.inside.turn)) c.self.view_is
    (subst (λ (u : Versions). KeepsMarks v u) (sym e) (kept-bound v c.args.theta))

pub returns-clause-begun : goal.returns-clause-begun
returns-clause-begun c = (ap (λ (s : State). s.versions.begun_root) c.self.view_is, ap (λ (s : State). s.versions.begun_length) c.self.view_is)
