use Rattle.std.proofs.Common.{◌≡◌, ◌≤◌, true, ap, sym, subst, ◌∙◌, arith}
use Rattle.mm_plain.specs.declared.plain.Plain.{Plain}
use Rattle.mm_plain.specs.Shape.{size_of, height_of, put, step_at, target_of, unknown}
use Rattle.mm_plain.specs.Grafts.{grafted_in}
use Rattle.mm_plain.specs.Valid.{IsValid}
use Rattle.mm_plain.proofs.Parts.{size-cleared-le, height-cleared-le}
use Rattle.mm_plain.proofs.Grafts.{valid-cleared}
use Rattle.mm_tree.specs.Meanings.{mean, mean-unknown, youngest}
use Rattle.mm_tree.specs.Versions.{line_of}
use Rattle.mm_tree.specs.Trees.{versions_of}
use Rattle.mm_tree.specs.declared.timed.TimedTree.{TimedTree}
use Rattle.mm_tree.proofs.Shapes.{youngest-unknown}
use Rattle.mm_tree.proofs.Made.{on-ok, IsFine, fine, fine-few, fine-low}
use Rattle.mm_tree.proofs.tree.Tree.clear.Goals as goal

pub replace_step-requires : goal.replace_step-requires
replace_step-requires g c =
    let new : mean c.in_ok-node.node.value (line_of c.args.self.now.versions true) ≡ unknown (target_of (step_at c.args.self.now.proof.plain c.args.step))
    = ap (λ (x : TimedTree). mean x (line_of c.args.self.now.versions true)) c.in_ok-node.ensures.node ∙ mean-unknown c.in_ok-target.target.value (line_of c.args.self.now.versions true) ∙ ap unknown c.in_ok-target.ensures.now in
    let x = c.args.self.now.proof.plain in
    let is-fine : IsFine c.args.self.now = fine (versions_of c.self.inside) c.self.inside.next c.args.self.now c.self.view_is c.self.invariant.whole in
    record {
      exists = c.requires;
      born = omega (arith, ap youngest c.in_ok-node.ensures.node, youngest-unknown c.in_ok-target.target.value, c.in_ok-target.ensures.born);
      few = subst (λ (y : Plain). size_of (put x c.args.step y) ≤ 1000000) (sym new) (omega (arith, size-cleared-le x c.args.step c.requires.0 c.requires.1, fine-few c.args.self.now is-fine));
      low = subst (λ (y : Plain). height_of (put x c.args.step y) ≤ 2000) (sym new) (omega (arith, height-cleared-le x c.args.step c.requires.0 c.requires.1, fine-low c.args.self.now is-fine));
    }

pub returns-clause-ok : goal.returns-clause-ok
returns-clause-ok g c =
    let new : mean c.in_ok-node.node.value (line_of c.args.self.now.versions true) ≡ unknown (target_of (step_at c.args.self.now.proof.plain c.args.step))
    = ap (λ (x : TimedTree). mean x (line_of c.args.self.now.versions true)) c.in_ok-node.ensures.node ∙ mean-unknown c.in_ok-target.target.value (line_of c.args.self.now.versions true) ∙ ap unknown c.in_ok-target.ensures.now in
    on-ok c.replace_step.result _ _ (λ e. e ∙ ap (grafted_in c.args.self.now.proof c.args.step) new) c.replace_step.ensures.ok

pub returns-clause-valid : goal.returns-clause-valid
returns-clause-valid g c =
    let new : mean c.in_ok-node.node.value (line_of c.args.self.now.versions true) ≡ unknown (target_of (step_at c.args.self.now.proof.plain c.args.step))
    = ap (λ (x : TimedTree). mean x (line_of c.args.self.now.versions true)) c.in_ok-node.ensures.node ∙ mean-unknown c.in_ok-target.target.value (line_of c.args.self.now.versions true) ∙ ap unknown c.in_ok-target.ensures.now in
    on-ok c.replace_step.result _ _ (λ e bytes at goal v. subst (IsValid bytes at goal) (sym (e ∙ ap (grafted_in c.args.self.now.proof c.args.step) new)) (valid-cleared bytes at goal c.args.self.now.proof c.args.step v c.requires.0 c.requires.1)) c.replace_step.ensures.ok
