use Rattle.std.proofs.Common.{sym, subst}
use Rattle.mm_plain.specs.Shape.{Proof}
use Rattle.mm_edit.specs.Built.{IsBuiltProof}
use Rattle.mm_edit.proofs.LaidPlans.{plan_built}
use Rattle.mm_edit.proofs.building.built.Goals as goal

pub into_tree-requires-clause-low : goal.into_tree-requires-clause-low
into_tree-requires-clause-low g c =
    (plan_built c.args.db.now c.args.at.0 c.args.set.now c.args.labels.now c.in_ok-plan.field-0 c.in-Some-2.plan c.in-Some.next c.in_ok-plan.ensures c.in-Some-2.is (c.is_whole.ensures c.if-not-is_whole.false) c.requires.low
    c.requires.few c.in-Some.ensures).valid.low

pub returns-clause-built : goal.returns-clause-built
returns-clause-built g c =
    subst (λ (p : Proof). IsBuiltProof c.args.db.now c.args.at.0 c.args.set.now c.args.labels.now p) (sym c.in_ok-tree.ensures.proof)
    (plan_built c.args.db.now c.args.at.0 c.args.set.now c.args.labels.now c.in_ok-plan.field-0 c.in-Some-2.plan c.in-Some.next c.in_ok-plan.ensures c.in-Some-2.is (c.is_whole.ensures c.if-not-is_whole.false) c.requires.low
    c.requires.few c.in-Some.ensures)
