use Rattle.std.proofs.Common.{◌∙◌}
use Rattle.mm_edit.proofs.FirstLemmas.{first-pending, pending-at}
use Rattle.mm_edit.proofs.unify_rounds.first_unifier.Goals as goal

pub loop-step-init : goal.loop-step-init
loop-step-init c = record {
  so_far = first-pending c.args.db.now c.args.set.now c.args.tree.now.proof.plain c.deref-step-items.result.now (c.deref-step-items.ensures.value ∙ c.in_ok-pending.ensures);
  quiet = c.requires.quiet;
}

pub only_at-requires-clause-exists : goal.only_at-requires-clause-exists
only_at-requires-clause-exists c =
    (pending-at c.args.db.now c.args.tree.now.proof.plain c.deref-step-items.result.now c.loop-step.step-index 0 (c.deref-step-items.ensures.value ∙ c.in_ok-pending.ensures) c.loop-step-test.true).exists

pub only_at-requires-clause-pending : goal.only_at-requires-clause-pending
only_at-requires-clause-pending c =
    (pending-at c.args.db.now c.args.tree.now.proof.plain c.deref-step-items.result.now c.loop-step.step-index 0 (c.deref-step-items.ensures.value ∙ c.in_ok-pending.ensures) c.loop-step-test.true).pending
