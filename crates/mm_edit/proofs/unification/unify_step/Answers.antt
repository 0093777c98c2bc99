use Rattle.std.proofs.Common.{sym, ◌∙◌}
use Rattle.mm_plain.specs.Shape.{step_at, target_of}
use Rattle.mm_plain.proofs.Owned.{own-valid}
use Rattle.mm_edit.specs.Unifying.{step_unified}
use Rattle.mm_edit.proofs.Short.{short-valid}
use Rattle.mm_edit.proofs.UnifyLemmas.{keys-at, step-so, unified-along}
use Rattle.mm_edit.proofs.unification.unify_step.Goals as goal

pub is_pending-requires-clause-own : goal.is_pending-requires-clause-own
is_pending-requires-clause-own g c = own-valid c.args.db.now c.args.at.0 (target_of c.args.tree.now.proof.plain) c.args.tree.now.proof c.requires.at c.requires.valid.valid

pub list_at-requires-clause-own : goal.list_at-requires-clause-own
list_at-requires-clause-own g c = own-valid c.args.db.now c.args.at.0 (target_of c.args.tree.now.proof.plain) c.args.tree.now.proof c.requires.at c.requires.valid.valid

pub apply_chosen-requires-clause-keys : goal.apply_chosen-requires-clause-keys
apply_chosen-requires-clause-keys g c = λ u e. keys-at c.args.db.now c.args.set.now (step_at c.args.tree.now.proof.plain c.args.step) c.args.choice c.in_ok-listing.listing u c.in_ok-listing.ensures.listing e

pub apply_chosen-requires-clause-own : goal.apply_chosen-requires-clause-own
apply_chosen-requires-clause-own g c = own-valid c.args.db.now c.args.at.0 (target_of c.args.tree.now.proof.plain) c.args.tree.now.proof c.requires.at c.requires.valid.valid

pub apply_chosen-requires-clause-short : goal.apply_chosen-requires-clause-short
apply_chosen-requires-clause-short g c = short-valid c.args.db.now c.args.at.0 (target_of c.args.tree.now.proof.plain) c.args.tree.now.proof c.requires.valid.valid

pub returns-clause-done : goal.returns-clause-done
returns-clause-done g c =
    unified-along (step_unified c.args.db.now c.args.set.now c.args.tree.now.proof c.args.step c.args.choice) _ c.apply_chosen.result c.args.tree.now.proof c.apply_chosen.new.tree.proof
    (step-so c.args.db.now c.args.set.now c.args.tree.now.proof c.args.step c.args.choice c.in_ok-listing.listing
    (sym c.has_step.ensures ∙ c.if-not-has_step.false) (sym c.is_unknown.ensures ∙ c.if-is_unknown.false) (sym c.in_ok-is_pending.ensures ∙ c.if-not-branch.false) c.in_ok-listing.ensures.listing)
    c.apply_chosen.ensures.done
