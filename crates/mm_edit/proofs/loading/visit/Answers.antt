use Rattle.std.proofs.Common.{None}
use Rattle.mm_plain.specs.Shape.{step_at, target_of}
use Rattle.mm_plain.proofs.Owned.{own-valid}
use Rattle.mm_edit.proofs.Short.{short-valid}
use Rattle.mm_edit.proofs.UnifyLemmas.{keys-at}
use Rattle.mm_edit.proofs.loading.visit.Goals as goal

pub is_pending-requires-clause-own : goal.is_pending-requires-clause-own
is_pending-requires-clause-own c = own-valid c.args.db.now c.args.at.0 (target_of c.args.tree.now.proof.plain) c.args.tree.now.proof c.requires.at c.requires.valid.valid

pub list_at-requires-clause-own : goal.list_at-requires-clause-own
list_at-requires-clause-own c = own-valid c.args.db.now c.args.at.0 (target_of c.args.tree.now.proof.plain) c.args.tree.now.proof c.requires.at c.requires.valid.valid

pub apply_to_tree-requires-clause-keys : goal.apply_to_tree-requires-clause-keys
apply_to_tree-requires-clause-keys c = keys-at c.args.db.now c.args.set.now (step_at c.args.tree.now.proof.plain c.args.step) None c.in_ok-listing.listing c.in-Ok.theta.now c.in_ok-listing.ensures.listing c.in-Ok.ensures

pub apply_to_tree-requires-clause-own : goal.apply_to_tree-requires-clause-own
apply_to_tree-requires-clause-own c = own-valid c.args.db.now c.args.at.0 (target_of c.args.tree.now.proof.plain) c.args.tree.now.proof c.requires.at c.requires.valid.valid

pub apply_to_tree-requires-clause-short : goal.apply_to_tree-requires-clause-short
apply_to_tree-requires-clause-short c = short-valid c.args.db.now c.args.at.0 (target_of c.args.tree.now.proof.plain) c.args.tree.now.proof c.requires.valid.valid
