use Rattle.mm_plain.specs.Shape.{target_of}
use Rattle.mm_plain.proofs.Owned.{own-valid}
use Rattle.mm_edit.proofs.Listings.{keys-in}
use Rattle.mm_edit.proofs.Short.{short-valid}
use Rattle.mm_edit.proofs.let_value.let_step.Goals as goal

pub apply_to_tree-requires-clause-keys : goal.apply_to_tree-requires-clause-keys
apply_to_tree-requires-clause-keys g c =
    keys-in c.args.db.now c.args.set.now c.in_ok-target.target c.args.value.now c.in_ok-listing.listing c.in_ok-theta.theta.now c.in_ok-listing.ensures.listing c.in_ok-theta.ensures

pub apply_to_tree-requires-clause-own : goal.apply_to_tree-requires-clause-own
apply_to_tree-requires-clause-own g c = own-valid c.args.db.now c.args.at.0 (target_of c.args.tree.now.proof.plain) c.args.tree.now.proof c.requires.at c.requires.valid.valid

pub apply_to_tree-requires-clause-short : goal.apply_to_tree-requires-clause-short
apply_to_tree-requires-clause-short g c = short-valid c.args.db.now c.args.at.0 (target_of c.args.tree.now.proof.plain) c.args.tree.now.proof c.requires.valid.valid
