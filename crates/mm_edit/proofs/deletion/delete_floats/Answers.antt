use Rattle.mm_plain.specs.Shape.{target_of}
use Rattle.mm_plain.proofs.Owned.{own-valid}
use Rattle.mm_edit.proofs.deletion.delete_floats.Goals as goal

pub has_float-requires : goal.has_float-requires
has_float-requires g c = own-valid c.args.db.now c.args.at.0 (target_of c.args.tree.now.proof.plain) c.args.tree.now.proof c.requires.at c.requires.valid.valid

pub clear_floats-requires : goal.clear_floats-requires
clear_floats-requires g c = own-valid c.args.db.now c.args.at.0 (target_of c.args.tree.now.proof.plain) c.args.tree.now.proof c.requires.at c.requires.valid.valid
