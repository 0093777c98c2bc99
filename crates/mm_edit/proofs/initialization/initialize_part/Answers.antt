use Rattle.mm_plain.specs.Shape.{target_of}
use Rattle.mm_plain.proofs.Owned.{own-valid}
use Rattle.mm_edit.proofs.initialization.initialize_part.Goals as goal

pub draws-needed-requires-clause-own : goal.draws-needed-requires-clause-own
draws-needed-requires-clause-own g c = own-valid c.args.db.now c.args.at.0 (target_of c.args.tree.now.proof.plain) c.args.tree.now.proof c.requires.at c.requires.valid.valid

pub draw_anew-tried-requires-clause-own : goal.draw_anew-tried-requires-clause-own
draw_anew-tried-requires-clause-own g c = own-valid c.args.db.now c.args.at.0 (target_of c.args.tree.now.proof.plain) c.args.tree.now.proof c.requires.at c.requires.valid.valid
