use Rattle.mm_save.specs.Saving.{saved}
use Rattle.mm_save.proofs.Agreeing.{statement_same, pending_same}
use Rattle.mm_save.proofs.Moving.{valid_moved}
use Rattle.mm_save.proofs.Saves.{saved_agrees}
use Rattle.mm_save.proofs.laws.valid_proofs_stay_valid.Goals as goal

pub returns-clause-valid : goal.returns-clause-valid
returns-clause-valid c = λ form x other goal q own room valid.
    valid_moved c.args.bytes.now (saved c.args.bytes.now c.args.at.0 form x) (saved_agrees c.args.bytes.now c.args.at.0 c.requires.read c.requires.theorem form x own room) other goal q valid

pub returns-clause-statements : goal.returns-clause-statements
returns-clause-statements c = λ form x id own room.
    statement_same c.args.bytes.now (saved c.args.bytes.now c.args.at.0 form x) (saved_agrees c.args.bytes.now c.args.at.0 c.requires.read c.requires.theorem form x own room) id

pub returns-clause-pending : goal.returns-clause-pending
returns-clause-pending c = λ form x y own room.
    pending_same c.args.bytes.now (saved c.args.bytes.now c.args.at.0 form x) (saved_agrees c.args.bytes.now c.args.at.0 c.requires.read c.requires.theorem form x own room) y
