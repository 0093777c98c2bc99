use Rattle.mm_save.proofs.ReadingBack.{spells_tree}
use Rattle.mm_save.proofs.laws.saved_proofs_are_read_back.Goals as goal

pub returns : goal.returns
returns c = λ form p valid room. spells_tree c.args.bytes.now c.args.at.0 c.requires.read c.requires.theorem c.requires.own p valid form room
