use Rattle.mm_splice.proofs.Keeping.{keeps_the_rest}
use Rattle.mm_splice.proofs.laws.splicing_keeps.Goals as goal

pub returns : goal.returns
returns c = keeps_the_rest c.args.bytes.now c.args.id.0 c.args.text.now c.requires.read c.requires.theorem c.requires.text c.requires.room
