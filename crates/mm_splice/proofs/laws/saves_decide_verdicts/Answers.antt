use Rattle.mm_splice.proofs.Agreeing.{judges_as}
use Rattle.mm_splice.proofs.laws.saves_decide_verdicts.Goals as goal

pub returns : goal.returns
returns c = λ saved now agrees. judges_as c.args.file.now saved now c.requires.read agrees
