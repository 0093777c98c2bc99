use Rattle.mm_chart.specs.Charts.{goals_of}
use Rattle.mm_chart.proofs.Parting.{nothing_forbidden}
use Rattle.mm_chart.proofs.fitting.are_allowed.Goals as goal

pub returns-in-None : goal.returns-in-None
returns-in-None c = nothing_forbidden c.args.brackets.now (goals_of c.args.text.now c.args.parts.now) c.in-None.is
