use Rattle.mm_command.specs.Table.{line_said}
use Rattle.mm_command.proofs.MeaningLemmas.{one_meaning}
use Rattle.mm_command.proofs.law.lines_spell_one_command.Goals as goal

pub returns : goal.returns
returns c = one_meaning (line_said c.args.line.now) c.args.one c.args.other
