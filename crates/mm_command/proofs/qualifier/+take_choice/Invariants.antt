use Rattle.std.proofs.Common.{length}
use Rattle.mm_command.proofs.qualifier.+take_choice.Given as goal

abbrev pub decreases-take_choice : goal.decreases-take_choice
decreases-take_choice l = length l.words.rest.now
