use Rattle.std.proofs.Common.{length}
use Rattle.mm_command.proofs.qualifier.+take_improve.Given as goal

abbrev pub decreases-take_improve : goal.decreases-take_improve
decreases-take_improve l = length l.words.rest.now
