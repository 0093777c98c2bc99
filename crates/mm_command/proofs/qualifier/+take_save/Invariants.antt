use Rattle.std.proofs.Common.{length}
use Rattle.mm_command.proofs.qualifier.+take_save.Given as goal

abbrev pub decreases-take_save : goal.decreases-take_save
decreases-take_save l = length l.words.rest.now
