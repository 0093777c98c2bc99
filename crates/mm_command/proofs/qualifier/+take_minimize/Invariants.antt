use Rattle.std.proofs.Common.{length}
use Rattle.mm_command.proofs.qualifier.+take_minimize.Given as goal

abbrev pub decreases-take_minimize : goal.decreases-take_minimize
decreases-take_minimize l = length l.words.rest.now
