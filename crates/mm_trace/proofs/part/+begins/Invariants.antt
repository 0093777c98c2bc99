use Rattle.std.proofs.Common.{length}
use Rattle.mm_trace.proofs.part.+begins.Given as goal

abbrev pub decreases-begins : goal.decreases-begins
decreases-begins l = length l.front.now
