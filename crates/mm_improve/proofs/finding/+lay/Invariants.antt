use Rattle.std.proofs.Common.{◌+◌, ◌*◌, take}
use Rattle.mm_improve.specs.Finding.{AreLaid, kids_at}
use Rattle.mm_improve.specs.Searches.{terms}
use Rattle.mm_improve.proofs.finding.+lay.Given as goal

abbrev pub decreases-lay_found : goal.decreases-lay_found
decreases-lay_found l = 4 * l.depth

abbrev pub decreases-lay_use : goal.decreases-lay_use
decreases-lay_use l = 4 * l.depth + 3

abbrev pub decreases-lay_premises : goal.decreases-lay_premises
decreases-lay_premises l = 4 * l.depth + 2

abbrev pub decreases-lay_premise : goal.decreases-lay_premise
decreases-lay_premise l = 4 * l.depth + 1

abbrev pub invariant-lay_premises-loop-premise : goal.invariant-lay_premises-loop-premise
invariant-lay_premises-loop-premise l = AreLaid l.initial.plan (take l.premise-index (kids_at (terms l.db l.prover.search) l.depth l.used)) l.left l.plan
