use Rattle.std.proofs.Common.{◌≡◌, ◌++◌, drop, map}
use Rattle.mm_improve.specs.Grammars.{hypothesis_of}
use Rattle.mm_improve.proofs.database.hypotheses.Given as goal

abbrev pub invariant-loop-id : goal.invariant-loop-id
invariant-loop-id l = l.hypotheses.items ++ map (hypothesis_of l.db) (drop l.id-index l.ids) ≡ map (hypothesis_of l.db) l.ids
