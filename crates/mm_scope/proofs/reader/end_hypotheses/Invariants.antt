use Rattle.std.proofs.Common.{◌≡◌, drop, fold}
use Rattle.mm_scope.specs.Until.{ended_before}
use Rattle.mm_scope.proofs.reader.end_hypotheses.Given as goal

abbrev pub invariant-loop-id : goal.invariant-loop-id
invariant-loop-id l = fold (ended_before l.next) l.until (drop l.id-index l.hypotheses) ≡ fold (ended_before l.next) l.fn.until l.hypotheses
