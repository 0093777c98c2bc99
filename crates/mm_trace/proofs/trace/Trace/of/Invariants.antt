use Rattle.std.proofs.Common.{◌≡◌, map}
use Rattle.std.specs.List.{range_with_len}
use Rattle.mm_tables.specs.Texts.{texts}
use Rattle.mm_trace.specs.Traces.{used}
use Rattle.mm_trace.proofs.trace.Trace.of.Given as goal

abbrev pub invariant-loop-id : goal.invariant-loop-id
invariant-loop-id l = texts l.lists.items ≡ map (used l.db) (range_with_len 0 l.id)
