use Rattle.std.proofs.Common.{◌≡◌, ◌∷◌, length}
use Rattle.mm_improve.specs.Proving.{rank_limit}
use Rattle.mm_improve.specs.Searches.{terms}
use Rattle.mm_improve.specs.Traces.{whole}
use Rattle.mm_improve.proofs.TraceSteps.{AreLeft}
use Rattle.mm_improve.proofs.tracing.steps_back.Given as goal

abbrev pub invariant-loop : goal.invariant-loop
invariant-loop l = record {
  long : length l.parts.items ≡ l.counter;
  left : AreLeft (terms l.db l.search) (rank_limit l.db (l.fn.code ∷ l.text)) l.fn.code l.text (whole l.fn.code l.text) l.stack.items l.parts.items;
}
