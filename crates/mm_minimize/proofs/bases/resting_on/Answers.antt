use Rattle.std.proofs.Common.{subst, sym, List, ℕ}
use Rattle.mm_trace.specs.Marks.{IsEarlier}
use Rattle.mm_trace.specs.Traces.{uses_in}
use Rattle.mm_trace.proofs.Spreading.{trace_earlier}
use Rattle.mm_minimize.specs.Candidates.{is_named}
use Rattle.mm_minimize.proofs.BaseLemmas.{resting}
use Rattle.mm_minimize.proofs.bases.resting_on.Goals as goal

pub dependents-requires : goal.dependents-requires
dependents-requires c = subst (λ (t : List (List ℕ)). IsEarlier (uses_in t)) (sym c.requires) (trace_earlier c.args.db.now)

pub returns : goal.returns
returns c =
    resting c.args.db.now c.args.trace.now (is_named c.args.db.now c.args.pattern.now) c.in_ok-named.named.items c.as_slice.result.now c.in_ok-marks.marks.items c.requires c.in_ok-named.ensures c.as_slice.ensures.value
    c.in_ok-marks.ensures
