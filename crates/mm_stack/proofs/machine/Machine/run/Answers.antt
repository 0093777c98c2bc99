use Rattle.std.proofs.Common.{sym, subst, ◌∙◌, arith}
use Rattle.std.proofs.lemmas.Result.{err_from_is_err_and}
use Rattle.mm_stack.specs.Machines.{Stops}
use Rattle.mm_stack.proofs.RunLemmas.{run_more, run_stops, run_end}
use Rattle.mm_stack.proofs.machine.Machine.run.Goals as goal

pub returns-in_err-step : goal.returns-in_err-step
returns-in_err-step c =
    let p = err_from_is_err_and c.from_residual.result c.from_residual.ensures.1 in
    rw (p.1, p.2) (subst (Stops c.in_err-step.field-0.0) c.loop-step.invariant
    (run_stops c.args.db.now c.args.parted.now c.loop-step.self.stack c.args.steps.now c.loop-step.step-index _ c.in_err-step.field-0.0 (omega arith) c.in_err-step.ensures))

pub loop-step-preserved : goal.loop-step-preserved
loop-step-preserved c =
    sym (run_more c.args.db.now c.args.parted.now c.loop-step.self.stack c.args.steps.now c.loop-step.step-index c.step.new.self.stack _ (omega arith) c.in_ok-step.ensures)
    ∙ c.loop-step.invariant

pub returns : goal.returns
returns c = sym c.loop-step.invariant ∙ run_end c.args.db.now c.args.parted.now c.loop-step.self.stack c.args.steps.now c.loop-step.step-index (omega arith)
