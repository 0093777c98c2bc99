use Rattle.mm_edit.specs.Laying.{IsLaidPlan}
use Rattle.mm_edit.proofs.building.plan_of.Given as goal

abbrev pub invariant-loop-step : goal.invariant-loop-step
invariant-loop-step l = IsLaidPlan l.db l.fn.at.0 l.set l.labels l.begins.items l.plan
