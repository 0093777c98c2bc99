use Rattle.std.proofs.Common.{◌≡◌, ◌+◌, ◌≤◌, drop}
use Rattle.mm_tree.proofs.PlanLemmas.{Lays}
use Rattle.mm_tree.proofs.plan.Plan.nodes.Given as goal

abbrev pub invariant-loop-step : goal.invariant-loop-step
invariant-loop-step g l = record {
  lays : Lays l.step-items (drop l.step-index l.step-items) l.standing.items l.made.items;
  same : l.step-items ≡ l.self.items.items;
  counted : l.steps ≤ l.fn.steps + l.step-index;
}
