use Rattle.std.proofs.Common.{◌≡◌, ◌≤◌, ◌+◌, map, take}
use Rattle.mm_subst.specs.Statements.{statement_of}
use Rattle.mm_tree.specs.Placed.{unknowns_timed}
use Rattle.mm_tree.specs.View.{values}
use Rattle.mm_tree.proofs.premises.children.Given as goal

abbrev pub invariant-loop-premise : goal.invariant-loop-premise
invariant-loop-premise g l = record {
  made : values l.nodes.items ≡ unknowns_timed l.birth l.sigma (map (statement_of l.db) (take l.premise-index l.premises));
  counted : l.steps ≤ l.initial.steps + l.premise-index;
}
