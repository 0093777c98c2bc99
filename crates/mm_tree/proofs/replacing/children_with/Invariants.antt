use Rattle.std.proofs.Common.{◌+◌, ◌≤◌, map, take}
use Rattle.mm_subst.specs.Statements.{statement_of}
use Rattle.mm_subst.specs.Substitutions.{applied}
use Rattle.mm_tree.specs.Replacing.{AreChildrenWith}
use Rattle.mm_tree.specs.View.{values}
use Rattle.mm_tree.proofs.replacing.children_with.Given as goal

abbrev pub invariant-loop-premise : goal.invariant-loop-premise
invariant-loop-premise g l = record {
  made : AreChildrenWith l.theta l.line (values l.olds) (take l.premise-index (map (applied l.sigma) (map (statement_of l.db) l.premises))) l.birth (values l.nodes.items);
  counted : l.steps ≤ l.initial.steps + l.premise-index;
}
