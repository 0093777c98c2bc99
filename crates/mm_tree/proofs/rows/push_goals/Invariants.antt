use Rattle.std.proofs.Common.{◌≡◌, ◌++◌, map, take}
use Rattle.mm_subst.specs.Statements.{statement_of}
use Rattle.mm_subst.specs.Substitutions.{applied}
use Rattle.mm_tree.proofs.rows.push_goals.Given as goal

abbrev pub invariant-loop-premise : goal.invariant-loop-premise
invariant-loop-premise l = l.targets.items ≡ l.fn.targets.items ++ map (applied l.sigma) (map (statement_of l.db) (take l.premise-index l.premises))
