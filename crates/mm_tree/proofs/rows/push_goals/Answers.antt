use Rattle.std.proofs.Common.{◌≤◌, List, length}
use Rattle.mm_subst.specs.Statements.{statement_of}
use Rattle.mm_subst.specs.Substitutions.{applied}
use Rattle.mm_subst.specs.declared.symbol.WSym.{WSym}
use Rattle.mm_plain.specs.Premises.{premises_of}
use Rattle.mm_tree.proofs.ByIds.{of_each}
use Rattle.mm_tree.proofs.rows.push_goals.Goals as goal

pub goal-requires-clause-short : goal.goal-requires-clause-short
goal-requires-clause-short c =
    of_each (λ (h : List WSym). length (applied c.args.sigma.now h) ≤ 32768) (statement_of c.args.db.now) c.premises-premises.result.now (premises_of c.args.db.now c.args.id.0) c.premises-premises.ensures.value c.requires.short c.loop-premise.premise-index 0 c.loop-premise-test.true
