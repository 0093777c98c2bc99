use Rattle.mm_tree.proofs.RowLemmas.{premises_short}
use Rattle.mm_tree.proofs.rows.row_before.Goals as goal

pub push_goals-requires-clause-short : goal.push_goals-requires-clause-short
push_goals-requires-clause-short c = premises_short c.args.db.now c.last_fresh.new.end c.in-Some.id c.in_ok-sigma-in-Some.sigma c.in_ok-sigma-in-Some.ensures.values
