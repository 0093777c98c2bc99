use Rattle.std.proofs.Common.{subst}
use Rattle.mm_improve.specs.Searches.{terms}
use Rattle.mm_improve.proofs.Agreeing.{VariablesDiffer}
use Rattle.mm_improve.proofs.EmptyGoals.{empty_none}
use Rattle.mm_improve.proofs.choice.empty_has_none.Goals as goal

pub returns : goal.returns
returns c = empty_none (terms c.args.db.now c.args.prover.now.search) (subst VariablesDiffer c.bytes.ensures.value c.mandatory_variables_differ.ensures) c.requires.own
