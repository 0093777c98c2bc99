use Rattle.mm_tokens.proofs.Folds.{run_folds, none_folds}
use Rattle.mm_tokens.proofs.folding.white_space_folds.Goals as goal

pub returns-clause-none : goal.returns-clause-none
returns-clause-none c = none_folds c.args.front.now

pub returns-clause-one : goal.returns-clause-one
returns-clause-one c = run_folds c.args.front.now c.args.run.now c.args.rest.now
