use Rattle.mm_splice.proofs.Agreeing.{same_last, either_first, again}
use Rattle.mm_splice.proofs.laws.last_saves_decide.Goals as goal

pub returns-clause-same : goal.returns-clause-same
returns-clause-same c = λ saves others can may same. same_last c.args.file.now saves others c.requires.read can may same

pub returns-clause-either_order : goal.returns-clause-either_order
returns-clause-either_order c = λ a b ne can may. either_first c.args.file.now a b c.requires.read can may ne

pub returns-clause-once : goal.returns-clause-once
returns-clause-once c = λ a b same can may. again c.args.file.now a b c.requires.read can may same
