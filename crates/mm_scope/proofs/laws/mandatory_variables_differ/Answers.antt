use Rattle.mm_scope.proofs.Bridge.{variables_differ}
use Rattle.mm_scope.proofs.laws.mandatory_variables_differ.Goals as goal

pub returns : goal.returns
returns c = λ id. variables_differ c.args.bytes.now id
