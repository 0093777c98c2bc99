use Rattle.mm_unify.proofs.OneValue.{finds_value}
use Rattle.mm_unify.proofs.laws.one_value_is_found.Goals as goal

pub returns : goal.returns
returns c = finds_value
