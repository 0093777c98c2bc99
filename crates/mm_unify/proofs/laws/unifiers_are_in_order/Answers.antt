use Rattle.mm_unify.proofs.Ordered.{lists_in_order}
use Rattle.mm_unify.proofs.laws.unifiers_are_in_order.Goals as goal

pub returns : goal.returns
returns c = lists_in_order
