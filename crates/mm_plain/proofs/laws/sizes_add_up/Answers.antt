use Rattle.mm_plain.proofs.Sizes.{size-put}
use Rattle.mm_plain.proofs.laws.sizes_add_up.Goals as goal

pub returns : goal.returns
returns c = λ new x k h g. size-put new x k h g
