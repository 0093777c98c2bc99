use Rattle.mm_stack.proofs.Substituting.{applied_substitutes}
use Rattle.mm_stack.proofs.laws.assertions_substitute.Goals as goal

pub returns : goal.returns
returns c = λ a k groups stack next apart h. applied_substitutes c.args.bytes.now groups a stack next k apart h
