use Rattle.mm_edit.proofs.Falling.{none-left-all}
use Rattle.mm_edit.proofs.laws.unify_all_leaves_no_only_unifier.Goals as goal

pub returns : goal.returns
returns c = λ at set goal p q v h. none-left-all c.args.bytes.now at set goal p q v h
