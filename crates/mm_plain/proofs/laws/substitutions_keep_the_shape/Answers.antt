use Rattle.mm_plain.proofs.Binding.{steps_of-bound, size_of-bound, height_of-bound, depths_of-bound, labels_in-bound, target_at-bound, put-bound, bound-then_by}
use Rattle.mm_plain.proofs.laws.substitutions_keep_the_shape.Goals as goal

pub returns-clause-steps : goal.returns-clause-steps
returns-clause-steps c = steps_of-bound

pub returns-clause-size : goal.returns-clause-size
returns-clause-size c = size_of-bound

pub returns-clause-height : goal.returns-clause-height
returns-clause-height c = height_of-bound

pub returns-clause-depths : goal.returns-clause-depths
returns-clause-depths c = depths_of-bound

pub returns-clause-labels : goal.returns-clause-labels
returns-clause-labels c = labels_in-bound

pub returns-clause-target : goal.returns-clause-target
returns-clause-target c = target_at-bound

pub returns-clause-puts : goal.returns-clause-puts
returns-clause-puts c = put-bound

pub returns-clause-twice : goal.returns-clause-twice
returns-clause-twice c = bound-then_by
