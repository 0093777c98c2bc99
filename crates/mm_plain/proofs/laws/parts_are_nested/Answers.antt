use Rattle.mm_plain.proofs.Nested.{step-within, put-within, step-put, labels_in-part, labels_in-put}
use Rattle.mm_plain.proofs.Children.{child-step_in, depth-within, put-put}
use Rattle.mm_plain.proofs.laws.parts_are_nested.Goals as goal

pub returns-clause-step : goal.returns-clause-step
returns-clause-step c = step-within

pub returns-clause-puts : goal.returns-clause-puts
returns-clause-puts c = put-within

pub returns-clause-depth : goal.returns-clause-depth
returns-clause-depth c = depth-within

pub returns-clause-child : goal.returns-clause-child
returns-clause-child c = child-step_in

pub returns-clause-stands : goal.returns-clause-stands
returns-clause-stands c = step-put

pub returns-clause-again : goal.returns-clause-again
returns-clause-again c = put-put

pub returns-clause-run : goal.returns-clause-run
returns-clause-run c = labels_in-part

pub returns-clause-labels : goal.returns-clause-labels
returns-clause-labels c = labels_in-put
