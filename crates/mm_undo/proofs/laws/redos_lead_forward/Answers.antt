use Rattle.mm_undo.proofs.Timelines.{none-redone, redone-more, left-redone}
use Rattle.mm_undo.proofs.laws.redos_lead_forward.Goals as goal

pub returns-clause-none : goal.returns-clause-none
returns-clause-none c = none-redone

pub returns-clause-step : goal.returns-clause-step
returns-clause-step c = redone-more

pub returns-clause-left : goal.returns-clause-left
returns-clause-left c = left-redone
