use Rattle.mm_undo.proofs.Timelines.{none-undone, undone-more, left-undone, ahead-undone, newest-undone, redone-undone}
use Rattle.mm_undo.proofs.laws.undos_lead_back.Goals as goal

pub returns-clause-none : goal.returns-clause-none
returns-clause-none c = none-undone

pub returns-clause-step : goal.returns-clause-step
returns-clause-step c = undone-more

pub returns-clause-left : goal.returns-clause-left
returns-clause-left c = left-undone

pub returns-clause-ahead : goal.returns-clause-ahead
returns-clause-ahead c = ahead-undone

pub returns-clause-newest : goal.returns-clause-newest
returns-clause-newest c = newest-undone

pub returns-clause-again : goal.returns-clause-again
returns-clause-again c = redone-undone
