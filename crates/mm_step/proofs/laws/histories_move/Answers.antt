use Rattle.mm_step.proofs.HistoryLemmas.{histories_move, histories_begin, undos_are_accepted, undos_are_free, undos_lead_back, redos_are_accepted, redos_are_free, redos_lead_forward}
use Rattle.mm_step.proofs.laws.histories_move.Goals as goal

pub returns-clause-moved : goal.returns-clause-moved
returns-clause-moved c = histories_move

pub returns-clause-begun : goal.returns-clause-begun
returns-clause-begun c = histories_begin

pub returns-clause-undone : goal.returns-clause-undone
returns-clause-undone c = undos_are_accepted

pub returns-clause-redone : goal.returns-clause-redone
returns-clause-redone c = redos_are_accepted

pub returns-clause-undone_free : goal.returns-clause-undone_free
returns-clause-undone_free c = undos_are_free

pub returns-clause-redone_free : goal.returns-clause-redone_free
returns-clause-redone_free c = redos_are_free

pub returns-clause-back : goal.returns-clause-back
returns-clause-back c = undos_lead_back

pub returns-clause-forward : goal.returns-clause-forward
returns-clause-forward c = redos_lead_forward
