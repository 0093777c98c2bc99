use Rattle.mm_session.proofs.UndoLemmas.{edits_are_undone, redos_are_accepted, redos_lead_forward, undos_are_accepted, undos_lead_back}
use Rattle.mm_session.proofs.law.edits_are_undone.Goals as goal

pub returns-clause-undone : goal.returns-clause-undone
returns-clause-undone c = edits_are_undone

pub returns-clause-back : goal.returns-clause-back
returns-clause-back c = undos_lead_back

pub returns-clause-forward : goal.returns-clause-forward
returns-clause-forward c = redos_lead_forward

pub returns-clause-undo_accepted : goal.returns-clause-undo_accepted
returns-clause-undo_accepted c = undos_are_accepted

pub returns-clause-redo_accepted : goal.returns-clause-redo_accepted
returns-clause-redo_accepted c = redos_are_accepted
