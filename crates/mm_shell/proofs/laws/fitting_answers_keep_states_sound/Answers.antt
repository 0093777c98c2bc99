use Rattle.mm_shell.proofs.FrameLemmas.{fitting_stays_sound, refused_stays, ends_silently, reports_hold}
use Rattle.mm_shell.proofs.laws.fitting_answers_keep_states_sound.Goals as goal

pub returns-clause-sound : goal.returns-clause-sound
returns-clause-sound c = fitting_stays_sound

pub returns-clause-refused : goal.returns-clause-refused
returns-clause-refused c = refused_stays

pub returns-clause-ends : goal.returns-clause-ends
returns-clause-ends c = ends_silently

pub returns-clause-reports : goal.returns-clause-reports
returns-clause-reports c = reports_hold
