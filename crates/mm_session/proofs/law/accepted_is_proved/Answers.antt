use Rattle.mm_session.proofs.LawLemmas.{says_accepted, accepted_is_said}
use Rattle.mm_session.proofs.law.accepted_is_proved.Goals as goal

pub returns-clause-accepted : goal.returns-clause-accepted
returns-clause-accepted c = says_accepted

pub returns-clause-said : goal.returns-clause-said
returns-clause-said c = accepted_is_said
