use Rattle.mm_session.proofs.SoundLemmas.{session_is_sound}
use Rattle.mm_session.proofs.law.proofs_in_hand_are_valid.Goals as goal

pub returns : goal.returns
returns c = session_is_sound
