use Rattle.mm_session.proofs.KeptLemmas.{kept_asks, kept_shows}
use Rattle.mm_session.proofs.law.kept_is_enough.Goals as goal

pub returns-clause-meaning : goal.returns-clause-meaning
returns-clause-meaning c = kept_asks

pub returns-clause-echo : goal.returns-clause-echo
returns-clause-echo c = kept_shows
