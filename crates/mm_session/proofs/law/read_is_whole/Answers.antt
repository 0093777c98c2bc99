use Rattle.mm_session.proofs.LawLemmas.{read_is_whole}
use Rattle.mm_session.proofs.law.read_is_whole.Goals as goal

pub returns : goal.returns
returns c = read_is_whole
