use Rattle.mm_minimize.proofs.ChainLemmas.{is_chain, is_shorter}
use Rattle.mm_minimize.proofs.laws.shorter_proofs_are_chains.Goals as goal

pub returns : goal.returns
returns c = record { chain = is_chain; shorter = is_shorter }
