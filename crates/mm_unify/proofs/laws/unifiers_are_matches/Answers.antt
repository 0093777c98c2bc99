use Rattle.mm_unify.proofs.Listed.{lists_matches}
use Rattle.mm_unify.proofs.laws.unifiers_are_matches.Goals as goal

pub returns : goal.returns
returns c = lists_matches
