use Rattle.mm_minimize.proofs.CombinationLemmas.{replacements_are}
use Rattle.mm_minimize.proofs.laws.replacements_fit.Goals as goal

pub returns : goal.returns
returns c = replacements_are
