use Rattle.mm_plain.proofs.Works.{bound-plain, source_of-bound}
use Rattle.mm_plain.proofs.laws.work_variables_alone_change.Goals as goal

pub returns-clause-plain : goal.returns-clause-plain
returns-clause-plain c = λ theta x h e. bound-plain theta h x e

pub returns-clause-sources : goal.returns-clause-sources
returns-clause-sources c = λ bytes theta x h. source_of-bound bytes theta h x
