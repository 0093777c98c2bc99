use Rattle.std.proofs.Common.{ap}
use Rattle.mm_layout.specs.Normal.{lines_of}
use Rattle.mm_layout.proofs.Growing.{laid_at}
use Rattle.mm_layout.proofs.layout.Layout.new.Goals as goal

pub returns : goal.returns
unfolding lines_of
returns c = ap (λ text. laid_at text 79) c.new.ensures.items
