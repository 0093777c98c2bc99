use Rattle.mm_layout.proofs.Grouped.{lines-are, lines-only}
use Rattle.mm_layout.proofs.laws.lines_are_filled.Goals as goal

pub returns : goal.returns
returns c = record { groups = lines-are; only = lines-only }
