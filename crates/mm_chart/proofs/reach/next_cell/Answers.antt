use Rattle.mm_chart.proofs.Idle.{idle_cells}
use Rattle.mm_chart.proofs.reach.next_cell.Goals as goal

pub returns-clause-idle : goal.returns-clause-idle
returns-clause-idle c =
    idle_cells c.args.rules.now c.args.text.now c.args.rows.now c.args.able.now c.args.at c.args.last c.hypothesis_end-one.result c.use_end-other.result c.lesser_of.result c.requires.within c.requires.ordered c.requires.able
    c.lesser_of.ensures.first c.lesser_of.ensures.second c.hypothesis_end-one.ensures.outside c.use_end-other.ensures.nowhere
