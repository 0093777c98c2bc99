use Rattle.mm_chart.proofs.Uses.{settles_stated, settles_best}
use Rattle.mm_chart.proofs.filling.next_entry.Goals as goal

pub returns-in-Some : goal.returns-in-Some
returns-in-Some c = settles_stated c.args.rules.now c.args.text.now c.args.rows.now c.args.at c.args.to c.in-Some.entry c.in-Some.ensures

pub returns-in-None : goal.returns-in-None
returns-in-None c = settles_best c.args.rules.now c.args.text.now c.args.rows.now c.args.at c.args.to c.by_use.result c.requires.ordered c.requires.within c.in-None.ensures c.by_use.ensures
