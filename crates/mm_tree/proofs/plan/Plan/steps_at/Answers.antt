use Rattle.std.proofs.Common.{get_or}
use Rattle.mm_tree.specs.Plans.{Grove, grove_of, no_tree}
use Rattle.mm_tree.proofs.PlanLemmas.{kept-steps, note-at}
use Rattle.mm_tree.proofs.plan.Plan.steps_at.Goals as goal

pub returns : goal.returns
returns c =
    let g : Grove = grove_of c.args.self.now in
    kept-steps c.index.result.now (get_or g.made c.args.step no_tree) (note-at c.args.self.now.made.items g.made c.args.step c.index.result.now no_tree c.requires.plan.made c.requires.exists c.index.ensures)
