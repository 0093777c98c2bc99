use Rattle.std.proofs.Common.{get_or, ◌∙◌, ap}
use Rattle.mm_tree.specs.Plans.{Grove, grove_of, no_tree}
use Rattle.mm_tree.specs.declared.timed.Text.{Text}
use Rattle.mm_tree.proofs.PlanLemmas.{kept-text, note-at}
use Rattle.mm_tree.proofs.plan.Plan.target.Goals as goal

pub returns : goal.returns
returns c =
    let g : Grove = grove_of c.args.self.now in
    ap (λ (t : Text). t.string) c.deref.ensures
    ∙ kept-text c.index.result.now (get_or g.standing c.args.at no_tree) (note-at c.args.self.now.standing.items g.standing c.args.at c.index.result.now no_tree c.requires.plan.standing c.requires.exists c.index.ensures)
