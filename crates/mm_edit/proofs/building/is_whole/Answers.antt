use Rattle.std.proofs.Common.{sym, ◌∙◌, arith}
use Rattle.mm_tree.specs.Plans.{Grove, grove_of}
use Rattle.mm_edit.proofs.LaidPlans.{whole_so}
use Rattle.mm_edit.proofs.building.is_whole.Goals as goal

pub returns : goal.returns
returns c =
    let g : Grove = grove_of c.args.plan.now in
    λ h. whole_so c.args.db.now c.args.at.0 c.args.labels.now g c.symbols.result.now c.new.result (omega (arith, c.if-count-ne1.false, c.count.ensures)) (omega (arith, c.if-steps-labels.false, c.steps.ensures)) c.new.ensures
    (c.symbols.ensures ∙ c.target.ensures) (sym c.is_source-2.ensures ∙ h)
