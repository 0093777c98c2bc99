use Rattle.std.proofs.Common.{◌≡◌, ℕ, ◌<◌, None, Some, length, get_or, sym, ◌∙◌, ap, arith}
use Rattle.std.specs.List.{sum_by}
use Rattle.mm_plain.specs.Shape.{size_of}
use Rattle.mm_tree.specs.Plans.{Grove, grove_of}
use Rattle.mm_edit.proofs.LaidPlans.{if_both, named_more}
use Rattle.mm_edit.proofs.LayingLemmas.{kept_label}
use Rattle.mm_edit.proofs.building.lay_named.Goals as goal

pub returns : goal.returns
returns c =
    let g : Grove = grove_of c.args.plan.now in
    let labels = c.args.labels.now in
    let next : ℕ = sum_by size_of g.standing in
    let there : next < length labels = omega (arith, c.if-next-labels.false, c.steps-next.ensures) in
    let label : get_or labels next None ≡ Some c.args.id.0 =
    ap (λ (k : ℕ). get_or labels k None) (sym c.steps-next.ensures) ∙ kept_label (get_or labels c.steps-next.result None) (Some c.args.id.0) (sym c.ne.ensures ∙ c.if-ne.false) in
    if_both c.lay_known.result _ _ _ c.lay_known.ensures.plan c.lay_known.ensures.lays
    (λ b p l h. named_more c.args.db.now c.args.at.0 c.args.set.now labels c.args.begins.now c.args.plan.now c.lay_known.new.plan c.args.id.0 c.requires.laid c.requires.stand there label (p h) (l h))
