use Rattle.std.proofs.Common.{◌≡◌, get_or}
use Rattle.std.proofs.lemmas.List.{get_or_read}
use Rattle.mm_edit.proofs.LabelLists.{less}
use Rattle.mm_edit.proofs.LaidPlans.{if_both, again_more}
use Rattle.mm_edit.proofs.building.lay_back.Goals as goal

pub returns : goal.returns
returns c =
    let begins = c.args.begins.now in
    let step = c.saturating_sub-step.result in
    let look = c.in-Some.ensures.lookup in
    let place : c.in-Some.begin.now ≡ get_or begins step 0 = get_or_read begins step c.in-Some.begin.now (less _ _ look.0) look.1 0 in
    if_both c.lay_again.result _ _ _ c.lay_again.ensures.plan c.lay_again.ensures.lays
    (λ b p l h. again_more c.args.db.now c.args.at.0 c.args.set.now c.args.labels.now begins c.args.plan.now c.lay_again.new.plan c.in-Some.begin.now step c.requires.laid place (p h) (l h))
