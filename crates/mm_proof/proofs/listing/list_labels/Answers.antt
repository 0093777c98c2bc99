use Rattle.std.proofs.Common.{get_or, refl}
use Rattle.mm_proof.specs.Numbered.{number_in}
use Rattle.mm_proof.specs.declared.written.Step.{Step}
use Rattle.mm_proof.specs.declared.written.Step.TheVariants.{Label}
use Rattle.mm_proof.proofs.Using.{listing_none, listing_more, listing_all}
use Rattle.mm_proof.proofs.listing.list_labels.Goals as goal

pub loop-step-init : goal.loop-step-init
loop-step-init c = listing_none c.args.own (number_in c.args.known.now) c.new-list.result.items c.args.steps.now c.new-list.ensures.items

pub loop-step-preserved : goal.loop-step-preserved
loop-step-preserved c =
    let d : Step = Label 0 in
    listing_more c.args.own (number_in c.args.known.now) (number_in c.loop-step.known) (number_in c.add.new.known) c.loop-step.list.items c.add.new.list.items c.args.steps.now c.loop-step.step-index c.loop-step.invariant
    (get_or c.args.steps.now c.loop-step.step-index d) d c.loop-step-test.true refl c.in_ok-add.ensures

pub returns-clause-table : goal.returns-clause-table
returns-clause-table c =
    listing_all c.args.own (number_in c.args.known.now) (number_in c.loop-step.known) c.loop-step.list.items c.args.steps.now c.loop-step.step-index c.loop-step.invariant c.loop-step-test.false
