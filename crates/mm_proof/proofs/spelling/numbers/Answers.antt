use Rattle.std.proofs.Common.{◌≡◌, ◌+◌, ◌∷◌, ◌++◌, [], ap, ◌∙◌, get_or, refl}
use Rattle.mm_proof.specs.declared.written.Step.{Step}
use Rattle.mm_proof.specs.declared.written.Step.TheVariants.{Label}
use Rattle.mm_proof.specs.Spelling.{is_named}
use Rattle.mm_proof.specs.Numbered.{number_by, number_in}
use Rattle.mm_proof.proofs.Numbering.{counts_none, counts_more, counts_all, tag_read, spelt_is}
use Rattle.mm_proof.proofs.spelling.numbers.Goals as goal

pub loop-step-init : goal.loop-step-init
loop-step-init c =
    counts_none (number_in c.args.known.now) c.args.count c.args.steps.now c.new-tags.result.items (c.args.count + 1) c.new-out.result.items c.new-tags.ensures.items refl c.new-out.ensures.items

pub loop-step-preserved : goal.loop-step-preserved
loop-step-preserved c =
    let i = c.loop-step.step-index in
    let steps = c.args.steps.now in
    let known = number_in c.args.known.now in
    let d : Step = Label 0 in
    let s = get_or steps i d in
    let b = c.index-tag.result.now in
    let g = c.loop-step.invariant in
    let place : c.len.result ≡ i = c.len.ensures ∙ c.loop-step.out.ok.0 ∙ g.out_len in
    let tag : b ≡ is_named steps i = tag_read steps c.in_ok-named.named.items b c.len.result i c.in_ok-named.ensures place c.loop-step-test.true c.index-tag.ensures in
    let number : c.number_of-number.result ≡ number_by known c.loop-step.tags.items s = c.number_of-number.ensures ∙ ap (λ x. number_by known x s) c.deref.ensures.value in
    counts_more known c.args.count steps c.loop-step.tags.items c.loop-step.next c.loop-step.out.items i g s d b
    c.push.new.self.items (c.loop-step.next + c.number_if-next.result) c.push-in-loop-step.new.self.items c.loop-step-test.true refl tag
    (c.in_ok-push.ensures.items ∙ ap (λ n. c.loop-step.tags.items ++ n ∷ []) c.number_if.ensures)
    (ap (λ n. c.loop-step.next + n) c.number_if-next.ensures)
    (c.in_ok-push-2.ensures.items ∙ ap (λ x. c.loop-step.out.items ++ x ∷ []) (spelt_is c.number_of-number.result (number_by known c.loop-step.tags.items s) b number))

pub returns : goal.returns
returns c =
    counts_all (number_in c.args.known.now) c.args.count c.args.steps.now c.loop-step.tags.items c.loop-step.next c.loop-step.out.items c.loop-step.step-index c.loop-step.invariant c.loop-step-test.false
