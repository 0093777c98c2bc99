use Rattle.std.proofs.Common.{◌||◌, ap, sym, ◌∙◌, arith, get_or, take}
use Rattle.std.proofs.lemmas.List.{take_more}
use Rattle.mm_proof.specs.declared.written.Step.{Step}
use Rattle.mm_proof.specs.declared.written.Step.TheVariants.{Label}
use Rattle.mm_proof.specs.Spelling.{is_named}
use Rattle.mm_proof.specs.Numbered.{names}
use Rattle.mm_proof.proofs.Numbering.{named_more}
use Rattle.mm_proof.proofs.spelling.named.Goals as goal

pub loop-step-preserved : goal.loop-step-preserved
loop-step-preserved c =
    let i = c.loop-step.step-index in
    let steps = c.args.steps.now in
    let d : Step = Label 0 in
    let s = get_or steps i d in
    let n = c.loop-step.invariant.count in
    record {
      count = c.mark.ensures.count ∙ c.loop-step.invariant.count;
      is = λ k h.
          c.mark.ensures.is k (omega arith)
          ∙ ap (λ b. b || names s k) (c.loop-step.invariant.is k h)
          ∙ sym (named_more (take i steps) s k)
          ∙ ap (λ x. is_named x k) (sym (take_more steps i d c.loop-step-test.true));
    }
