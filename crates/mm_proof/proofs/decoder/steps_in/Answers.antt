use Rattle.std.proofs.Common.{◌≡◌, ◌+◌, ◌∷◌, ◌++◌, [], List, length, length-append, ap, sym, ◌∙◌, subst, arith}
use Rattle.std.proofs.lemmas.Result.{err_from_is_err_and}
use Rattle.mm_tokens.specs.Pieces.{tokens_in, pieces_of}
use Rattle.mm_proof.specs.Decoding.{steps_from}
use Rattle.mm_proof.specs.Labels.{step_of, text_of}
use Rattle.mm_proof.specs.Steps.{AreSound, untagged}
use Rattle.mm_proof.specs.declared.step.ProofStep.{ProofStep}
use Rattle.mm_proof.proofs.Linked.{sound_more}
use Rattle.mm_proof.proofs.Decodes.{spelled_on, spelled_more, spelled_fails, spelled_all, passed}
use Rattle.mm_proof.proofs.decoder.steps_in.Goals as goal

pub returns-in_err-kind-clause-value : goal.returns-in_err-kind-clause-value
returns-in_err-kind-clause-value c =
    let p = err_from_is_err_and c.from_residual.result c.from_residual.ensures.1 in
    let bytes = c.args.db.now in
    let id = c.args.id.0 in
    let proof = c.args.proof.now in
    let done = c.loop-token.steps.items in
    let left = tokens_in c.next_token.new.scanner.left in
    let t = c.in-Some.token in
    let number : length done + 1 ≡ c.len.result + 1 = ap (λ n. n + 1) (sym (c.len.ensures ∙ c.loop-token.steps.ok.0)) in
    let same = ap (λ k. step_of bytes id k (text_of proof t)) number ∙ ap (step_of bytes id (c.len.result + 1)) (sym c.text_of.ensures) in
    rw (p.1, p.2) (passed c.in_err-kind.field-0.0 (step_of bytes id (c.len.result + 1) c.text_of.result.now) (steps_from bytes id proof 1 (tokens_in (pieces_of proof))) c.in_err-kind.ensures.value
    (λ e. sym c.loop-token.invariant.so_far
    ∙ ap (spelled_on bytes id proof (length done + 1) done) c.in-Some.ensures.some
    ∙ spelled_fails bytes id proof (length done + 1) done t left c.in_err-kind.field-0.0 (same ∙ e)))

pub loop-token-preserved : goal.loop-token-preserved
loop-token-preserved c =
    let bytes = c.args.db.now in
    let id = c.args.id.0 in
    let proof = c.args.proof.now in
    let done = c.loop-token.steps.items in
    let left = tokens_in c.next_token.new.scanner.left in
    let t = c.in-Some.token in
    let s = c.in_ok-kind.kind in
    let number : length done + 1 ≡ c.len.result + 1 = ap (λ n. n + 1) (sym (c.len.ensures ∙ c.loop-token.steps.ok.0)) in
    let same = ap (λ k. step_of bytes id k (text_of proof t)) number ∙ ap (step_of bytes id (c.len.result + 1)) (sym c.text_of.ensures) in
    let pushed = c.in_ok-push.ensures.items in
    let longer : length (done ++ untagged s ∷ []) + 1 ≡ length done + 1 + 1 = omega (arith, length-append done (untagged s ∷ [])) in
    let P : List ProofStep → Type 0 = λ x. AreSound bytes x in
    record {
      bytes = c.in-Some.ensures.bytes ∙ c.loop-token.invariant.bytes;
      sound = subst P (sym pushed) (sound_more bytes done s c.loop-token.invariant.sound c.in_ok-kind.ensures.step);
      so_far =
          ap (λ x. spelled_on bytes id proof (length x + 1) x left) pushed
          ∙ ap (λ k. spelled_on bytes id proof k (done ++ untagged s ∷ []) left) longer
          ∙ sym (spelled_more bytes id proof (length done + 1) done t left s (same ∙ c.in_ok-kind.ensures.value))
          ∙ ap (spelled_on bytes id proof (length done + 1) done) (sym c.in-Some.ensures.some)
          ∙ c.loop-token.invariant.so_far;
    }

pub returns-clause-value : goal.returns-clause-value
returns-clause-value c =
    let done = c.loop-token.steps.items in
    sym c.loop-token.invariant.so_far
    ∙ ap (spelled_on c.args.db.now c.args.id.0 c.args.proof.now (length done + 1) done) c.in_default.ensures.none
    ∙ spelled_all c.args.db.now c.args.id.0 c.args.proof.now (length done + 1) done
