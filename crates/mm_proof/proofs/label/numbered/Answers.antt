use Rattle.std.proofs.Common.{◌≡◌, ◌+◌, ◌-◌, ◌<◌, ℕ, true, false, List, [], ◌∷◌, All, length, length-append, map, ap, sym, ◌∙◌, subst, arith}
use Rattle.std.specs.Str.{bytes_eq}
use Rattle.std.proofs.lemmas.Result.{err_from_is_err_and}
use Rattle.std.proofs.lemmas.List.Elements.{All-push}
use Rattle.mm_tokens.specs.Pieces.{tokens_in}
use Rattle.mm_proof.specs.Labels.{hypothesis, text_of, listed_of, listed_from, numbered}
use Rattle.mm_proof.specs.Readers.{IsLabel}
use Rattle.mm_proof.specs.declared.step.StepKind.{StepKind}
use Rattle.mm_proof.proofs.Decodes.{passed}
use Rattle.mm_proof.proofs.Listed.{listed_ends, listed_more, listed_fails, listed_none, hypotheses_own, few_gives}
use Rattle.mm_proof.proofs.label.numbered.Goals as goal

pub loop-token-init : goal.loop-token-init
loop-token-init c =
    let own = c.as_slice-own.ensures ∙ c.frame-frame.ensures.mandatory in
    let kinds = c.in_ok-kinds.ensures in
    let count : c.len-first.result ≡ length c.in_ok-kinds.kinds.items = c.len-first.ensures ∙ c.in_ok-kinds.kinds.ok.0 in
    let two : length c.in_ok-kinds.kinds.items - c.len-first.result + 2 ≡ 2 = omega arith in
    let P : List StepKind → Type 0 = λ x. All (IsLabel c.args.db.now) x in
    let Q : List ℕ → Type 0 = λ x. All (λ m. m < c.args.id.0) x in
    record {
      bytes = c.requires.proof;
      labels = subst P (sym kinds) (hypotheses_own c.args.db.now c.args.id.0 c.as_slice-own.result.now c.requires.own (subst Q (sym c.as_slice-own.ensures) c.frame-frame.ensures.earlier));
      count = omega arith;
      so_far =
          ap (λ k. listed_from c.args.db.now c.args.id.0 c.args.proof.now k c.in_ok-kinds.kinds.items (tokens_in c.args.scanner.now.left)) two
          ∙ ap (λ x. listed_from c.args.db.now c.args.id.0 c.args.proof.now 2 x (tokens_in c.args.scanner.now.left)) (kinds ∙ ap (map hypothesis) own);
    }

pub returns-then-closes-clause-value : goal.returns-then-closes-clause-value
returns-then-closes-clause-value c =
    let t = c.in-Some.token in
    let proof = c.args.proof.now in
    let kinds = c.loop-token.kinds.items in
    let closes : bytes_eq (text_of proof t) (41 ∷ []) ≡ true = ap (λ x. bytes_eq x (41 ∷ [])) (sym c.text_of-text.ensures) ∙ sym c.closes.ensures ∙ c.if-closes.true in
    few_gives c.few.result kinds (tokens_in c.next_token.new.scanner.left) (numbered c.args.db.now c.args.id.0 proof (tokens_in c.args.scanner.now.left)) c.few.ensures.value
    (sym c.loop-token.invariant.so_far
    ∙ listed_ends c.args.db.now c.args.id.0 proof (length kinds - c.len-first.result + 2) kinds (tokens_in c.loop-token.scanner.left) (tokens_in c.next_token.new.scanner.left) t c.in-Some.ensures.some closes)

pub returns-in_err-listed_of-clause-value : goal.returns-in_err-listed_of-clause-value
returns-in_err-listed_of-clause-value c =
    let t = c.in-Some.token in
    let bytes = c.args.db.now in
    let id = c.args.id.0 in
    let proof = c.args.proof.now in
    let kinds = c.loop-token.kinds.items in
    let left = tokens_in c.next_token.new.scanner.left in
    let closes : bytes_eq (text_of proof t) (41 ∷ []) ≡ false = ap (λ x. bytes_eq x (41 ∷ [])) (sym c.text_of-text.ensures) ∙ sym c.closes.ensures ∙ c.if-closes.false in
    let count : c.len.result ≡ length kinds = c.len.ensures ∙ c.loop-token.kinds.ok.0 in
    let number : c.len.result - c.len-first.result + 2 ≡ length kinds - c.len-first.result + 2 = ap (λ n. n - c.len-first.result + 2) count in
    let p = err_from_is_err_and c.from_residual-in_err-listed_of.result c.from_residual-in_err-listed_of.ensures.1 in
    let same = ap (λ k. listed_of bytes id k (text_of proof t)) (sym number) ∙ ap (listed_of bytes id (c.len.result - c.len-first.result + 2)) (sym c.text_of-text.ensures) in
    rw (p.1, p.2) (passed c.in_err-listed_of.field-0.0 (listed_of bytes id (c.len.result - c.len-first.result + 2) c.text_of-text.result.now) (numbered bytes id proof (tokens_in c.args.scanner.now.left)) c.in_err-listed_of.ensures.value
    (λ e. sym c.loop-token.invariant.so_far
    ∙ listed_fails bytes id proof (length kinds - c.len-first.result + 2) kinds (tokens_in c.loop-token.scanner.left) left t c.in_err-listed_of.field-0.0 c.in-Some.ensures.some closes (same ∙ e)))

pub loop-token-preserved : goal.loop-token-preserved
loop-token-preserved c =
    let t = c.in-Some.token in
    let bytes = c.args.db.now in
    let id = c.args.id.0 in
    let proof = c.args.proof.now in
    let kinds = c.loop-token.kinds.items in
    let left = tokens_in c.next_token.new.scanner.left in
    let closes : bytes_eq (text_of proof t) (41 ∷ []) ≡ false = ap (λ x. bytes_eq x (41 ∷ [])) (sym c.text_of-text.ensures) ∙ sym c.closes.ensures ∙ c.if-closes.false in
    let count : c.len.result ≡ length kinds = c.len.ensures ∙ c.loop-token.kinds.ok.0 in
    let number : c.len.result - c.len-first.result + 2 ≡ length kinds - c.len-first.result + 2 = ap (λ n. n - c.len-first.result + 2) count in
    let kind = c.in_ok-listed_of.field-0 in
    let same = ap (λ k. listed_of bytes id k (text_of proof t)) (sym number) ∙ ap (listed_of bytes id (c.len.result - c.len-first.result + 2)) (sym c.text_of-text.ensures) in
    let pushed = c.in_ok-push.ensures.items in
    let longer : length c.push.new.self.items ≡ length kinds + 1 = ap length pushed ∙ omega (arith, length-append kinds (kind ∷ [])) in
    let some = c.loop-token.invariant.count in
    let next : length kinds - c.len-first.result + 2 + 1 ≡ length c.push.new.self.items - c.len-first.result + 2 = omega arith in
    let P : List StepKind → Type 0 = λ x. All (IsLabel bytes) x in
    record {
      bytes = c.in-Some.ensures.bytes ∙ c.loop-token.invariant.bytes;
      labels = subst P (sym pushed) (All-push (IsLabel bytes) kinds kind c.loop-token.invariant.labels c.in_ok-listed_of.ensures.label);
      count = omega arith;
      so_far =
          ap (λ k. listed_from bytes id proof k c.push.new.self.items left) (sym next)
          ∙ ap (λ x. listed_from bytes id proof (length kinds - c.len-first.result + 2 + 1) x left) pushed
          ∙ sym (listed_more bytes id proof (length kinds - c.len-first.result + 2) kinds (tokens_in c.loop-token.scanner.left) left t kind c.in-Some.ensures.some closes (same ∙ c.in_ok-listed_of.ensures.value))
          ∙ c.loop-token.invariant.so_far;
    }

pub returns-clause-value : goal.returns-clause-value
returns-clause-value c = sym c.loop-token.invariant.so_far ∙ listed_none c.args.db.now c.args.id.0 c.args.proof.now (length c.loop-token.kinds.items - c.len-first.result + 2) c.loop-token.kinds.items (tokens_in c.loop-token.scanner.left) c.in_default.ensures.none
