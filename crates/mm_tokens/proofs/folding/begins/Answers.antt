use Rattle.std.proofs.Common.{◌≤◌, ◌<◌, length, drop, sym, ap, subst, ◌∙◌, arith, ◌+◌}
use Rattle.mm_tokens.specs.Folding.{begins, folded}
use Rattle.mm_tokens.proofs.Phrases.{text_ends, byte_fits, byte_differs, white_fits, white_differs, phrase_ends}
use Rattle.mm_tokens.proofs.folding.begins.Goals as goal
use Rattle.mm_tokens.proofs.folding.begins.Goals.{then-is_white+else-wanted-ne32, else-is_white+else-wanted-byte}

pub returns-then-place-text : goal.returns-then-place-text
returns-then-place-text c =
    sym (text_ends c.args.phrase.now c.args.text.now c.loop-wanted.wanted-index c.loop-wanted.place c.loop-wanted-test.true (omega arith)) ∙ c.loop-wanted.invariant.1

pub returns-then-wanted-ne32 : goal.returns-then-wanted-ne32
returns-then-wanted-ne32 c =
    let there : c.loop-wanted.place < length c.args.text.now = omega arith in
    sym (white_differs c.args.phrase.now c.args.text.now c.loop-wanted.wanted-index c.loop-wanted.place c.loop-wanted-test.true there
    (sym c.is_white.ensures ∙ c.if-is_white.true) c.if-wanted-ne32.true) ∙ c.loop-wanted.invariant.1

pub returns-then-wanted-byte : goal.returns-then-wanted-byte
returns-then-wanted-byte c =
    let there : c.loop-wanted.place < length c.args.text.now = omega arith in
    sym (byte_differs c.args.phrase.now c.args.text.now c.loop-wanted.wanted-index c.loop-wanted.place c.loop-wanted-test.true there
    (sym c.is_white.ensures ∙ c.if-is_white.false) c.if-wanted-byte.true) ∙ c.loop-wanted.invariant.1

pub loop-wanted-preserved : goal.loop-wanted-preserved
loop-wanted-preserved c =
    let there : c.loop-wanted.place < length c.args.text.now = omega arith in
    elim c.if-is_white.branch [
      | then-is_white+else-wanted-ne32 w ↦ (
        subst (λ q. q ≤ length c.args.text.now) (sym w.place-is) w.past_white-place.ensures.within,
        ap (λ q. begins (drop (c.loop-wanted.wanted-index + 1) c.args.phrase.now) (folded (drop q c.args.text.now))) w.place-is
            ∙ white_fits c.args.phrase.now c.args.text.now c.loop-wanted.wanted-index c.loop-wanted.place c.loop-wanted-test.true w.past_white-place.result there
            (sym c.is_white.ensures ∙ w.if-is_white.true) w.if-wanted-ne32.false w.past_white-place.ensures.same
            ∙ c.loop-wanted.invariant.1,
      )
      | else-is_white+else-wanted-byte w ↦ (
        omega (arith, w.place-is, there),
        ap (λ q. begins (drop (c.loop-wanted.wanted-index + 1) c.args.phrase.now) (folded (drop q c.args.text.now))) w.place-is
            ∙ byte_fits c.args.phrase.now c.args.text.now c.loop-wanted.wanted-index c.loop-wanted.place c.loop-wanted-test.true there
            (sym c.is_white.ensures ∙ w.if-is_white.false) w.if-wanted-byte.false
            ∙ c.loop-wanted.invariant.1,
      )
    ]

pub returns : goal.returns
returns c =
    sym (phrase_ends c.args.phrase.now (folded (drop c.loop-wanted.place c.args.text.now)) c.loop-wanted.wanted-index c.loop-wanted-test.false) ∙ c.loop-wanted.invariant.1
