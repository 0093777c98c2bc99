use Rattle.std.proofs.Common.{sym, ◌∙◌, arith}
use Rattle.mm_tokens.proofs.Phrases.{skip_more, skip_done, skip_end}
use Rattle.mm_tokens.proofs.folding.past_white.Goals as goal

pub loop-place-preserved : goal.loop-place-preserved
loop-place-preserved c = (
  omega arith,
  c.loop-place.invariant.1 ∙ skip_more c.args.text.now c.loop-place.place c.loop-place-test.true (sym c.is_white.ensures ∙ c.if-is_white.true),
)

pub returns-else-is_white-clause-same : goal.returns-else-is_white-clause-same
returns-else-is_white-clause-same c =
    c.loop-place.invariant.1 ∙ skip_done c.args.text.now c.loop-place.place c.loop-place-test.true (sym c.is_white.ensures ∙ c.if-is_white.false)

pub returns-after-loop-place-clause-same : goal.returns-after-loop-place-clause-same
returns-after-loop-place-clause-same c = c.loop-place.invariant.1 ∙ skip_end c.args.text.now c.loop-place.place c.loop-place-test.false
