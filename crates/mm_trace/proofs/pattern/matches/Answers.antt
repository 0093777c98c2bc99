use Rattle.std.proofs.Common.{◌∙◌, sym, refl, []}
use Rattle.mm_trace.proofs.SegmentLemmas.{matches_here, matches_last, matches_later}
use Rattle.mm_trace.proofs.pattern.matches.Goals as goal

pub returns-then-is_spelled : goal.returns-then-is_spelled
returns-then-is_spelled c = sym (c.loop-comma.invariant ∙ matches_here _ [] _ _ c.in-Some.ensures.some (sym c.is_spelled.ensures ∙ c.if-is_spelled.true))

pub loop-comma-preserved : goal.loop-comma-preserved
loop-comma-preserved c = c.loop-comma.invariant ∙ matches_later _ _ _ _ c.in-Some.ensures.some (sym c.is_spelled.ensures ∙ c.if-is_spelled.false) refl

pub returns : goal.returns
returns c = c.is_spelled-2.ensures ∙ sym (c.loop-comma.invariant ∙ matches_last _ _ c.in_default.ensures.none)
