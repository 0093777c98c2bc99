use Rattle.std.proofs.Common.{◌∙◌, sym, refl}
use Rattle.mm_trace.proofs.SegmentLemmas.{spelled_behind, spelled_whole, spells_long, spells_not}
use Rattle.mm_trace.proofs.part.is_spelled.Goals as goal

pub returns-in_default : goal.returns-in_default
returns-in_default c = c.is_whole.ensures ∙ sym (spelled_whole _ _ c.in_default.ensures.none)

pub returns-then-star-text : goal.returns-then-star-text
returns-then-star-text c = sym (spells_long _ _ _ _ c.in-Some.ensures.within c.in-Some.ensures.some c.if-star-text.true)

pub returns-then-not-begins : goal.returns-then-not-begins
returns-then-not-begins c = sym (spells_not _ _ _ _ c.in-Some.ensures.some (sym c.begins.ensures ∙ c.if-not-begins.true))

pub returns : goal.returns
returns c = c.is_within.ensures ∙ sym (spelled_behind _ _ _ _ _ c.in-Some.ensures.within c.in-Some.ensures.some (sym c.begins.ensures ∙ c.if-not-begins.false) refl refl)
