use Rattle.std.proofs.Common.{◌∙◌, sym, refl}
use Rattle.mm_trace.proofs.SegmentLemmas.{found_next, found_nowhere, spells_end, within_left}
use Rattle.mm_trace.proofs.part.is_within.Goals as goal

pub slice_bounds-left-count : goal.slice_bounds-left-count
slice_bounds-left-count c = within_left _ _ _ _ c.in-Some.ensures.within c.in-Some-first_place.ensures.fits

pub returns-in_default-first_place : goal.returns-in_default-first_place
returns-in_default-first_place c = sym (c.loop-star.invariant ∙ found_nowhere _ _ _ c.in-Some.ensures.some c.in_default-first_place.ensures.none)

pub loop-star-preserved : goal.loop-star-preserved
loop-star-preserved c = c.loop-star.invariant ∙ found_next _ _ _ _ _ _ c.in-Some.ensures.within c.in-Some.ensures.some c.in-Some-first_place.ensures.some refl refl

pub returns : goal.returns
returns c = c.ends.ensures ∙ sym (c.loop-star.invariant ∙ spells_end _ c.in_default.ensures.none.free _)
