use Rattle.std.proofs.Common.{◌≡◌, ◌<◌, ℕ, List, length, get_or, slice_get, sym, ap, ◌∙◌, arith}
use Rattle.std.specs.List.{flat_map}
use Rattle.mm_scope.specs.Contents.{stated_at}
use Rattle.mm_plain.specs.Shape.{step_at}
use Rattle.mm_plain.specs.Sources.{sigma_of}
use Rattle.mm_sound.specs.Apart.{pairs_by}
use Rattle.mm_save.specs.Clashes.{clashes_under}
use Rattle.mm_save.proofs.Firsts.{goes_on, stops}
use Rattle.mm_save.proofs.clashes.clash_at.Goals as goal

pub returns-in-Some : goal.returns-in-Some
returns-in-Some c =
    let fs = clashes_under c.args.parted.now c.args.step (sigma_of (step_at c.args.tree.now.proof.plain c.args.step)) in
    let pairs : List (ℕ × ℕ) = (stated_at c.args.db.now c.args.id.0).pairs in
    let same : c.as_slice-pair-items.result.now ≡ pairs = c.as_slice-pair-items.ensures ∙ c.frame.ensures.pairs in
    let small : c.loop-pair.pair-index < length pairs = omega (arith, ap length same) in
    stops fs pairs c.loop-pair.pair-index c.pair-item.result c.in-Some.clash small
    (sym c.in-Some.is ∙ c.in_ok-clash.ensures ∙ ap (λ p. slice_get (fs p) 0) (c.pair-item.is ∙ ap (λ ps. get_or ps c.loop-pair.pair-index c.pair-item.result) same))
    ∙ c.loop-pair.invariant ∙ ap (λ o. slice_get (flat_map fs (pairs_by c.args.db.now o)) 0) (sym c.requires.names)

pub loop-pair-preserved : goal.loop-pair-preserved
loop-pair-preserved c =
    let fs = clashes_under c.args.parted.now c.args.step (sigma_of (step_at c.args.tree.now.proof.plain c.args.step)) in
    let pairs : List (ℕ × ℕ) = (stated_at c.args.db.now c.args.id.0).pairs in
    let same : c.as_slice-pair-items.result.now ≡ pairs = c.as_slice-pair-items.ensures ∙ c.frame.ensures.pairs in
    let small : c.loop-pair.pair-index < length pairs = omega (arith, ap length same) in
    goes_on fs pairs c.loop-pair.pair-index c.pair-item.result small (sym c.in_default.is ∙ c.in_ok-clash.ensures ∙ ap (λ p. slice_get (fs p) 0) (c.pair-item.is ∙ ap (λ ps. get_or ps c.loop-pair.pair-index c.pair-item.result) same))
    ∙ c.loop-pair.invariant
