use Rattle.std.proofs.Common.{◌≡◌, ◌<◌, ◌+◌, ◌⊎◌, [], ◌∷◌, ◌++◌, length, true, refl, ◌∙◌, ap, inl, inr, arith}
use Rattle.mm_unify.specs.declared.frame.Kind.TheVariants.{Whole, Longer}
use Rattle.mm_unify.proofs.Growing.{frame_with, stays, grows}
use Rattle.mm_unify.proofs.Opened.{fair_by}
use Rattle.mm_unify.proofs.frame.grow.Goals as goal
use Rattle.mm_unify.proofs.frame.grow.Goals.{then-place-target-via-then-place-target, then-place-target-via-else-place-target+then-total-target, then-place-target-via-else-place-target+else-total-target+then-early}

pub returns-then-place-target : goal.returns-then-place-target
returns-then-place-target c =
    let why : (c.args.place.to ≡ length c.args.target.now) ⊎ ((length c.args.target.now < c.args.total) ⊎ (c.args.early ≡ true)) = elim c.then-place-target.branch [
      | then-place-target-via-then-place-target w ↦ inl w.if-place-target.true
      | then-place-target-via-else-place-target+then-total-target w ↦ inr (inl w.if-total-target.true)
      | then-place-target-via-else-place-target+else-total-target+then-early w ↦ inr (inr w.if-early.true)
    ] in
    stays _ (fair_by c.args.pairs.now) c.args.pattern.now c.args.target.now c.args.path.now c.args.place c.requires.plain c.args.total c.args.early c.requires.grow _ _ why refl

pub returns : goal.returns
returns c =
    let inside : c.args.place.to < length c.args.target.now = let l = c.requires.grow.opens.within in omega (arith, c.if-place-target.false) in
    let more = c.closes_early.result in
    grows _ (fair_by c.args.pairs.now) c.args.pattern.now c.args.target.now c.args.path.now c.args.place c.requires.plain c.args.total c.args.early c.requires.grow
    inside (omega arith) c.if-early.false more c.closes_early.ensures c.args.frames.now.items _
    (c.in_ok-push-2.ensures.items
    ∙ ap (λ s. s ++ frame_with Whole c.args.path.now c.args.place (c.args.total + c.occurrences.result) more ∷ []) c.in_ok-push.ensures.items
    ∙ ap (λ n. (c.args.frames.now.items ++ frame_with Longer c.args.path.now c.args.place (c.args.total + n) more ∷ []) ++ frame_with Whole c.args.path.now c.args.place (c.args.total + n) more ∷ []) c.occurrences.ensures)
