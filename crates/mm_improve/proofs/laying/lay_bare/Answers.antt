use Rattle.std.proofs.Common.{◌-◌, ℕ, List, [], refl, arith, subst}
use Rattle.mm_subst.specs.declared.symbol.WSym.{WSym}
use Rattle.mm_subst.specs.Substitutions.{Pairs}
use Rattle.mm_plain.specs.Shape.{known}
use Rattle.mm_plain.proofs.Sizes.{height_of-pos}
use Rattle.mm_improve.specs.Steps.{Pushes}
use Rattle.mm_improve.proofs.LayingLemmas.{laid_none, over_all}
use Rattle.mm_improve.proofs.laying.lay_bare.Goals as goal

pub returns-then-left-eq0 : goal.returns-then-left-eq0
returns-then-left-eq0 c = omega (arith, height_of-pos (known c.args.goal.now c.args.id [] []), c.if-left-eq0.true)

pub returns : goal.returns
returns c =
    let p = c.args.plan.now in
    let new = c.push_step.new.plan in
    let k : ℕ = c.args.left - 1 in
    over_all p p new c.args.goal.now c.args.id [] [] k c.args.left 0 c.push_step.result (laid_none p k c.requires.plan) (omega (arith, c.if-left-eq0.false)) refl
    (subst (λ (s : Pairs). Pushes p c.args.goal.now c.args.id s 0 c.push_step.result new) c.new.ensures
    (subst (λ (t : List WSym). Pushes p t c.args.id c.new.result 0 c.push_step.result new) c.in_ok-target.ensures c.push_step.ensures))
