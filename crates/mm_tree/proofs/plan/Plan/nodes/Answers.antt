use Rattle.std.proofs.Common.{◌≡◌, ℕ, ◌+◌, List, ◌∷◌, drop, sym, ◌∙◌, ap, subst, arith}
use Rattle.std.proofs.lemmas.List.{drop_more}
use Rattle.mm_tree.specs.declared.plan.PlanStep.{PlanStep}
use Rattle.mm_tree.proofs.PlanLemmas.{Lays, lays-more, lays-small}
use Rattle.mm_tree.proofs.plan.Plan.nodes.Goals as goal

pub node_of-requires-clause-small : goal.node_of-requires-clause-small
node_of-requires-clause-small g c =
    let all = c.deref-step-items.result.now in
    omega (arith, lays-small all (drop c.loop-step.step-index all) c.loop-step.standing.items c.loop-step.made.items c.loop-step.invariant.lays)

pub loop-step-preserved : goal.loop-step-preserved
loop-step-preserved g c =
    let all : List PlanStep = c.deref-step-items.result.now in
    let i : ℕ = c.loop-step.step-index in
    let o : PlanStep = c.step-item.result in
    let split : drop i all ≡ o ∷ drop (i + 1) all = drop_more all i o c.loop-step-test.true ∙ ap (λ (p : PlanStep). p ∷ drop (i + 1) all) (sym c.step-item.is) in
    record {
      lays = lays-more all (drop (i + 1) all) o c.loop-step.standing.items c.loop-step.made.items c.node_of.new.standing.items c.push-in-loop-step.new.self.items c.push.new.self.items c.in_ok-node.node c.in_ok-clone.field-0
          (subst (λ (os : List PlanStep). Lays all os c.loop-step.standing.items c.loop-step.made.items) split c.loop-step.invariant.lays)
          (search (c.in_ok-node.ensures.node, c.as_slice.ensures.value)) c.in_ok-node.ensures.stay (search c.in_ok-clone.ensures) c.in_ok-push-2.ensures.items c.in_ok-push.ensures.items;
      same = c.loop-step.invariant.same;
      counted = omega (arith, c.node_of.ensures.cost, c.loop-step.invariant.counted);
    }
