use Rattle.std.proofs.Common.{rules, [], ◌∷◌, ◌++◌, sym, ◌∙◌, ap}
use Rattle.mm_unify.proofs.Remains.{remains_first, remains_none, remains_zero, remains_long, remains_step, further_step}
use Rattle.mm_unify.proofs.search.search_nodes.Goals as goal

pub loop-node-init : goal.loop-node-init
loop-node-init c = remains_first _ _ _ _ _ _ c.requires (c.in_ok-push.ensures.items ∙ ap (λ s. s ++ c.in_ok-first.field-0 ∷ []) c.new-nodes.ensures.items ∙ ap (λ n. n ∷ []) c.in_ok-first.ensures) c.new-found.ensures.items

pub loop-node-preserved : goal.loop-node-preserved
loop-node-preserved c =
    rw c.fewer-left.ensures (remains_step _ _ _ _ c.loop-node.left _ _ c.pop.new.self.items _ c.in-Some.node (sym c.if-is_spent.ensures) c.in-Some.ensures.items (sym c.if-is_too_long.ensures) c.in_ok-visit.ensures.nodes c.in_ok-visit.ensures.found c.loop-node.invariant)

pub loop-node-smaller : goal.loop-node-smaller
loop-node-smaller c =
    rw c.fewer-left.ensures (further_step _ _ _ c.loop-node.left _ _ c.pop.new.self.items _ c.in-Some.node (sym c.if-is_spent.ensures) c.in-Some.ensures.items c.in_ok-visit.ensures.nodes c.loop-node.invariant)

pub returns-then-is_spent-clause-found : goal.returns-then-is_spent-clause-found
returns-then-is_spent-clause-found c = (remains_zero _ _ _ _ _ _ c.pop.new.self.items c.in-Some.node c.in-Some.ensures.items (sym c.if-is_spent.ensures) c.loop-node.invariant).0

pub returns-then-is_spent-clause-ended : goal.returns-then-is_spent-clause-ended
returns-then-is_spent-clause-ended c = (remains_zero _ _ _ _ _ _ c.pop.new.self.items c.in-Some.node c.in-Some.ensures.items (sym c.if-is_spent.ensures) c.loop-node.invariant).1

pub returns-then-is_too_long-clause-found : goal.returns-then-is_too_long-clause-found
returns-then-is_too_long-clause-found c = (remains_long _ _ _ _ _ _ c.pop.new.self.items c.in-Some.node (sym c.if-is_spent.ensures) c.in-Some.ensures.items (sym c.if-is_too_long.ensures) c.loop-node.invariant).0

pub returns-then-is_too_long-clause-ended : goal.returns-then-is_too_long-clause-ended
returns-then-is_too_long-clause-ended c = (remains_long _ _ _ _ _ _ c.pop.new.self.items c.in-Some.node (sym c.if-is_spent.ensures) c.in-Some.ensures.items (sym c.if-is_too_long.ensures) c.loop-node.invariant).1

pub returns-clause-found : goal.returns-clause-found
returns-clause-found c = (remains_none _ _ _ _ _ _ (search rules) c.loop-node.invariant).0

pub returns-clause-ended : goal.returns-clause-ended
returns-clause-ended c = (remains_none _ _ _ _ _ _ (search rules) c.loop-node.invariant).1
