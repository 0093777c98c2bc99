use Rattle.std.proofs.Common.{◌∙◌, ap, arith}
use Rattle.mm_tree.specs.View.{counts}
use Rattle.mm_tree.proofs.Later.{later-le}
use Rattle.mm_tree.proofs.Made.{if-ok}
use Rattle.mm_tree.proofs.PlanLemmas.{known-timed}
use Rattle.mm_tree.proofs.plan.node_of.Goals as goal

pub known_of-requires : goal.known_of-requires
known_of-requires g c = omega (arith, ap counts c.in_ok-kids-in-Known.ensures.tail, later-le c.args.standing.now.items c.saturating_sub.result, c.requires.small)

pub returns-in_ok-kids-in-Known-clause-node : goal.returns-in_ok-kids-in-Known-clause-node
returns-in_ok-kids-in-Known-clause-node g c = if-ok c.known_of.result _ _
    (λ r e. e ∙ known-timed c.args.step.now c.in-Known.text c.in-Known.label c.in-Known.sigma c.in-Known.takes c.saturating_sub.result c.args.standing.now.items c.in_ok-kids-in-Known.kids.items c.args.made.now c.in-Known.is
    (omega (arith, c.saturating_sub.ensures, c.len.ensures, c.args.standing.now.ok.0)) c.in_ok-kids-in-Known.ensures.tail) c.known_of.ensures.node
