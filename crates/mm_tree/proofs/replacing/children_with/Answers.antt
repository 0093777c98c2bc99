use Rattle.std.proofs.Common.{◌≡◌, ◌+◌, ◌<◌, ◌≤◌, List, [], ◌∷◌, map, length, get_or, ap, sym, ◌∙◌, arith}
use Rattle.std.specs.List.{sum_by}
use Rattle.std.proofs.lemmas.List.{length-map}
use Rattle.mm_subst.specs.declared.symbol.WSym.{WSym}
use Rattle.mm_subst.specs.Statements.{statement_of}
use Rattle.mm_subst.specs.Substitutions.{applied}
use Rattle.mm_tree.specs.Meanings.{count}
use Rattle.mm_tree.specs.View.{values}
use Rattle.mm_tree.proofs.Keeping.{values-append}
use Rattle.mm_tree.proofs.Renewed.{premise-read}
use Rattle.mm_tree.proofs.ReplacingLemmas.{children-more}
use Rattle.mm_tree.proofs.Shapes.{counts-values}
use Rattle.mm_tree.proofs.replacing.children_with.Goals as goal

pub loop-premise-preserved : goal.loop-premise-preserved
loop-premise-preserved g c =
    let hs : List (List WSym) = map (statement_of c.args.db.now) c.args.premises.now in
    let goals : List (List WSym) = map (applied c.args.sigma.now) hs in
    let low : c.loop-premise.premise-index < length goals = omega (arith, c.loop-premise-test.true, length-map c.args.premises.now (statement_of c.args.db.now), length-map hs (applied c.args.sigma.now)) in
    let at : c.in_ok-goal.goal ≡ get_or goals c.loop-premise.premise-index []
    = c.in_ok-goal.ensures ∙ ap (applied c.args.sigma.now) c.in_ok-hypothesis.ensures ∙ premise-read (statement_of c.args.db.now) (applied c.args.sigma.now) c.args.premises.now c.loop-premise.premise-index 0 c.loop-premise-test.true in
    record {
      made = children-more c.args.theta.now c.args.line.now (values c.args.olds.now) goals c.loop-premise.premise-index c.args.birth c.in_ok-goal.goal c.in_ok-child_with.field-0.value (values c.loop-premise.nodes.items) (values c.push.new.self.items) low at
          (omega (arith, c.requires.few, counts-values c.args.olds.now)) c.in_ok-child_with.ensures.node c.loop-premise.invariant.made
          (ap values c.in_ok-push.ensures.items ∙ values-append c.loop-premise.nodes.items (c.in_ok-child_with.field-0 ∷ []));
      counted = omega (arith, c.loop-premise.invariant.counted, c.child_with.ensures.cost);
    }
