use Rattle.std.proofs.Common.{◌≤◌, List, length, ap, subst, arith}
use Rattle.std.specs.List.{All}
use Rattle.std.proofs.lemmas.List.{take_all}
use Rattle.std.proofs.lemmas.List.Elements.{All-more, All-map}
use Rattle.mm_subst.specs.declared.symbol.WSym.{WSym}
use Rattle.mm_subst.specs.Statements.{statement_of}
use Rattle.mm_subst.specs.Substitutions.{applied}
use Rattle.mm_tree.proofs.tests.check_short.Goals as goal

pub loop-premise-preserved : goal.loop-premise-preserved
loop-premise-preserved c =
    All-more (λ m. length (applied c.args.sigma.now (statement_of c.args.db.now m)) ≤ 32768) c.premises-premise-items.result.now c.loop-premise.premise-index 0
    c.loop-premise-test.true c.loop-premise.invariant (omega (arith, c.in_ok-apply.ensures, ap (λ s. length (applied c.args.sigma.now s)) c.in_ok-hypothesis.ensures))

pub returns : goal.returns
returns c =
    subst (All (λ (h : List WSym). length (applied c.args.sigma.now h) ≤ 32768)) c.premises-premise-items.ensures.value
    (All-map (λ (h : List WSym). length (applied c.args.sigma.now h) ≤ 32768) (statement_of c.args.db.now) c.premises-premise-items.result.now
    (subst (All (λ m. length (applied c.args.sigma.now (statement_of c.args.db.now m)) ≤ 32768)) (take_all c.loop-premise.premise-index c.premises-premise-items.result.now c.loop-premise-test.false) c.loop-premise.invariant))
