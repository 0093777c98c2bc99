use Rattle.std.proofs.Common.{◌≡◌, ℕ, List, [], map, get_or, ap, sym, ◌∙◌}
use Rattle.mm_subst.specs.declared.symbol.WSym.{WSym}
use Rattle.mm_subst.specs.Statements.{statement_of}
use Rattle.mm_subst.specs.Substitutions.{applied}
use Rattle.mm_tree.proofs.Made.{if-ok}
use Rattle.mm_tree.proofs.Renewed.{premise-at}
use Rattle.mm_tree.proofs.renewal.goal_at.Goals as goal

pub returns : goal.returns
returns c = if-ok c.replaced.result _ _
    (λ s e. e ∙ ap (applied c.args.sigma.now) c.in_ok-hypothesis.ensures
    ∙ premise-at (statement_of c.args.db.now) (applied c.args.sigma.now) c.args.premises.now c.args.at c.in-Some.premise.now c.in-Some.ensures.lookup.0 c.in-Some.ensures.lookup.1) c.replaced.ensures
