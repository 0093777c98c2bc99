use Rattle.std.proofs.Common.{List, ap, sym, ◌∙◌}
use Rattle.mm_subst.specs.declared.symbol.WSym.{WSym}
use Rattle.mm_subst.specs.Statements.{statement_of}
use Rattle.mm_subst.specs.Substitutions.{Pairs, applied}
use Rattle.mm_tree.specs.Bound.{is_long_known}
use Rattle.mm_tree.specs.Meanings.{text_now}
use Rattle.mm_tree.proofs.Bindings.{string-plain, values-plain}
use Rattle.mm_tree.proofs.lengths.is_long_known.Goals as goal

pub returns-then-not-has_values_with_work : goal.returns-then-not-has_values_with_work
returns-then-not-has_values_with_work c =
    c.is_long_step.ensures
    ∙ ap (λ (s : List WSym). is_long_known c.args.theta.now s (applied c.args.sigma.now.pairs (statement_of c.args.db.now c.args.id.0)) c.args.sigma.now.pairs)
    (sym (string-plain c.args.line.now c.args.target.now.birth c.args.target.now.string (sym c.has_work.ensures ∙ c.if-not-has_work.true)))
    ∙ ap (λ (ps : Pairs). is_long_known c.args.theta.now (text_now c.args.line.now c.args.target.now) (applied ps (statement_of c.args.db.now c.args.id.0)) ps)
    (sym (values-plain c.args.line.now c.args.sigma.now.birth c.args.sigma.now.pairs (sym c.has_values_with_work.ensures ∙ c.if-not-has_values_with_work.true)))
