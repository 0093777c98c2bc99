use Rattle.std.proofs.Common.{List, sym, ◌∙◌, ap, subst}
use Rattle.mm_subst.specs.declared.symbol.WSym.{WSym}
use Rattle.mm_subst.specs.Statements.{statement_of}
use Rattle.mm_plain.specs.Shape.{unknown}
use Rattle.mm_plain.specs.Valid.{IsValid}
use Rattle.mm_plain.proofs.Kept.{valid-start}
use Rattle.mm_tree.proofs.Grown.{proof_of}
use Rattle.mm_tree.proofs.Made.{if-ok}
use Rattle.mm_tree.proofs.tree.Tree.start.Goals as goal

pub returns-clause-valid : goal.returns-clause-valid
returns-clause-valid c =
    let statement = statement_of c.args.db.now c.args.at.0 in
    if-ok c.start_in.result _ _ (λ t e h. subst (IsValid c.args.db.now c.args.at.0 statement) (sym (e ∙ ap (λ (s : List WSym). proof_of (unknown s) 1) c.in_ok-target.ensures)) (valid-start c.args.db.now c.args.at.0 statement h)) c.start_in.ensures.start
