use Rattle.std.proofs.Common.{List, sym, ◌∙◌, ap, subst}
use Rattle.mm_subst.specs.declared.symbol.WSym.{WSym}
use Rattle.mm_plain.specs.Shape.{unknown}
use Rattle.mm_plain.specs.Valid.{IsValid}
use Rattle.mm_plain.proofs.Kept.{valid-start}
use Rattle.mm_tree.proofs.Grown.{proof_of}
use Rattle.mm_tree.proofs.Made.{if-ok}
use Rattle.mm_tree.proofs.tree.Tree.start_goal.Goals as goal

pub returns-clause-valid : goal.returns-clause-valid
returns-clause-valid g c =
    if-ok c.begin.result _ _ (λ t e h. subst (IsValid c.args.db.now c.args.at.0 c.args.goal.now) (sym (e ∙ ap (λ (s : List WSym). proof_of (unknown s) 1) c.in_ok-copy.ensures)) (valid-start c.args.db.now c.args.at.0 c.args.goal.now h)) c.begin.ensures.start
