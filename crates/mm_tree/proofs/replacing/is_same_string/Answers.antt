use Rattle.std.proofs.Common.{◌≡◌, ◌++◌, [], List, ap, sym, ◌∙◌}
use Rattle.std.specs.Cmp.Lexicographic.{pointwise}
use Rattle.std.proofs.lemmas.List.{append-nil}
use Rattle.mm_subst.specs.Symbols.{is_same}
use Rattle.mm_subst.specs.declared.symbol.WSym.{WSym}
use Rattle.mm_tree.proofs.Behind.{empty-same}
use Rattle.mm_tree.proofs.replacing.is_same_string.Goals as goal

pub returns-in-Some : goal.returns-in-Some
returns-in-Some c =
    c.is_empty.ensures ∙ sym (ap (pointwise is_same c.args.a.now) (sym (append-nil c.args.b.now)) ∙ c.in-Some.ensures [] ∙ sym (empty-same c.in-Some.left.now))

pub returns-in-None : goal.returns-in-None
returns-in-None c = sym (ap (pointwise is_same c.args.a.now) (sym (append-nil c.args.b.now)) ∙ c.in-None.ensures [])
