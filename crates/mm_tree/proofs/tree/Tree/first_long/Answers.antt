use Rattle.std.proofs.Common.{ap, sym, subst, ◌∙◌}
use Rattle.mm_plain.specs.Lengths.{first_long}
use Rattle.mm_plain.specs.Numbers.{HasOwnLabels}
use Rattle.mm_tree.specs.Meanings.{mean}
use Rattle.mm_tree.proofs.tree.Tree.first_long.Goals as goal

pub first_long-requires-clause-own : goal.first_long-requires-clause-own
first_long-requires-clause-own c = subst (HasOwnLabels c.args.db.now) (sym (ap (mean c.hand.result.now) c.line.ensures ∙ c.hand.ensures.plain)) c.requires.own

pub first_long-requires-clause-short : goal.first_long-requires-clause-short
first_long-requires-clause-short c = ap (first_long c.args.db.now) (ap (mean c.hand.result.now) c.line.ensures ∙ c.hand.ensures.plain) ∙ c.requires.short
