use Rattle.std.proofs.Common.{None, is_none, true, ap, sym, ◌∙◌}
use Rattle.std.specs.List.{last_or}
use Rattle.mm_plain.specs.Numbers.{labels_in, numbers_from}
use Rattle.mm_tree.specs.Versions.{line_of}
use Rattle.mm_tree.proofs.Shapes.{labels_in-mean}
use Rattle.mm_tree.proofs.tree.Tree.last_unknown.Goals as goal

pub returns : goal.returns
returns c = c.last_unknown.ensures ∙ ap (λ l. last_or None (numbers_from is_none 1 l)) (sym (labels_in-mean (line_of c.args.self.now.versions true) c.hand.result.now) ∙ ap labels_in c.hand.ensures.plain)
