use Rattle.std.proofs.Common.{[], ◌++◌, true, ap, sym, ◌∙◌}
use Rattle.mm_plain.specs.Numbers.{labels_in}
use Rattle.mm_tree.specs.Meanings.{mean}
use Rattle.mm_tree.specs.Versions.{line_of}
use Rattle.mm_tree.proofs.Shapes.{labels_in-mean}
use Rattle.mm_tree.proofs.tree.Tree.labels.Goals as goal

pub returns : goal.returns
returns c = c.in_ok-labels.ensures ∙ ap (λ l. l ++ labels_in (mean c.hand.result.now [])) c.new-labels.ensures.items ∙ sym (labels_in-mean (line_of c.args.self.now.versions true) c.hand.result.now) ∙ ap labels_in c.hand.ensures.plain
