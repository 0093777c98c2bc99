use Rattle.std.proofs.Common.{true, ap, sym, ◌∙◌}
use Rattle.mm_plain.specs.Shape.{height_of}
use Rattle.mm_tree.specs.Versions.{line_of}
use Rattle.mm_tree.proofs.Shapes.{height_of-mean}
use Rattle.mm_tree.proofs.tree.Tree.height.Goals as goal

pub returns : goal.returns
returns c = c.height.ensures ∙ sym (height_of-mean (line_of c.args.self.now.versions true) c.hand.result.now) ∙ ap height_of c.hand.ensures.plain
