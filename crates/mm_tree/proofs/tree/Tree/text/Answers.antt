use Rattle.std.proofs.Common.{◌≤◌, true, ap, arith}
use Rattle.mm_plain.specs.Shape.{size_of}
use Rattle.mm_tree.specs.Meanings.{youngest}
use Rattle.mm_tree.specs.Versions.{line_of, hand_length}
use Rattle.mm_tree.proofs.Shapes.{size_of-mean}
use Rattle.mm_tree.proofs.Made.{if-ok}
use Rattle.mm_tree.proofs.tree.Tree.text.Goals as goal

pub at-requires : goal.at-requires
at-requires c = (omega (arith, c.from.ensures, c.requires.0), omega (arith, c.from.ensures, c.requires.1, size_of-mean (line_of c.args.self.now.versions true) c.hand.result.now, ap size_of c.hand.ensures.plain))

pub returns-clause-born : goal.returns-clause-born
returns-clause-born c = if-ok c.share_text.result (λ t. t.value.birth ≤ youngest c.at.result.now) (λ t. t.value.birth ≤ hand_length c.args.self.now.versions) (λ t h. omega (arith, h, c.at.ensures.born, c.hand.ensures.born)) c.share_text.ensures.born
