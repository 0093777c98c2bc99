use Rattle.std.proofs.Common.{◌≤◌, ap, arith}
use Rattle.mm_tree.specs.Meanings.{count, tall, youngest}
use Rattle.mm_tree.proofs.tree.Tree.hand.Goals as goal

pub returns-clause-few : goal.returns-clause-few
returns-clause-few c = let f = c.root.ensures.sound.few in omega (arith, f, ap count c.deref.ensures)

pub returns-clause-low : goal.returns-clause-low
returns-clause-low c = let f = c.root.ensures.sound.low in omega (arith, f, ap tall c.deref.ensures)

pub returns-clause-born : goal.returns-clause-born
returns-clause-born c = omega (arith, c.root.ensures.born, ap youngest c.deref.ensures)
