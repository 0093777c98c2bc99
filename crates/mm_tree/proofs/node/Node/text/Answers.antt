use Rattle.std.proofs.Common.{ap, sym, ◌∙◌, arith}
use Rattle.mm_tree.specs.Meanings.{youngest}
use Rattle.mm_tree.specs.View.{timed_of, values}
use Rattle.mm_tree.proofs.Shapes.{youngest-known, youngest-unknown}
use Rattle.mm_tree.proofs.Kids.{target-known, target-unknown}
use Rattle.mm_tree.proofs.node.Node.text.Goals as goal

pub returns-in-Known-clause-now : goal.returns-in-Known-clause-now
returns-in-Known-clause-now c line = target-known c.in-Known.target.value c.in-Known.field-1 c.in-Known.field-2.value (values c.in-Known.field-3.items) c.args.self.now (ap timed_of (sym c.in-Known.is) ∙ c.self.view_is) line

pub returns-in-Unknown-clause-now : goal.returns-in-Unknown-clause-now
returns-in-Unknown-clause-now c line = target-unknown c.in-Unknown.target.value c.args.self.now (ap timed_of (sym c.in-Unknown.is) ∙ c.self.view_is) line

pub returns-in-Known-clause-born : goal.returns-in-Known-clause-born
returns-in-Known-clause-born c = omega (arith, ap youngest (ap timed_of (sym c.in-Known.is) ∙ c.self.view_is), youngest-known c.in-Known.target.value c.in-Known.field-1 c.in-Known.field-2.value (values c.in-Known.field-3.items))

pub returns-in-Unknown-clause-born : goal.returns-in-Unknown-clause-born
returns-in-Unknown-clause-born c = omega (arith, ap youngest (ap timed_of (sym c.in-Unknown.is) ∙ c.self.view_is), youngest-unknown c.in-Unknown.target.value)
