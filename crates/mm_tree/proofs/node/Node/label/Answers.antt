use Rattle.std.proofs.Common.{ap, sym, ◌∙◌}
use Rattle.mm_tree.specs.View.{timed_of, values}
use Rattle.mm_tree.proofs.Kids.{label-known, label-unknown}
use Rattle.mm_tree.proofs.node.Node.label.Goals as goal

pub returns-in-Known : goal.returns-in-Known
returns-in-Known c line = label-known c.in-Known.field-0.value c.in-Known.label c.in-Known.field-2.value (values c.in-Known.field-3.items) c.args.self.now (ap timed_of (sym c.in-Known.is) ∙ c.self.view_is) line

pub returns-in-Unknown : goal.returns-in-Unknown
returns-in-Unknown c line = label-unknown c.in-Unknown.field-0.value c.args.self.now (ap timed_of (sym c.in-Unknown.is) ∙ c.self.view_is) line
