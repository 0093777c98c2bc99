use Rattle.std.proofs.Common.{◌+◌, List, drop, ap, sym, ◌∙◌, arith}
use Rattle.mm_tree.specs.Meanings.{count}
use Rattle.mm_tree.specs.View.{Shared, counts, timed_of, values}
use Rattle.mm_tree.specs.Falls.{count-shared}
use Rattle.mm_tree.proofs.Later.{behind-known, behind-unknown}
use Rattle.mm_tree.proofs.node.Node.steps_behind.Goals as goal

pub steps_from-requires : goal.steps_from-requires
steps_from-requires c = omega (arith, c.requires, ap count (ap timed_of (sym c.in-Known.is) ∙ c.self.view_is), count-shared c.in-Known.field-0.value c.in-Known.field-1 c.in-Known.field-2.value c.in-Known.kids.items, ap counts c.deref.ensures.value)

pub returns-in-Known : goal.returns-in-Known
returns-in-Known c = behind-known c.in-Known.field-0.value c.in-Known.field-1 c.in-Known.field-2.value c.in-Known.kids.items c.args.self.now c.args.first c.steps_from.result
    (ap timed_of (sym c.in-Known.is) ∙ c.self.view_is) (c.steps_from.ensures ∙ ap (λ (ks : List Shared). counts (drop c.args.first ks)) c.deref.ensures.value)

pub returns-in-Unknown : goal.returns-in-Unknown
returns-in-Unknown c = behind-unknown c.in-Unknown.field-0.value c.args.self.now c.args.first (ap timed_of (sym c.in-Unknown.is) ∙ c.self.view_is)
