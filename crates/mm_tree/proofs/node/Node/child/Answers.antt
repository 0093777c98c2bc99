use Rattle.std.proofs.Common.{[], List, refl, ap, sym, ◌∙◌, arith}
use Rattle.mm_plain.specs.Shape.{seat}
use Rattle.mm_tree.specs.Meanings.{means}
use Rattle.mm_tree.specs.View.{Shared, timed_of, values}
use Rattle.mm_tree.proofs.Shapes.{length-values}
use Rattle.mm_tree.proofs.Paths.{holder, value-at, own-step, own-leaf}
use Rattle.mm_tree.proofs.node.Node.child.Goals as goal

pub returns-then-i-len : goal.returns-then-i-len
returns-then-i-len c = (holder c.in-Known.field-0.value c.in-Known.field-1 c.in-Known.field-2.value (values c.in-Known.kids.items) c.args.self.now c.index.result.now.value c.args.step c.find-i.result.0 c.find-i.result.1
    (ap timed_of (sym c.in-Known.is) ∙ c.self.view_is) (c.find-i.ensures ∙ ap (λ (ks : List Shared). seat (means [] (values ks)) c.args.step) c.deref.ensures.value) c.requires.0 c.requires.1
    (omega (arith, c.if-i-len.true, c.len.ensures, length-values c.in-Known.kids.items, c.in-Known.kids.ok.0))
    (value-at c.in-Known.kids.items c.find-i.result.0 c.index.result.now c.index.result.now.value (omega (arith, c.if-i-len.true, c.len.ensures, c.in-Known.kids.ok.0)) c.index.ensures refl)).child

pub returns-else-i-len : goal.returns-else-i-len
returns-else-i-len c = own-step c.in-Known.field-0.value c.in-Known.field-1 c.in-Known.field-2.value (values c.in-Known.kids.items) c.args.self.now c.args.step c.find-i.result.0 c.find-i.result.1
    (ap timed_of (sym c.in-Known.is) ∙ c.self.view_is) (c.find-i.ensures ∙ ap (λ (ks : List Shared). seat (means [] (values ks)) c.args.step) c.deref.ensures.value) c.requires.0 c.requires.1
    (omega (arith, c.if-i-len.false, c.len.ensures, length-values c.in-Known.kids.items, c.in-Known.kids.ok.0))

pub returns-in-Unknown : goal.returns-in-Unknown
returns-in-Unknown c = own-leaf c.in-Unknown.field-0.value c.args.self.now c.args.step (ap timed_of (sym c.in-Unknown.is) ∙ c.self.view_is) c.requires.0 c.requires.1
