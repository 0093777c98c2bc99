use Rattle.std.proofs.Common.{[], List, ap, sym, ◌∙◌, arith}
use Rattle.mm_plain.specs.Shape.{seat}
use Rattle.mm_tree.specs.Meanings.{means}
use Rattle.mm_tree.specs.View.{Shared, timed_of, values}
use Rattle.mm_tree.proofs.Shapes.{length-values}
use Rattle.mm_tree.proofs.Paths.{IsHolder, holder, value-at, put-own, put-leaf, put-ok, child-count}
use Rattle.mm_tree.proofs.node.+put.Goals as goal

pub put-requires : goal.put-requires
put-requires g t c κs within =
    let k : IsHolder c.in-Known.target.value c.in-Known.label c.in-Known.sigma.value (values c.in-Known.kids.items) c.args.node.now c.deref-then-i-len.result.now c.args.step c.find-i.result.0 c.find-i.result.1 = holder c.in-Known.target.value c.in-Known.label c.in-Known.sigma.value (values c.in-Known.kids.items) c.args.node.now c.deref-then-i-len.result.now c.args.step c.find-i.result.0 c.find-i.result.1
    (ap timed_of (sym c.in-Known.is) ∙ c.node.view_is) (c.find-i.ensures ∙ ap (λ (ks : List Shared). seat (means [] (values ks)) c.args.step) c.deref.ensures.value) c.requires.exists.0 c.requires.exists.1
    (omega (arith, c.if-i-len.true, c.len.ensures, length-values c.in-Known.kids.items, c.in-Known.kids.ok.0))
    (value-at c.in-Known.kids.items c.find-i.result.0 c.index.result.now c.deref-then-i-len.result.now (omega (arith, c.if-i-len.true, c.len.ensures, c.in-Known.kids.ok.0)) c.index.ensures c.deref-then-i-len.ensures) in
    let smaller = k.child.smaller in
    (omega (arith, c.decreases), (within, (omega (arith, c.requires.small), (k.child.first, k.child.last))))

pub returns-in_err-child-in-Known-clause-cost : goal.returns-in_err-child-in-Known-clause-cost
returns-in_err-child-in-Known-clause-cost g t c =
    let k : IsHolder c.in-Known.target.value c.in-Known.label c.in-Known.sigma.value (values c.in-Known.kids.items) c.args.node.now c.deref-then-i-len.result.now c.args.step c.find-i.result.0 c.find-i.result.1 = holder c.in-Known.target.value c.in-Known.label c.in-Known.sigma.value (values c.in-Known.kids.items) c.args.node.now c.deref-then-i-len.result.now c.args.step c.find-i.result.0 c.find-i.result.1
    (ap timed_of (sym c.in-Known.is) ∙ c.node.view_is) (c.find-i.ensures ∙ ap (λ (ks : List Shared). seat (means [] (values ks)) c.args.step) c.deref.ensures.value) c.requires.exists.0 c.requires.exists.1
    (omega (arith, c.if-i-len.true, c.len.ensures, length-values c.in-Known.kids.items, c.in-Known.kids.ok.0))
    (value-at c.in-Known.kids.items c.find-i.result.0 c.index.result.now c.deref-then-i-len.result.now (omega (arith, c.if-i-len.true, c.len.ensures, c.in-Known.kids.ok.0)) c.index.ensures c.deref-then-i-len.ensures) in
    let d = k.child.deeper in
    omega (arith, c.put.ensures.cost)

pub with_child-requires-clause-small : goal.with_child-requires-clause-small
with_child-requires-clause-small g t c =
    let k : IsHolder c.in-Known.target.value c.in-Known.label c.in-Known.sigma.value (values c.in-Known.kids.items) c.args.node.now c.deref-then-i-len.result.now c.args.step c.find-i.result.0 c.find-i.result.1 = holder c.in-Known.target.value c.in-Known.label c.in-Known.sigma.value (values c.in-Known.kids.items) c.args.node.now c.deref-then-i-len.result.now c.args.step c.find-i.result.0 c.find-i.result.1
    (ap timed_of (sym c.in-Known.is) ∙ c.node.view_is) (c.find-i.ensures ∙ ap (λ (ks : List Shared). seat (means [] (values ks)) c.args.step) c.deref.ensures.value) c.requires.exists.0 c.requires.exists.1
    (omega (arith, c.if-i-len.true, c.len.ensures, length-values c.in-Known.kids.items, c.in-Known.kids.ok.0))
    (value-at c.in-Known.kids.items c.find-i.result.0 c.index.result.now c.deref-then-i-len.result.now (omega (arith, c.if-i-len.true, c.len.ensures, c.in-Known.kids.ok.0)) c.index.ensures c.deref-then-i-len.ensures) in
    child-count c.in-Known.target.value c.in-Known.label c.in-Known.sigma.value c.in-Known.kids.items c.deref-then-i-len-2.result.now c.args.node.now c.deref-then-i-len.result.now c.args.step c.find-i.result.0 c.find-i.result.1 c.args.new.value c.in_ok-child-in-Known.child.value
    k c.in_ok-child-in-Known.ensures.meaning c.deref-then-i-len-2.ensures.value c.requires.small

pub returns-in-Unknown-clause-meaning : goal.returns-in-Unknown-clause-meaning
returns-in-Unknown-clause-meaning g t c = put-leaf c.in-Unknown.field-0.value c.args.node.now c.args.step c.args.new.value (ap timed_of (sym c.in-Unknown.is) ∙ c.node.view_is)

pub returns-in_ok-child-in-Known-clause-meaning : goal.returns-in_ok-child-in-Known-clause-meaning
returns-in_ok-child-in-Known-clause-meaning g t c =
    let k : IsHolder c.in-Known.target.value c.in-Known.label c.in-Known.sigma.value (values c.in-Known.kids.items) c.args.node.now c.deref-then-i-len.result.now c.args.step c.find-i.result.0 c.find-i.result.1 = holder c.in-Known.target.value c.in-Known.label c.in-Known.sigma.value (values c.in-Known.kids.items) c.args.node.now c.deref-then-i-len.result.now c.args.step c.find-i.result.0 c.find-i.result.1
    (ap timed_of (sym c.in-Known.is) ∙ c.node.view_is) (c.find-i.ensures ∙ ap (λ (ks : List Shared). seat (means [] (values ks)) c.args.step) c.deref.ensures.value) c.requires.exists.0 c.requires.exists.1
    (omega (arith, c.if-i-len.true, c.len.ensures, length-values c.in-Known.kids.items, c.in-Known.kids.ok.0))
    (value-at c.in-Known.kids.items c.find-i.result.0 c.index.result.now c.deref-then-i-len.result.now (omega (arith, c.if-i-len.true, c.len.ensures, c.in-Known.kids.ok.0)) c.index.ensures c.deref-then-i-len.ensures) in
    put-ok c.in-Known.target.value c.in-Known.label c.in-Known.sigma.value c.in-Known.kids.items c.deref-then-i-len-2.result.now c.args.node.now c.deref-then-i-len.result.now c.args.step c.find-i.result.0 c.find-i.result.1 c.args.new.value c.in_ok-child-in-Known.child.value c.with_child.result
    k c.in_ok-child-in-Known.ensures.meaning c.deref-then-i-len-2.ensures.value c.with_child.ensures.meaning

pub returns-in_ok-child-in-Known-clause-cost : goal.returns-in_ok-child-in-Known-clause-cost
returns-in_ok-child-in-Known-clause-cost g t c =
    let k : IsHolder c.in-Known.target.value c.in-Known.label c.in-Known.sigma.value (values c.in-Known.kids.items) c.args.node.now c.deref-then-i-len.result.now c.args.step c.find-i.result.0 c.find-i.result.1 = holder c.in-Known.target.value c.in-Known.label c.in-Known.sigma.value (values c.in-Known.kids.items) c.args.node.now c.deref-then-i-len.result.now c.args.step c.find-i.result.0 c.find-i.result.1
    (ap timed_of (sym c.in-Known.is) ∙ c.node.view_is) (c.find-i.ensures ∙ ap (λ (ks : List Shared). seat (means [] (values ks)) c.args.step) c.deref.ensures.value) c.requires.exists.0 c.requires.exists.1
    (omega (arith, c.if-i-len.true, c.len.ensures, length-values c.in-Known.kids.items, c.in-Known.kids.ok.0))
    (value-at c.in-Known.kids.items c.find-i.result.0 c.index.result.now c.deref-then-i-len.result.now (omega (arith, c.if-i-len.true, c.len.ensures, c.in-Known.kids.ok.0)) c.index.ensures c.deref-then-i-len.ensures) in
    let d = k.child.deeper in
    omega (arith, c.put.ensures.cost, c.with_child.ensures.cost)

pub returns-else-i-len-clause-meaning : goal.returns-else-i-len-clause-meaning
returns-else-i-len-clause-meaning g t c = put-own c.in-Known.target.value c.in-Known.label c.in-Known.sigma.value (values c.in-Known.kids.items) c.args.node.now c.args.step c.find-i.result.0 c.find-i.result.1 c.args.new.value
    (ap timed_of (sym c.in-Known.is) ∙ c.node.view_is) (c.find-i.ensures ∙ ap (λ (ks : List Shared). seat (means [] (values ks)) c.args.step) c.deref.ensures.value) c.requires.exists.0 c.requires.exists.1
    (omega (arith, c.if-i-len.false, c.len.ensures, length-values c.in-Known.kids.items, c.in-Known.kids.ok.0))
