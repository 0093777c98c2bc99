use Rattle.std.proofs.Common.{[], ◌++◌, List, ap, sym, ◌∙◌, arith}
use Rattle.mm_plain.specs.Numbers.{labels_in}
use Rattle.mm_plain.proofs.Walks.{labels-walked, labels_in-unknown}
use Rattle.mm_tree.specs.Meanings.{mean, means, text_now, sigma_now}
use Rattle.mm_tree.specs.View.{Shared, timed_of, values}
use Rattle.mm_tree.proofs.Kids.{labels-more, is-known, is-unknown, many-means}
use Rattle.mm_tree.proofs.node.Node.+labels.Goals as goal

pub loop-kid-preserved : goal.loop-kid-preserved
loop-kid-preserved t c = labels-more c.deref-kid-items.result.now c.loop-kid.kid-index c.kid-item.result c.deref.result.now c.args.into.now.items c.loop-kid.into.items c.labels.new.into.items
    c.loop-kid-test.true c.kid-item.is c.deref.ensures c.loop-kid.invariant c.in_ok-labels-in-Known.ensures

pub returns-in_ok-push-in-Known : goal.returns-in_ok-push-in-Known
returns-in_ok-push-in-Known t c =
    labels-walked (text_now [] c.in-Known.field-0.value) c.in-Known.label (sigma_now [] c.in-Known.field-2.value) (means [] (values c.in-Known.kids.items)) (means [] (values c.deref-kid-items.result.now)) (mean c.args.self.now []) c.loop-kid.kid-index
    c.args.into.now.items c.loop-kid.into.items c.push.new.self.items
    (is-known c.in-Known.field-0.value c.in-Known.label c.in-Known.field-2.value (values c.in-Known.kids.items) c.args.self.now (ap timed_of (sym c.in-Known.is) ∙ c.self.view_is) [])
    (ap (λ (ks : List Shared). means [] (values ks)) c.deref-kid-items.ensures.value) (omega (arith, c.loop-kid-test.false, many-means [] c.deref-kid-items.result.now)) c.loop-kid.invariant c.in_ok-push-in-Known.ensures.items

pub returns-in_ok-push-in-Unknown : goal.returns-in_ok-push-in-Unknown
returns-in_ok-push-in-Unknown t c =
    c.in_ok-push-in-Unknown.ensures.items
    ∙ ap (λ n. c.args.into.now.items ++ n) (sym (labels_in-unknown (text_now [] c.in-Unknown.field-0.value)) ∙ ap labels_in (is-unknown c.in-Unknown.field-0.value c.args.self.now (ap timed_of (sym c.in-Unknown.is) ∙ c.self.view_is) []))
