use Rattle.std.proofs.Common.{◌≡◌, ◌+◌, ◌<◌, ◌≤◌, [], List, min, ap, sym, ◌∙◌, arith}
use Rattle.mm_plain.proofs.Walks.{own-kid, own-label}
use Rattle.mm_tree.specs.Meanings.{mean, means, text_now, sigma_now}
use Rattle.mm_tree.specs.View.{Shared, timed_of, values}
use Rattle.mm_tree.proofs.Kids.{is-known, many-means, mean-at}
use Rattle.mm_tree.proofs.Renewed.{draws-all, draws-more, draws-unknown}
use Rattle.mm_tree.proofs.Written.{kid-fits}
use Rattle.mm_tree.proofs.renewal.+draws_within.Goals as goal

pub loop-kid-init : goal.loop-kid-init
loop-kid-init t c = omega arith

pub draws_within-requires : goal.draws_within-requires
draws_within-requires t c = (
  omega (arith, c.decreases, kid-fits c.in-Known.field-0.value c.in-Known.label c.in-Known.field-2.value [] c.in-Known.kids.items c.deref-kid-items.result.now c.args.node.now c.deref.result.now c.loop-kid.kid-index c.kid-item.result (ap timed_of (sym c.in-Known.is) ∙ c.node.view_is) c.deref-kid-items.ensures.value c.loop-kid-test.true c.kid-item.is c.deref.ensures),
  own-kid c.args.db.now (text_now [] c.in-Known.field-0.value) c.in-Known.label (sigma_now [] c.in-Known.field-2.value) (means [] (values c.in-Known.kids.items)) (means [] (values c.deref-kid-items.result.now)) (mean c.args.node.now []) (mean c.deref.result.now []) c.loop-kid.kid-index (is-known c.in-Known.field-0.value c.in-Known.label c.in-Known.field-2.value (values c.in-Known.kids.items) c.args.node.now (ap timed_of (sym c.in-Known.is) ∙ c.node.view_is) [])
      (ap (λ (ks : List Shared). means [] (values ks)) c.deref-kid-items.ensures.value) c.requires (omega (arith, c.loop-kid-test.true, many-means [] c.deref-kid-items.result.now))
      (mean-at [] c.deref-kid-items.result.now c.loop-kid.kid-index c.kid-item.result c.deref.result.now c.loop-kid-test.true c.kid-item.is c.deref.ensures),
)

pub loop-kid-preserved : goal.loop-kid-preserved
loop-kid-preserved t c = draws-more c.args.db.now c.deref-kid-items.result.now c.loop-kid.kid-index c.loop-kid.needed c.draws_within.result c.sum_within-needed.result c.args.bound c.kid-item.result c.deref.result.now c.loop-kid-test.true c.kid-item.is c.deref.ensures
    c.loop-kid.invariant c.draws_within.ensures (omega (arith, c.sum_within-needed.ensures, c.from.ensures))

pub count_variables-own-requires : goal.count_variables-own-requires
count_variables-own-requires t c = own-label c.args.db.now (text_now [] c.in-Known.field-0.value) c.in-Known.label (sigma_now [] c.in-Known.field-2.value) (means [] (values c.in-Known.kids.items)) (mean c.args.node.now []) (is-known c.in-Known.field-0.value c.in-Known.label c.in-Known.field-2.value (values c.in-Known.kids.items) c.args.node.now (ap timed_of (sym c.in-Known.is) ∙ c.node.view_is) []) c.requires

pub returns-after-loop-kid : goal.returns-after-loop-kid
returns-after-loop-kid t c = draws-all c.args.db.now c.in-Known.field-0.value c.in-Known.label c.in-Known.field-2.value c.in-Known.kids.items c.deref-kid-items.result.now c.args.node.now c.loop-kid.kid-index c.loop-kid.needed c.count_variables-own.result c.sum_within.result c.args.bound (ap timed_of (sym c.in-Known.is) ∙ c.node.view_is) c.deref-kid-items.ensures.value
    (omega (arith, c.loop-kid-test.false)) c.loop-kid.invariant c.count_variables-own.ensures (omega (arith, c.sum_within.ensures))

pub returns-in-Unknown : goal.returns-in-Unknown
returns-in-Unknown t c = omega (arith, draws-unknown c.args.db.now c.in-Unknown.field-0.value c.args.node.now (ap timed_of (sym c.in-Unknown.is) ∙ c.node.view_is))
