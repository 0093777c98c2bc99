use Rattle.std.proofs.Common.{◌≡◌, ◌+◌, ◌<◌, [], ℕ, List, length, ap, sym, ◌∙◌, arith}
use Rattle.mm_plain.specs.Floats.{has_float_among}
use Rattle.mm_plain.specs.Premises.{premise_ids}
use Rattle.mm_plain.proofs.Walks.{own-kid, own-label}
use Rattle.mm_tree.specs.Meanings.{count, mean, means, text_now, sigma_now}
use Rattle.mm_tree.specs.View.{Shared, timed_of, values}
use Rattle.mm_tree.proofs.Floating.{float-unknown, float-early, float-more, float-end}
use Rattle.mm_tree.proofs.Kids.{is-known, is-unknown, many-means, mean-at}
use Rattle.mm_tree.proofs.Written.{kid-fits}
use Rattle.mm_tree.proofs.floats.+has_float.Goals as goal

pub has_float-requires : goal.has_float-requires
has_float-requires t c = (
  omega (arith, c.decreases, kid-fits c.in-Known.field-0.value c.in-Known.label c.in-Known.field-2.value [] c.in-Known.kids.items c.deref-kid-items.result.now c.args.node.now c.deref.result.now c.loop-kid.kid-index c.kid-item.result (ap timed_of (sym c.in-Known.is) ∙ c.node.view_is) c.deref-kid-items.ensures.value c.loop-kid-test.true c.kid-item.is c.deref.ensures),
  own-kid c.args.db.now (text_now [] c.in-Known.field-0.value) c.in-Known.label (sigma_now [] c.in-Known.field-2.value) (means [] (values c.in-Known.kids.items)) (means [] (values c.deref-kid-items.result.now)) (mean c.args.node.now []) (mean c.deref.result.now []) c.loop-kid.kid-index (is-known c.in-Known.field-0.value c.in-Known.label c.in-Known.field-2.value (values c.in-Known.kids.items) c.args.node.now (ap timed_of (sym c.in-Known.is) ∙ c.node.view_is) []) (ap (λ (ks : List Shared). means [] (values ks)) c.deref-kid-items.ensures.value) c.requires (omega (arith, c.loop-kid-test.true, many-means [] c.deref-kid-items.result.now)) (mean-at [] c.deref-kid-items.result.now c.loop-kid.kid-index c.kid-item.result c.deref.result.now c.loop-kid-test.true c.kid-item.is c.deref.ensures),
)

pub returns-then-has_float : goal.returns-then-has_float
returns-then-has_float t c = λ line. float-early c.args.db.now (text_now line c.in-Known.field-0.value) c.in-Known.label (sigma_now line c.in-Known.field-2.value) (means line (values c.in-Known.kids.items)) (means line (values c.deref-kid-items.result.now)) (mean c.args.node.now line) (mean c.deref.result.now line) c.loop-kid.kid-index (is-known c.in-Known.field-0.value c.in-Known.label c.in-Known.field-2.value (values c.in-Known.kids.items) c.args.node.now (ap timed_of (sym c.in-Known.is) ∙ c.node.view_is) line) (ap (λ (ks : List Shared). means line (values ks)) c.deref-kid-items.ensures.value) (omega (arith, c.loop-kid-test.true, many-means line c.deref-kid-items.result.now)) (mean-at line c.deref-kid-items.result.now c.loop-kid.kid-index c.kid-item.result c.deref.result.now c.loop-kid-test.true c.kid-item.is c.deref.ensures) (sym (c.has_float.ensures line) ∙ c.if-has_float.true)

pub loop-kid-preserved : goal.loop-kid-preserved
loop-kid-preserved t c = λ line. float-more c.args.db.now (means line (values c.deref-kid-items.result.now)) c.loop-kid.kid-index (mean c.deref.result.now line) (omega (arith, c.loop-kid-test.true, many-means line c.deref-kid-items.result.now)) (mean-at line c.deref-kid-items.result.now c.loop-kid.kid-index c.kid-item.result c.deref.result.now c.loop-kid-test.true c.kid-item.is c.deref.ensures) (c.loop-kid.invariant line) (sym (c.has_float.ensures line) ∙ c.if-has_float.false)

pub premises-requires : goal.premises-requires
premises-requires t c = own-label c.args.db.now (text_now [] c.in-Known.field-0.value) c.in-Known.label (sigma_now [] c.in-Known.field-2.value) (means [] (values c.in-Known.kids.items)) (mean c.args.node.now []) (is-known c.in-Known.field-0.value c.in-Known.label c.in-Known.field-2.value (values c.in-Known.kids.items) c.args.node.now (ap timed_of (sym c.in-Known.is) ∙ c.node.view_is) []) c.requires

pub has_float_among-requires : goal.has_float_among-requires
has_float_among-requires t c = λ k d h. (let e = c.premises.ensures.earlier k d h in omega (arith, e, own-label c.args.db.now (text_now [] c.in-Known.field-0.value) c.in-Known.label (sigma_now [] c.in-Known.field-2.value) (means [] (values c.in-Known.kids.items)) (mean c.args.node.now []) (is-known c.in-Known.field-0.value c.in-Known.label c.in-Known.field-2.value (values c.in-Known.kids.items) c.args.node.now (ap timed_of (sym c.in-Known.is) ∙ c.node.view_is) []) c.requires))

pub returns-after-loop-kid : goal.returns-after-loop-kid
returns-after-loop-kid t c = λ line.
    c.has_float_among.ensures line
    ∙ ap (λ (ids : List ℕ). has_float_among c.args.db.now ids (means line (values c.deref-in-Known.result.now))) c.premises.ensures.ids
    ∙ ap (λ (ks : List Shared). has_float_among c.args.db.now (premise_ids c.args.db.now c.in-Known.label) (means line (values ks))) c.deref-in-Known.ensures.value
    ∙ float-end c.args.db.now (text_now line c.in-Known.field-0.value) c.in-Known.label (sigma_now line c.in-Known.field-2.value) (means line (values c.in-Known.kids.items)) (means line (values c.deref-kid-items.result.now)) (mean c.args.node.now line) c.loop-kid.kid-index (is-known c.in-Known.field-0.value c.in-Known.label c.in-Known.field-2.value (values c.in-Known.kids.items) c.args.node.now (ap timed_of (sym c.in-Known.is) ∙ c.node.view_is) line) (ap (λ (ks : List Shared). means line (values ks)) c.deref-kid-items.ensures.value) (omega (arith, c.loop-kid-test.false, many-means line c.deref-kid-items.result.now)) (c.loop-kid.invariant line)

pub returns-in-Unknown : goal.returns-in-Unknown
returns-in-Unknown t c = λ line. float-unknown c.args.db.now (text_now line c.in-Unknown.field-0.value) (mean c.args.node.now line) (is-unknown c.in-Unknown.field-0.value c.args.node.now (ap timed_of (sym c.in-Unknown.is) ∙ c.node.view_is) line)
