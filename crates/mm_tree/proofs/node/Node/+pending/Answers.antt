use Rattle.std.proofs.Common.{◌≡◌, ◌<◌, ◌≤◌, ◌∷◌, [], ◌++◌, List, length, true, false, ap, sym, ◌∙◌, append_assoc, arith}
use Rattle.std.proofs.lemmas.List.{append-nil}
use Rattle.std.proofs.lemmas.List.Sums.{sum_by_more}
use Rattle.mm_plain.specs.Shape.{size_of}
use Rattle.mm_plain.specs.Sources.{is_pending}
use Rattle.mm_plain.proofs.Walks.{kid-below, own-kid, own-label, numbers-so-far, numbers-walked, none-pending}
use Rattle.mm_tree.specs.Meanings.{count, mean, means, text_now, sigma_now}
use Rattle.mm_tree.specs.View.{Shared, timed_of, values}
use Rattle.mm_tree.proofs.Shapes.{size_of-mean}
use Rattle.mm_tree.proofs.Kids.{is-known, is-unknown, many-means, mean-at, pending-by}
use Rattle.mm_tree.proofs.node.Node.+pending.Goals as goal

pub pending-requires : goal.pending-requires
pending-requires t c =
    let is = is-known c.in-Known.target.value c.in-Known.label c.in-Known.sigma.value (values c.in-Known.kids.items) c.args.self.now (ap timed_of (sym c.in-Known.is) ∙ c.self.view_is) c.args.line.now in
    let same = ap (λ (ks : List Shared). means c.args.line.now (values ks)) c.deref-kid-items.ensures.value in
    let h : c.loop-kid.kid-index < length (means c.args.line.now (values c.deref-kid-items.result.now)) = omega (arith, c.loop-kid-test.true, many-means c.args.line.now c.deref-kid-items.result.now) in
    let at = mean-at c.args.line.now c.deref-kid-items.result.now c.loop-kid.kid-index c.kid-item.result c.deref.result.now c.loop-kid-test.true c.kid-item.is c.deref.ensures in
    let below = kid-below (text_now c.args.line.now c.in-Known.target.value) c.in-Known.label (sigma_now c.args.line.now c.in-Known.sigma.value) (means c.args.line.now (values c.in-Known.kids.items)) (means c.args.line.now (values c.deref-kid-items.result.now)) (mean c.args.self.now c.args.line.now) (mean c.deref.result.now c.args.line.now) c.loop-kid.kid-index is same h at in (
      omega (arith, c.decreases, below, size_of-mean c.args.line.now c.deref.result.now, size_of-mean c.args.line.now c.args.self.now),
      (
        omega (arith, c.requires.few, c.loop-kid.invariant.number, below, size_of-mean c.args.line.now c.deref.result.now, size_of-mean c.args.line.now c.args.self.now),
        own-kid c.args.db.now (text_now c.args.line.now c.in-Known.target.value) c.in-Known.label (sigma_now c.args.line.now c.in-Known.sigma.value) (means c.args.line.now (values c.in-Known.kids.items)) (means c.args.line.now (values c.deref-kid-items.result.now)) (mean c.args.self.now c.args.line.now) (mean c.deref.result.now c.args.line.now) c.loop-kid.kid-index is same c.requires.own h at,
      ),
    )

pub overflow_add-next : goal.overflow_add-next
overflow_add-next t c =
    let is = is-known c.in-Known.target.value c.in-Known.label c.in-Known.sigma.value (values c.in-Known.kids.items) c.args.self.now (ap timed_of (sym c.in-Known.is) ∙ c.self.view_is) c.args.line.now in
    let same = ap (λ (ks : List Shared). means c.args.line.now (values ks)) c.deref-kid-items.ensures.value in
    let h : c.loop-kid.kid-index < length (means c.args.line.now (values c.deref-kid-items.result.now)) = omega (arith, c.loop-kid-test.true, many-means c.args.line.now c.deref-kid-items.result.now) in
    let at = mean-at c.args.line.now c.deref-kid-items.result.now c.loop-kid.kid-index c.kid-item.result c.deref.result.now c.loop-kid-test.true c.kid-item.is c.deref.ensures in
    let below = kid-below (text_now c.args.line.now c.in-Known.target.value) c.in-Known.label (sigma_now c.args.line.now c.in-Known.sigma.value) (means c.args.line.now (values c.in-Known.kids.items)) (means c.args.line.now (values c.deref-kid-items.result.now)) (mean c.args.self.now c.args.line.now) (mean c.deref.result.now c.args.line.now) c.loop-kid.kid-index is same h at in
    omega (arith, c.requires.few, c.loop-kid.invariant.number, below, c.size.ensures, ap count (c.deref-in-loop-kid.ensures ∙ sym c.deref.ensures), size_of-mean c.args.line.now c.deref.result.now, size_of-mean c.args.line.now c.args.self.now)

pub loop-kid-preserved : goal.loop-kid-preserved
loop-kid-preserved t c =
    let h : c.loop-kid.kid-index < length (means c.args.line.now (values c.deref-kid-items.result.now)) = omega (arith, c.loop-kid-test.true, many-means c.args.line.now c.deref-kid-items.result.now) in
    let at = mean-at c.args.line.now c.deref-kid-items.result.now c.loop-kid.kid-index c.kid-item.result c.deref.result.now c.loop-kid-test.true c.kid-item.is c.deref.ensures in
    let items = means c.args.line.now (values c.deref-kid-items.result.now) in
    record {
      number = omega (arith, sum_by_more size_of items c.loop-kid.kid-index (mean c.deref.result.now c.args.line.now) h, ap size_of at, c.loop-kid.invariant.number, c.size.ensures, ap count (c.deref-in-loop-kid.ensures ∙ sym c.deref.ensures), size_of-mean c.args.line.now c.deref.result.now);
      so_far = numbers-so-far (is_pending c.args.db.now) items c.loop-kid.kid-index c.args.first c.loop-kid.next (mean c.deref.result.now c.args.line.now) c.args.into.now.items c.loop-kid.into.items c.pending.new.into.items
          h at c.loop-kid.invariant.number c.loop-kid.invariant.so_far c.in_ok-pending.ensures;
    }

pub fits-requires : goal.fits-requires
fits-requires t c =
    let is = is-known c.in-Known.target.value c.in-Known.label c.in-Known.sigma.value (values c.in-Known.kids.items) c.args.self.now (ap timed_of (sym c.in-Known.is) ∙ c.self.view_is) c.args.line.now in
    let same = ap (λ (ks : List Shared). means c.args.line.now (values ks)) c.deref-kid-items.ensures.value in
    own-label c.args.db.now (text_now c.args.line.now c.in-Known.target.value) c.in-Known.label (sigma_now c.args.line.now c.in-Known.sigma.value) (means c.args.line.now (values c.in-Known.kids.items)) (mean c.args.self.now c.args.line.now) is c.requires.own

pub returns-in_ok-push : goal.returns-in_ok-push
returns-in_ok-push t c =
    let is = is-known c.in-Known.target.value c.in-Known.label c.in-Known.sigma.value (values c.in-Known.kids.items) c.args.self.now (ap timed_of (sym c.in-Known.is) ∙ c.self.view_is) c.args.line.now in
    let same = ap (λ (ks : List Shared). means c.args.line.now (values ks)) c.deref-kid-items.ensures.value in
    let all : length (means c.args.line.now (values c.deref-kid-items.result.now)) ≤ c.loop-kid.kid-index = omega (arith, c.loop-kid-test.false, many-means c.args.line.now c.deref-kid-items.result.now) in
    let test : is_pending c.args.db.now (mean c.args.self.now c.args.line.now) ≡ true = pending-by c.args.db.now c.args.line.now c.in-Known.target.value c.deref-in-Known.result.now c.in-Known.label c.in-Known.sigma.value c.deref-in-Known-2.result.now
    (values c.in-Known.kids.items) c.args.self.now c.in_ok-fits.field-0 false (ap timed_of (sym c.in-Known.is) ∙ c.self.view_is) c.deref-in-Known.ensures c.deref-in-Known-2.ensures c.in_ok-fits.ensures c.if-not-branch.true in
    c.in_ok-push.ensures.items
    ∙ ap (λ z. z ++ (c.loop-kid.next ∷ [])) c.loop-kid.invariant.so_far
    ∙ append_assoc c.args.into.now.items _ (c.loop-kid.next ∷ [])
    ∙ ap (λ z. c.args.into.now.items ++ z) (sym (numbers-walked (is_pending c.args.db.now) true (text_now c.args.line.now c.in-Known.target.value) c.in-Known.label (sigma_now c.args.line.now c.in-Known.sigma.value) (means c.args.line.now (values c.in-Known.kids.items)) (means c.args.line.now (values c.deref-kid-items.result.now)) (mean c.args.self.now c.args.line.now)
    c.loop-kid.kid-index c.args.first c.loop-kid.next is same all c.loop-kid.invariant.number test))

pub returns-else-not-branch : goal.returns-else-not-branch
returns-else-not-branch t c =
    let is = is-known c.in-Known.target.value c.in-Known.label c.in-Known.sigma.value (values c.in-Known.kids.items) c.args.self.now (ap timed_of (sym c.in-Known.is) ∙ c.self.view_is) c.args.line.now in
    let same = ap (λ (ks : List Shared). means c.args.line.now (values ks)) c.deref-kid-items.ensures.value in
    let all : length (means c.args.line.now (values c.deref-kid-items.result.now)) ≤ c.loop-kid.kid-index = omega (arith, c.loop-kid-test.false, many-means c.args.line.now c.deref-kid-items.result.now) in
    let test : is_pending c.args.db.now (mean c.args.self.now c.args.line.now) ≡ false = pending-by c.args.db.now c.args.line.now c.in-Known.target.value c.deref-in-Known.result.now c.in-Known.label c.in-Known.sigma.value c.deref-in-Known-2.result.now
    (values c.in-Known.kids.items) c.args.self.now c.in_ok-fits.field-0 true (ap timed_of (sym c.in-Known.is) ∙ c.self.view_is) c.deref-in-Known.ensures c.deref-in-Known-2.ensures c.in_ok-fits.ensures c.if-not-branch.false in
    c.loop-kid.invariant.so_far
    ∙ ap (λ z. c.args.into.now.items ++ z) (sym (numbers-walked (is_pending c.args.db.now) false (text_now c.args.line.now c.in-Known.target.value) c.in-Known.label (sigma_now c.args.line.now c.in-Known.sigma.value) (means c.args.line.now (values c.in-Known.kids.items)) (means c.args.line.now (values c.deref-kid-items.result.now)) (mean c.args.self.now c.args.line.now)
    c.loop-kid.kid-index c.args.first c.loop-kid.next is same all c.loop-kid.invariant.number test ∙ append-nil _))

pub returns-in_default : goal.returns-in_default
returns-in_default t c =
    sym (append-nil c.args.into.now.items)
    ∙ ap (λ z. c.args.into.now.items ++ z) (sym (none-pending c.args.db.now (text_now c.args.line.now c.in_default.field-0.value) (mean c.args.self.now c.args.line.now) c.args.first
    (is-unknown c.in_default.field-0.value c.args.self.now (ap timed_of (sym c.in_default.is) ∙ c.self.view_is) c.args.line.now)))
