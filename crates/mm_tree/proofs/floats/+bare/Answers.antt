use Rattle.std.proofs.Common.{◌≡◌, ℕ, ◌+◌, ◌≤◌, ◌<◌, [], List, map, take, length, true, false, refl, ap, sym, ◌∙◌, arith}
use Rattle.std.proofs.lemmas.Bool.{true≢false}
use Rattle.mm_plain.specs.Premises.{premise_ids}
use Rattle.mm_plain.proofs.Walks.{own-kid, own-label}
use Rattle.mm_tree.specs.Floats.{bared_as, is_float_at, new_or}
use Rattle.mm_tree.specs.Meanings.{count, mean, means, known_timed, unknown_timed, text_now, sigma_now}
use Rattle.mm_tree.specs.View.{Shared, timed_of, values}
use Rattle.mm_tree.proofs.Bared.{bared-more, same-more, bared-same, bared-anew, bared-leaf, bared-float, bared-few, count-pos, new-none}
use Rattle.mm_tree.proofs.Kids.{is-known, many-means, mean-at}
use Rattle.mm_tree.proofs.Written.{counts-more, counts-all, kid-fits}
use Rattle.mm_tree.proofs.floats.+bare.Goals.{then-branch, else-branch}
use Rattle.mm_tree.proofs.floats.+bare.Goals as goal

pub returns-in_err-node-in-Known-clause-cost : goal.returns-in_err-node-in-Known-clause-cost
returns-in_err-node-in-Known-clause-cost g t c = omega (arith, c.unknown_node.ensures.cost, count-pos c.args.node.now.value)

pub returns-then-float-clause-node : goal.returns-then-float-clause-node
returns-then-float-clause-node g t c = bared-float c.args.db.now c.in-Known.target.value c.in-Known.label c.in-Known.sigma.value (values c.in-Known.kids.items) c.args.node.now.value c.in_ok-node-in-Known.node.value c.args.float (ap timed_of (sym c.in-Known.is) ∙ c.behind-node.view_is ∙ c.deref.ensures) c.if-float.true (c.in_ok-node-in-Known.ensures.node ∙ ap unknown_timed c.in_ok-clone-in-Known.ensures.cases)

pub returns-then-float-clause-cost : goal.returns-then-float-clause-cost
returns-then-float-clause-cost g t c = omega (arith, c.unknown_node.ensures.cost, count-pos c.args.node.now.value)

pub premises-premises-requires : goal.premises-premises-requires
premises-premises-requires g t c = own-label c.args.db.now (text_now [] c.in-Known.target.value) c.in-Known.label (sigma_now [] c.in-Known.sigma.value) (means [] (values c.in-Known.kids.items)) (mean c.args.node.now.value []) (is-known c.in-Known.target.value c.in-Known.label c.in-Known.sigma.value (values c.in-Known.kids.items) c.args.node.now.value (ap timed_of (sym c.in-Known.is) ∙ c.behind-node.view_is ∙ c.deref.ensures) []) c.requires.own

pub is_float_at-requires : goal.is_float_at-requires
is_float_at-requires g t c = λ k d h. (let e = c.premises-premises.ensures.earlier k d h in omega (arith, e, own-label c.args.db.now (text_now [] c.in-Known.target.value) c.in-Known.label (sigma_now [] c.in-Known.sigma.value) (means [] (values c.in-Known.kids.items)) (mean c.args.node.now.value []) (is-known c.in-Known.target.value c.in-Known.label c.in-Known.sigma.value (values c.in-Known.kids.items) c.args.node.now.value (ap timed_of (sym c.in-Known.is) ∙ c.behind-node.view_is ∙ c.deref.ensures) []) c.requires.own))

pub bare-requires : goal.bare-requires
bare-requires g t c κs within = (omega (arith, c.decreases, kid-fits c.in-Known.target.value c.in-Known.label c.in-Known.sigma.value [] c.in-Known.kids.items c.deref-kid-items.result.now c.args.node.now.value c.kid-item.result.value c.loop-kid.kid-index c.kid-item.result (ap timed_of (sym c.in-Known.is) ∙ c.behind-node.view_is ∙ c.deref.ensures) c.deref-kid-items.ensures.value c.loop-kid-test.true c.kid-item.is refl), (within, (omega (arith, c.requires.few, kid-fits c.in-Known.target.value c.in-Known.label c.in-Known.sigma.value [] c.in-Known.kids.items c.deref-kid-items.result.now c.args.node.now.value c.kid-item.result.value c.loop-kid.kid-index c.kid-item.result (ap timed_of (sym c.in-Known.is) ∙ c.behind-node.view_is ∙ c.deref.ensures) c.deref-kid-items.ensures.value c.loop-kid-test.true c.kid-item.is refl), own-kid c.args.db.now (text_now [] c.in-Known.target.value) c.in-Known.label (sigma_now [] c.in-Known.sigma.value) (means [] (values c.in-Known.kids.items)) (means [] (values c.deref-kid-items.result.now)) (mean c.args.node.now.value []) (mean c.kid-item.result.value []) c.loop-kid.kid-index (is-known c.in-Known.target.value c.in-Known.label c.in-Known.sigma.value (values c.in-Known.kids.items) c.args.node.now.value (ap timed_of (sym c.in-Known.is) ∙ c.behind-node.view_is ∙ c.deref.ensures) []) (ap (λ (ks : List Shared). means [] (values ks)) c.deref-kid-items.ensures.value) c.requires.own (omega (arith, c.loop-kid-test.true, many-means [] c.deref-kid-items.result.now)) (mean-at [] c.deref-kid-items.result.now c.loop-kid.kid-index c.kid-item.result c.kid-item.result.value c.loop-kid-test.true c.kid-item.is refl))))

pub returns-in_err-new-in-Known-clause-cost : goal.returns-in_err-new-in-Known-clause-cost
returns-in_err-new-in-Known-clause-cost g t c = omega (arith, c.bare.ensures.cost, c.loop-kid.invariant.counted, kid-fits c.in-Known.target.value c.in-Known.label c.in-Known.sigma.value [] c.in-Known.kids.items c.deref-kid-items.result.now c.args.node.now.value c.kid-item.result.value c.loop-kid.kid-index c.kid-item.result (ap timed_of (sym c.in-Known.is) ∙ c.behind-node.view_is ∙ c.deref.ensures) c.deref-kid-items.ensures.value c.loop-kid-test.true c.kid-item.is refl)

pub returns-in_err-push_new-in-Known-clause-cost : goal.returns-in_err-push_new-in-Known-clause-cost
returns-in_err-push_new-in-Known-clause-cost g t c = omega (arith, c.bare.ensures.cost, c.loop-kid.invariant.counted, kid-fits c.in-Known.target.value c.in-Known.label c.in-Known.sigma.value [] c.in-Known.kids.items c.deref-kid-items.result.now c.args.node.now.value c.kid-item.result.value c.loop-kid.kid-index c.kid-item.result (ap timed_of (sym c.in-Known.is) ∙ c.behind-node.view_is ∙ c.deref.ensures) c.deref-kid-items.ensures.value c.loop-kid-test.true c.kid-item.is refl)

pub loop-kid-preserved : goal.loop-kid-preserved
loop-kid-preserved g t c = record {
  at = ap (λ (n : ℕ). n + 1) c.loop-kid.invariant.at;
  made = bared-more c.args.db.now c.in-Known.label c.deref-kid-items.result.now c.loop-kid.kid-index c.kid-item.result c.is_float_at.result (new_or c.in_ok-new-in-Known.new c.kid-item.result.value) (values c.loop-kid.now.items) (values c.push_new.new.kids.items) c.loop-kid-test.true c.kid-item.is
      (c.is_float_at.ensures ∙ ap (λ (ids : List ℕ). is_float_at c.args.db.now ids c.loop-kid.at) c.premises-premises.ensures.ids ∙ ap (is_float_at c.args.db.now (premise_ids c.args.db.now c.in-Known.label)) c.loop-kid.invariant.at) c.in_ok-new-in-Known.ensures.node c.loop-kid.invariant.made c.in_ok-push_new-in-Known.ensures.kids;
  same = elim c.if-branch.branch [
    | then-branch w ↦ (λ e. absurd (true≢false (sym w.changed-is ∙ e)))
    | else-branch w ↦ (λ e. same-more c.args.db.now c.in-Known.label c.deref-kid-items.result.now c.loop-kid.kid-index c.kid-item.result c.is_float_at.result c.loop-kid-test.true c.kid-item.is (c.is_float_at.ensures ∙ ap (λ (ids : List ℕ). is_float_at c.args.db.now ids c.loop-kid.at) c.premises-premises.ensures.ids ∙ ap (is_float_at c.args.db.now (premise_ids c.args.db.now c.in-Known.label)) c.loop-kid.invariant.at)
        (new-none c.in_ok-new-in-Known.new c.kid-item.result.value (bared_as c.args.db.now c.is_float_at.result c.kid-item.result.value) (sym c.in_ok-push_new-in-Known.ensures.made ∙ w.if-branch.false) c.in_ok-new-in-Known.ensures.node)
        (c.loop-kid.invariant.same (sym w.changed-is ∙ e)))
  ];
  counted = omega (arith, c.bare.ensures.cost, c.loop-kid.invariant.counted, counts-more [] c.deref-kid-items.result.now c.loop-kid.kid-index c.kid-item.result c.kid-item.result.value c.loop-kid-test.true c.kid-item.is refl);
}

pub returns-then-not-changed-clause-node : goal.returns-then-not-changed-clause-node
returns-then-not-changed-clause-node g t c = bared-same c.args.db.now c.in-Known.target.value c.in-Known.label c.in-Known.sigma.value c.deref-kid-items.result.now c.args.node.now.value c.loop-kid.kid-index (ap (λ (ks : List Shared). known_timed c.in-Known.target.value c.in-Known.label c.in-Known.sigma.value (values ks)) c.deref-kid-items.ensures.value ∙ ap timed_of (sym c.in-Known.is) ∙ c.behind-node.view_is ∙ c.deref.ensures) (omega (arith, c.loop-kid-test.false)) (c.loop-kid.invariant.same c.if-not-changed.true) ∙ ap (λ b. bared_as c.args.db.now b c.args.node.now.value) (sym c.if-float.false)

pub returns-then-not-changed-clause-cost : goal.returns-then-not-changed-clause-cost
returns-then-not-changed-clause-cost g t c = omega (arith, c.loop-kid.invariant.counted, counts-all c.in-Known.target.value c.in-Known.label c.in-Known.sigma.value [] c.in-Known.kids.items c.deref-kid-items.result.now c.args.node.now.value c.loop-kid.kid-index (ap timed_of (sym c.in-Known.is) ∙ c.behind-node.view_is ∙ c.deref.ensures) c.deref-kid-items.ensures.value (omega (arith, c.loop-kid-test.false)))

pub known_over-requires : goal.known_over-requires
known_over-requires g t c = omega (arith, c.requires.few, bared-few c.args.db.now c.in-Known.target.value c.in-Known.label c.in-Known.sigma.value c.deref-kid-items.result.now c.loop-kid.now.items c.args.node.now.value c.loop-kid.kid-index (ap (λ (ks : List Shared). known_timed c.in-Known.target.value c.in-Known.label c.in-Known.sigma.value (values ks)) c.deref-kid-items.ensures.value ∙ ap timed_of (sym c.in-Known.is) ∙ c.behind-node.view_is ∙ c.deref.ensures) (omega (arith, c.loop-kid-test.false)) c.loop-kid.invariant.made)

pub returns-in_err-node-in-Known-2-clause-cost : goal.returns-in_err-node-in-Known-2-clause-cost
returns-in_err-node-in-Known-2-clause-cost g t c = omega (arith, c.known_over.ensures.cost, c.loop-kid.invariant.counted, counts-all c.in-Known.target.value c.in-Known.label c.in-Known.sigma.value [] c.in-Known.kids.items c.deref-kid-items.result.now c.args.node.now.value c.loop-kid.kid-index (ap timed_of (sym c.in-Known.is) ∙ c.behind-node.view_is ∙ c.deref.ensures) c.deref-kid-items.ensures.value (omega (arith, c.loop-kid-test.false)))

pub returns-in_ok-node-in-Known-2-clause-node : goal.returns-in_ok-node-in-Known-2-clause-node
returns-in_ok-node-in-Known-2-clause-node g t c = bared-anew c.args.db.now c.in-Known.target.value c.in-Known.label c.in-Known.sigma.value c.deref-kid-items.result.now c.args.node.now.value c.in_ok-node-in-Known-2.node.value (values c.loop-kid.now.items) c.loop-kid.kid-index (ap (λ (ks : List Shared). known_timed c.in-Known.target.value c.in-Known.label c.in-Known.sigma.value (values ks)) c.deref-kid-items.ensures.value ∙ ap timed_of (sym c.in-Known.is) ∙ c.behind-node.view_is ∙ c.deref.ensures) (omega (arith, c.loop-kid-test.false)) c.loop-kid.invariant.made c.in_ok-node-in-Known-2.ensures.node ∙ ap (λ b. bared_as c.args.db.now b c.args.node.now.value) (sym c.if-float.false)

pub returns-in_ok-node-in-Known-2-clause-cost : goal.returns-in_ok-node-in-Known-2-clause-cost
returns-in_ok-node-in-Known-2-clause-cost g t c = omega (arith, c.known_over.ensures.cost, c.loop-kid.invariant.counted, counts-all c.in-Known.target.value c.in-Known.label c.in-Known.sigma.value [] c.in-Known.kids.items c.deref-kid-items.result.now c.args.node.now.value c.loop-kid.kid-index (ap timed_of (sym c.in-Known.is) ∙ c.behind-node.view_is ∙ c.deref.ensures) c.deref-kid-items.ensures.value (omega (arith, c.loop-kid-test.false)))

pub returns-in-Unknown-clause-node : goal.returns-in-Unknown-clause-node
returns-in-Unknown-clause-node g t c = bared-leaf c.args.db.now c.in-Unknown.field-0.value c.args.node.now.value c.args.float (ap timed_of (sym c.in-Unknown.is) ∙ c.behind-node.view_is ∙ c.deref.ensures)
