use Rattle.std.proofs.Common.{◌≡◌, ◌≤◌, ◌+◌, [], ◌∷◌, take, length, ap, sym, ◌∙◌, arith}
use Rattle.mm_plain.specs.declared.plain.Plain.{Plain}
use Rattle.mm_tree.specs.Falls.{count-unknown}
use Rattle.mm_tree.specs.Meanings.{count, mean, means, known_timed, unknown_timed, text_now, sigma_now}
use Rattle.mm_tree.specs.View.{timed_of, values}
use Rattle.mm_tree.specs.Written.{written}
use Rattle.mm_tree.specs.declared.timed.Text.{Text}
use Rattle.mm_tree.specs.declared.timed.Values.{Values}
use Rattle.mm_tree.proofs.Keeping.{values-append}
use Rattle.mm_tree.proofs.Made.{if-ok}
use Rattle.mm_tree.proofs.Written.{written-more, counts-more, counts-all, counts-made, kid-fits, known-written, unknown-written}
use Rattle.mm_tree.proofs.writing.+write_out.Goals as goal

pub returns-in_err-write_out-in-Known-clause-cost : goal.returns-in_err-write_out-in-Known-clause-cost
returns-in_err-write_out-in-Known-clause-cost g t c = omega (arith, c.write_out.ensures.cost, c.loop-kid.invariant.counted, kid-fits c.in-Known.target.value c.in-Known.label c.in-Known.sigma.value c.args.line.now c.in-Known.kids.items c.deref-kid-items.result.now c.args.node.now c.deref-in-loop-kid.result.now c.loop-kid.kid-index c.kid-item.result (ap timed_of (sym c.in-Known.is) ∙ c.node.view_is) c.deref-kid-items.ensures.value c.loop-kid-test.true c.kid-item.is c.deref-in-loop-kid.ensures)

pub returns-in_err-push-in-Known-clause-cost : goal.returns-in_err-push-in-Known-clause-cost
returns-in_err-push-in-Known-clause-cost g t c = omega (arith, c.write_out.ensures.cost, c.loop-kid.invariant.counted, kid-fits c.in-Known.target.value c.in-Known.label c.in-Known.sigma.value c.args.line.now c.in-Known.kids.items c.deref-kid-items.result.now c.args.node.now c.deref-in-loop-kid.result.now c.loop-kid.kid-index c.kid-item.result (ap timed_of (sym c.in-Known.is) ∙ c.node.view_is) c.deref-kid-items.ensures.value c.loop-kid-test.true c.kid-item.is c.deref-in-loop-kid.ensures)

pub loop-kid-preserved : goal.loop-kid-preserved
loop-kid-preserved g t c = record {
  made = written-more c.args.birth c.args.line.now c.deref-kid-items.result.now c.loop-kid.kid-index c.kid-item.result c.deref-in-loop-kid.result.now c.in_ok-write_out-in-Known.field-0.value (values c.loop-kid.nodes.items) (values c.push.new.self.items)
      c.loop-kid-test.true c.kid-item.is c.deref-in-loop-kid.ensures c.in_ok-write_out-in-Known.ensures.node c.loop-kid.invariant.made
      (ap values c.in_ok-push-in-Known.ensures.items ∙ values-append c.loop-kid.nodes.items (c.in_ok-write_out-in-Known.field-0 ∷ []));
  counted = omega (arith, c.write_out.ensures.cost, c.loop-kid.invariant.counted, counts-more c.args.line.now c.deref-kid-items.result.now c.loop-kid.kid-index c.kid-item.result c.deref-in-loop-kid.result.now c.loop-kid-test.true c.kid-item.is c.deref-in-loop-kid.ensures);
}

pub known_anew-requires : goal.known_anew-requires
known_anew-requires g t c = omega (
  arith,
  c.requires,
  counts-made c.args.birth (take c.loop-kid.kid-index (means c.args.line.now (values c.deref-kid-items.result.now))) c.loop-kid.nodes.items c.loop-kid.invariant.made,
  counts-all c.in-Known.target.value c.in-Known.label c.in-Known.sigma.value c.args.line.now c.in-Known.kids.items c.deref-kid-items.result.now c.args.node.now c.loop-kid.kid-index (ap timed_of (sym c.in-Known.is) ∙ c.node.view_is) c.deref-kid-items.ensures.value (omega (arith, c.loop-kid-test.false)),
)

pub returns-in_ok-target-in-Unknown-clause-node : goal.returns-in_ok-target-in-Unknown-clause-node
returns-in_ok-target-in-Unknown-clause-node g t c = if-ok c.unknown_node.result _ _
    (λ r e. unknown-written c.args.birth c.args.line.now c.in-Unknown.target.value c.args.node.now r.value (ap timed_of (sym c.in-Unknown.is) ∙ c.node.view_is)
    (e ∙ ap unknown_timed c.in_ok-target-in-Unknown.ensures ∙ ap (λ (u : Text). unknown_timed (record { birth = c.args.birth; string = text_now c.args.line.now u })) c.deref.ensures)) c.unknown_node.ensures.node

pub returns-in_ok-target-in-Unknown-clause-cost : goal.returns-in_ok-target-in-Unknown-clause-cost
returns-in_ok-target-in-Unknown-clause-cost g t c = omega (arith, c.unknown_node.ensures.cost, ap count (ap timed_of (sym c.in-Unknown.is) ∙ c.node.view_is), count-unknown c.in-Unknown.target.value)

pub returns-after-loop-kid-clause-node : goal.returns-after-loop-kid-clause-node
returns-after-loop-kid-clause-node g t c =
    let line = c.args.line.now in
    if-ok c.known_anew.result _ _
    (λ r e. known-written c.args.birth line c.in-Known.target.value c.in-Known.label c.in-Known.sigma.value c.in-Known.kids.items c.deref-kid-items.result.now c.loop-kid.nodes.items c.args.node.now r.value c.loop-kid.kid-index
    (ap timed_of (sym c.in-Known.is) ∙ c.node.view_is) c.deref-kid-items.ensures.value (omega (arith, c.loop-kid-test.false)) c.loop-kid.invariant.made
    (e ∙ ap (λ (u : Text). known_timed (record { birth = c.args.birth; string = text_now line u }) c.in-Known.label (record { birth = c.args.birth; pairs = sigma_now line c.deref-in-Known-2.result.now }) (values c.loop-kid.nodes.items)) c.deref-in-Known.ensures
    ∙ ap (λ (v : Values). known_timed (record { birth = c.args.birth; string = text_now line c.in-Known.target.value }) c.in-Known.label (record { birth = c.args.birth; pairs = sigma_now line v }) (values c.loop-kid.nodes.items)) c.deref-in-Known-2.ensures)) c.known_anew.ensures.node

pub returns-after-loop-kid-clause-cost : goal.returns-after-loop-kid-clause-cost
returns-after-loop-kid-clause-cost g t c = omega (arith, c.known_anew.ensures.cost, c.loop-kid.invariant.counted, counts-all c.in-Known.target.value c.in-Known.label c.in-Known.sigma.value c.args.line.now c.in-Known.kids.items c.deref-kid-items.result.now c.args.node.now c.loop-kid.kid-index (ap timed_of (sym c.in-Known.is) ∙ c.node.view_is) c.deref-kid-items.ensures.value (omega (arith, c.loop-kid-test.false)))
