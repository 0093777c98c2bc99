use Rattle.mm_chart.proofs.Symbols.{same-true, eq-same}
use Rattle.std.proofs.Common.{◌≡◌, ◌<◌, ◌+◌, ◌∷◌, ℕ, List, arith, sym, ◌∙◌, ap, subst, length, inl, inr}
use Rattle.mm_chart.specs.declared.grammar.Item.{Item}
use Rattle.mm_chart.specs.declared.grammar.Item.TheVariants.{Fixed}
use Rattle.mm_chart.specs.Charts.{Nowhere}
use Rattle.mm_chart.proofs.Idle.{nowhere_end, nowhere_after, nowhere_on, nowhere_off, tried_more, tried_all}
use Rattle.mm_chart.proofs.reach.+reach.Goals as goal
use Rattle.mm_chart.proofs.reach.+reach.Goals.{reach-else-at-text-via-then-at-text+else-is_same, reach-else-at-text-via-else-at-text}

pub reach-returns-then-last-at-clause-nowhere : goal.reach-returns-then-last-at-clause-nowhere
reach-returns-then-last-at-clause-nowhere t c = nowhere_end c.args.text.now c.args.rows.now c.args.items.now c.args.at c.args.last c.args.at c.in_default.ensures.cases (λ l. omega arith)

pub reach-returns-else-last-at-clause-nowhere : goal.reach-returns-else-last-at-clause-nowhere
reach-returns-else-last-at-clause-nowhere t c =
    let h = c.if-last-at.false in
    nowhere_end c.args.text.now c.args.rows.now c.args.items.now c.args.at c.args.last c.args.none c.in_default.ensures.cases (λ l. omega arith)

pub reach-returns-then-is_same-clause-nowhere : goal.reach-returns-then-is_same-clause-nowhere
reach-returns-then-is_same-clause-nowhere t c =
    let e : c.args.items.now ≡ Fixed c.in-Fixed.symbol ∷ c.in-Some.rest.now = c.in-Some.ensures.cases.0 ∙ ap (λ (x : Item). x ∷ c.in-Some.rest.now) c.in-Fixed.is in
    subst (λ (xs : List Item). Nowhere c.args.text.now c.args.rows.now xs c.args.at c.args.last c.reach.result) (sym e)
    (nowhere_on c.args.text.now c.args.rows.now c.in-Some.rest.now c.in-Fixed.symbol c.args.at c.args.last c.reach.result c.if-at-text.true (same-true _ c.in-Fixed.symbol (sym c.is_same.ensures ∙ c.if-is_same.true)) c.reach.ensures.nowhere)

pub reach-returns-else-at-text-clause-nowhere : goal.reach-returns-else-at-text-clause-nowhere
reach-returns-else-at-text-clause-nowhere t c =
    let e : c.args.items.now ≡ Fixed c.in-Fixed.symbol ∷ c.in-Some.rest.now = c.in-Some.ensures.cases.0 ∙ ap (λ (x : Item). x ∷ c.in-Some.rest.now) c.in-Fixed.is in
    subst (λ (xs : List Item). Nowhere c.args.text.now c.args.rows.now xs c.args.at c.args.last c.args.none) (sym e)
    (nowhere_off c.args.text.now c.args.rows.now c.in-Some.rest.now c.in-Fixed.symbol c.args.at c.args.last c.args.none (elim c.else-at-text.branch [
      | reach-else-at-text-via-then-at-text+else-is_same w ↦ λ l q. let e = eq-same _ c.in-Fixed.symbol q in let n = sym w.is_same.ensures ∙ w.if-is_same.false in cc
      | reach-else-at-text-via-else-at-text w ↦ λ l q. let z = w.if-at-text.false in omega arith
    ]))

pub reach-returns-in-Again-clause-nowhere : goal.reach-returns-in-Again-clause-nowhere
reach-returns-in-Again-clause-nowhere t c = nowhere_after c.args.text.now c.args.rows.now c.args.items.now c.args.at c.args.last (c.args.last + 1) (omega arith)

pub reach_on-loop-next-preserved : goal.reach_on-loop-next-preserved
reach_on-loop-next-preserved t c =
    let i = c.loop-next.invariant in
    let n = c.in-Some.ensures in
    let from = i.from in
    let later = n.later in
    let within = n.within in
    record {
      from = omega arith;
      within = n.within;
      later = elim c.lesser_of-end.ensures.either [ inl e ↦ subst (λ (k : ℕ). c.args.last < k) (sym e) i.later | inr e ↦ subst (λ (k : ℕ). c.args.last < k) (sym e) c.reach.ensures.later ];
      tried = tried_more c.args.text.now c.args.rows.now c.args.rest.now c.args.code c.args.at c.args.last c.loop-next.place c.in-Some.next c.in-Some.field-0-1 (length c.args.text.now) c.loop-next.end c.reach.result c.lesser_of-end.result n c.lesser_of-end.ensures.first c.lesser_of-end.ensures.second c.reach.ensures.nowhere i.tried;
    }

pub reach_on-returns-clause-nowhere : goal.reach_on-returns-clause-nowhere
reach_on-returns-clause-nowhere t c = tried_all c.args.text.now c.args.rows.now c.args.rest.now c.args.code c.args.at c.args.last c.loop-next.place c.loop-next.end c.in_default.ensures c.loop-next.invariant.tried
