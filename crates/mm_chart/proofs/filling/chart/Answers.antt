use Rattle.std.proofs.Common.{◌-◌, [], List, suc, arith, ◌∙◌, ap, length, refl}
use Rattle.std.proofs.lemmas.List.{length-replicate}
use Rattle.mm_chart.specs.Charts.{Noted, Rows}
use Rattle.mm_chart.proofs.Settling.{filled_start, filled_row, filled_all}
use Rattle.mm_chart.proofs.filling.chart.Goals as goal

pub loop-at-init : goal.loop-at-init
loop-at-init c = record {
  able = λ k d l. absurd (omega (arith, l, ap length c.new-known.ensures.items));
  within = omega arith;
  long = ap (λ (rows : Rows). length rows) c.in_ok-rows.ensures ∙ length-replicate {A = List Noted} (length c.args.text.now) [];
  filled = filled_start c.args.rules.now c.args.text.now c.in_ok-rows.rows c.in_ok-rows.ensures;
}

pub fill_next_row-requires-clause-filled : goal.fill_next_row-requires-clause-filled
fill_next_row-requires-clause-filled c =
    let p = c.loop-at-test.true in
    filled_row c.args.rules.now c.args.text.now c.loop-at.rows (c.loop-at.at - 1) c.loop-at.at (suc (length c.args.text.now)) (omega arith) refl c.loop-at.invariant.filled

pub returns-clause-answers : goal.returns-clause-answers
returns-clause-answers c =
    let p = c.loop-at-test.false in
    filled_all c.args.rules.now c.args.text.now c.loop-at.rows c.loop-at.at (omega arith) c.loop-at.invariant.filled
