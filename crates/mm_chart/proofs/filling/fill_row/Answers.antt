use Rattle.std.proofs.Common.{arith, ◌∙◌}
use Rattle.mm_chart.proofs.Idle.{filled_skip}
use Rattle.mm_chart.proofs.filling.fill_row.Goals as goal

pub loop-end-init : goal.loop-end-init
loop-end-init c =
    let n = c.next_cell-end.ensures in
    let later = n.later in
    let most = n.most in
    record {
      later = n.later;
      most = n.most;
      long = c.requires.rows;
      filled = filled_skip c.args.rules.now c.args.text.now c.args.rows.now c.args.at c.args.at c.next_cell-end.result n.later (omega arith) n.idle c.requires.filled;
    }

pub loop-end-preserved : goal.loop-end-preserved
loop-end-preserved c =
    let i = c.loop-end.invariant in
    let n = c.next_cell-end-in-loop-end.ensures in
    let later = n.later in
    let before = i.later in
    let most = n.most in
    record {
      later = omega arith;
      most = n.most;
      long = c.in_ok-fill_cell.ensures.long ∙ i.long;
      filled = filled_skip c.args.rules.now c.args.text.now c.fill_cell.new.rows c.args.at c.loop-end.end c.next_cell-end-in-loop-end.result n.later (omega arith) n.idle c.in_ok-fill_cell.ensures.filled;
    }
