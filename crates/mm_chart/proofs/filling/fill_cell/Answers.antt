use Rattle.std.proofs.Common.{◌<◌, ◌++◌, ◌∷◌, [], Option, arith, sym, ◌∙◌, ap, subst, length, get_or}
use Rattle.std.proofs.lemmas.List.{length-set}
use Rattle.mm_chart.specs.Charts.{Noted, Rows, IsFilled, IsNew, Settles}
use Rattle.mm_chart.proofs.Settling.{filled_more, filled_cell}
use Rattle.mm_chart.proofs.Waiting.{waiting, waiting_less}
use Rattle.mm_chart.proofs.filling.fill_cell.Goals as goal

pub loop-entry-smaller : goal.loop-entry-smaller
loop-entry-smaller c =
    let i = c.loop-entry.invariant in
    let long = i.long in
    let n : IsNew c.args.rules.now c.args.text.now c.loop-entry.rows c.args.at c.args.to c.in-Some.entry =
    subst (λ (o : Option Noted). Settles c.args.rules.now c.args.text.now c.loop-entry.rows c.args.at c.args.to o) c.in-Some.is c.in_ok-entry.ensures in
    let o = c.requires.ordered in
    let w = c.requires.within in
    subst (λ (rows : Rows). waiting c.args.rules.now rows c.args.at c.args.to < waiting c.args.rules.now c.loop-entry.rows c.args.at c.args.to) (sym c.in_ok-add.ensures)
    (waiting_less c.args.rules.now c.args.text.now c.loop-entry.rows c.args.at c.args.to c.in-Some.entry (omega arith) n)

pub loop-entry-preserved : goal.loop-entry-preserved
loop-entry-preserved c =
    let i = c.loop-entry.invariant in
    let long = i.long in
    let n : IsNew c.args.rules.now c.args.text.now c.loop-entry.rows c.args.at c.args.to c.in-Some.entry =
    subst (λ (o : Option Noted). Settles c.args.rules.now c.args.text.now c.loop-entry.rows c.args.at c.args.to o) c.in-Some.is c.in_ok-entry.ensures in
    let o = c.requires.ordered in
    let w = c.requires.within in
    record {
      long = ap (λ (rows : Rows). length rows) c.in_ok-add.ensures ∙ length-set c.loop-entry.rows c.args.at (get_or c.loop-entry.rows c.args.at [] ++ c.in-Some.entry ∷ []) ∙ long;
      filled = subst (λ (rows : Rows). IsFilled c.args.rules.now c.args.text.now rows c.args.at c.args.to) (sym c.in_ok-add.ensures)
          (filled_more c.args.rules.now c.args.text.now c.loop-entry.rows c.args.at c.args.to c.in-Some.entry (omega arith) w i.filled n);
    }

pub returns-clause-filled : goal.returns-clause-filled
returns-clause-filled c =
    filled_cell c.args.rules.now c.args.text.now c.loop-entry.rows c.args.at c.args.to c.requires.within c.loop-entry.invariant.filled
    (subst (λ (o : Option Noted). Settles c.args.rules.now c.args.text.now c.loop-entry.rows c.args.at c.args.to o) c.in_default.is c.in_ok-entry.ensures)
