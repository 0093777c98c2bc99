use Rattle.mm_chart.specs.Charts.{no_symbol}
use Rattle.std.proofs.Common.{ℕ, drop, arith, sym, ◌∙◌, ap}
use Rattle.mm_unify.specs.Matching.{behind}
use Rattle.mm_unify.specs.Parts.{part}
use Rattle.mm_chart.proofs.Parts.{behind-same, behind-differs, behind-short}
use Rattle.mm_chart.proofs.search.end_of.Goals as goal
use Rattle.mm_chart.proofs.search.end_of.Goals.{then-end-to-via-then-end-to, then-end-to-via-else-end-to+then-not-is_same}

pub returns-then-end-to : goal.returns-then-end-to
returns-then-end-to c =
    let p = c.args.piece.now in
    let t = c.args.text.now in
    let i = c.loop-symbol.invariant in
    let k = c.loop-symbol.symbol-index in
    elim c.then-end-to.branch [
      | then-end-to-via-then-end-to w ↦ i.same ∙ ap (λ (n : ℕ). behind (drop k p) (part t n c.args.to)) w.if-end-to.true ∙ behind-short p t k c.args.to no_symbol c.loop-symbol-test.true
      | then-end-to-via-else-end-to+then-not-is_same w ↦
          let from = i.from in let within = i.within in let ordered = c.requires.ordered in let differ = w.if-end-to.false in
          i.same ∙ behind-differs p t k c.loop-symbol.end c.args.to no_symbol no_symbol c.loop-symbol-test.true (omega arith) c.requires.within (sym w.is_same.ensures ∙ w.if-not-is_same.true)
    ]

pub loop-symbol-preserved : goal.loop-symbol-preserved
loop-symbol-preserved c =
    let i = c.loop-symbol.invariant in
    let from = i.from in
    let within = i.within in
    let differ = c.if-end-to.false in
    record {
      from = omega arith;
      within = omega arith;
      same = i.same ∙ behind-same c.args.piece.now c.args.text.now c.loop-symbol.symbol-index c.loop-symbol.end c.args.to no_symbol no_symbol c.loop-symbol-test.true (omega arith) c.requires.within (sym c.is_same.ensures ∙ c.if-not-is_same.false);
    }
