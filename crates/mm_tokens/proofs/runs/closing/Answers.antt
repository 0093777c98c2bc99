use Rattle.std.proofs.Common.{arith, sym, ◌∙◌}
use Rattle.mm_tokens.specs.Runs.{is_closing}
use Rattle.mm_tokens.proofs.Places.{fails_more, fails_further}
use Rattle.mm_tokens.proofs.runs.closing.Goals as goal

pub loop-place-preserved : goal.loop-place-preserved
loop-place-preserved c =
    let test = is_closing c.args.bytes.now in
    record {
      low = omega (arith, c.loop-place.invariant.low, c.in-Some.ensures.low);
      within = omega (arith, c.in-Some.ensures.within);
      none = fails_more test c.args.from c.in-Some.place
          (fails_further test c.args.from c.loop-place.at c.in-Some.place c.loop-place.invariant.none c.in-Some.ensures.before)
          (sym c.closes.ensures ∙ c.if-closes.false);
    }
