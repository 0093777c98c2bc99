use Rattle.std.proofs.Common.{◌+◌, length, ap, sym, ◌∙◌, arith, lt-ltb, le-ltb}
use Rattle.std.proofs.lemmas.List.{take_all}
use Rattle.mm_subst.specs.Applied.{most_symbols}
use Rattle.mm_subst.specs.Statements.{statement_of}
use Rattle.mm_subst.specs.Substitutions.{applied}
use Rattle.mm_tree.proofs.Longs.{source_size, source-more, source-none, source-part, source-whole}
use Rattle.mm_tree.proofs.lengths.is_long_source.Goals as goal

pub loop-number-init : goal.loop-number-init
loop-number-init c = omega (arith, source-none c.args.theta.now c.args.sigma.now c.args.db.now)

pub returns-in_default : goal.returns-in_default
returns-in_default c =
    let ns = c.as_slice-number-items.result.now in
    sym (lt-ltb most_symbols (length (applied c.args.theta.now (applied c.args.sigma.now (statement_of c.args.db.now c.args.id.0)))) (omega (
      arith,
      c.loop-number.invariant,
      c.in_default.ensures,
      source-more c.args.theta.now c.args.sigma.now c.args.db.now ns c.loop-number.number-index 0 _ _ c.loop-number-test.true c.own_symbol-symbol.ensures c.value.ensures,
      source-part c.args.theta.now c.args.sigma.now c.args.db.now ns (c.loop-number.number-index + 1),
      source-whole c.args.theta.now c.args.sigma.now c.args.db.now ns c.args.id.0 (c.as_slice-number-items.ensures ∙ c.frame-frame.ensures.conclusion),
    )))

pub loop-number-preserved : goal.loop-number-preserved
loop-number-preserved c = omega (
  arith,
  c.loop-number.invariant,
  c.in-Some.ensures,
  source-more c.args.theta.now c.args.sigma.now c.args.db.now c.as_slice-number-items.result.now c.loop-number.number-index 0 _ _ c.loop-number-test.true c.own_symbol-symbol.ensures c.value.ensures,
)

pub returns : goal.returns
returns c =
    let ns = c.as_slice-number-items.result.now in
    sym (le-ltb most_symbols (length (applied c.args.theta.now (applied c.args.sigma.now (statement_of c.args.db.now c.args.id.0)))) (omega (
      arith,
      c.loop-number.invariant,
      ap (source_size c.args.theta.now c.args.sigma.now c.args.db.now) (take_all c.loop-number.number-index ns c.loop-number-test.false),
      source-whole c.args.theta.now c.args.sigma.now c.args.db.now ns c.args.id.0 (c.as_slice-number-items.ensures ∙ c.frame-frame.ensures.conclusion),
    )))
