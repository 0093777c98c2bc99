use Rattle.std.proofs.Common.{◌≤◌, Err, length, subst, ap, arith}
use Rattle.std.proofs.lemmas.List.Elements.{All-push}
use Rattle.std.proofs.lemmas.Result.{err_from_is_err_and}
use Rattle.mm_subst.specs.Applied.{AreApplied, most_symbols}
use Rattle.mm_subst.specs.Substitutions.{with_values}
use Rattle.mm_subst.proofs.PairByPair.{next_is_new, one_pair_more, one_fails}
use Rattle.mm_subst.proofs.values.apply_to_values.Goals as goal

pub returns-in_err-value : goal.returns-in_err-value
returns-in_err-value c =
    let p = err_from_is_err_and c.from_residual.result c.from_residual.ensures.1 in
    rw (p.1, p.2) (subst (λ ps. AreApplied (Err c.in_err-value.field-0.0) (with_values c.args.theta.now ps)) c.pairs-key-items.ensures.pairs
    (one_fails c.args.theta.now c.pairs-key-items.result.now c.loop-key.key-index c.loop-key-item.result c.in_err-value.field-0.0 (omega arith) c.loop-key-item.is c.in_err-value.ensures))

pub put-requires : goal.put-requires
put-requires c =
    next_is_new c.args.theta.now c.pairs-key-items.result.now c.loop-key.out c.loop-key.key-index c.loop-key-item.result (omega arith) c.loop-key-item.is
    (rw c.pairs-key-items.ensures.pairs c.pairs-key-items.ensures.distinct) c.loop-key.invariant.so_far

pub loop-key-preserved : goal.loop-key-preserved
loop-key-preserved c = record {
  so_far = one_pair_more c.args.theta.now c.pairs-key-items.result.now c.loop-key.out c.put.new.self c.loop-key.key-index c.loop-key-item.result c.in_ok-value.value (omega arith) c.loop-key-item.is
      c.loop-key.invariant.so_far c.in_ok-value.ensures.0 c.in_ok-put.ensures.ok;
  fit = rw c.in_ok-put.ensures.ok (
      All-push (λ p. length p.1 ≤ most_symbols) c.loop-key.out (c.loop-key-item.result.0, c.in_ok-value.value) c.loop-key.invariant.fit
      (omega (arith, ap length c.in_ok-value.ensures.0, c.in_ok-value.ensures.1)));
}
