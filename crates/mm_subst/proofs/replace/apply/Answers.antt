use Rattle.std.proofs.Common.{length, sym, ◌∙◌, ap, arith, length-append}
use Rattle.mm_subst.specs.Substitutions.{applied}
use Rattle.mm_subst.proofs.Replaced.{applied-nil, one_more, too_long}
use Rattle.mm_subst.proofs.replace.apply.Goals as goal
use Rattle.mm_scope.specs.Steps.{most_symbols}

pub loop-symbol-init : goal.loop-symbol-init
loop-symbol-init c = record {
  so_far = c.new-out.ensures.items ∙ sym (applied-nil c.args.theta.now);
  fits = omega (arith, ap length c.new-out.ensures.items);
}

pub returns-then-value-len : goal.returns-then-value-len
returns-then-value-len c =
    let big = too_long c.args.theta.now c.symbols-symbol-items.result.now c.loop-symbol.symbol-index _ c.loop-symbol.out.items c.value-value.result.now most_symbols (omega arith) c.loop-symbol.invariant.so_far c.value-value.ensures (omega arith) in
    omega (arith, ap (λ s. length (applied c.args.theta.now s)) c.symbols-symbol-items.ensures)

pub loop-symbol-preserved : goal.loop-symbol-preserved
loop-symbol-preserved c = record {
  so_far = one_more c.args.theta.now c.symbols-symbol-items.result.now c.loop-symbol.symbol-index _ c.loop-symbol.out.items c.value-value.result.now _ (omega arith) c.loop-symbol.invariant.so_far c.value-value.ensures c.in_ok-extend_from_slice.ensures.items;
  fits = omega (arith, ap length c.in_ok-extend_from_slice.ensures.items, length-append c.loop-symbol.out.items c.value-value.result.now);
}
