use Rattle.std.proofs.Common.{sym, ◌∙◌, arith}
use Rattle.mm_subst.proofs.Replaced.{applied-nil, one_more}
use Rattle.mm_unify.proofs.waiting.replaced.Goals as goal

pub loop-symbol-init : goal.loop-symbol-init
loop-symbol-init c = c.new-out.ensures.items ∙ sym (applied-nil _)

pub loop-symbol-preserved : goal.loop-symbol-preserved
loop-symbol-preserved c = one_more _ c.args.s.now c.loop-symbol.symbol-index _ c.loop-symbol.out.items c.value.result.now _ (omega arith) c.loop-symbol.invariant c.value.ensures c.in_ok-extend_from_slice.ensures.items
