use Rattle.std.proofs.Common.{arith}
use Rattle.mm_tree.proofs.Bindings.{key-is-new, one-pair-more}
use Rattle.mm_tree.proofs.sources.values_now.Goals as goal

pub put-requires : goal.put-requires
put-requires c = key-is-new c.args.line.now c.args.sigma.now.birth c.pairs-key-items.result.now c.loop-key.now c.loop-key.key-index c.loop-key-item.result (omega arith) c.loop-key-item.is
    (rw c.pairs-key-items.ensures.pairs c.pairs-key-items.ensures.distinct) c.loop-key.invariant

pub loop-key-preserved : goal.loop-key-preserved
loop-key-preserved c = one-pair-more c.args.line.now c.args.sigma.now.birth c.pairs-key-items.result.now c.loop-key.now c.put.new.self c.loop-key.key-index c.loop-key-item.result c.in_ok-value.value (omega arith) c.loop-key-item.is
    c.loop-key.invariant c.in_ok-value.ensures c.in_ok-put.ensures.ok
