use Rattle.mm_tree.specs.Keyed.{IsPlaced}
use Rattle.mm_tree.proofs.Keying.{key-more}
use Rattle.mm_tree.proofs.keyed.Keyed.add_keys.Goals as goal

pub loop-key-preserved : goal.loop-key-preserved
loop-key-preserved c = record {
  kept = λ i x h. c.add_key.ensures.kept i x (c.loop-key.invariant.kept i x h);
  done = key-more (IsPlaced c.add_key.new.self c.args.place) c.pairs-key-items.result.now c.loop-key.key-index c.loop-key-item.result c.loop-key-test.true c.loop-key-item.is
      (λ x h. c.add_key.ensures.kept c.args.place x (c.loop-key.invariant.done x h)) c.in_ok-add_key.ensures.ok;
}
