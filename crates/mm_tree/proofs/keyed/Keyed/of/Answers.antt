use Rattle.std.proofs.Common.{◌+◌, ap, subst}
use Rattle.std.proofs.lemmas.List.{take_all}
use Rattle.mm_tree.specs.Keyed.{IsKeyed}
use Rattle.mm_tree.proofs.Keying.{keyed-next}
use Rattle.mm_tree.proofs.keyed.Keyed.of.Goals as goal

pub loop-theta-preserved : goal.loop-theta-preserved
loop-theta-preserved c = record {
  place = ap (λ n. n + 1) c.loop-theta.invariant.place;
  done = keyed-next c.loop-theta.keyed c.add_keys.new.self c.args.bindings.now c.theta-item.result c.loop-theta.theta-index c.loop-theta.place c.loop-theta-test.true c.theta-item.is
      c.loop-theta.invariant.place c.add_keys.ensures.kept c.loop-theta.invariant.done c.in_ok-add_keys.ensures.ok;
}

pub returns : goal.returns
returns c = subst (IsKeyed c.loop-theta.keyed) (take_all c.loop-theta.theta-index c.args.bindings.now c.loop-theta-test.false) c.loop-theta.invariant.done
