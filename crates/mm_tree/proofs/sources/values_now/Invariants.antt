use Rattle.std.proofs.Common.{◌≡◌, take}
use Rattle.mm_tree.specs.Lines.{values_now}
use Rattle.mm_tree.proofs.sources.values_now.Given as goal

abbrev pub invariant-loop-key : goal.invariant-loop-key
invariant-loop-key l = l.now ≡ values_now l.line l.sigma.birth (take l.key-index l.key-items)
