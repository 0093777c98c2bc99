use Rattle.std.proofs.Common.{◌≡◌, false, take}
use Rattle.std.specs.List.{list_any}
use Rattle.mm_plain.specs.Occurring.{holds}
use Rattle.mm_tree.specs.Lines.{values_now}
use Rattle.mm_tree.proofs.occurring.has_value_with.Given as goal

abbrev pub invariant-loop-value : goal.invariant-loop-value
invariant-loop-value l = list_any (λ p. holds l.number p.1) (values_now l.line l.sigma.birth (take l.value-index l.value-items)) ≡ false
