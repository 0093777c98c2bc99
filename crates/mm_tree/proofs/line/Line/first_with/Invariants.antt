use Rattle.std.proofs.Common.{◌≡◌, ◌≤◌, None, length}
use Rattle.mm_subst.specs.declared.symbol.WSym.TheVariants.{Work}
use Rattle.mm_tree.specs.Keyed.{value_in}
use Rattle.mm_tree.proofs.Readings.{IsLeast}
use Rattle.mm_tree.proofs.line.Line.first_with.Given as goal

abbrev pub invariant-loop-place : goal.invariant-loop-place
invariant-loop-place l = record {
  reached : l.from ≤ l.first;
  found : value_in l.self l.first (Work l.number) ≡ None → length l.self ≤ l.first;
  least : IsLeast l.self l.number l.place-items l.place-index l.from l.first;
}
