use Rattle.std.proofs.Common.{◌≡◌, ◌+◌, map, take}
use Rattle.mm_proof.specs.Numbered.{number_in, IsTable}
use Rattle.mm_proof.proofs.listing.own_numbers.Given as goal

abbrev pub invariant-loop-id : goal.invariant-loop-id
invariant-loop-id l = record {
  next : l.next ≡ l.id-index + 1;
  table : IsTable (number_in l.known) (map (λ n. n + 1) (take l.id-index l.mandatory));
}
