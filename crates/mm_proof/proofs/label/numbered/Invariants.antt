use Rattle.std.proofs.Common.{◌≡◌, ◌+◌, ◌-◌, ◌≤◌, length, All}
use Rattle.mm_tokens.specs.Pieces.{tokens_in}
use Rattle.mm_proof.specs.Labels.{listed_from, numbered}
use Rattle.mm_proof.specs.Readers.{IsLabel}
use Rattle.mm_proof.proofs.label.numbered.Given as goal

abbrev pub invariant-loop-token : goal.invariant-loop-token
invariant-loop-token l = record {
  bytes : l.scanner.bytes ≡ l.proof;
  labels : All (IsLabel l.db) l.kinds.items;
  count : l.first ≤ length l.kinds.items;
  so_far : listed_from l.db l.id.0 l.proof (length l.kinds.items - l.first + 2) l.kinds.items (tokens_in l.scanner.left) ≡ numbered l.db l.id.0 l.proof (tokens_in l.initial.scanner.left);
}

abbrev pub decreases-loop-token : goal.decreases-loop-token
decreases-loop-token l = length l.scanner.left
