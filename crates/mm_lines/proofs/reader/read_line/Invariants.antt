use Rattle.std.proofs.Common.{◌≡◌, ◌≤◌, ◌-◌, ◌||◌, IsTrue, nat_le}
use Rattle.std.specs.List.{list_any}
use Rattle.mm_lines.specs.Parts.{is_lf}
use Rattle.mm_lines.proofs.ReadingLemmas.{Reading}
use Rattle.mm_lines.proofs.reader.read_line.Given as goal

abbrev pub invariant-loop-chunk : goal.invariant-loop-chunk
invariant-loop-chunk g l = record {
  reading : Reading g.S.Source l.fn.chunk l.fn.begun l.fn.taken l.fn.source l.chunk l.begun l.taken l.source;
  most : l.taken ≤ 4294967296;
  faults : g.S.Source.faults l.source ≡ g.S.Source.faults l.fn.source;
  -- where the source isn't asked, this is the first turn
  silent : IsTrue (list_any is_lf l.fn.chunk || nat_le 4294967296 l.fn.taken) → (l.source ≡ l.fn.source) × (l.chunk ≡ l.fn.chunk) × (l.taken ≡ l.fn.taken);
}

abbrev pub decreases-loop-chunk : goal.decreases-loop-chunk
decreases-loop-chunk g l = 4294967296 - l.taken
