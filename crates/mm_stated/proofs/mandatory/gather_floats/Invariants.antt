use Rattle.std.proofs.Common.{◌≡◌, drop, fold}
use Rattle.mm_tables.specs.Marked.{with_number}
use Rattle.mm_stated.specs.Needed.{floats_of}
use Rattle.mm_stated.proofs.mandatory.gather_floats.Given as goal

abbrev pub invariant-loop-symbol : goal.invariant-loop-symbol
invariant-loop-symbol l =
    fold with_number l.gathered (floats_of l.table (drop l.symbol-index l.symbols)) ≡ fold with_number l.fn.gathered (floats_of l.table l.symbols)
