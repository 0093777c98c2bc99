-- Where a proof is searched for, as the code has it.
use Rattle.std.specs.Prelude.{ℕ, List}
use Rattle.mm_improve.specs.declared.database.Search.{Search}
use Rattle.mm_improve.specs.Assertions.{Terms}

abbrev pub terms : List ℕ → Search → Terms
terms bytes s = record { bytes = bytes; at = s.at.0; no_distinct = s.no_distinct; rule = s.rule }
