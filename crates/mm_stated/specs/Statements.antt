-- What is kept of a labelled statement, without where it lies in memory.
use Rattle.mm_stated.specs.Stated.{Stated}
use Rattle.mm_stated.specs.declared.statement.Statement.{Statement}

abbrev pub stated : Statement → Stated
stated s = record {
  kind = s.kind;
  symbols = s.symbols.items;
  mandatory = s.mandatory.items;
  pairs = s.pairs.items;
  from = s.from;
  to = s.to;
  described = s.described;
}
