use Rattle.mm_tables.proofs.Layering.{in_none}
use Rattle.mm_tables.proofs.partings.Partings.new.Goals as goal

pub invariant_of-result : goal.invariant_of-result
invariant_of-result c = rw (c.new.ensures.items, c.new-2.ensures, c.new-3.ensures, c.new-4.ensures.items) in_none
