use Rattle.std.proofs.Common.{refl}
use Rattle.mm_tables.proofs.Chains.{no_chains, no_trail}
use Rattle.mm_tables.proofs.layers.Layers.new.Goals as goal

pub invariant_of-result : goal.invariant_of-result
invariant_of-result c = rw (c.new.ensures.items, c.new-2.ensures.items, c.new-3.ensures.items) no_chains

pub returns : goal.returns
returns c = rw (no_trail c.new.result.items, c.new-2.ensures.items, c.new-3.ensures.items) refl
