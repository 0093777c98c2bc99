use Rattle.std.proofs.Common.{◌≡◌, length}
use Rattle.std.specs.List.{list_any}
use Rattle.mm_tables.specs.Texts.{texts}
use Rattle.mm_tables.specs.Distinct.{holds_both}
use Rattle.mm_tables.specs.Parting.{groups_of, AreBelow}
use Rattle.mm_tables.proofs.Layering.{left_of}
use Rattle.mm_tables.proofs.groups.Groups.is_shared.Given as goal

abbrev pub invariant-loop-rest : goal.invariant-loop-rest
invariant-loop-rest l = record {
  below : AreBelow (length l.groups) (left_of l.rest);
  same : list_any (holds_both l.u l.v) (groups_of (texts l.groups) (left_of l.rest)) ≡ list_any (holds_both l.u l.v) l.self;
}

abbrev pub decreases-loop-rest : goal.decreases-loop-rest
decreases-loop-rest l = length (left_of l.rest)
