use Rattle.std.proofs.Common.{◌≡◌, take}
use Rattle.mm_tables.specs.Texts.{texts}
use Rattle.mm_tables.specs.Parting.{groups_of}
use Rattle.mm_tables.proofs.groups.Groups.to_parted.Given as goal

abbrev pub invariant-loop-number : goal.invariant-loop-number
invariant-loop-number l = l.parted ≡ groups_of (texts l.groups) (take l.number-index l.number-items)
