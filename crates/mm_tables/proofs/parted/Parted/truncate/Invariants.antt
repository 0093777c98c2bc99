use Rattle.std.proofs.Common.{◌≡◌, ◌<◌, ◌^◌, take, length, vec_len}
use Rattle.mm_tables.specs.Numbering.{AreNumbers}
use Rattle.mm_tables.specs.Texts.{texts}
use Rattle.mm_tables.proofs.parted.Parted.truncate.Given as goal

abbrev pub invariant-loop-self : goal.invariant-loop-self
invariant-loop-self l =
    (take l.groups (texts l.self-inside.groups.items) ≡ take l.groups l.fn.self)
    × AreNumbers l.self-inside.holders (texts l.self-inside.groups.items) × (length l.self-inside.groups.items < 2 ^ 32)

abbrev pub decreases-loop-self : goal.decreases-loop-self
decreases-loop-self l = vec_len l.self-inside.groups
