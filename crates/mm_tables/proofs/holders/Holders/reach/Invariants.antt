use Rattle.std.proofs.Common.{◌≡◌, ◌+◌, ◌-◌, ℕ, vec_len}
use Rattle.mm_tables.specs.Numbering.{numbers_of}
use Rattle.mm_tables.specs.Texts.{texts}
use Rattle.mm_tables.proofs.holders.Holders.reach.Given as goal

abbrev pub invariant-loop-alloc : goal.invariant-loop-alloc
invariant-loop-alloc l = (n : ℕ) → numbers_of (texts l.self-inside.numbers.items) n ≡ numbers_of l.fn.self n

abbrev pub decreases-loop-alloc : goal.decreases-loop-alloc
decreases-loop-alloc l = (l.variable + 1) - vec_len l.self-inside.numbers
