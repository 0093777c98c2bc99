use Rattle.std.proofs.Common.{◌≡◌, ◌++◌, ℕ, take}
use Rattle.mm_tables.specs.Numbering.{numbers_of, copies}
use Rattle.mm_tables.proofs.holders.Holders.add_all.Given as goal

abbrev pub invariant-loop-place : goal.invariant-loop-place
invariant-loop-place l = (n : ℕ) → numbers_of l.self n ≡ numbers_of l.fn.self n ++ copies l.number (take l.place l.group) n
