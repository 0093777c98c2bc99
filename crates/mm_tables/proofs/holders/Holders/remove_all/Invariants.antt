use Rattle.std.proofs.Common.{◌≡◌, ℕ, length, filter, take, nat_eq}
use Rattle.mm_tables.specs.Numbering.{numbers_of, shorter}
use Rattle.mm_tables.proofs.holders.Holders.remove_all.Given as goal

abbrev pub invariant-loop-variable : goal.invariant-loop-variable
invariant-loop-variable l =
    (n : ℕ) → numbers_of l.self n ≡ shorter (length (filter (nat_eq n) (take l.variable-index l.group))) (numbers_of l.fn.self n)
