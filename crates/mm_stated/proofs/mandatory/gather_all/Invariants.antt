use Rattle.std.proofs.Common.{◌≡◌, drop, fold}
use Rattle.mm_tables.specs.Marked.{with_number}
use Rattle.mm_stated.proofs.mandatory.gather_all.Given as goal

abbrev pub invariant-loop-number : goal.invariant-loop-number
invariant-loop-number l = fold with_number l.gathered (drop l.number-index l.numbers) ≡ fold with_number l.fn.gathered l.numbers
