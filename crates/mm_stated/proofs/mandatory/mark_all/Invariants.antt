use Rattle.std.proofs.Common.{◌≡◌, ℕ, ◌||◌, take, nat_eq}
use Rattle.std.specs.List.{list_any}
use Rattle.mm_tables.specs.Marked.{is_marked}
use Rattle.mm_stated.proofs.mandatory.mark_all.Given as goal

abbrev pub invariant-loop-number : goal.invariant-loop-number
invariant-loop-number l = (n : ℕ) → is_marked l.marks n ≡ (is_marked l.fn.marks n || list_any (nat_eq n) (take l.number-index l.numbers))
