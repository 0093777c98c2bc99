use Rattle.std.proofs.Common.{◌≡◌, ℕ, ◌+◌, ◌≤◌, take}
use Rattle.mm_subst.specs.Brackets.{openings, closings}
use Rattle.mm_subst.proofs.brackets.Bracket.is_balanced.Given as goal

abbrev pub invariant-loop-symbol : goal.invariant-loop-symbol
invariant-loop-symbol l = record {
  opened : l.open + closings l.self (take l.symbol-index l.symbols) ≡ openings l.self (take l.symbol-index l.symbols);
  before : (k : ℕ) → k ≤ l.symbol-index → closings l.self (take k l.symbols) ≤ openings l.self (take k l.symbols);
}
