use Rattle.std.proofs.Common.{◌≡◌, ◌==◌, drop}
use Rattle.std.specs.List.{list_any}
use Rattle.mm_improve.proofs.database.occurs.Given as goal

abbrev pub invariant-loop-symbol : goal.invariant-loop-symbol
invariant-loop-symbol l = list_any (λ n. l.variable == n) l.symbols ≡ list_any (λ n. l.variable == n) (drop l.symbol-index l.symbols)
