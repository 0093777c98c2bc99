use Rattle.std.proofs.Common.{◌≡◌, ◌==◌, drop}
use Rattle.std.specs.List.{list_all, list_any}
use Rattle.mm_improve.proofs.database.all_occur.Given as goal

abbrev pub invariant-loop-variable : goal.invariant-loop-variable
invariant-loop-variable l =
    list_all (λ v. list_any (λ n. v == n) l.symbols) l.variables ≡ list_all (λ v. list_any (λ n. v == n) l.symbols) (drop l.variable-index l.variables)
