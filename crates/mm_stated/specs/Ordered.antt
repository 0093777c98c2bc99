-- Variables in the order of their `$f`.
use Rattle.std.specs.Prelude.{ℕ, not, ◌&&◌, ◌==◌, List, ◌++◌, filter}
use Rattle.std.specs.List.{list_any, range_with_len}

-- the variables of the active `$f` in order, and then the other active ones by number
abbrev pub ordered_variables : List ℕ → List ℕ → ℕ → List ℕ
ordered_variables floated active count =
    floated
    ++ filter (λ n. list_any (λ m. n == m) active && not (list_any (λ m. n == m) floated)) (range_with_len 0 count)
