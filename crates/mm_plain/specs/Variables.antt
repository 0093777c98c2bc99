-- The variables of the `$f` among statements.
use Rattle.std.specs.Prelude.{ℕ, List, filter_map}
use Rattle.mm_scope.specs.Contents.{stated_at}
use Rattle.mm_stated.specs.Stated.{variable_of}

abbrev pub variables_among : List ℕ → List ℕ → List ℕ
variables_among bytes ids = filter_map (λ id. variable_of (stated_at bytes id)) ids
