-- What a step that names a statement needs.
use Rattle.std.specs.Prelude.{ℕ, Bool, ◌==◌, List, [], map, nat_lt, if◌then◌else◌}
use Rattle.std.specs.List.{list_any}
use Rattle.mm_scope.specs.Contents.{statements_of, stated_at, active_at}
use Rattle.mm_stated.specs.Mandatory.{variables_of}
use Rattle.mm_stated.specs.Stated.{is_hypothesis}
use Rattle.mm_subst.specs.Statements.{statement_of}
use Rattle.mm_subst.specs.declared.symbol.WSym.{WSym}

-- the ids of the mandatory hypotheses of an assertion, in order; a hypothesis has none
unfoldable pub premise_ids : List ℕ → ℕ → List ℕ
premise_ids bytes id =
    if is_hypothesis (stated_at bytes id).kind then []
    else (stated_at bytes id).mandatory

-- and their strings
unfoldable pub premises_of : List ℕ → ℕ → List (List WSym)
premises_of bytes id =
    if is_hypothesis (stated_at bytes id).kind then []
    else map (statement_of bytes) (stated_at bytes id).mandatory

-- the mandatory variables of an assertion, which are those of its mandatory `$f`; a hypothesis has none
unfoldable pub variables_for : List ℕ → ℕ → List ℕ
variables_for bytes id =
    if is_hypothesis (stated_at bytes id).kind then []
    else variables_of (statements_of bytes) (stated_at bytes id).mandatory

-- whether a step of the proof of a theorem may name a statement: a hypothesis that is active for the theorem, or an earlier assertion
unfoldable pub may_stand : List ℕ → ℕ → ℕ → Bool
may_stand bytes at id =
    if is_hypothesis (stated_at bytes id).kind then list_any (λ n. id == n) (active_at bytes at)
    else nat_lt id at
