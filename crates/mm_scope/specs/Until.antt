-- Until when hypotheses are active. Of each labelled statement it is noted before which statement's id the block of a
-- hypothesis ended, nothing while the hypothesis is active, and 0 for an assertion, which is never active.
use Rattle.std.specs.Prelude.{ℕ, Bool, true, ◌&&◌, List, Option, None, Some, is_none, slice_set, slice_index_or, nat_lt}

abbrev pub until_at : List (Option ℕ) → ℕ → Option ℕ
until_at until id = slice_index_or until id (Some 0)

abbrev pub is_before : ℕ → Option ℕ → Bool
is_before at None = true
is_before at (Some end) = nat_lt at end

-- whether the hypothesis is active at a statement
abbrev pub is_active_by : List (Option ℕ) → ℕ → ℕ → Bool
is_active_by until id at = nat_lt id at && is_before at (until_at until id)

-- whether the hypothesis is active now
abbrev pub is_open : List (Option ℕ) → ℕ → Bool
is_open until id = is_none (until_at until id)

-- a hypothesis that ends before the next statement
abbrev pub ended_before : ℕ → List (Option ℕ) → ℕ → List (Option ℕ)
ended_before next until id = slice_set until id (Some next)
