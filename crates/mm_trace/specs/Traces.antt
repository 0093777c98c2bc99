-- The uses of all statements of a database, as a trace keeps them.
use Rattle.std.specs.Prelude.{◌==◌, ◌&&◌, ◌||◌, ℕ, Bool, false, List, [], ◌∷◌, get_or, length, map, slice_index_or}
use Rattle.std.specs.List.{list_any, range_with_len}
use Rattle.mm_scope.specs.Contents.{labels_of}
use Rattle.mm_tables.specs.Marked.{with_number}
use Rattle.mm_trace.specs.Uses.{applied, depends_by, some_below}

-- numbers, each once, where they come first, behind those that are there
unfoldable pub once_behind : List ℕ → List ℕ → List ℕ
once_behind ns [] = ns
once_behind ns (m ∷ ms) = once_behind (with_number ns m) ms

-- the assertions that a statement uses, each once
unfoldable pub used : List ℕ → ℕ → List ℕ
used bytes id = once_behind [] (applied bytes id)

-- those of each statement of a database, in order
unfoldable pub trace_of : List ℕ → List (List ℕ)
trace_of bytes = map (used bytes) (range_with_len 0 (length (labels_of bytes)))

-- whether a statement uses an assertion, by a trace
abbrev pub uses_in : List (List ℕ) → ℕ → ℕ → Bool
uses_in trace id on = list_any (λ m. m == on) (slice_index_or trace id [])

-- whether a statement depends on another, by a trace
abbrev pub depends_in : List (List ℕ) → ℕ → ℕ → Bool
depends_in trace id on = depends_by (uses_in trace) id on

-- whether a statement is marked, or depends on a marked one
abbrev pub rests_on_marked : List (List ℕ) → List Bool → ℕ → Bool
rests_on_marked trace marks id = get_or marks id false || some_below id (λ m. get_or marks m false && depends_in trace id m)

-- whether a statement is marked, or a marked one depends on it
abbrev pub bears_marked : List (List ℕ) → List Bool → ℕ → Bool
bears_marked trace marks id = get_or marks id false || some_below (length trace) (λ m. get_or marks m false && depends_in trace m id)
