-- The seats of a table that begins anew at each turn.
use Rattle.std.specs.Prelude.{ℕ, ◌≤◌, ◌<◌, ◌==◌, List, [], ◌∷◌, Option, None, Some, All, drop, slice_index_or, if◌then◌else◌}
use Rattle.mm_stack.specs.declared.values.Seat.{Seat}

-- the entry, if the seat is this turn's
abbrev pub seated_in : ℕ → Seat → Option ℕ
seated_in turn s = if s.turn == turn then Some s.entry else None

-- no seat is of a later turn, and some turn came before
pub record IsTurn (turn : ℕ) (seats : List Seat) : Type 0 where
  pub begun : 0 < turn
  pub past : All (λ s. s.turn ≤ turn) seats

-- what stands for a symbol by its entry of a stack: the entry without its typecode, or the symbol itself
abbrev pub value_by : List (List ℕ) → ℕ → Option ℕ → List ℕ
value_by stack s None = s ∷ []
value_by stack s (Some k) = drop 1 (slice_index_or stack k [])

-- what stands for a symbol by a table and a stack
abbrev pub value_in : List (Option ℕ) → List (List ℕ) → ℕ → List ℕ
value_in values stack s = value_by stack s (slice_index_or values s None)
