-- The entries of a stack: the results of steps, which stand in one buffer of symbols.
use Rattle.std.specs.Prelude.{◌≤◌, ◌<◌, ℕ, List, [], length, map, slice_range, slice_index_or}
use Rattle.std.specs.List.{AllByRecursion}
use Rattle.mm_stack.specs.declared.stack.Part.{Part}

-- the symbols of a part of the buffer
abbrev pub symbols_of : List ℕ → Part → List ℕ
symbols_of buffer p = slice_range buffer p.start p.end

abbrev pub results_in : List ℕ → List Part → List (List ℕ)
results_in buffer parts = map (symbols_of buffer) parts

-- the result with a number, counted from 0; no symbols where there is none
abbrev pub result_at : List (List ℕ) → ℕ → List ℕ
result_at results n = slice_index_or results n []

-- the entries that are results with these numbers
abbrev pub entries_in : List (List ℕ) → List ℕ → List (List ℕ)
entries_in results numbers = map (result_at results) numbers

abbrev pub IsPart : ℕ → Part → Type 0
IsPart n p = (p.start ≤ p.end) × (p.end ≤ n)

-- each result is a part of the buffer, and each entry is a result
pub record AreKept (buffer : List ℕ) (parts : List Part) (numbers : List ℕ) : Type 0 where
  pub own_parts : AllByRecursion (IsPart (length buffer)) parts
  pub own_numbers : AllByRecursion (λ n. n < length parts) numbers
