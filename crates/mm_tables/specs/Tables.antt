-- Calls of a symbol table.
use Rattle.std.specs.Prelude.{ℕ, true, false, List, [], ◌∷◌, ◌++◌, Option, None, Some, length, position, slice_set, slice_index_or}
use Rattle.std.specs.Str.{bytes_eq}
use Rattle.mm_tables.specs.Standings.{Standings}
use Rattle.mm_tables.specs.declared.table.Standing.{Standing}
use Rattle.mm_tables.specs.declared.table.Found.{Found}

abbrev pub nothing : Standing
nothing = record { constant = false; active = false; floated = false; float = 0 }

abbrev pub found_by : Standings → Option ℕ → Found
found_by t None = record { number = length t.texts; known = false; standing = nothing }
found_by t (Some n) = record { number = n; known = true; standing = slice_index_or t.standings n nothing }

abbrev pub found_in : Standings → List ℕ → Found
found_in t text = found_by t (position (bytes_eq text) t.texts)

abbrev pub with_symbol : Standings → List ℕ → Standing → Standings
with_symbol t text s = record { texts = t.texts ++ text ∷ []; standings = t.standings ++ s ∷ [] }

abbrev pub with_state : Standings → ℕ → Standing → Standings
with_state t n s = record t { standings = slice_set t.standings n s }

abbrev pub standing_at : Standings → ℕ → Standing
standing_at t n = slice_index_or t.standings n nothing
