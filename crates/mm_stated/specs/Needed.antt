-- The mandatory hypotheses of an assertion by the table of symbols and the active `$e`.
use Rattle.std.specs.Prelude.{ℕ, ◌==◌, nat_lt, List, [], ◌∷◌, ◌++◌, Option, None, Some, filter_map, flat_map, if◌then◌else◌}
use Rattle.mm_tables.specs.Standings.{Standings}
use Rattle.mm_tables.specs.Tables.{standing_at}
use Rattle.mm_tables.specs.declared.table.Standing.{Standing}
use Rattle.mm_stated.specs.Mandatory.{statement_at}
use Rattle.mm_stated.specs.Stated.{Stated}

-- a number put among rising ones, unless it is there
unfoldable pub put_in : ℕ → List ℕ → List ℕ
put_in n [] = n ∷ []
put_in n (m ∷ ms) = if nat_lt n m then n ∷ m ∷ ms else (if n == m then m ∷ ms else m ∷ put_in n ms)

-- the numbers, each once, rising
unfoldable pub rising : List ℕ → List ℕ
rising [] = []
rising (n ∷ ns) = put_in n (rising ns)

-- the id of the active `$f` of a symbol
abbrev pub float_of : Standing → Option ℕ
float_of s = if s.floated then Some s.float else None

-- the ids of the active `$f` of symbols
abbrev pub floats_of : Standings → List ℕ → List ℕ
floats_of table symbols = filter_map (λ n. float_of (standing_at table n)) symbols

-- the active `$e`, and the active `$f` of the symbols of an assertion and of those of its `$e`
abbrev pub candidates : Standings → List Stated → List ℕ → List ℕ → List ℕ
candidates table statements essentials symbols =
    essentials ++ floats_of table (symbols ++ flat_map (λ id. (statement_at statements id).symbols) essentials)

-- the ids of the mandatory hypotheses of an assertion with these symbols, where these `$e` are active
unfoldable pub needed_by : Standings → List Stated → List ℕ → List ℕ → List ℕ
needed_by table statements essentials symbols = rising (candidates table statements essentials symbols)
