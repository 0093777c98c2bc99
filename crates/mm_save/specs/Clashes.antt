-- The variables that a proof puts together though they must differ (Metamath book, section 4.2.2).
use Rattle.std.specs.Prelude.{◌≡◌, ℕ, ◌+◌, false, List, [], ◌∷◌, ◌++◌, is_none, if◌then◌else◌}
use Rattle.std.specs.List.{flat_map}
use Rattle.mm_tables.specs.Distinct.{are_distinct}
use Rattle.mm_tables.specs.Marked.{with_number}
use Rattle.mm_subst.specs.Substitutions.{Pairs, value_at, value_of}
use Rattle.mm_subst.specs.declared.symbol.WSym.{WSym}
use Rattle.mm_subst.specs.declared.symbol.WSym.TheVariants.{Var}
use Rattle.mm_plain.specs.declared.plain.Plain.{Plain}
use Rattle.mm_plain.specs.Shape.{steps_of}
use Rattle.mm_plain.specs.Sources.{label_of, sigma_of}
use Rattle.mm_sound.specs.Apart.{variables_in, pairs_by}
use Rattle.mm_save.specs.declared.clash.Clash.{Clash}

-- numbers, and those of a list that are not among them, each once, in order of first occurrence
abbrev pub each_once : List ℕ → List ℕ → List ℕ
each_once found [] = found
each_once found (n ∷ ns) = each_once (with_number found n) ns

-- the variables of a string, each once, in order of first occurrence
abbrev pub variables_of : List WSym → List ℕ
variables_of s = each_once [] (variables_in s)

-- whether two variables clash at step k: they do unless they differ and some group holds both
abbrev pub clash_of : List (List ℕ) → ℕ → ℕ → ℕ → List Clash
clash_of groups k u v = if are_distinct groups u v then [] else record { step = k; first = record { 0 = u }; second = record { 0 = v } } ∷ []

-- the clashes of a variable with each of others, in order
abbrev pub clashes_with : List (List ℕ) → ℕ → List ℕ → ℕ → List Clash
clashes_with groups k vs u = flat_map (clash_of groups k u) vs

-- the clashes of each variable with each of others, in order
abbrev pub clashes_between : List (List ℕ) → ℕ → List ℕ → List ℕ → List Clash
clashes_between groups k us vs = flat_map (clashes_with groups k vs) us

-- those of the values of two variables under a substitution
abbrev pub clashes_under : List (List ℕ) → ℕ → Pairs → ℕ × ℕ → List Clash
clashes_under groups k sigma p = clashes_between groups k (variables_of (value_of sigma (Var p.0))) (variables_of (value_of sigma (Var p.1)))

-- those at step k, for each mandatory pair of the statement that it names, in order
abbrev pub clashes_at : List ℕ → List (List ℕ) → ℕ → Plain → List Clash
clashes_at bytes groups k x = flat_map (clashes_under groups k (sigma_of x)) (pairs_by bytes (label_of x))

-- those at steps in order, of which the first has the number k
abbrev pub clashes_from : List ℕ → List (List ℕ) → ℕ → List Plain → List Clash
clashes_from bytes groups k [] = []
clashes_from bytes groups k (x ∷ xs) = clashes_at bytes groups k x ++ clashes_from bytes groups (k + 1) xs

-- those of a proof, in order of step, pair, first and second variable, where variables of these groups must differ
unfoldable pub clashes_in : List ℕ → List (List ℕ) → Plain → List Clash
clashes_in bytes groups x = clashes_from bytes groups 1 (steps_of x)

-- a substitution has a value for both variables of a pair
abbrev pub HasBoth : Pairs → ℕ × ℕ → Type 0
HasBoth sigma p = (is_none (value_at sigma (Var p.0)) ≡ false) × (is_none (value_at sigma (Var p.1)) ≡ false)
