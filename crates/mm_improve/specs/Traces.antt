-- The steps of a chosen proof by parts of the goal's string, from the last to the first.
use Rattle.std.specs.Prelude.{◌≡◌, ◌≤◌, ◌<◌, ℕ, true, false, List, [], ◌∷◌, ◌++◌, map, reverse, length, slice_index_or, Result, Ok, Err, if◌then◌else◌, ◌==◌}
use Rattle.std.specs.List.{AllByRecursion}
use Rattle.mm_subst.specs.declared.symbol.WSym.{WSym}
use Rattle.mm_subst.specs.declared.symbol.WSym.TheVariants.{Const}
use Rattle.mm_subst.specs.Applied.{most_symbols}
use Rattle.mm_subst.specs.Symbols.{has_work}
use Rattle.mm_subst.specs.Substitutions.{Pairs}
use Rattle.mm_plain.specs.declared.plain.Plain.{Plain}
use Rattle.mm_plain.specs.Premises.{variables_for}
use Rattle.mm_plain.specs.Shape.{known, steps_of, size_of}
use Rattle.mm_plain.specs.Valid.{most_steps}
use Rattle.mm_improve.specs.declared.fault.ImproveFault.{ImproveFault}
use Rattle.mm_improve.specs.declared.fault.ImproveFault.TheVariants.{TooManySteps, TooDeep, Memory}
use Rattle.mm_chart.specs.declared.table.Part.{Part}
use Rattle.mm_chart.specs.Options.{is_there}
use Rattle.mm_improve.specs.Assertions.{Terms}
use Rattle.mm_improve.specs.Ranks.{chosen, tree}
use Rattle.mm_chart.specs.Charts.{Noted, goal_of}
use Rattle.mm_chart.specs.Items.{may_lead}
use Rattle.mm_improve.specs.Grammars.{grammar_of, joined, order_for, place, place_or_none}

-- the string of a part, behind its typecode
abbrev pub string_of : List WSym → Part → List WSym
string_of t p = joined (goal_of t p)

-- the tree of its chosen proof, where that has a rank of at most r
abbrev pub tree_at : Terms → ℕ → List WSym → Part → Plain
tree_at c r t p = tree c r (string_of t p)

-- A part that is not empty and may lead to a goal, whose string has a rank of at most r.
pub record IsRanked (c : Terms) (r : ℕ) (goal : WSym) (t : List WSym) (p : Part) : Type 0 where
  pub ordered : p.from < p.to
  pub within : p.to ≤ length t
  pub plain : has_work (string_of t p) ≡ false
  pub short : length (string_of t p) ≤ most_symbols
  pub there : is_there (chosen c r (string_of t p)) ≡ true
  pub leads : may_lead (grammar_of c) goal p.code ≡ true

-- stands for a part where there is none
abbrev pub no_part : Part
no_part = record { code = Const 0; from = 0; to = 0 }

-- the variables of what an entry names; a hypothesis has none
abbrev pub keys_of : List ℕ → Noted → List ℕ
keys_of bytes e = if e.rank == 0 then [] else variables_for bytes e.id

-- the parts for the hypotheses of what an entry names, in order; a hypothesis has none
abbrev pub kids_of : List ℕ → Noted → List Part
kids_of bytes e =
    if e.rank == 0 then []
    else map (λ n. slice_index_or e.parts (place_or_none (place (order_for bytes e.id) n)) no_part) (variables_for bytes e.id)

-- Parts are added, over whose trees the tree of a part is one step.
pub record IsOver (c : Terms) (r : ℕ) (goal : WSym) (t : List WSym) (p : Part) (old new : List Part) : Type 0 where
  pub kids : List Part
  pub added : new ≡ old ++ kids
  pub ranked : AllByRecursion (IsRanked c r goal t) kids
  pub id : ℕ
  pub sigma : Pairs
  pub is : tree_at c r t p ≡ known (string_of t p) id sigma (map (tree_at c r t) kids)

-- the part that is all of the text
abbrev pub whole : WSym → List WSym → Part
whole code t = record { code = code; from = 0; to = length t }

-- The trees of the parts are the steps of the tree of the whole, from the last to the first; or these are too many.
abbrev pub IsTraced : Terms → ℕ → List WSym → Part → Result (List Part) ImproveFault → Type 0
IsTraced c r t p (Ok parts) = reverse (map (tree_at c r t) parts) ≡ steps_of (tree_at c r t p)
IsTraced c r t p (Err TooManySteps) = most_steps < size_of (tree_at c r t p)
IsTraced c r t p (Err TooDeep) = ⊥
IsTraced c r t p (Err Memory) = Unit {0}
