-- What is known of the chosen proof of a goal.
use Rattle.std.specs.Prelude.{ℕ, ◌≡◌, ◌&&◌, Bool, true, false, List, [], ◌∷◌, Option, None, Some}
use Rattle.mm_subst.specs.declared.symbol.WSym.{WSym}
use Rattle.mm_subst.specs.Symbols.{is_same}
use Rattle.mm_plain.specs.Shape.{known}
use Rattle.mm_improve.specs.declared.choice.Choice.{Choice}
use Rattle.mm_improve.specs.declared.choice.Choice.TheVariants.{Nothing, Bare, Charted}
use Rattle.mm_chart.specs.declared.grammar.Item.{Item}
use Rattle.mm_chart.specs.Options.{or_else, on, first}
use Rattle.mm_improve.specs.Assertions.{Terms}
use Rattle.mm_chart.specs.Items.{Assertion, Grammar, Hypothesis, same_goal}
use Rattle.mm_chart.specs.Charts.{Rows, AreAnswersFor, ArePlaced}
use Rattle.mm_improve.specs.Grammars.{grammar_of}
use Rattle.mm_improve.specs.Proving.{chosen_tree, rank_limit}
use Rattle.mm_improve.specs.Traces.{IsRanked, tree_at, whole}

-- the first hypothesis that is a typecode alone
abbrev pub bare_hypothesis : List Hypothesis → WSym → Option ℕ
bare_hypothesis hs code = on (λ h. h.id) (first (λ h. same_goal (code, []) h.goal) hs)

abbrev pub has_no_items : List Item → Bool
has_no_items [] = true
has_no_items (x ∷ xs) = false

-- whether the conclusion of an assertion is a typecode alone
abbrev pub is_bare : WSym → Assertion → Bool
is_bare code a = is_same a.code code && has_no_items a.items

abbrev pub bare_assertion : List Assertion → WSym → Option ℕ
bare_assertion xs code = on (λ a. a.id) (first (is_bare code) xs)

-- the statement that proves a typecode alone: the first hypothesis, or else the first assertion
abbrev pub bare_id : Grammar → WSym → Option ℕ
bare_id G code = or_else (bare_hypothesis G.hypotheses code) (bare_assertion G.assertions code)

-- a goal has a chosen proof, and the table of its text has the steps
pub record IsCharted (c : Terms) (code : WSym) (t : List WSym) (rows : Rows) : Type 0 where
  pub answers : AreAnswersFor (grammar_of c) code t rows
  pub placed : ArePlaced t rows
  pub ranked : IsRanked c (rank_limit c.bytes (code ∷ t)) code t (whole code t)
  pub tree : chosen_tree c (code ∷ t) ≡ Some (tree_at c (rank_limit c.bytes (code ∷ t)) t (whole code t))

abbrev pub Chooses : Terms → WSym → List WSym → Choice → Type 0
Chooses c code t Nothing = chosen_tree c (code ∷ t) ≡ None
Chooses c code t (Bare id) = chosen_tree c (code ∷ t) ≡ Some (known (code ∷ t) id [] [])
Chooses c code t (Charted rows) = IsCharted c code t rows
