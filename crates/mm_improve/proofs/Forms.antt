-- The form of plain assertions and of hypotheses.
use Rattle.std.proofs.Common.{ℕ, ◌≡◌, ◌<◌, false, List, [], ◌∷◌, Some, length, get_or}
use Rattle.std.specs.List.{AllByRecursion}
use Rattle.mm_scope.specs.Contents.{stated_at}
use Rattle.mm_subst.specs.declared.symbol.WSym.{WSym}
use Rattle.mm_subst.specs.declared.symbol.WSym.TheVariants.{Const, Var}
use Rattle.mm_subst.specs.Statements.{statement_of}
use Rattle.mm_subst.specs.Symbols.{has_work}
use Rattle.mm_plain.specs.Premises.{premises_of, variables_for}
use Rattle.mm_improve.specs.Grammars.{place, seen_in, codes_for}

-- a string for each typecode and variable
abbrev pub typed : List WSym → List ℕ → List (List WSym)
typed [] ns = []
typed (c ∷ cs) [] = []
typed (c ∷ cs) (n ∷ ns) = (c ∷ Var n ∷ []) ∷ typed cs ns

-- What holds of a plain assertion of a database: its conclusion is a constant and a string without work variables, which
-- has each of its variables; they differ; its hypotheses are a constant and a variable each; and the variables of the
-- distinct pairs are among them.
pub record IsPlainAssertion (bytes : List ℕ) (id : ℕ) : Type 0 where
  pub code : ℕ
  pub text : List WSym
  pub statement : statement_of bytes id ≡ Const code ∷ text
  pub plain : has_work text ≡ false
  pub own : (i : ℕ) → i < length (variables_for bytes id) → place (variables_for bytes id) (get_or (variables_for bytes id) i 0) ≡ Some i
  pub concluded : (n i : ℕ) → place (variables_for bytes id) n ≡ Some i → (j : ℕ) × (place (seen_in (variables_for bytes id) [] text) n ≡ Some j)
  pub hypotheses : premises_of bytes id ≡ typed (codes_for bytes id) (variables_for bytes id)
  pub constants : AllByRecursion (λ c. (m : ℕ) × (c ≡ Const m)) (codes_for bytes id)
  pub as_many : length (codes_for bytes id) ≡ length (variables_for bytes id)
  pub pairs : AllByRecursion (λ p. ((i : ℕ) × (place (variables_for bytes id) p.0 ≡ Some i)) × ((i : ℕ) × (place (variables_for bytes id) p.1 ≡ Some i))) (stated_at bytes id).pairs

-- a statement that is not empty
abbrev pub IsStatedAs : List ℕ → ℕ → Type 0
IsStatedAs bytes id = (code : WSym) × (text : List WSym) × (statement_of bytes id ≡ code ∷ text)
