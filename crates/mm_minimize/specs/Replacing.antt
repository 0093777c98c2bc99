-- What a replacement is.
use Rattle.std.specs.Prelude.{◌≡◌, ℕ, true, false, List, Option, Some, map}
use Rattle.mm_subst.specs.declared.symbol.WSym.{WSym}
use Rattle.mm_subst.specs.declared.symbol.WSym.TheVariants.{Var}
use Rattle.mm_subst.specs.Symbols.{has_work}
use Rattle.mm_subst.specs.Substitutions.{Pairs, applied}
use Rattle.mm_subst.specs.Statements.{statement_of}
use Rattle.mm_plain.specs.declared.plain.Plain.{Plain}
use Rattle.mm_plain.specs.Shape.{known, step_at, target_of}
use Rattle.mm_plain.specs.Premises.{premises_of, variables_for}
use Rattle.mm_improve.specs.Assertions as improve
use Rattle.mm_minimize.specs.Combinations.{replacement}

-- a step with the target of an old one that names an assertion: its conclusion is that target, its hypotheses are the
-- targets of the children, and its distinct pairs hold
pub record IsReplacement (c : improve.Terms) (x : Plain) (s id : ℕ) (new : Plain) : Type 0 where
  pub sigma : Pairs
  pub kids : List Plain
  pub tree_is : new ≡ known (target_of (step_at x s)) id sigma kids
  pub keys : map (λ p. p.0) sigma ≡ map Var (variables_for c.bytes id)
  pub source : applied sigma (statement_of c.bytes id) ≡ target_of (step_at x s)
  pub children : map target_of kids ≡ map (applied sigma) (premises_of c.bytes id)
  pub apart : improve.are_apart c id sigma ≡ true

-- what proves a goal has it as its target
abbrev pub ProvesGoals : (List WSym → Option Plain) → Type 0
ProvesGoals prove = (g : List WSym) (y : Plain) → prove g ≡ Some y → target_of y ≡ g

-- no target has a work variable
abbrev pub HasPlainTargets : Plain → Type 0
HasPlainTargets x = (k : ℕ) → has_work (target_of (step_at x k)) ≡ false

abbrev pub ReplacementsFit : Type 0
ReplacementsFit = (c : improve.Terms) (prove : List WSym → Option Plain) (x new : Plain) (s id : ℕ) → ProvesGoals prove → HasPlainTargets x → replacement c prove x s id ≡ Some new → IsReplacement c x s id new
