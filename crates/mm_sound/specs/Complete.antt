-- Complete proofs, and the steps that they spell.
use Rattle.std.specs.Prelude.{◌≡◌, ℕ, Bool, true, false, List, map, Option, None, Some, is_some, is_none, IfSome, if◌then◌else◌}
use Rattle.std.specs.List.{list_any}
use Rattle.mm_scope.specs.Contents.{stated_at}
use Rattle.mm_stated.specs.Stated.{is_hypothesis}
use Rattle.mm_plain.specs.declared.plain.Plain.{Plain}
use Rattle.mm_subst.specs.Substitutions.{value_at}
use Rattle.mm_subst.specs.Symbols.{has_work}
use Rattle.mm_subst.specs.declared.symbol.WSym.{WSym}
use Rattle.mm_plain.specs.Shape.{Each, steps_of, target_of}
use Rattle.mm_plain.specs.Sources.{label_of, source_of, sigma_of, is_pending}
use Rattle.mm_proof.specs.Steps.{untagged}
use Rattle.mm_proof.specs.declared.step.ProofStep.{ProofStep}
use Rattle.mm_proof.specs.declared.step.StepKind.{StepKind}
use Rattle.mm_proof.specs.declared.step.StepKind.TheVariants.{Hyp, Apply, Unknown}

-- a step is known, and its target is its source
pub record IsDone (bytes : List ℕ) (x : Plain) : Type 0 where
  pub known : is_some (label_of x) ≡ true
  pub settled : is_pending bytes x ≡ false

-- each step is known, and none is pending
abbrev pub IsComplete : List ℕ → Plain → Type 0
IsComplete bytes x = Each (IsDone bytes) (steps_of x)

-- a string without work variables
abbrev pub IsPlain : List WSym → Type 0
IsPlain s = has_work s ≡ false

-- no string of a step has a work variable: its target, its source, and each value of its substitution
pub record IsPlainStep (bytes : List ℕ) (x : Plain) : Type 0 where
  pub target : IsPlain (target_of x)
  pub source : IfSome (source_of bytes x) IsPlain
  pub values : (key : WSym) → IfSome (value_at (sigma_of x) key) IsPlain

-- no step is pending
abbrev pub IsSettled : List ℕ → Plain → Type 0
IsSettled bytes x = Each (λ y. is_pending bytes y ≡ false) (steps_of x)

-- the ids of the statements that the steps name, in postorder; none of an unknown step
abbrev pub labels_in : Plain → List (Option ℕ)
labels_in x = map label_of (steps_of x)

-- whether a step is unknown
abbrev pub has_unknown : Plain → Bool
has_unknown x = list_any (λ o. is_none o) (labels_in x)

-- what a step with this label stands for in a proof's text; `?` for an unknown step
abbrev pub kind_for : List ℕ → Option ℕ → StepKind
kind_for bytes None = Unknown
kind_for bytes (Some l) = if is_hypothesis (stated_at bytes l).kind then Hyp (record { 0 = l }) else Apply (record { 0 = l })

abbrev pub step_for : List ℕ → Option ℕ → ProofStep
step_for bytes o = untagged (kind_for bytes o)

-- the steps that a proof spells
abbrev pub spelled : List ℕ → Plain → List ProofStep
spelled bytes x = map (step_for bytes) (labels_in x)
