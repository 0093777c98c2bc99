-- The values that the machine substitutes for variables.
use Rattle.std.specs.Prelude.{◌≡◌, ℕ, Bool, true, List, [], ◌∷◌, ◌++◌, map, Result, Ok, Err, All}
use Rattle.mm_scope.specs.Contents.{stated_at, distinct_at}
use Rattle.mm_subst.specs.Statements.{symbol_of}
use Rattle.mm_subst.specs.declared.symbol.WSym.{WSym}
use Rattle.mm_plain.specs.Shape.{Each, steps_of}
use Rattle.mm_plain.specs.Sources.{sigma_of}
use Rattle.mm_plain.specs.declared.plain.Plain.{Plain}
use Rattle.mm_proof.specs.Decoding.{decoded}
use Rattle.mm_proof.specs.declared.fault.ProofFault.{ProofFault}
use Rattle.mm_proof.specs.declared.step.ProofStep.{ProofStep}
use Rattle.mm_proof.specs.declared.step.StepKind.{StepKind}
use Rattle.mm_proof.specs.declared.step.StepKind.TheVariants.{Hyp, Apply, Back, Unknown}
use Rattle.mm_stack.specs.Running.{Progress, start, substitution_at, run_step}
use Rattle.mm_stack.specs.declared.outcome.Verdict.{Verdict}

-- those of a step, where a run stands: an assertion substitutes for its mandatory variables
abbrev pub substituted_at : List ℕ → Progress → StepKind → List (List ℕ)
substituted_at bytes p (Hyp s) = []
substituted_at bytes p (Apply s) = map (λ b. b.value) (substitution_at bytes (stated_at bytes s.0) p.stack)
substituted_at bytes p (Back k) = []
substituted_at bytes p Unknown = []

abbrev pub going_on : Result Progress Verdict → (Progress → List (List ℕ)) → List (List ℕ)
going_on (Ok p) f = f p
going_on (Err v) f = []

-- and of further steps, up to what ends the run
unfoldable pub substituted_from : List ℕ → List (List ℕ) → Progress → List ProofStep → List (List ℕ)
substituted_from bytes groups p [] = []
substituted_from bytes groups p (s ∷ ss) = substituted_at bytes p s.kind ++ going_on (run_step bytes groups p s.kind) (λ q. substituted_from bytes groups q ss)

abbrev pub substituted_by : List ℕ → ℕ → Result (List ProofStep) ProofFault → List (List ℕ)
substituted_by bytes at (Ok steps) = substituted_from bytes (distinct_at bytes at) start steps
substituted_by bytes at (Err f) = []

-- those of the run of a theorem's proof, as strings
abbrev pub substituted_in : List ℕ → ℕ → List (List WSym)
substituted_in bytes at = map (λ v. map (symbol_of bytes) v) (substituted_by bytes at (decoded bytes at))

-- each value of each step passes a test
abbrev pub HasValues : (List WSym → Bool) → Plain → Type 0
HasValues test x = Each (λ y. All (λ p. test p.1 ≡ true) (sigma_of y)) (steps_of x)
