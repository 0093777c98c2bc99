-- What a theorem's proof applies, and what a statement rests on.
use Rattle.std.specs.Prelude.{◌≡◌, ◌==◌, ◌&&◌, ◌||◌, ℕ, zero, suc, Bool, true, false, List, [], ◌∷◌, filter, length, Result, Ok, Err, if◌then◌else◌}
use Rattle.std.specs.List.{flat_map, list_any, range_with_len}
use Rattle.mm_scope.specs.Contents.{labels_of, stated_at}
use Rattle.mm_stated.specs.Stated.{is_same_kind}
use Rattle.mm_stated.specs.declared.statement.Kind.TheVariants.{Axiom, Theorem}
use Rattle.mm_proof.specs.Decoding.{decoded}
use Rattle.mm_proof.specs.declared.fault.ProofFault.{ProofFault}
use Rattle.mm_proof.specs.declared.step.ProofStep.{ProofStep}
use Rattle.mm_proof.specs.declared.step.StepKind.{StepKind}
use Rattle.mm_proof.specs.declared.step.StepKind.TheVariants.{Hyp, Apply, Back, Unknown}

-- ## Uses

-- the assertion that a step applies, if it applies one
abbrev pub assertion_of : StepKind → List ℕ
assertion_of (Hyp s) = []
assertion_of (Apply s) = s.0 ∷ []
assertion_of (Back k) = []
assertion_of Unknown = []

-- those that steps apply, one for each such step
abbrev pub applied_by : List ProofStep → List ℕ
applied_by steps = flat_map (λ s. assertion_of s.kind) steps

abbrev pub applied_in : Result (List ProofStep) ProofFault → List ℕ
applied_in (Ok steps) = applied_by steps
applied_in (Err e) = []

-- the assertions that a theorem's proof applies: none where it doesn't decode, and none of a statement that is no theorem
unfoldable pub applied : List ℕ → ℕ → List ℕ
applied bytes id = if is_same_kind Theorem (stated_at bytes id).kind then applied_in (decoded bytes id) else []

-- whether a statement uses an assertion: its proof applies it
abbrev pub uses : List ℕ → ℕ → ℕ → Bool
uses bytes id on = list_any (λ m. m == on) (applied bytes id)

-- ## Dependence, by any relation of use

-- each statement of a way uses the next, from the first statement to the last
abbrev pub IsWay : (ℕ → ℕ → Bool) → ℕ → List ℕ → ℕ → Type 0
IsWay applies id [] on = applies id on ≡ true
IsWay applies id (m ∷ way) on = (applies id m ≡ true) × IsWay applies m way on

-- the least relation that holds for uses, and for uses followed by it: a way leads from the one to the other
pub record Depends (applies : ℕ → ℕ → Bool) (id on : ℕ) : Type 0 where
  pub way : List ℕ
  pub is : IsWay applies id way on

-- whether some statement before a place passes a test
abbrev pub some_below : ℕ → (ℕ → Bool) → Bool
some_below n test = list_any test (range_with_len 0 n)

-- whether a way with at most so many uses leads from one to the other, where each use is of an earlier statement
unfoldable pub depends_within : (ℕ → ℕ → Bool) → ℕ → ℕ → ℕ → Bool
depends_within applies zero id on = false
depends_within applies (suc n) id on = applies id on || some_below id (λ m. applies id m && depends_within applies n m on)

-- whether one depends on the other: as each use is of an earlier statement, there are at most as many as come before
abbrev pub depends_by : (ℕ → ℕ → Bool) → ℕ → ℕ → Bool
depends_by applies id on = depends_within applies id id on

-- ## In a database

-- whether a statement depends on another
unfoldable pub depends : List ℕ → ℕ → ℕ → Bool
depends bytes id on = depends_by (uses bytes) id on

abbrev pub is_axiom : List ℕ → ℕ → Bool
is_axiom bytes id = is_same_kind Axiom (stated_at bytes id).kind

-- those of a database's statements that pass a test, in order
abbrev pub statements_where : List ℕ → (ℕ → Bool) → List ℕ
statements_where bytes test = filter test (range_with_len 0 (length (labels_of bytes)))

-- the statements on which one depends
unfoldable pub depended_on : List ℕ → ℕ → List ℕ
depended_on bytes id = statements_where bytes (depends bytes id)

-- the axioms among them
unfoldable pub axioms : List ℕ → ℕ → List ℕ
axioms bytes id = statements_where bytes (λ m. depends bytes id m && is_axiom bytes m)

-- the statements that use one
unfoldable pub users : List ℕ → ℕ → List ℕ
users bytes on = statements_where bytes (λ m. uses bytes m on)

-- the statements that depend on one
unfoldable pub dependents : List ℕ → ℕ → List ℕ
dependents bytes on = statements_where bytes (λ m. depends bytes m on)
