-- The label tree that the steps of a proof fold to.
use Rattle.std.specs.Prelude.{ℕ, zero, suc, ◌+◌, ◌-◌, List, Option, length, map, if◌then◌else◌}
use Rattle.mm_scope.specs.Contents.{stated_at}
use Rattle.mm_stated.specs.Stated.{is_hypothesis}
use Rattle.mm_proof.specs.Trees.{Tree}
use Rattle.mm_proof.specs.Folding.{fold}
use Rattle.mm_proof.specs.declared.step.ProofStep.{ProofStep}
use Rattle.mm_proof.specs.declared.step.StepKind.{StepKind}
use Rattle.mm_proof.specs.declared.step.StepKind.TheVariants as kind
use Rattle.mm_proof.specs.declared.written.Step.{Step}
use Rattle.mm_proof.specs.declared.written.Step.TheVariants.{Label, Unknown, Back}

-- How many trees a label takes: as many as an assertion has mandatory hypotheses, none for a hypothesis or `?`. A label is
-- told by its number: 0 for `?`, else one more than the id of its statement.
unfoldable pub arity_of : List ℕ → ℕ → ℕ
arity_of bytes zero = 0
arity_of bytes (suc n) = if is_hypothesis (stated_at bytes n).kind then 0 else length (stated_at bytes n).mandatory

-- a step without its tag, as one of a list whose places are counted from 0
abbrev pub plain : StepKind → Step
plain (kind.Hyp s) = Label (s.0 + 1)
plain (kind.Apply s) = Label (s.0 + 1)
plain (kind.Back k) = Back (k - 1)
plain kind.Unknown = Unknown

abbrev pub plain_steps : List ProofStep → List Step
plain_steps steps = map (λ s. plain s.kind) steps

-- the trees that the steps of a proof fold to: a hypothesis or `?` is a leaf, an assertion takes the trees of its mandatory
-- hypotheses, and a step that refers back is a copy
abbrev pub trees_in : List ℕ → List ProofStep → Option (List Tree)
trees_in bytes steps = fold (arity_of bytes) (plain_steps steps)
