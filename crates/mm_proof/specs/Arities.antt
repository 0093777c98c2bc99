-- How many trees a step takes.
use Rattle.std.specs.Prelude.{ℕ, ◌+◌, List}
use Rattle.mm_proof.specs.Forests.{arity_of}
use Rattle.mm_proof.specs.declared.step.StepKind.{StepKind}
use Rattle.mm_proof.specs.declared.step.StepKind.TheVariants.{Hyp, Apply, Back, Unknown}

abbrev pub takes : List ℕ → StepKind → ℕ
takes bytes (Hyp s) = arity_of bytes (s.0 + 1)
takes bytes (Apply s) = arity_of bytes (s.0 + 1)
takes bytes (Back k) = 0
takes bytes Unknown = 0
