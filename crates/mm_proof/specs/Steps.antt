-- The steps of a proof, counted from 1.
use Rattle.std.specs.Prelude.{◌≡◌, ◌<◌, ℕ, zero, suc, Bool, true, false, List, [], ◌∷◌, ◌++◌, Option, None, Some, slice_get, length}
use Rattle.std.specs.List.{AllByRecursion}
use Rattle.mm_scope.specs.Contents.{labels_of}
use Rattle.mm_proof.specs.declared.step.ProofStep.{ProofStep}
use Rattle.mm_proof.specs.declared.step.StepKind.{StepKind}
use Rattle.mm_proof.specs.declared.step.StepKind.TheVariants.{Hyp, Apply, Back, Unknown}

abbrev pub has_tag : Option ProofStep → Bool
has_tag None = false
has_tag (Some s) = s.tagged

-- whether there is a step k, and it is tagged
abbrev pub is_tagged : List ProofStep → ℕ → Bool
is_tagged steps zero = false
is_tagged steps (suc k) = has_tag (slice_get steps k)

-- a step that refers back names a tagged one of the steps before it
abbrev pub IsLinked : List ProofStep → StepKind → Type 0
IsLinked done (Hyp s) = Unit {0}
IsLinked done (Apply s) = Unit {0}
IsLinked done (Back k) = is_tagged done k ≡ true
IsLinked done Unknown = Unit {0}

-- each of these steps, behind steps that are done, names an earlier one where it refers back
abbrev pub AreLinked : List ProofStep → List ProofStep → Type 0
AreLinked done [] = Unit {0}
AreLinked done (s ∷ ss) = IsLinked done s.kind × AreLinked (done ++ s ∷ []) ss

-- a step names a statement of the database, if it names one
abbrev pub IsOwn : List ℕ → StepKind → Type 0
IsOwn bytes (Hyp s) = s.0 < length (labels_of bytes)
IsOwn bytes (Apply s) = s.0 < length (labels_of bytes)
IsOwn bytes (Back k) = Unit {0}
IsOwn bytes Unknown = Unit {0}

abbrev pub untagged : StepKind → ProofStep
untagged k = record { kind = k; tagged = false }

-- steps that refer back as they may, and name the database's own statements
pub record AreSound (bytes : List ℕ) (steps : List ProofStep) : Type 0 where
  pub linked : AreLinked [] steps
  pub own : AllByRecursion (λ s. IsOwn bytes s.kind) steps
