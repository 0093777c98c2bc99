-- What back references name.
use Rattle.std.specs.Prelude.{◌≡◌, ℕ, List, [], ◌∷◌, ◌++◌, slice_get, Some}
use Rattle.mm_proof.specs.declared.written.Step.{Step}
use Rattle.mm_proof.specs.declared.written.Step.TheVariants.{Label, Unknown, Back}

abbrev pub IsBack : List Step → Step → Type 0
IsBack done (Label l) = Unit {0}
IsBack done Unknown = Unit {0}
IsBack done (Back k) = (l : ℕ) × (slice_get done k ≡ Some (Label l))

-- a back reference names an earlier label, behind steps that are done
abbrev pub AreBacks : List Step → List Step → Type 0
AreBacks done [] = Unit {0}
AreBacks done (s ∷ ss) = IsBack done s × AreBacks (done ++ s ∷ []) ss
