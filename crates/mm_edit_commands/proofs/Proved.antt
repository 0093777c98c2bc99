-- What is found for a step is a proof of what it is to prove.
use Rattle.std.proofs.Common.{◌≡◌, ℕ, ◌<◌, Bool, List, length, refl, ap}
use Rattle.mm_scope.specs.Contents.{labels_of, stated_at}
use Rattle.mm_stated.specs.Stated.{is_hypothesis}
use Rattle.mm_stated.specs.declared.statement.Kind.TheVariants.{Theorem}
use Rattle.mm_unify.specs.declared.listing.Settings.{Settings}
use Rattle.mm_improve.proofs.FindsProofs.{finds_proofs}
use Rattle.mm_edit.specs.Improving.{MapsToProofs}
use Rattle.mm_edit.specs.Proving.{proofs_found}

pub proves : (bytes : List ℕ) (at : ℕ) (set : Settings) (no_distinct : Bool) (depth : ℕ) → at < length (labels_of bytes) → (stated_at bytes at).kind ≡ Theorem → MapsToProofs bytes at (proofs_found bytes at set no_distinct depth)
proves bytes at set no_distinct depth own kind = λ goal x string found.
    finds_proofs bytes (record { bytes = bytes; at = at; no_distinct = no_distinct; rule = set.rule }) depth goal x refl own (ap is_hypothesis kind) string found
