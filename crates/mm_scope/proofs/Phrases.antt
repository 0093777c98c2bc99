-- What a description says.
use Rattle.std.proofs.Common.{◌↔◌, ℕ, List, Option, None, Some, IsTrue}
use Rattle.std.proofs.lemmas.Bool.{false≢true}
use Rattle.std.specs.Prelude.{slice_range}
use Rattle.mm_tokens.specs.declared.pieces.Span.{Span}
use Rattle.mm_tokens.specs.Folding.{folded}
use Rattle.mm_tokens.proofs.Phrases.{holds-StandsIn}
use Rattle.mm_scope.specs.Description.{says, Says}

pub says-Says : (bytes : List ℕ) (d : Option Span) (phrase : List ℕ) → IsTrue (says bytes d phrase) ↔ Says bytes d phrase
says-Says bytes None phrase = (λ h. absurd (false≢true h), λ h. absurd h)
says-Says bytes (Some s) phrase = holds-StandsIn phrase (folded (slice_range bytes s.start s.end))
