-- The steps that the letters of a compressed proof spell, or their first fault (Metamath book, Appendix B).
use Rattle.std.specs.Prelude.{ℕ, ◌+◌, ◌-◌, ◌*◌, Bool, true, false, ◌==◌, List, [], ◌∷◌, ◌++◌, length, slice_get, slice_range, Option, None, Some, Result, Ok, Err, if◌then◌else◌}
use Rattle.std.specs.List.{flat_map}
use Rattle.mm_tokens.specs.declared.pieces.Token.{Token}
use Rattle.mm_proof.specs.Faults.{after}
use Rattle.mm_proof.specs.Numbers.{letter_of}
use Rattle.mm_proof.specs.Steps.{untagged}
use Rattle.mm_proof.specs.declared.fault.ProofFault.{ProofFault}
use Rattle.mm_proof.specs.declared.fault.ProofFault.TheVariants.{BadLetter, NumberOutOfRange, TagMisplaced, EmptyProof, NumberOpen}
use Rattle.mm_proof.specs.declared.letter.Letter.{Letter}
use Rattle.mm_proof.specs.declared.letter.Letter.TheVariants.{Last, Lead, Tag, Query, Other}
use Rattle.mm_proof.specs.declared.step.ProofStep.{ProofStep}
use Rattle.mm_proof.specs.declared.step.StepKind.{StepKind}
use Rattle.mm_proof.specs.declared.step.StepKind.TheVariants.{Back, Unknown}

-- a byte of the letters, and its place in the database
pub record Placed : Type 0 where
  pub place : ℕ
  pub byte : ℕ

-- bytes from a place on
abbrev pub placed : ℕ → List ℕ → List Placed
placed p [] = []
placed p (b ∷ bs) = record { place = p; byte = b } ∷ placed (p + 1) bs

-- the bytes of tokens of a proof that begins at a place: what parts the tokens means nothing
abbrev pub letters_in : ℕ → List ℕ → List Token → List Placed
letters_in from proof tokens = flat_map (λ t. placed (from + t.start) (slice_range proof t.start t.end)) tokens

-- the number so far, 0 between numbers; whether a complete number was the last; the numbers of the steps that have a tag, and
-- the steps
pub record Reading : Type 0 where
  pub number : ℕ
  pub complete : Bool
  pub tags : List ℕ
  pub steps : List ProofStep

abbrev pub start : Reading
start = record { number = 0; complete = false; tags = []; steps = [] }

-- the last step with a tag
abbrev pub tag_last : List ProofStep → List ProofStep
tag_last [] = []
tag_last (s ∷ []) = record { kind = s.kind; tagged = true } ∷ []
tag_last (s ∷ t ∷ ss) = s ∷ tag_last (t ∷ ss)

abbrev pub tagged_step : Option ℕ → Option StepKind
tagged_step None = None
tagged_step (Some k) = Some (Back k)

abbrev pub step_by : Option StepKind → Option ℕ → Option StepKind
step_by (Some s) tag = Some s
step_by None tag = tagged_step tag

-- the step with a number from 0 on: the statements that have numbers, then the steps with a tag
abbrev pub step_numbered : List StepKind → List ℕ → ℕ → Option StepKind
step_numbered kinds tags n = step_by (slice_get kinds n) (slice_get tags (n - length kinds))

abbrev pub with_step : ℕ → Reading → Option StepKind → Result Reading ProofFault
with_step place r None = Err (NumberOutOfRange place)
with_step place r (Some s) = Ok (record { number = 0; complete = true; tags = r.tags; steps = r.steps ++ untagged s ∷ [] })

-- one letter more: a digit, `Z`, or `?`
abbrev pub read_letter : List StepKind → ℕ → Reading → Letter → Result Reading ProofFault
read_letter kinds place r (Last d) = with_step place r (step_numbered kinds r.tags (20 * r.number + d - 1))
read_letter kinds place r (Lead d) = Ok (record { number = 5 * r.number + d; complete = false; tags = r.tags; steps = r.steps })
read_letter kinds place r Tag =
    if r.complete then Ok (record { number = r.number; complete = false; tags = r.tags ++ length r.steps ∷ []; steps = tag_last r.steps })
    else Err (TagMisplaced place)
read_letter kinds place r Query =
    if r.number == 0 then Ok (record { number = 0; complete = false; tags = r.tags; steps = r.steps ++ untagged Unknown ∷ [] })
    else Err (BadLetter place)
read_letter kinds place r Other = Err (BadLetter place)

abbrev pub unless_empty : List ProofStep → Result (List ProofStep) ProofFault
unless_empty [] = Err EmptyProof
unless_empty (s ∷ ss) = Ok (s ∷ ss)

-- no number is open at the end, and there is a step
abbrev pub ended : Reading → Result (List ProofStep) ProofFault
ended r = if r.number == 0 then unless_empty r.steps else Err NumberOpen

-- goes on with these letters
unfoldable pub read_from : List StepKind → Reading → List Placed → Result (List ProofStep) ProofFault
read_from kinds r [] = ended r
read_from kinds r (l ∷ ls) = after (read_letter kinds l.place r (letter_of l.byte)) (λ next. read_from kinds next ls)

-- the steps that letters spell, where the first numbers stand for these statements
abbrev pub read : List StepKind → List Placed → Result (List ProofStep) ProofFault
read kinds letters = read_from kinds start letters
