-- The steps that the text of a theorem's proof spells, or its first fault.
use Rattle.std.specs.Prelude.{◌≡◌, ℕ, ◌+◌, Bool, false, List, [], ◌∷◌, drop, Result, Ok, Err, slice_range, if◌then◌else◌}
use Rattle.std.specs.Str.{bytes_eq}
use Rattle.mm_tokens.specs.Pieces.{pieces_of, tokens_in}
use Rattle.mm_tokens.specs.declared.pieces.Token.{Token}
use Rattle.mm_scope.specs.Contents.{stated_at}
use Rattle.mm_proof.specs.Faults.{after, Refuses}
use Rattle.mm_proof.specs.Labels.{text_of, step_of, numbered}
use Rattle.mm_proof.specs.Reading.{letters_in, read, unless_empty}
use Rattle.mm_proof.specs.Steps.{untagged}
use Rattle.mm_proof.specs.declared.fault.ProofFault.{ProofFault}
use Rattle.mm_proof.specs.declared.step.ProofStep.{ProofStep}

-- the steps that tokens of a normal proof spell, of which the first is token k (Metamath book, section 4.1.4)
unfoldable pub steps_from : List ℕ → ℕ → List ℕ → ℕ → List Token → Result (List ProofStep) ProofFault
steps_from bytes id proof k [] = Ok []
steps_from bytes id proof k (t ∷ ts) =
    after (step_of bytes id k (text_of proof t)) (λ s. after (steps_from bytes id proof (k + 1) ts) (λ ss. Ok (untagged s ∷ ss)))

-- a normal proof has a token
abbrev pub normal : List ℕ → ℕ → List ℕ → List Token → Result (List ProofStep) ProofFault
normal bytes id proof tokens = after (steps_from bytes id proof 1 tokens) unless_empty

-- a compressed proof has its list, and behind that its letters; the tokens are those behind the `(`
abbrev pub compressed : List ℕ → ℕ → ℕ → List ℕ → List Token → Result (List ProofStep) ProofFault
compressed bytes id from proof tokens = after (numbered bytes id proof tokens) (λ n. read n.kinds (letters_in from proof n.rest))

-- whether the first token is `(`, with which a compressed proof begins
abbrev pub begins_list : List ℕ → List Token → Bool
begins_list proof [] = false
begins_list proof (t ∷ ts) = bytes_eq (text_of proof t) (40 ∷ [])

-- the steps that the bytes of a proof spell, which begin at a place of the database; comments are left out
unfoldable pub spelled : List ℕ → ℕ → ℕ → List ℕ → Result (List ProofStep) ProofFault
spelled bytes id from proof =
    if begins_list proof (tokens_in (pieces_of proof)) then compressed bytes id from proof (drop 1 (tokens_in (pieces_of proof)))
    else normal bytes id proof (tokens_in (pieces_of proof))

-- the bytes between the `$=` and the `$.` of a theorem
abbrev pub proof_of : List ℕ → ℕ → List ℕ
proof_of bytes id = slice_range bytes (stated_at bytes id).from (stated_at bytes id).to

-- the steps of a theorem's proof, or its first fault from left to right
unfoldable pub decoded : List ℕ → ℕ → Result (List ProofStep) ProofFault
decoded bytes id = spelled bytes id (stated_at bytes id).from (proof_of bytes id)

-- what is answered of a reading, unless memory runs out
abbrev pub Decodes : Result (List ProofStep) ProofFault → Result (List ProofStep) ProofFault → Type 0
Decodes (Ok steps) read = read ≡ Ok steps
Decodes (Err e) read = Refuses e read
