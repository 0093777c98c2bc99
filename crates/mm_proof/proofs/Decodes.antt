-- The steps of a proof, token by token.
use Rattle.std.proofs.Common.{◌≡◌, ◌+◌, ℕ, List, [], ◌∷◌, ◌++◌, Ok, Err, Result, ap, sym, refl}
use Rattle.std.proofs.lemmas.List.{append_assoc, append-nil}
use Rattle.mm_tokens.specs.declared.pieces.Token.{Token}
use Rattle.mm_proof.specs.Decoding.{steps_from}
use Rattle.mm_proof.specs.Faults.{after, Refuses}
use Rattle.mm_proof.specs.Labels.{step_of, text_of}
use Rattle.mm_proof.specs.Steps.{untagged}
use Rattle.mm_proof.specs.declared.fault.ProofFault.{ProofFault}
use Rattle.mm_proof.specs.declared.fault.ProofFault.TheVariants.{NoSuchLabel, NotEarlier, HypothesisNotActive, MandatoryListed, BadLetter, NumberOutOfRange, TagMisplaced, ListNotClosed, EmptyProof, NumberOpen, Memory}
use Rattle.mm_proof.specs.declared.step.ProofStep.{ProofStep}
use Rattle.mm_proof.specs.declared.step.StepKind.{StepKind}

-- the steps so far, followed by those of the tokens that are left
abbrev pub spelled_on : List ℕ → ℕ → List ℕ → ℕ → List ProofStep → List Token → Result (List ProofStep) ProofFault
spelled_on bytes id proof k done tokens = after (steps_from bytes id proof k tokens) (λ ss. Ok (done ++ ss))

-- before the first token
pub spelled_none : (bytes : List ℕ) (id : ℕ) (proof : List ℕ) (k : ℕ) (tokens : List Token) → spelled_on bytes id proof k [] tokens ≡ steps_from bytes id proof k tokens
spelled_none bytes id proof k tokens = same (steps_from bytes id proof k tokens)
  where
    same : (r : Result (List ProofStep) ProofFault) → after r (λ ss. Ok ([] ++ ss)) ≡ r
    same (Ok ss) = refl
    same (Err e) = refl

regroup : (r : Result (List ProofStep) ProofFault) (done : List ProofStep) (s : ProofStep) → after (after r (λ ss. Ok (s ∷ ss))) (λ ss. Ok (done ++ ss)) ≡ after r (λ ss. Ok ((done ++ s ∷ []) ++ ss))
regroup (Ok ss) done s = ap (λ t. Ok t) (sym (append_assoc done (s ∷ []) ss))
regroup (Err e) done s = refl

-- a token that spells a step
pub spelled_more : (bytes : List ℕ) (id : ℕ) (proof : List ℕ) (k : ℕ) (done : List ProofStep) (t : Token) (tokens : List Token) (s : StepKind)
    → step_of bytes id k (text_of proof t) ≡ Ok s
    → spelled_on bytes id proof k done (t ∷ tokens) ≡ spelled_on bytes id proof (k + 1) (done ++ untagged s ∷ []) tokens
unfolding steps_from
spelled_more bytes id proof k done t tokens s h = rw h (regroup (steps_from bytes id proof (k + 1) tokens) done (untagged s))

-- a token with a fault
pub spelled_fails : (bytes : List ℕ) (id : ℕ) (proof : List ℕ) (k : ℕ) (done : List ProofStep) (t : Token) (tokens : List Token) (e : ProofFault)
    → step_of bytes id k (text_of proof t) ≡ Err e
    → spelled_on bytes id proof k done (t ∷ tokens) ≡ Err e
unfolding steps_from
spelled_fails bytes id proof k done t tokens e h = rw h refl

-- no token is left
pub spelled_all : (bytes : List ℕ) (id : ℕ) (proof : List ℕ) (k : ℕ) (done : List ProofStep) → spelled_on bytes id proof k done [] ≡ Ok done
unfolding steps_from
spelled_all bytes id proof k done = ap (λ t. Ok t) (append-nil done)

-- a fault that is found may be answered
pub refused : {A : Type 0} (e : ProofFault) (r : Result A ProofFault) → r ≡ Err e → Refuses e r
refused Memory r h = tt
refused (NoSuchLabel k) r h = h
refused (NotEarlier k) r h = h
refused (HypothesisNotActive k) r h = h
refused (MandatoryListed k) r h = h
refused (BadLetter k) r h = h
refused (NumberOutOfRange k) r h = h
refused (TagMisplaced k) r h = h
refused ListNotClosed r h = h
refused EmptyProof r h = h
refused NumberOpen r h = h

-- a fault that one reading has is that of another, where faults go on
pub passed : {A B : Type 0} (e : ProofFault) (r : Result A ProofFault) (q : Result B ProofFault) → Refuses e r → (r ≡ Err e → q ≡ Err e) → Refuses e q
passed Memory r q h f = tt
passed (NoSuchLabel k) r q h f = f h
passed (NotEarlier k) r q h f = f h
passed (HypothesisNotActive k) r q h f = f h
passed (MandatoryListed k) r q h f = f h
passed (BadLetter k) r q h f = f h
passed (NumberOutOfRange k) r q h f = f h
passed (TagMisplaced k) r q h f = f h
passed ListNotClosed r q h f = f h
passed EmptyProof r q h f = f h
passed NumberOpen r q h f = f h
