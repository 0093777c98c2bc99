-- The steps that a proof spells do not depend on where it stands.
use Rattle.std.proofs.Common.{◌≡◌, ℕ, Bool, true, false, List, drop, Result, Ok, Err, sym, ◌∙◌, if◌then◌else◌}
use Rattle.mm_tokens.specs.Pieces.{pieces_of, tokens_in}
use Rattle.mm_tokens.specs.declared.pieces.Token.{Token}
use Rattle.mm_proof.specs.Decoding.{begins_list, normal, compressed, spelled}
use Rattle.mm_proof.specs.Faults.{after}
use Rattle.mm_proof.specs.Labels.{Numbered, numbered}
use Rattle.mm_proof.specs.Reading.{letters_in, start, read}
use Rattle.mm_proof.specs.declared.fault.ProofFault.{ProofFault}
use Rattle.mm_proof.specs.declared.step.ProofStep.{ProofStep}
use Rattle.mm_proof.proofs.Lines.{places_free, letters_bytes}

err_ok : {A E : Type 0} (e : E) (x : A) → (let r : Result A E = Err e in r) ≡ Ok x → ⊥
err_ok e x h = cc

compressed_free : (bytes : List ℕ) (id from other : ℕ) (proof : List ℕ) (ts : List Token) (steps : List ProofStep) → compressed bytes id from proof ts ≡ Ok steps → compressed bytes id other proof ts ≡ Ok steps
compressed_free bytes id from other proof ts steps h = by (numbered bytes id proof ts) h
  where
    by : (o : Result Numbered ProofFault) → after o (λ n. read n.kinds (letters_in from proof n.rest)) ≡ Ok steps → after o (λ n. read n.kinds (letters_in other proof n.rest)) ≡ Ok steps
    by (Ok n) g = places_free n.kinds (letters_in from proof n.rest) (letters_in other proof n.rest) start steps (letters_bytes from proof n.rest ∙ sym (letters_bytes other proof n.rest)) g
    by (Err e) g = absurd (err_ok e steps g)

-- a text that spells steps spells them wherever it stands
pub steps_free : (bytes : List ℕ) (id from other : ℕ) (proof : List ℕ) (steps : List ProofStep) → spelled bytes id from proof ≡ Ok steps → spelled bytes id other proof ≡ Ok steps
unfolding spelled
steps_free bytes id from other proof steps h = by (begins_list proof (tokens_in (pieces_of proof))) (tokens_in (pieces_of proof)) h
  where
    by : (b : Bool) (tokens : List Token) → (if b then compressed bytes id from proof (drop 1 tokens) else normal bytes id proof tokens) ≡ Ok steps
        → (if b then compressed bytes id other proof (drop 1 tokens) else normal bytes id proof tokens) ≡ Ok steps
    by true tokens g = compressed_free bytes id from other proof (drop 1 tokens) steps g
    by false tokens g = g
