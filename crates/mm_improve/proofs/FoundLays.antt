-- The proof of a goal is laid out as its chosen one, or as that by a use.
use Rattle.std.proofs.Common.{◌≡◌, ◌⊎◌, ℕ, Bool, true, false, List, Option, None, Some, Result, Ok, Err, refl, sym, ◌∙◌, ap, subst, inl, inr}
use Rattle.std.proofs.lemmas.Bool.{false≢true, true≢false}
use Rattle.mm_subst.specs.declared.symbol.WSym.{WSym}
use Rattle.mm_plain.specs.declared.plain.Plain.{Plain}
use Rattle.mm_plain.specs.Lengths.{is_long}
use Rattle.mm_tree.specs.declared.plan.Plan.{Plan}
use Rattle.mm_improve.specs.Assertions.{Terms}
use Rattle.mm_improve.specs.Laying.{IsCounted, LaysFound}
use Rattle.mm_chart.specs.Options.{is_there}
use Rattle.mm_improve.specs.Proving.{chosen_tree, proof_of}
use Rattle.mm_improve.specs.declared.fault.ImproveFault.{ImproveFault}
use Rattle.mm_improve.specs.declared.fault.ImproveFault.TheVariants.{TooManySteps, TooDeep, Memory}
use Rattle.mm_improve.proofs.FoundProofs.{found_chosen}

-- ## What is told of a layout

pub lays-there : (old new : Plan) (o : Option Plain) (left : ℕ) → LaysFound old o left (Ok true) new → is_there o ≡ true
lays-there old new None left h = absurd (true≢false h.0)
lays-there old new (Some x) left h = refl

pub lays-nothing : (old new : Plan) (o : Option Plain) (left : ℕ) → LaysFound old o left (Ok false) new → (o ≡ None) × (new ≡ old)
lays-nothing old new None left h = (refl, h.1)
lays-nothing old new (Some x) left h = absurd (false≢true h.0)

pub lays-memory : (old new : Plan) (o : Option Plain) (left : ℕ) → LaysFound old o left (Err Memory) new
lays-memory old new None left = tt
lays-memory old new (Some x) left = tt

pub lays-none : (old new : Plan) (o : Option Plain) (left : ℕ) → o ≡ None → new ≡ old → LaysFound old o left (Ok false) new
lays-none old new None left e same = (refl, same)
lays-none old new (Some x) left e same = absurd (cc)

pub lays-same : (old new : Plan) (o p : Option Plain) (left : ℕ) (r : Result Bool ImproveFault) → o ≡ p → LaysFound old o left r new → LaysFound old p left r new
lays-same old new o p left r e h = let P : Option Plain → Type 0 = λ o. LaysFound old o left r new in subst P e h

pub lays-behind : (old now new : Plan) (o : Option Plain) (left : ℕ) (r : Result Bool ImproveFault) → now ≡ old → LaysFound now o left r new → LaysFound old o left r new
lays-behind old now new o left r e h = let P : Plan → Type 0 = λ p. LaysFound p o left r new in subst P e h

err-there : (old new : Plan) (o : Option Plain) (left : ℕ) (f : ImproveFault) → LaysFound old o left (Err f) new → (f ≡ Memory) ⊎ (is_there o ≡ true)
err-there old new None left TooManySteps h = absurd h
err-there old new None left TooDeep h = absurd h
err-there old new None left Memory h = inl refl
err-there old new (Some x) left f h = inr refl

module _ (c : Terms) (d : ℕ) (g : List WSym) (short : is_long g ≡ false) where
  pub lays-chosen : (old new : Plan) (left : ℕ) → LaysFound old (chosen_tree c g) left (Ok true) new → LaysFound old (proof_of c d g) left (Ok true) new
  lays-chosen old new left h = lays-same old new (chosen_tree c g) (proof_of c d g) left (Ok true) (sym (found_chosen c d g short (lays-there old new (chosen_tree c g) left h))) h

  pub fails-chosen : (old new : Plan) (left : ℕ) (f : ImproveFault) → LaysFound old (chosen_tree c g) left (Err f) new → LaysFound old (proof_of c d g) left (Err f) new
  fails-chosen old new left f h = elim (err-there old new (chosen_tree c g) left f h) [
    | inl e ↦ let P : ImproveFault → Type 0 = λ f. LaysFound old (proof_of c d g) left (Err f) new in subst P (sym e) (lays-memory old new (proof_of c d g) left)
    | inr t ↦ lays-same old new (chosen_tree c g) (proof_of c d g) left (Err f) (sym (found_chosen c d g short t)) h
  ]

-- ## What is told of a count

pub counts-none : (o : Option Plain) (n : ℕ) → o ≡ None → IsCounted o (Ok n)
counts-none o n e = λ x h. absurd (let z : Some x ≡ None = sym h ∙ e in cc)

pub counts-same : (o p : Option Plain) (r : Result ℕ ImproveFault) → o ≡ p → IsCounted o r → IsCounted p r
counts-same o p r e h = subst (λ o. IsCounted o r) e h

-- ## Faults that are handed on

pub counts-err : (o : Option Plain) (r : Result ℕ ImproveFault) (f : ImproveFault) → r ≡ Err f → IsCounted o (Err f) → IsCounted o r
counts-err o r f e h = subst (λ r. IsCounted o r) (sym e) h

pub lays-err : (old new : Plan) (o : Option Plain) (left : ℕ) (r : Result Bool ImproveFault) (f : ImproveFault) → r ≡ Err f → LaysFound old o left (Err f) new → LaysFound old o left r new
lays-err old new o left r f e h = let P : Result Bool ImproveFault → Type 0 = λ r. LaysFound old o left r new in subst P (sym e) h
