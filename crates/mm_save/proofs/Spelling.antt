-- The steps that a proof tree spells, as the encoder takes them.
use Rattle.std.proofs.Common.{◌≡◌, ℕ, Bool, true, false, cond, List, [], ◌∷◌, map, Option, None, Some, All, sym, subst}
use Rattle.std.proofs.lemmas.List.Elements.{recursion_from_All}
use Rattle.std.specs.List.{AllByRecursion as ByRecursion}
use Rattle.mm_scope.specs.Contents.{stated_at}
use Rattle.mm_stated.specs.Stated.{is_hypothesis}
use Rattle.mm_plain.specs.Numbers.{IsOwnLabel}
use Rattle.mm_proof.specs.Steps.{IsLinked, IsOwn}
use Rattle.mm_proof.specs.declared.step.ProofStep.{ProofStep}
use Rattle.mm_proof.specs.declared.step.StepKind.{StepKind}
use Rattle.mm_proof.specs.declared.step.StepKind.TheVariants.{Hyp, Apply}
use Rattle.mm_sound.specs.Complete.{kind_for, step_for}

-- no such step refers back
pub is_linked : (bytes : List ℕ) (done : List ProofStep) (o : Option ℕ) (kind : StepKind) → kind ≡ kind_for bytes o → IsLinked done kind
is_linked bytes done o kind e = subst (IsLinked done) (sym e) (at o)
  where
    by : (l : ℕ) (b : Bool) → IsLinked done (cond b (Hyp (record { 0 = l })) (Apply (record { 0 = l })))
    by l true = tt
    by l false = tt

    at : (p : Option ℕ) → IsLinked done (kind_for bytes p)
    at None = tt
    at (Some l) = by l (is_hypothesis (stated_at bytes l).kind)

own_kind : (bytes : List ℕ) (o : Option ℕ) → IsOwnLabel bytes o → IsOwn bytes (kind_for bytes o)
own_kind bytes None h = tt
own_kind bytes (Some l) h = by (is_hypothesis (stated_at bytes l).kind)
  where
    by : (b : Bool) → IsOwn bytes (cond b (Hyp (record { 0 = l })) (Apply (record { 0 = l })))
    by true = h
    by false = h

own_by : (bytes : List ℕ) (os : List (Option ℕ)) → ByRecursion (IsOwnLabel bytes) os → ByRecursion (λ (s : ProofStep). IsOwn bytes s.kind) (map (step_for bytes) os)
own_by bytes [] h = tt
own_by bytes (o ∷ os) h = (own_kind bytes o h.0, own_by bytes os h.1)

-- each names a statement of the database, where the labels do
pub own_steps : (bytes : List ℕ) (os : List (Option ℕ)) → All (IsOwnLabel bytes) os → ByRecursion (λ (s : ProofStep). IsOwn bytes s.kind) (map (step_for bytes) os)
own_steps bytes os h = own_by bytes os (recursion_from_All (IsOwnLabel bytes) os h)
