use Rattle.std.proofs.Common.{◌≡◌, ℕ, List, Option, Some, refl, subst, sym}
use Rattle.mm_unify.specs.declared.listing.Settings.{Settings}
use Rattle.mm_plain.specs.Shape.{Proof}
use Rattle.mm_edit.specs.Unifying.{step_unified}
use Rattle.mm_edit_commands.proofs.unify.counted_choice.Goals as goal

-- a number below 1 counts as 1
from_one : (bytes : List ℕ) (set : Settings) (p : Proof) (k : ℕ) → step_unified bytes set p k (Some 1) ≡ step_unified bytes set p k (Some 0)
unfolding step_unified
from_one bytes set p k = refl

pub returns-in-Some-eq0-clause-same : goal.returns-in-Some-eq0-clause-same
returns-in-Some-eq0-clause-same c =
    let a = c.in-Some-eq0.is in
    let b = c.in-Some-eq0.field-0-is in
    let zero : c.args.choice ≡ Some 0 = cc in
    λ bytes set p k. subst (λ (o : Option ℕ). step_unified bytes set p k (Some 1) ≡ step_unified bytes set p k o) (sym zero) (from_one bytes set p k)
