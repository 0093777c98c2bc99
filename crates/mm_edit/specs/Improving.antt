-- IMPROVE: unknown steps are replaced by proofs of what they are to prove.
use Rattle.std.specs.Prelude.{◌≡◌, ℕ, ◌+◌, ◌-◌, ◌==◌, Bool, not, ◌&&◌, List, [], ◌∷◌, Option, None, Some, Result, Ok, is_none, is_some, nat_lt, count_by, if◌then◌else◌}
use Rattle.std.specs.List.{range_with_len}
use Rattle.mm_base.specs.Refusals.{unless, given, found_or}
use Rattle.mm_subst.specs.declared.symbol.WSym.{WSym}
use Rattle.mm_subst.specs.Symbols.{has_work}
use Rattle.mm_plain.specs.declared.plain.Plain.{Plain}
use Rattle.mm_plain.specs.declared.plain.Plain.TheOpen.{Plain-F}
use Rattle.mm_plain.specs.declared.plain.Plain.TheOpen as P
use Rattle.mm_plain.specs.declared.plain.Plain.TheFolds as F
use Rattle.mm_plain.specs.Grafts.{grafted_in}
use Rattle.mm_plain.specs.Shape.{Proof, unknown, known, size_of, height_of, steps_of, step_at, target_of}
use Rattle.mm_plain.specs.Sources.{label_of}
use Rattle.mm_plain.specs.Valid.{IsString, first_setting, most_steps, most_levels}
use Rattle.mm_improve.specs.Proofs.{IsProofFor}
use Rattle.mm_edit.specs.Steps.{has_step, is_unknown, has_many, is_deep}
use Rattle.mm_edit.specs.declared.edit_fault.EditFault.{EditFault}
use Rattle.mm_edit.specs.declared.edit_fault.EditFault.TheVariants.{NoSuchStep, StepKnown, HasWork, NothingChanged, TooManySteps, TooDeep}

-- the proof of each string that has one
abbrev pub ProofMap : Type 0
ProofMap = List WSym → Option Plain

-- the proof with a tree in the place of a step, where neither the tree nor then the whole is too large
abbrev pub filled_with : Proof → ℕ → Plain → Result Proof EditFault
filled_with p k x =
    unless (
    (nat_lt most_steps (size_of x), TooManySteps)
    ∷ (nat_lt most_levels (height_of x), TooDeep)
    ∷ (has_many (grafted_in p k x), TooManySteps)
    ∷ (is_deep (grafted_in p k x), TooDeep)
    ∷ [])
    (Ok (grafted_in p k x))

-- ## One step

-- the proof in which an unknown step without work variables is replaced by the proof of its target
unfoldable pub improved : ProofMap → Proof → ℕ → Result Proof EditFault
improved prove p k =
    unless (
    (not (has_step p.plain k), NoSuchStep)
    ∷ (not (is_unknown p.plain k), StepKnown)
    ∷ (has_work (target_of (step_at p.plain k)), HasWork)
    ∷ [])
    (given (found_or (prove (target_of (step_at p.plain k))) NothingChanged) (filled_with p k))

-- ## All steps

-- whether a step is unknown and has no work variables
abbrev pub is_goal : Plain → Bool
is_goal y = is_none (label_of y) && not (has_work (target_of y))

-- the proof that such a step gets, where there is one
abbrev pub proof_for : ProofMap → Plain → Option Plain
proof_for prove y = if is_goal y then prove (target_of y) else None

-- how many steps get one
abbrev pub proved_count : ProofMap → Plain → ℕ
proved_count prove x = count_by (λ y. is_some (proof_for prove y)) (steps_of x)

abbrev pub filled_by : Option Plain → Proof → ℕ → Result Proof EditFault
filled_by None p k = Ok p
filled_by (Some x) p k = filled_with p k x

-- a step replaced by its proof, where it gets one
abbrev pub filled_at : ProofMap → Proof → ℕ → Result Proof EditFault
filled_at prove p k = filled_by (proof_for prove (step_at p.plain k)) p k

-- the number that a step of the tree x has once earlier steps are replaced: as many more as the tree has gained
abbrev pub number_after : Plain → Plain → ℕ → ℕ
number_after x y k = k + (size_of y - size_of x)

-- these steps of the tree x replaced by their proofs in turn, each in the tree that the earlier ones left
abbrev pub filled_in_turn : ProofMap → Plain → Proof → List ℕ → Result Proof EditFault
filled_in_turn prove x p [] = Ok p
filled_in_turn prove x p (k ∷ ks) = given (filled_at prove p (number_after x p.plain k)) (λ q. filled_in_turn prove x q ks)

-- the proof in which each step that gets a proof is replaced by it, in order
unfoldable pub all_filled : ProofMap → Proof → Result Proof EditFault
all_filled prove p = filled_in_turn prove p.plain p (range_with_len 1 (size_of p.plain))

-- the same, where some step gets one
unfoldable pub all_improved : ProofMap → Proof → Result Proof EditFault
all_improved prove p = unless ((proved_count prove p.plain == 0, NothingChanged) ∷ []) (all_filled prove p)

-- ## What this does to the tree

abbrev pub or_unknown : Option Plain → List WSym → Plain
or_unknown None t = unknown t
or_unknown (Some x) t = x

abbrev pub filled_step : ProofMap → Plain-F Plain → Plain
filled_step prove (P.Unknown t) = or_unknown (proof_for prove (unknown t)) t
filled_step prove (P.Known t l s kids) = known t l s kids

-- the tree in which each unknown step that gets a proof is replaced by it, and all else stays
unfoldable pub filled : ProofMap → Plain → Plain
filled prove = F.fold-Plain Plain (filled_step prove)

-- what strings of the database without work variables have are proofs of them
abbrev pub MapsToProofs : List ℕ → ℕ → ProofMap → Type 0
MapsToProofs bytes at prove = (goal : List WSym) (x : Plain) → IsString (first_setting bytes at) goal → prove goal ≡ Some x → IsProofFor bytes at goal x
