-- The tree of a list of labels in postorder, and the proof that loading begins with.
use Rattle.std.specs.Prelude.{◌≡◌, ℕ, ◌+◌, ◌-◌, true, List, [], ◌∷◌, ◌++◌, length, take, drop, nat_le, Option, None, Some, if◌then◌else◌}
use Rattle.std.specs.Option.{option_map}
use Rattle.mm_subst.specs.declared.symbol.WSym.{WSym}
use Rattle.mm_subst.specs.Substitutions.{Pairs}
use Rattle.mm_plain.specs.declared.plain.Plain.{Plain}
use Rattle.mm_plain.specs.declared.plain.Plain.TheOpen.{Plain-F}
use Rattle.mm_plain.specs.declared.plain.Plain.TheOpen as P
use Rattle.mm_plain.specs.declared.plain.Plain.TheFolds as F
use Rattle.mm_plain.specs.Premises.{may_stand, premises_of, variables_for}
use Rattle.mm_plain.specs.Shape.{Proof, known, unknown}
use Rattle.mm_plain.specs.Drawing.{draws_of, fresh_for, with_fresh}

-- how many trees a label takes: one for each premise of what it names
abbrev pub takes : List ℕ → Option ℕ → ℕ
takes bytes None = 0
takes bytes (Some id) = length (premises_of bytes id)

-- a tree of this label over these trees, without strings
abbrev pub tree_over : Option ℕ → List Plain → Plain
tree_over None kids = unknown []
tree_over (Some id) kids = known [] id [] kids

-- the trees that stand after one label more: it takes the last of them
abbrev pub with_label : List ℕ → List Plain → Option ℕ → List Plain
with_label bytes xs o =
    let kept : ℕ = length xs - takes bytes o in
    take kept xs ++ tree_over o (drop kept xs) ∷ []

-- and after several; None where a label would take more than there are
abbrev pub with_labels : List ℕ → List Plain → List (Option ℕ) → Option (List Plain)
with_labels bytes xs [] = Some xs
with_labels bytes xs (o ∷ os) = if nat_le (takes bytes o) (length xs) then with_labels bytes (with_label bytes xs o) os else None

abbrev pub only_one : List Plain → Option Plain
only_one [] = None
only_one (x ∷ []) = Some x
only_one (x ∷ y ∷ xs) = None

abbrev pub only_of : Option (List Plain) → Option Plain
only_of None = None
only_of (Some xs) = only_one xs

-- the one tree that labels fold to, without strings; None where they don't
unfoldable pub tree_of : List ℕ → List (Option ℕ) → Option Plain
tree_of bytes labels = only_of (with_labels bytes [] labels)

-- a proof of a goal by a tree, with fresh work variables
abbrev pub fresh_proof : List ℕ → List WSym → Plain → Proof
fresh_proof bytes goal x = record { plain = with_fresh bytes x 1 goal; next = 1 + draws_of bytes x }

-- by the tree of labels
abbrev pub fresh_proof_of : List ℕ → List WSym → List (Option ℕ) → Option Proof
fresh_proof_of bytes goal labels = option_map (fresh_proof bytes goal) (tree_of bytes labels)

-- a label may stand in the proof of a theorem
abbrev pub MayStand : List ℕ → ℕ → Option ℕ → Type 0
MayStand bytes at None = Unit {0}
MayStand bytes at (Some id) = may_stand bytes at id ≡ true

-- the substitutions of steps with these labels, by numbers from n on
abbrev pub fresh_by : List ℕ → ℕ → List (Option ℕ) → List Pairs
fresh_by bytes n [] = []
fresh_by bytes n (None ∷ os) = [] ∷ fresh_by bytes n os
fresh_by bytes n (Some id ∷ os) = fresh_for bytes n id ∷ fresh_by bytes (n + length (variables_for bytes id)) os

abbrev pub bare_step : Plain-F Plain → Plain
bare_step (P.Unknown t) = unknown []
bare_step (P.Known t l s kids) = known [] l [] kids

-- a tree without its strings
unfoldable pub bare : Plain → Plain
bare = F.fold-Plain Plain bare_step
