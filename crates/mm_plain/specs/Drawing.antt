-- Fresh work variables for the variables of statements.
use Rattle.std.specs.Prelude.{◌≡◌, ℕ, ◌+◌, true, List, [], ◌∷◌, map, length, drop, get_or, Option, None, Some}
use Rattle.std.specs.List.{sum_by}
use Rattle.mm_subst.specs.declared.symbol.WSym.{WSym}
use Rattle.mm_subst.specs.declared.symbol.WSym.TheVariants.{Var, Work}
use Rattle.mm_subst.specs.Substitutions.{Pairs, applied}
use Rattle.mm_plain.specs.declared.plain.Plain.{Plain}
use Rattle.mm_plain.specs.declared.plain.Plain.TheOpen.{Plain-F}
use Rattle.mm_plain.specs.declared.plain.Plain.TheOpen as P
use Rattle.mm_plain.specs.declared.plain.Plain.TheViews as V
use Rattle.mm_plain.specs.declared.plain.Plain.TheFolds as F
use Rattle.mm_plain.specs.Premises.{premises_of, variables_for, may_stand}
use Rattle.mm_plain.specs.Shape.{Each, Proof, known, unknown, put, step_at, steps_of, target_of}
use Rattle.mm_plain.specs.Numbers.{labels_in}
use Rattle.mm_plain.specs.Valid.{placed_in}
use Rattle.mm_plain.specs.Grafts.{raised}

-- a work variable for each of these variables, by numbers from n on
abbrev pub fresh_from : ℕ → List ℕ → Pairs
fresh_from n [] = []
fresh_from n (v ∷ vs) = (Var v, Work n ∷ []) ∷ fresh_from (n + 1) vs

-- one for each mandatory variable of a statement, in the order of their `$f`
abbrev pub fresh_for : List ℕ → ℕ → ℕ → Pairs
fresh_for bytes n id = fresh_from n (variables_for bytes id)

-- the proof with an unknown step made known by fresh work variables
abbrev pub placed_fresh : List ℕ → Proof → ℕ → ℕ → Proof
placed_fresh bytes p k id = placed_in bytes (raised (length (variables_for bytes id)) p) k id (fresh_for bytes p.next id)

-- how many work variables that needs; an unknown step needs none
abbrev pub draws_by : List ℕ → Option ℕ → ℕ
draws_by bytes None = 0
draws_by bytes (Some id) = length (variables_for bytes id)

-- how many the steps of a tree need
unfoldable pub draws_of : List ℕ → Plain → ℕ
draws_of bytes x = sum_by (draws_by bytes) (labels_in x)

-- children, each with the numbers after those of the one before, and with its own target
abbrev pub fresh_among : List ℕ → List (Plain × (ℕ → List WSym → Plain)) → ℕ → List (List WSym) → List Plain
fresh_among bytes [] n ts = []
fresh_among bytes (e ∷ es) n ts = e.1 n (get_or ts 0 []) ∷ fresh_among bytes es (n + draws_of bytes e.0) (drop 1 ts)

-- A step has the numbers after those of its children, whose targets follow from its substitution.
abbrev pub fresh_step : List ℕ → Plain-F (Plain × (ℕ → List WSym → Plain)) → ℕ → List WSym → Plain
fresh_step bytes (P.Unknown u) n t = unknown t
fresh_step bytes (P.Known u l s es) n t =
    let sigma : Pairs = fresh_for bytes (n + sum_by (λ e. draws_of bytes e.0) es) l in
    known t l sigma (fresh_among bytes es n (map (applied sigma) (premises_of bytes l)))

-- the tree with fresh work variables for the variables of what its steps name, in postorder from n on, and with a target
unfoldable pub with_fresh : List ℕ → Plain → ℕ → List WSym → Plain
with_fresh bytes = F.para-Plain (ℕ → List WSym → Plain) (fresh_step bytes)

-- the same of children
abbrev pub with_fresh_kids : List ℕ → List Plain → ℕ → List (List WSym) → List Plain
with_fresh_kids bytes [] n ts = []
with_fresh_kids bytes (x ∷ xs) n ts = with_fresh bytes x n (get_or ts 0 []) ∷ with_fresh_kids bytes xs (n + draws_of bytes x) (drop 1 ts)

-- the proof in which the subtree at a step has fresh work variables, and its target stays
abbrev pub with_fresh_in : List ℕ → Proof → ℕ → Proof
with_fresh_in bytes p k = record {
  plain = put p.plain k (with_fresh bytes (step_at p.plain k) p.next (target_of (step_at p.plain k)));
  next = p.next + draws_of bytes (step_at p.plain k);
}

abbrev pub fitting_layer : List ℕ → ℕ → Plain-F Plain → Type 0
fitting_layer bytes at (P.Unknown t) = Unit {0}
fitting_layer bytes at (P.Known t l s kids) = (may_stand bytes at l ≡ true) × (length kids ≡ length (premises_of bytes l))

-- a known step names a statement that may stand in the proof, and has a child for each premise
unfoldable pub IsFitting : List ℕ → ℕ → Plain → Type 0
IsFitting bytes at x = fitting_layer bytes at (V.out-Plain x)

-- each step of a tree does
unfoldable pub AreFitting : List ℕ → ℕ → Plain → Type 0
AreFitting bytes at x = Each (IsFitting bytes at) (steps_of x)
