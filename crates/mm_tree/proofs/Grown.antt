-- The size and the height of a tree in which a step is made known.
use Rattle.std.proofs.Common.{◌≡◌, ℕ, ◌+◌, ◌≤◌, max, List, [], ◌∷◌, map, length, refl, ap, ◌∙◌, arith}
use Rattle.std.specs.List.{sum_by}
use Rattle.std.proofs.lemmas.List.Sums.{sum_by-cons}
use Rattle.mm_subst.specs.declared.symbol.WSym.{WSym}
use Rattle.mm_subst.specs.Substitutions.{Pairs, applied}
use Rattle.mm_plain.specs.declared.plain.Plain.{Plain}
use Rattle.mm_plain.specs.Shape.{Proof, unknown, known, unknowns, size_of, height_of, greatest, step_at, depth_at, target_of, placed}
use Rattle.mm_plain.proofs.Equations.{size_of-unknown, size_of-known, height_of-unknown, height_of-known}
use Rattle.mm_plain.proofs.Sizes.{size-put, height-put}
use Rattle.mm_tree.specs.Placed.{levels_over}

pub size-unknowns : (sigma : Pairs) (hyps : List (List WSym)) → sum_by size_of (unknowns sigma hyps) ≡ length hyps
size-unknowns sigma [] = refl
size-unknowns sigma (h ∷ hs) =
    sum_by-cons size_of (unknown (applied sigma h)) (unknowns sigma hs) ∙ omega (arith, size-unknowns sigma hs, size_of-unknown (applied sigma h))

height-all : (sigma : Pairs) (hyps : List (List WSym)) → greatest (map height_of (unknowns sigma hyps)) ≤ 1
height-all sigma [] = omega arith
height-all sigma (h ∷ hs) = omega (arith, height-all sigma hs, height_of-unknown (applied sigma h))

height-unknowns : (sigma : Pairs) (hyps : List (List WSym)) → greatest (map height_of (unknowns sigma hyps)) + 1 ≡ levels_over (length hyps)
height-unknowns sigma [] = refl
height-unknowns sigma (h ∷ hs) = omega (arith, height-all sigma hs, height_of-unknown (applied sigma h))

pub size-placed : (x : Plain) (k id : ℕ) (sigma : Pairs) (hyps : List (List WSym)) → 1 ≤ k → k ≤ size_of x → size_of (step_at x k) ≡ 1
    → size_of (placed x k id sigma hyps) ≡ size_of x + length hyps
size-placed x k id sigma hyps h g f = omega (
  arith,
  size-put (known (target_of (step_at x k)) id sigma (unknowns sigma hyps)) x k h g,
  size_of-known (target_of (step_at x k)) id sigma (unknowns sigma hyps),
  size-unknowns sigma hyps,
  f,
)

pub height-placed : (x : Plain) (k id : ℕ) (sigma : Pairs) (hyps : List (List WSym)) → 1 ≤ k → k ≤ size_of x → size_of (step_at x k) ≡ 1
    → height_of (placed x k id sigma hyps) ≡ max (height_of x) (depth_at x k + levels_over (length hyps))
height-placed x k id sigma hyps h g f = omega (
  arith,
  height-put (known (target_of (step_at x k)) id sigma (unknowns sigma hyps)) x k h g f,
  height_of-known (target_of (step_at x k)) id sigma (unknowns sigma hyps),
  height-unknowns sigma hyps,
)

abbrev pub proof_of : Plain → ℕ → Proof
proof_of plain next = record { plain = plain; next = next }

pub same_proof : (a b : Plain) (m n : ℕ) → a ≡ b → m ≡ n → proof_of a m ≡ proof_of b n
same_proof a b m n e f = ap (λ x. proof_of x m) e ∙ ap (proof_of b) f
