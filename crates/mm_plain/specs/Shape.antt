-- Plain trees: their steps in postorder, the depth of each, and a tree with one step replaced.
use Rattle.std.specs.Prelude.{ℕ, ◌+◌, ◌-◌, max, List, [], ◌∷◌, ◌++◌, map, nat_le, if◌then◌else◌, get_or}
use Rattle.std.specs.List.{flat_map, sum_by}
use Rattle.mm_subst.specs.declared.symbol.WSym.{WSym}
use Rattle.mm_subst.specs.Substitutions.{Pairs, applied}
use Rattle.mm_plain.specs.declared.plain.Plain.{Plain}
use Rattle.mm_plain.specs.declared.plain.Plain.TheOpen.{Plain-F}
use Rattle.mm_plain.specs.declared.plain.Plain.TheOpen as P
use Rattle.mm_plain.specs.declared.plain.Plain.TheViews as V
use Rattle.mm_plain.specs.declared.plain.Plain.TheFolds as F

abbrev pub unknown : List WSym → Plain
unknown t = V.roll-Plain (P.Unknown t)

abbrev pub known : List WSym → ℕ → Pairs → List Plain → Plain
known t l s kids = V.roll-Plain (P.Known t l s kids)

-- one layer, with the number of steps of each child
abbrev pub size_step : Plain-F ℕ → ℕ
size_step (P.Unknown t) = 1
size_step (P.Known t l s ns) = sum_by (λ n. n) ns + 1

-- the number of steps
unfoldable pub size_of : Plain → ℕ
size_of = F.fold-Plain ℕ size_step

-- one layer, with each child and its steps
abbrev pub steps_step : Plain-F (Plain × List Plain) → List Plain
steps_step (P.Unknown t) = unknown t ∷ []
steps_step (P.Known t l s es) = flat_map (λ e. e.1) es ++ (known t l s (map (λ e. e.0) es) ∷ [])

-- the subtrees in postorder, which are the steps
unfoldable pub steps_of : Plain → List Plain
steps_of = F.para-Plain (List Plain) steps_step

-- the subtree at a step, counted from 1
abbrev pub step_at : Plain → ℕ → Plain
step_at t k = get_or (steps_of t) (k - 1) t

abbrev pub depths_step : Plain-F (ℕ → List ℕ) → ℕ → List ℕ
depths_step (P.Unknown t) d = d ∷ []
depths_step (P.Known t l s fs) d = flat_map (λ f. f (d + 1)) fs ++ (d ∷ [])

-- how many steps are above each step, in postorder, where d are above the root
unfoldable pub depths_of : Plain → ℕ → List ℕ
depths_of = F.fold-Plain (ℕ → List ℕ) depths_step

abbrev pub put_among : List (Plain × (ℕ → Plain → Plain)) → ℕ → Plain → List Plain
put_among [] k new = []
put_among (e ∷ es) k new = if nat_le k (size_of e.0) then (e.1 k new ∷ map (λ e. e.0) es) else (e.0 ∷ put_among es (k - size_of e.0) new)

abbrev pub put_step : Plain-F (Plain × (ℕ → Plain → Plain)) → ℕ → Plain → Plain
put_step (P.Unknown t) k new = new
put_step (P.Known t l s es) k new =
    if nat_le k (sum_by (λ e. size_of e.0) es) then known t l s (put_among es k new) else new

-- the tree with the subtree at step k replaced
unfoldable pub put : Plain → ℕ → Plain → Plain
put = F.para-Plain (ℕ → Plain → Plain) put_step

-- the same among the children of a step
abbrev pub put_kids : List Plain → ℕ → Plain → List Plain
put_kids [] k new = []
put_kids (x ∷ xs) k new = if nat_le k (size_of x) then (put x k new ∷ xs) else (x ∷ put_kids xs (k - size_of x) new)

abbrev pub target_step : {A : Type 0} → Plain-F A → List WSym
target_step (P.Unknown t) = t
target_step (P.Known t l s kids) = t

-- the string that a step proves
unfoldable pub target_of : Plain → List WSym
target_of x = target_step (V.out-Plain x)

-- the index of the child that holds step k, and the number that the step has there
abbrev pub seat : List Plain → ℕ → ℕ × ℕ
seat [] k = (0, k)
seat (x ∷ xs) k = if nat_le k (size_of x) then (0, k) else ((seat xs (k - size_of x)).0 + 1, (seat xs (k - size_of x)).1)

-- the greatest number
abbrev pub greatest : List ℕ → ℕ
greatest [] = 0
greatest (n ∷ ns) = max n (greatest ns)

abbrev pub height_step : Plain-F ℕ → ℕ
height_step (P.Unknown t) = 1
height_step (P.Known t l s ns) = greatest ns + 1

-- the number of levels
unfoldable pub height_of : Plain → ℕ
height_of = F.fold-Plain ℕ height_step

-- the steps above a step
abbrev pub depth_at : Plain → ℕ → ℕ
depth_at x k = get_or (depths_of x 0) (k - 1) 0

-- a fact of each tree of a list
abbrev pub Each : (Plain → Type 0) → List Plain → Type 0
Each P [] = Unit {0}
Each P (x ∷ xs) = P x × Each P xs

-- a plain proof: a tree, and the number of the next work variable
pub record Proof : Type 0 where
  pub plain : Plain
  pub next : ℕ

-- unknown steps for strings under a substitution
abbrev pub unknowns : Pairs → List (List WSym) → List Plain
unknowns sigma premises = map (λ (h : List WSym). unknown (applied sigma h)) premises

-- the tree with an unknown step made known, over an unknown step for each premise of what it names
abbrev pub placed : Plain → ℕ → ℕ → Pairs → List (List WSym) → Plain
placed x k id sigma premises = put x k (known (target_of (step_at x k)) id sigma (unknowns sigma premises))
