-- Trees by their rows: what each step has besides its children, in postorder.
use Rattle.std.specs.Prelude.{ℕ, ◌-◌, List, [], ◌∷◌, ◌++◌, map, length, take, drop, get_or, reverse, Option, None, Some}
use Rattle.mm_subst.specs.declared.symbol.WSym.{WSym}
use Rattle.mm_subst.specs.Substitutions.{Pairs, applied}
use Rattle.mm_plain.specs.declared.plain.Plain.{Plain}
use Rattle.mm_plain.specs.Premises.{premises_of, variables_for}
use Rattle.mm_plain.specs.Shape.{known, unknown, steps_of, target_of}
use Rattle.mm_plain.specs.Sources.{label_of, sigma_of}
use Rattle.mm_plain.specs.Drawing.{fresh_for}
use Rattle.mm_plain.specs.LabelTrees.{takes}

-- the string that a step proves, what it names, and what stands for the variables of that
pub record Row : Type 0 where
  pub target : List WSym
  pub label : Option ℕ
  pub sigma : Pairs

abbrev pub row_of : Plain → Row
row_of y = record { target = target_of y; label = label_of y; sigma = sigma_of y }

-- the rows of a tree
abbrev pub rows_of : Plain → List Row
rows_of x = map row_of (steps_of x)

abbrev pub tree_with : List WSym → Option ℕ → Pairs → List Plain → Plain
tree_with t None s kids = unknown t
tree_with t (Some id) s kids = known t id s kids

-- the trees that stand after one row more: it takes the last of them as its children
abbrev pub with_row : List ℕ → List Plain → Row → List Plain
with_row bytes xs r =
    let kept : ℕ = length xs - takes bytes r.label in
    take kept xs ++ tree_with r.target r.label r.sigma (drop kept xs) ∷ []

-- and after several
abbrev pub with_rows : List ℕ → List Plain → List Row → List Plain
with_rows bytes xs [] = xs
with_rows bytes xs (r ∷ rs) = with_rows bytes (with_row bytes xs r) rs

-- The rows of labels, both from the last to the first. The first of the targets is that of the next row; the numbers of
-- its work variables end before n. A known row's children come next, the last of them first.
abbrev pub fresh_rows : List ℕ → ℕ → List (List WSym) → List (Option ℕ) → List Row
fresh_rows bytes n ts [] = []
fresh_rows bytes n ts (None ∷ os) = record { target = get_or ts 0 []; label = None; sigma = [] } ∷ fresh_rows bytes n (drop 1 ts) os
fresh_rows bytes n ts (Some id ∷ os) =
    let m : ℕ = n - length (variables_for bytes id) in
    let sigma : Pairs = fresh_for bytes m id in
    record { target = get_or ts 0 []; label = Some id; sigma = sigma } ∷ fresh_rows bytes m (reverse (map (applied sigma) (premises_of bytes id)) ++ drop 1 ts) os
