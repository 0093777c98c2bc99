-- The plain tree that a tree with births is under the bindings of a version.
use Rattle.std.specs.Prelude.{◌≡◌, ℕ, max, Bool, ◌||◌, List, [], ◌∷◌, map, refl}
use Rattle.std.proofs.Common.{◌∙◌, ap}
use Rattle.std.specs.List.{list_any}
use Rattle.mm_subst.specs.declared.symbol.WSym.{WSym}
use Rattle.mm_subst.specs.Substitutions.{Pairs}
use Rattle.mm_subst.specs.Symbols.{has_work}
use Rattle.mm_plain.specs.declared.plain.Plain.{Plain}
use Rattle.mm_plain.specs.Shape.{unknown, known, size_of, height_of, greatest}
use Rattle.mm_plain.specs.Numbers.{labels_in, unknowns_among}
use Rattle.mm_tree.specs.Lines.{Line, string_now, values_now}
use Rattle.mm_tree.specs.declared.timed.Text.{Text}
use Rattle.mm_tree.specs.declared.timed.Values.{Values}
use Rattle.mm_tree.specs.declared.timed.TimedTree.{TimedTree}
use Rattle.mm_tree.specs.declared.timed.TimedTree.TheOpen.{TimedTree-F}
use Rattle.mm_tree.specs.declared.timed.TimedTree.TheOpen as T
use Rattle.mm_tree.specs.declared.timed.TimedTree.TheViews as V
use Rattle.mm_tree.specs.declared.timed.TimedTree.TheFolds as F

abbrev pub unknown_timed : Text → TimedTree
unknown_timed t = V.roll-TimedTree (T.Unknown t)

abbrev pub known_timed : Text → ℕ → Values → List TimedTree → TimedTree
known_timed t l s kids = V.roll-TimedTree (T.Known t l s kids)

abbrev pub text_now : Line → Text → List WSym
text_now line t = string_now line t.birth t.string

abbrev pub sigma_now : Line → Values → Pairs
sigma_now line s = values_now line s.birth s.pairs

abbrev pub mean_step : TimedTree-F (Line → Plain) → Line → Plain
mean_step (T.Unknown t) line = unknown (text_now line t)
mean_step (T.Known t l s kids) line = known (text_now line t) l (sigma_now line s) (map (λ (k : Line → Plain). k line) kids)

-- the plain tree under the bindings of a version
unfoldable pub mean : TimedTree → Line → Plain
mean = F.fold-TimedTree (Line → Plain) mean_step

abbrev pub means : Line → List TimedTree → List Plain
means line kids = map (λ x. mean x line) kids

abbrev pub youngest_step : TimedTree-F ℕ → ℕ
youngest_step (T.Unknown t) = t.birth
youngest_step (T.Known t l s kids) = max t.birth (max s.birth (greatest kids))

-- the greatest birth
unfoldable pub youngest : TimedTree → ℕ
youngest = F.fold-TimedTree ℕ youngest_step

abbrev pub has_values_with_work : Pairs → Bool
has_values_with_work ps = list_any (λ (p : WSym × List WSym). has_work p.1) ps

abbrev pub is_live_step : TimedTree-F Bool → Bool
is_live_step (T.Unknown t) = has_work t.string
is_live_step (T.Known t l s kids) = has_work t.string || (has_values_with_work s.pairs || list_any (λ b. b) kids)

-- whether any string has a work variable
unfoldable pub is_live : TimedTree → Bool
is_live = F.fold-TimedTree Bool is_live_step

-- What does not depend on bindings: how many steps there are, how many levels, and how many unknown steps.
unfoldable pub count : TimedTree → ℕ
count x = size_of (mean x [])

unfoldable pub tall : TimedTree → ℕ
tall x = height_of (mean x [])

unfoldable pub unknown_count : TimedTree → ℕ
unknown_count x = unknowns_among (labels_in (mean x []))

pub map-map : {X Y Z : Type 0} (f : Y → Z) (g : X → Y) (xs : List X) → map f (map g xs) ≡ map (λ x. f (g x)) xs
map-map f g [] = refl
map-map f g (x ∷ xs) = ap (λ n. f (g x) ∷ n) (map-map f g xs)

pub mean-unknown : (t : Text) (line : Line) → mean (unknown_timed t) line ≡ unknown (text_now line t)
unfolding mean
mean-unknown t line = ap (λ (f : Line → Plain). f line) (F.fold-roll-TimedTree (Line → Plain) mean_step (T.Unknown t))

pub mean-known : (t : Text) (l : ℕ) (s : Values) (kids : List TimedTree) (line : Line)
    → mean (known_timed t l s kids) line ≡ known (text_now line t) l (sigma_now line s) (means line kids)
unfolding mean
mean-known t l s kids line = ap (λ (f : Line → Plain). f line) (F.fold-roll-TimedTree (Line → Plain) mean_step (T.Known t l s kids))
    ∙ ap (known (text_now line t) l (sigma_now line s)) (map-map (λ (k : Line → Plain). k line) mean kids)
