-- What the bindings of a version leave as it is: the shape of a tree.
use Rattle.std.proofs.Common.{◌≡◌, ℕ, ◌+◌, max, List, [], ◌∷◌, ◌++◌, map, length, get_or, refl, sym, ◌∙◌, ap, subst, arith, suc, Option, None, Some, nat_le, if◌then◌else◌, ◌-◌}
use Rattle.std.specs.List.{sum_by, flat_map}
use Rattle.std.proofs.lemmas.List.Sums.{sum_by-cons}
use Rattle.mm_subst.specs.declared.symbol.WSym.{WSym}
use Rattle.mm_subst.specs.Substitutions.{Pairs}
use Rattle.mm_plain.specs.declared.plain.Plain.{Plain}
use Rattle.mm_plain.specs.Shape.{unknown, known, size_of, height_of, depths_of, depth_at, greatest, seat}
use Rattle.mm_plain.specs.Numbers.{labels_in, unknowns_among}
use Rattle.mm_plain.proofs.Equations.{size_of-unknown, size_of-known, height_of-unknown, height_of-known, depths_of-unknown, depths_of-known, sum_by-map, flat_map-map}
use Rattle.mm_plain.proofs.Walks.{labels_in-unknown, labels_in-known}
use Rattle.mm_tree.specs.Lines.{Line}
use Rattle.mm_tree.specs.Meanings.{mean, means, mean-unknown, mean-known, map-map, text_now, sigma_now, unknown_timed, known_timed, count, tall, unknown_count, youngest, youngest_step}
use Rattle.mm_tree.specs.View.{Shared, values, counts}
use Rattle.mm_tree.specs.declared.timed.Text.{Text}
use Rattle.mm_tree.specs.declared.timed.Values.{Values}
use Rattle.mm_tree.specs.declared.timed.TimedTree.{TimedTree}
use Rattle.mm_tree.specs.declared.timed.TimedTree.TheOpen.{TimedTree-F}
use Rattle.mm_tree.specs.declared.timed.TimedTree.TheOpen as T
use Rattle.mm_tree.specs.declared.timed.TimedTree.TheViews as V
use Rattle.mm_tree.specs.declared.timed.TimedTree.TheFolds as F

-- a fact of each of several trees
abbrev pub EachTimed : (TimedTree → Type 0) → List TimedTree → Type 0
EachTimed P [] = Unit {0}
EachTimed P (x ∷ xs) = P x × EachTimed P xs

each_of : (P : TimedTree → Type 0) (es : List ((x : TimedTree) × P x)) → EachTimed P (map (λ e. e.0) es)
each_of P [] = tt
each_of P (e ∷ es) = (e.1, each_of P es)

-- induction over trees, by lists of children
pub by_timed : (P : TimedTree → Type 0) → ((t : Text) → P (unknown_timed t))
    → ((t : Text) (l : ℕ) (s : Values) (kids : List TimedTree) → EachTimed P kids → P (known_timed t l s kids)) → (x : TimedTree) → P x
by_timed P leaf node = F.ind-TimedTree P (λ x y is. subst (λ z. P (V.roll-TimedTree z)) is (step y))
  where
    step : (y : TimedTree-F ((x : TimedTree) × P x)) → P (V.roll-TimedTree (F.map-TimedTree ((x : TimedTree) × P x) TimedTree (λ e. e.0) y))
    step (T.Unknown t) = leaf t
    step (T.Known t l s es) = node t l s (map (λ e. e.0) es) (each_of P es)

-- what a function of plain trees says of a tree where it looks at labels alone
pub record OfShape {A : Type 0} (f : Plain → A) (c : A) (g : ℕ → List A → A) : Type 0 where
  pub leaf : (t : List WSym) → f (unknown t) ≡ c
  pub node : (t : List WSym) (l : ℕ) (s : Pairs) (kids : List Plain) → f (known t l s kids) ≡ g l (map f kids)

shape_kids : {A : Type 0} (f : Plain → A) (a b : Line) (kids : List TimedTree) → EachTimed (λ x. f (mean x a) ≡ f (mean x b)) kids → map f (means a kids) ≡ map f (means b kids)
shape_kids f a b [] h = refl
shape_kids f a b (x ∷ xs) h = ap (λ n. n ∷ map f (means a xs)) h.0 ∙ ap (λ n. f (mean x b) ∷ n) (shape_kids f a b xs h.1)

pub same_shape : {A : Type 0} (f : Plain → A) (c : A) (g : ℕ → List A → A) → OfShape f c g → (a b : Line) (x : TimedTree) → f (mean x a) ≡ f (mean x b)
same_shape f c g h a b = by_timed (λ x. f (mean x a) ≡ f (mean x b))
    (λ t. ap f (mean-unknown t a) ∙ h.leaf (text_now a t) ∙ sym (ap f (mean-unknown t b) ∙ h.leaf (text_now b t)))
    (λ t l s kids e. ap f (mean-known t l s kids a) ∙ h.node (text_now a t) l (sigma_now a s) (means a kids) ∙ ap (g l) (shape_kids f a b kids e)
    ∙ sym (ap f (mean-known t l s kids b) ∙ h.node (text_now b t) l (sigma_now b s) (means b kids)))

pub size_of-mean : (line : Line) (x : TimedTree) → size_of (mean x line) ≡ count x
unfolding count
size_of-mean line x = same_shape size_of 1 (λ l ns. sum_by (λ (n : ℕ). n) ns + 1)
    (record { leaf = size_of-unknown; node = λ t l s kids. size_of-known t l s kids ∙ ap (λ (n : ℕ). n + 1) (sym (sum_by-map (λ (n : ℕ). n) size_of kids)) }) line [] x

pub height_of-mean : (line : Line) (x : TimedTree) → height_of (mean x line) ≡ tall x
unfolding tall
height_of-mean line x = same_shape height_of 1 (λ l ns. greatest ns + 1) (record { leaf = height_of-unknown; node = height_of-known }) line [] x

pub labels_in-mean : (line : Line) (x : TimedTree) → labels_in (mean x line) ≡ labels_in (mean x [])
labels_in-mean line x = same_shape labels_in (None ∷ []) (λ l ns. flat_map (λ (n : List (Option ℕ)). n) ns ++ (Some l ∷ []))
    (record { leaf = labels_in-unknown; node = λ t l s kids. labels_in-known t l s kids ∙ ap (λ (n : List (Option ℕ)). n ++ (Some l ∷ [])) (sym (flat_map-map (λ (n : List (Option ℕ)). n) labels_in kids)) }) line [] x

pub unknowns-mean : (line : Line) (x : TimedTree) → unknowns_among (labels_in (mean x line)) ≡ unknown_count x
unfolding unknown_count
unknowns-mean line x = ap unknowns_among (labels_in-mean line x)

pub depths_of-mean : (line : Line) (x : TimedTree) → depths_of (mean x line) ≡ depths_of (mean x [])
depths_of-mean line x = same_shape depths_of (λ d. d ∷ []) (λ l ns d. flat_map (λ (n : ℕ → List ℕ). n (d + 1)) ns ++ (d ∷ []))
    (record {
      leaf = λ t i d. depths_of-unknown t d i;
      node = λ t l s kids i d. (depths_of-known t l s kids d ∙ ap (λ (n : List ℕ). n ++ (d ∷ [])) (sym (flat_map-map (λ (n : ℕ → List ℕ). n (d + 1)) depths_of kids))) i;
    }) line [] x

pub depth_at-mean : (line : Line) (x : TimedTree) (k : ℕ) → depth_at (mean x line) k ≡ depth_at (mean x []) k
depth_at-mean line x k = ap (λ (f : ℕ → List ℕ). get_or (f 0) (k - 1) 0) (depths_of-mean line x)

pub sizes-means : (line : Line) (kids : List TimedTree) → sum_by size_of (means line kids) ≡ sum_by count kids
sizes-means line [] = refl
sizes-means line (x ∷ xs) = sum_by-cons size_of (mean x line) (means line xs) ∙ omega (arith, size_of-mean line x, sizes-means line xs, sum_by-cons count x xs)

pub counts-values : (kids : List Shared) → sum_by count (values kids) ≡ counts kids
counts-values kids = sum_by-map count (λ (r : Shared). r.value) kids

pub length-means : (line : Line) (kids : List TimedTree) → length (means line kids) ≡ length kids
length-means line [] = refl
length-means line (x ∷ xs) = ap suc (length-means line xs)

pub length-values : (kids : List Shared) → length (values kids) ≡ length kids
length-values [] = refl
length-values (x ∷ xs) = ap suc (length-values xs)

-- a step has the same seat among the children, whatever the bindings
pub seat-means : (a b : Line) (xs : List TimedTree) (k : ℕ) → seat (means a xs) k ≡ seat (means b xs) k
seat-means a b [] k = refl
seat-means a b (x ∷ xs) k =
    ap (λ (n : ℕ). if nat_le k n then (0, k) else ((seat (means a xs) (k - n)).0 + 1, (seat (means a xs) (k - n)).1)) (size_of-mean a x ∙ sym (size_of-mean b x))
    ∙ ap (λ (p : ℕ × ℕ). if nat_le k (size_of (mean x b)) then (0, k) else (p.0 + 1, p.1)) (seat-means a b xs (k - size_of (mean x b)))

pub youngest-unknown : (t : Text) → youngest (unknown_timed t) ≡ t.birth
unfolding youngest
youngest-unknown t = F.fold-roll-TimedTree ℕ youngest_step (T.Unknown t)

pub youngest-known : (t : Text) (l : ℕ) (s : Values) (kids : List TimedTree) → youngest (known_timed t l s kids) ≡ max t.birth (max s.birth (greatest (map youngest kids)))
unfolding youngest
youngest-known t l s kids = F.fold-roll-TimedTree ℕ youngest_step (T.Known t l s kids)

pub tall-unknown : (t : Text) → tall (unknown_timed t) ≡ 1
unfolding tall
tall-unknown t = ap height_of (mean-unknown t []) ∙ height_of-unknown (text_now [] t)

pub tall-known : (t : Text) (l : ℕ) (s : Values) (kids : List TimedTree) → tall (known_timed t l s kids) ≡ greatest (map tall kids) + 1
unfolding tall
tall-known t l s kids = ap height_of (mean-known t l s kids []) ∙ height_of-known (text_now [] t) l (sigma_now [] s) (means [] kids)
    ∙ ap (λ (n : List ℕ). greatest n + 1) (map-map height_of (λ (x : TimedTree). mean x []) kids)
