-- A proof that is laid out as a whole by its own steps is the built proof of its labels.
use Rattle.std.proofs.Common.{◌≡◌, ℕ, ◌+◌, ◌≤◌, Bool, false, ◌||◌, List, [], ◌∷◌, length, take, get_or, Option, Some, refl, sym, ap, ◌∙◌, subst, arith}
use Rattle.std.specs.List.{flat_map, list_any, sum_by, AllByRecursion}
use Rattle.std.proofs.Math.Seq.{take-length}
use Rattle.std.proofs.lemmas.List.{append-nil}
use Rattle.std.proofs.lemmas.List.Elements.{recursion_from_All}
use Rattle.mm_subst.specs.Statements.{statement_of}
use Rattle.mm_subst.specs.Substitutions.{Pairs}
use Rattle.mm_subst.specs.Symbols.{is_work, has_work}
use Rattle.mm_subst.specs.declared.symbol.WSym.{WSym}
use Rattle.mm_subst.specs.declared.symbol.WSym.TheVariants.{Const, Var, Work}
use Rattle.mm_unify.specs.declared.listing.Settings.{Settings}
use Rattle.mm_plain.specs.declared.plain.Plain.{Plain}
use Rattle.mm_plain.specs.Binding.{has_works, works_at}
use Rattle.mm_plain.specs.LabelTrees.{fresh_proof, fresh_proof_of}
use Rattle.mm_plain.specs.Numbers.{labels_in}
use Rattle.mm_plain.specs.Shape.{Each, Proof, height_of, size_of, steps_of, target_of}
use Rattle.mm_plain.specs.Valid.{IsGood, IsKnownSymbol, IsSound, IsString, first_setting, most_levels, most_steps, most_works}
use Rattle.mm_plain.proofs.Drawing.{height_of-with_fresh, sound-fitting}
use Rattle.mm_plain.proofs.Equations.{by_trees, target_of-known, target_of-unknown}
use Rattle.mm_plain.proofs.Kept.{known-good, unknown-good}
use Rattle.mm_plain.proofs.LabelTrees.{fresh_proof_of-labels_in, height-begun}
use Rattle.mm_plain.proofs.Moved.{sound-raised}
use Rattle.mm_plain.proofs.Read.{sigma_of-known, sigma_of-unknown}
use Rattle.mm_tree.specs.Labelled.{FoldLow, draws_all}
use Rattle.mm_tree.specs.Plans.{Grove, no_tree}
use Rattle.mm_tree.proofs.PlanLemmas.{alone, alone-size}
use Rattle.mm_edit.specs.Built.{IsBuiltProof}
use Rattle.mm_edit.specs.LaidOut.{HasOwnSteps, IsLaidOut}
use Rattle.mm_edit.proofs.BuiltLaw.{none_works}

-- ## Before a work variable is drawn there is none

symbol_fixed : (bytes : List ℕ) (at : ℕ) (x : WSym) → IsKnownSymbol (first_setting bytes at) x → is_work x ≡ false
symbol_fixed bytes at (Const n) h = refl
symbol_fixed bytes at (Var n) h = refl
symbol_fixed bytes at (Work n) h = absurd (let low = h.0 in let high = h.1 in omega (arith, low, high))

symbols_fixed : (bytes : List ℕ) (at : ℕ) (s : List WSym) → AllByRecursion (IsKnownSymbol (first_setting bytes at)) s → AllByRecursion (λ x. is_work x ≡ false) s
symbols_fixed bytes at [] a = tt
symbols_fixed bytes at (x ∷ xs) a = (symbol_fixed bytes at x a.0, symbols_fixed bytes at xs a.1)

string_fixed : (bytes : List ℕ) (at : ℕ) (s : List WSym) → IsString (first_setting bytes at) s → has_work s ≡ false
string_fixed bytes at s h = none_works s (symbols_fixed bytes at s (recursion_from_All (IsKnownSymbol (first_setting bytes at)) s h.symbols))

values_fixed : (bytes : List ℕ) (at : ℕ) (s : Pairs) → AllByRecursion (λ p. IsString (first_setting bytes at) p.1) s → list_any (λ p. has_work p.1) s ≡ false
values_fixed bytes at [] a = refl
values_fixed bytes at (p ∷ ps) a = ap (λ b. b || list_any (λ q. has_work q.1) ps) (string_fixed bytes at p.1 a.0) ∙ values_fixed bytes at ps a.1

none_at : (a b : Bool) → a ≡ false → b ≡ false → (a || b) ≡ false
none_at a b e h = ap (λ x. x || b) e ∙ h

step_fixed : (bytes : List ℕ) (at : ℕ) (y : Plain) → IsGood (first_setting bytes at) y → works_at y ≡ false
step_fixed bytes at = by_trees (λ y. IsGood (first_setting bytes at) y → works_at y ≡ false)
    (λ t g. none_at _ _ (ap has_work (target_of-unknown t) ∙ string_fixed bytes at t (unknown-good (first_setting bytes at) t g)) (ap (list_any (λ p. has_work p.1)) (sigma_of-unknown t)))
    (λ t l s kids e g.
    let i = known-good (first_setting bytes at) t l s kids g in
    none_at _ _ (ap has_work (target_of-known t l s kids) ∙ string_fixed bytes at t i.target)
    (ap (list_any (λ p. has_work p.1)) (sigma_of-known t l s kids)
    ∙ values_fixed bytes at s (recursion_from_All (λ (p : WSym × List WSym). IsString (first_setting bytes at) p.1) s i.names.values)))

steps_fixed : (bytes : List ℕ) (at : ℕ) (ys : List Plain) → Each (IsGood (first_setting bytes at)) ys → list_any works_at ys ≡ false
steps_fixed bytes at [] e = refl
steps_fixed bytes at (y ∷ ys) e = none_at (works_at y) (list_any works_at ys) (step_fixed bytes at y e.0) (steps_fixed bytes at ys e.1)

sound-fixed : (bytes : List ℕ) (at : ℕ) (x : Plain) → IsSound (first_setting bytes at) x → has_works x ≡ false
unfolding IsSound has_works
sound-fixed bytes at x h = steps_fixed bytes at (steps_of x) h

-- ## The whole

-- a sound tree is as high as the tree that its labels fold to
sound-low : (bytes : List ℕ) (at : ℕ) (labels : List (Option ℕ)) (x : Plain) → IsSound (first_setting bytes at) x → labels_in x ≡ labels → FoldLow bytes labels → height_of x ≤ most_levels
sound-low bytes at labels x h same fold =
    let goal : List WSym = statement_of bytes at in
    let p : Proof = fresh_proof bytes goal x in
    let begun : fresh_proof_of bytes goal labels ≡ Some p = ap (fresh_proof_of bytes goal) (sym same) ∙ fresh_proof_of-labels_in bytes at goal x (sound-fitting (first_setting bytes at) x h) in
    let low = fold.2 in
    omega (arith, low, height-begun bytes goal labels fold.0 p fold.1 begun, height_of-with_fresh bytes x 1 goal)

whole_built : (bytes : List ℕ) (at : ℕ) (set : Settings) (labels : List (Option ℕ)) (x : Plain) → HasOwnSteps bytes at set x → labels_in x ≡ labels → size_of x ≡ length labels → target_of x ≡ statement_of bytes at
    → length labels ≤ most_steps → draws_all bytes labels ≤ most_works → FoldLow bytes labels
    → (height_of x ≤ most_levels) × IsBuiltProof bytes at set labels (record { plain = x; next = 1 + draws_all bytes labels })
whole_built bytes at set labels x own same sized goal few drawn fold =
    let low : height_of x ≤ most_levels = sound-low bytes at labels x own.sound same fold in
    let next : ℕ = 1 + draws_all bytes labels in (
      low,
      record {
        valid = record {
          goal_is = goal;
          steps = sound-raised (first_setting bytes at) next (omega arith) x own.sound;
          counter = (omega arith, omega (arith, drawn));
          few = omega (arith, sized, few);
          low = low;
        };
        labels_are = same;
        drawn = refl;
        fixed = sound-fixed bytes at x own.sound;
        steps = own.own;
      },
    )

first_own : (bytes : List ℕ) (at : ℕ) (set : Settings) (xs : List Plain) (x : Plain) → xs ≡ x ∷ [] → AllByRecursion (HasOwnSteps bytes at set) xs → HasOwnSteps bytes at set x
first_own bytes at set xs x e a = (subst (AllByRecursion (HasOwnSteps bytes at set)) e a).0

-- one tree that has all labels is the built proof
pub laid_built : (bytes : List ℕ) (at : ℕ) (set : Settings) (labels : List (Option ℕ)) (g : Grove) (begins : List ℕ) → IsLaidOut bytes at set labels g begins → length g.standing ≡ 1 → sum_by size_of g.standing ≡ length labels
    → target_of (get_or g.standing 0 no_tree) ≡ statement_of bytes at → length labels ≤ most_steps → draws_all bytes labels ≤ most_works → FoldLow bytes labels
    → (height_of (get_or g.standing 0 no_tree) ≤ most_levels) × IsBuiltProof bytes at set labels (record { plain = get_or g.standing 0 no_tree; next = 1 + draws_all bytes labels })
laid_built bytes at set labels g begins laid one total goal few drawn fold =
    let x : Plain = get_or g.standing 0 no_tree in
    let only : g.standing ≡ x ∷ [] = alone g.standing one in
    let same : labels_in x ≡ labels = sym (append-nil (labels_in x)) ∙ ap (flat_map labels_in) (sym only) ∙ laid.labels_are ∙ ap (λ (n : ℕ). take n labels) total ∙ take-length labels in
    whole_built bytes at set labels x (first_own bytes at set g.standing x only laid.standing) same (sym (alone-size g.standing one) ∙ total) goal few drawn fold
