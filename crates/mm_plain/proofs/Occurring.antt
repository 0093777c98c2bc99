-- Whether a tree has a work variable, by its layers.
use Rattle.std.proofs.Common.{◌≡◌, ℕ, Bool, true, false, ◌||◌, List, [], ◌∷◌, refl, sym, ◌∙◌, ap}
use Rattle.std.proofs.lemmas.Bool.{true≢false}
use Rattle.std.proofs.lemmas.List.Concat.{flat_map-cons}
use Rattle.std.proofs.lemmas.List.Folds.{list_any-append}
use Rattle.std.specs.List.{flat_map, list_any}
use Rattle.mm_subst.specs.declared.symbol.WSym.{WSym}
use Rattle.mm_subst.specs.declared.symbol.WSym.TheVariants.{Const, Var, Work}
use Rattle.mm_subst.specs.Symbols.{is_same, is_work, has_work}
use Rattle.mm_subst.specs.Substitutions.{Pairs}
use Rattle.mm_plain.specs.declared.plain.Plain.{Plain}
use Rattle.mm_plain.specs.Binding.{works_at, has_works}
use Rattle.mm_plain.specs.Occurring.{holds, occurs_at, occurs_in}
use Rattle.mm_plain.specs.Shape.{known, unknown, steps_of, target_of}
use Rattle.mm_plain.specs.Sources.{sigma_of}
use Rattle.mm_plain.proofs.Equations.{steps_of-unknown, steps_of-known, target_of-unknown, target_of-known}
use Rattle.mm_plain.proofs.Read.{sigma_of-unknown, sigma_of-known}
use Rattle.mm_plain.proofs.Works.{neither, or-none}

pub occurs_in-unknown : (n : ℕ) (t : List WSym) → occurs_in n (unknown t) ≡ holds n t
unfolding occurs_in
occurs_in-unknown n t =
    ap (list_any (occurs_at n)) (steps_of-unknown t)
    ∙ or-none (occurs_at n (unknown t))
    ∙ ap (λ s. holds n (target_of (unknown t)) || list_any (λ p. holds n p.1) s) (sigma_of-unknown t)
    ∙ or-none (holds n (target_of (unknown t)))
    ∙ ap (holds n) (target_of-unknown t)

occurs_in_kids : (n : ℕ) (kids : List Plain) → list_any (occurs_at n) (flat_map steps_of kids) ≡ list_any (occurs_in n) kids
unfolding occurs_in
occurs_in_kids n [] = refl
occurs_in_kids n (x ∷ xs) =
    ap (list_any (occurs_at n)) (flat_map-cons steps_of x xs)
    ∙ list_any-append (occurs_at n) (steps_of x) (flat_map steps_of xs)
    ∙ ap (λ b. list_any (occurs_at n) (steps_of x) || b) (occurs_in_kids n xs)

pub occurs_in-known : (n : ℕ) (t : List WSym) (l : ℕ) (s : Pairs) (kids : List Plain)
    → occurs_in n (known t l s kids) ≡ (list_any (occurs_in n) kids || (holds n t || list_any (λ p. holds n p.1) s))
unfolding occurs_in
occurs_in-known n t l s kids =
    let x : Plain = known t l s kids in
    ap (list_any (occurs_at n)) (steps_of-known t l s kids)
    ∙ list_any-append (occurs_at n) (flat_map steps_of kids) (x ∷ [])
    ∙ ap (λ b. b || list_any (occurs_at n) (x ∷ [])) (occurs_in_kids n kids)
    ∙ ap (λ b. list_any (occurs_in n) kids || b) (or-none (occurs_at n x)
    ∙ ap (λ u. holds n u || list_any (λ p. holds n p.1) (sigma_of x)) (target_of-known t l s kids)
    ∙ ap (λ r. holds n t || list_any (λ p. holds n p.1) r) (sigma_of-known t l s kids))

-- a string, or a tree, without work variables

no_symbol : (n : ℕ) (x : WSym) → is_work x ≡ false → is_same (Work n) x ≡ false
no_symbol n (Const m) e = refl
no_symbol n (Var m) e = refl
no_symbol n (Work m) e = absurd (true≢false e)

pub holds-plain : (n : ℕ) (s : List WSym) → has_work s ≡ false → holds n s ≡ false
holds-plain n [] e = refl
holds-plain n (x ∷ xs) e = let w = neither (is_work x) (list_any is_work xs) e in ap (λ b. b || holds n xs) (no_symbol n x w.0) ∙ holds-plain n xs w.1

values-plain : (n : ℕ) (s : Pairs) → list_any (λ p. has_work p.1) s ≡ false → list_any (λ p. holds n p.1) s ≡ false
values-plain n [] e = refl
values-plain n (p ∷ ps) e = let w = neither (has_work p.1) (list_any (λ q. has_work q.1) ps) e in ap (λ b. b || list_any (λ q. holds n q.1) ps) (holds-plain n p.1 w.0) ∙ values-plain n ps w.1

steps-plain : (n : ℕ) (ys : List Plain) → list_any works_at ys ≡ false → list_any (occurs_at n) ys ≡ false
steps-plain n [] e = refl
steps-plain n (y ∷ ys) e =
    let w = neither (works_at y) (list_any works_at ys) e in
    let v = neither (has_work (target_of y)) (list_any (λ p. has_work p.1) (sigma_of y)) w.0 in
    ap (λ b. (b || list_any (λ p. holds n p.1) (sigma_of y)) || list_any (occurs_at n) ys) (holds-plain n (target_of y) v.0)
    ∙ ap (λ b. b || list_any (occurs_at n) ys) (values-plain n (sigma_of y) v.1) ∙ steps-plain n ys w.1

pub occurs_in-plain : (n : ℕ) (x : Plain) → has_works x ≡ false → occurs_in n x ≡ false
unfolding has_works occurs_in
occurs_in-plain n x e = steps-plain n (steps_of x) e
