-- Whether a child for a floating hypothesis is known, child by child.
use Rattle.std.proofs.Common.{zero, suc, ◌≡◌, ℕ, ◌+◌, ◌≤◌, ◌<◌, Bool, true, false, ◌&&◌, ◌||◌, List, [], ◌∷◌, ◌++◌, take, drop, length, get_or, is_some, refl, sym, ◌∙◌, ap, arith}
use Rattle.std.specs.List.{flat_map, list_any}
use Rattle.std.proofs.lemmas.List.{take_all}
use Rattle.std.proofs.lemmas.List.Concat.{flat_map-cons}
use Rattle.std.proofs.lemmas.List.Folds.{list_any-append, list_any_more, list_any_at}
use Rattle.mm_subst.specs.declared.symbol.WSym.{WSym}
use Rattle.mm_subst.specs.Substitutions.{Pairs}
use Rattle.mm_plain.specs.declared.plain.Plain.{Plain}
use Rattle.mm_plain.specs.declared.plain.Plain.TheOpen as L
use Rattle.mm_plain.specs.declared.plain.Plain.TheViews as V
use Rattle.mm_plain.specs.Floats.{has_float_among, has_float_layer, has_float}
use Rattle.mm_plain.specs.Premises.{premise_ids}
use Rattle.mm_plain.specs.Shape.{known, unknown, steps_of}
use Rattle.mm_plain.specs.Sources.{label_of}
use Rattle.mm_plain.proofs.Equations.{steps_of-unknown, steps_of-known}
use Rattle.mm_plain.proofs.Works.{or-none}
use Rattle.mm_tree.specs.Floats.{is_float_at}

has_float-unknown : (bytes : List ℕ) (t : List WSym) → has_float bytes (unknown t) ≡ false
unfolding has_float
has_float-unknown bytes t = ap (has_float_layer bytes) (V.out-roll-Plain (L.Unknown t))

has_float-known : (bytes : List ℕ) (t : List WSym) (l : ℕ) (s : Pairs) (kids : List Plain) → has_float bytes (known t l s kids) ≡ has_float_among bytes (premise_ids bytes l) kids
unfolding has_float
has_float-known bytes t l s kids = ap (has_float_layer bytes) (V.out-roll-Plain (L.Known t l s kids))

abbrev pub any_float : List ℕ → Plain → Bool
any_float bytes x = list_any (has_float bytes) (steps_of x)

float-kids : (bytes : List ℕ) (kids : List Plain) → list_any (has_float bytes) (flat_map steps_of kids) ≡ list_any (any_float bytes) kids
float-kids bytes [] = refl
float-kids bytes (x ∷ xs) =
    ap (list_any (has_float bytes)) (flat_map-cons steps_of x xs)
    ∙ list_any-append (has_float bytes) (steps_of x) (flat_map steps_of xs)
    ∙ ap (λ b. list_any (has_float bytes) (steps_of x) || b) (float-kids bytes xs)

any-known : (bytes : List ℕ) (t : List WSym) (l : ℕ) (s : Pairs) (kids : List Plain)
    → any_float bytes (known t l s kids) ≡ (list_any (any_float bytes) kids || has_float_among bytes (premise_ids bytes l) kids)
any-known bytes t l s kids =
    let x : Plain = known t l s kids in
    ap (list_any (has_float bytes)) (steps_of-known t l s kids)
    ∙ list_any-append (has_float bytes) (flat_map steps_of kids) (x ∷ [])
    ∙ ap (λ b. b || list_any (has_float bytes) (x ∷ [])) (float-kids bytes kids)
    ∙ ap (λ b. list_any (any_float bytes) kids || b) (or-none (has_float bytes x) ∙ has_float-known bytes t l s kids)

pub float-unknown : (bytes : List ℕ) (t : List WSym) (x : Plain) → unknown t ≡ x → false ≡ any_float bytes x
float-unknown bytes t x is =
    sym (ap (any_float bytes) (sym is) ∙ ap (list_any (has_float bytes)) (steps_of-unknown t) ∙ or-none (has_float bytes (unknown t)) ∙ has_float-unknown bytes t)

pub float-early : (bytes : List ℕ) (t : List WSym) (l : ℕ) (s : Pairs) (kids items : List Plain) (x kid : Plain) (i : ℕ) → known t l s kids ≡ x → items ≡ kids
    → i < length items → kid ≡ get_or items i kid → any_float bytes kid ≡ true → true ≡ any_float bytes x
float-early bytes t l s kids items x kid i is same h at e =
    sym (ap (any_float bytes) (sym is) ∙ any-known bytes t l s kids
    ∙ ap (λ (ks : List Plain). list_any (any_float bytes) ks || has_float_among bytes (premise_ids bytes l) kids) (sym same)
    ∙ ap (λ (b : Bool). b || has_float_among bytes (premise_ids bytes l) kids) (list_any_at (any_float bytes) items i kid h (sym (ap (any_float bytes) at) ∙ e)))

pub float-more : (bytes : List ℕ) (items : List Plain) (i : ℕ) (kid : Plain) → i < length items → kid ≡ get_or items i kid
    → list_any (any_float bytes) (take i items) ≡ false → any_float bytes kid ≡ false → list_any (any_float bytes) (take (i + 1) items) ≡ false
float-more bytes items i kid h at so_far e =
    list_any_more (any_float bytes) items i kid h
    ∙ ap (λ (b : Bool). b || any_float bytes (get_or items i kid)) so_far
    ∙ ap (any_float bytes) (sym at) ∙ e

pub float-end : (bytes : List ℕ) (t : List WSym) (l : ℕ) (s : Pairs) (kids items : List Plain) (x : Plain) (i : ℕ) → known t l s kids ≡ x → items ≡ kids → length items ≤ i
    → list_any (any_float bytes) (take i items) ≡ false → has_float_among bytes (premise_ids bytes l) kids ≡ any_float bytes x
float-end bytes t l s kids items x i is same h so_far =
    sym (ap (any_float bytes) (sym is) ∙ any-known bytes t l s kids
    ∙ ap (λ (ks : List Plain). list_any (any_float bytes) ks || has_float_among bytes (premise_ids bytes l) kids) (sym same ∙ sym (take_all i items h))
    ∙ ap (λ (b : Bool). b || has_float_among bytes (premise_ids bytes l) kids) so_far)

-- one child after another

pub among-next : (bytes ids : List ℕ) (xs : List Plain) (i : ℕ) (d : Plain) → i < length xs
    → has_float_among bytes (drop i ids) (drop i xs) ≡ ((is_float_at bytes ids i && is_some (label_of (get_or xs i d))) || has_float_among bytes (drop (i + 1) ids) (drop (i + 1) xs))
among-next bytes ids [] i d h = absurd (omega arith)
among-next bytes [] (x ∷ xs) zero d h = refl
among-next bytes [] (x ∷ xs) (suc i) d h = let z : suc i + 1 ≡ suc (i + 1) = omega arith in ap (λ (n : ℕ). has_float_among bytes (drop n none) (drop (suc i + 1) (x ∷ xs))) (sym z)
  where
    none : List ℕ
    none = []
among-next bytes (id ∷ ids) (x ∷ xs) zero d h = refl
among-next bytes (id ∷ ids) (x ∷ xs) (suc i) d h =
    let z : suc i + 1 ≡ suc (i + 1) = omega arith in
    among-next bytes ids xs i d (omega arith)
    ∙ ap (λ (n : ℕ). (is_float_at bytes ids i && is_some (label_of (get_or xs i d))) || has_float_among bytes (drop n (id ∷ ids)) (drop n (x ∷ xs))) (sym z)

none-left : (bytes ids : List ℕ) → has_float_among bytes ids [] ≡ false
none-left bytes [] = refl
none-left bytes (id ∷ ids) = refl

drop-past : (n : ℕ) (xs : List Plain) → length xs ≤ n → drop n xs ≡ []
drop-past zero [] h = refl
drop-past zero (x ∷ xs) h = absurd (omega arith)
drop-past (suc n) [] h = refl
drop-past (suc n) (x ∷ xs) h = drop-past n xs (omega arith)

pub among-end : (bytes ids : List ℕ) (xs : List Plain) (i : ℕ) (b : Bool) → length xs ≤ i → has_float_among bytes (drop i ids) (drop i xs) ≡ b → false ≡ b
among-end bytes ids xs i b h e = sym (ap (has_float_among bytes (drop i ids)) (drop-past i xs h) ∙ none-left bytes (drop i ids)) ∙ e

pub among-found : (bytes ids : List ℕ) (xs : List Plain) (i at : ℕ) (d : Plain) (r b : Bool) → i < length xs → at ≡ i → d ≡ get_or xs i d → r ≡ (is_float_at bytes ids at && is_some (label_of d)) → r ≡ true
    → has_float_among bytes (drop i ids) (drop i xs) ≡ b → true ≡ b
among-found bytes ids xs i at d r b h here is e told left =
    let same : r ≡ (is_float_at bytes ids i && is_some (label_of (get_or xs i d))) = e
    ∙ ap (λ (n : ℕ). is_float_at bytes ids n && is_some (label_of d)) here ∙ ap (λ (y : Plain). is_float_at bytes ids i && is_some (label_of y)) is in
    sym (sym left ∙ among-next bytes ids xs i d h ∙ ap (λ (c : Bool). c || has_float_among bytes (drop (i + 1) ids) (drop (i + 1) xs)) (sym same ∙ told))

pub among-more : (bytes ids : List ℕ) (xs : List Plain) (i at : ℕ) (d : Plain) (r b : Bool) → i < length xs → at ≡ i → d ≡ get_or xs i d → r ≡ (is_float_at bytes ids at && is_some (label_of d)) → r ≡ false
    → has_float_among bytes (drop i ids) (drop i xs) ≡ b → has_float_among bytes (drop (i + 1) ids) (drop (i + 1) xs) ≡ b
among-more bytes ids xs i at d r b h here is e told left =
    let same : r ≡ (is_float_at bytes ids i && is_some (label_of (get_or xs i d))) = e
    ∙ ap (λ (n : ℕ). is_float_at bytes ids n && is_some (label_of d)) here ∙ ap (λ (y : Plain). is_float_at bytes ids i && is_some (label_of y)) is in
    sym (among-next bytes ids xs i d h ∙ ap (λ (c : Bool). c || has_float_among bytes (drop (i + 1) ids) (drop (i + 1) xs)) (sym same ∙ told)) ∙ left
