-- Parts of a string, and what follows a string in them.
use Rattle.mm_subst.specs.declared.symbol.WSym.{WSym}
use Rattle.std.proofs.Common.{◌≡◌, ℕ, zero, suc, ◌+◌, ◌-◌, ◌≤◌, ◌<◌, List, [], ◌∷◌, take, drop, length, get_or, None, true, false, refl, ◌∙◌, ap, arith}
use Rattle.std.proofs.lemmas.List.{drop-drop, length-drop, length-take-le, take-take, drop-take}
use Rattle.mm_subst.specs.Symbols.{is_same}
use Rattle.mm_unify.specs.Matching.{behind}
use Rattle.mm_unify.specs.Parts.{part}

pub part-none : (t : List WSym) (i : ℕ) → part t i i ≡ []
part-none t i = ap (λ (n : ℕ). take n (drop i t)) (let e : i - i ≡ 0 = omega arith in e)

take-cons : (n : ℕ) (x : WSym) (xs : List WSym) → 0 < n → take n (x ∷ xs) ≡ x ∷ take (n - 1) xs
take-cons zero x xs h = absurd (omega arith)
take-cons (suc n) x xs h = ap (λ (k : ℕ). x ∷ take k xs) (let e : n ≡ suc n - 1 = omega arith in e)

drop-step : (t : List WSym) (i : ℕ) (d : WSym) → i < length t → drop i t ≡ get_or t i d ∷ drop (i + 1) t
drop-step [] i d h = absurd (omega arith)
drop-step (x ∷ t) zero d h = refl
drop-step (x ∷ t) (suc i) d h = drop-step t i d (omega arith) ∙ ap (λ (k : ℕ). get_or t i d ∷ drop k (x ∷ t)) (let e : suc (i + 1) ≡ suc i + 1 = omega arith in e)

pub part-cons : (t : List WSym) (i j : ℕ) (d : WSym) → i < j → j ≤ length t → part t i j ≡ get_or t i d ∷ part t (i + 1) j
part-cons t i j d h l =
    ap (take (j - i)) (drop-step t i d (omega arith)) ∙ take-cons (j - i) (get_or t i d) (drop (i + 1) t) (omega arith)
    ∙ ap (λ (k : ℕ). get_or t i d ∷ take k (drop (i + 1) t)) (let e : j - i - 1 ≡ j - (i + 1) = omega arith in e)

pub length-part : (t : List WSym) (i j : ℕ) → i ≤ j → j ≤ length t → length (part t i j) ≡ j - i
length-part t i j h l = length-take-le (j - i) (drop i t) (omega (arith, length-drop i t))

-- a front of a part
pub take-part : (t : List WSym) (i j k : ℕ) → i ≤ j → j ≤ k → take (j - i) (part t i k) ≡ part t i j
take-part t i j k h l = take-take (j - i) (k - i) (drop i t) (omega arith)

-- the rest of a part
pub drop-part : (t : List WSym) (i j k : ℕ) → i ≤ j → j ≤ k → drop (j - i) (part t i k) ≡ part t j k
drop-part t i j k h l =
    ap (λ (n : ℕ). drop (j - i) (take n (drop i t))) (let e : k - i ≡ (j - i) + (k - j) = omega arith in e) ∙ drop-take (j - i) (k - j) (drop i t)
    ∙ ap (take (k - j)) (drop-drop (j - i) i t ∙ ap (λ (n : ℕ). drop n t) (let e : i + (j - i) ≡ j = omega arith in e))

-- one symbol of the first string is compared
pub behind-same : (p t : List WSym) (i at to : ℕ) (d e : WSym) → i < length p → at < to → to ≤ length t → is_same (get_or p i d) (get_or t at e) ≡ true → behind (drop i p) (part t at to) ≡ behind (drop (i + 1) p) (part t (at + 1) to)
behind-same p t i at to d e h l w q =
    rw (drop-step p i d h, part-cons t at to e l w, q) refl

pub behind-differs : (p t : List WSym) (i at to : ℕ) (d e : WSym) → i < length p → at < to → to ≤ length t → is_same (get_or p i d) (get_or t at e) ≡ false → behind (drop i p) (part t at to) ≡ None
behind-differs p t i at to d e h l w q =
    rw (drop-step p i d h, part-cons t at to e l w, q) refl

pub behind-short : (p t : List WSym) (i to : ℕ) (d : WSym) → i < length p → behind (drop i p) (part t to to) ≡ None
behind-short p t i to d h = rw (drop-step p i d h, part-none t to) refl
