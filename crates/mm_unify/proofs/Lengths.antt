-- The length rule: a short side that falls short stays shorter under every substitution of work variables.
use Rattle.std.proofs.Common.{ℕ, ◌+◌, ◌≡◌, ◌<◌, ◌≤◌, List, [], ◌∷◌, Bool, true, false, cond, not, ◌||◌, length, refl, ap, ◌∙◌, inl, inr, arith, length-append}
use Rattle.std.specs.Prelude.{nat_le, nat_lt}
use Rattle.std.specs.List.{list_all}
use Rattle.std.proofs.lemmas.List.Sums.{sum_by-cons}
use Rattle.std.proofs.lemmas.Bool.{and_parts, or_cases, leb-true, ltb-true, cond_both, cases_lt, not-true, cond-true}
use Rattle.mm_subst.specs.declared.symbol.WSym.{WSym}
use Rattle.mm_subst.specs.Symbols.{is_same, is_work}
use Rattle.mm_subst.specs.Substitutions.{Pairs, value_of, applied}
use Rattle.mm_unify.specs.Search.{count, plain_count, falls_short}
use Rattle.mm_subst.proofs.Keys.{is_same-true, is_same-itself}
use Rattle.mm_unify.proofs.Mapping.{cases_same}
use Rattle.mm_unify.proofs.Proper.{Good, value_plain}

-- a count of one or none
abbrev one : Bool → ℕ
one b = cond b 1 0

one_true : (b : Bool) → b ≡ true → one b ≡ 1
one_true b e = ap one e

one_false : (b : Bool) → b ≡ false → one b ≡ 0
one_false b e = ap one e

one_same : (c d f : WSym) → d ≡ f → one (is_same c d) ≡ one (is_same c f)
one_same c d f e = ap (λ x. one (is_same c x)) e

pub count-cons : (c d : WSym) (s : List WSym) → count c (d ∷ s) ≡ cond (is_same c d) 1 0 + count c s
count-cons c d s = sum_by-cons (λ e. cond (is_same c e) 1 0) d s

plain-cons : (d : WSym) (s : List WSym) → plain_count (d ∷ s) ≡ cond (is_work d) 0 1 + plain_count s
plain-cons d s = sum_by-cons (λ e. cond (not (is_work e)) 1 0) d s ∙ go (is_work d)
  where
    go : (b : Bool) → cond (not b) 1 0 + plain_count s ≡ cond b 0 1 + plain_count s
    go true = refl
    go false = refl

-- what the work variables of a string come to
abbrev weight : Pairs → WSym → ℕ
weight phi c = cond (is_work c) (length (value_of phi c)) 0

abbrev total : Pairs → List WSym → ℕ
total phi [] = 0
total phi (c ∷ s) = weight phi c + total phi s

value_length : (phi : Pairs) (c : WSym) → Good phi → length (value_of phi c) ≡ cond (is_work c) 0 1 + weight phi c
value_length phi c h = go (is_work c) refl
  where
    go : (b : Bool) → is_work c ≡ b → length (value_of phi c) ≡ cond b 0 1 + cond b (length (value_of phi c)) 0
    go true e = omega arith
    go false e = let k = ap length (value_plain phi c h e) in omega arith

length-applied : (phi : Pairs) (s : List WSym) → Good phi → length (applied phi s) ≡ plain_count s + total phi s
unfolding applied
length-applied phi [] h = refl
length-applied phi (c ∷ s) h =
    let ih = length-applied phi s h in
    let k = value_length phi c h in
    let m = plain-cons c s in
    omega (arith, length-append (value_of phi c) (applied phi s))

abbrev erase : WSym → List WSym → List WSym
erase c [] = []
erase c (d ∷ s) = cond (is_same c d) s (d ∷ erase c s)

-- taking one c out of a string that has one
total-erase : (phi : Pairs) (c : WSym) (s : List WSym) → 0 < count c s → total phi s ≡ weight phi c + total phi (erase c s)
total-erase phi c [] h = absurd (let k : 0 < 0 = h in omega arith)
total-erase phi c (d ∷ s) h =
    let n = count-cons c d s in
    cond_both (is_same c d) s (d ∷ erase c s) (λ v. weight phi d + total phi s ≡ weight phi c + total phi v)
    (λ e. let k = ap (weight phi) (is_same-true c d e) in omega arith)
    (λ e. let m = one_false (is_same c d) e in
    let ih = total-erase phi c s (omega arith) in omega arith)

count-erase : (c d : WSym) (s : List WSym) → 0 < count c s → count d s ≡ cond (is_same d c) 1 0 + count d (erase c s)
count-erase c d [] h = absurd (let k : 0 < 0 = h in omega arith)
count-erase c d (f ∷ s) h =
    let n = count-cons c f s in
    let m = count-cons d f s in
    cond_both (is_same c f) s (f ∷ erase c s) (λ v. count d (f ∷ s) ≡ cond (is_same d c) 1 0 + count d v)
    (λ e. let k = one_same d c f (is_same-true c f e) in omega arith)
    (λ e. let z = one_false (is_same c f) e in
    let ih = count-erase c d s (omega arith) in
    let p = count-cons d f (erase c s) in omega arith)

-- where no work variable occurs more often in s than in l, those of s come to no more
abbrev AtMost : List WSym → List WSym → Type 0
AtMost s l = (c : WSym) → is_work c ≡ true → count c s ≤ count c l

total-le : (phi : Pairs) (s l : List WSym) → AtMost s l → total phi s ≤ total phi l
total-le phi [] l h = omega arith
total-le phi (c ∷ s) l h = go (is_work c) refl (λ m h'. total-le phi s m h')
  where
    go : (b : Bool) → is_work c ≡ b → ((m : List WSym) → AtMost s m → total phi s ≤ total phi m) → cond b (length (value_of phi c)) 0 + total phi s ≤ total phi l
    go true e ih =
        let own = h c e in
        let n = count-cons c c s in
        let one_c = one_true (is_same c c) (is_same-itself c) in
        let has : 0 < count c l = omega arith in
        let t = total-erase phi c l has in
        let w = cond-true (is_work c) (length (value_of phi c)) 0 e in
        let r = ih (erase c l) (λ d f. let a = h d f in let p = count-cons d c s in let q = count-erase c d l has in omega arith) in
        omega arith
    go false e ih = let r = ih l (λ d f. let a = h d f in let p = count-cons d c s in omega arith) in omega arith

at_most : (s l t : List WSym) → list_all (λ c. not (is_work c) || nat_le (count c s) (count c l)) t ≡ true → (c : WSym) → is_work c ≡ true → 0 < count c t → count c s ≤ count c l
at_most s l [] h c e n = absurd (let k : 0 < 0 = n in omega arith)
at_most s l (d ∷ t) h c e n =
    let parts = and_parts (not (is_work d) || nat_le (count d s) (count d l)) (list_all (λ c. not (is_work c) || nat_le (count c s) (count c l)) t) h in
    let k = count-cons c d t in
    elim (cases_same c d) [
      | inl is_same' ↦ elim (or_cases (not (is_work d)) (nat_le (count d s) (count d l)) parts.0) [
        | inl u ↦ absurd (let w = ap is_work is_same' in let v = not-true (is_work d) u in cc)
        | inr u ↦ let v = leb-true (count d s) (count d l) u in let x = ap (λ (y : WSym). count y s) is_same' in let z = ap (λ (y : WSym). count y l) is_same' in omega arith
      ]
      | inr other ↦ at_most s l t parts.1 c e (let z = one_false (is_same c d) other in omega arith)
    ]

-- the length rule
pub shorter : (phi : Pairs) (s l : List WSym) → Good phi → falls_short s l ≡ true → length (applied phi s) < length (applied phi l)
shorter phi s l h e =
    let parts = and_parts (list_all (λ c. not (is_work c) || nat_le (count c s) (count c l)) s) (nat_lt (plain_count s) (plain_count l)) e in
    let t = total-le phi s l (λ c f. elim (cases_lt 0 (count c s)) [ inl n ↦ at_most s l s parts.0 c f n | inr z ↦ omega arith ]) in
    let p = ltb-true (plain_count s) (plain_count l) parts.1 in
    omega (arith, length-applied phi s h, length-applied phi l h)
