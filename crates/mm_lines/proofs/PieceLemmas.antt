-- Finding an LF, and taking a CR off.
use Rattle.std.proofs.Common.{◌≡◌, ◌≢◌, ◌+◌, ◌-◌, ◌<◌, ◌≤◌, ◌==◌, ℕ, zero, suc, Bool, true, false, List, [], ◌∷◌, ◌++◌, length, take, drop, get_or, refl, sym, ◌∙◌, ap, arith, Option, Some, None, min, inl, inr, IfSome, IfNone, Result, Ok, Err, is_err, is_ok}
use Rattle.std.proofs.Math.Seq.{take-append-add, take-length}
use Rattle.std.proofs.lemmas.List.{take-append-le, take_all, length-take-le}
use Rattle.std.proofs.lemmas.Bool.{cases_lt, false_from_ne_true}
use Rattle.std.proofs.lemmas.Bool.Decides.{nat_tests}
use Rattle.memchr.specs.Find.{IsFirstByte, is_byte}
use Rattle.mm_lines.specs.Lines.{kept}
use Rattle.mm_lines.specs.Parts.{is_lf, IsFree, Splits, without_cr, held}

split_at_lf : (xs : List ℕ) (i : ℕ) → i < length xs → is_lf (get_or xs i 0) ≡ true → ((k : ℕ) → k < i → is_lf (get_or xs k 0) ≡ false) → Splits xs (take i xs) (drop (i + 1) xs)
split_at_lf [] i lt at none = absurd (omega (arith, lt))
split_at_lf (x ∷ xs) zero lt at none = record { free = refl; whole = let is : x ≡ 10 = grind (arith, nat_tests) in ap (λ (b : ℕ). b ∷ xs) is }
split_at_lf (x ∷ xs) (suc i) lt at none =
    let more = split_at_lf xs i (omega arith) at (λ k below. none (suc k) (omega arith)) in
    let step : drop (suc i + 1) (x ∷ xs) ≡ drop (i + 1) xs = (let e : suc i + 1 ≡ suc (i + 1) = omega arith in rw e refl) in
    record { free = rw (none 0 (omega arith)) more.free; whole = ap (λ (t : List ℕ). x ∷ t) (more.whole ∙ ap (λ (t : List ℕ). take i xs ++ 10 ∷ t) (sym step)) }

free_of : (xs : List ℕ) → ((k : ℕ) → k < length xs → is_lf (get_or xs k 0) ≡ false) → IsFree xs
free_of [] none = refl
free_of (x ∷ xs) none = rw (none 0 (omega arith)) (free_of xs (λ k lt. none (suc k) (omega arith)))

pub first_splits : (xs : List ℕ) (r : Option ℕ) → IsFirstByte (is_byte 10) xs r → IfSome r (λ at. Splits xs (take at xs) (drop (at + 1) xs))
first_splits xs None h = tt
first_splits xs (Some i) h = split_at_lf xs i h.0.high h.1 (λ k below. false_from_ne_true _ (h.0.before k (omega arith) below))

pub first_free : (xs : List ℕ) (r : Option ℕ) → IsFirstByte (is_byte 10) xs r → IfNone r (IsFree xs)
first_free xs None h = free_of xs (λ k below. false_from_ne_true _ (h k (omega arith) below))
first_free xs (Some i) h = tt

pub without_cr_yes : (xs : List ℕ) → without_cr (xs ++ 13 ∷ []) ≡ xs
without_cr_yes [] = refl
without_cr_yes (x ∷ []) = refl
without_cr_yes (x ∷ y ∷ xs) = ap (λ t. x ∷ t) (without_cr_yes (y ∷ xs))

pub without_cr_no : (xs : List ℕ) → ((front : List ℕ) → xs ≢ front ++ 13 ∷ []) → without_cr xs ≡ xs
without_cr_no [] none = refl
without_cr_no (b ∷ []) none =
    let no : (b == 13) ≡ false = false_from_ne_true _ (λ e. let is : b ≡ 13 = grind (arith, nat_tests) in none [] (ap (λ (x : ℕ). x ∷ []) is)) in rw no refl
without_cr_no (b ∷ c ∷ xs) none = ap (λ t. b ∷ t) (without_cr_no (c ∷ xs) (λ front e. none (b ∷ front) (ap (λ t. b ∷ t) e)))

pub take_min : (n : ℕ) (xs : List ℕ) → take (min (length xs) n) xs ≡ take n xs
take_min n xs = elim (cases_lt (length xs) n) [
  | inl short ↦ (let e : min (length xs) n ≡ length xs = omega arith in ap (λ (k : ℕ). take k xs) e ∙ (take-length xs ∙ sym (take_all n xs (omega arith))))
  | inr long ↦ (let e : min (length xs) n ≡ n = omega arith in ap (λ (k : ℕ). take k xs) e)
]

pub fits_more : (xs piece : List ℕ) (n : ℕ) → n ≡ 65538 - length xs → length xs ≤ 65538 → xs ++ take n piece ≡ held (xs ++ piece)
fits_more xs piece n is le =
    let whole : 65538 ≡ length xs + n = omega arith in
    sym (ap (λ (k : ℕ). take k (xs ++ piece)) whole ∙ take-append-add xs piece n)

-- what is held of a piece after another
pub held_more : (raw piece : List ℕ) → held (held raw ++ piece) ≡ held (raw ++ piece)
held_more raw piece = elim (cases_lt (length raw) 65538) [
  | inl short ↦ ap (λ (xs : List ℕ). held (xs ++ piece)) (take_all 65538 raw (omega arith))
  | inr long ↦ (let full : length (held raw) ≡ 65538 = length-take-le 65538 raw (omega arith) in
      take-append-le 65538 (held raw) piece (omega arith) ∙ (take_all 65538 (held raw) (omega arith) ∙ sym (take-append-le 65538 raw piece (omega arith))))
]

pub held_kept : (line : List ℕ) → held (kept line) ≡ kept line
held_kept line = elim (cases_lt (length line) 65537) [
  | inl short ↦ (let e : kept line ≡ line = take_all 65537 line (omega arith) in ap held e ∙ (take_all 65538 line (omega arith) ∙ sym e))
  | inr long ↦ (let e : length (kept line) ≡ 65537 = length-take-le 65537 line (omega arith) in take_all 65538 (kept line) (omega arith))
]

pub not_err : {T E : Type 0} (r : Result T E) (b : Bool) → b ≡ false → b ≡ is_err r → is_ok r ≡ true
not_err (Ok x) b f e = refl
not_err (Err x) b f e = let no : true ≡ false = sym e ∙ f in cc
