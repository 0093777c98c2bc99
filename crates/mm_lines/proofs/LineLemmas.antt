-- Lines, and the bytes that they stand in.
use Rattle.std.proofs.Common.{◌≡◌, ◌<◌, ◌≤◌, ◌==◌, ◌||◌, ◌&&◌, ◌⊎◌, ℕ, zero, suc, Bool, true, false, List, [], ◌∷◌, ◌++◌, length, take, refl, sym, ◌∙◌, ap, arith, append_assoc, length-append, if◌then◌else◌, inl, inr, nat_le}
use Rattle.std.proofs.lemmas.List.{take-append-le, take_all, length-take-le}
use Rattle.std.proofs.lemmas.List.Folds.{list_any-append}
use Rattle.std.proofs.lemmas.Bool.{cases_lt}
use Rattle.std.proofs.lemmas.Bool.Decides.{nat_tests}
use Rattle.std.specs.List.{list_any}
use Rattle.mm_lines.specs.Lines.{lines_of, glue, kept, kept_lines}
use Rattle.mm_lines.specs.Parts.{is_lf, IsFree, Splits, without_cr, line_of, held}

pub append_nil : (xs : List ℕ) → xs ++ [] ≡ xs
append_nil [] = refl
append_nil (x ∷ xs) = ap (λ t. x ∷ t) (append_nil xs)

or_left : (a b : Bool) → (a || b) ≡ false → a ≡ false
or_left true b h = h
or_left false b h = refl

or_right : (a b : Bool) → (a || b) ≡ false → b ≡ false
or_right true b h = let no : true ≡ false = h in cc
or_right false b h = h

and_false : (b : Bool) → (b && false) ≡ false
and_false true = refl
and_false false = refl

pub lines_none : lines_of [] ≡ []
unfolding lines_of
lines_none = refl

one_byte : (b : ℕ) (rest : List ℕ) (cr : Bool) → (if (cr && true) then lines_of (10 ∷ rest) else glue b (lines_of (10 ∷ rest))) ≡ (if cr then [] else b ∷ []) ∷ lines_of rest
unfolding lines_of
one_byte b rest true = refl
one_byte b rest false = refl

lines_glue : (b c : ℕ) (xs : List ℕ) → (b == 10) ≡ false → (c == 10) ≡ false → lines_of (b ∷ c ∷ xs) ≡ glue b (lines_of (c ∷ xs))
unfolding lines_of
lines_glue b c xs e f =
    ap (λ (t : Bool). if t then [] ∷ lines_of (c ∷ xs) else (if (b == 13 && (c == 10)) then lines_of (c ∷ xs) else glue b (lines_of (c ∷ xs)))) e
    ∙ (ap (λ (t : Bool). if (b == 13 && t) then lines_of (c ∷ xs) else glue b (lines_of (c ∷ xs))) f
    ∙ ap (λ (t : Bool). if t then lines_of (c ∷ xs) else glue b (lines_of (c ∷ xs))) (and_false (b == 13)))

-- a line that ends with an LF
pub lines_with : (raw rest : List ℕ) → IsFree raw → lines_of (raw ++ 10 ∷ rest) ≡ without_cr raw ∷ lines_of rest
unfolding lines_of
lines_with [] rest free = refl
lines_with (b ∷ []) rest free = rw (or_left (b == 10) false free) (one_byte b rest (b == 13))
lines_with (b ∷ c ∷ raw) rest free =
    let more : IsFree (c ∷ raw) = or_right (b == 10) (list_any is_lf (c ∷ raw)) free in
    lines_glue b c (raw ++ 10 ∷ rest) (or_left (b == 10) (list_any is_lf (c ∷ raw)) free) (or_left (c == 10) (list_any is_lf raw) more) ∙ ap (glue b) (lines_with (c ∷ raw) rest more)

-- the last line, where no LF ends it
pub lines_last : (b : ℕ) (raw : List ℕ) → IsFree (b ∷ raw) → lines_of (b ∷ raw) ≡ (b ∷ raw) ∷ []
unfolding lines_of
lines_last b [] free = rw (or_left (b == 10) false free, and_false (b == 13)) refl
lines_last b (c ∷ raw) free =
    let more : IsFree (c ∷ raw) = or_right (b == 10) (list_any is_lf (c ∷ raw)) free in
    lines_glue b c raw (or_left (b == 10) (list_any is_lf (c ∷ raw)) free) (or_left (c == 10) (list_any is_lf raw) more) ∙ ap (glue b) (lines_last c raw more)

pub free_append : (xs ys : List ℕ) → IsFree xs → IsFree ys → IsFree (xs ++ ys)
free_append xs ys f g = list_any-append is_lf xs ys ∙ rw (f, g) refl

pub free_take : (n : ℕ) (xs : List ℕ) → IsFree xs → IsFree (take n xs)
free_take zero xs f = refl
free_take (suc n) [] f = refl
free_take (suc n) (x ∷ xs) f = rw (or_left (is_lf x) (list_any is_lf xs) f) (free_take n xs (or_right (is_lf x) (list_any is_lf xs) f))

pub take_take : (m n : ℕ) (xs : List ℕ) → m ≤ n → take m (take n xs) ≡ take m xs
take_take zero n xs le = refl
take_take (suc m) zero xs le = absurd (omega (arith, le))
take_take (suc m) (suc n) [] le = refl
take_take (suc m) (suc n) (x ∷ xs) le = ap (λ (t : List ℕ). x ∷ t) (take_take m n xs (omega (arith, le)))

without_cr_take : (n : ℕ) (xs : List ℕ) → n < length xs → take n (without_cr xs) ≡ take n xs
without_cr_take zero xs lt = refl
without_cr_take (suc n) [] lt = refl
without_cr_take (suc n) (b ∷ []) lt = absurd (omega (arith, lt))
without_cr_take (suc n) (b ∷ c ∷ xs) lt = ap (λ (t : List ℕ). b ∷ t) (without_cr_take n (c ∷ xs) (omega (arith, lt)))

kept_long : (has_lf : Bool) (raw : List ℕ) → 65538 ≤ length raw → kept (line_of has_lf (held raw)) ≡ kept (line_of has_lf raw)
kept_long true raw long =
    without_cr_take 65537 (held raw) (let e : length (held raw) ≡ 65538 = length-take-le 65538 raw long in omega arith)
    ∙ (take_take 65537 65538 raw (omega arith) ∙ sym (without_cr_take 65537 raw (omega (arith, long))))
kept_long false raw long = take_take 65537 65538 raw (omega arith)

-- what is held of a line tells what is kept of it
pub kept_held : (has_lf : Bool) (raw : List ℕ) → kept (line_of has_lf (held raw)) ≡ kept (line_of has_lf raw)
kept_held has_lf raw = elim (cases_lt (length raw) 65538) [
  | inl short ↦ ap (λ (xs : List ℕ). kept (line_of has_lf xs)) (take_all 65538 raw (omega arith))
  | inr long ↦ kept_long has_lf raw long
]

first_lf : (x : ℕ) (xs : List ℕ) (b : Bool) → is_lf x ≡ b → IsFree xs ⊎ ((piece : List ℕ) × (rest : List ℕ) × Splits xs piece rest) → IsFree (x ∷ xs) ⊎ ((piece : List ℕ) × (rest : List ℕ) × Splits (x ∷ xs) piece rest)
first_lf x xs true e s = let is : x ≡ 10 = grind (arith, nat_tests) in inr ([], xs, record { free = refl; whole = ap (λ (b : ℕ). b ∷ xs) is })
first_lf x xs false e (inl free) = inl (rw e free)
first_lf x xs false e (inr s) = inr (x ∷ s.0, s.1, record { free = rw e s.2.free; whole = ap (λ (t : List ℕ). x ∷ t) s.2.whole })

-- bytes have an LF or not
splits_or_free : (xs : List ℕ) → IsFree xs ⊎ ((piece : List ℕ) × (rest : List ℕ) × Splits xs piece rest)
splits_or_free [] = inl refl
splits_or_free (x ∷ xs) = first_lf x xs (is_lf x) refl (splits_or_free xs)

-- the lines of bytes that begin with a line that is too long
abbrev cut_lines : List ℕ → List (List ℕ) → List (List ℕ)
cut_lines front lines = take 65537 front ∷ kept_lines lines

long_with : (xs piece rest : List ℕ) → IsFree xs → IsFree piece → 65538 ≤ length xs → kept_lines (lines_of (xs ++ (piece ++ 10 ∷ rest))) ≡ cut_lines xs (lines_of rest)
long_with xs piece rest fx fp long =
    let all : xs ++ (piece ++ 10 ∷ rest) ≡ (xs ++ piece) ++ 10 ∷ rest = sym (append_assoc xs piece (10 ∷ rest)) in
    let more : 65537 < length (xs ++ piece) = omega (arith, length-append xs piece) in
    ap (λ (ys : List ℕ). kept_lines (lines_of ys)) all
    ∙ (ap kept_lines (lines_with (xs ++ piece) rest (free_append xs piece fx fp))
    ∙ ap (λ (l : List ℕ). l ∷ kept_lines (lines_of rest)) (without_cr_take 65537 (xs ++ piece) more ∙ take-append-le 65537 xs piece (omega arith)))

long_last : (xs ys : List ℕ) → IsFree xs → IsFree ys → 65538 ≤ length xs → kept_lines (lines_of (xs ++ ys)) ≡ cut_lines xs []
long_last [] ys fx fy long = absurd (omega (arith, long))
long_last (x ∷ xs) ys fx fy long =
    ap kept_lines (lines_last x (xs ++ ys) (free_append (x ∷ xs) ys fx fy))
    ∙ ap (λ (l : List ℕ). l ∷ []) (take-append-le 65537 (x ∷ xs) ys (omega arith))

-- bytes whose first line is too long anyway have the same lines, as far as they are kept
long_lines : (xs ys more : List ℕ) → IsFree xs → IsFree ys → 65538 ≤ length xs → 65538 ≤ length ys → take 65537 xs ≡ take 65537 ys → kept_lines (lines_of (xs ++ more)) ≡ kept_lines (lines_of (ys ++ more))
long_lines xs ys more fx fy lx ly same = elim (splits_or_free more) [
  | inl free ↦ long_last xs more fx free lx ∙ (ap (λ (l : List ℕ). l ∷ []) same ∙ sym (long_last ys more fy free ly))
  | inr s ↦ (let at = λ (zs : List ℕ). ap (λ (m : List ℕ). kept_lines (lines_of (zs ++ m))) s.2.whole in
      at xs ∙ (long_with xs s.0 s.1 fx s.2.free lx ∙ (ap (λ (l : List ℕ). l ∷ kept_lines (lines_of s.1)) same ∙ (sym (long_with ys s.0 s.1 fy s.2.free ly) ∙ sym (at ys)))))
]

-- what is held of a line that has not ended tells the lines, as far as they are kept
pub held_lines : (raw more : List ℕ) → IsFree raw → kept_lines (lines_of (held raw ++ more)) ≡ kept_lines (lines_of (raw ++ more))
held_lines raw more free = elim (cases_lt (length raw) 65538) [
  | inl short ↦ ap (λ (xs : List ℕ). kept_lines (lines_of (xs ++ more))) (take_all 65538 raw (omega arith))
  | inr long ↦ long_lines (held raw) raw more (free_take 65538 raw free) free (let e : length (held raw) ≡ 65538 = length-take-le 65538 raw long in omega arith) long (take_take 65537 65538 raw (omega arith))
]

-- a line that isn't too long is kept whole
pub kept_short : (line : List ℕ) → length line ≤ 65536 → kept line ≡ line
kept_short line short = take_all 65537 line (omega arith)

-- what is kept of a line tells whether it is too long
pub kept_long_too : (line : List ℕ) → nat_le (length (kept line)) 65536 ≡ nat_le (length line) 65536
kept_long_too line = elim (cases_lt (length line) 65537) [
  | inl short ↦ ap (λ (xs : List ℕ). nat_le (length xs) 65536) (take_all 65537 line (omega arith))
  | inr long ↦ (let e : length (kept line) ≡ 65537 = length-take-le 65537 line long in
      let yes_kept : nat_le (length (kept line)) 65536 ≡ false = grind (arith, nat_tests) in
      let yes_line : nat_le (length line) 65536 ≡ false = grind (arith, nat_tests) in
      yes_kept ∙ sym yes_line)
]
