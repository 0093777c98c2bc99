-- The bytes of a text of words.
use Rattle.std.proofs.Common.{◌≡◌, ◌≢◌, ℕ, ◌+◌, ◌-◌, Bool, true, false, not, ◌&&◌, ◌||◌, List, [], ◌∷◌, ◌++◌, length, get_or, refl, sym, ◌∙◌, ap, subst, arith, length-append}
use Rattle.std.specs.List.{All, AllByRecursion}
use Rattle.std.proofs.lemmas.List.{get_or-append_right}
use Rattle.std.proofs.lemmas.List.Elements.{All-from_recursion}
use Rattle.std.proofs.lemmas.Bool.{false≢true}
use Rattle.mm_tokens.specs.Bytes.{is_bad, is_graphic, is_white}
use Rattle.mm_layout.specs.Normal.{margin, filled, lines_of, behind_feeds, normal_text}
use Rattle.mm_layout.specs.Words.{is_word_byte, IsWord}
use Rattle.mm_layout.proofs.Parted.{Parts, spaced_from, spaced, parts, normal_spaced, IsPart, are_parts}
use Rattle.mm_layout.proofs.Returned.{are_words}

-- a byte of a text of words
abbrev is_clean : ℕ → Bool
is_clean b = is_word_byte b || is_white b

either_white : (w : Bool) → (w || true) ≡ true
either_white true = refl
either_white false = refl

white_clean : (xs : List ℕ) → AllByRecursion (λ b. is_white b ≡ true) xs → AllByRecursion (λ b. is_clean b ≡ true) xs
white_clean [] h = tt
white_clean (x ∷ xs) h = (ap (λ w. is_word_byte x || w) h.0 ∙ either_white (is_word_byte x), white_clean xs h.1)

word_clean : (xs : List ℕ) → AllByRecursion (λ b. is_word_byte b ≡ true) xs → AllByRecursion (λ b. is_clean b ≡ true) xs
word_clean [] h = tt
word_clean (x ∷ xs) h = (ap (λ w. w || is_white x) h.0, word_clean xs h.1)

clean_both : (xs ys : List ℕ) → AllByRecursion (λ b. is_clean b ≡ true) xs → AllByRecursion (λ b. is_clean b ≡ true) ys → AllByRecursion (λ b. is_clean b ≡ true) (xs ++ ys)
clean_both [] ys h g = g
clean_both (x ∷ xs) ys h g = (h.0, clean_both xs ys h.1 g)

spaced_clean : (ps : Parts) → AllByRecursion IsPart ps → AllByRecursion (λ b. is_clean b ≡ true) (spaced ps)
spaced_clean [] all = (refl, tt)
spaced_clean (p ∷ ps) all =
    clean_both p.0 (p.1 ++ spaced ps) (white_clean p.0 all.0.0.white) (clean_both p.1 (spaced ps) (word_clean p.1 all.0.1.1) (spaced_clean ps all.1))

text_clean : (ts : List (List ℕ)) → All IsWord ts → All (λ b. is_clean b ≡ true) (normal_text ts)
text_clean ts words =
    subst (All (λ b. is_clean b ≡ true)) (sym (normal_spaced ts))
    (All-from_recursion (λ b. is_clean b ≡ true) (spaced (parts 79 ts)) (spaced_clean (parts 79 ts) (are_parts ts 79 (are_words ts words))))

not_bad_by : (graphic other white : Bool) → ((graphic && other) || white) ≡ true → (not graphic && not white) ≡ false
not_bad_by true other white h = refl
not_bad_by false other true h = refl
not_bad_by false other false h = sym h

pub text_good : (ts : List (List ℕ)) → All IsWord ts → All (λ b. is_bad b ≡ false) (normal_text ts)
text_good ts words k d h = not_bad_by (is_graphic (get_or (normal_text ts) k d)) _ (is_white (get_or (normal_text ts) k d)) (text_clean ts words k d h)

no_dollar : (b : ℕ) → is_clean b ≡ true → b ≢ 36
no_dollar b h e = absurd (false≢true (subst (λ n. is_clean n ≡ true) e h))

pub text_dollarless : (ts : List (List ℕ)) → All IsWord ts → All (λ b. b ≢ 36) (normal_text ts)
text_dollarless ts words k d h = no_dollar (get_or (normal_text ts) k d) (text_clean ts words k d h)

-- the first line stands behind a LF
filled_front : (ts : List (List ℕ)) (line : List ℕ) → get_or (behind_feeds (filled line ts) ++ 32 ∷ []) 0 0 ≡ 10
filled_front ts line = ap (λ xs. get_or xs 0 0) (spaced_from ts line)

pub text_front : (ts : List (List ℕ)) → is_white (get_or (normal_text ts) 0 0) ≡ true
unfolding lines_of
text_front [] = refl
text_front (t ∷ ts) = ap is_white (filled_front ts (margin ++ t))

pub text_back : (ts : List (List ℕ)) → is_white (get_or (normal_text ts) (length (normal_text ts) - 1) 0) ≡ true
text_back ts =
    let lines : List ℕ = behind_feeds (lines_of ts) in
    let len : length (normal_text ts) ≡ length lines + 1 = length-append lines (32 ∷ []) in
    let z : length (normal_text ts) - 1 - length lines ≡ 0 = omega arith in
    ap is_white (get_or-append_right lines (32 ∷ []) (length lines) (length (normal_text ts) - 1) 0 refl (omega arith) ∙ ap (λ n. get_or (32 ∷ []) n 0) z)
