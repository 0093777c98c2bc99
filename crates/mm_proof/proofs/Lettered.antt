-- The letters of tokens.
use Rattle.std.proofs.Common.{◌≡◌, ◌+◌, ◌-◌, ◌<◌, ◌≤◌, ℕ, suc, List, [], ◌∷◌, ◌++◌, length, take, drop, get_or, slice_range, ap, sym, ◌∙◌, arith}
use Rattle.std.proofs.lemmas.List.{drop_more}
use Rattle.mm_tokens.specs.Pieces.{tokens_in}
use Rattle.mm_tokens.specs.Scan.{Scan}
use Rattle.mm_tokens.specs.declared.pieces.Token.{Token}
use Rattle.mm_proof.specs.Reading.{Placed, placed, letters_in}
use Rattle.mm_proof.specs.LettersLeft.{letters_left}

abbrev pub letter : ℕ → ℕ → Placed
letter p b = record { place = p; byte = b }

range_more : (xs : List ℕ) (at end : ℕ) → at < end → end ≤ length xs → slice_range xs at end ≡ get_or xs at 0 ∷ slice_range xs (at + 1) end
range_more xs at end h g =
    let e : end - at ≡ suc (end - (at + 1)) = omega arith in
    ap (λ x. take (end - at) x) (drop_more xs at 0 (omega arith)) ∙ ap (λ n. take n (get_or xs at 0 ∷ drop (at + 1) xs)) e

range_none : (xs : List ℕ) (at : ℕ) → slice_range xs at at ≡ []
range_none xs at = let e : at - at ≡ 0 = omega arith in ap (λ n. take n (drop at xs)) e

-- the first letter of a token in hand
pub letters_first : (from : ℕ) (proof : List ℕ) (at end : ℕ) (scan : Scan) → at < end → end ≤ length proof
    → letters_left from proof at end scan ≡ letter (from + at) (get_or proof at 0) ∷ letters_left from proof (at + 1) end scan
letters_first from proof at end scan h g =
    let e : from + at + 1 ≡ from + (at + 1) = omega arith in
    ap (λ x. placed (from + at) x ++ letters_in from proof (tokens_in scan.left)) (range_more proof at end h g)
    ∙ ap (λ p. letter (from + at) (get_or proof at 0) ∷ placed p (slice_range proof (at + 1) end) ++ letters_in from proof (tokens_in scan.left)) e

-- where a token is used up the next one is taken
pub letters_next : (from : ℕ) (proof : List ℕ) (at end : ℕ) (old new : Scan) (t : Token) → at ≡ end → tokens_in old.left ≡ t ∷ tokens_in new.left
    → letters_left from proof at end old ≡ letters_left from proof t.start t.end new
letters_next from proof at end old new t h g =
    ap (λ n. placed (from + at) (slice_range proof at n) ++ letters_in from proof (tokens_in old.left)) (sym h)
    ∙ ap (λ x. placed (from + at) x ++ letters_in from proof (tokens_in old.left)) (range_none proof at)
    ∙ ap (letters_in from proof) g
