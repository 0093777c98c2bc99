-- The texts of tokens where a part of a list of bytes stands in other bytes.
use Rattle.std.proofs.Common.{◌≡◌, ℕ, ◌+◌, ◌-◌, ◌<◌, ◌≤◌, Bool, true, false, not, cond, ◌||◌, List, [], ◌∷◌, map, length, drop, slice_range, slice_index, get_or, nat_eq, refl, sym, ◌∙◌, ap, arith, length-drop}
use Rattle.std.proofs.lemmas.List.{length-take, get_or-take, get_or-drop}
use Rattle.std.proofs.lemmas.Grind.{same_number_lists}
use Rattle.std.proofs.lemmas.Bool.{true≢false}
use Rattle.mm_tokens.specs.declared.pieces.Token.{Token as Run}
use Rattle.mm_tokens.specs.declared.pieces.Piece.{Piece}
use Rattle.mm_tokens.specs.declared.pieces.Piece.TheVariants.{Token, Comment, Open}
use Rattle.mm_tokens.specs.Parts.{IsMark}
use Rattle.mm_tokens.specs.Words.{word_of, keyword_of}
use Rattle.mm_tokens.specs.declared.word.Word.TheVariants as word
use Rattle.mm_scope.specs.Reading.{text_of}
use Rattle.mm_splice.specs.Moved.{move_piece}
use Rattle.mm_splice.proofs.Bytes.{FailsEach, fails_at}
use Rattle.mm_splice.proofs.Parts.{AreEnded, UpTo, upto_rises}
use Rattle.mm_splice.proofs.Turning.{AreAlike, ArePlain, proof_room, two_bytes}

pub range_size : (bytes : List ℕ) (s e : ℕ) → s ≤ e → e ≤ length bytes → length (slice_range bytes s e) ≡ e - s
range_size bytes s e up within = omega (arith, length-take (e - s) (drop s bytes), length-drop s bytes, up, within)

pub range_at : (bytes : List ℕ) (s e k : ℕ) → k < e - s → get_or (slice_range bytes s e) k 0 ≡ get_or bytes (s + k) 0
range_at bytes s e k h = get_or-take (e - s) (drop s bytes) k 0 h ∙ get_or-drop s bytes k 0

-- a `$=` has two bytes
pub proof_size : (bytes : List ℕ) (k : Run) → k.start < k.end → k.end ≤ length bytes → word_of (text_of bytes k) ≡ word.Proof → k.end ≡ k.start + 2
proof_size bytes k up within w = omega (arith, up, two_bytes (text_of bytes k) w, range_size bytes k.start k.end (omega (arith, up)) within)

module _ (old new : List ℕ) (f : ℕ → ℕ) (a b n : ℕ)
    (old_room : a + n ≤ length old) (new_room : b + n ≤ length new)
    (rise : (p : ℕ) → a ≤ p → p ≤ a + n → f p + a ≡ p + b)
    (same : (p q : ℕ) → q + a ≡ p + b → a ≤ p → p < a + n → get_or new q 0 ≡ get_or old p 0) where
  pub range_moved : (s e : ℕ) → s ≤ e → a ≤ s → e ≤ a + n → slice_range new (f s) (f e) ≡ slice_range old s e
  range_moved s e up low high =
      let start : f s + a ≡ s + b = rise s low (omega (arith, up, high)) in
      let end : f e + a ≡ e + b = rise e (omega (arith, low, up)) high in
      let new_size : length (slice_range new (f s) (f e)) ≡ f e - f s = range_size new (f s) (f e) (omega (arith, start, end, up)) (omega (arith, end, high, new_room)) in
      let old_size : length (slice_range old s e) ≡ e - s = range_size old s e up (omega (arith, high, old_room)) in
      same_number_lists (slice_range new (f s) (f e)) (slice_range old s e) (omega (arith, new_size, old_size, start, end))
      (λ k h. range_at new (f s) (f e) k (omega (arith, h, new_size))
      ∙ same (s + k) (f s + k) (omega (arith, start)) (omega (arith, low)) (omega (arith, h, new_size, start, end, high))
      ∙ sym (range_at old s e k (omega (arith, h, new_size, start, end))))

  pub alike : (p : ℕ) (xs : List Piece) (q : ℕ) → AreEnded xs → a ≤ p → q ≤ a + n → UpTo old p xs q → AreAlike old new f xs
  alike p [] q all low high u = tt
  alike p (Token t ∷ xs) q all low high u =
      let rest : t.end ≤ q = upto_rises old t.end xs q u.3 in
      let near : a ≤ t.start = omega (arith, low, u.0) in (
        range_moved t.start t.end (omega (arith, u.2.run.some)) near (omega (arith, rest, high)),
        λ w. let room : t.start + 2 ≤ t.end = proof_room old t u.2.run.some w in
            omega (arith, rise t.start near (omega (arith, room, rest, high)), rise (t.start + 2) (omega (arith, near)) (omega (arith, room, rest, high))),
        alike t.end xs q all (omega (arith, near, u.2.run.some)) high u.3,
      )
  alike p (Comment c ∷ xs) q all low high u = alike c.end xs q all (omega (arith, low, u.0, u.2.room)) high u.3
  alike p (Open o ∷ xs) q all low high u = absurd all

-- tokens with the same texts are as plain
pub plain_moved : (old new : List ℕ) (f : ℕ → ℕ) (xs : List Piece) → AreAlike old new f xs → ArePlain old xs → ArePlain new (map (move_piece f) xs)
plain_moved old new f [] same plain = tt
plain_moved old new f (Token t ∷ xs) same plain = (ap word_of same.0 ∙ plain.0, plain_moved old new f xs same.2 plain.1)
plain_moved old new f (Comment c ∷ xs) same plain = plain_moved old new f xs same plain
plain_moved old new f (Open o ∷ xs) same plain = absurd plain

text_by : (a b : Bool) (t : List ℕ) → b ≡ false → cond (a || not b) word.Text (cond (nat_eq (length t) 2) (keyword_of (slice_index t 1)) word.Unknown) ≡ word.Text
text_by true b t e = refl
text_by false true t e = absurd (true≢false e)
text_by false false t e = refl

text_word : (t : List ℕ) → nat_eq (slice_index t 0) 36 ≡ false → word_of t ≡ word.Text
unfolding word_of
text_word t e = text_by (nat_eq (length t) 0) (nat_eq (slice_index t 0) 36) t e

no_mark : (text : List ℕ) (c p : ℕ) → FailsEach (λ b. nat_eq b 36) text → IsMark text c p → ⊥
no_mark text c p plain mark =
    true≢false (sym (ap (λ b. nat_eq b 36) mark.dollar) ∙ fails_at (λ b. nat_eq b 36) text p (omega (arith, mark.run.within)) plain)

-- where no `$` stands, each token is no keyword
pub plain_text : (text : List ℕ) (p : ℕ) (xs : List Piece) (q : ℕ) → q ≤ length text → FailsEach (λ b. nat_eq b 36) text → UpTo text p xs q → ArePlain text xs
plain_text text p [] q h plain u = tt
plain_text text p (Token t ∷ xs) q h plain u =
    let there : get_or (slice_range text t.start t.end) 0 0 ≡ get_or text (t.start + 0) 0 = range_at text t.start t.end 0 (omega (arith, u.2.run.some)) in (
      text_word (text_of text t) (ap (λ b. nat_eq b 36) there ∙ fails_at (λ b. nat_eq b 36) text (t.start + 0) (omega (arith, u.2.run.some, u.2.run.within)) plain),
      plain_text text t.end xs q h plain u.3,
    )
plain_text text p (Comment c ∷ xs) q h plain u = absurd (no_mark text 40 c.start plain u.2.opens)
plain_text text p (Open o ∷ xs) q h plain u = absurd (no_mark text 40 o plain u.2.opens)
