-- What is written for labels and letters.
use Rattle.std.proofs.Common.{◌≡◌, ℕ, zero, suc, ◌+◌, ◌-◌, ◌<◌, ◌≤◌, ◌⊎◌, inl, inr, List, [], ◌∷◌, ◌++◌, length, take, drop, get_or, Some, slice_get, refl, sym, ap, ◌∙◌, arith, append_assoc, length-append}
use Rattle.std.proofs.lemmas.List.{get_or_past, take_at, drop_more, drop_all, append-nil}
use Rattle.std.proofs.lemmas.Option.{get_or_from_slice_get}
use Rattle.mm_scope.specs.Contents.{labels_of}
use Rattle.mm_layout.specs.Normal.{lines_of, behind_feeds, normal_text}
use Rattle.mm_proof.specs.Encoding.{word_of, feed_before, laid_letters}

pub word_none : (bytes : List ℕ) (l : ℕ) → (l ≡ 0) ⊎ (length (labels_of bytes) < l) → 63 ∷ [] ≡ word_of bytes l
unfolding word_of
word_none bytes zero h = refl
word_none bytes (suc n) (inl e) = absurd (omega arith)
word_none bytes (suc n) (inr e) = sym (get_or_past (labels_of bytes) n (63 ∷ []) (omega arith))

pub word_some : (bytes : List ℕ) (l : ℕ) (text : List ℕ) → (l ≡ 0 → ⊥) → slice_get (labels_of bytes) (l - 1) ≡ Some text → text ≡ word_of bytes l
unfolding word_of
word_some bytes zero text h e = absurd (h refl)
word_some bytes (suc n) text h e =
    let same : suc n - 1 ≡ n = omega arith in
    sym (get_or_from_slice_get (labels_of bytes) n text (63 ∷ []) (ap (slice_get (labels_of bytes)) (sym same) ∙ e))

-- the text of words without the space at its end
pub feeds_front : (words : List (List ℕ)) (text : List ℕ) (n : ℕ) → text ≡ normal_text words → n ≡ length text - 1 → take n text ≡ behind_feeds (lines_of words)
feeds_front words text n h e =
    let lines = behind_feeds (lines_of words) in
    let len = ap length h ∙ length-append lines (32 ∷ []) in
    ap (take n) h ∙ take_at lines (32 ∷ []) n (omega arith)

pub letter_more : (letters : List ℕ) (place b : ℕ) (text mid after : List ℕ) → place < length letters → b ≡ get_or letters place 0 → mid ≡ text ++ feed_before place → after ≡ mid ++ b ∷ []
    → after ++ laid_letters (place + 1) (drop (place + 1) letters) ≡ text ++ laid_letters place (drop place letters)
letter_more letters place b text mid after at is m a =
    ap (λ x. x ++ laid_letters (place + 1) (drop (place + 1) letters)) (a ∙ ap (λ x. x ++ b ∷ []) m)
    ∙ append_assoc (text ++ feed_before place) (b ∷ []) (laid_letters (place + 1) (drop (place + 1) letters))
    ∙ append_assoc text (feed_before place) (b ∷ laid_letters (place + 1) (drop (place + 1) letters))
    ∙ ap (λ x. text ++ laid_letters place x) (sym (drop_more letters place 0 at ∙ ap (λ y. y ∷ drop (place + 1) letters) (sym is)))

pub letters_none : (letters : List ℕ) (place : ℕ) (text : List ℕ) → length letters ≤ place → text ++ laid_letters place (drop place letters) ≡ text
letters_none letters place text h = ap (λ x. text ++ laid_letters place x) (drop_all place letters h) ∙ append-nil text
