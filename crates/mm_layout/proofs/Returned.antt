-- The tokens of a text of gaps and words are the words.
use Rattle.std.proofs.Common.{◌≡◌, ℕ, ◌+◌, ◌-◌, ◌<◌, ◌≤◌, Bool, true, false, not, ◌&&◌, ◌==◌, List, [], ◌∷◌, ◌++◌, map, length, take, drop, get_or, slice_range, refl, sym, ◌∙◌, ap, append_assoc, arith, length-append}
use Rattle.std.specs.List.{All, AllByRecursion}
use Rattle.std.proofs.lemmas.List.{get_or_append_left, get_or-append_right}
use Rattle.std.proofs.lemmas.List.Elements.{All-from_recursion, recursion_from_All}
use Rattle.std.proofs.Math.Seq.{drop-append_seam, take-append_seam}
use Rattle.mm_tokens.specs.Bytes.{is_graphic}
use Rattle.mm_tokens.specs.Runs.{is_mark}
use Rattle.mm_tokens.specs.Pieces.{pieces_after, pieces_of, tokens_in}
use Rattle.mm_tokens.specs.declared.pieces.Piece.TheVariants.{Token}
use Rattle.mm_tokens.proofs.Places.{RunAt, run_end_is, first_run, boundary_at, not_true}
use Rattle.mm_tokens.proofs.Cuts.{pieces_skip, pieces_end, token_piece}
use Rattle.mm_layout.specs.Normal.{normal_text}
use Rattle.mm_layout.specs.Words.{is_word_byte, IsWord, text_at}
use Rattle.mm_layout.proofs.Parted.{Parts, spaced, parts, normal_spaced, tokens_of_parts, IsGap, IsWordBy, IsPart, are_parts}

-- a byte in the midst of a list
midst : (a b c bytes : List ℕ) (k : ℕ) → bytes ≡ a ++ (b ++ c) → length a ≤ k → k < length a + length b → get_or bytes k 0 ≡ get_or b (k - length a) 0
midst a b c bytes k is low high =
    ap (λ xs. get_or xs k 0) is
    ∙ get_or-append_right a (b ++ c) (length a) k 0 refl low
    ∙ get_or_append_left b c 0 (k - length a) (omega arith)

first_and : (x y : Bool) → (x && y) ≡ true → x ≡ true
first_and true y h = refl
first_and false y h = h

second_and : (x y : Bool) → (x && y) ≡ true → y ≡ true
second_and true y h = h
second_and false y h = cc

no_middle : (x y z : Bool) → y ≡ false → (x && y && z) ≡ false
no_middle true true z h = cc
no_middle true false z h = refl
no_middle false y z h = refl

graphic_of : (b : ℕ) → is_word_byte b ≡ true → is_graphic b ≡ true
graphic_of b h = first_and (is_graphic b) (not (b == 36)) h

no_dollar_of : (b : ℕ) → is_word_byte b ≡ true → (b == 36) ≡ false
no_dollar_of b h = not_true (b == 36) (second_and (is_graphic b) (not (b == 36)) h)

-- what follows a word begins with a gap
spaced_blank : (ps : Parts) → AllByRecursion IsPart ps → is_graphic (get_or (spaced ps) 0 0) ≡ false
spaced_blank [] all = refl
spaced_blank (p ∷ ps) all =
    ap is_graphic (get_or_append_left p.0 (p.1 ++ spaced ps) 0 0 all.0.0.some)
    ∙ All-from_recursion (λ b. is_graphic b ≡ false) p.0 all.0.0.blank 0 0 all.0.0.some

spaced_some : (ps : Parts) → 0 < length (spaced ps)
spaced_some [] = omega arith
spaced_some (p ∷ ps) = omega (arith, length-append p.0 (p.1 ++ spaced ps), length-append p.1 (spaced ps), spaced_some ps)

-- the piece at a place: a gap, and then a word
record Stands (bytes pre gap word rest : List ℕ) : Type 0 where
  pieces : pieces_after bytes (length pre) ≡ Token (record { start = length pre + length gap; end = length pre + length gap + length word }) ∷ pieces_after bytes (length pre + length gap + length word)
  text : slice_range bytes (length pre + length gap) (length pre + length gap + length word) ≡ word

stands : (bytes pre gap word rest : List ℕ) → bytes ≡ pre ++ (gap ++ (word ++ rest)) → IsGap gap → IsWordBy word → is_graphic (get_or rest 0 0) ≡ false
    → Stands bytes pre gap word rest
stands bytes pre gap word rest is blank some after =
    let at : ℕ = length pre in
    let s : ℕ = length pre + length gap in
    let e : ℕ = length pre + length gap + length word in
    let len1 : length (pre ++ gap) ≡ length pre + length gap = length-append pre gap in
    let len2 : length ((pre ++ gap) ++ word) ≡ length pre + length gap + length word = omega (arith, length-append (pre ++ gap) word) in
    let is1 : bytes ≡ (pre ++ gap) ++ (word ++ rest) = is ∙ sym (append_assoc pre gap (word ++ rest)) in
    let is2 : bytes ≡ ((pre ++ gap) ++ word) ++ rest = is1 ∙ sym (append_assoc (pre ++ gap) word rest) in
    let whole : length bytes ≡ length pre + length gap + length word + length rest = omega (arith, ap length is2, length-append ((pre ++ gap) ++ word) rest) in
    let long : 0 < length gap = blank.some in
    let longer : 0 < length word = some.0 in
    let none : (k : ℕ) → at ≤ k → k < s → is_graphic (get_or bytes k 0) ≡ false
    = λ k low high. ap is_graphic (midst pre gap (word ++ rest) bytes k is low high) ∙ All-from_recursion (λ b. is_graphic b ≡ false) gap blank.blank (k - length pre) 0 (omega arith) in
    let byte : (k : ℕ) → s ≤ k → k < e → is_word_byte (get_or bytes k 0) ≡ true
    = λ k low high. ap is_word_byte (midst (pre ++ gap) word rest bytes k is1 (omega arith) (omega arith)) ∙ All-from_recursion (λ b. is_word_byte b ≡ true) word some.1 (k - length (pre ++ gap)) 0 (omega arith) in
    let all : (k : ℕ) → s ≤ k → k < e → is_graphic (get_or bytes k 0) ≡ true = λ k low high. graphic_of (get_or bytes k 0) (byte k low high) in
    let z : e - length ((pre ++ gap) ++ word) ≡ 0 = omega arith in
    let stops : is_graphic (get_or bytes e 0) ≡ false
    = ap (λ xs. is_graphic (get_or xs e 0)) is2 ∙ ap is_graphic (get_or-append_right ((pre ++ gap) ++ word) rest (length ((pre ++ gap) ++ word)) e 0 refl (omega arith)) ∙ ap (λ k. is_graphic (get_or rest k 0)) z ∙ after in
    let ends = run_end_is bytes s e (omega arith) (omega arith) all stops in
    let run : RunAt bytes s e = first_run bytes at s e (boundary_at bytes at (none at (omega arith) (omega arith))) (omega arith) none (all s (omega arith) (omega arith)) (omega arith) (omega arith) ends all stops in
    let other : is_mark bytes 40 (record { start = s; end = e }) ≡ false
    = no_middle _ (get_or bytes s 0 == 36) _ (no_dollar_of (get_or bytes s 0) (byte s (omega arith) (omega arith))) in
    let width : e - s ≡ length word = omega arith in
    let cut : drop s bytes ≡ word ++ rest = ap (drop s) is1 ∙ ap (λ n. drop n ((pre ++ gap) ++ (word ++ rest))) (sym len1) ∙ drop-append_seam (pre ++ gap) (word ++ rest) in
    record {
      pieces = pieces_skip bytes at s (omega arith) (omega arith) none ∙ token_piece bytes s e run other;
      text = ap (λ n. take n (drop s bytes)) width ∙ ap (take (length word)) cut ∙ take-append_seam word rest;
    }

pub tokens_from : (ps : Parts) (bytes pre : List ℕ) → bytes ≡ pre ++ spaced ps → AllByRecursion IsPart ps
    → map (text_at bytes) (tokens_in (pieces_after bytes (length pre))) ≡ map (λ (p : List ℕ × List ℕ). p.1) ps
tokens_from [] bytes pre is all =
    let whole : length bytes ≡ length pre + 1 = omega (arith, ap length is, length-append pre (32 ∷ [])) in
    let none : (k : ℕ) → length pre ≤ k → k < length bytes → is_graphic (get_or bytes k 0) ≡ false
    = λ k low high. (let z : k - length pre ≡ 0 = omega arith in
    ap (λ xs. is_graphic (get_or xs k 0)) is ∙ ap is_graphic (get_or-append_right pre (32 ∷ []) (length pre) k 0 refl low) ∙ ap (λ n. is_graphic (get_or (32 ∷ []) n 0)) z) in
    ap (λ ps. map (text_at bytes) (tokens_in ps)) (pieces_skip bytes (length pre) (length bytes) (omega arith) (omega arith) none ∙ pieces_end bytes (length bytes) (omega arith))
tokens_from (p ∷ ps) bytes pre is all =
    let here : Stands bytes pre p.0 p.1 (spaced ps) = stands bytes pre p.0 p.1 (spaced ps) is all.0.0 all.0.1 (spaced_blank ps all.1) in
    let len : length ((pre ++ p.0) ++ p.1) ≡ length pre + length p.0 + length p.1 = omega (arith, length-append (pre ++ p.0) p.1, length-append pre p.0) in
    let is2 : bytes ≡ ((pre ++ p.0) ++ p.1) ++ spaced ps = is ∙ sym (append_assoc pre p.0 (p.1 ++ spaced ps)) ∙ sym (append_assoc (pre ++ p.0) p.1 (spaced ps)) in
    let later : map (text_at bytes) (tokens_in (pieces_after bytes (length ((pre ++ p.0) ++ p.1)))) ≡ map (λ (q : List ℕ × List ℕ). q.1) ps = tokens_from ps bytes ((pre ++ p.0) ++ p.1) is2 all.1 in
    ap (λ x. map (text_at bytes) (tokens_in x)) here.pieces
    ∙ ap (λ t. t ∷ map (text_at bytes) (tokens_in (pieces_after bytes (length pre + length p.0 + length p.1)))) here.text
    ∙ ap (λ n. p.1 ∷ map (text_at bytes) (tokens_in (pieces_after bytes n))) (sym len)
    ∙ ap (λ x. p.1 ∷ x) later

word_by : (t : List ℕ) → IsWord t → IsWordBy t
word_by t word = (word.some, recursion_from_All (λ b. is_word_byte b ≡ true) t word.bytes)

words_by : (ts : List (List ℕ)) → AllByRecursion IsWord ts → AllByRecursion IsWordBy ts
words_by [] words = tt
words_by (t ∷ ts) words = (word_by t words.0, words_by ts words.1)

pub are_words : (ts : List (List ℕ)) → All IsWord ts → AllByRecursion IsWordBy ts
are_words ts words = words_by ts (recursion_from_All IsWord ts words)

pub tokens_returned : (ts : List (List ℕ)) → All IsWord ts → map (text_at (normal_text ts)) (tokens_in (pieces_of (normal_text ts))) ≡ ts
tokens_returned ts words =
    tokens_from (parts 79 ts) (normal_text ts) [] (normal_spaced ts) (are_parts ts 79 (are_words ts words)) ∙ tokens_of_parts ts 79
