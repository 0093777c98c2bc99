-- The text of a saved proof.
use Rattle.std.proofs.Common.{◌≡◌, ◌≢◌, ◌<◌, ◌-◌, ◌+◌, ◌%◌, ℕ, zero, suc, Bool, true, false, cond, not, ◌&&◌, ◌||◌, nat_eq, List, [], ◌∷◌, ◌++◌, map, length, get_or, Option, None, Some, refl, sym, ap, ◌∙◌, subst, inl, inr, arith, append_assoc, length-append}
use Rattle.std.proofs.Math.Seq.{get_or-append_seam}
use Rattle.std.proofs.lemmas.Bool.{cases_lt, true≢false, eqb-true}
use Rattle.std.proofs.lemmas.Grind.{common_steps}
use Rattle.std.proofs.lemmas.List.{get_or_default, get_or_past}
use Rattle.std.proofs.lemmas.List.Elements.{All-from_recursion, recursion_from_All}
use Rattle.std.proofs.lemmas.List.Folds.{list_any_none}
use Rattle.std.specs.List.{All, AllByRecursion as ByRecursion, list_any}
use Rattle.mm_tokens.specs.Bytes.{is_bad, is_white}
use Rattle.mm_tokens.specs.Words.{is_label_byte, is_bad_label}
use Rattle.mm_layout.specs.Normal.{margin, lines_of, behind_feeds, normal_text}
use Rattle.mm_layout.specs.Words.{is_word_byte, IsWord}
use Rattle.mm_layout.proofs.Clean.{text_good, text_dollarless, text_front, text_back}
use Rattle.mm_layout.proofs.Returned.{tokens_returned}
use Rattle.mm_scope.specs.Contents.{labels_of}
use Rattle.mm_plain.specs.declared.plain.Plain.{Plain}
use Rattle.mm_plain.specs.Numbers.{IsOwnLabel, HasOwnLabels}
use Rattle.mm_plain.specs.Shape.{Each, steps_of}
use Rattle.mm_plain.specs.Sources.{label_of}
use Rattle.mm_plain.specs.Labels.{label_at}
use Rattle.mm_plain.proofs.Labels.{has_label}
use Rattle.mm_proof.specs.Compacting.{compact}
use Rattle.mm_proof.specs.Encoding.{word_of, own_labels as own_labels_of, listed_labels, letters_for, list_words, feed_before, laid_letters}
use Rattle.mm_proof.specs.Spelling.{is_named}
use Rattle.mm_proof.specs.Trees.{Tree}
use Rattle.mm_proof.proofs.Lines.{letters_clean}
use Rattle.mm_sound.specs.Complete.{labels_in}
use Rattle.mm_sound.specs.LabelTrees.{label_tree}
use Rattle.mm_sound.specs.Written.{texts_in, word_for, written}
use Rattle.mm_splice.specs.Splicing.{is_proof_text}
use Rattle.mm_save.specs.Saving.{saved_text}
use Rattle.mm_save.specs.declared.form.Form.{Form}
use Rattle.mm_save.specs.declared.form.Form.TheVariants.{Normal, Compressed}

each_own : (bytes : List ℕ) (xs : List Plain) → Each (λ y. IsOwnLabel bytes (label_of y)) xs → ByRecursion (IsOwnLabel bytes) (map label_of xs)
each_own bytes [] e = tt
each_own bytes (x ∷ xs) e = (e.0, each_own bytes xs e.1)

own_labels : (bytes : List ℕ) (x : Plain) → HasOwnLabels bytes x → ByRecursion (IsOwnLabel bytes) (labels_in x)
unfolding HasOwnLabels
own_labels bytes x h = each_own bytes (steps_of x) h

-- the labels of the steps as a list
pub all_own : (bytes : List ℕ) (x : Plain) → HasOwnLabels bytes x → All (IsOwnLabel bytes) (labels_in x)
all_own bytes x h = All-from_recursion (IsOwnLabel bytes) (labels_in x) (own_labels bytes x h)

neither : (a b : Bool) → (a || b) ≡ false → (a ≡ false) × (b ≡ false)
neither true b h = absurd (true≢false h)
neither false b h = (refl, h)

not_false : (b : Bool) → not b ≡ false → b ≡ true
not_false true h = refl
not_false false h = absurd (true≢false h)

graphic_label : (b : ℕ) → is_label_byte b ≡ true → is_word_byte b ≡ true
graphic_label b h = grind (arith, common_steps, h)

label_bytes : (t : List ℕ) → list_any (λ b. not (is_label_byte b)) t ≡ false → ByRecursion (λ b. is_word_byte b ≡ true) t
label_bytes [] h = tt
label_bytes (b ∷ bs) h =
    let w : (not (is_label_byte b) ≡ false) × (list_any (λ c. not (is_label_byte c)) bs ≡ false) = neither (not (is_label_byte b)) (list_any (λ c. not (is_label_byte c)) bs) h in
    (graphic_label b (not_false (is_label_byte b) w.0), label_bytes bs w.1)

label_word : (t : List ℕ) → is_bad_label t ≡ false → 0 < length t → IsWord t
unfolding is_bad_label
label_word t fit some = record { some = some; bytes = All-from_recursion (λ b. is_word_byte b ≡ true) t (label_bytes t fit) }

-- what is written for a step is a word
word_is : (bytes : List ℕ) (o : Option ℕ) → IsOwnLabel bytes o → IsWord (word_for bytes o)
word_is bytes None h = record { some = omega arith; bytes = All-from_recursion (λ b. is_word_byte b ≡ true) (63 ∷ []) (refl, tt) }
word_is bytes (Some l) h = let named = has_label bytes l h in label_word (label_at bytes l) named.fit named.some

words_are : (bytes : List ℕ) (os : List (Option ℕ)) → ByRecursion (IsOwnLabel bytes) os → ByRecursion IsWord (map (word_for bytes) os)
words_are bytes [] h = tt
words_are bytes (o ∷ os) h = (word_is bytes o h.0, words_are bytes os h.1)

pub written_words : (bytes : List ℕ) (x : Plain) → HasOwnLabels bytes x → All IsWord (written bytes x)
written_words bytes x own = All-from_recursion IsWord (written bytes x) (words_are bytes (labels_in x) (own_labels bytes x own))

all_true : (a b c : Bool) → a ≡ true → b ≡ true → c ≡ false → (a && b && not c) ≡ true
all_true a b c e f g = ap (λ x. x && b && not c) e ∙ ap (λ y. y && not c) f ∙ ap not g

none_of : (a b : Bool) → a ≡ false → b ≡ false → (a || b) ≡ false
none_of a b e f = ap (λ x. x || b) e ∙ f

other_by : (m n : ℕ) (b : Bool) → nat_eq m n ≡ b → m ≢ n → b ≡ false
other_by m n true e h = absurd (h (eqb-true m n e))
other_by m n false e h = refl

-- it may stand as a proof
pub words_fine : (ws : List (List ℕ)) → All IsWord ws → is_proof_text (normal_text ws) ≡ true
words_fine ws words =
    let text : List ℕ = normal_text ws in
    all_true (is_white (get_or text 0 0)) (is_white (get_or text (length text - 1) 0)) (list_any (λ b. is_bad b || nat_eq b 36) text) (text_front ws) (text_back ws)
    (list_any_none (λ b. is_bad b || nat_eq b 36) text
    (λ k d small. none_of (is_bad (get_or text k d)) (nat_eq (get_or text k d) 36) (text_good ws words k d small) (other_by (get_or text k d) 36 (nat_eq (get_or text k d) 36) refl (text_dollarless ws words k d small))))

-- what is written for a label by its number is a word
label_is : (bytes : List ℕ) (n : ℕ) → IsWord (word_of bytes (suc n))
unfolding word_of
label_is bytes n = elim (cases_lt n (length (labels_of bytes))) [
  | inl less ↦ subst IsWord (get_or_default (labels_of bytes) n [] (63 ∷ []) less) (word_is bytes (Some n) less)
  | inr other ↦ subst IsWord (sym (get_or_past (labels_of bytes) n (63 ∷ []) other)) (word_is bytes None tt)
]

number_is : (bytes : List ℕ) (l : ℕ) → IsWord (word_of bytes l)
unfolding word_of
number_is bytes zero = word_is bytes None tt
number_is bytes (suc n) = label_is bytes n

-- so are `(` and `)`
open_is : IsWord (40 ∷ [])
open_is = record { some = omega arith; bytes = All-from_recursion (λ b. is_word_byte b ≡ true) (40 ∷ []) (refl, tt) }

close_is : IsWord (41 ∷ [])
close_is = record { some = omega arith; bytes = All-from_recursion (λ b. is_word_byte b ≡ true) (41 ∷ []) (refl, tt) }

numbers_are : (bytes : List ℕ) (ls : List ℕ) → ByRecursion IsWord (map (word_of bytes) ls ++ (41 ∷ []) ∷ [])
numbers_are bytes [] = (close_is, tt)
numbers_are bytes (l ∷ ls) = (number_is bytes l, numbers_are bytes ls)

-- the words of a list
list_words_are : (bytes : List ℕ) (ls : List ℕ) → All IsWord (list_words bytes ls)
list_words_are bytes ls = All-from_recursion IsWord (list_words bytes ls) (open_is, numbers_are bytes ls)

-- a byte that a proof's text may not have
abbrev is_foreign : ℕ → Bool
is_foreign b = is_bad b || nat_eq b 36

abbrev AreFine : List ℕ → Type 0
AreFine bs = ByRecursion (λ b. is_foreign b ≡ false) bs

both_fine : (xs ys : List ℕ) → AreFine xs → AreFine ys → AreFine (xs ++ ys)
both_fine [] ys h g = g
both_fine (x ∷ xs) ys h g = (h.0, both_fine xs ys h.1 g)

front_fine : (xs ys : List ℕ) → AreFine (xs ++ ys) → AreFine xs
front_fine [] ys h = tt
front_fine (x ∷ xs) ys h = (h.0, front_fine xs ys h.1)

lines_fine : (ws : List (List ℕ)) → All IsWord ws → AreFine (behind_feeds (lines_of ws))
lines_fine ws words =
    front_fine (behind_feeds (lines_of ws)) (32 ∷ []) (recursion_from_All (λ b. is_foreign b ≡ false) (normal_text ws)
    (λ k d small. none_of (is_bad (get_or (normal_text ws) k d)) (nat_eq (get_or (normal_text ws) k d) 36) (text_good ws words k d small)
    (other_by (get_or (normal_text ws) k d) 36 (nat_eq (get_or (normal_text ws) k d) 36) refl (text_dollarless ws words k d small))))

fine_byte : (b : ℕ) → is_word_byte b ≡ true → is_foreign b ≡ false
fine_byte b h = grind (arith, common_steps, h)

feed_fine : (place : ℕ) → AreFine (feed_before place)
feed_fine place = by (nat_eq (place % 72) 0)
  where
    by : (b : Bool) → AreFine (cond b (10 ∷ margin) [])
    by true = (refl, (refl, (refl, (refl, (refl, (refl, (refl, tt)))))))
    by false = tt

letters_fine : (place : ℕ) (bs : List ℕ) → ByRecursion (λ b. is_word_byte b ≡ true) bs → AreFine (laid_letters place bs)
letters_fine place [] h = tt
letters_fine place (b ∷ bs) h = both_fine (feed_before place) (b ∷ laid_letters (place + 1) bs) (feed_fine place) (fine_byte b h.0, letters_fine (place + 1) bs h.1)

-- a text whose lines are followed by letters
abbrev with_letters : List ℕ → List ℕ → List ℕ
with_letters lines ls = lines ++ (laid_letters 0 ls ++ 32 ∷ [])

letters_front : (ls : List ℕ) → is_white (get_or (laid_letters 0 ls ++ 32 ∷ []) 0 0) ≡ true
letters_front [] = refl
letters_front (b ∷ bs) = refl

front_white : (lines ls : List ℕ) → is_white (get_or (lines ++ 32 ∷ []) 0 0) ≡ true → is_white (get_or (with_letters lines ls) 0 0) ≡ true
front_white [] ls h = letters_front ls
front_white (b ∷ bs) ls h = h

back_white : (xs : List ℕ) → is_white (get_or (xs ++ 32 ∷ []) (length (xs ++ 32 ∷ []) - 1) 0) ≡ true
back_white xs =
    let len : length (xs ++ 32 ∷ []) - 1 ≡ length xs = omega (arith, length-append xs (32 ∷ [])) in
    ap (λ n. is_white (get_or (xs ++ 32 ∷ []) n 0)) len ∙ ap is_white (get_or-append_seam xs 32 [] 0)

none_foreign : (bs : List ℕ) → AreFine bs → list_any is_foreign bs ≡ false
none_foreign [] h = refl
none_foreign (b ∷ bs) h = ap (λ c. c || list_any is_foreign bs) h.0 ∙ none_foreign bs h.1

with_letters_fine : (ws : List (List ℕ)) (ls : List ℕ) → All IsWord ws → ByRecursion (λ b. is_word_byte b ≡ true) ls → is_proof_text (with_letters (behind_feeds (lines_of ws)) ls) ≡ true
with_letters_fine ws ls words clean =
    let lines : List ℕ = behind_feeds (lines_of ws) in
    let text : List ℕ = with_letters lines ls in
    let same : (lines ++ laid_letters 0 ls) ++ 32 ∷ [] ≡ text = append_assoc lines (laid_letters 0 ls) (32 ∷ []) in
    all_true (is_white (get_or text 0 0)) (is_white (get_or text (length text - 1) 0)) (list_any is_foreign text)
    (front_white lines ls (text_front ws))
    (subst (λ (t : List ℕ). is_white (get_or t (length t - 1) 0) ≡ true) same (back_white (lines ++ laid_letters 0 ls)))
    (none_foreign text (both_fine lines (laid_letters 0 ls ++ 32 ∷ []) (lines_fine ws words) (both_fine (laid_letters 0 ls) (32 ∷ []) (letters_fine 0 ls clean) (refl, tt))))

pub text_fine : (bytes : List ℕ) (at : ℕ) (form : Form) (x : Plain) → HasOwnLabels bytes x → is_proof_text (saved_text bytes at form x) ≡ true
text_fine bytes at Normal x own = words_fine (written bytes x) (written_words bytes x own)
text_fine bytes at Compressed x own =
    let t : Tree = label_tree x in
    let list : List ℕ = listed_labels bytes at t in
    with_letters_fine (list_words bytes list) (letters_for bytes at t) (list_words_are bytes list) (letters_clean (own_labels_of bytes at ++ list) (is_named (compact t)) 0 [] (compact t))

-- the tokens of a normal proof are what is written
pub text_tokens : (bytes : List ℕ) (x : Plain) → HasOwnLabels bytes x → texts_in (normal_text (written bytes x)) ≡ written bytes x
text_tokens bytes x own = tokens_returned (written bytes x) (written_words bytes x own)

-- it is not empty
pub text_some : (bytes : List ℕ) (at : ℕ) (form : Form) (x : Plain) → 0 < length (saved_text bytes at form x)
text_some bytes at Normal x = omega (arith, length-append (behind_feeds (lines_of (written bytes x))) (32 ∷ []))
text_some bytes at Compressed x =
    let t : Tree = label_tree x in
    let lines : List ℕ = behind_feeds (lines_of (list_words bytes (listed_labels bytes at t))) in
    let ls : List ℕ = laid_letters 0 (letters_for bytes at t) in
    omega (arith, length-append lines (ls ++ 32 ∷ []), length-append ls (32 ∷ []))
