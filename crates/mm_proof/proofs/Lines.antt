-- A compressed proof that is written is read as the steps of its tree.
use Rattle.std.proofs.Common.{◌≡◌, ◌<◌, ℕ, zero, suc, ◌+◌, ◌-◌, ◌*◌, ◌/◌, ◌%◌, Bool, true, false, cond, ◌||◌, eqb, List, [], ◌∷◌, ◌++◌, length, map, drop, Option, None, Some, Result, Ok, Err, All, refl, sym, ap, ◌∙◌, subst, arith, append_assoc, length-append}
use Rattle.std.specs.List.{AllByRecursion, list_any}
use Rattle.std.specs.Str.{bytes_eq}
use Rattle.std.proofs.lemmas.Bool.Decides.{nat_tests, Decides-eqb}
use Rattle.std.proofs.lemmas.Grind.{common_steps}
use Rattle.std.proofs.lemmas.List.{append-nil, same_from_push}
use Rattle.std.proofs.lemmas.List.Elements.{All-from_recursion, recursion_from_All}
use Rattle.mm_layout.specs.Normal.{margin, lines_of, behind_feeds}
use Rattle.mm_layout.specs.Words.{is_word_byte, IsWord, text_at}
use Rattle.mm_layout.proofs.Parted.{Parts, spaced, parts, normal_spaced, tokens_of_parts, IsWordBy, IsPart, gap_line, are_parts}
use Rattle.mm_layout.proofs.Returned.{tokens_from, are_words}
use Rattle.mm_tokens.specs.Pieces.{pieces_of, tokens_in}
use Rattle.mm_tokens.specs.declared.pieces.Token.{Token}
use Rattle.mm_scope.specs.Contents.{stated_at}
use Rattle.mm_stated.specs.Stated.{is_hypothesis}
use Rattle.mm_proof.specs.Compacting.{Writing, start, earlier, named, put, written, compact}
use Rattle.mm_proof.specs.Encoding.{word_of, kind_of, own_labels, listed_labels, letters_for, list_words, laid_letters, compressed_proof}
use Rattle.mm_proof.specs.Decoding.{begins_list, normal, compressed}
use Rattle.mm_proof.specs.Decoding.{spelled as spelled_of}
use Rattle.mm_proof.specs.Reading.{start as reading_start}
use Rattle.mm_proof.proofs.Whole.{read-compact}
use Rattle.mm_proof.specs.Faults.{after}
use Rattle.mm_proof.specs.Labels.{text_of, is_mandatory, hypothesis, unless_mandatory, listed_of, listed_from}
use Rattle.mm_proof.specs.Standing.{MayStand, MayProve}
use Rattle.mm_tokens.specs.Words.{is_bad_label}
use Rattle.mm_proof.proofs.Listed.{listed_ends, listed_more}
use Rattle.mm_proof.proofs.Reread.{other_by, named_word, word_is, head, tail}
use Rattle.mm_proof.specs.Numbers.{leading_by, leading, letters_of, letter_of}
use Rattle.mm_proof.specs.Reading.{Placed, placed, letters_in, Reading, step_numbered, with_step, tag_last, read_letter, read_from, read}
use Rattle.mm_proof.specs.Steps.{untagged}
use Rattle.mm_proof.specs.Spelling.{is_among, number_of, spelled, with_tag, tags_then, letters_from, is_named, used, steps_read}
use Rattle.mm_proof.specs.Trees.{Tree, Trees, none, more, tree, trees_of, postorder}
use Rattle.mm_proof.specs.declared.fault.ProofFault.{ProofFault}
use Rattle.mm_proof.specs.declared.fault.ProofFault.TheVariants.{BadLetter, TagMisplaced, MandatoryListed}
use Rattle.mm_proof.specs.declared.letter.Letter.{Letter}
use Rattle.mm_proof.specs.declared.letter.Letter.TheVariants.{Last, Lead, Tag, Query, Other}
use Rattle.mm_proof.specs.declared.step.ProofStep.{ProofStep}
use Rattle.mm_proof.specs.declared.step.StepKind.{StepKind}
use Rattle.mm_proof.specs.declared.step.StepKind.TheVariants as kind
use Rattle.mm_proof.specs.declared.written.Step.{Step}
use Rattle.mm_proof.specs.declared.written.Step.TheVariants.{Label, Unknown, Back}

-- parts without the space at their end
abbrev front : Parts → List ℕ
front [] = []
front (p ∷ ps) = p.0 ++ (p.1 ++ front ps)

spaced_front : (ps : Parts) → spaced ps ≡ front ps ++ 32 ∷ []
spaced_front [] = refl
spaced_front (p ∷ ps) =
    ap (λ x. p.0 ++ (p.1 ++ x)) (spaced_front ps)
    ∙ ap (λ x. p.0 ++ x) (sym (append_assoc p.1 (front ps) (32 ∷ [])))
    ∙ sym (append_assoc p.0 (p.1 ++ front ps) (32 ∷ []))

spaced_both : (ps qs : Parts) → spaced (ps ++ qs) ≡ front ps ++ spaced qs
spaced_both [] qs = refl
spaced_both (p ∷ ps) qs =
    ap (λ x. p.0 ++ (p.1 ++ x)) (spaced_both ps qs)
    ∙ ap (λ x. p.0 ++ x) (sym (append_assoc p.1 (front ps) (spaced qs)))
    ∙ sym (append_assoc p.0 (p.1 ++ front ps) (spaced qs))

feeds_are : (words : List (List ℕ)) → behind_feeds (lines_of words) ≡ front (parts 79 words)
feeds_are words = (same_from_push (behind_feeds (lines_of words)) (front (parts 79 words)) 32 32 (normal_spaced words ∙ spaced_front (parts 79 words))).0

-- letters cut into lines, of which one is begun
abbrev cut : ℕ → List ℕ → List ℕ → Parts
cut place word [] = (10 ∷ margin, word) ∷ []
cut place word (b ∷ bs) = cond (eqb (place % 72) 0) ((10 ∷ margin, word) ∷ cut (place + 1) (b ∷ []) bs) (cut (place + 1) (word ++ b ∷ []) bs)

laid_cut : (place : ℕ) (word bs : List ℕ) → (10 ∷ margin) ++ (word ++ (laid_letters place bs ++ 32 ∷ [])) ≡ spaced (cut place word bs)
laid_cut place word [] = refl
laid_cut place word (b ∷ bs) = by (eqb (place % 72) 0) (laid_cut (place + 1) (b ∷ []) bs) (laid_cut (place + 1) (word ++ b ∷ []) bs)
  where
    by : (c : Bool) → (10 ∷ margin) ++ ((b ∷ []) ++ (laid_letters (place + 1) bs ++ 32 ∷ [])) ≡ spaced (cut (place + 1) (b ∷ []) bs)
        → (10 ∷ margin) ++ ((word ++ b ∷ []) ++ (laid_letters (place + 1) bs ++ 32 ∷ [])) ≡ spaced (cut (place + 1) (word ++ b ∷ []) bs)
        → (10 ∷ margin) ++ (word ++ ((cond c (10 ∷ margin) [] ++ b ∷ laid_letters (place + 1) bs) ++ 32 ∷ []))
        ≡ spaced (cond c ((10 ∷ margin, word) ∷ cut (place + 1) (b ∷ []) bs) (cut (place + 1) (word ++ b ∷ []) bs))
    by true new same = ap (λ x. (10 ∷ margin) ++ (word ++ x)) new
    by false new same = ap (λ x. (10 ∷ margin) ++ x) (sym (append_assoc word (b ∷ []) (laid_letters (place + 1) bs ++ 32 ∷ []))) ∙ same

abbrev words_in : Parts → List (List ℕ)
words_in ps = map (λ (p : List ℕ × List ℕ). p.1) ps

abbrev together : List (List ℕ) → List ℕ
together [] = []
together (w ∷ ws) = w ++ together ws

texts_cut : (place : ℕ) (word bs : List ℕ) → together (words_in (cut place word bs)) ≡ word ++ bs
texts_cut place word [] = refl
texts_cut place word (b ∷ bs) = by (eqb (place % 72) 0) (texts_cut (place + 1) (b ∷ []) bs) (texts_cut (place + 1) (word ++ b ∷ []) bs)
  where
    by : (c : Bool) → together (words_in (cut (place + 1) (b ∷ []) bs)) ≡ b ∷ bs → together (words_in (cut (place + 1) (word ++ b ∷ []) bs)) ≡ (word ++ b ∷ []) ++ bs
        → together (words_in (cond c ((10 ∷ margin, word) ∷ cut (place + 1) (b ∷ []) bs) (cut (place + 1) (word ++ b ∷ []) bs))) ≡ word ++ b ∷ bs
    by true new same = ap (λ x. word ++ x) new
    by false new same = same ∙ append_assoc word (b ∷ []) bs

abbrev AreClean : List ℕ → Type 0
AreClean bs = AllByRecursion (λ b. is_word_byte b ≡ true) bs

clean_both : (xs ys : List ℕ) → AreClean xs → AreClean ys → AreClean (xs ++ ys)
clean_both [] ys h i = i
clean_both (x ∷ xs) ys h i = (h.0, clean_both xs ys h.1 i)

parts_cut : (place : ℕ) (word bs : List ℕ) → IsWordBy word → AreClean bs → AllByRecursion IsPart (cut place word bs)
parts_cut place word [] w h = ((gap_line, w), tt)
parts_cut place word (b ∷ bs) w h = by (eqb (place % 72) 0) (parts_cut (place + 1) (b ∷ []) bs (omega arith, (h.0, tt)) h.1)
    (parts_cut (place + 1) (word ++ b ∷ []) bs (omega (arith, length-append word (b ∷ [])), clean_both word (b ∷ []) w.1 (h.0, tt)) h.1)
  where
    by : (c : Bool) → AllByRecursion IsPart (cut (place + 1) (b ∷ []) bs) → AllByRecursion IsPart (cut (place + 1) (word ++ b ∷ []) bs)
        → AllByRecursion IsPart (cond c ((10 ∷ margin, word) ∷ cut (place + 1) (b ∷ []) bs) (cut (place + 1) (word ++ b ∷ []) bs))
    by true new same = ((gap_line, w), new)
    by false new same = same

parts_both : (ps qs : Parts) → AllByRecursion IsPart ps → AllByRecursion IsPart qs → AllByRecursion IsPart (ps ++ qs)
parts_both [] qs h i = i
parts_both (p ∷ ps) qs h i = (h.0, parts_both ps qs h.1 i)

words_both : (ps qs : Parts) → words_in (ps ++ qs) ≡ words_in ps ++ words_in qs
words_both [] qs = refl
words_both (p ∷ ps) qs = ap (λ x. p.1 ∷ x) (words_both ps qs)

-- the tokens of words, and of letters on lines of their own
pub tokens_are : (words : List (List ℕ)) (b : ℕ) (bs text : List ℕ) → text ≡ behind_feeds (lines_of words) ++ (laid_letters 0 (b ∷ bs) ++ 32 ∷ []) → All IsWord words → AreClean (b ∷ bs)
    → map (text_at text) (tokens_in (pieces_of text)) ≡ words ++ words_in (cut 1 (b ∷ []) bs)
tokens_are words b bs text is all clean =
    let ps = parts 79 words in
    let qs = cut 1 (b ∷ []) bs in
    let whole : text ≡ spaced (ps ++ qs) = is ∙ ap (λ x. x ++ (laid_letters 0 (b ∷ bs) ++ 32 ∷ [])) (feeds_are words) ∙ ap (λ x. front ps ++ x) (laid_cut 1 (b ∷ []) bs) ∙ sym (spaced_both ps qs) in
    tokens_from (ps ++ qs) text [] whole (parts_both ps qs (are_parts words 79 (are_words words all)) (parts_cut 1 (b ∷ []) bs (omega arith, (clean.0, tt)) clean.1))
    ∙ words_both ps qs ∙ ap (λ x. x ++ words_in qs) (tokens_of_parts words 79)

-- letters are bytes of words
last_clean : (d : ℕ) → d < 20 → is_word_byte (65 + d) ≡ true
last_clean d h = grind (arith, common_steps, h)

lead_clean : (d : ℕ) → d < 5 → is_word_byte (85 + d) ≡ true
lead_clean d h = grind (arith, common_steps, h)

leading_clean : (m q : ℕ) → AreClean (leading_by m q)
leading_clean zero q = tt
leading_clean (suc m) q = by (eqb q 0) (leading_clean m ((q - 1) / 5))
  where
    by : (c : Bool) → AreClean (leading_by m ((q - 1) / 5)) → AreClean (cond c [] (leading_by m ((q - 1) / 5) ++ (85 + (q - 1) % 5) ∷ []))
    by true h = tt
    by false h = clean_both (leading_by m ((q - 1) / 5)) ((85 + (q - 1) % 5) ∷ []) h (lead_clean ((q - 1) % 5) (omega arith), tt)

number_clean : (n : ℕ) → AreClean (letters_of n)
unfolding letters_of leading
number_clean n = clean_both (leading_by ((n - 1) / 20) ((n - 1) / 20)) ((65 + (n - 1) % 20) ∷ []) (leading_clean ((n - 1) / 20) ((n - 1) / 20)) (last_clean ((n - 1) % 20) (omega arith), tt)

spelled_clean : (n : ℕ) → AreClean (spelled n)
spelled_clean n = by (eqb n 0)
  where
    by : (c : Bool) → AreClean (cond c (63 ∷ []) (letters_of n))
    by true = (refl, tt)
    by false = number_clean n

tag_clean : (b : Bool) → AreClean (with_tag b)
tag_clean true = (refl, tt)
tag_clean false = tt

pub letters_clean : (labels : List ℕ) (tagged : ℕ → Bool) (i : ℕ) (tags : List ℕ) (ss : List Step) → AreClean (letters_from labels tagged i tags ss)
unfolding letters_from
letters_clean labels tagged i tags [] = tt
letters_clean labels tagged i tags (s ∷ ss) =
    clean_both (spelled (number_of labels tags s)) (with_tag (tagged i) ++ letters_from labels tagged (i + 1) (tags_then (tagged i) tags i) ss) (spelled_clean (number_of labels tags s))
    (clean_both (with_tag (tagged i)) (letters_from labels tagged (i + 1) (tags_then (tagged i) tags i) ss) (tag_clean (tagged i)) (letters_clean labels tagged (i + 1) (tags_then (tagged i) tags i) ss))

-- where letters stand changes nothing of what they spell
letter_free : (kinds : List StepKind) (p q : ℕ) (r next : Reading) (l : Letter) → read_letter kinds p r l ≡ Ok next → read_letter kinds q r l ≡ Ok next
letter_free kinds p q r next (Last d) h = by (step_numbered kinds r.tags (20 * r.number + d - 1)) h
  where
    by : (o : Option StepKind) → with_step p r o ≡ Ok next → with_step q r o ≡ Ok next
    by None e = cc
    by (Some s) e = e
letter_free kinds p q r next (Lead d) h = h
letter_free kinds p q r next Tag h = by r.complete h
  where
    by : (c : Bool) → cond c (Ok (record { number = r.number; complete = false; tags = r.tags ++ length r.steps ∷ []; steps = tag_last r.steps })) (Err (TagMisplaced p)) ≡ Ok next
        → cond c (Ok (record { number = r.number; complete = false; tags = r.tags ++ length r.steps ∷ []; steps = tag_last r.steps })) (Err (TagMisplaced q)) ≡ Ok next
    by true e = e
    by false e = cc
letter_free kinds p q r next Query h = by (eqb r.number 0) h
  where
    by : (c : Bool) → cond c (Ok (record { number = 0; complete = false; tags = r.tags; steps = r.steps ++ untagged kind.Unknown ∷ [] })) (Err (BadLetter p)) ≡ Ok next
        → cond c (Ok (record { number = 0; complete = false; tags = r.tags; steps = r.steps ++ untagged kind.Unknown ∷ [] })) (Err (BadLetter q)) ≡ Ok next
    by true e = e
    by false e = cc
letter_free kinds p q r next Other h = cc

abbrev bytes_in : List Placed → List ℕ
bytes_in xs = map (λ (x : Placed). x.byte) xs

unfoldable pub first_byte : List ℕ → ℕ
first_byte [] = 0
first_byte (b ∷ bs) = b

later_bytes : List ℕ → List ℕ
later_bytes [] = []
later_bytes (b ∷ bs) = bs

pub places_free : (kinds : List StepKind) (xs ys : List Placed) (r : Reading) (v : List ProofStep) → bytes_in xs ≡ bytes_in ys → read_from kinds r xs ≡ Ok v → read_from kinds r ys ≡ Ok v
unfolding read_from first_byte later_bytes
places_free kinds [] [] r v e h = h
places_free kinds [] (y ∷ ys) r v e h = absurd (omega (arith, ap length e))
places_free kinds (x ∷ xs) [] r v e h = absurd (omega (arith, ap length e))
places_free kinds (x ∷ xs) (y ∷ ys) r v e h =
    by (read_letter kinds x.place r (letter_of x.byte)) (λ next i. places_free kinds xs ys next v (ap later_bytes e) i) refl h
  where
    by : (o : Result Reading ProofFault) → ((next : Reading) → read_from kinds next xs ≡ Ok v → read_from kinds next ys ≡ Ok v) → read_letter kinds x.place r (letter_of x.byte) ≡ o → after o (λ next. read_from kinds next xs) ≡ Ok v
        → after (read_letter kinds y.place r (letter_of y.byte)) (λ next. read_from kinds next ys) ≡ Ok v
    by (Err f) on i j = cc
    by (Ok next) on i j =
        ap (λ o. after o (λ next. read_from kinds next ys)) (ap (λ b. read_letter kinds y.place r (letter_of b)) (sym (ap first_byte e)) ∙ letter_free kinds x.place y.place r next (letter_of x.byte) i)
        ∙ on next j

placed_bytes : (p : ℕ) (bs : List ℕ) → bytes_in (placed p bs) ≡ bs
placed_bytes p [] = refl
placed_bytes p (b ∷ bs) = ap (λ x. b ∷ x) (placed_bytes (p + 1) bs)

bytes_both : (xs ys : List Placed) → bytes_in (xs ++ ys) ≡ bytes_in xs ++ bytes_in ys
bytes_both [] ys = refl
bytes_both (x ∷ xs) ys = ap (λ z. x.byte ∷ z) (bytes_both xs ys)

pub letters_bytes : (from : ℕ) (proof : List ℕ) (ts : List Token) → bytes_in (letters_in from proof ts) ≡ together (map (text_of proof) ts)
letters_bytes from proof [] = refl
letters_bytes from proof (t ∷ ts) =
    bytes_both (placed (from + t.start) (text_of proof t)) (letters_in from proof ts)
    ∙ ap (λ x. x ++ bytes_in (letters_in from proof ts)) (placed_bytes (from + t.start) (text_of proof t))
    ∙ ap (λ x. text_of proof t ++ x) (letters_bytes from proof ts)

-- the labels that are listed
LabelsHave : (ℕ → Type 0) → List Step → Type 0
LabelsHave P [] = Unit {0}
LabelsHave P (Label l ∷ ss) = P l × LabelsHave P ss
LabelsHave P (Unknown ∷ ss) = LabelsHave P ss
LabelsHave P (Back k ∷ ss) = LabelsHave P ss

have_more : (P : ℕ → Type 0) (xs : List Step) (s : Step) → LabelsHave P xs → LabelsHave P (s ∷ []) → LabelsHave P (xs ++ s ∷ [])
unfolding LabelsHave
have_more P [] s h i = i
have_more P (Label l ∷ xs) s h i = (h.0, have_more P xs s h.1 i)
have_more P (Unknown ∷ xs) s h i = have_more P xs s h i
have_more P (Back k ∷ xs) s h i = have_more P xs s h i

have_named : (P Q : ℕ → Type 0) (l : ℕ) → ((l ≡ 0 → ⊥) → P l → Q l) → P l → LabelsHave Q (named l ∷ [])
unfolding LabelsHave
have_named P Q l f p = by (eqb l 0) refl
  where
    by : (b : Bool) → eqb l 0 ≡ b → LabelsHave Q (cond b Unknown (Label l) ∷ [])
    by true e = tt
    by false e = (f (grind (arith, nat_tests)) p, tt)

have_put : (P Q : ℕ → Type 0) (o : Option ℕ) (t : Tree) (w walked : Writing) → ((t.label ≡ 0 → ⊥) → P t.label → Q t.label) → P t.label → LabelsHave Q w.steps → LabelsHave Q walked.steps → LabelsHave Q (put o t w walked).steps
unfolding LabelsHave
have_put P Q (Some k) t w walked f p a b = have_more Q w.steps (Back k) a tt
have_put P Q None t w walked f p a b = have_more Q walked.steps (named t.label) b (have_named P Q t.label f p)

all_front : (P : ℕ → Type 0) (xs ys : List ℕ) → AllByRecursion P (xs ++ ys) → AllByRecursion P xs
all_front P [] ys h = tt
all_front P (x ∷ xs) ys h = (h.0, all_front P xs ys h.1)

all_back : (P : ℕ → Type 0) (xs ys : List ℕ) → AllByRecursion P (xs ++ ys) → AllByRecursion P ys
all_back P [] ys h = h
all_back P (x ∷ xs) ys h = all_back P xs ys h.1

have_written : (P Q : ℕ → Type 0) → ((l : ℕ) → (l ≡ 0 → ⊥) → P l → Q l) → (ts : Trees) (w : Writing) → AllByRecursion P (postorder ts) → LabelsHave Q w.steps → LabelsHave Q (written w ts).steps
unfolding written
have_written P Q f none w h a = a
have_written P Q f (more l cs rest) w h a =
    let back = all_back P (postorder cs) (l ∷ postorder rest) h in
    have_written P Q f rest (put (earlier w.seen (tree l cs)) (tree l cs) w (written w cs)) back.1
    (have_put P Q (earlier w.seen (tree l cs)) (tree l cs) w (written w cs) (f l) back.0 a (have_written P Q f cs w (all_front P (postorder cs) (l ∷ postorder rest) h) a))

all_more : (P : ℕ → Type 0) (xs : List ℕ) (x : ℕ) → AllByRecursion P xs → P x → AllByRecursion P (xs ++ x ∷ [])
all_more P [] x h i = (i, tt)
all_more P (y ∷ xs) x h i = (h.0, all_more P xs x h.1 i)

among_front : (xs ys : List ℕ) (n : ℕ) → is_among (xs ++ ys) n ≡ false → is_among xs n ≡ false
among_front [] ys n h = refl
among_front (x ∷ xs) ys n h = by (eqb x n) h (among_front xs ys n)
  where
    by : (b : Bool) → (b || is_among (xs ++ ys) n) ≡ false → (is_among (xs ++ ys) n ≡ false → is_among xs n ≡ false) → (b || is_among xs n) ≡ false
    by true h f = cc
    by false h f = f h

used_have : (P : ℕ → Type 0) (own so_far : List ℕ) (ss : List Step) → LabelsHave P ss → AllByRecursion (λ l. P l × (is_among own l ≡ false)) so_far → AllByRecursion (λ l. P l × (is_among own l ≡ false)) (used own so_far ss)
unfolding LabelsHave
used_have P own so_far [] h a = a
used_have P own so_far (Label l ∷ ss) h a = by (is_among (own ++ so_far) l) refl (used_have P own so_far ss h.1 a)
    (λ e. used_have P own (so_far ++ l ∷ []) ss h.1 (all_more (λ l. P l × (is_among own l ≡ false)) so_far l a (h.0, among_front own so_far l e)))
  where
    by : (b : Bool) → is_among (own ++ so_far) l ≡ b → AllByRecursion (λ l. P l × (is_among own l ≡ false)) (used own so_far ss)
        → (is_among (own ++ so_far) l ≡ false → AllByRecursion (λ l. P l × (is_among own l ≡ false)) (used own (so_far ++ l ∷ []) ss))
        → AllByRecursion (λ l. P l × (is_among own l ≡ false)) (cond b (used own so_far ss) (used own (so_far ++ l ∷ []) ss))
    by true e old new = old
    by false e old new = new e
used_have P own so_far (Unknown ∷ ss) h a = used_have P own so_far ss h a
used_have P own so_far (Back k ∷ ss) h a = used_have P own so_far ss h a

-- a label of a statement that may stand
abbrev pub IsSome : List ℕ → ℕ → ℕ → Type 0
IsSome bytes at zero = ⊥
IsSome bytes at (suc n) = MayStand bytes at (suc n)

some_stands : (bytes : List ℕ) (at l : ℕ) → (l ≡ 0 → ⊥) → MayStand bytes at l → IsSome bytes at l
some_stands bytes at zero h i = absurd (h refl)
some_stands bytes at (suc n) h i = i

abbrev pub Listable : List ℕ → ℕ → ℕ → Type 0
Listable bytes at l = IsSome bytes at l × (is_among (own_labels bytes at) l ≡ false)

-- the listed labels may stand, and are no mandatory hypotheses
pub listed_stand : (bytes : List ℕ) (at : ℕ) (t : Tree) → MayProve bytes at t → AllByRecursion (Listable bytes at) (listed_labels bytes at t)
unfolding LabelsHave
listed_stand bytes at t h =
    used_have (IsSome bytes at) (own_labels bytes at) [] (compact t)
    (have_written (MayStand bytes at) (IsSome bytes at) (some_stands bytes at) (trees_of (t ∷ [])) start h.labels tt) tt

not_mandatory : (ms : List ℕ) (n : ℕ) → is_among (map (λ m. m + 1) ms) (suc n) ≡ false → list_any (λ m. eqb n m) ms ≡ false
not_mandatory [] n h = refl
not_mandatory (m ∷ ms) n h = by (eqb (m + 1) (suc n)) (eqb n m) refl refl h (not_mandatory ms n)
  where
    by : (a b : Bool) → eqb (m + 1) (suc n) ≡ a → eqb n m ≡ b → (a || is_among (map (λ m. m + 1) ms) (suc n)) ≡ false → (is_among (map (λ m. m + 1) ms) (suc n) ≡ false → list_any (λ m. eqb n m) ms ≡ false)
        → (b || list_any (λ m. eqb n m) ms) ≡ false
    by true b e f i g = cc
    by false false e f i g = g i
    by false true e f i g = absurd (let x : n ≡ m = (Decides-eqb n m).0 f in let y : m + 1 ≡ suc n → ⊥ = grind (arith, nat_tests) in y (omega arith))

unlisted_kind : (bytes : List ℕ) (at k n : ℕ) → is_mandatory bytes at n ≡ false → unless_mandatory bytes at k (kind_of bytes (suc n)) ≡ Ok (kind_of bytes (suc n))
unfolding kind_of
unlisted_kind bytes at k n h = by (is_hypothesis (stated_at bytes n).kind)
  where
    by : (b : Bool) → unless_mandatory bytes at k (cond b (kind.Hyp (record { 0 = n })) (kind.Apply (record { 0 = n }))) ≡ Ok (cond b (kind.Hyp (record { 0 = n })) (kind.Apply (record { 0 = n })))
    by true = ap (λ c. cond c (Err (MandatoryListed k)) (Ok (kind.Hyp (record { 0 = n })))) h
    by false = refl

-- a label that is listed is read
listed_word : (bytes : List ℕ) (at k l : ℕ) → Listable bytes at l → listed_of bytes at k (word_of bytes l) ≡ Ok (kind_of bytes l)
unfolding listed_of
listed_word bytes at k zero h = absurd h.0
listed_word bytes at k (suc n) h =
    ap (λ r. after r (unless_mandatory bytes at k)) (named_word bytes at k n h.0)
    ∙ unlisted_kind bytes at k n (not_mandatory (stated_at bytes at).mandatory n h.1)

bad_close : is_bad_label (41 ∷ []) ≡ true
unfolding is_bad_label
bad_close = refl

not_close : (bytes : List ℕ) (at l : ℕ) → Listable bytes at l → bytes_eq (word_of bytes l) (41 ∷ []) ≡ false
not_close bytes at zero h = absurd h.0
not_close bytes at (suc n) h = other_by (word_of bytes (suc n)) (41 ∷ []) (bytes_eq (word_of bytes (suc n)) (41 ∷ [])) bad_close refl h.0.fit

pub record ReadsList (bytes : List ℕ) (at : ℕ) (proof : List ℕ) (k : ℕ) (kinds : List StepKind) (ts : List Token) (list : List ℕ) (chunks : List (List ℕ)) : Type 0 where
  pub rest : List Token
  pub is : listed_from bytes at proof k kinds ts ≡ Ok (record { kinds = kinds ++ map (kind_of bytes) list; rest = rest })
  pub texts : map (text_of proof) rest ≡ chunks

pub list_reads : (bytes : List ℕ) (at : ℕ) (proof : List ℕ) (list : List ℕ) (k : ℕ) (kinds : List StepKind) (ts : List Token) (chunks : List (List ℕ)) → AllByRecursion (Listable bytes at) list
    → map (text_of proof) ts ≡ map (word_of bytes) list ++ (41 ∷ []) ∷ chunks → ReadsList bytes at proof k kinds ts list chunks
unfolding head tail
list_reads bytes at proof [] k kinds [] chunks h e = absurd (omega (arith, ap length e))
list_reads bytes at proof (l ∷ list) k kinds [] chunks h e = absurd (omega (arith, ap length e))
list_reads bytes at proof [] k kinds (t ∷ ts) chunks h e = record {
  rest = ts;
  is =
      listed_ends bytes at proof k kinds (t ∷ ts) ts t refl (ap (λ x. bytes_eq x (41 ∷ [])) (ap head e))
      ∙ ap (λ x. Ok (record { kinds = x; rest = ts })) (sym (append-nil kinds));
  texts = ap tail e;
}
list_reads bytes at proof (l ∷ list) k kinds (t ∷ ts) chunks h e =
    let word : text_of proof t ≡ word_of bytes l = ap head e in
    let r = list_reads bytes at proof list (k + 1) (kinds ++ kind_of bytes l ∷ []) ts chunks h.1 (ap tail e) in
    record {
      rest = r.rest;
      is =
          listed_more bytes at proof k kinds (t ∷ ts) ts t (kind_of bytes l) refl (ap (λ x. bytes_eq x (41 ∷ [])) word ∙ not_close bytes at l h.0) (ap (listed_of bytes at k) word ∙ listed_word bytes at k l h.0)
          ∙ r.is ∙ ap (λ x. Ok (record { kinds = x; rest = r.rest })) (append_assoc kinds (kind_of bytes l ∷ []) (map (kind_of bytes) list));
      texts = r.texts;
    }

map_both : (f : ℕ → StepKind) (xs ys : List ℕ) → map f (xs ++ ys) ≡ map f xs ++ map f ys
map_both f [] ys = refl
map_both f (x ∷ xs) ys = ap (λ z. f x ∷ z) (map_both f xs ys)

own_kind : (bytes : List ℕ) (m : ℕ) → is_hypothesis (stated_at bytes m).kind ≡ true → kind_of bytes (suc m) ≡ hypothesis m
unfolding kind_of
own_kind bytes m h = ap (λ b. cond b (kind.Hyp (record { 0 = m })) (kind.Apply (record { 0 = m }))) h

own_kinds : (bytes : List ℕ) (ms : List ℕ) → AllByRecursion (λ m. is_hypothesis (stated_at bytes m).kind ≡ true) ms → map (kind_of bytes) (map (λ m. m + 1) ms) ≡ map hypothesis ms
own_kinds bytes [] h = refl
own_kinds bytes (m ∷ ms) h =
    let e : m + 1 ≡ suc m = omega arith in
    ap (λ x. x ∷ map (kind_of bytes) (map (λ m. m + 1) ms)) (ap (kind_of bytes) e ∙ own_kind bytes m h.0) ∙ ap (λ x. hypothesis m ∷ x) (own_kinds bytes ms h.1)

-- `(`, the labels and `)` are words
some_words : (bytes : List ℕ) (at : ℕ) (list : List ℕ) → AllByRecursion (Listable bytes at) list → AllByRecursion IsWord (map (word_of bytes) list ++ (41 ∷ []) ∷ [])
some_words bytes at [] h = (record { some = omega arith; bytes = All-from_recursion (λ b. is_word_byte b ≡ true) (41 ∷ []) (refl, tt) }, tt)
some_words bytes at (zero ∷ list) h = absurd h.0.0
some_words bytes at (suc n ∷ list) h = (word_is bytes at (suc n) h.0.0, some_words bytes at list h.1)

all_words : (bytes : List ℕ) (at : ℕ) (list : List ℕ) → AllByRecursion (Listable bytes at) list → All IsWord (list_words bytes list)
all_words bytes at list h =
    All-from_recursion IsWord (list_words bytes list) (record { some = omega arith; bytes = All-from_recursion (λ b. is_word_byte b ≡ true) (40 ∷ []) (refl, tt) }, some_words bytes at list h)

from_tokens : (bytes : List ℕ) (at from : ℕ) (t : Tree) (proof : List ℕ) (b : ℕ) (bs : List ℕ) (tokens : List Token) → MayProve bytes at t
    → AllByRecursion (λ m. is_hypothesis (stated_at bytes m).kind ≡ true) (stated_at bytes at).mandatory → letters_for bytes at t ≡ b ∷ bs
    → map (text_of proof) tokens ≡ (40 ∷ []) ∷ (map (word_of bytes) (listed_labels bytes at t) ++ (41 ∷ []) ∷ words_in (cut 1 (b ∷ []) bs))
    → cond (begins_list proof tokens) (compressed bytes at from proof (drop 1 tokens)) (normal bytes at proof tokens) ≡ Ok (steps_read (kind_of bytes) (compact t))
unfolding head tail
from_tokens bytes at from t proof b bs [] h own is e = absurd (omega (arith, ap length e))
from_tokens bytes at from t proof b bs (first ∷ ts) h own is e =
    let list = listed_labels bytes at t in
    let mine = own_labels bytes at in
    let r = list_reads bytes at proof list 2 (map hypothesis (stated_at bytes at).mandatory) ts (words_in (cut 1 (b ∷ []) bs)) (listed_stand bytes at t h) (ap tail e) in
    let kinds : map (kind_of bytes) (mine ++ list) ≡ map hypothesis (stated_at bytes at).mandatory ++ map (kind_of bytes) list =
    map_both (kind_of bytes) mine list ∙ ap (λ x. x ++ map (kind_of bytes) list) (own_kinds bytes (stated_at bytes at).mandatory own) in
    let same : bytes_in (placed 0 (letters_for bytes at t)) ≡ bytes_in (letters_in from proof r.rest) =
    placed_bytes 0 (letters_for bytes at t) ∙ is ∙ sym (letters_bytes from proof r.rest ∙ ap together r.texts ∙ texts_cut 1 (b ∷ []) bs) in
    ap (λ c. cond c (compressed bytes at from proof ts) (normal bytes at proof (first ∷ ts))) (ap (λ x. bytes_eq x (40 ∷ [])) (ap head e))
    ∙ ap (λ o. after o (λ n. read n.kinds (letters_in from proof n.rest))) r.is
    ∙ ap (λ x. read x (letters_in from proof r.rest)) (sym kinds)
    ∙ places_free (map (kind_of bytes) (mine ++ list)) (placed 0 (letters_for bytes at t)) (letters_in from proof r.rest) reading_start (steps_read (kind_of bytes) (compact t)) same (read-compact (kind_of bytes) mine t 0)

no_letters : (bytes : List ℕ) (at : ℕ) (t : Tree) → letters_for bytes at t ≡ [] → ⊥
unfolding read_from
no_letters bytes at t e =
    let f = sym (read-compact (kind_of bytes) (own_labels bytes at) t 0) ∙ ap (λ x. read (map (kind_of bytes) (own_labels bytes at ++ listed_labels bytes at t)) (placed 0 x)) e in
    cc

-- the text of a compressed proof spells the steps of its tree
pub compressed_reads : (bytes : List ℕ) (at from : ℕ) (t : Tree) → MayProve bytes at t → All (λ m. is_hypothesis (stated_at bytes m).kind ≡ true) (stated_at bytes at).mandatory
    → spelled_of bytes at from (compressed_proof bytes at t) ≡ Ok (steps_read (kind_of bytes) (compact t))
unfolding spelled_of
compressed_reads bytes at from t h own = by (letters_for bytes at t) refl
  where
    list : List ℕ
    list = listed_labels bytes at t

    by : (ls : List ℕ) → letters_for bytes at t ≡ ls → spelled_of bytes at from (compressed_proof bytes at t) ≡ Ok (steps_read (kind_of bytes) (compact t))
    by [] e = absurd (no_letters bytes at t e)
    by (b ∷ bs) e =
        let proof = compressed_proof bytes at t in
        let words = list_words bytes (listed_labels bytes at t) in
        let P : List ℕ → Type 0 = λ x. AreClean x in
        let clean = subst P e (letters_clean (own_labels bytes at ++ listed_labels bytes at t) (is_named (compact t)) 0 [] (compact t)) in
        let texts = tokens_are words b bs proof (ap (λ x. behind_feeds (lines_of words) ++ (laid_letters 0 x ++ 32 ∷ [])) e) (all_words bytes at (listed_labels bytes at t) (listed_stand bytes at t h)) clean
        ∙ ap (λ x. (40 ∷ []) ∷ x) (append_assoc (map (word_of bytes) (listed_labels bytes at t)) ((41 ∷ []) ∷ []) (words_in (cut 1 (b ∷ []) bs))) in
        from_tokens bytes at from t proof b bs (tokens_in (pieces_of proof)) h (recursion_from_All (λ m. is_hypothesis (stated_at bytes m).kind ≡ true) (stated_at bytes at).mandatory own) e texts
