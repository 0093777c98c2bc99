-- Phrases in texts whose white space is folded.
use Rattle.std.proofs.Common.{◌≡◌, ◌≤◌, ◌<◌, ◌↔◌, ℕ, ◌+◌, Bool, true, false, ◌&&◌, ◌⊎◌, inl, inr, List, [], ◌∷◌, ◌++◌, Some, length, drop, get_or, nat_eq, IsTrue, refl, sym, ap, ◌∙◌, add-one, arith, drop-cons}
use Rattle.std.proofs.lemmas.Bool.{eqb-true, false≢true, or_cases, or_right, and_parts}
use Rattle.std.proofs.lemmas.List.{drop_all}
use Rattle.std.specs.List.{slice_get}
use Rattle.mm_tokens.specs.Bytes.{is_white}
use Rattle.mm_tokens.specs.Folding.{folded_after, folded, begins, holds, StandsIn}

-- what stands at a place
cut : (text : List ℕ) (place : ℕ) → place < length text → drop place text ≡ get_or text place 0 ∷ drop (place + 1) text
cut text place h = rw add-one (drop-cons text place 0 h)

pub white_skipped : (b : ℕ) (bs : List ℕ) → is_white b ≡ true → folded_after true (b ∷ bs) ≡ folded_after true bs
unfolding folded_after
white_skipped b bs w = rw w refl

pub white_kept : (b : ℕ) (bs : List ℕ) → is_white b ≡ true → folded (b ∷ bs) ≡ 32 ∷ folded_after true bs
unfolding folded_after
white_kept b bs w = rw w refl

pub other_kept : (white : Bool) (b : ℕ) (bs : List ℕ) → is_white b ≡ false → folded_after white (b ∷ bs) ≡ b ∷ folded bs
unfolding folded_after
other_kept white b bs w = rw w refl

-- the rest of a run of white space
pub skip_more : (text : List ℕ) (place : ℕ) → place < length text → is_white (get_or text place 0) ≡ true
    → folded_after true (drop place text) ≡ folded_after true (drop (place + 1) text)
skip_more text place h w = ap (folded_after true) (cut text place h) ∙ white_skipped (get_or text place 0) (drop (place + 1) text) w

pub skip_done : (text : List ℕ) (place : ℕ) → place < length text → is_white (get_or text place 0) ≡ false
    → folded_after true (drop place text) ≡ folded (drop place text)
skip_done text place h w =
    ap (folded_after true) (cut text place h) ∙ other_kept true (get_or text place 0) (drop (place + 1) text) w
    ∙ sym (ap folded (cut text place h) ∙ other_kept false (get_or text place 0) (drop (place + 1) text) w)

pub skip_end : (text : List ℕ) (place : ℕ) → length text ≤ place → folded_after true (drop place text) ≡ folded (drop place text)
unfolding folded_after
skip_end text place h = rw (drop_all place text h) refl

-- one byte of a phrase
same_head : (p b : ℕ) (x : Bool) → p ≡ b → (nat_eq p b && x) ≡ x
same_head p b x e = grind (arith, e)

other_head : (p b : ℕ) (x : Bool) → (p ≡ b → ⊥) → (nat_eq p b && x) ≡ false
other_head p b x e = grind (arith, e)

begins_one : (p b : ℕ) (ps bs : List ℕ) → p ≡ b → begins (p ∷ ps) (b ∷ bs) ≡ begins ps bs
unfolding begins
begins_one p b ps bs e = same_head p b (begins ps bs) e

begins_not : (p b : ℕ) (ps bs : List ℕ) → (p ≡ b → ⊥) → begins (p ∷ ps) (b ∷ bs) ≡ false
unfolding begins
begins_not p b ps bs e = other_head p b (begins ps bs) e

begins_end : (p : ℕ) (ps : List ℕ) → begins (p ∷ ps) (folded []) ≡ false
unfolding begins folded_after
begins_end p ps = refl

begins_none : (text : List ℕ) → begins [] text ≡ true
unfolding begins
begins_none text = refl

-- what is wanted at place k of the phrase, and what stands at a place of the text
module _ (phrase text : List ℕ) (k place : ℕ) (there : k < length phrase) where
  wanted_cut : begins (drop k phrase) (folded (drop place text)) ≡ begins (get_or phrase k 0 ∷ drop (k + 1) phrase) (folded (drop place text))
  wanted_cut = ap (λ ps. begins ps (folded (drop place text))) (cut phrase k there)

  pub text_ends : length text ≤ place → begins (drop k phrase) (folded (drop place text)) ≡ false
  text_ends h = wanted_cut ∙ ap (λ bs. begins (get_or phrase k 0 ∷ drop (k + 1) phrase) (folded bs)) (drop_all place text h)
      ∙ begins_end (get_or phrase k 0) (drop (k + 1) phrase)

  other_cut : place < length text → is_white (get_or text place 0) ≡ false
      → begins (drop k phrase) (folded (drop place text)) ≡ begins (get_or phrase k 0 ∷ drop (k + 1) phrase) (get_or text place 0 ∷ folded (drop (place + 1) text))
  other_cut h w = wanted_cut ∙ ap (begins (get_or phrase k 0 ∷ drop (k + 1) phrase))
      (ap folded (cut text place h) ∙ other_kept false (get_or text place 0) (drop (place + 1) text) w)

  white_cut : place < length text → is_white (get_or text place 0) ≡ true
      → begins (drop k phrase) (folded (drop place text)) ≡ begins (get_or phrase k 0 ∷ drop (k + 1) phrase) (32 ∷ folded_after true (drop (place + 1) text))
  white_cut h w = wanted_cut ∙ ap (begins (get_or phrase k 0 ∷ drop (k + 1) phrase))
      (ap folded (cut text place h) ∙ white_kept (get_or text place 0) (drop (place + 1) text) w)

  pub byte_fits : place < length text → is_white (get_or text place 0) ≡ false → get_or phrase k 0 ≡ get_or text place 0
      → begins (drop (k + 1) phrase) (folded (drop (place + 1) text)) ≡ begins (drop k phrase) (folded (drop place text))
  byte_fits h w e = sym (other_cut h w ∙ begins_one (get_or phrase k 0) (get_or text place 0) (drop (k + 1) phrase) (folded (drop (place + 1) text)) e)

  pub byte_differs : place < length text → is_white (get_or text place 0) ≡ false → (get_or phrase k 0 ≡ get_or text place 0 → ⊥)
      → begins (drop k phrase) (folded (drop place text)) ≡ false
  byte_differs h w e = other_cut h w ∙ begins_not (get_or phrase k 0) (get_or text place 0) (drop (k + 1) phrase) (folded (drop (place + 1) text)) e

  pub white_fits : (next : ℕ) → place < length text → is_white (get_or text place 0) ≡ true → get_or phrase k 0 ≡ 32
      → folded_after true (drop (place + 1) text) ≡ folded (drop next text)
      → begins (drop (k + 1) phrase) (folded (drop next text)) ≡ begins (drop k phrase) (folded (drop place text))
  white_fits next h w e same =
      sym (white_cut h w ∙ begins_one (get_or phrase k 0) 32 (drop (k + 1) phrase) (folded_after true (drop (place + 1) text)) e ∙ ap (begins (drop (k + 1) phrase)) same)

  pub white_differs : place < length text → is_white (get_or text place 0) ≡ true → (get_or phrase k 0 ≡ 32 → ⊥)
      → begins (drop k phrase) (folded (drop place text)) ≡ false
  white_differs h w e = white_cut h w ∙ begins_not (get_or phrase k 0) 32 (drop (k + 1) phrase) (folded_after true (drop (place + 1) text)) e

pub phrase_ends : (phrase text : List ℕ) (k : ℕ) → length phrase ≤ k → begins (drop k phrase) text ≡ true
phrase_ends phrase text k h = ap (λ ps. begins ps text) (drop_all k phrase h) ∙ begins_none text

-- A phrase that begins with `(` begins nowhere else.
first_wanted : (phrase : List ℕ) (b : ℕ) (bs : List ℕ) → slice_get phrase 0 ≡ Some 40 → (b ≡ 40 → ⊥) → begins phrase (b ∷ bs) ≡ false
first_wanted [] b bs e n = cc
first_wanted (p ∷ ps) b bs e n = begins_not p b ps bs (λ same. n (sym same ∙ first_is p e))
  where
    first_is : (q : ℕ) → Some q ≡ Some 40 → q ≡ 40
    first_is q h = cc

begins_empty : (phrase : List ℕ) → slice_get phrase 0 ≡ Some 40 → begins phrase [] ≡ false
unfolding begins
begins_empty [] e = cc
begins_empty (p ∷ ps) e = refl

holds_here : (phrase text : List ℕ) → begins phrase text ≡ true → holds phrase text ≡ true
unfolding holds
holds_here phrase [] h = h
holds_here phrase (b ∷ bs) h = rw h refl

holds_later : (phrase : List ℕ) (b : ℕ) (bs : List ℕ) → begins phrase (b ∷ bs) ≡ false → holds phrase (b ∷ bs) ≡ holds phrase bs
unfolding holds
holds_later phrase b bs h = rw h refl

not_space : (b : ℕ) → b ≡ 32 → b ≡ 40 → ⊥
not_space b e f = omega (arith, e, f)

-- white space before a text changes nothing
white_before : (phrase : List ℕ) (text : List ℕ) → slice_get phrase 0 ≡ Some 40 → holds phrase (folded_after true text) ≡ holds phrase (folded text)
unfolding folded_after
white_before phrase [] e = refl
white_before phrase (b ∷ bs) e = by (is_white b) refl
  where
    by : (r : Bool) → is_white b ≡ r → holds phrase (folded_after true (b ∷ bs)) ≡ holds phrase (folded (b ∷ bs))
    by true w =
        ap (holds phrase) (white_skipped b bs w)
        ∙ sym (ap (holds phrase) (white_kept b bs w) ∙ holds_later phrase 32 (folded_after true bs) (first_wanted phrase 32 (folded_after true bs) e (λ same. not_space 32 refl same)))
    by false w = ap (holds phrase) (other_kept true b bs w) ∙ sym (ap (holds phrase) (other_kept false b bs w))

later_by : (phrase : List ℕ) (b : ℕ) (bs : List ℕ) → slice_get phrase 0 ≡ Some 40 → begins phrase (folded (b ∷ bs)) ≡ false
    → (r : Bool) → is_white b ≡ r → holds phrase (folded (b ∷ bs)) ≡ holds phrase (folded bs)
later_by phrase b bs e none true w =
    ap (holds phrase) (white_kept b bs w) ∙ holds_later phrase 32 (folded_after true bs) (sym (ap (begins phrase) (white_kept b bs w)) ∙ none) ∙ white_before phrase bs e
later_by phrase b bs e none false w =
    ap (holds phrase) (other_kept false b bs w) ∙ holds_later phrase b (folded bs) (sym (ap (begins phrase) (other_kept false b bs w)) ∙ none)

pub found_here : (phrase text : List ℕ) (place : ℕ) → holds phrase (folded (drop place text)) ≡ holds phrase (folded text)
    → begins phrase (folded (drop place text)) ≡ true → holds phrase (folded text) ≡ true
found_here phrase text place same h = sym same ∙ holds_here phrase (folded (drop place text)) h

pub found_later : (phrase text : List ℕ) (place : ℕ) → slice_get phrase 0 ≡ Some 40 → place < length text
    → begins phrase (folded (drop place text)) ≡ false → holds phrase (folded (drop (place + 1) text)) ≡ holds phrase (folded (drop place text))
found_later phrase text place e h none =
    sym (ap (λ bs. holds phrase (folded bs)) (cut text place h)
    ∙ later_by phrase (get_or text place 0) (drop (place + 1) text) e (sym (ap (λ bs. begins phrase (folded bs)) (cut text place h)) ∙ none) (is_white (get_or text place 0)) refl)

other_by : (phrase : List ℕ) (b : ℕ) (bs : List ℕ) → slice_get phrase 0 ≡ Some 40 → (b ≡ 40 → ⊥) → (r : Bool) → is_white b ≡ r → begins phrase (folded (b ∷ bs)) ≡ false
other_by phrase b bs e n true w = ap (begins phrase) (white_kept b bs w) ∙ first_wanted phrase 32 (folded_after true bs) e (λ same. not_space 32 refl same)
other_by phrase b bs e n false w = ap (begins phrase) (other_kept false b bs w) ∙ first_wanted phrase b (folded bs) e n

pub other_place : (phrase text : List ℕ) (place : ℕ) → slice_get phrase 0 ≡ Some 40 → place < length text → (get_or text place 0 ≡ 40 → ⊥)
    → begins phrase (folded (drop place text)) ≡ false
other_place phrase text place e h n =
    ap (λ bs. begins phrase (folded bs)) (cut text place h) ∙ other_by phrase (get_or text place 0) (drop (place + 1) text) e n (is_white (get_or text place 0)) refl

pub found_nowhere : (phrase text : List ℕ) (place : ℕ) → slice_get phrase 0 ≡ Some 40 → length text ≤ place → holds phrase (folded (drop place text)) ≡ false
unfolding holds folded_after
found_nowhere phrase text place e h = ap (λ bs. holds phrase (folded bs)) (drop_all place text h) ∙ begins_empty phrase e

-- a phrase that is held stands in the text, and the other way round
begins_split : (phrase text : List ℕ) → begins phrase text ≡ true → (rest : List ℕ) × (text ≡ phrase ++ rest)
unfolding begins
begins_split [] text h = (text, refl)
begins_split (p ∷ ps) [] h = absurd (false≢true h)
begins_split (p ∷ ps) (b ∷ bs) h =
    let parts : (nat_eq p b ≡ true) × (begins ps bs ≡ true) = and_parts (nat_eq p b) (begins ps bs) h in
    let later : (rest : List ℕ) × (bs ≡ ps ++ rest) = begins_split ps bs parts.1 in
    (later.0, one p b bs (ps ++ later.0) (eqb-true p b parts.0) later.1)
  where
    one : (q c : ℕ) (xs ys : List ℕ) → q ≡ c → xs ≡ ys → c ∷ xs ≡ q ∷ ys
    one q c xs ys e f = cc

holds_split : (phrase text : List ℕ) → holds phrase text ≡ true → StandsIn phrase text
unfolding holds
holds_split phrase [] h = ([], begins_split phrase [] h)
holds_split phrase (b ∷ bs) h = by (or_cases (begins phrase (b ∷ bs)) (holds phrase bs) h) (λ k. holds_split phrase bs k)
  where
    by : (begins phrase (b ∷ bs) ≡ true) ⊎ (holds phrase bs ≡ true) → (holds phrase bs ≡ true → StandsIn phrase bs) → StandsIn phrase (b ∷ bs)
    by (inl now) later = ([], begins_split phrase (b ∷ bs) now)
    by (inr there) later =
        let found : StandsIn phrase bs = later there in
        (b ∷ found.0, (found.1.0, ap (λ l. b ∷ l) found.1.1))

begins_there : (phrase rest : List ℕ) → begins phrase (phrase ++ rest) ≡ true
unfolding begins
begins_there [] rest = refl
begins_there (p ∷ ps) rest = same_head p p (begins ps (ps ++ rest)) refl ∙ begins_there ps rest

holds_there : (phrase front rest : List ℕ) → holds phrase (front ++ (phrase ++ rest)) ≡ true
unfolding holds
holds_there phrase [] rest = holds_here phrase (phrase ++ rest) (begins_there phrase rest)
holds_there phrase (b ∷ front) rest =
    or_right (begins phrase (b ∷ (front ++ (phrase ++ rest)))) (holds phrase (front ++ (phrase ++ rest))) (holds_there phrase front rest)

pub holds-StandsIn : (phrase text : List ℕ) → IsTrue (holds phrase text) ↔ StandsIn phrase text
holds-StandsIn phrase text = (holds_split phrase text, λ s. ap (holds phrase) s.1.1 ∙ holds_there phrase s.0 s.1.0)
