-- The bytes of a proof's text, and of a text put between two places.
use Rattle.std.proofs.Common.{◌≡◌, ℕ, zero, suc, ◌+◌, ◌-◌, ◌<◌, ◌≤◌, Bool, true, false, not, cond, ◌&&◌, ◌||◌, List, [], ◌∷◌, ◌++◌, None, Some, length, take, drop, get_or, nat_eq, nat_lt, nat_le, position, refl, ◌∙◌, ap, arith, length-append, length-drop}
use Rattle.std.proofs.lemmas.Bool.{true≢false, false≢true}
use Rattle.std.proofs.lemmas.List.{length-take, get_or-take, get_or-drop, get_or_append_left, get_or-append-add}
use Rattle.std.proofs.lemmas.Grind.{common_steps}
use Rattle.std.specs.List.{list_any, position_or_len}
use Rattle.mm_tokens.specs.Bytes.{is_bad, is_white, is_graphic}
use Rattle.mm_splice.specs.Splicing.{put_between, is_proof_text, moved_by}

-- the test fails at each element
abbrev pub FailsEach : (ℕ → Bool) → List ℕ → Type 0
FailsEach p [] = Unit {0}
FailsEach p (x ∷ xs) = (p x ≡ false) × FailsEach p xs

passes_none : (p : ℕ → Bool) (x : ℕ) (xs : List ℕ) (b : Bool) → p x ≡ b → nat_lt (position_or_len p (x ∷ xs)) (length (x ∷ xs)) ≡ false
    → (p x ≡ false) × (nat_lt (position_or_len p xs) (length xs) ≡ false)
passes_none p x xs true is h = absurd (grind (arith, is, h))
passes_none p x xs false is h = (is, grind (arith, is, h))

none_by : (p : ℕ → Bool) (xs : List ℕ) → nat_lt (position_or_len p xs) (length xs) ≡ false → FailsEach p xs
none_by p [] e = tt
none_by p (x ∷ xs) e = let r : (p x ≡ false) × (nat_lt (position_or_len p xs) (length xs) ≡ false) = passes_none p x xs (p x) refl e in (r.0, none_by p xs r.1)

at_none : (b : Bool) (k : ℕ) → cond b (Some k) None ≡ None → b ≡ false
at_none true k e = cc
at_none false k e = refl

pub fails_each : (p : ℕ → Bool) (xs : List ℕ) → position p xs ≡ None → FailsEach p xs
fails_each p xs e = none_by p xs (at_none (nat_lt (position_or_len p xs) (length xs)) (position_or_len p xs) e)

none_there : (p : ℕ → Bool) (xs : List ℕ) → FailsEach p xs → nat_lt (position_or_len p xs) (length xs) ≡ false
none_there p [] h = refl
none_there p (x ∷ xs) h =
    let later : nat_lt (position_or_len p xs) (length xs) ≡ false = none_there p xs h.1 in
    grind (arith, later, h.0)

pub nowhere : (p : ℕ → Bool) (xs : List ℕ) → FailsEach p xs → position p xs ≡ None
nowhere p xs h = ap (λ b. cond b (Some (position_or_len p xs)) None) (none_there p xs h)

fails_both : (p : ℕ → Bool) (xs ys : List ℕ) → FailsEach p xs → FailsEach p ys → FailsEach p (xs ++ ys)
fails_both p [] ys h j = j
fails_both p (x ∷ xs) ys h j = (h.0, fails_both p xs ys h.1 j)

fails_take : (p : ℕ → Bool) (n : ℕ) (xs : List ℕ) → FailsEach p xs → FailsEach p (take n xs)
fails_take p zero xs h = tt
fails_take p (suc n) [] h = tt
fails_take p (suc n) (x ∷ xs) h = (h.0, fails_take p n xs h.1)

fails_drop : (p : ℕ → Bool) (n : ℕ) (xs : List ℕ) → FailsEach p xs → FailsEach p (drop n xs)
fails_drop p zero xs h = h
fails_drop p (suc n) [] h = tt
fails_drop p (suc n) (x ∷ xs) h = fails_drop p n xs h.1

pub none_between : (p : ℕ → Bool) (bytes : List ℕ) (from to : ℕ) (text : List ℕ) → FailsEach p bytes → FailsEach p text → FailsEach p (put_between bytes from to text)
none_between p bytes from to text h j =
    fails_both p (take from bytes ++ text) (drop to bytes) (fails_both p (take from bytes) text (fails_take p from bytes h) j) (fails_drop p to bytes h)

-- white space is no token byte
pub white_blank : (b : ℕ) → is_white b ≡ true → is_graphic b ≡ false
white_blank b h = grind (arith, common_steps, h)

-- what a proof's text is
pub record IsText (text : List ℕ) : Type 0 where
  pub some : 0 < length text
  pub first : is_graphic (get_or text 0 0) ≡ false
  pub last : is_graphic (get_or text (length text - 1) 0) ≡ false
  pub good : FailsEach is_bad text
  pub plain : FailsEach (λ b. nat_eq b 36) text

and_both : (a b : Bool) → (a && b) ≡ true → (a ≡ true) × (b ≡ true)
and_both true true e = (refl, refl)
and_both true false e = absurd (false≢true e)
and_both false b e = absurd (false≢true e)

or_neither : (a b : Bool) → (a || b) ≡ false → (a ≡ false) × (b ≡ false)
or_neither true b e = absurd (true≢false e)
or_neither false true e = absurd (true≢false e)
or_neither false false e = (refl, refl)

not_true : (b : Bool) → not b ≡ true → b ≡ false
not_true true e = absurd (false≢true e)
not_true false e = refl

any_none : (p : ℕ → Bool) (xs : List ℕ) → list_any p xs ≡ false → FailsEach p xs
any_none p [] e = tt
any_none p (x ∷ xs) e = let r : (p x ≡ false) × (list_any p xs ≡ false) = or_neither (p x) (list_any p xs) e in (r.0, any_none p xs r.1)

left_fails : (p q : ℕ → Bool) (xs : List ℕ) → FailsEach (λ b. p b || q b) xs → FailsEach p xs
left_fails p q [] h = tt
left_fails p q (x ∷ xs) h = ((or_neither (p x) (q x) h.0).0, left_fails p q xs h.1)

right_fails : (p q : ℕ → Bool) (xs : List ℕ) → FailsEach (λ b. p b || q b) xs → FailsEach q xs
right_fails p q [] h = tt
right_fails p q (x ∷ xs) h = ((or_neither (p x) (q x) h.0).1, right_fails p q xs h.1)

not_empty : (text : List ℕ) → is_white (get_or text 0 0) ≡ true → 0 < length text
not_empty [] e = absurd (false≢true e)
not_empty (b ∷ bs) e = omega arith

pub is_text : (text : List ℕ) → is_proof_text text ≡ true → IsText text
is_text text e =
    let ends : ((is_white (get_or text 0 0) && is_white (get_or text (length text - 1) 0)) ≡ true) × (not (list_any (λ b. is_bad b || nat_eq b 36) text) ≡ true) = and_both _ _ e in
    let white : (is_white (get_or text 0 0) ≡ true) × (is_white (get_or text (length text - 1) 0) ≡ true) = and_both _ _ ends.0 in
    let each : FailsEach (λ b. is_bad b || nat_eq b 36) text = any_none _ text (not_true _ ends.1) in
    record {
      some = not_empty text white.0;
      first = white_blank (get_or text 0 0) white.0;
      last = white_blank (get_or text (length text - 1) 0) white.1;
      good = left_fails is_bad (λ b. nat_eq b 36) text each;
      plain = right_fails is_bad (λ b. nat_eq b 36) text each;
    }

pub fails_at : (p : ℕ → Bool) (xs : List ℕ) (k : ℕ) → k < length xs → FailsEach p xs → p (get_or xs k 0) ≡ false
fails_at p [] k h e = absurd (omega (arith, h))
fails_at p (x ∷ xs) zero h e = e.0
fails_at p (x ∷ xs) (suc k) h e = fails_at p xs k (omega (arith, h)) e.1

-- a text between two places
module _ (bytes : List ℕ) (from to : ℕ) (text : List ℕ) (up : from ≤ to) (within : to ≤ length bytes) where
  abbrev new : List ℕ
  new = put_between bytes from to text

  head_size : length (take from bytes) ≡ from
  head_size = omega (arith, length-take from bytes, up, within)

  both_size : length (take from bytes ++ text) ≡ from + length text
  both_size = omega (arith, length-append (take from bytes) text, head_size)

  pub whole_size : length new ≡ (from + length text) + (length bytes - to)
  whole_size = omega (arith, length-append (take from bytes ++ text) (drop to bytes), both_size, length-drop to bytes)

  pub head_at : (p q : ℕ) → q ≡ p → p < from → get_or new q 0 ≡ get_or bytes p 0
  head_at p q e h =
      ap (λ k. get_or new k 0) e
      ∙ get_or_append_left (take from bytes ++ text) (drop to bytes) 0 p (omega (arith, both_size, h))
      ∙ get_or_append_left (take from bytes) text 0 p (omega (arith, head_size, h))
      ∙ get_or-take from bytes p 0 h

  pub text_at : (p q : ℕ) → q ≡ p + from → p < length text → get_or new q 0 ≡ get_or text p 0
  text_at p q e h =
      let there : q ≡ length (take from bytes) + p = omega (arith, head_size, e) in
      get_or_append_left (take from bytes ++ text) (drop to bytes) 0 q (omega (arith, both_size, e, h))
      ∙ ap (λ k. get_or (take from bytes ++ text) k 0) there
      ∙ get_or-append-add (take from bytes) text p 0

  pub tail_at : (p q : ℕ) → q + to ≡ p + (from + length text) → to ≤ p → get_or new q 0 ≡ get_or bytes p 0
  tail_at p q e h =
      let there : q ≡ length (take from bytes ++ text) + (p - to) = omega (arith, both_size, e, h) in
      let back : to + (p - to) ≡ p = omega (arith, h) in
      ap (λ k. get_or new k 0) there
      ∙ get_or-append-add (take from bytes ++ text) (drop to bytes) (p - to) 0
      ∙ get_or-drop to bytes (p - to) 0
      ∙ ap (λ k. get_or bytes k 0) back

-- where places stand afterwards
le_true : (p n : ℕ) → p ≤ n → nat_le p n ≡ true
le_true p n h = grind (arith, h)

le_false : (p n : ℕ) → n < p → nat_le p n ≡ false
le_false p n h = grind (arith, h)

pub low_moved : (from to size p : ℕ) → p ≤ from → moved_by from to size p ≡ p
low_moved from to size p h = ap (λ b. cond b p ((p - to) + (from + size))) (le_true p from h)

pub high_moved : (from to size p : ℕ) → from < to → to ≤ p → moved_by from to size p ≡ (p - to) + (from + size)
high_moved from to size p up h = ap (λ b. cond b p ((p - to) + (from + size))) (le_false p from (omega (arith, up, h)))
