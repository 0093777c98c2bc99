-- Letters are a number's only spelling, and are read back.
use Rattle.std.proofs.Common.{◌≡◌, ℕ, zero, suc, ◌+◌, ◌-◌, ◌*◌, ◌/◌, ◌%◌, ◌<◌, ◌≤◌, Bool, true, false, cond, eqb, nat_le, ◌&&◌, List, [], ◌∷◌, ◌++◌, length, refl, sym, ap, ◌∙◌, subst, arith, append_assoc, length-append, ◌^◌, lit<}
use Rattle.std.proofs.Math.Nat.{pow-zero, pow-succ'}
use Rattle.std.proofs.lemmas.Bool.Decides.{nat_tests, Decides-eqb}
use Rattle.mm_proof.specs.declared.letter.Letter.TheVariants.{Last, Lead, Tag, Query, Other}
use Rattle.mm_proof.specs.Numbers.{leading_by, leading, letters_of, Spells, last_letter, lead_letter, is_last, is_lead, letter_of}

pub smaller : (q : ℕ) → 0 < q → (q - 1) / 5 < q
smaller q h = omega arith

-- more room changes nothing
enough_room : (m n q : ℕ) → q ≤ m → q ≤ n → leading_by m q ≡ leading_by n q
enough_room zero zero q g h = refl
enough_room zero (suc n) q g h = let e : eqb q 0 ≡ true = grind (arith, nat_tests) in sym (ap (λ b. cond b [] (leading_by n ((q - 1) / 5) ++ (85 + (q - 1) % 5) ∷ [])) e)
enough_room (suc m) zero q g h = let e : eqb q 0 ≡ true = grind (arith, nat_tests) in ap (λ b. cond b [] (leading_by m ((q - 1) / 5) ++ (85 + (q - 1) % 5) ∷ [])) e
enough_room (suc m) (suc n) q g h = by (eqb q 0) (enough_room m n ((q - 1) / 5) (omega arith) (omega arith))
  where
    by : (b : Bool) → leading_by m ((q - 1) / 5) ≡ leading_by n ((q - 1) / 5) → cond b [] (leading_by m ((q - 1) / 5) ++ (85 + (q - 1) % 5) ∷ []) ≡ cond b [] (leading_by n ((q - 1) / 5) ++ (85 + (q - 1) % 5) ∷ [])
    by true e = refl
    by false e = ap (λ x. x ++ (85 + (q - 1) % 5) ∷ []) e

leading_by_step : (m q : ℕ) → 0 < q → q ≤ m → leading_by m q ≡ leading_by ((q - 1) / 5) ((q - 1) / 5) ++ (85 + (q - 1) % 5) ∷ []
leading_by_step zero q h g = absurd (omega arith)
leading_by_step (suc m) q h g =
    let e : eqb q 0 ≡ false = grind (arith, nat_tests) in
    ap (λ b. cond b [] (leading_by m ((q - 1) / 5) ++ (85 + (q - 1) % 5) ∷ [])) e
    ∙ ap (λ x. x ++ (85 + (q - 1) % 5) ∷ []) (enough_room m ((q - 1) / 5) ((q - 1) / 5) (omega arith) (omega arith))

-- one leading letter more
pub leading_step : (q : ℕ) → 0 < q → leading q ≡ leading ((q - 1) / 5) ++ (85 + (q - 1) % 5) ∷ []
unfolding leading
leading_step q h = leading_by_step q q h (omega arith)

pub leading_none : leading 0 ≡ []
unfolding leading
leading_none = refl

pub letter_last : (d : ℕ) → d < 20 → letter_of (65 + d) ≡ Last (d + 1)
unfolding letter_of
letter_last d h =
    let e : is_last (65 + d) ≡ true = grind (arith, nat_tests) in
    let f : 65 + d - 64 ≡ d + 1 = omega arith in
    rw e (ap Last f)

pub letter_lead : (d : ℕ) → d < 5 → letter_of (85 + d) ≡ Lead (d + 1)
unfolding letter_of
letter_lead d h =
    let e : is_last (85 + d) ≡ false = grind (arith, nat_tests) in
    let g : is_lead (85 + d) ≡ true = grind (arith, nat_tests) in
    let f : 85 + d - 84 ≡ d + 1 = omega arith in
    rw e (rw g (ap Lead f))

-- what a letter says of its byte
between : (a b : ℕ) (n : ℕ) → (nat_le a n && nat_le n b) ≡ true → (a ≤ n) × (n ≤ b)
between a b n h = grind (arith, nat_tests)

last_by : (p q r s : Bool) (b d : ℕ) → cond p (Last (b - 64)) (cond q (Lead (b - 84)) (cond r Tag (cond s Query Other))) ≡ Last d → (p ≡ true) × (b - 64 ≡ d)
last_by true q r s b d h = (refl, cc)
last_by false true r s b d h = cc
last_by false false true s b d h = cc
last_by false false false true b d h = cc
last_by false false false false b d h = cc

lead_by : (p q r s : Bool) (b d : ℕ) → cond p (Last (b - 64)) (cond q (Lead (b - 84)) (cond r Tag (cond s Query Other))) ≡ Lead d → (q ≡ true) × (b - 84 ≡ d)
lead_by true q r s b d h = cc
lead_by false true r s b d h = (refl, cc)
lead_by false false true s b d h = cc
lead_by false false false true b d h = cc
lead_by false false false false b d h = cc

pub last_is : (b d : ℕ) → letter_of b ≡ Last d → (b ≡ 64 + d) × (0 < d) × (d ≤ 20)
unfolding letter_of
last_is b d h =
    let r = last_by (is_last b) (is_lead b) (eqb b 90) (eqb b 63) b d h in
    let k = between 65 84 b r.0 in
    let e = r.1 in
    (omega arith, omega arith, omega arith)

pub lead_is : (b d : ℕ) → letter_of b ≡ Lead d → (b ≡ 84 + d) × (0 < d) × (d ≤ 5)
unfolding letter_of
lead_is b d h =
    let r = lead_by (is_last b) (is_lead b) (eqb b 90) (eqb b 63) b d h in
    let k = between 85 89 b r.0 in
    let e = r.1 in
    (omega arith, omega arith, omega arith)

list_at : (a b c d : ℕ) → a ≡ b → c ≡ d → leading a ++ (65 + c) ∷ [] ≡ leading b ++ (65 + d) ∷ []
list_at a b c d e f = ap (λ x. leading x ++ (65 + c) ∷ []) e ∙ ap (λ y. leading b ++ (65 + y) ∷ []) f

-- letters are a number's only spelling
pub only_letters : (acc : ℕ) (ls : List ℕ) (n : ℕ) → Spells acc ls n → leading acc ++ ls ≡ letters_of n
unfolding letters_of
only_letters _ _ _ (last_letter acc b d e) =
    let p = last_is b d e in
    let i = p.0 in
    let x : (20 * acc + d - 1) / 20 ≡ acc = omega arith in
    let y : (20 * acc + d - 1) % 20 ≡ d - 1 = omega arith in
    let z : 65 + (d - 1) ≡ b = omega arith in
    ap (λ u. leading acc ++ u ∷ []) (sym z) ∙ sym (list_at ((20 * acc + d - 1) / 20) acc ((20 * acc + d - 1) % 20) (d - 1) x y)
only_letters _ _ _ (lead_letter acc b d n bs e h) =
    let p = lead_is b d e in
    let i = p.0 in
    let x : (5 * acc + d - 1) / 5 ≡ acc = omega arith in
    let y : 85 + (5 * acc + d - 1) % 5 ≡ b = omega arith in
    let s : leading (5 * acc + d) ≡ leading acc ++ b ∷ [] = leading_step (5 * acc + d) (omega arith) ∙ ap (λ u. leading u ++ (85 + (5 * acc + d - 1) % 5) ∷ []) x ∙ ap (λ u. leading acc ++ u ∷ []) y in
    sym (append_assoc (leading acc) (b ∷ []) bs) ∙ ap (λ u. u ++ bs) (sym s) ∙ only_letters (5 * acc + d) bs n h

pub only_spelling : (ls : List ℕ) (n : ℕ) → Spells 0 ls n → ls ≡ letters_of n
only_spelling ls n h = ap (λ x. x ++ ls) (sym leading_none) ∙ only_letters 0 ls n h

-- and they spell it
spells_leading : (m q : ℕ) (ls : List ℕ) (n : ℕ) → q ≤ m → Spells q ls n → Spells 0 (leading q ++ ls) n
spells_leading zero q ls n h s =
    let e : q ≡ 0 = omega arith in
    let P : ℕ → Type 0 = λ x. Spells x ls n in
    let Q : List ℕ → Type 0 = λ x. Spells 0 (x ++ ls) n in
    subst Q (sym leading_none ∙ ap leading (sym e)) (subst P e s)
spells_leading (suc m) q ls n h s = by (eqb q 0) refl (λ z. spells_leading m ((q - 1) / 5) ((85 + (q - 1) % 5) ∷ ls) n (omega arith) z)
  where
    by : (b : Bool) → eqb q 0 ≡ b → (Spells ((q - 1) / 5) ((85 + (q - 1) % 5) ∷ ls) n → Spells 0 (leading ((q - 1) / 5) ++ (85 + (q - 1) % 5) ∷ ls) n) → Spells 0 (leading q ++ ls) n
    by true e f =
        let z : q ≡ 0 = (Decides-eqb q 0).0 e in
        let P : ℕ → Type 0 = λ x. Spells x ls n in
        let Q : List ℕ → Type 0 = λ x. Spells 0 (x ++ ls) n in
        subst Q (sym leading_none ∙ ap leading (sym z)) (subst P z s)
    by false e f =
        let some : 0 < q = grind (arith, nat_tests) in
        let d = (q - 1) % 5 in
        let lt : d < 5 = omega arith in
        let is : q ≡ 5 * ((q - 1) / 5) + (d + 1) = omega arith in
        let P : ℕ → Type 0 = λ x. Spells x ls n in
        let Q : List ℕ → Type 0 = λ x. Spells 0 x n in
        subst Q (sym (append_assoc (leading ((q - 1) / 5)) ((85 + d) ∷ []) ls) ∙ ap (λ x. x ++ ls) (sym (leading_step q some)))
        (f (lead_letter ((q - 1) / 5) (85 + d) (d + 1) n ls (letter_lead d lt) (subst P is s)))

pub letters_spell : (n : ℕ) → 0 < n → Spells 0 (letters_of n) n
unfolding letters_of
letters_spell n h =
    let q = (n - 1) / 20 in
    let d = (n - 1) % 20 in
    let lt : d < 20 = omega arith in
    let is : 20 * q + (d + 1) ≡ n = omega arith in
    let P : ℕ → Type 0 = λ x. Spells q ((65 + d) ∷ []) x in
    spells_leading q q ((65 + d) ∷ []) n (omega arith) (subst P is (last_letter q (65 + d) (d + 1) (letter_last d lt)))

pub length_step : (q : ℕ) → 0 < q → length (leading q) ≡ length (leading ((q - 1) / 5)) + 1
length_step q h = ap length (leading_step q h) ∙ length-append (leading ((q - 1) / 5)) ((85 + (q - 1) % 5) ∷ [])

pub length_letters : (n : ℕ) → length (letters_of n) ≡ length (leading ((n - 1) / 20)) + 1
unfolding letters_of
length_letters n = length-append (leading ((n - 1) / 20)) ((65 + (n - 1) % 20) ∷ [])

pub leading_zero : (q : ℕ) → q ≡ 0 → leading q ≡ []
leading_zero q h = ap leading h ∙ leading_none

pub letters_are : (n : ℕ) → letters_of n ≡ leading ((n - 1) / 20) ++ (65 + (n - 1) % 20) ∷ []
unfolding letters_of
letters_are n = refl

smaller_by : (p q : ℕ) → q < 5 * p → (q - 1) / 5 < p
smaller_by p q lt = omega arith

short : (m q : ℕ) → q < 5 ^ m → length (leading q) ≤ m
short zero q h = let e = ap length (leading_zero q (let f = pow-zero 5 in omega arith)) in omega arith
short (suc m) q h = by (eqb q 0) refl (short m ((q - 1) / 5) (smaller_by (5 ^ m) q (let P : ℕ → Type 0 = λ x. q < x in subst P (pow-succ' 5 m) h)))
  where
    by : (b : Bool) → eqb q 0 ≡ b → length (leading ((q - 1) / 5)) ≤ m → length (leading q) ≤ suc m
    by true e f = let z = ap length (leading_zero q ((Decides-eqb q 0).0 e)) in omega arith
    by false e f = let some : 0 < q = grind (arith, nat_tests) in let z = length_step q some in omega arith

below_power : (n : ℕ) → n < 2 ^ 64 → (n - 1) / 20 < 5 ^ 28
below_power n h = let p : 2 ^ 64 < 5 ^ 28 = lit< tt in omega arith

-- a number of 64 bits has few letters
pub short_letters : (n : ℕ) → n < 2 ^ 64 → length (letters_of n) ≤ 29
short_letters n h = let e = short 28 ((n - 1) / 20) (below_power n h) in let f = length_letters n in omega arith
