-- What the text of each kind of token is.
use Rattle.std.proofs.Common.{◌≡◌, ℕ, suc, Bool, true, false, cond, not, ◌||◌, List, [], ◌∷◌, length, slice_index, nat_eq, codes, refl, sym, ap, ◌∙◌, subst, arith, ◌⊎◌, inl, inr}
use Rattle.std.proofs.lemmas.Bool.{eqb-true}
use Rattle.mm_tokens.specs.Words.{keyword_of, word_of}
use Rattle.mm_tokens.specs.declared.word.Word.{Word}
use Rattle.mm_tokens.specs.declared.word.Word.TheVariants as word

-- the second byte of each keyword
abbrev SecondByte : Word → ℕ → Type 0
SecondByte word.Constants b = b ≡ 99
SecondByte word.Variables b = b ≡ 118
SecondByte word.Float b = b ≡ 102
SecondByte word.Essential b = b ≡ 101
SecondByte word.Distinct b = b ≡ 100
SecondByte word.Axiom b = b ≡ 97
SecondByte word.Theorem b = b ≡ 112
SecondByte word.Proof b = b ≡ 61
SecondByte word.End b = b ≡ 46
SecondByte word.Open b = b ≡ 123
SecondByte word.Close b = b ≡ 125
SecondByte word.Inclusion b = (b ≡ 91) ⊎ (b ≡ 93)
SecondByte word.Text b = ⊥
SecondByte _ b = Unit {0}

one : (b n : ℕ) (w other : Word) → (b ≡ n → SecondByte w b) → SecondByte other b → SecondByte (cond (nat_eq b n) w other) b
one b n w other is later = by (nat_eq b n) refl
  where
    by : (e : Bool) → nat_eq b n ≡ e → SecondByte (cond e w other) b
    by true h = is (eqb-true b n h)
    by false h = later

no_keyword : (b : ℕ) (c d : Bool) → nat_eq b 91 ≡ c → nat_eq b 93 ≡ d → SecondByte (cond (c || d) word.Inclusion word.Unknown) b
no_keyword b true d e f = inl (eqb-true b 91 e)
no_keyword b false true e f = inr (eqb-true b 93 f)
no_keyword b false false e f = tt

second : (b : ℕ) → SecondByte (keyword_of b) b
unfolding keyword_of
second b =
    one b 99 word.Constants _ (λ e. e) (one b 118 word.Variables _ (λ e. e) (one b 102 word.Float _ (λ e. e) (one b 101 word.Essential _ (λ e. e)
    (one b 100 word.Distinct _ (λ e. e) (one b 97 word.Axiom _ (λ e. e) (one b 112 word.Theorem _ (λ e. e) (one b 61 word.Proof _ (λ e. e)
    (one b 46 word.End _ (λ e. e) (one b 123 word.Open _ (λ e. e) (one b 125 word.Close _ (λ e. e) (no_keyword b (nat_eq b 91) (nat_eq b 93) refl refl)))))))))))

-- the whole text
abbrev pub Spells : Word → List ℕ → Type 0
Spells word.Constants t = t ≡ codes "$c"
Spells word.Variables t = t ≡ codes "$v"
Spells word.Float t = t ≡ codes "$f"
Spells word.Essential t = t ≡ codes "$e"
Spells word.Distinct t = t ≡ codes "$d"
Spells word.Axiom t = t ≡ codes "$a"
Spells word.Theorem t = t ≡ codes "$p"
Spells word.Proof t = t ≡ codes "$="
Spells word.End t = t ≡ codes "$."
Spells word.Open t = t ≡ codes "${"
Spells word.Close t = t ≡ codes "$}"
Spells word.Inclusion t = (t ≡ codes "$[") ⊎ (t ≡ codes "$]")
Spells word.Unknown t = slice_index t 0 ≡ 36
Spells word.Text t = nat_eq (slice_index t 0) 36 ≡ false

pair : (a b c : ℕ) → a ≡ 36 → b ≡ c → (a ∷ (b ∷ [])) ≡ (36 ∷ (c ∷ []))
pair a b c e f = ap (λ x. x ∷ (b ∷ [])) e ∙ ap (λ y. 36 ∷ (y ∷ [])) f

spelled_pair : (a b : ℕ) (w : Word) → a ≡ 36 → SecondByte w b → Spells w (a ∷ (b ∷ []))
spelled_pair a b word.Constants e f = pair a b 99 e f
spelled_pair a b word.Variables e f = pair a b 118 e f
spelled_pair a b word.Float e f = pair a b 102 e f
spelled_pair a b word.Essential e f = pair a b 101 e f
spelled_pair a b word.Distinct e f = pair a b 100 e f
spelled_pair a b word.Axiom e f = pair a b 97 e f
spelled_pair a b word.Theorem e f = pair a b 112 e f
spelled_pair a b word.Proof e f = pair a b 61 e f
spelled_pair a b word.End e f = pair a b 46 e f
spelled_pair a b word.Open e f = pair a b 123 e f
spelled_pair a b word.Close e f = pair a b 125 e f
spelled_pair a b word.Inclusion e (inl f) = inl (pair a b 91 e f)
spelled_pair a b word.Inclusion e (inr f) = inr (pair a b 93 e f)
spelled_pair a b word.Unknown e f = e
spelled_pair a b word.Text e f = absurd f

by_first : (a : ℕ) (is : Bool) → nat_eq a 36 ≡ is → (w : Word) (t : List ℕ) → slice_index t 0 ≡ a → (a ≡ 36 → Spells w t) → Spells (cond (not is) word.Text w) t
by_first a true h w t e later = later (eqb-true a 36 h)
by_first a false h w t e later = ap (λ x. nat_eq x 36) e ∙ h

not_none : (n : ℕ) → nat_eq (suc (suc (suc n))) 0 ≡ false
not_none n = grind arith

not_two : (n : ℕ) → nat_eq (suc (suc (suc n))) 2 ≡ false
not_two n = grind arith

-- each token spells its kind
pub spelled : (t : List ℕ) → Spells (word_of t) t
unfolding word_of
spelled [] = refl
spelled (a ∷ []) = by_first a (nat_eq a 36) refl word.Unknown (a ∷ []) refl (λ e. e)
spelled (a ∷ b ∷ []) = by_first a (nat_eq a 36) refl (keyword_of b) (a ∷ (b ∷ [])) refl (λ e. spelled_pair a b (keyword_of b) e (second b))
spelled (a ∷ b ∷ c ∷ t) =
    let w : Word = cond (nat_eq (suc (suc (suc (length t)))) 2) (keyword_of b) word.Unknown in
    subst (λ is. Spells (cond (is || not (nat_eq a 36)) word.Text w) (a ∷ b ∷ c ∷ t)) (sym (not_none (length t)))
    (by_first a (nat_eq a 36) refl w (a ∷ b ∷ c ∷ t) refl (λ e. subst (λ is. Spells (cond is (keyword_of b) word.Unknown) (a ∷ b ∷ c ∷ t)) (sym (not_two (length t))) e))
