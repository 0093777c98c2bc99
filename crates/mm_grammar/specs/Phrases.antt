-- The statements of a database as they are written, token by token (Metamath book, section 4.1 and Appendix E).
use Rattle.std.specs.Prelude.{◌≡◌, ◌≤◌, ℕ, ◌+◌, false, ◌==◌, List, [], ◌∷◌, ◌++◌, Option, None, Some, All, length, map, slice_get, slice_index, codes}
use Rattle.mm_tokens.specs.declared.pieces.Token.{Token as Run}
use Rattle.mm_tokens.specs.declared.pieces.Span.{Span}
use Rattle.mm_tokens.specs.declared.pieces.Piece.{Piece}
use Rattle.mm_tokens.specs.declared.pieces.Piece.TheVariants.{Token, Comment, Open}
use Rattle.mm_scope.specs.Events.{Event}
use Rattle.mm_scope.specs.Events as event
use Rattle.mm_scope.specs.Reading.{text_of}
use Rattle.mm_scope.specs.Steps.{most_label, most_symbols}
use Rattle.mm_tokens.specs.Words.{is_bad_label}

-- a token outside comments, and the last comment between the token before it and it
pub record Noted : Type 0 where
  pub token : Run
  pub comment : Option Span

-- the tokens outside comments, in order
unfoldable pub noted_from : Option Span → List Piece → List Noted
noted_from c [] = []
noted_from c (Comment s ∷ ps) = noted_from (Some s) ps
noted_from c (Token k ∷ ps) = record { token = k; comment = c } ∷ noted_from None ps
noted_from c (Open p ∷ ps) = []

-- a symbol where it stands, and its number
pub record Symbol : Type 0 where
  pub place : Noted
  pub number : ℕ

-- Each has its keyword, and where there are any, its label before it, its symbols and the `$.` at the end. Between its
-- symbols and the `$.` a theorem has its `$=` and the tokens of its proof.
pub data Phrase : Type 0 where
  constants : Noted → List Symbol → Noted → Phrase
  variables : Noted → List Symbol → Noted → Phrase
  distinct : Noted → List Symbol → Noted → Phrase
  float : Noted → Noted → List Symbol → Noted → Phrase
  essential : Noted → Noted → List Symbol → Noted → Phrase
  asserted : Noted → Noted → List Symbol → Noted → Phrase
  theorem : Noted → Noted → List Symbol → Noted → List Noted → Noted → Phrase
  opened : Noted → Phrase
  closed : Noted → Phrase

abbrev pub places : List Symbol → List Noted
places ss = map (λ s. s.place) ss

abbrev pub numbers : List Symbol → List ℕ
numbers ss = map (λ s. s.number) ss

-- its tokens, in order
abbrev pub tokens : Phrase → List Noted
tokens (constants k ss e) = k ∷ (places ss ++ (e ∷ []))
tokens (variables k ss e) = k ∷ (places ss ++ (e ∷ []))
tokens (distinct k ss e) = k ∷ (places ss ++ (e ∷ []))
tokens (float l k ss e) = l ∷ (k ∷ (places ss ++ (e ∷ [])))
tokens (essential l k ss e) = l ∷ (k ∷ (places ss ++ (e ∷ [])))
tokens (asserted l k ss e) = l ∷ (k ∷ (places ss ++ (e ∷ [])))
tokens (theorem l k ss q proof e) = l ∷ (k ∷ (places ss ++ (q ∷ (proof ++ (e ∷ [])))))
tokens (opened k) = k ∷ []
tokens (closed k) = k ∷ []

abbrev pub symbols_in : Phrase → List Symbol
symbols_in (constants k ss e) = ss
symbols_in (variables k ss e) = ss
symbols_in (distinct k ss e) = ss
symbols_in (float l k ss e) = ss
symbols_in (essential l k ss e) = ss
symbols_in (asserted l k ss e) = ss
symbols_in (theorem l k ss q proof e) = ss
symbols_in (opened k) = []
symbols_in (closed k) = []

abbrev pub text_at : List ℕ → Noted → List ℕ
text_at bytes n = text_of bytes n.token

-- What it says. A label's description is the comment before it, and a proof stands between the `$=` and the `$.`.
abbrev pub told : List ℕ → Phrase → List Event
told bytes (constants k ss e) = map (λ s. event.constant (text_at bytes s.place) s.number) ss
told bytes (variables k ss e) = map (λ s. event.variable (text_at bytes s.place) s.number) ss
told bytes (distinct k ss e) = event.distinct (numbers ss) ∷ []
told bytes (float l k ss e) = event.float (text_at bytes l) (numbers ss) l.comment ∷ []
told bytes (essential l k ss e) = event.essential (text_at bytes l) (numbers ss) l.comment ∷ []
told bytes (asserted l k ss e) = event.asserted (text_at bytes l) (numbers ss) l.comment ∷ []
told bytes (theorem l k ss q proof e) = event.theorem (text_at bytes l) (numbers ss) (q.token.start + 2) e.token.start l.comment ∷ []
told bytes (opened k) = event.opened k.token.start ∷ []
told bytes (closed k) = event.closed ∷ []

-- the token is this keyword
abbrev pub Reads : List ℕ → Noted → List ℕ → Type 0
Reads bytes n keyword = text_at bytes n ≡ keyword

-- the token is no keyword: it doesn't begin with `$`
abbrev pub IsPlain : List ℕ → Noted → Type 0
IsPlain bytes n = (slice_index (text_at bytes n) 0 == 36) ≡ false

-- a label has letters, digits, `-`, `_` and `.` alone, and at most 255
pub record IsLabel (bytes : List ℕ) (n : Noted) : Type 0 where
  pub fit : is_bad_label (text_at bytes n) ≡ false
  pub short : length (text_at bytes n) ≤ most_label

-- so many symbols at least, and at most 32,768
abbrev pub AreEnough : ℕ → List Symbol → Type 0
AreEnough least ss = (least ≤ length ss) × (length ss ≤ most_symbols)

-- it has its keywords, its label and symbols enough
abbrev pub IsForm : List ℕ → Phrase → Type 0
IsForm bytes (constants k ss e) = Reads bytes k (codes "$c") × AreEnough 1 ss × Reads bytes e (codes "$.")
IsForm bytes (variables k ss e) = Reads bytes k (codes "$v") × AreEnough 1 ss × Reads bytes e (codes "$.")
IsForm bytes (distinct k ss e) = Reads bytes k (codes "$d") × AreEnough 2 ss × Reads bytes e (codes "$.")
IsForm bytes (float l k ss e) = IsLabel bytes l × Reads bytes k (codes "$f") × (length ss ≡ 2) × Reads bytes e (codes "$.")
IsForm bytes (essential l k ss e) = IsLabel bytes l × Reads bytes k (codes "$e") × AreEnough 1 ss × Reads bytes e (codes "$.")
IsForm bytes (asserted l k ss e) = IsLabel bytes l × Reads bytes k (codes "$a") × AreEnough 1 ss × Reads bytes e (codes "$.")
IsForm bytes (theorem l k ss q proof e) =
    IsLabel bytes l × Reads bytes k (codes "$p") × AreEnough 1 ss × Reads bytes q (codes "$=") × All (IsPlain bytes) proof × Reads bytes e (codes "$.")
IsForm bytes (opened k) = Reads bytes k (codes "${")
IsForm bytes (closed k) = Reads bytes k (codes "$}")

-- the symbol is no keyword, and its number is the place of its text among these
pub record IsSymbol (bytes : List ℕ) (all : List (List ℕ)) (s : Symbol) : Type 0 where
  pub plain : IsPlain bytes s.place
  pub named : slice_get all s.number ≡ Some (text_at bytes s.place)
