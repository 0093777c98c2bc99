-- The text of tokens as gaps and tokens in turn.
use Rattle.std.proofs.Common.{◌≡◌, ℕ, ◌+◌, ◌<◌, Bool, true, false, List, [], ◌∷◌, ◌++◌, map, length, refl, sym, ◌∙◌, ap, append_assoc, if◌then◌else◌, arith}
use Rattle.std.specs.List.{AllByRecursion}
use Rattle.std.proofs.lemmas.List.{append-nil}
use Rattle.mm_tokens.specs.Bytes.{is_graphic, is_white}
use Rattle.mm_layout.specs.Normal.{margin, fits, filled, lines_of, behind_feeds, normal_text}
use Rattle.mm_layout.specs.Words.{is_word_byte}
use Rattle.mm_layout.proofs.Growing.{full, length-margin, length-longer}

-- what stands before each token, and the token
abbrev pub Parts : Type 0
Parts = List (List ℕ × List ℕ)

abbrev pub spaced : Parts → List ℕ
spaced [] = 32 ∷ []
spaced (p ∷ ps) = p.0 ++ (p.1 ++ spaced ps)

abbrev pub parts : ℕ → List (List ℕ) → Parts
parts column [] = []
parts column (t ∷ ts) = if fits column t then ((32 ∷ [], t) ∷ parts (column + 1 + length t) ts) else ((10 ∷ margin, t) ∷ parts (6 + length t) ts)

spaced_by : (b : Bool) (line t : List ℕ) (ts : List (List ℕ))
    → behind_feeds (filled (line ++ 32 ∷ t) ts) ++ 32 ∷ [] ≡ (10 ∷ line ++ 32 ∷ t) ++ spaced (parts (length (line ++ 32 ∷ t)) ts)
    → behind_feeds (filled (margin ++ t) ts) ++ 32 ∷ [] ≡ (10 ∷ (margin ++ t)) ++ spaced (parts (length (margin ++ t)) ts)
    → behind_feeds (if b then filled (line ++ 32 ∷ t) ts else (line ∷ filled (margin ++ t) ts)) ++ 32 ∷ []
    ≡ (10 ∷ line) ++ spaced (if b then ((32 ∷ [], t) ∷ parts (length line + 1 + length t) ts) else ((10 ∷ margin, t) ∷ parts (6 + length t) ts))
spaced_by true line t ts same next =
    same
    ∙ ap (λ n. (10 ∷ line ++ 32 ∷ t) ++ spaced (parts n ts)) (length-longer line t)
    ∙ append_assoc (10 ∷ line) (32 ∷ t) (spaced (parts (length line + 1 + length t) ts))
spaced_by false line t ts same next =
    append_assoc (10 ∷ line) (behind_feeds (filled (margin ++ t) ts)) (32 ∷ [])
    ∙ ap (λ x. (10 ∷ line) ++ x) (next ∙ ap (λ n. (10 ∷ (margin ++ t)) ++ spaced (parts n ts)) (length-margin t) ∙ append_assoc (10 ∷ margin) t (spaced (parts (6 + length t) ts)))

pub spaced_from : (ts : List (List ℕ)) (line : List ℕ) → behind_feeds (filled line ts) ++ 32 ∷ [] ≡ (10 ∷ line) ++ spaced (parts (length line) ts)
unfolding filled
spaced_from [] line = ap (λ x. 10 ∷ (x ++ 32 ∷ [])) (append-nil line)
spaced_from (t ∷ ts) line = spaced_by (fits (length line) t) line t ts (spaced_from ts (line ++ 32 ∷ t)) (spaced_from ts (margin ++ t))

pub normal_spaced : (ts : List (List ℕ)) → normal_text ts ≡ spaced (parts 79 ts)
unfolding lines_of
normal_spaced [] = refl
normal_spaced (t ∷ ts) =
    spaced_from ts (margin ++ t)
    ∙ ap (λ n. (10 ∷ (margin ++ t)) ++ spaced (parts n ts)) (length-margin t)
    ∙ append_assoc (10 ∷ margin) t (spaced (parts (6 + length t) ts))
    ∙ ap (λ b. spaced (if b then ((32 ∷ [], t) ∷ parts (79 + 1 + length t) ts) else ((10 ∷ margin, t) ∷ parts (6 + length t) ts))) (sym (full (length t)))

tokens_by : (b : Bool) (t : List ℕ) (ts : List (List ℕ)) (m n : ℕ) → map (λ (p : List ℕ × List ℕ). p.1) (parts m ts) ≡ ts → map (λ (p : List ℕ × List ℕ). p.1) (parts n ts) ≡ ts
    → map (λ (p : List ℕ × List ℕ). p.1) (if b then ((32 ∷ [], t) ∷ parts m ts) else ((10 ∷ margin, t) ∷ parts n ts)) ≡ t ∷ ts
tokens_by true t ts m n same next = ap (λ x. t ∷ x) same
tokens_by false t ts m n same next = ap (λ x. t ∷ x) next

pub tokens_of_parts : (ts : List (List ℕ)) (column : ℕ) → map (λ (p : List ℕ × List ℕ). p.1) (parts column ts) ≡ ts
tokens_of_parts [] column = refl
tokens_of_parts (t ∷ ts) column =
    tokens_by (fits column t) t ts (column + 1 + length t) (6 + length t) (tokens_of_parts ts (column + 1 + length t)) (tokens_of_parts ts (6 + length t))

-- a gap of white space, and a word
pub record IsGap (gap : List ℕ) : Type 0 where
  pub some : 0 < length gap
  pub white : AllByRecursion (λ b. is_white b ≡ true) gap
  pub blank : AllByRecursion (λ b. is_graphic b ≡ false) gap

abbrev pub IsWordBy : List ℕ → Type 0
IsWordBy t = (0 < length t) × AllByRecursion (λ b. is_word_byte b ≡ true) t

abbrev pub IsPart : List ℕ × List ℕ → Type 0
IsPart p = IsGap p.0 × IsWordBy p.1

gap_space : IsGap (32 ∷ [])
gap_space = record { some = omega arith; white = (refl, tt); blank = (refl, tt) }

pub gap_line : IsGap (10 ∷ margin)
gap_line = record {
  some = omega arith;
  white = (refl, (refl, (refl, (refl, (refl, (refl, (refl, tt)))))));
  blank = (refl, (refl, (refl, (refl, (refl, (refl, (refl, tt)))))));
}

are_parts_by : (b : Bool) (t : List ℕ) (ts : List (List ℕ)) (m n : ℕ) → IsWordBy t → AllByRecursion IsPart (parts m ts) → AllByRecursion IsPart (parts n ts)
    → AllByRecursion IsPart (if b then ((32 ∷ [], t) ∷ parts m ts) else ((10 ∷ margin, t) ∷ parts n ts))
are_parts_by true t ts m n word same next = ((gap_space, word), same)
are_parts_by false t ts m n word same next = ((gap_line, word), next)

pub are_parts : (ts : List (List ℕ)) (column : ℕ) → AllByRecursion IsWordBy ts → AllByRecursion IsPart (parts column ts)
are_parts [] column words = tt
are_parts (t ∷ ts) column words =
    are_parts_by (fits column t) t ts (column + 1 + length t) (6 + length t) words.0 (are_parts ts (column + 1 + length t) words.1) (are_parts ts (6 + length t) words.1)
