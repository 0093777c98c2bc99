-- What one more token adds to the lines.
use Rattle.std.proofs.Common.{◌≡◌, ℕ, ◌+◌, Bool, true, false, List, [], ◌∷◌, ◌++◌, length, refl, sym, ◌∙◌, ap, append_assoc, if◌then◌else◌, arith, length-append, nat_le}
use Rattle.std.proofs.lemmas.List.{append-nil}
use Rattle.std.proofs.lemmas.Bool.Decides.{nat_tests}
use Rattle.mm_layout.specs.Normal.{margin, fits, filled, lines_of}
use Rattle.mm_layout.specs.Laid.{Laid, laid_as, laid}

-- a token on the line in hand, and on the next
abbrev pub same_line : Laid → List ℕ → Laid
same_line l token = record { text = l.text ++ (32 ∷ []) ++ token; column = l.column + 1 + length token }

abbrev pub next_line : Laid → List ℕ → Laid
next_line l token = record { text = l.text ++ (10 ∷ margin) ++ token; column = 6 + length token }

abbrev pub grown_by : Bool → Laid → List ℕ → Laid
grown_by b l token = if b then same_line l token else next_line l token

abbrev pub grown : Laid → List ℕ → Laid
grown l token = grown_by (fits l.column token) l token

-- a line before all others
abbrev behind_line : List ℕ → Laid → Laid
behind_line line l = record { text = (10 ∷ line) ++ l.text; column = l.column }

abbrev pub laid_at : List ℕ → ℕ → Laid
laid_at text column = record { text = text; column = column }

same_laid : (a b : List ℕ) (m n : ℕ) → a ≡ b → m ≡ n → laid_at a m ≡ laid_at b n
same_laid a b m n e f = ap (λ x. laid_at x m) e ∙ ap (laid_at b) f

pub length-margin : (token : List ℕ) → length (margin ++ token) ≡ 6 + length token
length-margin token = omega (arith, length-append margin token)

pub length-longer : (line token : List ℕ) → length (line ++ 32 ∷ token) ≡ length line + 1 + length token
length-longer line token = omega (arith, length-append line (32 ∷ token))

first_by : (b : Bool) (before : ℕ) (line token : List ℕ)
    → laid_as before (if b then ((line ++ 32 ∷ token) ∷ []) else (line ∷ (margin ++ token) ∷ [])) ≡ grown_by b (laid_as before (line ∷ [])) token
first_by true before line token =
    same_laid _ _ _ _ (ap (λ x. 10 ∷ x) (append-nil (line ++ 32 ∷ token)) ∙ ap (λ x. 10 ∷ (x ++ 32 ∷ token)) (sym (append-nil line)) ∙ sym (append_assoc (10 ∷ line ++ []) (32 ∷ []) token))
    (length-longer line token)
first_by false before line token =
    same_laid _ _ _ _ (ap (λ x. 10 ∷ (line ++ 10 ∷ x)) (append-nil (margin ++ token)) ∙ ap (λ x. 10 ∷ (x ++ 10 ∷ (margin ++ token))) (sym (append-nil line)) ∙ sym (append_assoc (10 ∷ line ++ []) (10 ∷ margin) token))
    (length-margin token)

behind_grown : (b : Bool) (line : List ℕ) (l : Laid) (token : List ℕ) → behind_line line (grown_by b l token) ≡ grown_by b (behind_line line l) token
behind_grown true line l token = same_laid _ _ _ _ (simp append_assoc) refl
behind_grown false line l token = same_laid _ _ _ _ (simp append_assoc) refl

more_by : (b : Bool) (before : ℕ) (line t : List ℕ) (ts : List (List ℕ)) (token : List ℕ)
    → laid_as before (filled (line ++ 32 ∷ t) (ts ++ token ∷ [])) ≡ grown (laid_as before (filled (line ++ 32 ∷ t) ts)) token
    → laid_as (length line) (filled (margin ++ t) (ts ++ token ∷ [])) ≡ grown (laid_as (length line) (filled (margin ++ t) ts)) token
    → laid_as before (if b then filled (line ++ 32 ∷ t) (ts ++ token ∷ []) else (line ∷ filled (margin ++ t) (ts ++ token ∷ [])))
    ≡ grown (laid_as before (if b then filled (line ++ 32 ∷ t) ts else (line ∷ filled (margin ++ t) ts))) token
more_by true before line t ts token same next = same
more_by false before line t ts token same next =
    ap (behind_line line) next
    ∙ behind_grown (fits (laid_as (length line) (filled (margin ++ t) ts)).column token) line (laid_as (length line) (filled (margin ++ t) ts)) token

filled_more : (ts : List (List ℕ)) (before : ℕ) (line token : List ℕ) → laid_as before (filled line (ts ++ token ∷ [])) ≡ grown (laid_as before (filled line ts)) token
unfolding filled
filled_more [] before line token = first_by (fits (length line) token) before line token
filled_more (t ∷ ts) before line token =
    more_by (fits (length line) t) before line t ts token (filled_more ts before (line ++ 32 ∷ t) token) (filled_more ts (length line) (margin ++ t) token)

pub full : (n : ℕ) → nat_le (79 + 1 + n) 79 ≡ false
full n = grind (arith, nat_tests)

pub laid_more : (ts : List (List ℕ)) (token : List ℕ) → laid (ts ++ token ∷ []) ≡ grown (laid ts) token
unfolding lines_of filled
laid_more [] token =
    same_laid _ _ _ _ (append-nil (10 ∷ margin ++ token)) (length-margin token)
    ∙ ap (λ b. grown_by b (laid_as 79 []) token) (sym (full (length token)))
laid_more (t ∷ ts) token = filled_more ts 79 (margin ++ t) token

-- the same of any text and column
pub laid-same : (ts : List (List ℕ)) (token : List ℕ) (now : Laid) (text new : List ℕ) (column next : ℕ) → laid_at text column ≡ now → now ≡ laid ts
    → fits column token ≡ true → new ≡ text ++ (32 ∷ []) ++ token → next ≡ column + (1 + length token) → laid_at new next ≡ laid (ts ++ token ∷ [])
laid-same ts token now text new column next inside is fit more wide =
    same_laid _ _ _ _ more (omega (arith, wide))
    ∙ ap (λ b. grown_by b (laid_at text column) token) (sym fit)
    ∙ ap (λ l. grown l token) (inside ∙ is)
    ∙ sym (laid_more ts token)

pub laid-next : (ts : List (List ℕ)) (token : List ℕ) (now : Laid) (text new : List ℕ) (column : ℕ) → laid_at text column ≡ now → now ≡ laid ts
    → fits column token ≡ false → new ≡ text ++ (10 ∷ margin) ++ token → laid_at new (6 + length token) ≡ laid (ts ++ token ∷ [])
laid-next ts token now text new column inside is fit more =
    same_laid _ _ _ _ more refl
    ∙ ap (λ b. grown_by b (laid_at text column) token) (sym fit)
    ∙ ap (λ l. grown l token) (inside ∙ is)
    ∙ sym (laid_more ts token)
