-- Steps of the reading of keywords.
use Rattle.std.proofs.Common.{◌≡◌, ℕ, Bool, true, false, ◌+◌, List, [], ◌∷◌, Result, Ok, Err, refl, sym, ◌∙◌, ap, subst, slice_get}
use Rattle.mm_command.specs.declared.fault.LineFault.{LineFault}
use Rattle.mm_command.specs.Words.{Piece}
use Rattle.mm_command.specs.Taking.{Gives}
use Rattle.mm_command.specs.Grammar.{Row, Said, Taken, take_one, keyword_at, and_then, fault, row_said, next_keywords, rows_behind, if_no_keyword, rows_said}

-- a first row with no keyword left is the line's
pub row_alone : (row : Row) (rows : List Row) (n : ℕ) (pieces : List Piece) (r : Result Said LineFault)
    → row.keywords ≡ [] → row_said row row.places [] n pieces ≡ r → rows_said (row ∷ rows) n pieces ≡ r
unfolding rows_said
row_alone row rows n [] r e h = ap (λ ks. if_no_keyword ks (row_said row row.places [] n []) (fault 3 n)) e ∙ h
row_alone row rows n (piece ∷ pieces) r e h =
    ap (λ ks. if_no_keyword ks (row_said row row.places [] n (piece ∷ pieces)) (and_then (keyword_at (next_keywords (row ∷ rows)) n piece) (λ i. rows_said (rows_behind (slice_get (next_keywords (row ∷ rows)) i) (row ∷ rows)) (n + 1) pieces))) e ∙ h

after : List Row → ℕ → Taken ℕ → Result Said LineFault
after rows n t = rows_said (rows_behind (slice_get (next_keywords rows) t.value) rows) (n + 1) t.rest

same_after : (rows : List Row) (n : ℕ) (pieces : List Piece) (o : Result ℕ LineFault)
    → and_then o (λ i. rows_said (rows_behind (slice_get (next_keywords rows) i) rows) (n + 1) pieces)
    ≡ and_then (and_then o (λ v. Ok (record { value = v; rest = pieces }))) (after rows n)
unfolding after
same_after rows n pieces (Ok i) = refl
same_after rows n pieces (Err e) = refl

rows_after_word : (row : Row) (rows : List Row) (k : List ℕ) (ks : List (List ℕ)) (n : ℕ) (pieces : List Piece) → row.keywords ≡ k ∷ ks
    → rows_said (row ∷ rows) n pieces ≡ and_then (take_one (keyword_at (next_keywords (row ∷ rows))) n pieces) (after (row ∷ rows) n)
unfolding rows_said take_one after
rows_after_word row rows k ks n [] e = ap (λ ks. if_no_keyword ks (row_said row row.places [] n []) (fault 3 n)) e
rows_after_word row rows k ks n (piece ∷ pieces) e =
    ap (λ ks. if_no_keyword ks (row_said row row.places [] n (piece ∷ pieces)) (and_then (keyword_at (next_keywords (row ∷ rows)) n piece) (λ i. rows_said (rows_behind (slice_get (next_keywords (row ∷ rows)) i) (row ∷ rows)) (n + 1) pieces))) e
    ∙ same_after (row ∷ rows) n pieces (keyword_at (next_keywords (row ∷ rows)) n piece)

pub rows_fault : (row : Row) (rows : List Row) (k : List ℕ) (ks : List (List ℕ)) (n : ℕ) (pieces : List Piece) (f : LineFault) → row.keywords ≡ k ∷ ks
    → take_one (keyword_at (next_keywords (row ∷ rows))) n pieces ≡ Err f → rows_said (row ∷ rows) n pieces ≡ Err f
rows_fault row rows k ks n pieces f e h = rows_after_word row rows k ks n pieces e ∙ ap (λ o. and_then o (after (row ∷ rows) n)) h

pub rows_chosen : (row : Row) (rows : List Row) (k : List ℕ) (ks : List (List ℕ)) (n : ℕ) (pieces : List Piece) (t : Taken ℕ) (r : Result Said LineFault) → row.keywords ≡ k ∷ ks
    → take_one (keyword_at (next_keywords (row ∷ rows))) n pieces ≡ Ok t
    → rows_said (rows_behind (slice_get (next_keywords (row ∷ rows)) t.value) (row ∷ rows)) (n + 1) t.rest ≡ r → rows_said (row ∷ rows) n pieces ≡ r
unfolding after
rows_chosen row rows k ks n pieces t r e h g = rows_after_word row rows k ks n pieces e ∙ ap (λ o. and_then o (after (row ∷ rows) n)) h ∙ g

rows_at : (row : Row) (rows : List Row) (n m i : ℕ) (t : Taken ℕ) (r : Result Said LineFault) → t.value ≡ i → m ≡ n + 1
    → rows_said (rows_behind (slice_get (next_keywords (row ∷ rows)) i) (row ∷ rows)) m t.rest ≡ r
    → rows_said (rows_behind (slice_get (next_keywords (row ∷ rows)) t.value) (row ∷ rows)) (n + 1) t.rest ≡ r
rows_at row rows n m i t r p q g =
    let at : ℕ → ℕ → Type 0 = λ j c. rows_said (rows_behind (slice_get (next_keywords (row ∷ rows)) j) (row ∷ rows)) c t.rest ≡ r in
    subst (at t.value) q (subst (λ j. at j m) (sym p) g)

-- behind a keyword, the rows that go on with it decide
pub gives_chosen : {B : Type 0} (value : B → Said) (row : Row) (rows : List Row) (k : List ℕ) (ks : List (List ℕ)) (n m i : ℕ) (pieces : List Piece) (t : Taken ℕ) (r : Result B LineFault) → row.keywords ≡ k ∷ ks
    → take_one (keyword_at (next_keywords (row ∷ rows))) n pieces ≡ Ok t → t.value ≡ i → m ≡ n + 1
    → Gives value r (rows_said (rows_behind (slice_get (next_keywords (row ∷ rows)) i) (row ∷ rows)) m t.rest) → Gives value r (rows_said (row ∷ rows) n pieces)
gives_chosen value row rows k ks n m i pieces t (Ok b) e h p q g =
    rows_chosen row rows k ks n pieces t (Ok (value b)) e h (rows_at row rows n m i t (Ok (value b)) p q g)
gives_chosen value row rows k ks n m i pieces t (Err f) e h p q g =
    rows_chosen row rows k ks n pieces t (Err f) e h (rows_at row rows n m i t (Err f) p q g)

abbrev pub waits : List (List ℕ) → Bool
waits [] = false
waits (k ∷ ks) = true

-- whether the first row goes on with a keyword
abbrev pub wait : List Row → Bool
wait [] = false
wait (row ∷ rows) = waits row.keywords

gives_waiting : {B : Type 0} (value : B → Said) (row : Row) (rows : List Row) (keywords : List (List ℕ)) (n m i : ℕ) (pieces : List Piece) (t : Taken ℕ) (r : Result B LineFault)
    → row.keywords ≡ keywords → waits keywords ≡ true
    → take_one (keyword_at (next_keywords (row ∷ rows))) n pieces ≡ Ok t → t.value ≡ i → m ≡ n + 1
    → Gives value r (rows_said (rows_behind (slice_get (next_keywords (row ∷ rows)) i) (row ∷ rows)) m t.rest) → Gives value r (rows_said (row ∷ rows) n pieces)
gives_waiting value row rows [] n m i pieces t r e w = cc
gives_waiting value row rows (k ∷ ks) n m i pieces t r e w = gives_chosen value row rows k ks n m i pieces t r e

pub gives_rows : {B : Type 0} (value : B → Said) (rows : List Row) (n m i : ℕ) (pieces : List Piece) (t : Taken ℕ) (r : Result B LineFault) → wait rows ≡ true
    → take_one (keyword_at (next_keywords rows)) n pieces ≡ Ok t → t.value ≡ i → m ≡ n + 1
    → Gives value r (rows_said (rows_behind (slice_get (next_keywords rows) i) rows) m t.rest) → Gives value r (rows_said rows n pieces)
gives_rows value [] n m i pieces t r w = cc
gives_rows value (row ∷ rows) n m i pieces t r w = gives_waiting value row rows row.keywords n m i pieces t r refl w

-- a first row with no keyword left decides
pub gives_row : {B : Type 0} (value : B → Said) (row : Row) (rows : List Row) (n : ℕ) (pieces : List Piece) (r : Result B LineFault)
    → row.keywords ≡ [] → Gives value r (row_said row row.places [] n pieces) → Gives value r (rows_said (row ∷ rows) n pieces)
gives_row value row rows n pieces (Ok b) e h = row_alone row rows n pieces (Ok (value b)) e h
gives_row value row rows n pieces (Err f) e h = row_alone row rows n pieces (Err f) e h

fault_waiting : (row : Row) (rows : List Row) (keywords : List (List ℕ)) (n : ℕ) (pieces : List Piece) (f : LineFault)
    → row.keywords ≡ keywords → waits keywords ≡ true
    → take_one (keyword_at (next_keywords (row ∷ rows))) n pieces ≡ Err f → rows_said (row ∷ rows) n pieces ≡ Err f
fault_waiting row rows [] n pieces f e w = cc
fault_waiting row rows (k ∷ ks) n pieces f e w = rows_fault row rows k ks n pieces f e

pub fault_rows : (rows : List Row) (n : ℕ) (pieces : List Piece) (f : LineFault) → wait rows ≡ true
    → take_one (keyword_at (next_keywords rows)) n pieces ≡ Err f → rows_said rows n pieces ≡ Err f
fault_rows [] n pieces f w = cc
fault_rows (row ∷ rows) n pieces f w = fault_waiting row rows row.keywords n pieces f refl w
