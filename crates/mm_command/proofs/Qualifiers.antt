-- Steps of the reading of qualifiers.
use Rattle.std.proofs.Common.{◌≡◌, ℕ, ◌+◌, false, List, [], ◌∷◌, Option, Some, Result, Ok, Err, map, refl, sym, ◌∙◌, ap, slice_get, slice_set, cond, arith}
use Rattle.mm_command.specs.declared.fault.LineFault.{LineFault}
use Rattle.mm_command.specs.Words.{Piece, Plain, Slash, Equals, Unclosed}
use Rattle.mm_command.specs.Taking.{Gives, given_behind}
use Rattle.mm_command.specs.Grammar.{Place, Value, Qualifier, Taken, Between, BehindSlash, AtValue, take_one, keyword_at, value_at, and_then, fault, value_wanted, is_excluded, stage_behind, with_flag, given_of}

pub gives_along : {A B : Type 0} (value : B → A) (r : Result B LineFault) (a b : Result A LineFault) → a ≡ b → Gives value r b → Gives value r a
gives_along value (Ok v) a b e h = e ∙ h
gives_along value (Err f) a b e h = e ∙ h

-- the word that was taken
record First {A : Type 0} (judge : ℕ → Piece → Result A LineFault) (n : ℕ) (pieces : List Piece) (t : Taken A) : Type 0 where
  piece : Piece
  first : pieces ≡ piece ∷ t.rest
  fits : judge n piece ≡ Ok t.value

first_fits : {A : Type 0} (judge : ℕ → Piece → Result A LineFault) (n : ℕ) (piece : Piece) (pieces : List Piece) (t : Taken A) (o : Result A LineFault)
    → judge n piece ≡ o → and_then o (λ v. Ok (record { value = v; rest = pieces })) ≡ Ok t → First judge n (piece ∷ pieces) t
first_fits judge n piece pieces t (Ok v) e h = record { piece = piece; first = cc; fits = cc }
first_fits judge n piece pieces t (Err f) e h = absurd cc

first_of : {A : Type 0} (judge : ℕ → Piece → Result A LineFault) (n : ℕ) (pieces : List Piece) (t : Taken A) → take_one judge n pieces ≡ Ok t → First judge n pieces t
unfolding take_one
first_of judge n [] t h = absurd cc
first_of judge n (piece ∷ pieces) t h = first_fits judge n piece pieces t (judge n piece) refl h

-- from a `/` on, the reading goes on behind the keyword that was taken
pub given_from_slash : (q : Qualifier) (qs : List Qualifier) (given : List (Option Value)) (n m i k : ℕ) (keywords : List (List ℕ)) (pieces rest : List Piece) (t : Taken ℕ)
    → pieces ≡ Slash ∷ rest → m ≡ n + 1 → k ≡ n + 2 → take_one (keyword_at keywords) m rest ≡ Ok t → t.value ≡ i → map (λ p. p.keyword) (q ∷ qs) ≡ keywords
    → given_of (q ∷ qs) Between given n pieces ≡ given_behind (q ∷ qs) given i m k t.rest
unfolding given_of
given_from_slash q qs given n m i k keywords pieces rest t e p l h v s =
    let w = first_of (keyword_at keywords) m rest t h in
    let next : m + 1 ≡ k = omega arith in
    ap (given_of (q ∷ qs) Between given n) e
    ∙ ap (λ c. given_of (q ∷ qs) BehindSlash given c rest) (sym p)
    ∙ ap (given_of (q ∷ qs) BehindSlash given m) w.first
    ∙ ap (λ o. and_then o (λ j. cond (is_excluded (slice_get (q ∷ qs) j) (q ∷ qs) given) (fault 3 m) (
    given_of (q ∷ qs) (stage_behind j (value_wanted (slice_get (q ∷ qs) j))) (with_flag given j (value_wanted (slice_get (q ∷ qs) j))) (m + 1) t.rest)))
    (ap (λ ks. keyword_at ks m w.piece) s ∙ w.fits ∙ ap (λ j. Ok j) v)
    ∙ ap (λ c. given_behind (q ∷ qs) given i m c t.rest) next

-- the value of a qualifier
pub given_value : (qs : List Qualifier) (given : List (Option Value)) (n m i : ℕ) (place : Place) (pieces : List Piece) (t : Taken Value)
    → take_one (value_at place) n pieces ≡ Ok t → m ≡ n + 1
    → given_of qs (AtValue i place) given n pieces ≡ given_of qs Between (slice_set given i (Some t.value)) m t.rest
unfolding given_of
given_value qs given n m i place pieces t h p =
    let w = first_of (value_at place) n pieces t h in
    ap (given_of qs (AtValue i place) given n) w.first
    ∙ ap (λ o. and_then o (λ v. given_of qs Between (slice_set given i (Some v)) (n + 1) t.rest)) w.fits
    ∙ ap (λ k. given_of qs Between (slice_set given i (Some t.value)) k t.rest) (sym p)

value_unfit : (qs : List Qualifier) (given : List (Option Value)) (n i : ℕ) (pieces : List Piece) (f : LineFault) (o : Result Value LineFault)
    → and_then {B = Taken Value} o (λ v. Ok (record { value = v; rest = pieces })) ≡ Err f → and_then o (λ v. given_of qs Between (slice_set given i (Some v)) (n + 1) pieces) ≡ Err f
value_unfit qs given n i pieces f (Ok v) h = absurd cc
value_unfit qs given n i pieces f (Err g) h = cc

pub value_fault : (qs : List Qualifier) (given : List (Option Value)) (n i : ℕ) (place : Place) (pieces : List Piece) (f : LineFault)
    → take_one (value_at place) n pieces ≡ Err f → given_of qs (AtValue i place) given n pieces ≡ Err f
unfolding given_of take_one
value_fault qs given n i place [] f h = cc
value_fault qs given n i place (piece ∷ pieces) f h = value_unfit qs given n i pieces f (value_at place n piece) h

-- a word that is no slash fits no qualifier
pub slash_fault : (q : Qualifier) (qs : List Qualifier) (given : List (Option Value)) (n : ℕ) (all pieces : List Piece) (piece : Piece) → all ≡ piece ∷ pieces
    → (piece ≡ Slash → ⊥) → given_of (q ∷ qs) Between given n all ≡ fault 3 n
unfolding given_of
slash_fault q qs given n all pieces Slash e other = absurd (other refl)
slash_fault q qs given n all pieces Equals e other = ap (given_of (q ∷ qs) Between given n) e
slash_fault q qs given n all pieces Unclosed e other = ap (given_of (q ∷ qs) Between given n) e
slash_fault q qs given n all pieces (Plain bytes) e other = ap (given_of (q ∷ qs) Between given n) e

no_keyword : (q : Qualifier) (qs : List Qualifier) (given : List (Option Value)) (m : ℕ) (pieces : List Piece) (f : LineFault) (o : Result ℕ LineFault)
    → and_then {B = Taken ℕ} o (λ v. Ok (record { value = v; rest = pieces })) ≡ Err f
    → and_then o (λ i. cond (is_excluded (slice_get (q ∷ qs) i) (q ∷ qs) given) (fault 3 m) (
    given_of (q ∷ qs) (stage_behind i (value_wanted (slice_get (q ∷ qs) i))) (with_flag given i (value_wanted (slice_get (q ∷ qs) i))) (m + 1) pieces)) ≡ Err f
no_keyword q qs given m pieces f (Ok v) h = absurd cc
no_keyword q qs given m pieces f (Err g) h = cc

fault_behind : (q : Qualifier) (qs : List Qualifier) (given : List (Option Value)) (m : ℕ) (rest : List Piece) (f : LineFault)
    → take_one (keyword_at (map (λ p. p.keyword) (q ∷ qs))) m rest ≡ Err f → given_of (q ∷ qs) BehindSlash given m rest ≡ Err f
unfolding given_of take_one
fault_behind q qs given m [] f h = cc
fault_behind q qs given m (piece ∷ pieces) f h = no_keyword q qs given m pieces f (keyword_at (map (λ p. p.keyword) (q ∷ qs)) m piece) h

pub keyword_fault : (q : Qualifier) (qs : List Qualifier) (given : List (Option Value)) (n m : ℕ) (keywords : List (List ℕ)) (pieces rest : List Piece) (f : LineFault)
    → pieces ≡ Slash ∷ rest → m ≡ n + 1 → take_one (keyword_at keywords) m rest ≡ Err f → map (λ p. p.keyword) (q ∷ qs) ≡ keywords
    → given_of (q ∷ qs) Between given n pieces ≡ Err f
unfolding given_of
keyword_fault q qs given n m keywords pieces rest f e p h s =
    ap (given_of (q ∷ qs) Between given n) e
    ∙ ap (λ k. given_of (q ∷ qs) BehindSlash given k rest) (sym p)
    ∙ fault_behind q qs given m rest f (ap (λ ks. take_one (keyword_at ks) m rest) s ∙ h)

-- behind the keyword of a qualifier that is free, its value is taken
pub given_behind_value : (qs : List Qualifier) (given : List (Option Value)) (i j n m k : ℕ) (place : Place) (pieces : List Piece) (t : Taken Value)
    → i ≡ j → is_excluded (slice_get qs j) qs given ≡ false → value_wanted (slice_get qs j) ≡ Some place
    → take_one (value_at place) m pieces ≡ Ok t → k ≡ m + 1
    → given_behind qs given i n m pieces ≡ given_of qs Between (slice_set given j (Some t.value)) k t.rest
given_behind_value qs given i j n m k place pieces t e free wants h p =
    ap (λ l. given_behind qs given l n m pieces) e
    ∙ ap (λ b. cond b (fault 3 n) (given_of qs (stage_behind j (value_wanted (slice_get qs j))) (with_flag given j (value_wanted (slice_get qs j))) m pieces)) free
    ∙ ap (λ w. given_of qs (stage_behind j w) (with_flag given j w) m pieces) wants
    ∙ given_value qs given m k j place pieces t h p
