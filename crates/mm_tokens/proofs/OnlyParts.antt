-- A database is cut into parts in one way.
use Rattle.std.proofs.Common.{◌≡◌, ℕ, ◌-◌, ◌<◌, ◌≤◌, true, List, [], ◌∷◌, length, get_or, refl, sym, ap, subst, arith, ◌⊎◌, inl, inr}
use Rattle.std.proofs.lemmas.List.{get_or_past}
use Rattle.mm_tokens.specs.Bytes.{is_graphic}
use Rattle.mm_tokens.specs.Parts.{IsBlank, IsRun, IsMark, IsComment, IsPiece, AreParts, piece_start, piece_end}
use Rattle.mm_tokens.proofs.Places.{not_both}
use Rattle.mm_tokens.specs.declared.pieces.Piece.{Piece}
use Rattle.mm_tokens.specs.declared.pieces.Piece.TheVariants.{Token, Comment, Open}

order : (p q : ℕ) → (p < q) ⊎ (p ≡ q) ⊎ (q < p)
order p q = grind arith

-- the first token byte from a place on
first_same : (bytes : List ℕ) (at p q : ℕ) → at ≤ p → at ≤ q → IsBlank bytes at p → IsBlank bytes at q
    → is_graphic (get_or bytes p 0) ≡ true → is_graphic (get_or bytes q 0) ≡ true → p ≡ q
first_same bytes at p q low_p low_q blank_p blank_q here_p here_q =
    elim (order p q) [
      | inl less ↦ absurd (not_both _ (blank_q p low_p less) here_p)
      | inr other ↦ elim other [ inl same ↦ same | inr more ↦ absurd (not_both _ (blank_p q low_q more) here_q) ]
    ]

run_same : (bytes : List ℕ) (p e f : ℕ) → IsRun bytes p e → IsRun bytes p f → e ≡ f
run_same bytes p e f one two =
    elim (order e f) [
      | inl less ↦ absurd (not_both _ one.after (two.graphic e (omega (arith, one.some)) less))
      | inr other ↦ elim other [ inl same ↦ same | inr more ↦ absurd (not_both _ two.after (one.graphic f (omega (arith, two.some)) more)) ]
    ]

piece_graphic : (bytes : List ℕ) (x : Piece) → IsPiece bytes x → is_graphic (get_or bytes (piece_start x) 0) ≡ true
piece_graphic bytes (Token t) is = is.run.graphic t.start (omega arith) is.run.some
piece_graphic bytes (Comment s) is = is.opens.run.graphic s.start (omega arith) is.opens.run.some
piece_graphic bytes (Open p) is = is.opens.run.graphic p (omega arith) is.opens.run.some

graphic_within : (bytes : List ℕ) (p : ℕ) → is_graphic (get_or bytes p 0) ≡ true → p < length bytes
graphic_within bytes p here =
    elim (order p (length bytes)) [
      | inl less ↦ less
      | inr other ↦ absurd (not_both _ (rw (get_or_past bytes p 0 (elim other [ inl same ↦ omega arith | inr more ↦ omega arith ])) refl) here)
    ]

comment_same : (bytes : List ℕ) (p e f : ℕ) → IsComment bytes p e → IsComment bytes p f → e ≡ f
comment_same bytes p e f one two =
    elim (order e f) [
      | inl less ↦ absurd (two.first (e - 2) (omega (arith, one.room)) (omega (arith, one.room)) one.closes)
      | inr other ↦ elim other [ inl same ↦ same | inr more ↦ absurd (one.first (f - 2) (omega (arith, two.room)) (omega (arith, two.room)) two.closes) ]
    ]

token_is : (p q e f : ℕ) → p ≡ q → e ≡ f → Token (record { start = p; end = e }) ≡ Token (record { start = q; end = f })
token_is p q e f start end = cc

comment_is : (p q e f : ℕ) → p ≡ q → e ≡ f → Comment (record { start = p; end = e }) ≡ Comment (record { start = q; end = f })
comment_is p q e f start end = cc

-- one piece starts at a place
piece_same : (bytes : List ℕ) (x y : Piece) → piece_start x ≡ piece_start y → IsPiece bytes x → IsPiece bytes y → x ≡ y
piece_same bytes (Token t) (Token u) start one two =
    token_is t.start u.start t.end u.end start (run_same bytes t.start t.end u.end one.run (subst (λ p. IsRun bytes p u.end) (sym start) two.run))
piece_same bytes (Token t) (Comment s) start one two = absurd (one.opens_none (subst (IsMark bytes 40) (sym start) two.opens))
piece_same bytes (Token t) (Open p) start one two = absurd (one.opens_none (subst (IsMark bytes 40) (sym start) two.opens))
piece_same bytes (Comment s) (Token u) start one two = absurd (two.opens_none (subst (IsMark bytes 40) start one.opens))
piece_same bytes (Comment s) (Comment r) start one two =
    comment_is s.start r.start s.end r.end start (comment_same bytes s.start s.end r.end one (subst (λ p. IsComment bytes p r.end) (sym start) two))
piece_same bytes (Comment s) (Open p) start one two = absurd (two.unended (s.end - 2) (omega (arith, one.room, start)) one.closes)
piece_same bytes (Open p) (Token u) start one two = absurd (two.opens_none (subst (IsMark bytes 40) start one.opens))
piece_same bytes (Open p) (Comment r) start one two = absurd (one.unended (r.end - 2) (omega (arith, two.room, start)) two.closes)
piece_same bytes (Open p) (Open q) start one two = ap Open start

none_and_some : (bytes : List ℕ) (at : ℕ) (y : Piece) → IsBlank bytes at (length bytes) → at ≤ piece_start y → IsPiece bytes y → ⊥
none_and_some bytes at y blank low is =
    let here : is_graphic (get_or bytes (piece_start y) 0) ≡ true = piece_graphic bytes y is in
    not_both _ (blank (piece_start y) low (graphic_within bytes (piece_start y) here)) here

pub only_parts : (bytes : List ℕ) (at : ℕ) (xs ys : List Piece) → AreParts bytes at xs → AreParts bytes at ys → xs ≡ ys
only_parts bytes at [] [] one two = refl
only_parts bytes at [] (y ∷ ys) one two = absurd (none_and_some bytes at y one two.0 two.2)
only_parts bytes at (x ∷ xs) [] one two = absurd (none_and_some bytes at x two one.0 one.2)
only_parts bytes at (x ∷ xs) (y ∷ ys) one two =
    let start : piece_start x ≡ piece_start y = first_same bytes at (piece_start x) (piece_start y) one.0 two.0 one.1 two.1 (piece_graphic bytes x one.2) (piece_graphic bytes y two.2) in
    let same : x ≡ y = piece_same bytes x y start one.2 two.2 in
    let tail : xs ≡ ys = only_parts bytes (piece_end bytes x) xs ys one.3 (subst (λ z. AreParts bytes (piece_end bytes z) ys) (sym same) two.3) in
    cc
