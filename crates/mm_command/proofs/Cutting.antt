-- The words of a line are its first word and the words behind it.
use Rattle.std.proofs.Common.{◌≡◌, ℕ, zero, suc, ◌+◌, ◌<◌, ◌≤◌, ◌==◌, Bool, true, false, cond, not, List, [], ◌∷◌, length, Option, None, Some, IfSome, position, refl, ◌∙◌, ap, arith, length-drop}
use Rattle.mm_command.specs.Words.{Piece, Cut, cut, cut_at_quote, past_blanks, cut_and_more, first_pieces, pieces_of, is_blank, is_quote, ends_word, count_before}

cond_keeps : (P : Option Cut → Type 0) (b : Bool) (x y : Option Cut) → P x → P y → P (cond b x y)
cond_keeps P true x y p q = p
cond_keeps P false x y p q = q

cut_at_quote_shorter : (bytes : List ℕ) (o : Option ℕ) → length (cut_at_quote bytes o).rest < suc (length bytes)
cut_at_quote_shorter bytes None = omega arith
cut_at_quote_shorter bytes (Some place) = omega (arith, length-drop (place + 1) bytes)

-- what stands behind the first word is shorter
cut_shorter : (bytes : List ℕ) → IfSome (cut bytes) (λ c. length c.rest < length bytes)
cut_shorter [] = tt
cut_shorter (b ∷ bytes) =
    let P : Option Cut → Type 0 = λ o. IfSome o (λ c. length c.rest < suc (length bytes)) in
    cond_keeps P (b == 47) _ _ (omega arith) (
    cond_keeps P (b == 61) _ _ (omega arith) (
    cond_keeps P (is_quote b) _ _ (cut_at_quote_shorter bytes (position (λ c. c == b) bytes)) (omega (arith, length-drop (count_before ends_word bytes) bytes))))

same_more : (f g : List ℕ → List Piece) (o : Option Cut) → IfSome o (λ c. f c.rest ≡ g c.rest) → cut_and_more f o ≡ cut_and_more g o
same_more f g None h = refl
same_more f g (Some c) h = ap (λ pieces. c.piece ∷ pieces) h

weaken : (P Q : Cut → Type 0) (o : Option Cut) → ((c : Cut) → P c → Q c) → IfSome o P → IfSome o Q
weaken P Q None f h = tt
weaken P Q (Some c) f h = f c h

past_blanks_shorter : (line : List ℕ) → length (past_blanks line) ≤ length line
past_blanks_shorter line = omega (arith, length-drop (count_before (λ b. not (is_blank b)) line) line)

-- a count that is large enough gives all words
same_pieces : (n m : ℕ) (line : List ℕ) → length line ≤ n → length line ≤ m → first_pieces n line ≡ first_pieces m line
unfolding first_pieces
same_pieces zero zero line p q = refl
same_pieces zero (suc m) [] p q = refl
same_pieces zero (suc m) (b ∷ bytes) p q = absurd (omega arith)
same_pieces (suc n) zero [] p q = refl
same_pieces (suc n) zero (b ∷ bytes) p q = absurd (omega arith)
same_pieces (suc n) (suc m) line p q =
    same_more (first_pieces n) (first_pieces m) (cut (past_blanks line)) (
    weaken (λ c. length c.rest < length (past_blanks line)) (λ c. first_pieces n c.rest ≡ first_pieces m c.rest) (cut (past_blanks line))
    (λ c h. same_pieces n m c.rest (omega (arith, past_blanks_shorter line)) (omega (arith, past_blanks_shorter line)))
    (cut_shorter (past_blanks line)))

pub pieces_next : (line : List ℕ) → pieces_of line ≡ cut_and_more pieces_of (cut (past_blanks line))
unfolding first_pieces pieces_of
pieces_next line =
    same_pieces (length line) (suc (length line)) line (omega arith) (omega arith)
    ∙ same_more (first_pieces (length line)) pieces_of (cut (past_blanks line)) (
    weaken (λ c. length c.rest < length (past_blanks line)) (λ c. first_pieces (length line) c.rest ≡ pieces_of c.rest) (cut (past_blanks line))
    (λ c h. same_pieces (length line) (length c.rest) c.rest (omega (arith, past_blanks_shorter line)) (omega arith))
    (cut_shorter (past_blanks line)))

subst_some : (P : Option Cut → Type 0) (o : Option Cut) (c : Cut) → o ≡ Some c → P o → P (Some c)
subst_some P o c e p = rw (← e) p

-- the room falls with each word
pub room_left : (line : List ℕ) (c : Cut) → cut (past_blanks line) ≡ Some c → length c.rest < length line
room_left line c e = omega (arith, past_blanks_shorter line, (let P : Option Cut → Type 0 = λ o. IfSome o (λ d. length d.rest < length (past_blanks line)) in subst_some P (cut (past_blanks line)) c e (cut_shorter (past_blanks line))))
