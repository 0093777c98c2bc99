-- The first piece at a place, and the pieces after it.
use Rattle.std.proofs.Common.{◌≡◌, ℕ, zero, suc, ◌+◌, ◌-◌, ◌<◌, ◌≤◌, Bool, true, false, List, [], ◌∷◌, None, Some, length, get_or, cond, refl, sym, ◌∙◌, ap, arith, ◌⊎◌, inl, inr, add-zero}
use Rattle.std.proofs.lemmas.List.{get_or_past}
use Rattle.std.proofs.lemmas.Grind.{common_steps}
use Rattle.mm_tokens.specs.Bytes.{is_graphic}
use Rattle.mm_tokens.specs.Runs.{is_start, run_end, runs_after, is_mark, is_closing}
use Rattle.mm_tokens.specs.Pieces.{pieces_from, pieces_after}
use Rattle.mm_tokens.proofs.Places.{RunAt, runs_end, runs_start, runs_step, runs_run, runs_skip_to, run_end_stops, no_start}
use Rattle.mm_tokens.specs.declared.pieces.Token.{Token as Run}
use Rattle.mm_tokens.specs.declared.pieces.Piece.TheVariants.{Token, Comment, Open}

-- no token byte stands from p up to q
pub pieces_skip : (bytes : List ℕ) (p q : ℕ) → p ≤ q → q ≤ length bytes → ((k : ℕ) → p ≤ k → k < q → is_graphic (get_or bytes k 0) ≡ false)
    → pieces_after bytes p ≡ pieces_after bytes q
pieces_skip bytes p q low high none =
    ap (pieces_from bytes None) (runs_skip_to bytes p q low high (λ k a b. no_start bytes k (none k a b)))

pub pieces_end : (bytes : List ℕ) (p : ℕ) → length bytes ≤ p → pieces_after bytes p ≡ []
unfolding pieces_from
pieces_end bytes p h = ap (pieces_from bytes None) (runs_end bytes p h)

pub token_piece : (bytes : List ℕ) (p e : ℕ) → RunAt bytes p e → is_mark bytes 40 (record { start = p; end = e }) ≡ false
    → pieces_after bytes p ≡ Token (record { start = p; end = e }) ∷ pieces_after bytes e
unfolding pieces_from
token_piece bytes p e run other =
    let r : Run = record { start = p; end = e } in
    ap (pieces_from bytes None) (runs_run bytes p e run)
    ∙ ap (λ b. cond b (pieces_from bytes (Some p) (runs_after bytes e)) (Token r ∷ pieces_after bytes e)) other

opening_piece : (bytes : List ℕ) (p e : ℕ) → RunAt bytes p e → is_mark bytes 40 (record { start = p; end = e }) ≡ true
    → pieces_after bytes p ≡ pieces_from bytes (Some p) (runs_after bytes e)
unfolding pieces_from
opening_piece bytes p e run mark =
    let r : Run = record { start = p; end = e } in
    ap (pieces_from bytes None) (runs_run bytes p e run)
    ∙ ap (λ b. cond b (pieces_from bytes (Some p) (runs_after bytes e)) (Token r ∷ pieces_after bytes e)) mark

-- inside a comment, what does not close it is passed over
comment_step_by : (bytes : List ℕ) (began p : ℕ) → p < length bytes → is_closing bytes p ≡ false → (b : Bool) → is_start bytes p ≡ b
    → pieces_from bytes (Some began) (runs_after bytes p) ≡ pieces_from bytes (Some began) (runs_after bytes (p + 1))
unfolding pieces_from
comment_step_by bytes began p h other false is = ap (pieces_from bytes (Some began)) (runs_step bytes p h is)
comment_step_by bytes began p h other true is =
    let r : Run = record { start = p; end = run_end bytes p } in
    let unmarked : is_mark bytes 41 r ≡ false = rw is at other in
    ap (pieces_from bytes (Some began)) (runs_start bytes p h is)
    ∙ ap (λ b. cond b (Comment (record { start = began; end = r.end }) ∷ pieces_after bytes (p + 1)) (pieces_from bytes (Some began) (runs_after bytes (p + 1)))) unmarked

comment_skip : (bytes : List ℕ) (began p d : ℕ) → p + d ≤ length bytes → ((k : ℕ) → p ≤ k → k < p + d → is_closing bytes k ≡ false)
    → pieces_from bytes (Some began) (runs_after bytes p) ≡ pieces_from bytes (Some began) (runs_after bytes (p + d))
comment_skip bytes began p zero h none = rw add-zero
comment_skip bytes began p (suc d) h none =
    let same : p + suc d ≡ p + 1 + d = omega arith in
    comment_step_by bytes began p (omega arith) (none p (omega arith) (omega arith)) (is_start bytes p) refl
    ∙ comment_skip bytes began (p + 1) d (omega arith) (λ k low high. none k (omega arith) (omega arith))
    ∙ ap (λ q. pieces_from bytes (Some began) (runs_after bytes q)) (sym same)

comment_skip_to : (bytes : List ℕ) (began p q : ℕ) → p ≤ q → q ≤ length bytes → ((k : ℕ) → p ≤ k → k < q → is_closing bytes k ≡ false)
    → pieces_from bytes (Some began) (runs_after bytes p) ≡ pieces_from bytes (Some began) (runs_after bytes q)
comment_skip_to bytes began p q low high none =
    let same : p + (q - p) ≡ q = omega arith in
    comment_skip bytes began p (q - p) (omega arith) (λ k a b. none k a (omega arith))
    ∙ ap (λ k. pieces_from bytes (Some began) (runs_after bytes k)) same

-- a comment that no `$)` ends
pub open_piece : (bytes : List ℕ) (p e : ℕ) → RunAt bytes p e → is_mark bytes 40 (record { start = p; end = e }) ≡ true
    → ((k : ℕ) → e ≤ k → k < length bytes → is_closing bytes k ≡ false)
    → pieces_after bytes p ≡ Open p ∷ pieces_after bytes (length bytes)
unfolding pieces_from
open_piece bytes p e run mark none =
    opening_piece bytes p e run mark
    ∙ comment_skip_to bytes p e (length bytes) run.within (omega arith) none
    ∙ ap (pieces_from bytes (Some p)) (runs_end bytes (length bytes) (omega arith))
    ∙ ap (λ ps. Open p ∷ ps) (sym (pieces_end bytes (length bytes) (omega arith)))

fits_or : (p n : ℕ) → (p + 2 ≤ n) ⊎ (n ≤ p + 1)
fits_or p n = grind arith

one_of_two : (k p : ℕ) → p ≤ k → k < p + 2 → (k ≡ p) ⊎ (k ≡ p + 1)
one_of_two k p low high = grind arith

-- a run that is exactly `$)`
pub closing_run : (bytes : List ℕ) (p : ℕ) → is_closing bytes p ≡ true → RunAt bytes p (p + 2)
closing_run bytes p closes =
    let start : is_start bytes p ≡ true = grind (arith, common_steps, closes) in
    let end : run_end bytes p ≡ p + 2 = grind (arith, common_steps, closes) in
    let one : get_or bytes p 0 ≡ 36 = grind (arith, common_steps, closes) in
    let two : get_or bytes (p + 1) 0 ≡ 41 = grind (arith, common_steps, closes) in
    record {
      start = start;
      some = omega arith;
      within = elim (fits_or p (length bytes)) [ inl h ↦ h | inr h ↦ absurd (let past : get_or bytes (p + 1) 0 ≡ 0 = get_or_past bytes (p + 1) 0 h in omega arith) ];
      at = end;
      all = λ k a b. elim (one_of_two k p a b) [ inl e ↦ rw (e, one) refl | inr e ↦ rw (e, two) refl ];
      stops = rw (← end) (run_end_stops bytes p);
    }

pub comment_piece : (bytes : List ℕ) (p e close : ℕ) → RunAt bytes p e → is_mark bytes 40 (record { start = p; end = e }) ≡ true
    → e ≤ close → ((k : ℕ) → e ≤ k → k < close → is_closing bytes k ≡ false) → is_closing bytes close ≡ true
    → pieces_after bytes p ≡ Comment (record { start = p; end = close + 2 }) ∷ pieces_after bytes (close + 2)
unfolding pieces_from
comment_piece bytes p e close run mark low none closes =
    let mine : RunAt bytes close (close + 2) = closing_run bytes close closes in
    let within : close + 2 ≤ length bytes = mine.within in
    let marked : is_mark bytes 41 (record { start = close; end = close + 2 }) ≡ true = grind (arith, common_steps, closes) in
    opening_piece bytes p e run mark
    ∙ comment_skip_to bytes p e close low (omega arith) none
    ∙ ap (pieces_from bytes (Some p)) (runs_run bytes close (close + 2) mine)
    ∙ ap (λ b. cond b (Comment (record { start = p; end = close + 2 }) ∷ pieces_after bytes (close + 2)) (pieces_from bytes (Some p) (runs_after bytes (close + 2)))) marked
