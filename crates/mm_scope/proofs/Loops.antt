-- One piece more.
use Rattle.std.proofs.Common.{◌≡◌, ℕ, List, [], ◌∷◌, Some, Result, Ok, Err, is_ok, sym, ap, ◌∙◌, subst}
use Rattle.std.proofs.lemmas.Bool.{true≢false}
use Rattle.mm_tokens.specs.Pieces.{open_in}
use Rattle.mm_tokens.specs.declared.pieces.Token.{Token as Run}
use Rattle.mm_tokens.specs.declared.pieces.Span.{Span}
use Rattle.mm_tokens.specs.declared.pieces.Piece.{Piece}
use Rattle.mm_tokens.specs.declared.pieces.Piece.TheVariants.{Token, Comment, Open}
use Rattle.mm_scope.specs.Contexts.{Context, Fails, answers, add_to}
use Rattle.mm_scope.specs.Steps.{State}
use Rattle.mm_scope.specs.Reading.{after, step, read_from, with_comment, without_comment}
use Rattle.mm_scope.specs.declared.fault.ReadFault.{ReadFault}
use Rattle.mm_scope.specs.declared.fault.ReadFault.TheVariants.{Memory}

-- one token, with no comment after it
abbrev pub token_step : List ℕ → State Context → Run → Result (State Context) ReadFault
token_step bytes s k = after (step add_to answers bytes s k) (λ t. Ok (without_comment t))

value : State Context → Result (State Context) ReadFault → State Context
value d (Ok x) = x
value d (Err e) = d

through : (r : Result (State Context) ReadFault) (t : State Context) (f : State Context → Result (State Context) ReadFault)
    → after r (λ s. Ok (without_comment s)) ≡ Ok t → after r (λ s. f (without_comment s)) ≡ f t
unfolding value
through (Ok x) t f h = ap (λ u. f (value t u)) h
through (Err e) t f h = absurd (true≢false (sym (ap is_ok h)))

stopped : (r : Result (State Context) ReadFault) (e : ReadFault) (f : State Context → Result (State Context) ReadFault)
    → after r (λ s. Ok (without_comment s)) ≡ Err e → after r (λ s. f (without_comment s)) ≡ Err e
stopped (Ok x) e f h = absurd (true≢false (ap is_ok h))
stopped (Err d) e f h = h

fails_after : (e : ReadFault) (r : Result (State Context) ReadFault) (f : State Context → Result (State Context) ReadFault)
    → Fails e (after r (λ s. Ok (without_comment s))) → Fails e (after r (λ s. f (without_comment s)))
fails_after Memory r f h = tt
fails_after e r f h = stopped r e f h

module _ (bytes : List ℕ) (s : State Context) (left rest : List Piece) (p : Piece) (shape : left ≡ p ∷ rest) where
  pub token_more : (t : State Context) (k : Run) → p ≡ Token k → token_step bytes s k ≡ Ok t
      → read_from add_to answers bytes s left ≡ read_from add_to answers bytes t rest
  unfolding read_from
  token_more t k e h =
      ap (read_from add_to answers bytes s) (shape ∙ ap (λ q. q ∷ rest) e)
      ∙ through (step add_to answers bytes s k) t (λ u. read_from add_to answers bytes u rest) h

  pub token_fails : (f : ReadFault) (k : Run) → p ≡ Token k → Fails f (token_step bytes s k) → Fails f (read_from add_to answers bytes s left)
  unfolding read_from
  token_fails f k e h =
      subst (λ l. Fails f (read_from add_to answers bytes s l)) (sym (shape ∙ ap (λ q. q ∷ rest) e))
      (fails_after f (step add_to answers bytes s k) (λ u. read_from add_to answers bytes u rest) h)

  pub token_open : (k : Run) → p ≡ Token k → open_in left ≡ open_in rest
  token_open k e = ap open_in (shape ∙ ap (λ q. q ∷ rest) e)

  pub comment_more : (c : Span) → p ≡ Comment c → read_from add_to answers bytes s left ≡ read_from add_to answers bytes (with_comment s c) rest
  unfolding read_from
  comment_more c e = ap (read_from add_to answers bytes s) (shape ∙ ap (λ q. q ∷ rest) e)

  pub comment_open : (c : Span) → p ≡ Comment c → open_in left ≡ open_in rest
  comment_open c e = ap open_in (shape ∙ ap (λ q. q ∷ rest) e)

  pub open_stops : (place : ℕ) → p ≡ Open place → read_from add_to answers bytes s left ≡ Ok s
  unfolding read_from
  open_stops place e = ap (read_from add_to answers bytes s) (shape ∙ ap (λ q. q ∷ rest) e)

  pub open_there : (place : ℕ) → p ≡ Open place → open_in left ≡ Some place
  open_there place e = ap open_in (shape ∙ ap (λ q. q ∷ rest) e)

pub none_left : (bytes : List ℕ) (s : State Context) (left : List Piece) → left ≡ [] → read_from add_to answers bytes s left ≡ Ok s
unfolding read_from
none_left bytes s left e = ap (read_from add_to answers bytes s) e
