-- Reading the pieces of a database, one after another.
use Rattle.std.specs.Prelude.{ℕ, List, [], ◌∷◌, None, Some, Result, Ok, Err, slice_range}
use Rattle.mm_tokens.specs.declared.pieces.Token.{Token as Run}
use Rattle.mm_tokens.specs.declared.pieces.Span.{Span}
use Rattle.mm_tokens.specs.declared.pieces.Piece.{Piece}
use Rattle.mm_tokens.specs.declared.pieces.Piece.TheVariants.{Token, Comment, Open}
use Rattle.mm_tokens.specs.Words.{word_of}
use Rattle.mm_scope.specs.Events.{Event}
use Rattle.mm_scope.specs.Steps.{Answers, State, step_by}
use Rattle.mm_scope.specs.declared.fault.ReadFault.{ReadFault}

-- the text of a token
abbrev pub text_of : List ℕ → Run → List ℕ
text_of bytes k = slice_range bytes k.start k.end

-- goes on unless there is a fault
abbrev pub after : {A B : Type 0} → Result A ReadFault → (A → Result B ReadFault) → Result B ReadFault
after (Ok x) f = f x
after (Err e) f = Err e

module _ {C : Type 0} where
  -- a comment is the last one until the next token
  abbrev pub with_comment : State C → Span → State C
  with_comment s c = record s { comment = Some c }

  abbrev pub without_comment : State C → State C
  without_comment s = record s { comment = None }

module _ {C : Type 0} (add : C → Event → C) (ask : C → List ℕ → Answers) (bytes : List ℕ) where
  abbrev pub step : State C → Run → Result (State C) ReadFault
  step s k = step_by add s (ask s.context (text_of bytes k)) (word_of (text_of bytes k)) (text_of bytes k) k.start

  -- a comment that is not ended is the end
  unfoldable pub read_from : State C → List Piece → Result (State C) ReadFault
  read_from s [] = Ok s
  read_from s (Comment c ∷ ps) = read_from (with_comment s c) ps
  read_from s (Token k ∷ ps) = after (step s k) (λ t. read_from (without_comment t) ps)
  read_from s (Open p ∷ ps) = Ok s
