-- Reading goes along the tokens outside comments.
use Rattle.std.proofs.Common.{◌≡◌, ℕ, List, [], ◌∷◌, ◌++◌, Option, None, Some, map, Result, Ok, Err, refl, sym, ap, subst, append_assoc, append-nil}
use Rattle.mm_tokens.specs.Pieces.{tokens_in, open_in}
use Rattle.mm_tokens.specs.declared.pieces.Token.{Token as Run}
use Rattle.mm_tokens.specs.declared.pieces.Span.{Span}
use Rattle.mm_tokens.specs.declared.pieces.Piece.{Piece}
use Rattle.mm_tokens.specs.declared.pieces.Piece.TheVariants.{Token, Comment, Open}
use Rattle.mm_scope.specs.Events.{Event, put}
use Rattle.mm_scope.specs.Looks.{look_back}
use Rattle.mm_scope.specs.Reading.{after, step, read_from, with_comment, without_comment}
use Rattle.mm_scope.specs.Steps.{State}
use Rattle.mm_scope.specs.declared.fault.ReadFault.{ReadFault}
use Rattle.mm_plain.proofs.Fine.{IfFine}
use Rattle.mm_grammar.specs.Phrases.{Noted, noted_from}

pub tokens_noted : (c : Option Span) (ps : List Piece) → open_in ps ≡ None → map (λ n. n.token) (noted_from c ps) ≡ tokens_in ps
unfolding noted_from
tokens_noted c [] none = refl
tokens_noted c (Comment s ∷ ps) none = tokens_noted (Some s) ps none
tokens_noted c (Token k ∷ ps) none = ap (λ ks. k ∷ ks) (tokens_noted None ps none)
tokens_noted c (Open p ∷ ps) none = cc

-- What holds at the start, whatever the comment, and after each token read, holds at the end of all tokens.
module _ (bytes : List ℕ) (Good : List Noted → State (List Event) → Type 0)
    (commented : (read : List Noted) (s : State (List Event)) (c : Span) → Good read s → Good read (with_comment s c))
    (uncommented : (read : List Noted) (s : State (List Event)) → Good read s → Good read (without_comment s))
    (kept : (read : List Noted) (s : State (List Event)) (k : Run) → Good read s
    → IfFine (step put look_back bytes s k) (Good (read ++ (record { token = k; comment = s.comment } ∷ [])))) where
  pub fine_noted : (ps : List Piece) (read : List Noted) (s : State (List Event)) → Good read s → IfFine (read_from put look_back bytes s ps) (Good (read ++ noted_from s.comment ps))
  unfolding read_from noted_from
  fine_noted [] read s good = subst (λ r. Good r s) (sym (append-nil read)) good
  fine_noted (Open p ∷ ps) read s good = subst (λ r. Good r s) (sym (append-nil read)) good
  fine_noted (Comment c ∷ ps) read s good = fine_noted ps read (with_comment s c) (commented read s c good)
  fine_noted (Token k ∷ ps) read s good = by (step put look_back bytes s k) (kept read s k good) (λ t g. fine_noted ps (read ++ (n ∷ [])) (without_comment t) (uncommented (read ++ (n ∷ [])) t g))
    where
      n : Noted
      n = record { token = k; comment = s.comment }

      by : (r : Result (State (List Event)) ReadFault) → IfFine r (Good (read ++ (n ∷ [])))
          → ((t : State (List Event)) → Good (read ++ (n ∷ [])) t → IfFine (read_from put look_back bytes (without_comment t) ps) (Good ((read ++ (n ∷ [])) ++ noted_from None ps)))
          → IfFine (after r (λ t. read_from put look_back bytes (without_comment t) ps)) (Good (read ++ (n ∷ noted_from None ps)))
      by (Ok t) g later =
          subst (λ r. IfFine (read_from put look_back bytes (without_comment t) ps) (Good r)) (append_assoc read (n ∷ []) (noted_from None ps)) (later t g)
      by (Err e) g later = tt
