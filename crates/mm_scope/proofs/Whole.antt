-- Reading with tables is reading by looking back.
use Rattle.std.proofs.Common.{◌≡◌, ℕ, List, [], ◌∷◌, Result, Ok, Err, refl, sym, ap, ◌∙◌}
use Rattle.mm_tokens.specs.declared.pieces.Token.{Token as Run}
use Rattle.mm_tokens.specs.declared.pieces.Span.{Span}
use Rattle.mm_tokens.specs.declared.pieces.Piece.{Piece}
use Rattle.mm_tokens.specs.declared.pieces.Piece.TheVariants.{Token, Comment, Open}
use Rattle.mm_tokens.specs.Words.{word_of}
use Rattle.mm_scope.specs.Events.{Event, put}
use Rattle.mm_scope.specs.Steps.{State, step_by}
use Rattle.mm_scope.specs.Contexts.{Context, add_to, answers, empty_state}
use Rattle.mm_scope.specs.Looks.{look_back}
use Rattle.mm_scope.specs.Reading.{text_of, after, step, read_from, with_comment, without_comment}
use Rattle.mm_scope.specs.declared.fault.ReadFault.{ReadFault}
use Rattle.mm_scope.proofs.Natural.{mapped, map_ok, step_natural}
use Rattle.mm_scope.proofs.Simulation.{Agrees, answers_look_back}

-- the tables after a past
unfoldable pub context_at : List Event → Context
context_at [] = empty_state.context
context_at (e ∷ past) = add_to (context_at past) e

abbrev pub IfFine : {A : Type 0} → Result A ReadFault → (A → Type 0) → Type 0
IfFine (Ok x) P = P x
IfFine (Err e) P = Unit {0}

-- what holds at the start and after each step, whatever the comment, holds at the end
module _ (Good : State (List Event) → Type 0)
    (commented : (s : State (List Event)) (c : Span) → Good s → Good (with_comment s c))
    (uncommented : (s : State (List Event)) → Good s → Good (without_comment s))
    (kept : (bytes : List ℕ) (s : State (List Event)) (k : Run) → Good s → IfFine (step put look_back bytes s k) Good) where
  pub fine_read : (bytes : List ℕ) (ps : List Piece) (s : State (List Event)) → Good s → IfFine (read_from put look_back bytes s ps) Good
  unfolding read_from
  fine_read bytes [] s good = good
  fine_read bytes (Open p ∷ ps) s good = good
  fine_read bytes (Comment c ∷ ps) s good = fine_read bytes ps (with_comment s c) (commented s c good)
  fine_read bytes (Token k ∷ ps) s good = by (step put look_back bytes s k) (kept bytes s k good) (λ t g. fine_read bytes ps (without_comment t) (uncommented t g))
    where
      by : (r : Result (State (List Event)) ReadFault) → IfFine r Good
          → ((t : State (List Event)) → Good t → IfFine (read_from put look_back bytes (without_comment t) ps) Good)
          → IfFine (after r (λ t. read_from put look_back bytes (without_comment t) ps)) Good
      by (Ok t) g later = later t g
      by (Err e) g later = tt

module _ (Good : State (List Event) → Type 0)
    (agrees : (s : State (List Event)) → Good s → Agrees s.context (context_at s.context))
    (commented : (s : State (List Event)) (c : Span) → Good s → Good (with_comment s c))
    (uncommented : (s : State (List Event)) → Good s → Good (without_comment s))
    (kept : (bytes : List ℕ) (s : State (List Event)) (k : Run) → Good s → IfFine (step put look_back bytes s k) Good) where
  same_put : (past : List Event) (e : Event) → context_at (put past e) ≡ add_to (context_at past) e
  unfolding context_at
  same_put past e = refl

  one : (bytes : List ℕ) (s : State (List Event)) (k : Run) → Good s
      → step add_to answers bytes (mapped context_at s) k ≡ map_ok (mapped context_at) (step put look_back bytes s k)
  one bytes s k good =
      let t = text_of bytes k in
      ap (λ a. step_by add_to (mapped context_at s) a (word_of t) t k.start) (answers_look_back s.context (context_at s.context) t (agrees s good))
      ∙ sym (step_natural context_at put add_to same_put s (look_back s.context t) (word_of t) t k.start)

  pub whole : (bytes : List ℕ) (ps : List Piece) (s : State (List Event)) → Good s
      → read_from add_to answers bytes (mapped context_at s) ps ≡ map_ok (mapped context_at) (read_from put look_back bytes s ps)
  unfolding read_from
  whole bytes [] s good = refl
  whole bytes (Open p ∷ ps) s good = refl
  whole bytes (Comment c ∷ ps) s good = whole bytes ps (with_comment s c) (commented s c good)
  whole bytes (Token k ∷ ps) s good =
      ap (λ r. after r (λ t. read_from add_to answers bytes (without_comment t) ps)) (one bytes s k good)
      ∙ by (step put look_back bytes s k) (kept bytes s k good) (λ t g. whole bytes ps (without_comment t) (uncommented t g))
    where
      by : (r : Result (State (List Event)) ReadFault) → IfFine r Good
          → ((t : State (List Event)) → Good t
          → read_from add_to answers bytes (mapped context_at (without_comment t)) ps ≡ map_ok (mapped context_at) (read_from put look_back bytes (without_comment t) ps))
          → after (map_ok (mapped context_at) r) (λ t. read_from add_to answers bytes (without_comment t) ps)
          ≡ map_ok (mapped context_at) (after r (λ t. read_from put look_back bytes (without_comment t) ps))
      by (Ok t) g later = later t g
      by (Err e) g later = refl
