-- Reading goes on from token to token, by way of the tokens outside comments.
use Rattle.std.proofs.Common.{◌≡◌, ℕ, Bool, true, false, cond, not, ◌||◌, List, [], ◌∷◌, Option, None, Some, length, slice_index, nat_eq, codes, Result, Ok, Err, is_ok, refl, sym, ap, ◌∙◌, subst}
use Rattle.std.proofs.lemmas.Bool.{true≢false}
use Rattle.mm_tokens.specs.declared.pieces.Span.{Span}
use Rattle.mm_tokens.specs.declared.pieces.Piece.{Piece}
use Rattle.mm_tokens.specs.declared.pieces.Piece.TheVariants.{Token, Comment, Open}
use Rattle.mm_tokens.specs.Words.{word_of, keyword_of}
use Rattle.mm_tokens.specs.declared.word.Word.{Word}
use Rattle.mm_tokens.specs.declared.word.Word.TheVariants as word
use Rattle.mm_scope.specs.Events.{Event, put}
use Rattle.mm_scope.specs.Looks.{look_back}
use Rattle.mm_scope.specs.Reading.{after, step, read_from, with_comment, without_comment}
use Rattle.mm_scope.specs.Steps.{State, step_by}
use Rattle.mm_scope.specs.declared.fault.ReadFault.{ReadFault}
use Rattle.mm_scope.specs.declared.mode.Mode.{Mode}
use Rattle.mm_scope.specs.declared.mode.Mode.TheVariants as mode
use Rattle.mm_grammar.specs.Phrases.{Noted, noted_from, text_at}

-- a state
abbrev pub at : Mode → List Event → ℕ → List ℕ → Option Span → List ℕ → ℕ → Option Span → State (List Event)
at m past begun label described buffer proof c =
    record { context = past; mode = m; begun = begun; label = label; described = described; buffer = buffer; proof = proof; comment = c }

abbrev pub commented : State (List Event) → Option Span → State (List Event)
commented s c = record s { comment = c }

-- reading tokens, each with the comment before it
pub read_noted : List ℕ → State (List Event) → List Noted → Result (State (List Event)) ReadFault
read_noted bytes s [] = Ok s
read_noted bytes s (n ∷ ns) = after (step put look_back bytes (commented s n.comment) n.token) (λ t. read_noted bytes (without_comment t) ns)

-- a state is reached, but for its comment
pub record EndsIn (r : Result (State (List Event)) ReadFault) (t : State (List Event)) : Type 0 where
  pub comment : Option Span
  pub is : r ≡ Ok (commented t comment)

state_in : State (List Event) → Result (State (List Event)) ReadFault → State (List Event)
state_in s (Ok t) = t
state_in s (Err f) = s

recommented : (bytes : List ℕ) (ns : List Noted) (s t : State (List Event)) (c : Option Span) → EndsIn (read_noted bytes s ns) t → EndsIn (read_noted bytes (commented s c) ns) t
unfolding read_noted state_in
recommented bytes [] s t c e = record { comment = c; is = ap (λ r. Ok (commented (state_in s r) c)) e.is }
recommented bytes (n ∷ ns) s t c e = record { comment = e.comment; is = e.is }

-- so reading the pieces reaches what reading the tokens reaches
pub pieces_read : (bytes : List ℕ) (ps : List Piece) (s t : State (List Event)) → EndsIn (read_noted bytes s (noted_from s.comment ps)) t
    → EndsIn (read_from put look_back bytes s ps) t
unfolding read_from noted_from read_noted
pieces_read bytes [] s t e = e
pieces_read bytes (Open p ∷ ps) s t e = e
pieces_read bytes (Comment c ∷ ps) s t e = pieces_read bytes ps (with_comment s c) t (recommented bytes (noted_from (Some c) ps) s t (Some c) e)
pieces_read bytes (Token k ∷ ps) s t e = by (step put look_back bytes s k) e (λ u h. pieces_read bytes ps (without_comment u) t h)
  where
    by : (r : Result (State (List Event)) ReadFault) → EndsIn (after r (λ u. read_noted bytes (without_comment u) (noted_from None ps))) t
        → ((u : State (List Event)) → EndsIn (read_noted bytes (without_comment u) (noted_from None ps)) t → EndsIn (read_from put look_back bytes (without_comment u) ps) t)
        → EndsIn (after r (λ u. read_from put look_back bytes (without_comment u) ps)) t
    by (Ok u) h later = later u h
    by (Err f) h later = record { comment = h.comment; is = h.is }

-- what is asked of reading
abbrev pub Goal : Type 1
Goal = Result (State (List Event)) ReadFault → Type 0

-- reading the tokens meets it
abbrev pub ReadsTo : List ℕ → State (List Event) → List Noted → Goal → Type 0
ReadsTo bytes s ns goal = goal (read_noted bytes s ns)

-- a state between statements, with these events
pub record IsBetween (past : List Event) (r : Result (State (List Event)) ReadFault) : Type 0 where
  pub begun : ℕ
  pub label : List ℕ
  pub described : Option Span
  pub buffer : List ℕ
  pub proof : ℕ
  pub comment : Option Span
  pub is : r ≡ Ok (at mode.Start past begun label described buffer proof comment)

pub reads_none : (bytes : List ℕ) (past : List Event) (begun : ℕ) (label : List ℕ) (described : Option Span) (buffer : List ℕ) (proof : ℕ) (c : Option Span)
    → ReadsTo bytes (at mode.Start past begun label described buffer proof c) [] (IsBetween past)
unfolding read_noted
reads_none bytes past begun label described buffer proof c =
    record { begun = begun; label = label; described = described; buffer = buffer; proof = proof; comment = c; is = refl }

module _ (bytes : List ℕ) (s : State (List Event)) (n : Noted) where
  -- one token after another
  pub go : (ns : List Noted) (goal : Goal) (t : State (List Event)) → step put look_back bytes (commented s n.comment) n.token ≡ Ok t → ReadsTo bytes (without_comment t) ns goal
      → ReadsTo bytes s (n ∷ ns) goal
  unfolding read_noted
  go ns goal t e r = subst goal (sym (ap (λ x. after x (λ u. read_noted bytes (without_comment u) ns)) e)) r

  -- a keyword, and a token that is none
  pub stepped : (u : List ℕ) (w : Word) → text_at bytes n ≡ u → word_of u ≡ w → (t : State (List Event)) → step_by put (commented s n.comment) (look_back s.context u) w u n.token.start ≡ Ok t
      → step put look_back bytes (commented s n.comment) n.token ≡ Ok t
  stepped u w e is t h =
      ap (λ v. step_by put (commented s n.comment) (look_back s.context v) (word_of v) v n.token.start) e
      ∙ ap (λ v. step_by put (commented s n.comment) (look_back s.context u) v u n.token.start) is ∙ h

-- all tokens are read, or one has a fault
pub stops : (bytes : List ℕ) (s : State (List Event)) (goal : Goal) → goal (Ok s) → ReadsTo bytes s [] goal
unfolding read_noted
stops bytes s goal h = h

pub fails_at : (bytes : List ℕ) (s : State (List Event)) (n : Noted) (ns : List Noted) (f : ReadFault) → step put look_back bytes (commented s n.comment) n.token ≡ Err f
    → ReadsTo bytes s (n ∷ ns) (λ r. r ≡ Err f)
unfolding read_noted
fails_at bytes s n ns f e = ap (λ x. after x (λ u. read_noted bytes (without_comment u) ns)) e

refails : (bytes : List ℕ) (ns : List Noted) (s : State (List Event)) (c : Option Span) (f : ReadFault) → read_noted bytes s ns ≡ Err f → read_noted bytes (commented s c) ns ≡ Err f
unfolding read_noted
refails bytes [] s c f e = absurd (true≢false (ap is_ok e))
refails bytes (n ∷ ns) s c f e = e

-- so reading the pieces has the fault that reading the tokens has
pub pieces_fail : (bytes : List ℕ) (ps : List Piece) (s : State (List Event)) (f : ReadFault) → read_noted bytes s (noted_from s.comment ps) ≡ Err f → read_from put look_back bytes s ps ≡ Err f
unfolding read_from noted_from read_noted
pieces_fail bytes [] s f e = absurd (true≢false (ap is_ok e))
pieces_fail bytes (Open p ∷ ps) s f e = absurd (true≢false (ap is_ok e))
pieces_fail bytes (Comment c ∷ ps) s f e = pieces_fail bytes ps (with_comment s c) f (refails bytes (noted_from (Some c) ps) s (Some c) f e)
pieces_fail bytes (Token k ∷ ps) s f e = by (step put look_back bytes s k) e (λ u h. pieces_fail bytes ps (without_comment u) f h)
  where
    by : (r : Result (State (List Event)) ReadFault) → after r (λ u. read_noted bytes (without_comment u) (noted_from None ps)) ≡ Err f
        → ((u : State (List Event)) → read_noted bytes (without_comment u) (noted_from None ps) ≡ Err f → read_from put look_back bytes (without_comment u) ps ≡ Err f)
        → after r (λ u. read_from put look_back bytes (without_comment u) ps) ≡ Err f
    by (Ok u) h later = later u h
    by (Err g) h later = h

or_true : (a b : Bool) → b ≡ false → (a || not b) ≡ true
or_true true b h = refl
or_true false b h = ap not h

pub plain_word : (t : List ℕ) → nat_eq (slice_index t 0) 36 ≡ false → word_of t ≡ word.Text
unfolding word_of
plain_word [] h = refl
plain_word (a ∷ t) h = ap (λ b. cond b word.Text (cond (nat_eq (length (a ∷ t)) 2) (keyword_of (slice_index (a ∷ t) 1)) word.Unknown)) (or_true (nat_eq (length (a ∷ t)) 0) (nat_eq a 36) h)

-- the words of the keywords
pub words : (word_of (codes "$c") ≡ word.Constants) × (word_of (codes "$v") ≡ word.Variables) × (word_of (codes "$d") ≡ word.Distinct) × (word_of (codes "$f") ≡ word.Float)
    × (word_of (codes "$e") ≡ word.Essential) × (word_of (codes "$a") ≡ word.Axiom) × (word_of (codes "$p") ≡ word.Theorem) × (word_of (codes "$=") ≡ word.Proof)
    × (word_of (codes "$.") ≡ word.End) × (word_of (codes "${") ≡ word.Open) × (word_of (codes "$}") ≡ word.Close)
unfolding word_of keyword_of
words = (refl, refl, refl, refl, refl, refl, refl, refl, refl, refl, refl)
