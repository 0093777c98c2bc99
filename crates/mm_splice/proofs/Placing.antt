-- Where the proofs of a database that is read stand.
use Rattle.std.proofs.Common.{◌≡◌, ℕ, ◌<◌, ◌≤◌, true, List, length, Result, Ok, Err, is_ok, ap, sym, ◌∙◌, refl, arith, inl, inr}
use Rattle.std.proofs.lemmas.Bool.{false≢true, cases_lt}
use Rattle.std.proofs.lemmas.List.{get_or_past}
use Rattle.mm_tokens.specs.Pieces.{pieces_of}
use Rattle.mm_scope.specs.Contents.{is_read, events_in, events_of, statements_of, stated_at}
use Rattle.mm_scope.specs.Databases.{database_of}
use Rattle.mm_scope.specs.Events.{Event}
use Rattle.mm_scope.specs.declared.fault.ReadFault.{ReadFault}
use Rattle.mm_scope.proofs.ContentsLemmas.{is_read-length}
use Rattle.mm_stated.specs.Stated.{no_statement, is_same_kind}
use Rattle.mm_stated.specs.declared.statement.Kind.{Kind}
use Rattle.mm_stated.specs.declared.statement.Kind.TheVariants as kind
use Rattle.mm_splice.proofs.Finding.{proof_found, Precedes, precedes, below_all, in_order, InOrder, whole_proofs}
use Rattle.mm_splice.proofs.Gluing.{upto_all, from_is_late}
use Rattle.mm_splice.proofs.Parts.{AreEnded, ended}
use Rattle.mm_splice.proofs.Proofs.{IsProof, AreProofs}
use Rattle.mm_splice.proofs.Replacing.{IsWhole, whole_of}

ok_events : (r : Result (List Event) ReadFault) → is_ok r ≡ true → r ≡ Ok (events_in r)
ok_events (Ok past) e = refl
ok_events (Err x) e = absurd (false≢true e)

pub read_events : (bytes : List ℕ) → is_read bytes ≡ true → database_of bytes ≡ Ok (events_of bytes)
unfolding is_read events_of
read_events bytes e = ok_events (database_of bytes) e

pub theorem_is : (k : Kind) → is_same_kind kind.Theorem k ≡ true → k ≡ kind.Theorem
theorem_is kind.Float e = absurd (false≢true e)
theorem_is kind.Essential e = absurd (false≢true e)
theorem_is kind.Axiom e = absurd (false≢true e)
theorem_is kind.Theorem e = refl

-- a theorem is one of the statements
pub theorem_within : (bytes : List ℕ) (id : ℕ) → (stated_at bytes id).kind ≡ kind.Theorem → id < length (statements_of bytes)
theorem_within bytes id theorem = elim (cases_lt id (length (statements_of bytes))) [
  | inl less ↦ less
  | inr more ↦ absurd (false≢true (ap (λ s. is_same_kind kind.Theorem s.kind) (sym (get_or_past (statements_of bytes) id no_statement more)) ∙ ap (is_same_kind kind.Theorem) theorem))
]

module _ (bytes : List ℕ) (read : is_read bytes ≡ true) where
  pub whole_read : IsWhole bytes (events_of bytes)
  whole_read = whole_of bytes (events_of bytes) (is_read-length bytes read) (read_events bytes read)

  proofs : AreProofs bytes (pieces_of bytes) (events_of bytes)
  proofs = whole_proofs bytes (events_of bytes) whole_read

  pub all_in_order : InOrder (length bytes) (events_of bytes)
  all_in_order = in_order bytes (pieces_of bytes) (length bytes) (events_of bytes) (upto_all bytes) proofs

  pub pieces_end : AreEnded (pieces_of bytes)
  pieces_end = ended (pieces_of bytes) whole_read.ended

  pub proof_stands : (id : ℕ) → (stated_at bytes id).kind ≡ kind.Theorem → IsProof bytes (pieces_of bytes) (stated_at bytes id).from (stated_at bytes id).to
  unfolding statements_of
  proof_stands id theorem = proof_found bytes (pieces_of bytes) (events_of bytes) id proofs theorem

  -- a proof rises, and stands among the bytes
  pub proof_within : (id : ℕ) → ((stated_at bytes id).from ≤ (stated_at bytes id).to) × ((stated_at bytes id).to ≤ length bytes)
  unfolding statements_of
  proof_within id = below_all (length bytes) (events_of bytes) id all_in_order

  pub proof_precedes : (i j : ℕ) → i < j → Precedes (stated_at bytes i) (stated_at bytes j)
  unfolding statements_of
  proof_precedes i j up = precedes (length bytes) (events_of bytes) i j up all_in_order

  -- a theorem's proof begins after each earlier one has ended
  pub proofs_in_order : (i j : ℕ) → i < j → (stated_at bytes j).kind ≡ kind.Theorem → (stated_at bytes i).to ≤ (stated_at bytes j).from
  proofs_in_order i j up theorem = elim (proof_precedes i j up) [
    | inl h ↦ h
    | inr none ↦ absurd (omega (arith, none.0, from_is_late bytes (stated_at bytes j).from (stated_at bytes j).to (proof_stands j theorem) pieces_end))
  ]
