-- What is known of what is found.
use Rattle.std.proofs.Common.{◌≡◌, ◌<◌, ℕ, true, false, not, List, [], ◌∷◌, slice_get, length, Option, None, Some, Result, Ok, Err, refl, sym, ap, subst}
use Rattle.std.proofs.lemmas.Option.{get_or_from_slice_get}
use Rattle.std.proofs.lemmas.List.Quantifiers.{position-Some}
use Rattle.std.specs.Str.{bytes_eq}
use Rattle.mm_scope.specs.Contents.{find_label, labels_of, stated_at}
use Rattle.mm_stated.specs.declared.statement.Kind.{Kind}
use Rattle.mm_stated.specs.declared.statement.Kind.TheVariants.{Theorem}
use Rattle.mm_subst.specs.Statements.{statement_of}
use Rattle.mm_plain.specs.Labels.{label_at}
use Rattle.mm_plain.specs.Numbers.{HasOwnLabels}
use Rattle.mm_plain.proofs.Owned.{own-valid}
use Rattle.mm_shell.specs.Answers.{unless, given, found_or}
use Rattle.mm_shell.specs.Finding.{is_theorem, theorem_named}
use Rattle.mm_shell.specs.OpenProofs.{ProofState}
use Rattle.mm_shell.specs.Sound.{IsOpenIn}
use Rattle.mm_shell.specs.declared.refusal.Refusal.{Refusal}
use Rattle.mm_shell.specs.declared.refusal.Refusal.TheVariants.{NoStatement, NotTheorem, NoProofOpen}

pub label_found : (bytes : List ℕ) (id : ℕ) (label : List ℕ) → slice_get (labels_of bytes) id ≡ Some label → label ≡ label_at bytes id
label_found bytes id label e = sym (get_or_from_slice_get (labels_of bytes) id label [] e)

-- the steps of an open proof name the database's own statements
pub own_labels : (bytes : List ℕ) (p : ProofState) → IsOpenIn bytes p → HasOwnLabels bytes p.proof.plain
own_labels bytes p h = own-valid bytes p.theorem (statement_of bytes p.theorem) p.proof h.own h.valid

-- where something is found
pub found_is : {A : Type 0} (o : Option A) (r : Refusal) (a : A) → found_or o r ≡ Ok a → o ≡ Some a
found_is (Some x) r a e = cc
found_is None r a e = cc

theorem_of : (k : Kind) (r : Refusal) (x id : ℕ) → unless ((not (is_theorem k), r) ∷ []) (Ok x) ≡ Ok id → (k ≡ Theorem) × (x ≡ id)
unfolding unless
theorem_of Theorem r x id e = (refl, cc)
theorem_of _ r x id e = cc

-- what is known of a theorem that is found
pub record IsNamed (bytes label : List ℕ) (id : ℕ) : Type 0 where
  pub found : find_label bytes label ≡ Some id
  pub own : id < length (labels_of bytes)
  pub theorem : (stated_at bytes id).kind ≡ Theorem

is_named : (bytes label : List ℕ) (id : ℕ) → find_label bytes label ≡ Some id → (stated_at bytes id).kind ≡ Theorem → IsNamed bytes label id
is_named bytes label id found theorem = record { found = found; own = (position-Some (bytes_eq label) (labels_of bytes) id [] found).0; theorem = theorem }

pub theorem_found : (bytes label : List ℕ) (id : ℕ) → theorem_named bytes label ≡ Ok id → IsNamed bytes label id
unfolding unless given
theorem_found bytes label id e = at (find_label bytes label) refl e where
  at : (o : Option ℕ) → find_label bytes label ≡ o
      → given (found_or o (NoStatement label)) (λ x. unless ((not (is_theorem (stated_at bytes x).kind), NotTheorem label) ∷ []) (Ok x)) ≡ Ok id → IsNamed bytes label id
  at None is e = cc
  at (Some x) is e =
      let k : ((stated_at bytes x).kind ≡ Theorem) × (x ≡ id) = theorem_of (stated_at bytes x).kind (NotTheorem label) x id e in
      subst (λ y. IsNamed bytes label y) k.1 (is_named bytes label x is k.0)

pub proof_found : (database : Option (List ℕ)) (open_proof : Option ProofState) (here : List ℕ × ProofState)
    → given (found_or database NoProofOpen) (λ bytes. given (found_or open_proof NoProofOpen) (λ p. Ok (bytes, p))) ≡ Ok here → (database ≡ Some here.0) × (open_proof ≡ Some here.1)
unfolding given
proof_found (Some bytes) (Some p) here e = let q : (bytes, p) ≡ here = cc in (ap (λ (q : List ℕ × ProofState). let x : Option (List ℕ) = Some q.0 in x) q, ap (λ (q : List ℕ × ProofState). let x : Option ProofState = Some q.1 in x) q)
proof_found (Some bytes) None here e = cc
proof_found None open_proof here e = cc
