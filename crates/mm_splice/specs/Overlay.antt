-- The bytes of a file, overlaid with the proofs that were saved.
use Rattle.std.specs.Prelude.{ℕ, ◌==◌, Bool, List, [], ◌∷◌, ◌++◌, Option, None, Some, length, drop, slice_range, filter, fold, if◌then◌else◌, unwrap_or}
use Rattle.std.specs.List.{range_with_len}
use Rattle.mm_scope.specs.Contents.{statements_of, stated_at}
use Rattle.mm_stated.specs.Stated.{is_same_kind}
use Rattle.mm_stated.specs.declared.statement.Kind.TheVariants as kind
use Rattle.mm_splice.specs.Keeping.{proof_at}

abbrev pub is_theorem_of : List ℕ → ℕ → Bool
is_theorem_of bytes id = is_same_kind kind.Theorem (stated_at bytes id).kind

-- the ids of the theorems, in order
unfoldable pub theorems_of : List ℕ → List ℕ
theorems_of bytes = filter (is_theorem_of bytes) (range_with_len 0 (length (statements_of bytes)))

-- The bytes from a place on, with texts as the proofs of these theorems, which are given in order: as they stand up to the
-- first one's proof, its text, and so on from the end of that proof.
unfoldable pub with_proofs_from : List ℕ → (ℕ → List ℕ) → ℕ → List ℕ → List ℕ
with_proofs_from bytes texts p [] = drop p bytes
with_proofs_from bytes texts p (id ∷ ids) =
    slice_range bytes p (stated_at bytes id).from ++ texts id ++ with_proofs_from bytes texts (stated_at bytes id).to ids

-- the bytes with a text as the proof of each theorem, and nothing else changed
unfoldable pub with_proofs : List ℕ → (ℕ → List ℕ) → List ℕ
with_proofs bytes texts = with_proofs_from bytes texts 0 (theorems_of bytes)

-- The bytes of a file, with the text that was saved of a theorem as its proof; where none was, the proof is the file's.
unfoldable pub overlay : List ℕ → (ℕ → Option (List ℕ)) → List ℕ
overlay file saved = with_proofs file (λ id. unwrap_or (saved id) (proof_at file id))

-- a theorem, by its id, and the text that is saved as its proof
pub record Save : Type 0 where
  pub theorem : ℕ
  pub text : List ℕ

-- what was saved of a theorem after one save more
abbrev pub saved_with : Option (List ℕ) → Save → ℕ → Option (List ℕ)
saved_with before save id = if save.theorem == id then Some save.text else before

-- the last text that was saved of a theorem, of saves in the order in which they were made
unfoldable pub last_text : List Save → ℕ → Option (List ℕ)
last_text saves id = fold (λ before save. saved_with before save id) None saves
