-- What a database says after any number of saves.
use Rattle.std.specs.Prelude.{◌≡◌, ◌≤◌, ℕ, true, List, [], ◌∷◌, Option, None, Some, Result, Ok, length, fold}
use Rattle.mm_scope.specs.Contents.{is_read, find_label, labels_of, symbols_of, stated_at, active_at, variables_at, distinct_at, is_variable_of, active_symbol_at, active_of, active_pairs_of, is_typecode_of}
use Rattle.mm_scope.specs.Description.{is_usage_guarded, is_change_guarded}
use Rattle.mm_scope.specs.Judged.{most_bytes}
use Rattle.mm_stated.specs.declared.statement.Kind.TheVariants.{Theorem}
use Rattle.mm_stack.specs.Accepting.{Accepts, verdict_by, verdict_of}
use Rattle.mm_proof.specs.Decoding.{decoded, spelled}
use Rattle.mm_proof.specs.declared.fault.ProofFault.{ProofFault}
use Rattle.mm_proof.specs.declared.step.ProofStep.{ProofStep}
use Rattle.mm_splice.specs.Keeping.{proof_at, description_text}
use Rattle.mm_splice.specs.Overlay.{Save, overlay, with_proofs}
use Rattle.mm_splice.specs.Splicing.{spliced, is_proof_text}

-- The database now is the file, overlaid with what was saved, and nothing else. It is read. It says the same of each
-- statement: its label, kind, symbols, mandatory and active hypotheses and pairs, and what describes it; and the same of
-- symbols. The bytes outside the proofs are the file's, whatever stands in their place; so is each proof of which nothing
-- was saved, and each other proof is what was saved. A text spells the same steps as a proof, and the same comes of them.
pub record AgreesWith (file : List ℕ) (saved : ℕ → Option (List ℕ)) (now : List ℕ) : Type 0 where
  pub is : now ≡ overlay file saved
  pub read : is_read now ≡ true
  pub outside_kept : (texts : ℕ → List ℕ) → with_proofs now texts ≡ with_proofs file texts
  pub proofs_kept : (j : ℕ) → saved j ≡ None → proof_at now j ≡ proof_at file j
  pub proofs_saved : (j : ℕ) (text : List ℕ) → saved j ≡ Some text → proof_at now j ≡ text
  pub labels_kept : labels_of now ≡ labels_of file
  pub symbols_kept : symbols_of now ≡ symbols_of file
  pub kinds_kept : (j : ℕ) → (stated_at now j).kind ≡ (stated_at file j).kind
  pub strings_kept : (j : ℕ) → (stated_at now j).symbols ≡ (stated_at file j).symbols
  pub mandatory_kept : (j : ℕ) → (stated_at now j).mandatory ≡ (stated_at file j).mandatory
  pub pairs_kept : (j : ℕ) → (stated_at now j).pairs ≡ (stated_at file j).pairs
  pub hypotheses_kept : (j : ℕ) → active_at now j ≡ active_at file j
  pub variables_kept : (j : ℕ) → variables_at now j ≡ variables_at file j
  pub distinct_kept : (j : ℕ) → distinct_at now j ≡ distinct_at file j
  pub constants_kept : (s : ℕ) → is_variable_of now s ≡ is_variable_of file s
  pub active_symbols_kept : (j : ℕ) (t : List ℕ) → active_symbol_at now j t ≡ active_symbol_at file j t
  pub active_kept : (j : ℕ) → active_of now j ≡ active_of file j
  pub active_pairs_kept : (j : ℕ) → active_pairs_of now j ≡ active_pairs_of file j
  pub typecodes_kept : (s : ℕ) → is_typecode_of now s ≡ is_typecode_of file s
  pub descriptions_kept : (j : ℕ) → description_text now j ≡ description_text file j
  pub usage_kept : (j : ℕ) → is_usage_guarded now j ≡ is_usage_guarded file j
  pub change_kept : (j : ℕ) → is_change_guarded now j ≡ is_change_guarded file j
  pub spelled_kept : (j from : ℕ) (text : List ℕ) → spelled now j from text ≡ spelled file j from text
  pub comes_kept : (j : ℕ) (steps : Result (List ProofStep) ProofFault) → verdict_by now j steps ≡ verdict_by file j steps

-- Of a theorem of which nothing was saved comes what comes of it in the file, but that a place in its proof's fault is that
-- where the proof stands now; so it is accepted now where it is there. Of another comes what the saved text spells there.
pub record JudgesAs (file : List ℕ) (saved : ℕ → Option (List ℕ)) (now : List ℕ) : Type 0 where
  pub decoded_kept : (j : ℕ) → saved j ≡ None → decoded now j ≡ spelled file j (stated_at now j).from (proof_at file j)
  pub steps_kept : (j : ℕ) (steps : List ProofStep) → saved j ≡ None → decoded file j ≡ Ok steps → decoded now j ≡ Ok steps
  pub verdicts_kept : (j : ℕ) → saved j ≡ None → verdict_of now j ≡ verdict_by file j (spelled file j (stated_at now j).from (proof_at file j))
  pub same_verdicts : (j : ℕ) (steps : List ProofStep) → saved j ≡ None → decoded file j ≡ Ok steps → verdict_of now j ≡ verdict_of file j
  pub accepts_kept : (label : List ℕ) (j : ℕ) → find_label file label ≡ Some j → saved j ≡ None → Accepts file label → Accepts now label
  pub accepts_back : (label : List ℕ) (j : ℕ) → find_label file label ≡ Some j → saved j ≡ None → Accepts now label → Accepts file label
  pub decoded_saved : (j : ℕ) (text : List ℕ) → saved j ≡ Some text → decoded now j ≡ spelled file j (stated_at now j).from text
  pub verdicts_saved : (j : ℕ) (text : List ℕ) → saved j ≡ Some text → verdict_of now j ≡ verdict_by file j (spelled file j (stated_at now j).from text)

-- A save can be made: it is of a theorem of the file, the text may stand as a proof, and the database is not too long
-- afterwards.
pub record CanBeMade (file now : List ℕ) (save : Save) : Type 0 where
  pub theorem : (stated_at file save.theorem).kind ≡ Theorem
  pub text : is_proof_text save.text ≡ true
  pub room : length (spliced now save.theorem save.text) ≤ most_bytes

-- the database after a save
abbrev pub after_save : List ℕ → Save → List ℕ
after_save now save = spliced now save.theorem save.text

-- the database after saves, each made in the one that those before it left
unfoldable pub after_saves : List ℕ → List Save → List ℕ
after_saves now saves = fold after_save now saves

-- saves that can be made one after another
abbrev pub CanAllBeMade : List ℕ → List ℕ → List Save → Type 0
CanAllBeMade file now [] = Unit {0}
CanAllBeMade file now (save ∷ saves) = CanBeMade file now save × CanAllBeMade file (after_save now save) saves
