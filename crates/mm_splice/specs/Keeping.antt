-- What a database says after the proof of a theorem is replaced.
use Rattle.std.specs.Prelude.{◌≡◌, ◌≢◌, ℕ, ◌+◌, true, List, Option, length, map, slice_range}
use Rattle.std.specs.Option.{option_map}
use Rattle.mm_scope.specs.Contents.{is_read, events_of, labels_of, symbols_of, stated_at, active_at, variables_at, distinct_at, is_variable_of, active_symbol_at, active_of, active_pairs_of, is_typecode_of}
use Rattle.mm_scope.specs.Description.{description_of, is_usage_guarded, is_change_guarded}
use Rattle.mm_splice.specs.Moved.{move_event, move_stated}
use Rattle.mm_splice.specs.Splicing.{spliced, moved}

-- the bytes of a statement's proof
abbrev pub proof_at : List ℕ → ℕ → List ℕ
proof_at bytes id = slice_range bytes (stated_at bytes id).from (stated_at bytes id).to

-- the text of the comment that describes a statement
abbrev pub description_text : List ℕ → ℕ → Option (List ℕ)
description_text bytes id = option_map (λ s. slice_range bytes s.start s.end) (description_of bytes id)

-- It is read, and says the same at moved places: its labels and symbols; each statement, with its kind, its symbols and its
-- mandatory hypotheses and pairs, and with what describes it; and what is active at each. The proofs of the other theorems
-- are the same bytes. The theorem's own is the text.
pub record KeepsTheRest (bytes : List ℕ) (id : ℕ) (text : List ℕ) : Type 0 where
  pub read : is_read (spliced bytes id text) ≡ true
  pub events_kept : events_of (spliced bytes id text) ≡ map (move_event (moved bytes id text)) (events_of bytes)
  pub labels_kept : labels_of (spliced bytes id text) ≡ labels_of bytes
  pub symbols_kept : symbols_of (spliced bytes id text) ≡ symbols_of bytes
  pub stated_kept : (j : ℕ) → stated_at (spliced bytes id text) j ≡ move_stated (moved bytes id text) (stated_at bytes j)
  pub hypotheses_kept : (j : ℕ) → active_at (spliced bytes id text) j ≡ active_at bytes j
  pub variables_kept : (j : ℕ) → variables_at (spliced bytes id text) j ≡ variables_at bytes j
  pub distinct_kept : (j : ℕ) → distinct_at (spliced bytes id text) j ≡ distinct_at bytes j
  pub constants_kept : (s : ℕ) → is_variable_of (spliced bytes id text) s ≡ is_variable_of bytes s
  pub active_symbols_kept : (j : ℕ) (t : List ℕ) → active_symbol_at (spliced bytes id text) j t ≡ active_symbol_at bytes j t
  pub active_kept : (j : ℕ) → active_of (spliced bytes id text) j ≡ active_of bytes j
  pub active_pairs_kept : (j : ℕ) → active_pairs_of (spliced bytes id text) j ≡ active_pairs_of bytes j
  pub typecodes_kept : (s : ℕ) → is_typecode_of (spliced bytes id text) s ≡ is_typecode_of bytes s
  pub descriptions_kept : (j : ℕ) → description_text (spliced bytes id text) j ≡ description_text bytes j
  pub usage_kept : (j : ℕ) → is_usage_guarded (spliced bytes id text) j ≡ is_usage_guarded bytes j
  pub change_kept : (j : ℕ) → is_change_guarded (spliced bytes id text) j ≡ is_change_guarded bytes j
  pub proofs_kept : (j : ℕ) → j ≢ id → proof_at (spliced bytes id text) j ≡ proof_at bytes j
  pub from_kept : (stated_at (spliced bytes id text) id).from ≡ (stated_at bytes id).from
  pub to_moved : (stated_at (spliced bytes id text) id).to ≡ (stated_at bytes id).from + length text
  pub proof_is : proof_at (spliced bytes id text) id ≡ text
