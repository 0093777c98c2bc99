-- The label of each labelled statement of a database.
use Rattle.std.specs.Prelude.{◌≡◌, ◌≤◌, ◌<◌, ℕ, false, List, [], Some, length, slice_index_or}
use Rattle.mm_tokens.specs.Words.{is_bad_label}
use Rattle.mm_scope.specs.Contents.{labels_of, find_label}
use Rattle.mm_scope.specs.Steps.{most_label}

-- the label of a statement
abbrev pub label_at : List ℕ → ℕ → List ℕ
label_at bytes id = slice_index_or (labels_of bytes) id []

-- It has no byte that a label may not have, at least one byte and at most 255, and finds the statement.
pub record IsLabelled (bytes : List ℕ) (id : ℕ) : Type 0 where
  pub fit : is_bad_label (label_at bytes id) ≡ false
  pub some : 0 < length (label_at bytes id)
  pub short : length (label_at bytes id) ≤ most_label
  pub found : find_label bytes (label_at bytes id) ≡ Some id
