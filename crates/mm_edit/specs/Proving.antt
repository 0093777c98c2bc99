-- What is found for a step of a theorem's proof under the settings.
use Rattle.std.specs.Prelude.{ℕ, Bool, List}
use Rattle.mm_scope.specs.declared.database.StmtId.{StmtId}
use Rattle.mm_unify.specs.declared.listing.Settings.{Settings}
use Rattle.mm_improve.specs.Proving.{proof_of}
use Rattle.mm_improve.specs.Searches.{terms}
use Rattle.mm_improve.specs.declared.database.Search.{Search}
use Rattle.mm_edit.specs.Improving.{ProofMap}

-- where proofs are searched for; the trials of the settings do not hold there
abbrev pub search_of : StmtId → Settings → Bool → Search
search_of at set no_distinct = record { at = at; no_distinct = no_distinct; rule = set.rule }

-- the proof of a string that such a search finds at a depth
abbrev pub found_by : List ℕ → Search → ℕ → ProofMap
found_by bytes search depth = proof_of (terms bytes search) depth

-- the same, for a theorem under the settings
abbrev pub proofs_found : List ℕ → ℕ → Settings → Bool → ℕ → ProofMap
proofs_found bytes at set no_distinct depth = proof_of (record { bytes = bytes; at = at; no_distinct = no_distinct; rule = set.rule }) depth
