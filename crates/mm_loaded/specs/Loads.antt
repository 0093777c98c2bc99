-- What loading gives where a proof is accepted.
use Rattle.std.specs.Prelude.{◌≡◌, ℕ, ◌+◌, ◌≤◌, true, List, Ok, All}
use Rattle.mm_unify.specs.declared.listing.Settings.{Settings}
use Rattle.mm_plain.specs.Shape.{Proof}
use Rattle.mm_plain.specs.Valid.{most_levels, most_steps, most_works}
use Rattle.mm_proof.specs.Shapes.{height_in, steps_in}
use Rattle.mm_proof.specs.Trees.{Tree}
use Rattle.mm_tree.specs.Labelled.{draws_all}
use Rattle.mm_edit.specs.Built.{is_surely_found}
use Rattle.mm_edit.specs.Labelling.{labels_for}
use Rattle.mm_edit.specs.Loading.{loading}
use Rattle.mm_sound.specs.LabelTrees.{label_tree}
use Rattle.mm_sound.specs.Proves.{Proves}
use Rattle.mm_sound.specs.Pushed.{pushed_proof}
use Rattle.mm_sound.specs.Substituted.{substituted_in}

-- a label tree has no more steps and levels than a proof may have, and needs no more work variables than may be drawn
pub record IsLight (bytes : List ℕ) (t : Tree) : Type 0 where
  pub few : 1 + steps_in t.children ≤ most_steps
  pub low : 1 + height_in t.children ≤ most_levels
  pub drawn : draws_all bytes (labels_for t) ≤ most_works

-- each value that the run of a theorem's proof substitutes is surely found by a search under the settings
abbrev pub HasSureValues : List ℕ → ℕ → Settings → Type 0
HasSureValues bytes at set = All (λ v. is_surely_found bytes set v ≡ true) (substituted_in bytes at)

-- the proof of the strings that the machine pushes, after as many work variables were drawn as its labels need
abbrev pub proof_for : List ℕ → Tree → Proof
proof_for bytes t = pushed_proof bytes t (1 + draws_all bytes (labels_for t))

-- loading gives this proof, which proves the theorem and has that label tree
pub record Loads (bytes : List ℕ) (at : ℕ) (set : Settings) (t : Tree) : Type 0 where
  pub loaded : loading bytes at set ≡ Ok (proof_for bytes t)
  pub proves : Proves bytes at (proof_for bytes t)
  pub labels : label_tree (proof_for bytes t).plain ≡ t
