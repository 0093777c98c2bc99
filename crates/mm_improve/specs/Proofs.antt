-- What is found for a goal proves it.
use Rattle.std.specs.Prelude.{◌≡◌, ℕ, ◌<◌, false, List, Some, length}
use Rattle.mm_scope.specs.Contents.{labels_of, stated_at, distinct_at}
use Rattle.mm_stated.specs.Stated.{is_hypothesis}
use Rattle.mm_subst.specs.declared.symbol.WSym.{WSym}
use Rattle.mm_plain.specs.declared.plain.Plain.{Plain}
use Rattle.mm_plain.specs.Shape.{target_of}
use Rattle.mm_plain.specs.Valid.{IsSound, IsString, first_setting}
use Rattle.mm_sound.specs.Apart.{IsApart}
use Rattle.mm_sound.specs.Complete.{IsComplete}
use Rattle.mm_improve.specs.Assertions.{Terms}
use Rattle.mm_improve.specs.Proving.{proof_of}

-- a complete proof of a string for a theorem, which keeps the pairs of variables that must differ there
pub record IsProofFor (bytes : List ℕ) (at : ℕ) (goal : List WSym) (x : Plain) : Type 0 where
  pub goal_is : target_of x ≡ goal
  pub sound : IsSound (first_setting bytes at) x
  pub complete : IsComplete bytes x
  pub apart : IsApart bytes (distinct_at bytes at) x

-- so is what is found for a string without work variables, at each depth
abbrev pub FindsProofs : List ℕ → Type 0
FindsProofs bytes = (c : Terms) (depth : ℕ) (goal : List WSym) (x : Plain) → c.bytes ≡ bytes → c.at < length (labels_of bytes) → is_hypothesis (stated_at bytes c.at).kind ≡ false → IsString (first_setting bytes c.at) goal → proof_of c depth goal ≡ Some x → IsProofFor bytes c.at goal x
