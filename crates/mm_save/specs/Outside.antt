-- The bytes outside the proof of a theorem, after any number of saves.
use Rattle.std.specs.Prelude.{◌≡◌, ◌≤◌, ℕ, List, [], ◌∷◌, length, take, drop}
use Rattle.mm_scope.specs.Contents.{stated_at}
use Rattle.mm_scope.specs.Judged.{most_bytes}
use Rattle.mm_plain.specs.declared.plain.Plain.{Plain}
use Rattle.mm_plain.specs.Numbers.{HasOwnLabels}
use Rattle.mm_save.specs.Saving.{saved}
use Rattle.mm_save.specs.declared.form.Form.{Form}

-- the bytes before the proof of a theorem and those from its end on are the same
pub record KeepsOutside (bytes : List ℕ) (at : ℕ) (new : List ℕ) : Type 0 where
  pub from : (stated_at new at).from ≡ (stated_at bytes at).from
  pub before : take (stated_at new at).from new ≡ take (stated_at bytes at).from bytes
  pub behind : drop (stated_at new at).to new ≡ drop (stated_at bytes at).to bytes

-- a proof can be saved in a form: its steps name statements of the database, and the bytes are not too many
pub record HasRoom (bytes : List ℕ) (at : ℕ) (form : Form) (x : Plain) : Type 0 where
  pub own : HasOwnLabels bytes x
  pub room : length (saved bytes at form x) ≤ most_bytes

abbrev pub HaveRoom : List ℕ → ℕ → List (Form × Plain) → Type 0
HaveRoom bytes at [] = Unit {0}
HaveRoom bytes at (x ∷ xs) = HasRoom bytes at x.0 x.1 × HaveRoom bytes at xs

-- proofs of one theorem, each in a form, saved one after another
abbrev pub saved_in_turn : List ℕ → ℕ → List (Form × Plain) → List ℕ
saved_in_turn bytes at [] = bytes
saved_in_turn bytes at (x ∷ xs) = saved_in_turn (saved bytes at x.0 x.1) at xs
