-- The calls that a line makes on the files.
use Rattle.std.specs.Prelude.{◌≡◌, ◌≢◌, ◌<◌, ◌+◌, ◌⊎◌, ℕ, Bool, true, false, IsTrue, List, Contains, min}
use Rattle.mm_base.specs.declared.files.Files.{Ghosts as FilesOf}
use Rattle.mm_step.specs.declared.reply.Reply.{Reply}
use Rattle.mm_step.specs.Effects.{outcome, Starved, Faulted}

-- Whether a call fails that comes after n others.
abbrev pub Fails : List ℕ → ℕ → Type 0
Fails failing n = (n < 18446744073709551615) × Contains failing (n + 1)

-- the number of calls once one more was made
abbrev pub one_more : ℕ → ℕ
one_more calls = min (calls + 1) 18446744073709551615

-- A line makes one call where it reaches the files and isn't starved, and fails where that call does. A starved one makes
-- that one or none, and a line that doesn't reach the files makes none.
pub record Calls {F : Type 0} (fs : FilesOf F) (old new : F) (reaches : Bool) (reply : Reply) : Type 0 where
  pub told : IsTrue (fs.tells_failing new) → IsTrue (fs.tells_failing old)
  pub same : IsTrue (fs.tells_failing new) → fs.failing new ≡ fs.failing old
  pub none : IsTrue (fs.tells_failing new) → reaches ≡ false → fs.calls new ≡ fs.calls old
  pub most : IsTrue (fs.tells_failing new) → (fs.calls new ≡ fs.calls old) ⊎ (fs.calls new ≡ one_more (fs.calls old))
  pub one : IsTrue (fs.tells_failing new) → outcome reply ≢ Starved → reaches ≡ true → fs.calls new ≡ one_more (fs.calls old)
  pub fails : IsTrue (fs.tells_failing new) → outcome reply ≡ Faulted → Fails (fs.failing old) (fs.calls old)
  pub faulted : IsTrue (fs.tells_failing new) → outcome reply ≢ Starved → reaches ≡ true → Fails (fs.failing old) (fs.calls old) → outcome reply ≡ Faulted
