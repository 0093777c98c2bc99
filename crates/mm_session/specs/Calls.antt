-- Why commands end as they do, and how many calls they make on the files.
use Rattle.std.specs.Prelude.{◌≡◌, ◌<◌, ◌≤◌, ◌+◌, ◌↔◌, ℕ, true, false, IsTrue, [], min}
use Rattle.mm_base.specs.declared.files.Files.{Ghosts as FilesOf}
use Rattle.mm_step.specs.Calls.{Fails}
use Rattle.mm_step.specs.Effects.{Starved, Faulted}
use Rattle.mm_session.specs.Session.{Script, Machine, Turn, turn, session, effect_of}

-- A command is run before the session has ended. It starves only where it takes memory, and meets a file fault only
-- where it reaches the files.
pub record HasCause (t : Turn) : Type 0 where
  pub goes_on : t.machine.state.ended ≡ false
  pub memory : t.outcome ≡ Starved → (effect_of t).free ≡ false
  pub files : t.outcome ≡ Faulted → (effect_of t).reaches_files ≡ true

-- as files count their calls: up to the greatest u64
abbrev pub count_of : ℕ → ℕ
count_of calls = min calls 18446744073709551615

-- A command reaches the files by a call that fails, in a session that began with these files and in which none starved.
pub record CallFails {F : Type 0} (fs : FilesOf F) (begun : F) (t : Turn) : Type 0 where
  pub reaches : (effect_of t).reaches_files ≡ true
  pub fails : Fails (fs.failing begun) (count_of (fs.calls begun + t.machine.calls))

-- A command meets a file fault exactly where its call fails.
abbrev pub FaultsExactly : {F : Type 0} (fs : FilesOf F) (begun : F) → Turn → Type 0
FaultsExactly fs begun t = (t.outcome ≡ Faulted) ↔ CallFails fs begun t

-- The calls have risen by one for each command that reaches the files; one that starved may have made none.
pub record CallsRise {F : Type 0} (fs : FilesOf F) (begun files : F) (m : Machine) : Type 0 where
  pub least : count_of (fs.calls begun + m.calls) ≤ count_of (fs.calls files)
  pub most : count_of (fs.calls files) ≤ count_of (fs.calls begun + (m.calls + m.starved_calls))

-- Where none starved, they have risen by exactly those.
abbrev pub CallsRiseExactly : {F : Type 0} (fs : FilesOf F) (begun files : F) (m : Machine) → Type 0
CallsRiseExactly fs begun files m = count_of (fs.calls files) ≡ count_of (fs.calls begun + m.calls)

-- After n commands the calls are as many as the machine counts.
pub record Counted {F : Type 0} (fs : FilesOf F) (s : Script) (begun : F) (n : ℕ) (files : F) : Type 0 where
  pub told : IsTrue (fs.tells_failing files) → IsTrue (fs.tells_failing begun)
  pub same : IsTrue (fs.tells_failing files) → fs.failing files ≡ fs.failing begun
  pub rise : IsTrue (fs.tells_failing files) → CallsRise fs begun files (session s n)
  pub calls : IsTrue (fs.tells_failing files) → s.starved ≡ [] → CallsRiseExactly fs begun files (session s n)
  pub exactly : IsTrue (fs.tells_failing files) → s.starved ≡ [] → (k : ℕ) → k < n → FaultsExactly fs begun (turn s k)
