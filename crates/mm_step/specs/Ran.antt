-- What a line has done.
use Rattle.std.specs.Prelude.{◌≡◌, is_err, ℕ, true, false, IsTrue, List, [], Result, Ok, Err}
use Rattle.mm_base.specs.declared.files.Files.{Ghosts as FilesOf}
use Rattle.mm_base.specs.Files.{Map}
use Rattle.mm_shell.specs.Actions.{Plan}
use Rattle.mm_shell.specs.Answers.{Answer, refusal_takes, takes}
use Rattle.mm_shell.specs.Changes.{apply_change, state_after}
use Rattle.mm_shell.specs.Texts.{text_of as answer_text, refusal_text}
use Rattle.mm_shell.specs.declared.answer.Change.{Change}
use Rattle.mm_shell.specs.declared.refusal.Refusal.{Refusal}
use Rattle.mm_shell.specs.declared.refusal.Refusal.TheVariants.{OutOfMemory}
use Rattle.mm_shell.specs.declared.state.State.{State}
use Rattle.mm_step.specs.declared.reply.Reply.{Reply}
use Rattle.mm_step.specs.declared.reply.Reply.TheVariants as reply
use Rattle.mm_step.specs.Calls.{Calls}
use Rattle.mm_step.specs.Effects.{Effect, Meets, effect_in, ended, outcome, with_puts, add_put}

-- The line has had its effect over some map: over the files' own, where they tell it.
pub record HasRun {F : Type 0} (fs : FilesOf F) (effect : Map → Effect) (before : State) (old : F) (reply : Reply) (after : State) (new : F) : Type 0 where
  pub map : Map
  pub same : IsTrue (fs.tells new) → map ≡ fs.lookup old
  pub meets : Meets (effect map) before reply after
  pub files : IsTrue (fs.tells new) → fs.lookup new ≡ with_puts (fs.lookup old) (add_put (ended (outcome reply) before (effect map)).put [])
  pub number : Calls fs old new (effect map).reaches_files reply

-- a text and a change that is still to be made, or the reply of a command that changes nothing
abbrev pub Told : Type 0
Told = Result (List ℕ × Change) Reply

abbrev pub reply_in : Told → Reply
reply_in (Ok told) = reply.Done told.0 false
reply_in (Err r) = r

abbrev pub state_in : Told → State → State
state_in (Ok told) s = apply_change told.1 s
state_in (Err r) s = s

-- A plan is carried out, but for its change.
abbrev pub Performs : {F : Type 0} (fs : FilesOf F) (plan : Plan) (old : F) (told : Told) (new : F) → Type 0
Performs fs plan old told new = (s : State) → HasRun fs (effect_in plan s) s old (reply_in told) (state_in told s) new

-- A refusal is told, unless there was no memory.
abbrev pub Refuses : Refusal → Reply → Type 0
Refuses OutOfMemory r = r ≡ reply.Starved
Refuses refusal (reply.Done text refused) = (text ≡ refusal_text refusal) × (refused ≡ true)
Refuses refusal reply.Starved = refusal_takes refusal ≡ true
Refuses refusal reply.Faulted = ⊥

-- The reply, and the state after it, are those of this answer, unless there was no memory.
abbrev pub Replies : Answer → State → Reply → State → Type 0
Replies a before (reply.Done text refused) new = (text ≡ answer_text a) × (refused ≡ is_err a) × (new ≡ state_after a before)
Replies a before reply.Starved new = (new ≡ before) × (takes a ≡ true)
Replies a before reply.Faulted new = ⊥

-- the same, but for its change
abbrev pub Tells : Answer → Told → Type 0
Tells a told = (s : State) → Replies a s (reply_in told) (state_in told s)
