-- What one line does, and how it may end.
use Rattle.std.specs.Prelude.{◌≡◌, not, is_err, ℕ, Bool, true, false, List, [], ◌∷◌, Option, Some, None, Err}
use Rattle.mm_base.specs.Files.{Map, put}
use Rattle.mm_command.specs.Meanings.{Meaning}
use Rattle.mm_shell.specs.Actions.{Plan, answer_in, plan_takes, put_by, reaches, without_files}
use Rattle.mm_shell.specs.Answers.{Answer}
use Rattle.mm_shell.specs.Changes.{state_after}
use Rattle.mm_shell.specs.Texts.{text_of as answer_text, refusal_text}
use Rattle.mm_shell.specs.declared.state.State.{State}
use Rattle.mm_shell.specs.declared.refusal.Refusal.{Refusal}
use Rattle.mm_shell.specs.declared.refusal.Refusal.TheVariants.{WrongWord, LineTooLong, FileFault, OutOfMemory}
use Rattle.mm_database_commands.specs.Commands.{database_plan}
use Rattle.mm_setting_commands.specs.Commands.{setting_answer}
use Rattle.mm_edit_commands.specs.Edits.{edit_answer}
use Rattle.mm_proof_commands.specs.Commands.{proof_answer}
use Rattle.mm_step.specs.Asked.{Asked, TooLong, Wrong, Asks, asked_of}
use Rattle.mm_step.specs.Groups.{group_of}
use Rattle.mm_step.specs.declared.group.Group.{Group}
use Rattle.mm_step.specs.declared.group.Group.TheVariants as group
use Rattle.mm_step.specs.declared.reply.Reply.{Reply}
use Rattle.mm_step.specs.declared.reply.Reply.TheVariants as reply

-- ## The plan of a line

-- a command of a group
abbrev pub plan_in : Group → Meaning → State → Plan
plan_in group.Database m s = database_plan m s
plan_in group.Settings m s = without_files (setting_answer m s)
plan_in group.Edits m s = without_files (edit_answer m s)
plan_in group.Session m s = without_files (proof_answer m s)

unfoldable pub command_plan : Meaning → State → Plan
command_plan m s = plan_in (group_of m) m s

abbrev pub plan_of : Asked → State → Plan
plan_of TooLong s = Err LineTooLong
plan_of (Wrong fault) s = Err (WrongWord fault)
plan_of (Asks m) s = command_plan m s

-- ## Its effect

pub record Effect : Type 0 where
  pub answer : Answer
  pub text : List ℕ
  -- whether the text is that of a refusal
  pub refused : Bool
  -- the state after it
  pub state : State
  -- the name and the bytes that it puts into the files
  pub put : Option (List ℕ × List ℕ)
  -- whether it makes a call on the files
  pub reaches_files : Bool
  -- whether it takes no memory
  pub free : Bool

abbrev pub effect_by : Answer → State → Option (List ℕ × List ℕ) → Bool → Bool → Effect
effect_by a s puts reaches takes = record { answer = a; text = answer_text a; refused = is_err a; state = state_after a s; put = puts; reaches_files = reaches; free = not takes }

-- over files with a map from names to bytes
abbrev pub effect_in : Plan → State → Map → Effect
effect_in plan s map = effect_by (answer_in plan map) s (put_by plan) (reaches plan) (plan_takes plan)

abbrev pub asked_effect : Asked → State → Map → Effect
asked_effect asked s map = effect_in (plan_of asked s) s map

-- what a line does
unfoldable pub step_of : State → Map → List ℕ → Effect
step_of state map line = asked_effect (asked_of line) state map

-- ## How it ends

-- as it should, out of memory, or by a call on the files that failed
pub data Outcome : Type 0 where
  Fine : Outcome
  Starved : Outcome
  Faulted : Outcome

-- a line that gives up leaves the state and the files as they were
abbrev pub given_up : Refusal → State → Effect → Effect
given_up refusal state effect = record { answer = Err refusal; text = refusal_text refusal; refused = true; state = state; put = None; reaches_files = effect.reaches_files; free = effect.free }

abbrev pub ended : Outcome → State → Effect → Effect
ended Fine state effect = effect
ended Starved state effect = given_up OutOfMemory state effect
ended Faulted state effect = given_up FileFault state effect

-- the map with these pairs of name and bytes put, the first of them last
abbrev pub with_puts : Map → List (List ℕ × List ℕ) → Map
with_puts map [] = map
with_puts map (p ∷ puts) = put (with_puts map puts) p.0 p.1

-- the pairs put, after a line
abbrev pub add_put : Option (List ℕ × List ℕ) → List (List ℕ × List ℕ) → List (List ℕ × List ℕ)
add_put None puts = puts
add_put (Some p) puts = p ∷ puts

-- ## The reply

abbrev pub outcome : Reply → Outcome
outcome (reply.Done text refused) = Fine
outcome reply.Starved = Starved
outcome reply.Faulted = Faulted

abbrev pub is_faulted : Reply → Bool
is_faulted (reply.Done text refused) = false
is_faulted reply.Starved = false
is_faulted reply.Faulted = true

abbrev pub text_of : Reply → List ℕ
text_of (reply.Done text refused) = text
text_of reply.Starved = refusal_text OutOfMemory
text_of reply.Faulted = refusal_text FileFault

abbrev pub is_refused : Reply → Bool
is_refused (reply.Done text refused) = refused
is_refused reply.Starved = true
is_refused reply.Faulted = true

-- The reply, and the state after it, are those of a line with this effect that ends as the reply says.
-- It starves only where the line takes memory, and meets a file fault only where the line reaches the files.
pub record Meets (effect : Effect) (before : State) (reply : Reply) (after : State) : Type 0 where
  pub text : text_of reply ≡ (ended (outcome reply) before effect).text
  pub refused : is_refused reply ≡ (ended (outcome reply) before effect).refused
  pub state : after ≡ (ended (outcome reply) before effect).state
  pub faulted : outcome reply ≡ Faulted → effect.reaches_files ≡ true
  pub starved : outcome reply ≡ Starved → effect.free ≡ false
