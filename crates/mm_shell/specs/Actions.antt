-- What a command does by calls on the files, as data.
use Rattle.std.specs.Prelude.{ℕ, Bool, true, false, List, Option, Some, None, Result, Ok, Err}
use Rattle.mm_shell.specs.Answers.{Answer, takes, refusal_takes}
use Rattle.mm_shell.specs.declared.refusal.Refusal.{Refusal}
use Rattle.mm_shell.specs.declared.answer.Done.{Done}

-- A command makes no call on the files; or it fetches the file with a name, and answers by what is found; or it puts
-- bytes under a name, and then that is done.
pub data Action : Type 0 where
  Does : Done → Action
  Fetches : List ℕ → (Option (List ℕ) → Answer) → Action
  Puts : List ℕ → List ℕ → Done → Action

-- a command is refused before it makes a call, or it has an action
abbrev pub Plan : Type 0
Plan = Result Action Refusal

-- the plan of a command that leaves the files alone
abbrev pub without_files : Answer → Plan
without_files (Ok done) = Ok (Does done)
without_files (Err refusal) = Err refusal

-- the answer of a plan over files that have this map from names to bytes
abbrev pub answer_in : Plan → (List ℕ → Option (List ℕ)) → Answer
answer_in (Ok (Does done)) map = Ok done
answer_in (Ok (Fetches name answer)) map = answer (map name)
answer_in (Ok (Puts name bytes done)) map = Ok done
answer_in (Err refusal) map = Err refusal

-- whether it makes a call
abbrev pub reaches : Plan → Bool
reaches (Ok (Does done)) = false
reaches (Ok (Fetches name answer)) = true
reaches (Ok (Puts name bytes done)) = true
reaches (Err refusal) = false

-- the name and the bytes that it puts
abbrev pub put_by : Plan → Option (List ℕ × List ℕ)
put_by (Ok (Puts name bytes done)) = Some (name, bytes)
put_by plan = None

-- whether there may be no memory for it; a call on the files may find none
abbrev pub plan_takes : Plan → Bool
plan_takes (Ok (Does done)) = takes (Ok done)
plan_takes (Ok action) = true
plan_takes (Err refusal) = refusal_takes refusal

-- where a database may come from: from nowhere, or from a file of these bytes
pub data Origin : Type 0 where
  Nowhere : Origin
  File : List ℕ → Origin

abbrev pub origin_of : Option (List ℕ) → Origin
origin_of None = Nowhere
origin_of (Some bytes) = File bytes

-- that of a plan: the file that it fetches
abbrev pub origin_in : Plan → (List ℕ → Option (List ℕ)) → Origin
origin_in (Ok (Fetches name answer)) map = origin_of (map name)
origin_in plan map = Nowhere
