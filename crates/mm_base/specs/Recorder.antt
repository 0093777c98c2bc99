-- What recorders have heard.
use Rattle.std.specs.Prelude.{◌≡◌, ◌≤◌, ℕ, zero, suc, Bool, true, false, IsTrue, List, [], ◌∷◌, ◌++◌, Option, None, slice_get}
use Rattle.mm_base.specs.Outside.{RoseBy}
use Rattle.mm_base.specs.declared.recorders.Call.{Call}
use Rattle.mm_base.specs.declared.recorders.Call.TheVariants.{Begin, Hear, Finish}

-- a log: its name, and the bytes that were heard while it was open
pub record Log : Type 0 where
  pub name : List ℕ
  pub bytes : List ℕ

-- ## What is heard

-- a new log behind the others
abbrev pub begun_with : List ℕ → List Log → List Log
begun_with name logs = logs ++ record { name = name; bytes = [] } ∷ []

abbrev pub longer : List ℕ → Log → Log
longer piece log = record { name = log.name; bytes = log.bytes ++ piece }

-- the last log with a piece behind its bytes
abbrev pub heard_with : List ℕ → List Log → List Log
heard_with piece [] = []
heard_with piece (log ∷ []) = longer piece log ∷ []
heard_with piece (log ∷ (next ∷ logs)) = log ∷ heard_with piece (next ∷ logs)

-- where a log is open
abbrev pub heard_where : Bool → List ℕ → List Log → List Log
heard_where true piece logs = heard_with piece logs
heard_where false piece logs = logs

-- the log with a number, counted from 1, where the logs are told
abbrev pub log_at : Bool → List Log → ℕ → Option Log
log_at false logs k = None
log_at true logs zero = None
log_at true logs (suc k) = slice_get logs k

-- ## What a part of it is

abbrev pub StartsWith : List ℕ → List ℕ → Type 0
StartsWith whole front = (rest : List ℕ) × (whole ≡ front ++ rest)

-- the first of the logs, of which the last may be cut short
abbrev pub IsPart : List Log → List Log → Type 0
IsPart [] logs = Unit {0}
IsPart (p ∷ part) [] = ⊥
IsPart (p ∷ []) (log ∷ logs) = (p.name ≡ log.name) × StartsWith log.bytes p.bytes
IsPart (p ∷ (q ∷ part)) (log ∷ logs) = (p ≡ log) × IsPart (q ∷ part) logs

-- ## What a recorder does

-- It has heard all, and has not failed: where it tells its logs at the end, it told them before, and they are as this makes them.
pub record HasHeard {R : Type 0} (tells : R → Bool) (logs : R → List Log) (faults : R → ℕ) (after : List Log → List Log) (old new : R) : Type 0 where
  pub told : IsTrue (tells new) → IsTrue (tells old)
  pub whole : IsTrue (tells new) → logs new ≡ after (logs old)
  pub stays : faults new ≡ faults old

-- It has failed, and has heard a part.
pub record HasFailed {R : Type 0} (tells : R → Bool) (logs : R → List Log) (faults : R → ℕ) (after : List Log → List Log) (old new : R) : Type 0 where
  pub told : IsTrue (tells new) → IsTrue (tells old)
  pub grows : IsTrue (tells new) → IsPart (logs old) (logs new)
  pub part : IsTrue (tells new) → IsPart (logs new) (after (logs old))
  pub never_falls : faults old ≤ faults new
  pub rose : RoseBy 1 (faults old) (faults new)

-- ## What a call makes of it

abbrev pub logs_after : Call → List Log → List Log
logs_after (Begin name) logs = begun_with name.now logs
logs_after (Hear piece) logs = heard_with piece.now logs
logs_after Finish logs = logs

-- whether a log is begun before the call
abbrev pub begun_before : Call → Bool
begun_before (Begin name) = false
begun_before call = true

-- whether one is begun after it
abbrev pub begun_after : Call → Bool
begun_after Finish = false
begun_after call = true

-- ## What many do

-- Each recorder either stays or is lost, and both lists keep the order.
pub data SplitInOrder {R : Type 0} (Stays Lost : R → R → Type 0) : List R → List R → List R → Type 0 where
  none_left : SplitInOrder Stays Lost [] [] []
  one_stays : (r now : R) (rs live lost : List R) → Stays r now → SplitInOrder Stays Lost rs live lost → SplitInOrder Stays Lost (r ∷ rs) (now ∷ live) lost
  one_lost : (r now : R) (rs live lost : List R) → Lost r now → SplitInOrder Stays Lost rs live lost → SplitInOrder Stays Lost (r ∷ rs) live (now ∷ lost)

-- A call on each live recorder: those that fail go to the end of the lost ones.
pub record CallsEach {R : Type 0} (tells : R → Bool) (logs : R → List Log) (faults : R → ℕ) (after : List Log → List Log) (live lost live' lost' : List R) : Type 0 where
  pub gone : List R
  pub lost_is : lost' ≡ lost ++ gone
  pub split : SplitInOrder (HasHeard tells logs faults after) (HasFailed tells logs faults after) live live' gone

-- Each recorder either stays or is lost, and those that stay keep the order.
pub data Split {R : Type 0} (Stays Lost : R → R → Type 0) : List R → List R → List R → Type 0 where
  no_one : Split Stays Lost [] [] []
  stays_live : (r now : R) (rs live lost : List R) → Stays r now → Split Stays Lost rs live lost → Split Stays Lost (r ∷ rs) (now ∷ live) lost
  gets_lost : (r now : R) (rs live before after : List R) → Lost r now → Split Stays Lost rs live (before ++ after) → Split Stays Lost (r ∷ rs) live (before ++ now ∷ after)

-- Calls one after another: each recorder has heard all and is live, or it has failed and is lost, with a part.
pub record CallsMany {R : Type 0} (tells : R → Bool) (logs : R → List Log) (faults : R → ℕ) (after : List Log → List Log) (live lost live' lost' : List R) : Type 0 where
  pub gone : List R
  pub lost_is : lost' ≡ lost ++ gone
  pub split : Split (HasHeard tells logs faults after) (HasFailed tells logs faults after) live live' gone

-- Each has heard these logs more, or has failed.
abbrev pub HaveHeard : {R : Type 0} (tells : R → Bool) (logs : R → List Log) (faults : R → ℕ) (more : List Log) (live lost live' lost' : List R) → Type 0
HaveHeard tells logs faults more live lost live' lost' = CallsMany tells logs faults (λ ls. ls ++ more) live lost live' lost'
