-- What recorders have heard of what a session says.
use Rattle.std.specs.Prelude.{◌≡◌, ℕ, Bool, true, false, List, [], ◌∷◌, if◌then◌else◌}
use Rattle.std.specs.List.{All}
use Rattle.std.specs.declared.alloc.Global.{Global}
use Rattle.std.specs.declared.dyn_box.DynBox.{DynBox}
use Rattle.mm_base.specs.Recorder.{Log, CallsMany, begun_with, heard_where}
use Rattle.mm_base.specs.Sink.{Gains}
use Rattle.mm_base.specs.declared.recorder.Recorder.{Ghosts as RecorderGhosts}
use Rattle.mm_base.specs.declared.recorders.Recorders.{Recorders}
use Rattle.mm_base.specs.declared.sink.Sink.{Ghosts as SinkOf}
use Rattle.mm_session.specs.Logs.{Event, Says, Opens, Closes, bytes_of}

-- ## Recorders

-- what is told of recorders
pub record RecorderOf (R : Type 0) : Type 0 where
  pub tells : R → Bool
  pub logs : R → List Log
  pub faults : R → ℕ

-- the recorders of a session, and whether a log is open
pub record Recording (R : Type 0) : Type 0 where
  pub live : List R
  pub lost : List R
  pub begun : Bool

-- those of boxed recorders
abbrev pub telling : {I A : Type 0} {D : I → Type 0} → ((x : I) → RecorderGhosts (D x)) → RecorderOf (DynBox I A D)
telling dyn = record { tells = λ r. (dyn r.vtable).tells r.value; logs = λ r. (dyn r.vtable).logs r.value; faults = λ r. (dyn r.vtable).faults r.value }

abbrev pub recording : {I : Type 0} {D : I → Type 0} → Recorders I D → Recording (DynBox I Global D)
recording r = record { live = r.live.items; lost = r.lost.items; begun = r.begun }

-- A log is begun on each live recorder where one is open, and on none where none is.
abbrev pub AreReady : {I : Type 0} {D : I → Type 0} → ((x : I) → RecorderGhosts (D x)) → Recorders I D → Type 0
AreReady dyn r = All (λ b. (dyn b.vtable).is_begun b.value ≡ r.begun) r.live.items

-- ## What they hear

-- whether a log is open after events
abbrev pub open_after : Bool → List Event → Bool
open_after is_open [] = is_open
open_after is_open (Says piece ∷ events) = open_after is_open events
open_after is_open (Opens name ∷ events) = open_after true events
open_after is_open (Closes ∷ events) = open_after false events

-- a recorder's logs after events
abbrev pub logs_after : Bool → List Event → List Log → List Log
logs_after is_open [] logs = logs
logs_after is_open (Says piece ∷ events) logs = logs_after is_open events (heard_where is_open piece logs)
logs_after is_open (Opens name ∷ events) logs = logs_after true events (begun_with name logs)
logs_after is_open (Closes ∷ events) logs = logs_after false events logs

-- Each recorder has heard the events and is live; or it has failed, with a part of them.
pub record Hears {R : Type 0} (rc : RecorderOf R) (old new : Recording R) (events : List Event) : Type 0 where
  pub begun : new.begun ≡ open_after old.begun events
  pub many : CallsMany rc.tells rc.logs rc.faults (λ logs. logs_after old.begun events logs) old.live old.lost new.live new.lost

-- The screen has gained the bytes of the events, and the recorders have heard them.
pub record Shows {K R : Type 0} (sk : SinkOf K) (rc : RecorderOf R) (old : K) (from : Recording R) (new : K) (to : Recording R) (events : List Event) : Type 0 where
  pub gained : Gains sk.tells sk.held old new (bytes_of events)
  pub heard : Hears rc from to events

-- where a command closes a log, and where it opens one of this name
abbrev pub closing : Bool → List Event
closing closes = if closes then Closes ∷ [] else []

abbrev pub opening : Bool → List ℕ → List Event
opening opens name = if opens then Opens name ∷ [] else []
