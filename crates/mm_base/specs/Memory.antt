-- What the kinds in memory hold.
use Rattle.std.specs.Prelude.{◌≡◌, ◌+◌, ◌<◌, ◌↔◌, ℕ, Bool, true, false, IsTrue, ◌&&◌, nat_lt, nat_le, if◌then◌else◌, min, List, ◌++◌, take, length, Contains, Option, option_map, find}
use Rattle.std.specs.Str.{bytes_eq}
use Rattle.mm_base.specs.Recorder.{HasFailed, HasHeard, Log, begun_with, heard_with}

pub record NamedFile : Type 0 where
  pub name : List ℕ
  pub bytes : List ℕ

-- the bytes of the first file of that name
abbrev pub find_file : List NamedFile → List ℕ → Option (List ℕ)
find_file files name = option_map (λ (f : NamedFile). f.bytes) (find (λ (f : NamedFile). bytes_eq f.name name) files)

-- how many calls were made, up to the greatest u64, the numbers of those that fail, and how many failed
pub record CallCount : Type 0 where
  pub made : ℕ
  pub failing : List ℕ
  pub faults : ℕ

-- the count of faults behind a call, which stops at the greatest u64
abbrev pub faults_after : Bool → ℕ → ℕ
faults_after true faults = if nat_lt faults 18446744073709551615 then faults + 1 else faults
faults_after false faults = faults

-- One more call was made. It failed exactly where it has a number and that is among the failing ones.
pub record CountsCall (old new : CallCount) (failed : Bool) : Type 0 where
  pub made : new.made ≡ min (old.made + 1) 18446744073709551615
  pub failing : new.failing ≡ old.failing
  pub fails : IsTrue failed ↔ ((old.made < 18446744073709551615) × Contains old.failing (old.made + 1))
  pub faults : new.faults ≡ faults_after failed old.faults

-- the bytes that a sink keeps, the room for them, and whether they are all that it took
pub record Kept : Type 0 where
  pub bytes : List ℕ
  pub room : ℕ
  pub told : Bool

-- what is kept once a piece is taken: as much of it as there is room for
abbrev pub kept_with : List ℕ → Kept → Kept
kept_with piece old = record {
  bytes = take old.room (old.bytes ++ piece);
  room = old.room;
  told = old.told && nat_le (length (old.bytes ++ piece)) old.room;
}

-- the value of a `MemSink`
pub record SinkState : Type 0 where
  pub kept : Kept
  pub calls : CallCount

-- the value of a `MemSource`
pub record SourceState : Type 0 where
  pub left : List ℕ
  pub calls : CallCount

-- the value of a `MemFiles`
pub record FilesState : Type 0 where
  pub files : List NamedFile
  pub calls : CallCount

-- the value of a `SureFiles`: its files, and how many calls were made, up to the greatest u64
pub record SureState : Type 0 where
  pub files : List NamedFile
  pub made : ℕ

-- ## A recorder in memory

-- the logs that are kept, how many bytes their names and bytes have, the room for both, and whether they are all
pub record KeptLogs : Type 0 where
  pub logs : List Log
  pub used : ℕ
  pub pairs : ℕ
  pub room : ℕ
  pub told : Bool

-- whether there is room for one log more, of this name
abbrev pub has_room_for_log : KeptLogs → List ℕ → Bool
has_room_for_log old name = old.told && nat_lt (length old.logs) old.pairs && nat_le (old.used + length name) old.room

-- whether there is room for a piece more
abbrev pub has_room_for_piece : KeptLogs → List ℕ → Bool
has_room_for_piece old piece = old.told && nat_le (old.used + length piece) old.room

-- what is kept once a log is begun
abbrev pub kept_begun : List ℕ → KeptLogs → KeptLogs
kept_begun name old =
    if has_room_for_log old name then record old { logs = begun_with name old.logs; used = old.used + length name }
    else record old { told = false }

-- what is kept once a piece is heard
abbrev pub kept_heard : List ℕ → KeptLogs → KeptLogs
kept_heard piece old =
    if has_room_for_piece old piece then record old { logs = heard_with piece old.logs; used = old.used + length piece }
    else record old { told = false }

-- the value of a `MemRecorder`
pub record RecorderState : Type 0 where
  pub kept : KeptLogs
  pub begun : Bool
  pub calls : CallCount

-- it has heard all, or has failed and heard a part
abbrev pub MemoryHeard : (List Log → List Log) → RecorderState → RecorderState → Type 0
MemoryHeard after old new = HasHeard (λ (r : RecorderState). r.kept.told) (λ (r : RecorderState). r.kept.logs) (λ (r : RecorderState). r.calls.faults) after old new

abbrev pub MemoryFailed : (List Log → List Log) → RecorderState → RecorderState → Type 0
MemoryFailed after old new = HasFailed (λ (r : RecorderState). r.kept.told) (λ (r : RecorderState). r.kept.logs) (λ (r : RecorderState). r.calls.faults) after old new
