-- What a command answers, and the words with which its definition is written.
use Rattle.std.specs.Prelude.{◌≡◌, ◌||◌, ℕ, Bool, true, false, List, [], ◌∷◌, Option, Some, None, Result, Ok, Err, is_err, if◌then◌else◌}
use Rattle.mm_shell.specs.declared.refusal.Refusal.{Refusal}
use Rattle.mm_shell.specs.declared.refusal.Refusal.TheVariants.{WrongWord, LineTooLong, NoDatabase, AlreadyRead, ProofOpen, NoProofOpen, NothingToUndo, NothingToRedo, ProofNotSaved, NotWritten, NoLog, FileFault, OutOfMemory, LogKept, NotBuilt}
use Rattle.mm_shell.specs.declared.report.Report.{Report}
use Rattle.mm_shell.specs.declared.report.Report.TheVariants.{Nothing, LogOpened, LogClosed, Counts, Undone, Redone, UndoDepth, Trials, Brackets, NoEmptyStrings}
use Rattle.mm_shell.specs.declared.answer.Change.{Change}
use Rattle.mm_shell.specs.declared.answer.Change.TheVariants.{Stays, Loads, Opens, Saves, SetsUndo}
use Rattle.mm_shell.specs.declared.answer.Done.{Done}

-- why it is refused, or what it reports and changes
abbrev pub Answer : Type 0
Answer = Result Done Refusal

-- ## The words of definitions

-- the refusal of the first row whose test holds; else what follows
unfoldable pub unless : {A : Type 0} → List (Bool × Refusal) → Result A Refusal → Result A Refusal
unless [] r = r
unless (row ∷ rows) r = if row.0 then Err row.1 else unless rows r

-- what follows with what is found, unless that is refused
unfoldable pub given : {A B : Type 0} → Result A Refusal → (A → Result B Refusal) → Result B Refusal
given (Ok a) f = f a
given (Err r) f = Err r

-- what is there, or the refusal
abbrev pub found_or : {A : Type 0} → Option A → Refusal → Result A Refusal
found_or (Some a) r = Ok a
found_or None r = Err r

-- what follows where there is nothing; else the refusal that names it
abbrev pub none_of : {A B : Type 0} → Option A → (A → Refusal) → Result B Refusal → Result B Refusal
none_of (Some a) refuse r = Err (refuse a)
none_of None refuse r = r

-- a lower crate's result, with its fault as a refusal
abbrev pub or_refusal : {A E : Type 0} → Result A E → (E → Refusal) → Result A Refusal
or_refusal (Ok a) refuse = Ok a
or_refusal (Err e) refuse = Err (refuse e)

-- what is done
abbrev pub does : Report → Change → Answer
does report change = Ok (record { report = report; change = change })

abbrev pub reports : Report → Answer
reports report = does report Stays

abbrev pub changes : Change → Answer
changes change = does Nothing change

-- ## Whether there may be no memory for it

-- These take none: their words are fixed, and nothing before them takes memory.
abbrev pub refusal_takes : Refusal → Bool
refusal_takes (WrongWord fault) = false
refusal_takes LineTooLong = false
refusal_takes NoDatabase = false
refusal_takes AlreadyRead = false
refusal_takes ProofOpen = false
refusal_takes NoProofOpen = false
refusal_takes NothingToUndo = false
refusal_takes NothingToRedo = false
refusal_takes ProofNotSaved = false
refusal_takes NotWritten = false
refusal_takes NoLog = false
refusal_takes FileFault = false
refusal_takes LogKept = false
refusal_takes NotBuilt = false
refusal_takes _ = true

abbrev pub report_takes : Report → Bool
report_takes Nothing = false
report_takes LogOpened = false
report_takes LogClosed = false
report_takes (Counts steps unknown pending) = false
report_takes Undone = false
report_takes Redone = false
report_takes (UndoDepth n) = false
report_takes (Trials n) = false
report_takes (Brackets on) = false
report_takes NoEmptyStrings = false
report_takes _ = true

abbrev pub change_takes : Change → Bool
change_takes (Loads bytes) = true
change_takes (Opens p) = true
change_takes (Saves x) = true
change_takes (SetsUndo n) = true
change_takes _ = false

abbrev pub takes : Answer → Bool
takes (Ok done) = report_takes done.report || change_takes done.change
takes (Err refusal) = refusal_takes refusal

-- ## What functions answer

-- A result is this, unless memory ran out.
abbrev pub Gives : {A : Type 0} → Result A Refusal → Result A Refusal → Type 0
Gives meaning (Err OutOfMemory) = Unit {0}
Gives meaning result = result ≡ meaning

-- A result is this answer; memory may run out where the answer takes some.
abbrev pub Answers : Answer → Answer → Type 0
Answers meaning (Err OutOfMemory) = takes meaning ≡ true
Answers meaning result = result ≡ meaning

-- the same, with what was found seen otherwise
abbrev pub seen : {A B : Type 0} → (A → B) → Result A Refusal → Result B Refusal
seen f (Ok a) = Ok (f a)
seen f (Err r) = Err r
