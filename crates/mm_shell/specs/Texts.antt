-- The texts of reports and refusals. Each line ends with LF.
use Rattle.std.specs.Prelude.{ℕ, Bool, true, false, ◌==◌, if◌then◌else◌, List, [], ◌∷◌, ◌++◌, codes, Ok, Err}
use Rattle.std.specs.Fmt.{decimal}
use Rattle.mm_command.specs.declared.fault.LineFault.{LineFault}
use Rattle.mm_scope.specs.Faults.{number_of, place_of}
use Rattle.mm_scope.specs.declared.fault.ReadFault.{ReadFault}
use Rattle.mm_shell.specs.Answers.{Answer}
use Rattle.mm_shell.specs.Lines.{counts_text, line_of, numbered}
use Rattle.mm_shell.specs.Listings.{statements_text}
use Rattle.mm_shell.specs.Steps.{steps_text}
use Rattle.mm_shell.specs.Verdicts.{checks_text}
use Rattle.mm_shell.specs.declared.refusal.Refusal.{Refusal}
use Rattle.mm_shell.specs.declared.refusal.Refusal.TheVariants.{WrongWord, LineTooLong, NoDatabase, AlreadyRead, NoFile, BadDatabase, NoStatement, NotTheorem, Guarded, ProofOpen, NoProofOpen, NoTree, TooManySteps, TooDeep, NoStep, StepKnown, StepUnknown, NotEarlier, NotActive, NoUnifier, TooLong, TrialsSpent, LengthSpent, SeveralUnifiers, NotPending, NoChoice, BadSymbol, OccursInValue, NothingChanged, HasWork, NotComplete, NotUnified, NotDistinct, NothingToUndo, NothingToRedo, ProofNotSaved, NotWritten, NoLog, FileFault, OutOfMemory, WorkSpent, LogKept, NotBuilt}
use Rattle.mm_shell.specs.declared.report.Report.{Report}
use Rattle.mm_shell.specs.declared.report.Report.TheVariants.{Nothing, Loaded, Verified, Listed, Steps, Wrote, LogOpened, LogClosed, Counts, Undone, Redone, UndoDepth, Trials, Brackets, NoEmptyStrings, Saved}

-- ## Refusals

-- with the number of the word
unfoldable pub wrong_word_text : LineFault → List ℕ
wrong_word_text fault =
    if fault.number == 1 then numbered 1 (codes "no keyword for word " ++ (decimal fault.word ++ line_of []))
    else if fault.number == 2 then numbered 2 (codes "word " ++ (decimal fault.word ++ line_of (codes " is ambiguous")))
    else numbered 3 (codes "word " ++ (decimal fault.word ++ line_of (codes " is wrong")))

-- with the number of the fault, and its place in bytes, counted from 0
unfoldable pub bad_database_text : ReadFault → List ℕ
bad_database_text fault = numbered 8 (codes "database fault " ++ (decimal (number_of fault) ++ (codes " at byte " ++ (decimal (place_of fault) ++ 10 ∷ []))))

-- with the numbers of a step and of what it has
unfoldable pub counted_text : ℕ → ℕ → ℕ → List ℕ → List ℕ
counted_text n step count what = numbered n (codes "step " ++ (decimal step ++ (codes " has " ++ (decimal count ++ what))))

-- with the number of the word
unfoldable pub bad_symbol_text : ℕ → List ℕ
bad_symbol_text word = numbered 27 (codes "bad symbol " ++ (decimal word ++ line_of (codes " in the text")))

-- with the number of the step and the two variables
unfoldable pub not_distinct_text : ℕ → List ℕ → List ℕ → List ℕ
not_distinct_text step u v = numbered 33 (codes "step " ++ (decimal step ++ (codes " needs " ++ (u ++ (codes " and " ++ (v ++ line_of (codes " distinct")))))))

abbrev pub refusal_text : Refusal → List ℕ
refusal_text (WrongWord fault) = wrong_word_text fault
refusal_text LineTooLong = numbered 4 (line_of (codes "line too long"))
refusal_text NoDatabase = numbered 5 (line_of (codes "no database"))
refusal_text AlreadyRead = numbered 6 (line_of (codes "a database is already read"))
refusal_text (NoFile name) = numbered 7 (codes "no file " ++ line_of name)
refusal_text (BadDatabase fault) = bad_database_text fault
refusal_text (NoStatement label) = numbered 9 (codes "no statement " ++ line_of label)
refusal_text (NotTheorem label) = numbered 10 (label ++ line_of (codes " is not a theorem"))
refusal_text (Guarded label) = numbered 11 (label ++ line_of (codes " is guarded"))
refusal_text ProofOpen = numbered 12 (line_of (codes "a proof is in hand"))
refusal_text NoProofOpen = numbered 13 (line_of (codes "no proof is in hand"))
refusal_text (NoTree label) = numbered 14 (codes "the proof of " ++ (label ++ line_of (codes " has no tree")))
refusal_text TooManySteps = numbered 15 (line_of (codes "more than 1000000 steps"))
refusal_text TooDeep = numbered 16 (line_of (codes "higher than 2000 steps"))
refusal_text NoStep = numbered 17 (line_of (codes "no such step"))
refusal_text (StepKnown step) = numbered 18 (codes "step " ++ (decimal step ++ line_of (codes " is known")))
refusal_text (StepUnknown step) = numbered 19 (codes "step " ++ (decimal step ++ line_of (codes " is unknown")))
refusal_text (NotEarlier label) = numbered 20 (label ++ line_of (codes " is not earlier"))
refusal_text (NotActive label) = numbered 21 (codes "hypothesis " ++ (label ++ line_of (codes " is not active")))
refusal_text (NoUnifier step) = numbered 22 (codes "step " ++ (decimal step ++ line_of (codes " has no unifier")))
refusal_text TooLong = numbered 23 (line_of (codes "limit: length"))
refusal_text (TrialsSpent choices) = choices ++ numbered 23 (line_of (codes "limit: trials"))
refusal_text (LengthSpent choices) = choices ++ numbered 23 (line_of (codes "limit: length"))
refusal_text (SeveralUnifiers choices step count) = choices ++ counted_text 24 step count (line_of (codes " unifiers"))
refusal_text (NotPending step) = numbered 25 (codes "step " ++ (decimal step ++ line_of (codes " is not pending")))
refusal_text (NoChoice step count) = counted_text 26 step count (line_of (codes " choices"))
refusal_text (BadSymbol word) = bad_symbol_text word
refusal_text (OccursInValue number) = numbered 28 (codes "$" ++ (decimal number ++ line_of (codes " occurs in its own value")))
refusal_text NothingChanged = numbered 29 (line_of (codes "nothing changed"))
refusal_text (HasWork step) = numbered 30 (codes "step " ++ (decimal step ++ line_of (codes " has work variables")))
refusal_text NotComplete = numbered 31 (line_of (codes "the proof is not complete"))
refusal_text (NotUnified step) = numbered 32 (codes "step " ++ (decimal step ++ line_of (codes " is not unified")))
refusal_text (NotDistinct step u v) = not_distinct_text step u v
refusal_text NothingToUndo = numbered 34 (line_of (codes "nothing to undo"))
refusal_text NothingToRedo = numbered 35 (line_of (codes "nothing to redo"))
refusal_text ProofNotSaved = numbered 36 (line_of (codes "the proof is not saved"))
refusal_text NotWritten = numbered 37 (line_of (codes "the database is not written"))
refusal_text NoLog = numbered 38 (line_of (codes "no log"))
refusal_text FileFault = numbered 40 (line_of (codes "file fault"))
refusal_text OutOfMemory = numbered 42 (line_of (codes "out of memory"))
refusal_text WorkSpent = numbered 43 (line_of (codes "work variables are spent"))
refusal_text LogKept = numbered 44 (line_of (codes "a log is already kept"))
refusal_text NotBuilt = numbered 60 (line_of (codes "not built yet"))

-- ## Reports

unfoldable pub loaded_text : ℕ → ℕ → ℕ → List ℕ
loaded_text labelled axioms theorems = codes "Read: labelled " ++ (decimal labelled ++ (codes ", axioms " ++ (decimal axioms ++ (codes ", theorems " ++ (decimal theorems ++ (codes "." ++ 10 ∷ []))))))

unfoldable pub wrote_text : List ℕ → List ℕ
wrote_text name = codes "Wrote " ++ (name ++ line_of (codes "."))

-- with a number at its end
unfoldable pub setting_text : List ℕ → ℕ → List ℕ
setting_text words n = words ++ (decimal n ++ line_of (codes "."))

abbrev pub brackets_text : Bool → List ℕ
brackets_text true = line_of (codes "Brackets ON.")
brackets_text false = line_of (codes "Brackets OFF.")

-- by whether some step is unknown
abbrev pub state_word : Bool → List ℕ
state_word true = codes ": incomplete, "
state_word false = codes ": complete, "

unfoldable pub saved_text : List ℕ → Bool → ℕ → List ℕ
saved_text label some_unknown steps = codes "Saved " ++ (label ++ (state_word some_unknown ++ (decimal steps ++ (codes " steps." ++ 10 ∷ []))))

abbrev pub report_text : Report → List ℕ
report_text Nothing = []
report_text (Loaded labelled axioms theorems) = loaded_text labelled axioms theorems
report_text (Verified bytes checks) = checks_text bytes checks
report_text (Listed bytes ids) = statements_text bytes ids
report_text (Steps proof only_unknown) = steps_text proof.0 proof.1 only_unknown
report_text (Wrote name) = wrote_text name
report_text LogOpened = line_of (codes "Log opened.")
report_text LogClosed = line_of (codes "Log closed.")
report_text (Counts steps unknown pending) = counts_text steps unknown pending
report_text Undone = line_of (codes "Undone.")
report_text Redone = line_of (codes "Redone.")
report_text (UndoDepth n) = setting_text (codes "Undo depth ") n
report_text (Trials n) = setting_text (codes "Trials ") n
report_text (Brackets on) = brackets_text on
report_text NoEmptyStrings = line_of (codes "Empty substitution OFF.")
report_text (Saved label some_unknown steps) = saved_text label some_unknown steps

abbrev pub text_of : Answer → List ℕ
text_of (Ok done) = report_text done.report
text_of (Err refusal) = refusal_text refusal
