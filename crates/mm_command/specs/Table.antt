-- The table of commands.
use Rattle.std.specs.Prelude.{ℕ, Bool, true, ◌==◌, Result, Ok, if◌then◌else◌, List, [], ◌∷◌, None, Some, codes}
use Rattle.std.specs.List.{fold}
use Rattle.mm_command.specs.declared.fault.LineFault.{LineFault}
use Rattle.mm_command.specs.Limits.{most_choice, most_demo, most_depth, most_trials, most_undo}
use Rattle.mm_command.specs.Words.{past_blanks, pieces_of}
use Rattle.mm_command.specs.Names.{Name, Nothing, Read, VerifyProof, VerifyMarkup, ShowStatement, ShowTraceBack, ShowUsage, ShowNewProof, SetUndo, SetTrials, SetBrackets, SetEmpty, WriteSource, OpenLog, CloseLog, Prove, Demo, Exit, Assign, Replace, LetVariable, LetStep, UnifyStep, UnifyAll, InitializeStep, InitializeAll, DeleteStep, DeleteAll, DeleteFloats, Improve, Minimize, Undo, Redo, Save}
use Rattle.mm_command.specs.Grammar.{Place, Label, File, Text, EqualsSign, WorkVariable, Step, StepOrAll, OnOrOff, OffAlone, Number, Qualifier, Row, Said, rows_behind, rows_said}

-- a qualifier by itself, and one with a value
abbrev pub flag : List ℕ → ℕ → Qualifier
flag keyword group = record { keyword = keyword; value = None; group = group }

abbrev pub with_value : List ℕ → Place → ℕ → Qualifier
with_value keyword place group = record { keyword = keyword; value = Some place; group = group }

abbrev pub flag_alone : List ℕ → List Qualifier
flag_alone keyword = flag keyword 0 ∷ []

abbrev pub choice_qualifiers : List Qualifier
choice_qualifiers = with_value (codes "CHOICE") (Number 1 most_choice) 0 ∷ []

abbrev pub improve_qualifiers : List Qualifier
improve_qualifiers = with_value (codes "DEPTH") (Number 0 most_depth) 0 ∷ flag (codes "NO_DISTINCT") 1 ∷ []

abbrev pub minimize_qualifiers : List Qualifier
minimize_qualifiers =
    with_value (codes "EXCEPT") Label 0 ∷ with_value (codes "FORBID") Label 1 ∷ with_value (codes "NO_NEW_AXIOMS_FROM") Label 2
    ∷ flag (codes "MAY_GROW") 3 ∷ flag (codes "OVERRIDE") 4 ∷ []

-- the first two are of one group
abbrev pub save_qualifiers : List Qualifier
save_qualifiers = flag (codes "NORMAL") 0 ∷ flag (codes "COMPRESSED") 0 ∷ flag (codes "OVERRIDE") 1 ∷ []

abbrev pub row : Name → List (List ℕ) → List Place → List Qualifier → Row
row name keywords places qualifiers = record { name = name; keywords = keywords; places = places; qualifiers = qualifiers }

unfoldable pub table : List Row
table =
    row Read (codes "READ" ∷ []) (File ∷ []) []
    ∷ row VerifyProof (codes "VERIFY" ∷ codes "PROOF" ∷ []) (Label ∷ []) []
    ∷ row VerifyMarkup (codes "VERIFY" ∷ codes "MARKUP" ∷ []) (Label ∷ []) []
    ∷ row ShowStatement (codes "SHOW" ∷ codes "STATEMENT" ∷ []) (Label ∷ []) (flag_alone (codes "HTML"))
    ∷ row ShowTraceBack (codes "SHOW" ∷ codes "TRACE_BACK" ∷ []) (Label ∷ []) (flag_alone (codes "AXIOMS"))
    ∷ row ShowUsage (codes "SHOW" ∷ codes "USAGE" ∷ []) (Label ∷ []) (flag_alone (codes "RECURSIVE"))
    ∷ row ShowNewProof (codes "SHOW" ∷ codes "NEW_PROOF" ∷ []) [] (flag_alone (codes "UNKNOWN"))
    ∷ row SetUndo (codes "SET" ∷ codes "UNDO" ∷ []) (Number 0 most_undo ∷ []) []
    ∷ row SetTrials (codes "SET" ∷ codes "UNIFICATION_TIMEOUT" ∷ []) (Number 1 most_trials ∷ []) []
    ∷ row SetBrackets (codes "SET" ∷ codes "BRACKETS" ∷ []) (OnOrOff ∷ []) []
    ∷ row SetEmpty (codes "SET" ∷ codes "EMPTY_SUBSTITUTION" ∷ []) (OffAlone ∷ []) []
    ∷ row WriteSource (codes "WRITE" ∷ codes "SOURCE" ∷ []) (File ∷ []) []
    ∷ row OpenLog (codes "OPEN" ∷ codes "LOG" ∷ []) (File ∷ []) []
    ∷ row CloseLog (codes "CLOSE" ∷ codes "LOG" ∷ []) [] []
    ∷ row Prove (codes "PROVE" ∷ []) (Label ∷ []) (flag_alone (codes "OVERRIDE"))
    ∷ row Demo (codes "DEMO" ∷ []) (Number 1 most_demo ∷ []) []
    ∷ row Exit (codes "EXIT" ∷ []) [] (flag_alone (codes "FORCE"))
    ∷ row Exit (codes "QUIT" ∷ []) [] (flag_alone (codes "FORCE"))
    ∷ row Assign (codes "ASSIGN" ∷ []) (Step ∷ Label ∷ []) (flag_alone (codes "OVERRIDE"))
    ∷ row Replace (codes "REPLACE" ∷ []) (Step ∷ Label ∷ []) (flag_alone (codes "OVERRIDE"))
    ∷ row LetVariable (codes "LET" ∷ codes "VARIABLE" ∷ []) (WorkVariable ∷ EqualsSign ∷ Text ∷ []) []
    ∷ row LetStep (codes "LET" ∷ codes "STEP" ∷ []) (Step ∷ EqualsSign ∷ Text ∷ []) []
    ∷ row UnifyStep (codes "UNIFY" ∷ codes "STEP" ∷ []) (Step ∷ []) choice_qualifiers
    ∷ row UnifyAll (codes "UNIFY" ∷ codes "ALL" ∷ []) [] []
    ∷ row InitializeStep (codes "INITIALIZE" ∷ codes "STEP" ∷ []) (Step ∷ []) []
    ∷ row InitializeAll (codes "INITIALIZE" ∷ codes "ALL" ∷ []) [] []
    ∷ row DeleteStep (codes "DELETE" ∷ codes "STEP" ∷ []) (Step ∷ []) []
    ∷ row DeleteAll (codes "DELETE" ∷ codes "ALL" ∷ []) [] []
    ∷ row DeleteFloats (codes "DELETE" ∷ codes "FLOATING_HYPOTHESES" ∷ []) [] []
    ∷ row Improve (codes "IMPROVE" ∷ []) (StepOrAll ∷ []) improve_qualifiers
    ∷ row Minimize (codes "MINIMIZE_WITH" ∷ []) (Label ∷ []) minimize_qualifiers
    ∷ row Undo (codes "UNDO" ∷ []) [] []
    ∷ row Redo (codes "REDO" ∷ []) [] []
    ∷ row Save (codes "SAVE" ∷ codes "NEW_PROOF" ∷ []) [] save_qualifiers
    ∷ []

-- the rows that begin with these keywords, and what they have behind them
abbrev pub rows_after : List (List ℕ) → List Row
rows_after keywords = fold (λ rows keyword. rows_behind (Some keyword) rows) table keywords

-- the line is empty but for blanks, or its first word begins with `!`
abbrev pub is_silent : List ℕ → Bool
is_silent [] = true
is_silent (b ∷ bytes) = b == 33

-- what a line says, or its first word that doesn't fit
unfoldable pub line_said : List ℕ → Result Said LineFault
line_said line =
    if is_silent (past_blanks line) then Ok (record { name = Nothing; values = []; given = [] })
    else rows_said table 1 (pieces_of line)
