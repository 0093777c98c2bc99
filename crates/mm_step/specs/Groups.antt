-- The group of each command.
use Rattle.mm_command.specs.Meanings.{Meaning, Nothing, Read, VerifyProof, VerifyMarkup, ShowStatement, ShowPage, ShowTraceBack, ShowUsage, ShowNewProof, SetUndo, SetTrials, SetBrackets, SetEmpty, WriteSource, OpenLog, CloseLog, Prove, Demo, Exit, Undo, Redo, Save}
use Rattle.mm_step.specs.declared.group.Group.{Group}
use Rattle.mm_step.specs.declared.group.Group.TheVariants.{Database, Settings, Edits, Session}

abbrev pub group_of : Meaning → Group
group_of (Read name) = Database
group_of (VerifyProof pattern) = Database
group_of (VerifyMarkup pattern) = Database
group_of (ShowStatement label) = Database
group_of (ShowPage label) = Database
group_of (ShowTraceBack label axioms) = Database
group_of (ShowUsage label recursive) = Database
group_of (WriteSource name) = Database
group_of (SetUndo n) = Settings
group_of (SetTrials n) = Settings
group_of (SetBrackets on) = Settings
group_of (SetEmpty on) = Settings
group_of (OpenLog name) = Settings
group_of CloseLog = Settings
group_of Nothing = Session
group_of (ShowNewProof unknown) = Session
group_of (Prove label guarded_too) = Session
group_of (Demo n) = Session
group_of Undo = Session
group_of Redo = Session
group_of (Save normal compressed guarded_too) = Session
group_of (Exit force) = Session
-- the others change single steps
group_of _ = Edits
