-- What each command on the database means: its refusals in order, and then what it does.
use Rattle.std.specs.Prelude.{◌≡◌, ◌<◌, ◌||◌, ◌&&◌, ◌==◌, IsTrue, is_some, ℕ, Bool, true, false, List, [], ◌∷◌, length, map, filter, Option, Some, None, Result, Ok, Err, if◌then◌else◌}
use Rattle.std.specs.List.{list_any, range_with_len}
use Rattle.mm_base.specs.Name.{is_name_lem}
use Rattle.mm_scope.specs.Contents.{count_kind, labels_of, stated_at}
use Rattle.mm_scope.specs.Databases.{database_of as contents_of}
use Rattle.mm_scope.specs.Events.{Event}
use Rattle.mm_scope.specs.declared.fault.ReadFault.{ReadFault}
use Rattle.mm_scope.specs.declared.fault.ReadFault.TheVariants.{Memory}
use Rattle.mm_stated.specs.declared.statement.Kind.TheVariants.{Axiom, Theorem}
use Rattle.mm_stack.specs.Accepting.{verdict_of}
use Rattle.mm_plain.specs.Labels.{label_at}
use Rattle.mm_trace.specs.Patterns.{matches}
use Rattle.mm_trace.specs.Uses.{axioms, depended_on, dependents, users}
use Rattle.mm_command.specs.Meanings as meaning
use Rattle.mm_command.specs.Meanings.{Meaning}
use Rattle.mm_shell.specs.Actions.{Action, Does, Fetches, Puts, Plan, plan_takes, without_files}
use Rattle.mm_shell.specs.Answers.{Answer, unless, given, found_or, or_refusal, reports}
use Rattle.mm_shell.specs.Finding.{database_of, is_theorem, statement_named, theorem_named}
use Rattle.mm_shell.specs.declared.checks.Check.{Check}
use Rattle.mm_shell.specs.declared.state.State.{State}
use Rattle.mm_shell.specs.declared.answer.Change.TheVariants.{Loads, Stays, Writes}
use Rattle.mm_shell.specs.declared.answer.Done.{Done}
use Rattle.mm_shell.specs.declared.refusal.Refusal.{Refusal}
use Rattle.mm_shell.specs.declared.refusal.Refusal.TheVariants.{AlreadyRead, NoFile, BadDatabase, ProofOpen, OutOfMemory, NotBuilt}
use Rattle.mm_shell.specs.declared.report.Report.{Report}
use Rattle.mm_shell.specs.declared.report.Report.TheVariants.{Listed, Loaded, Verified, Wrote}
use Rattle.mm_database_commands.specs.declared.call.Call.{Call}
use Rattle.mm_database_commands.specs.declared.call.Call.TheVariants as call

-- ## READ

abbrev pub loading : List ℕ → Done
loading bytes = record { report = Loaded (length (labels_of bytes)) (count_kind Axiom bytes) (count_kind Theorem bytes); change = Loads bytes }

-- by what is found under the name
abbrev pub loaded : List ℕ → Option (List ℕ) → Answer
loaded name found =
    given (found_or found (NoFile name)) (λ bytes.
    given (or_refusal (contents_of bytes) BadDatabase) (λ events. Ok (loading bytes)))

abbrev pub read : State → List ℕ → Plan
read s name =
    unless (
    (is_some s.open_proof, ProofOpen)
    ∷ (is_some s.database, AlreadyRead)
    ∷ [])
    (Ok (Fetches name (loaded name)))

-- ## VERIFY PROOF

-- '*', '?' or ','
abbrev pub is_pattern_byte : ℕ → Bool
is_pattern_byte b = b == 42 || (b == 63 || b == 44)

-- whether a word may stand for several labels
abbrev pub is_pattern : List ℕ → Bool
is_pattern word = list_any is_pattern_byte word

-- whether a statement is a theorem whose label a pattern matches
abbrev pub is_meant : List ℕ → List ℕ → ℕ → Bool
is_meant bytes pattern id = is_theorem (stated_at bytes id).kind && matches pattern (label_at bytes id)

-- those theorems, in order
abbrev pub theorems_matched : List ℕ → List ℕ → List ℕ
theorems_matched bytes pattern = filter (is_meant bytes pattern) (range_with_len 0 (length (labels_of bytes)))

-- the theorems that a word means: those that a pattern matches, or the one with a label
abbrev pub theorems_meant : List ℕ → List ℕ → Result (List ℕ) Refusal
theorems_meant bytes word = if is_pattern word then Ok (theorems_matched bytes word) else given (theorem_named bytes word) (λ id. Ok (id ∷ []))

abbrev pub check_of : List ℕ → ℕ → Check
check_of bytes id = record { theorem = record { 0 = id }; verdict = verdict_of bytes id }

-- what becomes of the proofs of theorems
abbrev pub checked : List ℕ → List ℕ → List Check
checked bytes ids = map (check_of bytes) ids

abbrev pub verify : State → List ℕ → Answer
verify s word =
    given (database_of s) (λ bytes.
    given (theorems_meant bytes word) (λ ids.
    reports (Verified bytes (checked bytes ids))))

-- ## SHOW TRACE_BACK and SHOW USAGE

-- what is done where statements are listed
abbrev pub listing : List ℕ → List ℕ → Done
listing bytes ids = record { report = Listed bytes ids; change = Stays }

-- the statements on which one depends, or the axioms among them
abbrev pub traced : List ℕ → Bool → ℕ → List ℕ
traced bytes only_axioms id = if only_axioms then axioms bytes id else depended_on bytes id

abbrev pub trace_back : State → List ℕ → Bool → Answer
trace_back s label only_axioms =
    given (database_of s) (λ bytes.
    given (statement_named bytes label) (λ id.
    Ok (listing bytes (traced bytes only_axioms id))))

-- the statements that use one, or that depend on it
abbrev pub served : List ℕ → Bool → ℕ → List ℕ
served bytes recursive id = if recursive then dependents bytes id else users bytes id

abbrev pub usage : State → List ℕ → Bool → Answer
usage s label recursive =
    given (database_of s) (λ bytes.
    given (statement_named bytes label) (λ id.
    Ok (listing bytes (served bytes recursive id))))

-- ## WRITE SOURCE

-- what is done where a database is written
abbrev pub writing : Report → Done
writing report = record { report = report; change = Writes }

abbrev pub write : State → List ℕ → Plan
write s name = given (database_of s) (λ bytes. Ok (Puts name bytes (writing (Wrote name))))

-- ## All of them

unfoldable pub database_plan : Meaning → State → Plan
database_plan (meaning.Read name) s = read s name
database_plan (meaning.VerifyProof pattern) s = without_files (verify s pattern)
database_plan (meaning.ShowTraceBack label axioms) s = without_files (trace_back s label axioms)
database_plan (meaning.ShowUsage label recursive) s = without_files (usage s label recursive)
database_plan (meaning.WriteSource name) s = write s name
database_plan _ s = Err NotBuilt

-- ## What their functions answer

-- out of memory is no fault of the file
abbrev pub read_refusal : ReadFault → Refusal
read_refusal Memory = OutOfMemory
read_refusal fault = BadDatabase fault

abbrev pub action_of : Call → Action
action_of (call.Does done) = Does done
action_of (call.Loads name) = Fetches name (loaded name)
action_of (call.Puts name bytes report) = Puts name bytes (writing report)

-- numbers of theorems of a database
pub record IsTheorem (bytes : List ℕ) (id : ℕ) : Type 0 where
  pub own : id < length (labels_of bytes)
  pub kind : (stated_at bytes id).kind ≡ Theorem

-- A result is this plan; memory may run out where the plan takes some.
abbrev pub Plans : Plan → Result Call Refusal → Type 0
Plans meaning (Ok call) = Ok (action_of call) ≡ meaning
Plans meaning (Err OutOfMemory) = plan_takes meaning ≡ true
Plans meaning (Err r) = Err r ≡ meaning

-- WRITE SOURCE has a name of a file, and no other command needs one
abbrev pub HasName : Meaning → Type 0
HasName (meaning.WriteSource name) = IsTrue (is_name_lem name)
HasName _ = Unit {0}

-- what is put under a name that a file may have
abbrev pub PutsUnderName : Result Call Refusal → Type 0
PutsUnderName (Ok (call.Puts name bytes report)) = IsTrue (is_name_lem name)
PutsUnderName result = Unit {0}
