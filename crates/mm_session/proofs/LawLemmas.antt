-- What the answers of the session machine mean.
use Rattle.std.proofs.Common.{◌≡◌, ℕ, Bool, true, false, is_some, is_ok, is_err, not, List, [], ◌∷◌, Option, Some, None, Result, Ok, Err, refl, sym, ◌∙◌, ap, subst, if◌then◌else◌}
use Rattle.std.proofs.lemmas.List.Elements.{All-contains}
use Rattle.mm_base.specs.Files.{Map}
use Rattle.mm_plain.proofs.Labels.{has_label}
use Rattle.mm_scope.specs.Contents.{is_read, stated_at}
use Rattle.mm_scope.specs.Databases.{database_of as contents_of}
use Rattle.mm_scope.specs.Events.{Event}
use Rattle.mm_scope.specs.declared.fault.ReadFault.{ReadFault}
use Rattle.mm_stated.specs.declared.statement.Kind.{Kind}
use Rattle.mm_stack.specs.declared.outcome.Verdict.{Verdict}
use Rattle.mm_stack.specs.Accepting.{Accepts}
use Rattle.mm_command.specs.Meanings.{Read, VerifyProof}
use Rattle.mm_shell.specs.Actions.{Fetches, answer_in, without_files}
use Rattle.mm_shell.specs.Answers.{Answer, unless, given, found_or, or_refusal, reports}
use Rattle.mm_shell.specs.Changes.{state_after}
use Rattle.mm_shell.specs.Fitting.{AreChecked, IsChecked}
use Rattle.mm_shell.specs.OpenProofs.{ProofState}
use Rattle.mm_shell.specs.declared.state.State.{State}
use Rattle.mm_shell.specs.declared.report.Report.TheVariants.{Verified}
use Rattle.mm_shell.specs.declared.refusal.Refusal.{Refusal}
use Rattle.mm_shell.specs.declared.refusal.Refusal.TheVariants.{AlreadyRead, BadDatabase, NoDatabase, NoStatement, NotTheorem, ProofOpen}
use Rattle.mm_shell.specs.Finding.{is_theorem, theorem_named}
use Rattle.mm_database_commands.specs.Commands.{checked, database_plan, is_pattern, loaded, loading, theorems_matched, theorems_meant, verify}
use Rattle.mm_step.specs.Asked.{Asked, Asks, asked_of}
use Rattle.mm_step.specs.Effects.{asked_effect, command_plan, step_of}
use Rattle.mm_step.proofs.LawLemmas.{reports_hold}
use Rattle.mm_session.specs.Session.{Turn, turn}
use Rattle.mm_session.specs.Laws.{accepted_check, SaysAccepted, AcceptedIsSaid, ReadIsWhole}
use Rattle.mm_session.proofs.SoundLemmas.{session_is_sound, database_is_sound}

-- ## What is reported of proofs

pub says_accepted : SaysAccepted
unfolding step_of
says_accepted s n bytes checks change check e among accepted =
    let t : Turn = turn s n in
    let v : AreChecked t.machine.state.database bytes checks = reports_hold (asked_of t.line) t.machine.state t.map (record { report = Verified bytes checks; change = change }) (session_is_sound s n) e in
    let c : IsChecked bytes check = All-contains (IsChecked bytes) checks check v.each among in
    (v.here, record { id = check.theorem.0; read = database_is_sound s n bytes v.here; found = (has_label bytes check.theorem.0 c.own).found; theorem = c.theorem; accepted = sym c.is ∙ accepted })

-- the answer to VERIFY PROOF, where the label's theorem is accepted
verify_says : (s : State) (bytes label : List ℕ) → is_pattern label ≡ false → s.database ≡ Some bytes → (a : Accepts bytes label) → verify s label ≡ reports (Verified bytes (accepted_check a.id ∷ []))
unfolding unless given
verify_says s bytes label plain here a =
    let say : List ℕ → List ℕ → Answer = λ b ids. reports (Verified b (checked b ids)) in
    let alone : ℕ → Result (List ℕ) Refusal = λ id. Ok (id ∷ []) in
    let named : List ℕ → Option ℕ → Answer = λ b found. given (given (given (found_or found (NoStatement label)) (λ id. unless ((not (is_theorem (stated_at b id).kind), NotTheorem label) ∷ []) (Ok id))) alone) (say b) in
    ap (λ (d : Option (List ℕ)). given (found_or d NoDatabase) (λ b. given (theorems_meant b label) (say b))) here
    ∙ (ap (λ (p : Bool). given (if p then Ok (theorems_matched bytes label) else given (theorem_named bytes label) alone) (say bytes)) plain
    ∙ (ap (named bytes) a.found
    ∙ (ap (λ (k : Kind). given (given (unless ((not (is_theorem k), NotTheorem label) ∷ []) (Ok a.id)) alone) (say bytes)) a.theorem
    ∙ ap (λ (v : Verdict). reports (Verified bytes (record { theorem = record { 0 = a.id }; verdict = v } ∷ []))) a.accepted)))

-- the answer of what leaves the files alone
apart_says : (a : Answer) (map : Map) → answer_in (without_files a) map ≡ a
apart_says (Ok done) map = refl
apart_says (Err r) map = refl

asked_says : (asked : Asked) (s : State) (map : Map) (bytes label : List ℕ) → asked ≡ Asks (VerifyProof label) → is_pattern label ≡ false → s.database ≡ Some bytes → (a : Accepts bytes label)
    → (asked_effect asked s map).answer ≡ reports (Verified bytes (accepted_check a.id ∷ []))
unfolding command_plan database_plan
asked_says asked s map bytes label is plain here a =
    ap (λ (x : Asked). (asked_effect x s map).answer) is ∙ (apart_says (verify s label) map ∙ verify_says s bytes label plain here a)

pub accepted_is_said : AcceptedIsSaid
unfolding step_of
accepted_is_said s n bytes label a = let t : Turn = turn s n in asked_says (asked_of t.line) t.machine.state t.map bytes label a.asked a.plain a.database a.accepts

-- ## What READ puts into the state

record Whole (s : State) (a : Answer) (found : Option (List ℕ)) : Type 0 where
  bytes : List ℕ
  under : found ≡ Some bytes
  sound : is_read bytes ≡ true
  database : (state_after a s).database ≡ Some bytes

bytes_whole : (s : State) (bytes : List ℕ) (r : Result (List Event) ReadFault) → contents_of bytes ≡ r → is_err (given (or_refusal r BadDatabase) (λ events. (let a : Answer = Ok (loading bytes) in a))) ≡ false
    → Whole s (given (or_refusal r BadDatabase) (λ events. (let a : Answer = Ok (loading bytes) in a))) (Some bytes)
unfolding given is_read
bytes_whole s bytes (Ok past) is e = record { bytes = bytes; under = refl; sound = ap is_ok is; database = refl }
bytes_whole s bytes (Err f) is e = let no : true ≡ false = e in cc

found_whole : (s : State) (name : List ℕ) (found : Option (List ℕ)) → is_err (loaded name found) ≡ false → Whole s (loaded name found) found
unfolding given
found_whole s name None e = let no : true ≡ false = e in cc
found_whole s name (Some bytes) e = bytes_whole s bytes (contents_of bytes) refl e

read_whole : (s : State) (p : Option ProofState) (d : Option (List ℕ)) (map : Map) (name : List ℕ) → is_err (answer_in (unless ((is_some p, ProofOpen) ∷ (is_some d, AlreadyRead) ∷ []) (Ok (Fetches name (loaded name)))) map) ≡ false
    → Whole s (answer_in (unless ((is_some p, ProofOpen) ∷ (is_some d, AlreadyRead) ∷ []) (Ok (Fetches name (loaded name)))) map) (map name)
unfolding unless
read_whole s (Some p) d map name e = let no : true ≡ false = e in cc
read_whole s None (Some bytes) map name e = let no : true ≡ false = e in cc
read_whole s None None map name e = found_whole s name (map name) e

asked_whole : (asked : Asked) (s : State) (map : Map) (name : List ℕ) → asked ≡ Asks (Read name) → (asked_effect asked s map).refused ≡ false → Whole s (asked_effect asked s map).answer (map name)
unfolding command_plan database_plan
asked_whole asked s map name is e =
    subst (λ (x : Asked). Whole s (asked_effect x s map).answer (map name)) (sym is)
    (read_whole s s.open_proof s.database map name (sym (ap (λ (x : Asked). (asked_effect x s map).refused) is) ∙ e))

pub read_is_whole : ReadIsWhole
unfolding step_of
read_is_whole s n name asked e =
    let t : Turn = turn s n in
    let w = asked_whole (asked_of t.line) t.machine.state t.map name asked e in
    record { bytes = w.bytes; found = w.under; sound = w.sound; database = w.database }
