-- What lines make of the history of the open proof.
use Rattle.std.proofs.Common.{◌≡◌, ◌==◌, ◌≤◌, ◌-◌, ℕ, Bool, true, false, not, is_err, List, [], ◌∷◌, length, Option, None, Some, Result, Ok, Err, refl, sym, ◌∙◌, ap, subst, arith, true≢false}
use Rattle.std.proofs.lemmas.Bool.{eqb-true, eq-eqb}
use Rattle.circular_buffer.proofs.Places.{slice_get-some}
use Rattle.mm_base.specs.Files.{Map}
use Rattle.mm_plain.specs.Shape.{Proof}
use Rattle.mm_command.specs.Meanings as meaning
use Rattle.mm_command.specs.Meanings.{Meaning}
use Rattle.mm_undo.specs.Histories.{IsRedone, IsUndone}
use Rattle.mm_shell.specs.Actions.{Fetches, Plan, answer_in, plan_takes, reaches, without_files}
use Rattle.mm_shell.specs.Answers.{Answer, unless, given, found_or, does}
use Rattle.mm_shell.specs.Changes.{apply_change, proof_after, state_after}
use Rattle.mm_shell.specs.OpenProofs.{ProofState, after_edit, after_redo, after_save, after_undo, lists_in, with_depth}
use Rattle.mm_shell.specs.declared.state.State.{State}
use Rattle.mm_shell.specs.declared.answer.Done.{Done}
use Rattle.mm_shell.specs.declared.answer.Change.{Change}
use Rattle.mm_shell.specs.declared.answer.Change.TheVariants.{Stays, Loads, Opens, Saves, Undoes, Redoes, SetsUndo, SetsTrials, SetsBrackets, Writes, Leaves, OpensLog, ClosesLog, Ends}
use Rattle.mm_shell.specs.declared.refusal.Refusal.{Refusal}
use Rattle.mm_shell.specs.declared.refusal.Refusal.TheVariants.{NoProofOpen, NothingToUndo, NothingToRedo}
use Rattle.mm_shell.specs.declared.report.Report.TheVariants.{Undone, Redone}
use Rattle.mm_shell.proofs.FindLemmas.{proof_found}
use Rattle.mm_shell.proofs.HistoryLemmas.{undo_leads_back, redo_leads_forward}
use Rattle.mm_database_commands.specs.Commands.{database_plan, loaded, trace_back, usage, verify}
use Rattle.mm_setting_commands.specs.Commands.{setting_answer}
use Rattle.mm_edit_commands.specs.Edits.{Edit, counts_of, edit_answer, edit_of}
use Rattle.mm_proof_commands.specs.Commands.{exit_by, proof_answer, prove, redo, save, show_proof, undo}
use Rattle.mm_step.specs.Effects.{Fine, Starved, Faulted, command_plan, plan_in}
use Rattle.mm_step.specs.Groups.{group_of}
use Rattle.mm_step.specs.Histories.{IsAppended, IsCut, IsUntouched, IsMovedIn, IsMoved, IsBegun, HistoriesMove, HistoriesBegin, IsAccepted, UndosAreAccepted, RedosAreAccepted, UndosAreFree, RedosAreFree, UndosLeadBack, RedosLeadForward}
use Rattle.mm_step.specs.declared.group.Group.{Group}
use Rattle.mm_step.specs.declared.group.Group.TheVariants as group

some_same : (p q : ProofState) → (let o : Option ProofState = Some p in o) ≡ Some q → p ≡ q
some_same p q e = cc

no_proof : (q : ProofState) → (let o : Option ProofState = None in o) ≡ Some q → ⊥
no_proof q e = cc

-- ## Changes that leave the history alone

abbrev IsQuiet : Change → Type 0
IsQuiet (Opens p) = ⊥
IsQuiet Undoes = ⊥
IsQuiet Redoes = ⊥
IsQuiet (SetsUndo n) = ⊥
IsQuiet change = Unit {0}

abbrev Quiet : Answer → Type 0
Quiet (Ok done) = IsQuiet done.change
Quiet (Err refusal) = Unit {0}

still : (s : State) (p q : ProofState) → s.open_proof ≡ Some p → s.open_proof ≡ Some q → IsUntouched p q
still s p q was is = let e : q ≡ p = sym (some_same p q (sym was ∙ is)) in record { proof = ap (λ (x : ProofState). x.proof) e; lists = ap (λ (x : ProofState). lists_in x) e }

still_saved : (o : Option ProofState) (p q : ProofState) → o ≡ Some p → proof_after after_save o ≡ Some q → IsUntouched p q
still_saved o p q was is =
    let e : q ≡ after_save p = sym (some_same (after_save p) q (ap (λ (x : Option ProofState). proof_after after_save x) (sym was) ∙ is)) in
    record { proof = ap (λ (x : ProofState). x.proof) e; lists = ap (λ (x : ProofState). lists_in x) e }

quiet_moves : (change : Change) (s : State) (p q : ProofState) → IsQuiet change → s.open_proof ≡ Some p → (apply_change change s).open_proof ≡ Some q → IsUntouched p q
quiet_moves Stays s p q h was is = still s p q was is
quiet_moves (Loads bytes) s p q h was is = still s p q was is
quiet_moves (Opens x) s p q h was is = absurd h
quiet_moves (Saves x) s p q h was is = still_saved s.open_proof p q was is
quiet_moves Undoes s p q h was is = absurd h
quiet_moves Redoes s p q h was is = absurd h
quiet_moves (SetsUndo n) s p q h was is = absurd h
quiet_moves (SetsTrials n) s p q h was is = still s p q was is
quiet_moves (SetsBrackets on) s p q h was is = still s p q was is
quiet_moves Writes s p q h was is = still s p q was is
quiet_moves Leaves s p q h was is = absurd (no_proof q is)
quiet_moves OpensLog s p q h was is = still s p q was is
quiet_moves ClosesLog s p q h was is = still s p q was is
quiet_moves Ends s p q h was is = still s p q was is

answer_moves : (a : Answer) (s : State) (p q : ProofState) → Quiet a → s.open_proof ≡ Some p → (state_after a s).open_proof ≡ Some q → IsUntouched p q
answer_moves (Ok done) s p q h was is = quiet_moves done.change s p q h was is
answer_moves (Err refusal) s p q h was is = still s p q was is

-- where no proof is open, only PROVE opens one
never_opens : (o : Option ProofState) (f : ProofState → ProofState) (q : ProofState) → o ≡ None → proof_after f o ≡ Some q → ⊥
never_opens None f q was is = no_proof q is
never_opens (Some p) f q was is = cc

closed_stays : (s : State) (q : ProofState) → s.open_proof ≡ None → s.open_proof ≡ Some q → ⊥
closed_stays s q was is = no_proof q (sym was ∙ is)

-- what opens is such
abbrev OpensSuch : (ProofState → Type 0) → Change → Type 0
OpensSuch P (Opens p) = P p
OpensSuch P change = Unit {0}

abbrev Such : (ProofState → Type 0) → Answer → Type 0
Such P (Ok done) = OpensSuch P done.change
Such P (Err refusal) = Unit {0}

change_begins : (P : ProofState → Type 0) (change : Change) (s : State) (q : ProofState) → OpensSuch P change → s.open_proof ≡ None → (apply_change change s).open_proof ≡ Some q → P q
change_begins P Stays s q h was is = absurd (closed_stays s q was is)
change_begins P (Loads bytes) s q h was is = absurd (closed_stays s q was is)
change_begins P (Opens x) s q h was is = subst P (some_same x q is) h
change_begins P (Saves x) s q h was is = absurd (never_opens s.open_proof after_save q was is)
change_begins P Undoes s q h was is = absurd (never_opens s.open_proof after_undo q was is)
change_begins P Redoes s q h was is = absurd (never_opens s.open_proof after_redo q was is)
change_begins P (SetsUndo n) s q h was is = absurd (never_opens s.open_proof (with_depth n) q was is)
change_begins P (SetsTrials n) s q h was is = absurd (closed_stays s q was is)
change_begins P (SetsBrackets on) s q h was is = absurd (closed_stays s q was is)
change_begins P Writes s q h was is = absurd (closed_stays s q was is)
change_begins P Leaves s q h was is = absurd (no_proof q is)
change_begins P OpensLog s q h was is = absurd (closed_stays s q was is)
change_begins P ClosesLog s q h was is = absurd (closed_stays s q was is)
change_begins P Ends s q h was is = absurd (closed_stays s q was is)

answer_begins : (P : ProofState → Type 0) (a : Answer) (s : State) (q : ProofState) → Such P a → s.open_proof ≡ None → (state_after a s).open_proof ≡ Some q → P q
answer_begins P (Ok done) s q h was is = change_begins P done.change s q h was is
answer_begins P (Err refusal) s q h was is = absurd (closed_stays s q was is)

-- a quiet answer opens nothing
quiet_such : (P : ProofState → Type 0) (change : Change) → IsQuiet change → OpensSuch P change
quiet_such P (Opens p) h = absurd h
quiet_such P _ h = tt

answer_such : (P : ProofState → Type 0) (a : Answer) → Quiet a → Such P a
answer_such P (Ok done) h = quiet_such P done.change h
answer_such P (Err refusal) h = tt

-- ## Which commands make them

rows_quiet : (rows : List (Bool × Refusal)) (a : Answer) → Quiet a → Quiet (unless rows a)
unfolding unless
rows_quiet [] a h = h
rows_quiet ((true, r) ∷ rows) a h = tt
rows_quiet ((false, r) ∷ rows) a h = rows_quiet rows a h

given_quiet : {A : Type 0} (found : Result A Refusal) (answer : A → Answer) → ((x : A) → Quiet (answer x)) → Quiet (given found answer)
unfolding given
given_quiet (Ok x) answer h = h x
given_quiet (Err r) answer h = tt

rows_apart : (rows : List (Bool × Refusal)) (plan : Plan) (map : Map) → Quiet (answer_in plan map) → Quiet (answer_in (unless rows plan) map)
unfolding unless
rows_apart [] plan map h = h
rows_apart ((true, r) ∷ rows) plan map h = tt
rows_apart ((false, r) ∷ rows) plan map h = rows_apart rows plan map h

given_apart : {A : Type 0} (found : Result A Refusal) (plan : A → Plan) (map : Map) → ((x : A) → Quiet (answer_in (plan x) map)) → Quiet (answer_in (given found plan) map)
unfolding given
given_apart (Ok x) plan map h = h x
given_apart (Err r) plan map h = tt

without_is : (a : Answer) (map : Map) → answer_in (without_files a) map ≡ a
without_is (Ok done) map = refl
without_is (Err r) map = refl

database_quiet : (m : Meaning) (s : State) (map : Map) → Quiet (answer_in (database_plan m s) map)
unfolding database_plan
database_quiet (meaning.Read name) s map = rows_apart _ (Ok (Fetches name (loaded name))) map (given_quiet _ _ (λ bytes. given_quiet _ _ (λ events. tt)))
database_quiet (meaning.VerifyProof pattern) s map = subst Quiet (sym (without_is (verify s pattern) map)) (given_quiet _ _ (λ bytes. given_quiet _ _ (λ ids. tt)))
database_quiet (meaning.ShowTraceBack label axioms) s map = subst Quiet (sym (without_is (trace_back s label axioms) map)) (given_quiet _ _ (λ bytes. given_quiet _ _ (λ id. tt)))
database_quiet (meaning.ShowUsage label recursive) s map = subst Quiet (sym (without_is (usage s label recursive) map)) (given_quiet _ _ (λ bytes. given_quiet _ _ (λ id. tt)))
database_quiet (meaning.WriteSource name) s map = given_apart _ _ map (λ bytes. tt)
database_quiet _ s map = tt

-- no UNDO, REDO or SET UNDO
abbrev IsOrdinary : Meaning → Type 0
IsOrdinary meaning.Undo = ⊥
IsOrdinary meaning.Redo = ⊥
IsOrdinary (meaning.SetUndo n) = ⊥
IsOrdinary m = Unit {0}

settings_quiet : (m : Meaning) (s : State) → IsOrdinary m → Quiet (setting_answer m s)
unfolding setting_answer
settings_quiet (meaning.SetUndo n) s o = absurd o
settings_quiet (meaning.SetEmpty on) s o = rows_quiet _ _ tt
settings_quiet (meaning.OpenLog name) s o = rows_quiet _ _ tt
settings_quiet meaning.CloseLog s o = rows_quiet _ _ tt
settings_quiet _ s o = tt

prove_quiet : (s : State) (label : List ℕ) (guarded_too : Bool) (p : ProofState) → s.open_proof ≡ Some p → Quiet (prove s label guarded_too)
unfolding unless
prove_quiet s label guarded_too p was = at s.open_proof was where
  at : (o : Option ProofState) → o ≡ Some p → Quiet (prove (record s { open_proof = o }) label guarded_too)
  at (Some x) e = tt
  at None e = absurd (no_proof p e)

exit_quiet : (s : State) (force : Bool) (o : Option ProofState) → Quiet (exit_by s force o)
exit_quiet s force (Some p) = rows_quiet _ _ tt
exit_quiet s force None = rows_quiet _ _ tt

save_quiet : (s : State) (compressed guarded_too : Bool) → Quiet (save s compressed guarded_too)
save_quiet s compressed guarded_too = given_quiet _ _ (λ here. rows_quiet _ _ (given_quiet _ _ (λ some_unknown. given_quiet _ _ (λ new. tt))))

show_quiet : (s : State) (only_unknown : Bool) → Quiet (show_proof s only_unknown)
show_quiet s only_unknown = given_quiet _ _ (λ here. tt)

session_quiet : (m : Meaning) (s : State) (p : ProofState) → s.open_proof ≡ Some p → IsOrdinary m → Quiet (proof_answer m s)
unfolding proof_answer
session_quiet (meaning.ShowNewProof only_unknown) s p was o = show_quiet s only_unknown
session_quiet (meaning.Prove label guarded_too) s p was o = prove_quiet s label guarded_too p was
session_quiet meaning.Undo s p was o = absurd o
session_quiet meaning.Redo s p was o = absurd o
session_quiet (meaning.Save normal compressed guarded_too) s p was o = save_quiet s compressed guarded_too
session_quiet (meaning.Exit force) s p was o = exit_quiet s force s.open_proof
session_quiet _ s p was o = tt

-- ## Edits

-- what an edit opens is such, and it changes nothing else
abbrev IsEdit : (ProofState → Type 0) → Answer → Type 0
IsEdit P (Ok done) = of done.change where
  of : Change → Type 0
  of (Opens p) = P p
  of change = ⊥
IsEdit P (Err refusal) = Unit {0}

rows_edit : (P : ProofState → Type 0) (rows : List (Bool × Refusal)) (a : Answer) → IsEdit P a → IsEdit P (unless rows a)
unfolding unless
rows_edit P [] a h = h
rows_edit P ((true, r) ∷ rows) a h = tt
rows_edit P ((false, r) ∷ rows) a h = rows_edit P rows a h

given_edit : {A : Type 0} (P : ProofState → Type 0) (found : Result A Refusal) (answer : A → Answer) → ((x : A) → found ≡ Ok x → IsEdit P (answer x)) → IsEdit P (given found answer)
unfolding given
given_edit P (Ok x) answer h = h x refl
given_edit P (Err r) answer h = tt

appended : (bytes : List ℕ) (p : ProofState) (r : Result Proof Refusal) (e : Edit) → given r (λ q. Ok (record { counts = counts_of bytes q; open_proof = after_edit p q })) ≡ Ok e → IsAppended p e.open_proof
unfolding given
appended bytes p (Ok q) e is = subst (IsAppended p) (same (record { counts = counts_of bytes q; open_proof = after_edit p q }) e is) (record { past = refl; future = refl; depth = refl }) where
  same : (a b : Edit) → (let x : Result Edit Refusal = Ok a in x) ≡ Ok b → a.open_proof ≡ b.open_proof
  same a b e = let ab : a ≡ b = cc in ap (λ (x : Edit). x.open_proof) ab
appended bytes p (Err r) e is = cc

edits_append : (m : Meaning) (s : State) (p : ProofState) → s.open_proof ≡ Some p → IsEdit (IsAppended p) (edit_answer m s)
unfolding edit_answer
edits_append m s p was = rows_edit (IsAppended p) _ _ (given_edit (IsAppended p) _ _ (λ here found. given_edit (IsAppended p) _ _ (λ e is.
    let same : here.1 ≡ p = some_same here.1 p (sym (proof_found s.database s.open_proof here found).1 ∙ was) in
    subst (λ (x : ProofState). IsAppended x e.open_proof) same (appended here.0 here.1 (edit_of m s.settings here.0 here.1.theorem here.1.proof) e is))))

edit_moves : (P : ProofState → Type 0) (a : Answer) (s : State) (q : ProofState) → IsEdit P a → is_err a ≡ false → (state_after a s).open_proof ≡ Some q → P q
edit_moves P (Ok done) s q h fine is = at done.change h is where
  at : (change : Change) → IsEdit P (Ok (record done { change = change })) → (apply_change change s).open_proof ≡ Some q → P q
  at (Opens x) h is = subst P (some_same x q is) h
  at _ h is = absurd h
edit_moves P (Err refusal) s q h fine is = absurd (true≢false fine)

rows_such : (P : ProofState → Type 0) (rows : List (Bool × Refusal)) (a : Answer) → Such P a → Such P (unless rows a)
unfolding unless
rows_such P [] a h = h
rows_such P ((true, r) ∷ rows) a h = tt
rows_such P ((false, r) ∷ rows) a h = rows_such P rows a h

given_such : {A : Type 0} (P : ProofState → Type 0) (found : Result A Refusal) (answer : A → Answer) → ((x : A) → found ≡ Ok x → Such P (answer x)) → Such P (given found answer)
unfolding given
given_such P (Ok x) answer h = h x refl
given_such P (Err r) answer h = tt

-- no edit where no proof is open
edit_closed : (P : ProofState → Type 0) (m : Meaning) (s : State) → s.open_proof ≡ None → Such P (edit_answer m s)
unfolding edit_answer
edit_closed P m s was = rows_such P _ _ (given_such P _ _ (λ here found. absurd (closed_stays s here.1 was (proof_found s.database s.open_proof here found).1)))

-- ## UNDO, REDO and SET UNDO

has_some : (xs : List Proof) → (length xs == 0) ≡ false → 1 ≤ length xs
has_some [] e = absurd (true≢false (sym (eq-eqb 0 0 refl) ∙ e))
has_some (x ∷ xs) e = omega arith

not_empty : (xs : List Proof) → 1 ≤ length xs → (length xs == 0) ≡ false
not_empty xs h = at (length xs == 0) refl where
  at : (b : Bool) → (length xs == 0) ≡ b → (length xs == 0) ≡ false
  at true e = absurd (omega (arith, h, eqb-true (length xs) 0 e))
  at false e = e

-- a row that doesn't hold
abbrev lone : Refusal → Answer → Bool → Answer
lone r a b = unless ((b, r) ∷ []) a

lone_fails : (r : Refusal) (a : Answer) (b : Bool) → is_err (lone r a b) ≡ false → b ≡ false
unfolding unless
lone_fails r a true fine = absurd (true≢false fine)
lone_fails r a false fine = refl

lone_end : (r : Refusal) (a : Answer) (b : Bool) → b ≡ false → lone r a b ≡ a
unfolding unless
lone_end r a b e = ap (lone r a) e

abbrev undo_in : ProofState → Answer
undo_in p = lone NothingToUndo (does Undone Undoes) (length p.past == 0)

undo_is : (s : State) (p : ProofState) → s.open_proof ≡ Some p → proof_answer meaning.Undo s ≡ undo_in p
unfolding given proof_answer
undo_is s p was = ap (λ (o : Option ProofState). given (found_or o NoProofOpen) undo_in) was

abbrev redo_in : ProofState → Answer
redo_in p = lone NothingToRedo (does Redone Redoes) (length p.future == 0)

redo_is : (s : State) (p : ProofState) → s.open_proof ≡ Some p → proof_answer meaning.Redo s ≡ redo_in p
unfolding given proof_answer
redo_is s p was = ap (λ (o : Option ProofState). given (found_or o NoProofOpen) redo_in) was

-- the open proof after a step
step_same : (f : ProofState → ProofState) (s : State) (p q : ProofState) → s.open_proof ≡ Some p → proof_after f s.open_proof ≡ Some q → f p ≡ q
step_same f s p q was is = some_same (f p) q (ap (λ (o : Option ProofState). proof_after f o) (sym was) ∙ is)

undone : (s : State) (p q : ProofState) → s.open_proof ≡ Some p → is_err (undo_in p) ≡ false → (state_after (undo_in p) s).open_proof ≡ Some q → IsUndone true (lists_in p) (lists_in q) p.proof q.proof
undone s p q was fine is =
    let some : (length p.past == 0) ≡ false = lone_fails NothingToUndo (does Undone Undoes) (length p.past == 0) fine in
    let last = slice_get-some p.past (length p.past - 1) (omega (arith, has_some p.past some)) in
    let now : proof_after after_undo s.open_proof ≡ Some q = subst (λ (a : Answer). (state_after a s).open_proof ≡ Some q) (lone_end NothingToUndo (does Undone Undoes) (length p.past == 0) some) is in
    subst (λ (r : ProofState). IsUndone true (lists_in p) (lists_in r) p.proof r.proof) (step_same after_undo s p q was now) (undo_leads_back p last.0 last.1).0

redone : (s : State) (p q : ProofState) → s.open_proof ≡ Some p → is_err (redo_in p) ≡ false → (state_after (redo_in p) s).open_proof ≡ Some q → IsRedone true (lists_in p) (lists_in q) p.proof q.proof
redone s p q was fine is =
    let some : (length p.future == 0) ≡ false = lone_fails NothingToRedo (does Redone Redoes) (length p.future == 0) fine in
    let first = slice_get-some p.future 0 (omega (arith, has_some p.future some)) in
    let now : proof_after after_redo s.open_proof ≡ Some q = subst (λ (a : Answer). (state_after a s).open_proof ≡ Some q) (lone_end NothingToRedo (does Redone Redoes) (length p.future == 0) some) is in
    subst (λ (r : ProofState). IsRedone true (lists_in p) (lists_in r) p.proof r.proof) (step_same after_redo s p q was now) (redo_leads_forward p first.0 first.1).0

cut : (n : ℕ) (s : State) (p q : ProofState) → s.open_proof ≡ Some p → proof_after (with_depth n) s.open_proof ≡ Some q → IsCut n p q
cut n s p q was is = subst (IsCut n p) (step_same (with_depth n) s p q was is) (record { proof = refl; past = refl; future = refl; depth = refl })

-- ## All of them

-- an answer under which, where it is accepted, this becomes of the open proof
abbrev Moving : (ProofState → Type 0) → State → Answer → Type 0
Moving P s a = (q : ProofState) → is_err a ≡ false → (state_after a s).open_proof ≡ Some q → P q

moving_apart : (P : ProofState → Type 0) (s : State) (a : Answer) (map : Map) → Moving P s a → Moving P s (answer_in (without_files a) map)
moving_apart P s a map h = subst (Moving P s) (sym (without_is a map)) h

group_moves : (g : Group) (m : Meaning) → IsOrdinary m → (s : State) (map : Map) (p : ProofState) → s.open_proof ≡ Some p → Moving (IsMovedIn g p) s (answer_in (plan_in g m s) map)
group_moves group.Database m o s map p was = λ q fine is. answer_moves (answer_in (database_plan m s) map) s p q (database_quiet m s map) was is
group_moves group.Settings m o s map p was = moving_apart (IsUntouched p) s (setting_answer m s) map (λ q fine is. answer_moves (setting_answer m s) s p q (settings_quiet m s o) was is)
group_moves group.Edits m o s map p was = moving_apart (IsAppended p) s (edit_answer m s) map (λ q fine is. edit_moves (IsAppended p) (edit_answer m s) s q (edits_append m s p was) fine is)
group_moves group.Session m o s map p was = moving_apart (IsUntouched p) s (proof_answer m s) map (λ q fine is. answer_moves (proof_answer m s) s p q (session_quiet m s p was o) was is)

command_moves : (m : Meaning) (s : State) (map : Map) (p : ProofState) → s.open_proof ≡ Some p → Moving (IsMoved m p) s (answer_in (command_plan m s) map)
unfolding command_plan setting_answer
command_moves meaning.Undo s map p was = moving_apart (IsMoved meaning.Undo p) s (proof_answer meaning.Undo s) map (subst (Moving (IsMoved meaning.Undo p) s) (sym (undo_is s p was)) (λ q. undone s p q was))
command_moves meaning.Redo s map p was = moving_apart (IsMoved meaning.Redo p) s (proof_answer meaning.Redo s) map (subst (Moving (IsMoved meaning.Redo p) s) (sym (redo_is s p was)) (λ q. redone s p q was))
command_moves (meaning.SetUndo n) s map p was = λ q fine is. cut n s p q was is
command_moves m s map p was = group_moves (group_of m) m tt s map p was

pub histories_move : HistoriesMove
histories_move m s map Fine p q was fine is = command_moves m s map p was q fine is
histories_move m s map Starved p q was fine is = absurd (true≢false fine)
histories_move m s map Faulted p q was fine is = absurd (true≢false fine)

-- ## A proof that is opened

prove_begins : (s : State) (label : List ℕ) (guarded_too : Bool) → Such (IsBegun s.undo_depth) (prove s label guarded_too)
prove_begins s label guarded_too =
    let P : ProofState → Type 0 = IsBegun s.undo_depth in
    rows_such P _ _ (given_such P _ _ (λ bytes is. given_such P _ _ (λ id found. rows_such P _ _ (given_such P _ _ (λ p loads. record { past = refl; future = refl; depth_is = refl })))))

step_such : (P : ProofState → Type 0) (s : State) (a : ProofState → Answer) → s.open_proof ≡ None → Such P (given (found_or s.open_proof NoProofOpen) a)
unfolding given
step_such P s a was = subst (λ (o : Option ProofState). Such P (given (found_or o NoProofOpen) a)) (sym was) tt

session_begins : (m : Meaning) (s : State) → s.open_proof ≡ None → Such (IsBegun s.undo_depth) (proof_answer m s)
unfolding proof_answer
session_begins (meaning.ShowNewProof only_unknown) s was = answer_such (IsBegun s.undo_depth) _ (show_quiet s only_unknown)
session_begins (meaning.Prove label guarded_too) s was = prove_begins s label guarded_too
session_begins meaning.Undo s was = step_such (IsBegun s.undo_depth) s undo_in was
session_begins meaning.Redo s was = step_such (IsBegun s.undo_depth) s redo_in was
session_begins (meaning.Save normal compressed guarded_too) s was = answer_such (IsBegun s.undo_depth) _ (save_quiet s compressed guarded_too)
session_begins (meaning.Exit force) s was = answer_such (IsBegun s.undo_depth) _ (exit_quiet s force s.open_proof)
session_begins _ s was = tt

settings_begin : (m : Meaning) (s : State) (P : ProofState → Type 0) → Such P (setting_answer m s)
unfolding setting_answer
settings_begin (meaning.SetUndo n) s P = tt
settings_begin (meaning.SetEmpty on) s P = answer_such P _ (rows_quiet _ _ tt)
settings_begin (meaning.OpenLog name) s P = answer_such P _ (rows_quiet _ _ tt)
settings_begin meaning.CloseLog s P = answer_such P _ (rows_quiet _ _ tt)
settings_begin _ s P = tt

group_begins : (g : Group) (m : Meaning) (s : State) (map : Map) → s.open_proof ≡ None → Such (IsBegun s.undo_depth) (answer_in (plan_in g m s) map)
group_begins group.Database m s map was = answer_such (IsBegun s.undo_depth) (answer_in (database_plan m s) map) (database_quiet m s map)
group_begins group.Settings m s map was = subst (Such (IsBegun s.undo_depth)) (sym (without_is (setting_answer m s) map)) (settings_begin m s (IsBegun s.undo_depth))
group_begins group.Edits m s map was = subst (Such (IsBegun s.undo_depth)) (sym (without_is (edit_answer m s) map)) (edit_closed (IsBegun s.undo_depth) m s was)
group_begins group.Session m s map was = subst (Such (IsBegun s.undo_depth)) (sym (without_is (proof_answer m s) map)) (session_begins m s was)

pub histories_begin : HistoriesBegin
unfolding command_plan
histories_begin m s map Fine q was is = answer_begins (IsBegun s.undo_depth) (answer_in (command_plan m s) map) s q (group_begins (group_of m) m s map was) was is
histories_begin m s map Starved q was is = absurd (closed_stays s q was is)
histories_begin m s map Faulted q was is = absurd (closed_stays s q was is)

-- ## Steps are accepted

accepted : (m : Meaning) (s : State) (map : Map) (p : ProofState) (f : ProofState → ProofState) (done : Done) → s.open_proof ≡ Some p → (apply_change done.change s).open_proof ≡ proof_after f s.open_proof → answer_in (command_plan m s) map ≡ Ok done → IsAccepted m s map
accepted m s map p f done was moved e = record {
  accepted = ap is_err e;
  now = f p;
  is = ap (λ (a : Answer). (state_after a s).open_proof) e ∙ moved ∙ ap (λ (o : Option ProofState). proof_after f o) was;
}

pub undos_are_accepted : UndosAreAccepted
unfolding command_plan
undos_are_accepted s map p was some = accepted meaning.Undo s map p after_undo (record { report = Undone; change = Undoes }) was refl
    (without_is (proof_answer meaning.Undo s) map ∙ undo_is s p was ∙ lone_end NothingToUndo (does Undone Undoes) (length p.past == 0) (not_empty p.past some))

pub redos_are_accepted : RedosAreAccepted
unfolding command_plan
redos_are_accepted s map p was some = accepted meaning.Redo s map p after_redo (record { report = Redone; change = Redoes }) was refl
    (without_is (proof_answer meaning.Redo s) map ∙ redo_is s p was ∙ lone_end NothingToRedo (does Redone Redoes) (length p.future == 0) (not_empty p.future some))

-- ## They take no memory and no file

apart_reaches : (a : Answer) → reaches (without_files a) ≡ false
apart_reaches (Ok done) = refl
apart_reaches (Err r) = refl

undo_takes : (o : Option ProofState) → plan_takes (without_files (given (found_or o NoProofOpen) undo_in)) ≡ false
unfolding given unless
undo_takes None = refl
undo_takes (Some p) = at (length p.past == 0) where
  at : (b : Bool) → plan_takes (without_files (lone NothingToUndo (does Undone Undoes) b)) ≡ false
  at true = refl
  at false = refl

redo_takes : (o : Option ProofState) → plan_takes (without_files (given (found_or o NoProofOpen) redo_in)) ≡ false
unfolding given unless
redo_takes None = refl
redo_takes (Some p) = at (length p.future == 0) where
  at : (b : Bool) → plan_takes (without_files (lone NothingToRedo (does Redone Redoes) b)) ≡ false
  at true = refl
  at false = refl

pub undos_are_free : UndosAreFree
unfolding command_plan proof_answer
undos_are_free s map = (ap not (undo_takes s.open_proof), apart_reaches (undo s))

pub redos_are_free : RedosAreFree
unfolding command_plan proof_answer
redos_are_free s map = (ap not (redo_takes s.open_proof), apart_reaches (redo s))

-- ## Where they lead

undo_accepted : (s : State) (map : Map) (p : ProofState) → s.open_proof ≡ Some p → is_err (answer_in (command_plan meaning.Undo s) map) ≡ false → 1 ≤ length p.past
unfolding command_plan
undo_accepted s map p was fine =
    has_some p.past (lone_fails NothingToUndo (does Undone Undoes) (length p.past == 0)
    (sym (ap is_err (without_is (proof_answer meaning.Undo s) map ∙ undo_is s p was)) ∙ fine))

redo_accepted : (s : State) (map : Map) (p : ProofState) → s.open_proof ≡ Some p → is_err (answer_in (command_plan meaning.Redo s) map) ≡ false → 1 ≤ length p.future
unfolding command_plan
redo_accepted s map p was fine =
    has_some p.future (lone_fails NothingToRedo (does Redone Redoes) (length p.future == 0)
    (sym (ap is_err (without_is (proof_answer meaning.Redo s) map ∙ redo_is s p was)) ∙ fine))

pub undos_lead_back : UndosLeadBack
undos_lead_back s map Fine p was fine =
    let a : IsAccepted meaning.Undo s map = undos_are_accepted s map p was (undo_accepted s map p was fine) in
    record { now = a.now; is = a.is; moved = histories_move meaning.Undo s map Fine p a.now was a.accepted a.is }
undos_lead_back s map Starved p was fine = absurd (true≢false fine)
undos_lead_back s map Faulted p was fine = absurd (true≢false fine)

pub redos_lead_forward : RedosLeadForward
redos_lead_forward s map Fine p was fine =
    let a : IsAccepted meaning.Redo s map = redos_are_accepted s map p was (redo_accepted s map p was fine) in
    record { now = a.now; is = a.is; moved = histories_move meaning.Redo s map Fine p a.now was a.accepted a.is }
redos_lead_forward s map Starved p was fine = absurd (true≢false fine)
redos_lead_forward s map Faulted p was fine = absurd (true≢false fine)
