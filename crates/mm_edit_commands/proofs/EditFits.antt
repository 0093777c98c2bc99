-- The answers of edits fit a sound state.
use Rattle.std.proofs.Common.{◌≡◌, ℕ, ◌<◌, length, Bool, true, false, cond, not, ◌||◌, List, [], ◌∷◌, map, Option, None, Some, Result, Ok, Err, refl, sym, ◌∙◌, ap, subst}
use Rattle.mm_scope.specs.Contents.{is_variable_of, labels_of, stated_at}
use Rattle.mm_stated.specs.declared.statement.Kind.TheVariants.{Theorem}
use Rattle.mm_subst.specs.Statements.{statement_of, symbol_of}
use Rattle.mm_subst.specs.Symbols.{has_work, is_work}
use Rattle.mm_subst.specs.declared.symbol.WSym.{WSym}
use Rattle.mm_subst.specs.declared.symbol.WSym.TheVariants.{Const, Var}
use Rattle.mm_plain.specs.Shape.{Proof, size_of, step_at, target_of}
use Rattle.mm_unify.specs.declared.listing.Settings.{Settings}
use Rattle.mm_edit.specs.Assigning.{assigned}
use Rattle.mm_edit.specs.Keeping as keeping
use Rattle.mm_edit.specs.Listed.{listed_at}
use Rattle.mm_edit.specs.Proving.{proofs_found}
use Rattle.mm_edit.specs.Replacing.{replaced}
use Rattle.mm_edit.specs.Steps.{is_unknown}
use Rattle.mm_edit.specs.declared.edit_fault.EditFault.{EditFault}
use Rattle.mm_edit.proofs.Assigning.{kept-assigned}
use Rattle.mm_edit.proofs.Deleting.{kept-floats_deleted}
use Rattle.mm_edit.proofs.Improving.{kept-improved, kept-all_improved}
use Rattle.mm_edit.proofs.Initializing.{kept-all_initialized, kept-deleted, kept-initialized}
use Rattle.mm_edit.proofs.Letting.{kept-variable_let, kept-step_let}
use Rattle.mm_edit.proofs.Replacing.{kept-replaced}
use Rattle.mm_edit.proofs.Unifying.{kept-step_unified, kept-all_unified}
use Rattle.mm_command.specs.declared.command.StepWord.{StepWord}
use Rattle.mm_command.specs.Meanings as meaning
use Rattle.mm_command.specs.Meanings.{Meaning}
use Rattle.mm_shell.specs.Actions.{Nowhere}
use Rattle.mm_shell.specs.Answers.{given, or_refusal}
use Rattle.mm_shell.specs.Finding.{is_forbidden, statement_named}
use Rattle.mm_shell.specs.Fitting.{OpensIn, Fits}
use Rattle.mm_shell.specs.OpenProofs.{ProofState, after_edit}
use Rattle.mm_shell.specs.Sound.{IsProofOf, IsOpenIn, AreSound, IsSound}
use Rattle.mm_shell.specs.declared.state.State.{State}
use Rattle.mm_shell.specs.declared.refusal.Refusal.{Refusal}
use Rattle.mm_shell.specs.declared.refusal.Refusal.TheVariants.{Guarded, NothingChanged}
use Rattle.mm_shell.proofs.FindLemmas.{proof_found}
use Rattle.mm_shell.proofs.HistoryLemmas.{edited_open}
use Rattle.mm_shell.proofs.FitLemmas.{rows_fit, given_fits, done_fits, rows_end}
use Rattle.mm_edit_commands.specs.Edits.{Edit, assign, counts_of, delete_numbered, edit_of, edit_in, edits, edit_answer, initialize_numbered, let_step, let_variable, replace, unify_numbered, with_statement}
use Rattle.mm_edit_commands.specs.Improving.{depth_of, improve_all, improve_numbered}
use Rattle.mm_edit_commands.specs.Refusals.{edit_refusal, unify_refusal, wrong_word}
use Rattle.mm_edit_commands.specs.Steps.{step_number}
use Rattle.mm_edit_commands.specs.Values.{is_empty, value_of}
use Rattle.mm_edit_commands.proofs.Proved.{proves}
use Rattle.mm_edit_commands.proofs.ValueLemmas.{value_string}

-- ## A valid proof, as edits see it

is_fixed : (bytes : List ℕ) (n : ℕ) → is_work (symbol_of bytes n) ≡ false
is_fixed bytes n = by (is_variable_of bytes n) where
  by : (b : Bool) → is_work (cond b (Var n) (Const n)) ≡ false
  by true = refl
  by false = refl

are_fixed : (bytes : List ℕ) (ns : List ℕ) → has_work (map (symbol_of bytes) ns) ≡ false
are_fixed bytes [] = refl
are_fixed bytes (n ∷ ns) = ap (λ (b : Bool). b || has_work (map (symbol_of bytes) ns)) (is_fixed bytes n) ∙ are_fixed bytes ns

-- a statement of the database has no work variable
statement_fixed : (bytes : List ℕ) (id : ℕ) → has_work (statement_of bytes id) ≡ false
unfolding statement_of
statement_fixed bytes id = are_fixed bytes (stated_at bytes id).symbols

of_statement : (bytes : List ℕ) (theorem : ℕ) (p : Proof) → IsProofOf bytes theorem p → keeping.IsProofOf bytes theorem (statement_of bytes theorem) p
of_statement bytes theorem p valid = record { valid = valid; fixed = statement_fixed bytes theorem }

pub of_target : (bytes : List ℕ) (theorem : ℕ) (p : Proof) → IsProofOf bytes theorem p → keeping.IsProofOf bytes theorem (target_of p.plain) p
of_target bytes theorem p valid = subst (λ (goal : List WSym). keeping.IsProofOf bytes theorem goal p) (sym valid.goal_is) (of_statement bytes theorem p valid)

-- ## What each edit owes: a valid proof stays valid

ok_by : (r : Result Proof EditFault) (refuse : EditFault → Refusal) (q : Proof) → or_refusal r refuse ≡ Ok q → r ≡ Ok q
ok_by (Ok p) refuse q e = let same : p ≡ q = ok_same p q e in ap (λ (x : Proof). let y : Result Proof EditFault = Ok x in y) same where
  ok_same : (p q : Proof) → (let y : Result Proof Refusal = Ok p in y) ≡ Ok q → p ≡ q
  ok_same p q e = cc
ok_by (Err f) refuse q e = cc

-- something is found, and what follows is accepted
given_ok : {A B : Type 0} (r : Result A Refusal) (f : A → Result B Refusal) (b : B) → given r f ≡ Ok b → (a : A) × (r ≡ Ok a) × (f a ≡ Ok b)
unfolding given
given_ok (Ok a) f b e = (a, refl, e)
given_ok (Err r) f b e = cc

-- an edit by the statement with a label is accepted
named_ok : (bytes label : List ℕ) (guarded_too : Bool) (edit : ℕ → Result Proof EditFault) (refuse : EditFault → Refusal) (q : Proof)
    → with_statement bytes label guarded_too edit refuse ≡ Ok q → (id : ℕ) × (edit id ≡ Ok q)
named_ok bytes label guarded_too edit refuse q e =
    let found = given_ok (statement_named bytes label) _ q e in
    let done = rows_end ((is_forbidden guarded_too bytes found.0, Guarded label) ∷ []) _ q found.2 in
    (found.0, ok_by (edit found.0) refuse q done)

assign_keeps : (set : Settings) (bytes : List ℕ) (theorem : ℕ) (p q : Proof) (step : StepWord) (label : List ℕ) (guarded_too : Bool) → IsProofOf bytes theorem p
    → assign set bytes theorem p step label guarded_too ≡ Ok q → IsProofOf bytes theorem q
assign_keeps set bytes theorem p q step label guarded_too valid e =
    let k : ℕ = step_number p.plain step in
    let named = named_ok bytes label guarded_too (λ (id : ℕ). assigned bytes theorem set p k id) (edit_refusal label k) q e in
    (kept-assigned bytes theorem set (statement_of bytes theorem) p q k named.0 (of_statement bytes theorem p valid) named.1).valid

replace_keeps : (set : Settings) (bytes : List ℕ) (theorem : ℕ) (p q : Proof) (step : StepWord) (label : List ℕ) (guarded_too : Bool) → IsProofOf bytes theorem p
    → replace set bytes theorem p step label guarded_too ≡ Ok q → IsProofOf bytes theorem q
replace_keeps set bytes theorem p q step label guarded_too valid e =
    let k : ℕ = step_number p.plain step in
    let named = named_ok bytes label guarded_too (λ (id : ℕ). replaced bytes theorem set p k id) (edit_refusal label k) q e in
    (kept-replaced bytes theorem set (statement_of bytes theorem) p q k named.0 (of_statement bytes theorem p valid) named.1).valid

let_variable_keeps : (bytes : List ℕ) (theorem : ℕ) (p q : Proof) (number : ℕ) (text : List ℕ) (word : ℕ) → IsProofOf bytes theorem p
    → let_variable bytes theorem p number text word ≡ Ok q → IsProofOf bytes theorem q
let_variable_keeps bytes theorem p q number text word valid e =
    let found = given_ok (value_of bytes theorem p text) _ q (rows_end ((is_empty text, wrong_word word) ∷ []) _ q e) in
    (kept-variable_let bytes theorem (statement_of bytes theorem) p q number found.0 (of_statement bytes theorem p valid) (value_string bytes theorem p text found.0 found.1).symbols (ok_by _ (edit_refusal [] number) q found.2)).valid

let_step_keeps : (set : Settings) (bytes : List ℕ) (theorem : ℕ) (p q : Proof) (step : StepWord) (text : List ℕ) (word : ℕ) → IsProofOf bytes theorem p
    → let_step set bytes theorem p step text word ≡ Ok q → IsProofOf bytes theorem q
let_step_keeps set bytes theorem p q step text word valid e =
    let found = given_ok (value_of bytes theorem p text) _ q (rows_end ((is_empty text, wrong_word word) ∷ []) _ q e) in
    (kept-step_let bytes theorem set (statement_of bytes theorem) p q (step_number p.plain step) found.0 (of_statement bytes theorem p valid) (value_string bytes theorem p text found.0 found.1) (ok_by _ (edit_refusal [] (step_number p.plain step)) q found.2)).valid

unify_step_keeps : (set : Settings) (bytes : List ℕ) (theorem : ℕ) (p q : Proof) (k : ℕ) (choice : Option ℕ) → IsProofOf bytes theorem p
    → unify_numbered set bytes p k choice ≡ Ok q → IsProofOf bytes theorem q
unify_step_keeps set bytes theorem p q k choice valid e =
    (kept-step_unified bytes theorem set (statement_of bytes theorem) p q k choice (of_statement bytes theorem p valid) (ok_by _ (unify_refusal bytes k (listed_at bytes set (step_at p.plain k)).found) q e)).valid

initialize_keeps : (bytes : List ℕ) (theorem : ℕ) (p q : Proof) (k : ℕ) → IsProofOf bytes theorem p → initialize_numbered bytes p k ≡ Ok q → IsProofOf bytes theorem q
initialize_keeps bytes theorem p q k valid e = (kept-initialized bytes theorem (statement_of bytes theorem) p q k (of_statement bytes theorem p valid) (ok_by _ (edit_refusal [] k) q e)).valid

delete_keeps : (bytes : List ℕ) (theorem : ℕ) (p q : Proof) (k : ℕ) → IsProofOf bytes theorem p → delete_numbered p k ≡ Ok q → IsProofOf bytes theorem q
delete_keeps bytes theorem p q k valid e = (kept-deleted bytes theorem (statement_of bytes theorem) p q k (of_statement bytes theorem p valid) (ok_by _ (edit_refusal [] k) q e)).valid

improve_keeps : (set : Settings) (bytes : List ℕ) (theorem : ℕ) (p q : Proof) (k : ℕ) (depth : Option ℕ) (no_distinct : Bool) → theorem < length (labels_of bytes) → (stated_at bytes theorem).kind ≡ Theorem → IsProofOf bytes theorem p
    → improve_numbered set bytes theorem p k depth no_distinct ≡ Ok q → IsProofOf bytes theorem q
improve_keeps set bytes theorem p q k depth no_distinct own kind valid e =
    let prove = proofs_found bytes theorem set no_distinct (depth_of depth) in
    (kept-improved bytes theorem prove (statement_of bytes theorem) p q k (proves bytes theorem set no_distinct (depth_of depth) own kind) (of_statement bytes theorem p valid) (ok_by _ (edit_refusal [] k) q e)).valid

improve_all_keeps : (set : Settings) (bytes : List ℕ) (theorem : ℕ) (p q : Proof) (depth : Option ℕ) (no_distinct : Bool) → theorem < length (labels_of bytes) → (stated_at bytes theorem).kind ≡ Theorem → IsProofOf bytes theorem p
    → improve_all set bytes theorem p depth no_distinct ≡ Ok q → IsProofOf bytes theorem q
improve_all_keeps set bytes theorem p q depth no_distinct own kind valid e =
    let prove = proofs_found bytes theorem set no_distinct (depth_of depth) in
    (kept-all_improved bytes theorem prove (statement_of bytes theorem) p q (proves bytes theorem set no_distinct (depth_of depth) own kind) (of_statement bytes theorem p valid) (ok_by _ (edit_refusal [] 0) q e)).valid

pub edit_keeps : (m : Meaning) (set : Settings) (bytes : List ℕ) (theorem : ℕ) (p q : Proof) → theorem < length (labels_of bytes) → (stated_at bytes theorem).kind ≡ Theorem → IsProofOf bytes theorem p → edit_of m set bytes theorem p ≡ Ok q → IsProofOf bytes theorem q
unfolding edit_of
edit_keeps (meaning.Assign step label guarded_too) set bytes theorem p q own kind valid e = assign_keeps set bytes theorem p q step label guarded_too valid e
edit_keeps (meaning.Replace step label guarded_too) set bytes theorem p q own kind valid e = replace_keeps set bytes theorem p q step label guarded_too valid e
edit_keeps (meaning.LetVariable number text word) set bytes theorem p q own kind valid e = let_variable_keeps bytes theorem p q number text word valid e
edit_keeps (meaning.LetStep step text word) set bytes theorem p q own kind valid e = let_step_keeps set bytes theorem p q step text word valid e
edit_keeps (meaning.UnifyStep step choice) set bytes theorem p q own kind valid e = unify_step_keeps set bytes theorem p q (step_number p.plain step) choice valid e
edit_keeps meaning.UnifyAll set bytes theorem p q own kind valid e = (kept-all_unified bytes theorem set (statement_of bytes theorem) p q (of_statement bytes theorem p valid) (ok_by _ (edit_refusal [] 0) q e)).valid
edit_keeps (meaning.InitializeStep step) set bytes theorem p q own kind valid e = initialize_keeps bytes theorem p q (step_number p.plain step) valid e
edit_keeps meaning.InitializeAll set bytes theorem p q own kind valid e = (kept-all_initialized bytes theorem (statement_of bytes theorem) p q (of_statement bytes theorem p valid) (ok_by _ (edit_refusal [] 0) q e)).valid
edit_keeps (meaning.DeleteStep step) set bytes theorem p q own kind valid e = delete_keeps bytes theorem p q (step_number p.plain step) valid e
edit_keeps meaning.DeleteAll set bytes theorem p q own kind valid e = delete_keeps bytes theorem p q (size_of p.plain) valid (rows_end ((is_unknown p.plain (size_of p.plain), NothingChanged) ∷ []) _ q e)
edit_keeps meaning.DeleteFloats set bytes theorem p q own kind valid e = (kept-floats_deleted bytes theorem (statement_of bytes theorem) p q (of_statement bytes theorem p valid) (ok_by _ (edit_refusal [] 0) q e)).valid
edit_keeps (meaning.Improve step depth no_distinct) set bytes theorem p q own kind valid e = improve_keeps set bytes theorem p q (step_number p.plain step) depth no_distinct own kind valid e
edit_keeps (meaning.ImproveAll depth no_distinct) set bytes theorem p q own kind valid e = improve_all_keeps set bytes theorem p q depth no_distinct own kind valid e
edit_keeps _ set bytes theorem p q own kind valid e = cc

-- ## All of them

edit_open : (bytes : List ℕ) (p : ProofState) (r : Result Proof Refusal) (e : Edit) → IsOpenIn bytes p → ((q : Proof) → r ≡ Ok q → IsProofOf bytes p.theorem q)
    → given r (λ q. Ok (record { counts = counts_of bytes q; open_proof = after_edit p q })) ≡ Ok e → IsOpenIn bytes e.open_proof
unfolding given
edit_open bytes p (Ok q) e h keeps is =
    subst (IsOpenIn bytes) (same_proof (record { counts = counts_of bytes q; open_proof = after_edit p q }) e is) (edited_open bytes p q h (keeps q refl))
  where
    same_proof : (a b : Edit) → (let x : Result Edit Refusal = Ok a in x) ≡ Ok b → a.open_proof ≡ b.open_proof
    same_proof a b e = let same : a ≡ b = cc in ap (λ (x : Edit). x.open_proof) same
edit_open bytes p (Err r) e h keeps is = cc

edits_fit : (s : State) (edit : List ℕ → ProofState → Result Edit Refusal) → ((bytes : List ℕ) (p : ProofState) (e : Edit) → IsOpenIn bytes p → edit bytes p ≡ Ok e → IsOpenIn bytes e.open_proof) → IsSound s → Fits Nowhere s (edits s edit)
edits_fit s edit keeps sound = given_fits Nowhere s _ _ (λ here found. given_fits Nowhere s _ _ (λ e is. done_fits Nowhere s _ (
    let k : (s.database ≡ Some here.0) × (s.open_proof ≡ Some here.1) = proof_found s.database s.open_proof here found in
    let h : AreSound (Some here.0) (Some here.1) = subst (λ (d : Option (List ℕ)). AreSound d (Some here.1)) k.0 (subst (λ (o : Option ProofState). AreSound s.database o) k.1 sound) in
    subst (λ (d : Option (List ℕ)). OpensIn d e.open_proof) (sym k.0) (keeps here.0 here.1 e h.1 is)) tt tt))

pub edit_fits : (m : Meaning) (s : State) → IsSound s → Fits Nowhere s (edit_answer m s)
unfolding edit_answer
edit_fits m s sound = rows_fit Nowhere s _ _ (edits_fit s (edit_in m s.settings) (λ bytes p e h is. edit_open bytes p (edit_of m s.settings bytes p.theorem p.proof) e h (λ q. edit_keeps m s.settings bytes p.theorem p.proof q h.own h.theorem h.valid) is) sound)
