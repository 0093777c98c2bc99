-- What holds of each change that fits a state, whatever command makes it.
use Rattle.std.proofs.Common.{◌≡◌, ◌≢◌, ◌<◌, ◌==◌, ℕ, Bool, true, false, List, [], ◌∷◌, length, Option, None, Some, Ok, Err, refl, sym, ◌∙◌, ap, subst, if◌then◌else◌, true≢false}
use Rattle.std.specs.List.{All}
use Rattle.std.proofs.lemmas.Bool.{eqb-true, eq-eqb}
use Rattle.mm_scope.specs.Contents.{is_read}
use Rattle.mm_plain.specs.Shape.{Proof}
use Rattle.mm_plain.specs.Valid.{IsValid}
use Rattle.mm_subst.specs.Statements.{statement_of}
use Rattle.mm_save.proofs.Agreeing.{Agree, replaced_agrees, statement_same}
use Rattle.mm_save.proofs.Moving.{valid_moved}
use Rattle.mm_splice.specs.Judging.{JudgesTheRest}
use Rattle.mm_splice.proofs.Verdicts.{decoded_where, judges_the_rest}
use Rattle.mm_proof.specs.Decoding.{proof_of}
use Rattle.mm_shell.specs.Actions.{Origin, File}
use Rattle.mm_shell.specs.Answers.{Answer}
use Rattle.mm_shell.specs.Changes.{apply_change, proof_after, state_after}
use Rattle.mm_shell.specs.Fitting.{IsLoading, OpensIn, IsSaving, SavesIn, IsFit, Fits, FittingStaysSound, RefusedStays, OnlySavesChange, LoadsTheOrigin, SavedTheoremsHold, IsSilentEnd, EndsSilently, ReportsHold, MadeIn, SavesCanBeMade}
use Rattle.mm_shell.specs.OpenProofs.{ProofState, after_save}
use Rattle.mm_shell.specs.Saves.{Save, save_in, saved_by, with_save, last_complete, Holds, HoldsIn}
use Rattle.mm_shell.specs.Sound.{IsProofOf, IsOpenIn, AreSound, IsSound}
use Rattle.mm_shell.specs.declared.state.State.{State}
use Rattle.mm_shell.specs.declared.answer.Saving.{Saving}
use Rattle.mm_shell.specs.declared.answer.Change.{Change}
use Rattle.mm_shell.specs.declared.answer.Done.{Done}
use Rattle.mm_shell.specs.declared.report.Report.{Report}
use Rattle.mm_shell.specs.declared.report.Report.TheVariants.{Nothing}
use Rattle.mm_shell.specs.Texts.{report_text}
use Rattle.mm_shell.proofs.HistoryLemmas.{undoes_sound, redoes_sound, sets_undo_sound}
use Rattle.mm_shell.specs.declared.answer.Change.TheVariants.{Stays, Loads, Opens, Saves, Undoes, Redoes, SetsUndo, SetsTrials, SetsBrackets, Writes, Leaves, OpensLog, ClosesLog, Ends}

-- ## A sound state stays sound

without_proof : (database : Option (List ℕ)) (p : Option ProofState) → AreSound database p → AreSound database None
without_proof None None h = tt
without_proof None (Some p) h = tt
without_proof (Some bytes) None h = h
without_proof (Some bytes) (Some p) h = h.0

loads : (origin : Origin) (s : State) (bytes : List ℕ) → IsLoading origin s bytes → AreSound (Some bytes) s.open_proof
loads origin s bytes fit = subst (AreSound (Some bytes)) (sym fit.closed) fit.read

opens : (database : Option (List ℕ)) (old : Option ProofState) (p : ProofState) → AreSound database old → OpensIn database p → AreSound database (Some p)
opens None old p h fit = absurd fit
opens (Some bytes) old p h fit = (without_proof (Some bytes) old h, fit)

all_moved : (P Q : Proof → Type 0) → ((p : Proof) → P p → Q p) → (ps : List Proof) → All P ps → All Q ps
all_moved P Q h ps all = λ k d small. h _ (all k d small)

-- in a database that says the same of symbols and statements
moved : (old new : List ℕ) → Agree old new → (p : ProofState) → IsOpenIn old p → IsOpenIn new (after_save p)
moved old new agree p h =
    let at : ℕ = p.theorem in
    let still : (q : Proof) → IsProofOf old at q → IsProofOf new at q =
    λ q v. subst (λ goal. IsValid new at goal q) (sym (statement_same old new agree at)) (valid_moved old new agree at (statement_of old at) q v) in
    record {
      own = subst (λ (ls : List (List ℕ)). at < length ls) (sym agree.labels) h.own;
      theorem = agree.kinds at ∙ h.theorem;
      valid = still p.proof h.valid;
      past = all_moved (IsProofOf old at) (IsProofOf new at) still p.past h.past;
      future = all_moved (IsProofOf old at) (IsProofOf new at) still p.future h.future;
    }

agreeing : (bytes : List ℕ) (x : Saving) → IsSaving bytes x → Agree bytes x.database
agreeing bytes x fit = subst (Agree bytes) (sym fit.is) (replaced_agrees bytes x.theorem.0 (proof_of x.database x.theorem.0) fit.keeps)

read_after : (bytes : List ℕ) (x : Saving) → IsSaving bytes x → is_read x.database ≡ true
read_after bytes x fit = subst (λ (b : List ℕ). is_read b ≡ true) (sym fit.is) fit.keeps.read

saves : (database : Option (List ℕ)) (old : Option ProofState) (x : Saving) → AreSound database old → SavesIn database x → AreSound (Some x.database) (proof_after after_save old)
saves None old x h fit = absurd fit
saves (Some bytes) None x h fit = read_after bytes x fit
saves (Some bytes) (Some p) x h fit = (read_after bytes x fit, moved bytes x.database (agreeing bytes x fit) p h.1)

change_sound : (origin : Origin) (s : State) (change : Change) → IsSound s → IsFit origin s change → IsSound (apply_change change s)
change_sound origin s Stays h fit = h
change_sound origin s (Loads bytes) h fit = loads origin s bytes fit
change_sound origin s (Opens p) h fit = opens s.database s.open_proof p h fit
change_sound origin s (Saves x) h fit = saves s.database s.open_proof x h fit
change_sound origin s Undoes h fit = undoes_sound s.database s.open_proof h
change_sound origin s Redoes h fit = redoes_sound s.database s.open_proof h
change_sound origin s (SetsUndo n) h fit = sets_undo_sound n s.database s.open_proof h
change_sound origin s (SetsTrials n) h fit = h
change_sound origin s (SetsBrackets on) h fit = h
change_sound origin s Writes h fit = h
change_sound origin s Leaves h fit = without_proof s.database s.open_proof h
change_sound origin s OpensLog h fit = h
change_sound origin s ClosesLog h fit = h
change_sound origin s Ends h fit = h

pub fitting_stays_sound : FittingStaysSound
unfolding Fits
fitting_stays_sound origin s (Ok done) h fit = change_sound origin s done.change h fit.0
fitting_stays_sound origin s (Err refusal) h fit = h

pub refused_stays : RefusedStays
refused_stays s refusal = refl

-- ## A database changes by saves alone, and comes from its origin alone

never : (d : Option (List ℕ)) (bytes : List ℕ) → d ≡ None → d ≡ Some bytes → ⊥
never d bytes none e = let no : (let x : Option (List ℕ) = None in x) ≡ Some bytes = sym none ∙ e in cc

some_same : (a b : List ℕ) → (let x : Option (List ℕ) = Some a in x) ≡ Some b → a ≡ b
some_same a b e = cc

saves_change : (database : Option (List ℕ)) (x : Saving) (bytes : List ℕ) → SavesIn database x → database ≡ Some bytes → (let d : Option (List ℕ) = Some x.database in d) ≡ Some (with_save bytes (Some (save_in x)))
saves_change None x bytes fit e = absurd fit
saves_change (Some old) x bytes fit e =
    let same : old ≡ bytes = some_same old bytes e in
    ap (λ (b : List ℕ). let d : Option (List ℕ) = Some b in d) (fit.is ∙ ap (λ (b : List ℕ). with_save b (Some (save_in x))) same)

change_by : (origin : Origin) (s : State) (done : Done) (bytes : List ℕ) → Fits origin s (Ok done) → s.database ≡ Some bytes → (state_after (Ok done) s).database ≡ Some (with_save bytes (saved_by (Ok done)))
unfolding Fits
change_by origin s done bytes fit is = at done.change fit.0 where
  at : (change : Change) → IsFit origin s change → (apply_change change s).database ≡ Some (with_save bytes (saved_by (Ok (record done { change = change }))))
  at Stays fit = is
  at (Loads b) fit = absurd (never s.database bytes fit.none is)
  at (Opens p) fit = is
  at (Saves x) fit = saves_change s.database x bytes fit is
  at Undoes fit = is
  at Redoes fit = is
  at (SetsUndo n) fit = is
  at (SetsTrials n) fit = is
  at (SetsBrackets on) fit = is
  at Writes fit = is
  at Leaves fit = is
  at OpensLog fit = is
  at ClosesLog fit = is
  at Ends fit = is

pub only_saves_change : OnlySavesChange
only_saves_change origin s (Ok done) bytes fit is = change_by origin s done bytes fit is
only_saves_change origin s (Err refusal) bytes fit is = is

comes_by : (origin : Origin) (s : State) (bytes : List ℕ) → s.database ≡ None → (change : Change) → IsFit origin s change → (apply_change change s).database ≡ Some bytes → origin ≡ File bytes
comes_by origin s bytes none (Loads b) fit e = fit.comes ∙ ap File (some_same b bytes e)
comes_by origin s bytes none (Saves x) fit e = absurd (subst (λ (d : Option (List ℕ)). SavesIn d x) none fit)
comes_by origin s bytes none Stays fit e = absurd (never s.database bytes none e)
comes_by origin s bytes none (Opens p) fit e = absurd (never s.database bytes none e)
comes_by origin s bytes none Undoes fit e = absurd (never s.database bytes none e)
comes_by origin s bytes none Redoes fit e = absurd (never s.database bytes none e)
comes_by origin s bytes none (SetsUndo n) fit e = absurd (never s.database bytes none e)
comes_by origin s bytes none (SetsTrials n) fit e = absurd (never s.database bytes none e)
comes_by origin s bytes none (SetsBrackets on) fit e = absurd (never s.database bytes none e)
comes_by origin s bytes none Writes fit e = absurd (never s.database bytes none e)
comes_by origin s bytes none Leaves fit e = absurd (never s.database bytes none e)
comes_by origin s bytes none OpensLog fit e = absurd (never s.database bytes none e)
comes_by origin s bytes none ClosesLog fit e = absurd (never s.database bytes none e)
comes_by origin s bytes none Ends fit e = absurd (never s.database bytes none e)

pub loads_the_origin : LoadsTheOrigin
unfolding Fits
loads_the_origin origin s (Ok done) bytes fit none e = comes_by origin s bytes none done.change fit.0 e
loads_the_origin origin s (Err refusal) bytes fit none e = absurd (never s.database bytes none e)

-- ## A theorem whose last save was complete holds

read_here : (p : Option ProofState) (bytes : List ℕ) → AreSound (Some bytes) p → is_read bytes ≡ true
read_here None bytes h = h
read_here (Some p) bytes h = h.0

-- the other theorems hold as before
others_hold : (bytes : List ℕ) (x : Saving) → is_read bytes ≡ true → IsSaving bytes x → (theorem : ℕ) → theorem ≢ x.theorem.0 → Holds bytes theorem → Holds x.database theorem
others_hold bytes x read fit theorem other h =
    let at : ℕ = x.theorem.0 in
    let text : List ℕ = proof_of x.database at in
    let judges : JudgesTheRest bytes at text = judges_the_rest bytes at text read fit.keeps in
    subst (λ (b : List ℕ). Holds b theorem) (sym fit.is) (record {
      own = subst (λ (ls : List (List ℕ)). theorem < length ls) (sym (replaced_agrees bytes at text fit.keeps).labels) h.own;
      kind = (replaced_agrees bytes at text fit.keeps).kinds theorem ∙ h.kind;
      accepted = let d = decoded_where bytes theorem h.accepted in judges.same_verdicts theorem d.0 other d.1 ∙ h.accepted;
    })

saves_hold : (database : Option (List ℕ)) (p : Option ProofState) (x : Saving) (theorem : ℕ) (before : Bool) → AreSound database p → SavesIn database x → (before ≡ true → HoldsIn database theorem)
    → (if theorem == x.theorem.0 then x.complete else before) ≡ true → Holds x.database theorem
saves_hold None p x theorem before h fit known e = absurd fit
saves_hold (Some bytes) p x theorem before h fit known e = at (theorem == x.theorem.0) refl e where
  at : (b : Bool) → (theorem == x.theorem.0) ≡ b → (if b then x.complete else before) ≡ true → Holds x.database theorem
  at true same g = subst (Holds x.database) (sym (eqb-true theorem x.theorem.0 same)) (fit.accepted g)
  at false differs g = others_hold bytes x (read_here p bytes h) fit theorem (λ same. true≢false (sym (eq-eqb theorem x.theorem.0 same) ∙ differs)) (known g)

hold_after : (origin : Origin) (s : State) (done : Done) (theorem : ℕ) (before : Bool) → IsSound s → (change : Change) → IsFit origin s change → (before ≡ true → HoldsIn s.database theorem)
    → last_complete theorem (saved_by (Ok (record done { change = change }))) before ≡ true → HoldsIn (apply_change change s).database theorem
hold_after origin s done theorem before h Stays fit known e = known e
hold_after origin s done theorem before h (Loads b) fit known e = absurd (subst (λ (d : Option (List ℕ)). HoldsIn d theorem) fit.none (known e))
hold_after origin s done theorem before h (Opens p) fit known e = known e
hold_after origin s done theorem before h (Saves x) fit known e = saves_hold s.database s.open_proof x theorem before h fit known e
hold_after origin s done theorem before h Undoes fit known e = known e
hold_after origin s done theorem before h Redoes fit known e = known e
hold_after origin s done theorem before h (SetsUndo n) fit known e = known e
hold_after origin s done theorem before h (SetsTrials n) fit known e = known e
hold_after origin s done theorem before h (SetsBrackets on) fit known e = known e
hold_after origin s done theorem before h Writes fit known e = known e
hold_after origin s done theorem before h Leaves fit known e = known e
hold_after origin s done theorem before h OpensLog fit known e = known e
hold_after origin s done theorem before h ClosesLog fit known e = known e
hold_after origin s done theorem before h Ends fit known e = known e

pub saved_theorems_hold : SavedTheoremsHold
unfolding Fits
saved_theorems_hold origin s (Ok done) theorem before h fit known e = hold_after origin s done theorem before h done.change fit.0 known e
saved_theorems_hold origin s (Err refusal) theorem before h fit known e = known e

-- ## What ends the session

ends_quietly : (origin : Origin) (s : State) (change : Change) (report : Report) → IsSilentEnd change report → s.ended ≡ false → (apply_change change s).ended ≡ true → report ≡ Nothing
ends_quietly origin s Ends report silent on off = silent
ends_quietly origin s Stays report silent on off = absurd (true≢false (sym off ∙ on))
ends_quietly origin s (Loads b) report silent on off = absurd (true≢false (sym off ∙ on))
ends_quietly origin s (Opens p) report silent on off = absurd (true≢false (sym off ∙ on))
ends_quietly origin s (Saves x) report silent on off = absurd (true≢false (sym off ∙ on))
ends_quietly origin s Undoes report silent on off = absurd (true≢false (sym off ∙ on))
ends_quietly origin s Redoes report silent on off = absurd (true≢false (sym off ∙ on))
ends_quietly origin s (SetsUndo n) report silent on off = absurd (true≢false (sym off ∙ on))
ends_quietly origin s (SetsTrials n) report silent on off = absurd (true≢false (sym off ∙ on))
ends_quietly origin s (SetsBrackets b) report silent on off = absurd (true≢false (sym off ∙ on))
ends_quietly origin s Writes report silent on off = absurd (true≢false (sym off ∙ on))
ends_quietly origin s Leaves report silent on off = absurd (true≢false (sym off ∙ on))
ends_quietly origin s OpensLog report silent on off = absurd (true≢false (sym off ∙ on))
ends_quietly origin s ClosesLog report silent on off = absurd (true≢false (sym off ∙ on))

pub ends_silently : EndsSilently
unfolding Fits
ends_silently origin s (Ok done) fit on off = ap report_text (ends_quietly origin s done.change done.report fit.1 on off)
ends_silently origin s (Err refusal) fit on off = absurd (true≢false (sym off ∙ on))

-- ## What is reported

pub reports_hold : ReportsHold
unfolding Fits
reports_hold origin s done fit = fit.2

-- ## What is saved can be made

made_in : (database : Option (List ℕ)) (x : Saving) → SavesIn database x → MadeIn database (Some (save_in x))
made_in None x fit = absurd fit
made_in (Some bytes) x fit = fit.made

nothing_made : (database : Option (List ℕ)) → MadeIn database None
nothing_made None = tt
nothing_made (Some bytes) = tt

made_by : (origin : Origin) (s : State) (done : Done) → (change : Change) → IsFit origin s change → MadeIn s.database (saved_by (Ok (record done { change = change })))
made_by origin s done (Saves x) fit = made_in s.database x fit
made_by origin s done Stays fit = nothing_made s.database
made_by origin s done (Loads b) fit = nothing_made s.database
made_by origin s done (Opens p) fit = nothing_made s.database
made_by origin s done Undoes fit = nothing_made s.database
made_by origin s done Redoes fit = nothing_made s.database
made_by origin s done (SetsUndo n) fit = nothing_made s.database
made_by origin s done (SetsTrials n) fit = nothing_made s.database
made_by origin s done (SetsBrackets on) fit = nothing_made s.database
made_by origin s done Writes fit = nothing_made s.database
made_by origin s done Leaves fit = nothing_made s.database
made_by origin s done OpensLog fit = nothing_made s.database
made_by origin s done ClosesLog fit = nothing_made s.database
made_by origin s done Ends fit = nothing_made s.database

pub saves_can_be_made : SavesCanBeMade
unfolding Fits
saves_can_be_made origin s (Ok done) fit = made_by origin s done done.change fit.0
saves_can_be_made origin s (Err refusal) fit = nothing_made s.database
