-- The answers of the commands on the open proof fit a sound state.
use Rattle.std.proofs.Common.{◌<◌, ◌≡◌, ◌≤◌, ℕ, Bool, true, false, not, nat_lt, List, [], ◌∷◌, length, slice_get, Option, None, Some, Result, Ok, Err, refl, sym, ◌∙◌, ap, subst, arith, true≢false, if◌then◌else◌, position}
use Rattle.std.specs.Str.{bytes_eq}
use Rattle.mm_scope.specs.Contents.{is_read, distinct_at, labels_of, stated_at, find_label}
use Rattle.mm_scope.specs.Judged.{most_bytes}
use Rattle.mm_stated.specs.declared.statement.Kind.TheVariants.{Theorem}
use Rattle.mm_plain.specs.declared.plain.Plain.{Plain}
use Rattle.mm_plain.specs.Shape.{Proof}
use Rattle.mm_plain.specs.Valid.{IsValid}
use Rattle.mm_plain.specs.Numbers.{HasOwnLabels, pending_in}
use Rattle.mm_plain.specs.Labels.{label_at}
use Rattle.mm_plain.proofs.Labels.{has_label}
use Rattle.mm_subst.specs.Statements.{statement_of}
use Rattle.mm_sound.specs.Complete.{has_unknown}
use Rattle.mm_splice.specs.Agreeing.{CanBeMade}
use Rattle.mm_save.proofs.Texts.{text_fine}
use Rattle.mm_splice.specs.Keeping.{KeepsTheRest}
use Rattle.mm_splice.specs.Splicing.{spliced}
use Rattle.mm_stack.specs.Accepting.{Accepts}
use Rattle.mm_proof.specs.Decoding.{proof_of as proof_text}
use Rattle.mm_save.specs.Clashes.{clashes_in}
use Rattle.mm_save.specs.Saving.{saved, saved_text}
use Rattle.mm_save.specs.declared.clash.Clash.{Clash}
use Rattle.mm_save.specs.declared.form.Form.{Form}
use Rattle.mm_save.proofs.Agreeing.{Agree, label_same}
use Rattle.mm_save.proofs.Clashing.{apart_by}
use Rattle.mm_save.proofs.Saves.{accepted_by, saved_keeps, saved_agrees}
use Rattle.mm_edit.specs.Loading.{loading}
use Rattle.mm_edit.specs.declared.loading.LoadFault.{LoadFault}
use Rattle.mm_edit.proofs.LoadValid.{loading_valid}
use Rattle.mm_command.specs.Meanings as meaning
use Rattle.mm_command.specs.Meanings.{Meaning}
use Rattle.mm_shell.specs.Actions.{Origin, Nowhere}
use Rattle.mm_shell.specs.Answers.{Answer, unless, given, none_of, or_refusal}
use Rattle.mm_shell.specs.Fitting.{OpensIn, IsSaving, SavesIn, Fits}
use Rattle.mm_shell.specs.OpenProofs.{ProofState, opened_of}
use Rattle.mm_shell.specs.Saves.{Holds}
use Rattle.mm_shell.specs.Sound.{IsOpenIn, AreSound, IsSound}
use Rattle.mm_shell.specs.declared.answer.Saving.{Saving}
use Rattle.mm_shell.specs.declared.state.State.{State}
use Rattle.mm_shell.specs.declared.refusal.Refusal.{Refusal}
use Rattle.mm_shell.specs.declared.refusal.Refusal.TheVariants.{NotUnified, NotBuilt, TooLong}
use Rattle.mm_shell.proofs.FindLemmas.{IsNamed, found_is, theorem_found, proof_found, own_labels}
use Rattle.mm_shell.proofs.FitLemmas.{rows_fit, given_fits, done_fits, refused_fits}
use Rattle.mm_proof_commands.specs.Commands.{load_refusal, prove, show_proof, undo, redo, save, exit, exit_by, form_of, not_distinct, unknown_or_ready, database_with, proof_answer}
use Rattle.mm_proof_commands.proofs.CompleteLemmas.{complete_by}

-- ## PROVE

opened_open : (bytes label : List ℕ) (id depth : ℕ) (p : Proof) → IsNamed bytes label id → IsValid bytes id (statement_of bytes id) p → IsOpenIn bytes (opened_of id p depth)
opened_open bytes label id depth p named valid = record {
  own = named.own;
  theorem = named.theorem;
  valid = valid;
  past = λ k d small. absurd (omega (arith, small));
  future = λ k d small. absurd (omega (arith, small));
}

ok_by : (label : List ℕ) (r : Result Proof LoadFault) (p : Proof) → or_refusal r (load_refusal label) ≡ Ok p → r ≡ Ok p
ok_by label (Ok q) p e = let same : q ≡ p = ok_proof q p e in ap (λ (x : Proof). let r : Result Proof LoadFault = Ok x in r) same where
  ok_proof : (q p : Proof) → (let r : Result Proof Refusal = Ok q in r) ≡ Ok p → q ≡ p
  ok_proof q p e = cc
ok_by label (Err f) p e = cc

prove_fits : (s : State) (label : List ℕ) (guarded_too : Bool) → Fits Nowhere s (prove s label guarded_too)
prove_fits s label guarded_too =
    rows_fit Nowhere s _ _ (given_fits Nowhere s _ _ (λ bytes is. given_fits Nowhere s _ _ (λ id found. rows_fit Nowhere s _ _ (given_fits Nowhere s _ _ (λ p loads. done_fits Nowhere s _
    (subst (λ (d : Option (List ℕ)). OpensIn d (opened_of id p s.undo_depth)) (sym (found_is s.database _ bytes is))
    (opened_open bytes label id s.undo_depth p (theorem_found bytes label id found) (loading_valid bytes id s.settings p (ok_by label (loading bytes id s.settings) p loads)))) tt tt)))))

-- ## SHOW NEW_PROOF

show_fits : (s : State) (only_unknown : Bool) → Fits Nowhere s (show_proof s only_unknown)
show_fits s only_unknown = given_fits Nowhere s _ _ (λ here found. done_fits Nowhere s _ tt tt tt)

-- ## UNDO and REDO

undo_fits : (s : State) → Fits Nowhere s (undo s)
undo_fits s = given_fits Nowhere s _ _ (λ p found. rows_fit Nowhere s _ _ (done_fits Nowhere s _ tt tt tt))

redo_fits : (s : State) → Fits Nowhere s (redo s)
redo_fits s = given_fits Nowhere s _ _ (λ p found. rows_fit Nowhere s _ _ (done_fits Nowhere s _ tt tt tt))

-- ## SAVE NEW_PROOF

-- a proof that may be saved, by whether some step of it is unknown
record IsReady (bytes : List ℕ) (p : ProofState) (some_unknown : Bool) : Type 0 where
  known : some_unknown ≡ false → has_unknown p.proof.plain ≡ false
  settled : some_unknown ≡ false → pending_in bytes p.proof.plain ≡ []
  apart : some_unknown ≡ false → slice_get (clashes_in bytes (distinct_at bytes p.theorem) p.proof.plain) 0 ≡ None

no_first : (xs : List ℕ) → slice_get xs 0 ≡ None → xs ≡ []
no_first [] e = refl
no_first (x ∷ xs) e = cc

unknown_ready : (bytes : List ℕ) (p : ProofState) (some_unknown : Bool) → true ≡ some_unknown → IsReady bytes p some_unknown
unknown_ready bytes p some_unknown e = record { known = λ f. absurd (true≢false (e ∙ f)); settled = λ f. absurd (true≢false (e ∙ f)); apart = λ f. absurd (true≢false (e ∙ f)) }

ok_bool : (a b : Bool) → (let r : Result Bool Refusal = Ok a in r) ≡ Ok b → a ≡ b
ok_bool a b e = cc

is_ready : (bytes : List ℕ) (p : ProofState) (some_unknown : Bool) → unknown_or_ready bytes p ≡ Ok some_unknown → IsReady bytes p some_unknown
unfolding unless
is_ready bytes p some_unknown e =
    at (has_unknown p.proof.plain) refl (slice_get (pending_in bytes p.proof.plain) 0) refl (slice_get (clashes_in bytes (distinct_at bytes p.theorem) p.proof.plain) 0) refl e where
      at : (u : Bool) → has_unknown p.proof.plain ≡ u → (o : Option ℕ) → slice_get (pending_in bytes p.proof.plain) 0 ≡ o → (n : Option Clash) → slice_get (clashes_in bytes (distinct_at bytes p.theorem) p.proof.plain) 0 ≡ n
          → (let r : Result Bool Refusal = if u then Ok true else none_of o NotUnified (none_of n (not_distinct bytes) (Ok false)) in r) ≡ Ok some_unknown → IsReady bytes p some_unknown
      at true is o none n apart e = unknown_ready bytes p some_unknown (ok_bool true some_unknown e)
      at false is (Some step) none n apart e = cc
      at false is None none (Some clash) apart e = cc
      at false is None none None apart e = record { known = λ f. is; settled = λ f. no_first (pending_in bytes p.proof.plain) none; apart = λ f. apart }

no_more : (n m : ℕ) → nat_lt m n ≡ false → n ≤ m
no_more n m h = grind arith

-- what is known of the new database
record IsWith (bytes : List ℕ) (p : ProofState) (form : Form) (new : List ℕ) : Type 0 where
  is : new ≡ saved bytes p.theorem form p.proof.plain
  room : length (saved bytes p.theorem form p.proof.plain) ≤ most_bytes

is_with : (bytes : List ℕ) (p : ProofState) (form : Form) (new : List ℕ) → database_with bytes p form ≡ Ok new → IsWith bytes p form new
unfolding unless
is_with bytes p form new e = at (nat_lt most_bytes (length (saved bytes p.theorem form p.proof.plain))) refl e where
  at : (b : Bool) → nat_lt most_bytes (length (saved bytes p.theorem form p.proof.plain)) ≡ b → unless ((b, TooLong) ∷ []) (Ok (saved bytes p.theorem form p.proof.plain)) ≡ Ok new → IsWith bytes p form new
  at true is e = cc
  at false is e = record { is = cc; room = no_more _ most_bytes is }

-- a complete proof holds in the database in which it is saved
complete_holds : (bytes : List ℕ) (p : ProofState) (form : Form) → is_read bytes ≡ true → IsOpenIn bytes p → length (saved bytes p.theorem form p.proof.plain) ≤ most_bytes → IsReady bytes p false → Holds (saved bytes p.theorem form p.proof.plain) p.theorem
complete_holds bytes p form read h room ready =
    let at : ℕ = p.theorem in
    let x : Plain = p.proof.plain in
    let new : List ℕ = saved bytes at form x in
    let own : HasOwnLabels bytes x = own_labels bytes p h in
    let accepts : Accepts new (label_at bytes at) = accepted_by bytes at read h.theorem x own form room p.proof refl h.own (record {
      valid = h.valid;
      complete = complete_by bytes x (ready.known refl) (ready.settled refl);
      apart = apart_by bytes (distinct_at bytes at) x (ready.apart refl);
    }) in
    let agrees : Agree bytes new = saved_agrees bytes at read h.theorem form x own room in
    let found : find_label bytes (label_at bytes at) ≡ Some at = (has_label bytes at h.own).found in
    let same : accepts.id ≡ at = same_id bytes new (label_at bytes at) accepts.id at agrees.labels accepts.found found in
    let own_now : at < length (labels_of new) = subst (λ (ls : List (List ℕ)). at < length ls) (sym agrees.labels) h.own in
    subst (Holds new) same (record { own = subst (λ (k : ℕ). k < length (labels_of new)) (sym same) own_now; kind = accepts.theorem; accepted = accepts.accepted })
  where
    same_id : (old new label : List ℕ) (i j : ℕ) → labels_of new ≡ labels_of old → find_label new label ≡ Some i → find_label old label ≡ Some j → i ≡ j
    same_id old new label i j same e f = let g : (let o : Option ℕ = Some i in o) ≡ Some j = sym e ∙ ap (λ (ls : List (List ℕ)). position (bytes_eq label) ls) same ∙ f in cc

is_saving : (bytes : List ℕ) (p : ProofState) (form : Form) (some_unknown : Bool) (new : List ℕ) → is_read bytes ≡ true → IsOpenIn bytes p → IsReady bytes p some_unknown → IsWith bytes p form new
    → IsSaving bytes (record { database = new; theorem = record { 0 = p.theorem }; complete = not some_unknown })
is_saving bytes p form some_unknown new read h ready w =
    subst (λ (b : List ℕ). IsSaving bytes (record { database = b; theorem = record { 0 = p.theorem }; complete = not some_unknown })) (sym w.is) (
    let at : ℕ = p.theorem in
    let x : Plain = p.proof.plain in
    let keeps : KeepsTheRest bytes at (saved_text bytes at form x) = saved_keeps bytes at read h.theorem form x (own_labels bytes p h) w.room in
    record {
      is = ap (spliced bytes at) (sym keeps.proof_is);
      keeps = subst (KeepsTheRest bytes at) (sym keeps.proof_is) keeps;
      made = subst (λ (t : List ℕ). CanBeMade bytes bytes (record { theorem = at; text = t })) (sym keeps.proof_is) (record { theorem = h.theorem; text = text_fine bytes at form x (own_labels bytes p h); room = w.room });
      accepted = λ complete. complete_holds bytes p form read h w.room (subst (IsReady bytes p) (known_by some_unknown complete) ready);
    })
  where
    known_by : (b : Bool) → not b ≡ true → b ≡ false
    known_by true e = absurd (true≢false (sym e))
    known_by false e = refl

save_fits : (s : State) (compressed guarded_too : Bool) → IsSound s → Fits Nowhere s (save s compressed guarded_too)
save_fits s compressed guarded_too sound =
    given_fits Nowhere s _ _ (λ here found. rows_fit Nowhere s _ _ (given_fits Nowhere s _ _ (λ some_unknown ready. given_fits Nowhere s _ _ (λ new is. done_fits Nowhere s _ (
    let k : (s.database ≡ Some here.0) × (s.open_proof ≡ Some here.1) = proof_found s.database s.open_proof here found in
    let h : AreSound (Some here.0) (Some here.1) = subst (λ (d : Option (List ℕ)). AreSound d (Some here.1)) k.0 (subst (λ (o : Option ProofState). AreSound s.database o) k.1 sound) in
    subst (λ (d : Option (List ℕ)). SavesIn d (record { database = new; theorem = record { 0 = here.1.theorem }; complete = not some_unknown })) (sym k.0)
    (is_saving here.0 here.1 (form_of compressed) some_unknown new h.0 h.1 (is_ready here.0 here.1 some_unknown ready) (is_with here.0 here.1 (form_of compressed) new is))) tt tt))))

-- ## EXIT

exit_fits : (s : State) (force : Bool) (p : Option ProofState) → Fits Nowhere s (exit_by s force p)
exit_fits s force (Some p) = rows_fit Nowhere s _ _ (done_fits Nowhere s _ tt tt tt)
exit_fits s force None = rows_fit Nowhere s _ _ (done_fits Nowhere s _ tt refl tt)

pub proof_fits : (m : Meaning) (s : State) → IsSound s → Fits Nowhere s (proof_answer m s)
unfolding proof_answer
proof_fits meaning.Nothing s sound = done_fits Nowhere s _ tt tt tt
proof_fits (meaning.ShowNewProof only_unknown) s sound = show_fits s only_unknown
proof_fits (meaning.Prove label guarded_too) s sound = prove_fits s label guarded_too
proof_fits meaning.Undo s sound = undo_fits s
proof_fits meaning.Redo s sound = redo_fits s
proof_fits (meaning.Save normal compressed guarded_too) s sound = save_fits s compressed guarded_too sound
proof_fits (meaning.Exit force) s sound = exit_fits s force s.open_proof
proof_fits _ s sound = refused_fits Nowhere s NotBuilt
