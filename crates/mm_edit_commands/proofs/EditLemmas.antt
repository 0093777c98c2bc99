-- What an edit answers.
use Rattle.std.proofs.Common.{◌≡◌, ◌≢◌, ℕ, ◌+◌, Bool, true, false, List, [], ◌∷◌, length, nat_lt, Option, None, Some, Result, Ok, Err, refl, sym, ◌∙◌, ap, subst}
use Rattle.std.specs.Prelude.{filter_map}
use Rattle.mm_plain.specs.Numbers.{labels_in, unknowns_among}
use Rattle.mm_plain.specs.Shape.{Proof, size_of}
use Rattle.mm_plain.specs.declared.plain.Plain.{Plain}
use Rattle.mm_subst.specs.Applied.{most_symbols}
use Rattle.mm_subst.specs.Parsing.{first_bad, meanings}
use Rattle.mm_subst.specs.Substitutions.{Pairs}
use Rattle.mm_subst.specs.declared.symbol.WSym.{WSym}
use Rattle.mm_tree.specs.Versions.{Versions}
use Rattle.mm_undo.specs.Histories.{KeepsSettled}
use Rattle.mm_unify.specs.declared.listing.Listing.{Listing}
use Rattle.mm_unify.specs.declared.listing.Settings.{Settings}
use Rattle.mm_edit.specs.Counts.{pending_count, unknown_count}
use Rattle.mm_edit.specs.Edited.{IsDone, IsRefusal, IsUnified, Shows}
use Rattle.mm_edit.specs.Listed.{listed_at}
use Rattle.mm_edit.specs.Unifying.{listing_shown}
use Rattle.mm_edit.specs.declared.edit_fault.EditFault.{EditFault}
use Rattle.mm_edit.specs.declared.edit_fault.EditFault.TheVariants as fault
use Rattle.mm_edit.specs.declared.unification.UnifyFault.{UnifyFault}
use Rattle.mm_edit.proofs.Pending.{unknowns_counted}
use Rattle.mm_shell.specs.Answers.{given, none_of, or_refusal, refusal_takes, unless}
use Rattle.mm_shell.specs.Choices.{choices_text}
use Rattle.mm_shell.specs.OpenProofs.{ProofState, after_edit}
use Rattle.mm_shell.specs.declared.refusal.Refusal.{Refusal}
use Rattle.mm_shell.specs.declared.refusal.Refusal.TheVariants.{BadSymbol, LengthSpent, OutOfMemory, SeveralUnifiers, TooLong, TrialsSpent}
use Rattle.mm_command.specs.Meanings.{Meaning}
use Rattle.mm_edit_commands.specs.Edits.{Edit, EditsTree, EditsProof, counts_of, edit_of, edit_in, edit_takes}
use Rattle.mm_edit_commands.specs.Refusals.{edit_refusal, found_in, unify_refusal, wrong_word}
use Rattle.mm_edit_commands.specs.Values.{GivesValue, is_empty, symbols_of, value_of}
use Rattle.mm_edit_commands.specs.declared.edits.Counts.{Counts}

-- ## A tree that no edit has changed

pub settled_stay : (v : Versions) → KeepsSettled v v
settled_stay v m settled alive = record { alive = alive; same = refl }

-- ## What an edit of a tree answers, as a refusal

pub fault_takes : (label : List ℕ) (k : ℕ) (f : EditFault) → refusal_takes (edit_refusal label k f) ≡ true
fault_takes label k fault.NotEarlier = refl
fault_takes label k fault.HypothesisNotActive = refl
fault_takes label k fault.NoSuchStep = refl
fault_takes label k fault.StepKnown = refl
fault_takes label k fault.StepUnknown = refl
fault_takes label k fault.HasWork = refl
fault_takes label k fault.NotPending = refl
fault_takes label k fault.OccursInValue = refl
fault_takes label k fault.NothingChanged = refl
fault_takes label k fault.TooManySteps = refl
fault_takes label k fault.TooDeep = refl
fault_takes label k fault.WorkSpent = refl
fault_takes label k fault.NoUnifier = refl
fault_takes label k fault.TrialsSpent = refl
fault_takes label k fault.LengthSpent = refl
fault_takes label k (fault.Ambiguous n) = refl
fault_takes label k (fault.NoSuchChoice n) = refl
fault_takes label k (fault.TooLong step) = refl
fault_takes label k fault.Memory = refl

pub unify_takes : (bytes : List ℕ) (k : ℕ) (found : List Pairs) (f : EditFault) → refusal_takes (unify_refusal bytes k found f) ≡ true
unify_takes bytes k found fault.TrialsSpent = refl
unify_takes bytes k found fault.LengthSpent = refl
unify_takes bytes k found (fault.Ambiguous n) = refl
unify_takes bytes k found f = fault_takes [] k f

takes_by : (refuse : EditFault → Refusal) → ((f : EditFault) → refusal_takes (refuse f) ≡ true) → (r : Result Proof EditFault) → edit_takes (or_refusal r refuse) ≡ true
takes_by refuse h (Ok p) = refl
takes_by refuse h (Err f) = h f

-- it takes memory, whatever comes of it
pub edit_takes_memory : (label : List ℕ) (k : ℕ) (r : Result Proof EditFault) → edit_takes (or_refusal r (edit_refusal label k)) ≡ true
edit_takes_memory label k r = takes_by (edit_refusal label k) (fault_takes label k) r

pub unify_takes_memory : (bytes : List ℕ) (k : ℕ) (found : List Pairs) (r : Result Proof EditFault) → edit_takes (or_refusal r (unify_refusal bytes k found)) ≡ true
unify_takes_memory bytes k found r = takes_by (unify_refusal bytes k found) (unify_takes bytes k found) r

refused_as : (meaning : Result Proof Refusal) (old now : Proof) (r : Refusal) → edit_takes meaning ≡ true → (r ≢ OutOfMemory → Err r ≡ meaning) → now ≡ old → EditsTree meaning old (Err r) now
refused_as meaning old now OutOfMemory takes is same = (takes, same)
refused_as meaning old now r takes is same = (is (λ e. cc), same)

refused_by : (refuse : EditFault → Refusal) → ((r : Result Proof EditFault) → edit_takes (or_refusal r refuse) ≡ true) → refuse fault.Memory ≡ OutOfMemory
    → (meaning : Result Proof EditFault) (f : EditFault) (old now : Proof) → IsRefusal meaning f → now ≡ old → EditsTree (or_refusal meaning refuse) old (Err (refuse f)) now
refused_by refuse takes memory meaning f old now is same =
    refused_as (or_refusal meaning refuse) old now (refuse f) (takes meaning)
    (λ other. sym (ap (λ (x : Result Proof EditFault). or_refusal x refuse) (is (λ e. other (ap refuse e ∙ memory))))) same

pub edit_refused : (label : List ℕ) (k : ℕ) (meaning : Result Proof EditFault) (f : EditFault) (old now : Proof) → IsDone meaning (Err f) old now
    → EditsTree (or_refusal meaning (edit_refusal label k)) old (Err (edit_refusal label k f)) now
edit_refused label k meaning f old now h = refused_by (edit_refusal label k) (edit_takes_memory label k) refl meaning f old now h.0 h.1

pub edit_done : (refuse : EditFault → Refusal) (meaning : Result Proof EditFault) (old now : Proof) → meaning ≡ Ok now → EditsTree (or_refusal meaning refuse) old (Ok tt) now
edit_done refuse meaning old now e = ap (λ (x : Result Proof EditFault). or_refusal x refuse) e

-- the same of an edit of the step j, which a word names
pub step_done : (label : List ℕ) (k j : ℕ) (edit : ℕ → Result Proof EditFault) (old now : Proof) → k ≡ j → edit k ≡ Ok now
    → EditsTree (or_refusal (edit j) (edit_refusal label j)) old (Ok tt) now
step_done label k j edit old now named e = edit_done (edit_refusal label j) (edit j) old now (ap edit (sym named) ∙ e)

pub step_refused : (label : List ℕ) (k j : ℕ) (edit : ℕ → Result Proof EditFault) (f : EditFault) (old now : Proof) (r : Refusal) → k ≡ j → r ≡ edit_refusal label k f → IsDone (edit k) (Err f) old now
    → EditsTree (or_refusal (edit j) (edit_refusal label j)) old (Err r) now
step_refused label k j edit f old now r named is h =
    subst (λ (i : ℕ). EditsTree (or_refusal (edit i) (edit_refusal label i)) old (Err r) now) named
    (subst (λ (x : Refusal). EditsTree (or_refusal (edit k) (edit_refusal label k)) old (Err x) now) (sym is)
    (edit_refused label k (edit k) f old now h))

-- ## UNIFY STEP

-- the unifiers that a refusal tells are those that were found
told_same : (bytes : List ℕ) (set : Settings) (y : Plain) (k : ℕ) (f : EditFault) (o : Option Listing) → Shows o (listing_shown bytes set y f)
    → unify_refusal bytes k (found_in o) f ≡ unify_refusal bytes k (listed_at bytes set y).found f
told_same bytes set y k fault.TrialsSpent (Some t) h = ap (λ (us : List Pairs). TrialsSpent (choices_text bytes us)) h.0
told_same bytes set y k fault.TrialsSpent None h = absurd h
told_same bytes set y k fault.LengthSpent (Some t) h = ap (λ (us : List Pairs). LengthSpent (choices_text bytes us)) h.0
told_same bytes set y k fault.LengthSpent None h = absurd h
told_same bytes set y k (fault.Ambiguous n) (Some t) h = ap (λ (us : List Pairs). SeveralUnifiers (choices_text bytes us) k n) h.0
told_same bytes set y k (fault.Ambiguous n) None h = absurd h
told_same bytes set y k f o h = refl

pub unify_refused : (bytes : List ℕ) (set : Settings) (y : Plain) (k : ℕ) (meaning : Result Proof EditFault) (u : UnifyFault) (old now : Proof) (r : Refusal)
    → IsUnified meaning (Err u) old now → Shows u.listing (listing_shown bytes set y u.fault) → r ≡ unify_refusal bytes k (found_in u.listing) u.fault
    → EditsTree (or_refusal meaning (unify_refusal bytes k (listed_at bytes set y).found)) old (Err r) now
unify_refused bytes set y k meaning u old now r h shows is =
    let found : List Pairs = (listed_at bytes set y).found in
    subst (λ (x : Refusal). EditsTree (or_refusal meaning (unify_refusal bytes k found)) old (Err x) now) (sym (is ∙ told_same bytes set y k u.fault u.listing shows))
    (refused_by (unify_refusal bytes k found) (unify_takes_memory bytes k found) refl meaning u.fault old now h.0 h.1)

-- ## LET

value_takes_by : (ms : List (Option WSym)) (next : List WSym → Result Proof Refusal) → ((v : List WSym) → edit_takes (next v) ≡ true) → edit_takes (given (symbols_of ms) next) ≡ true
unfolding given unless
value_takes_by ms next h = by (first_bad ms) (nat_lt most_symbols (length ms)) where
  by : (o : Option ℕ) (long : Bool) → edit_takes (given (none_of o (λ i. BadSymbol (i + 1)) (unless ((long, TooLong) ∷ []) (Ok (filter_map (λ m. m) ms)))) next) ≡ true
  by (Some i) long = refl
  by None true = refl
  by None false = h _

value_takes : (bytes : List ℕ) (theorem : ℕ) (p : Proof) (text : List ℕ) (k : ℕ) (edit : List WSym → Result Proof EditFault)
    → edit_takes (given (value_of bytes theorem p text) (λ v. or_refusal (edit v) (edit_refusal [] k))) ≡ true
unfolding value_of
value_takes bytes theorem p text k edit = value_takes_by (meanings bytes theorem p.next text) _ (λ v. edit_takes_memory [] k (edit v))

-- the text has no value
value_refused : (bytes : List ℕ) (theorem : ℕ) (p : Proof) (text : List ℕ) (k : ℕ) (edit : List WSym → Result Proof EditFault) (r : Refusal) → GivesValue (value_of bytes theorem p text) (Err r)
    → EditsTree (given (value_of bytes theorem p text) (λ v. or_refusal (edit v) (edit_refusal [] k))) p (Err r) p
unfolding given
value_refused bytes theorem p text k edit OutOfMemory h = (value_takes bytes theorem p text k edit, refl)
value_refused bytes theorem p text k edit r h = (sym (ap (λ (x : Result (List WSym) Refusal). given x (λ v. or_refusal (edit v) (edit_refusal [] k))) h), refl)

-- it has one
value_given : (bytes : List ℕ) (theorem : ℕ) (p : Proof) (text : List ℕ) (k : ℕ) (edit : List WSym → Result Proof EditFault) (v : List WSym) (r : Result Unit Refusal) (now : Proof) → value_of bytes theorem p text ≡ Ok v
    → EditsTree (or_refusal (edit v) (edit_refusal [] k)) p r now → EditsTree (given (value_of bytes theorem p text) (λ v. or_refusal (edit v) (edit_refusal [] k))) p r now
unfolding given
value_given bytes theorem p text k edit v r now is h =
    subst (λ (x : Result Proof Refusal). EditsTree x p r now) (sym (ap (λ (x : Result (List WSym) Refusal). given x (λ v. or_refusal (edit v) (edit_refusal [] k))) is)) h

past_test : (test : Bool) (x : Refusal) (rest : Result Proof Refusal) (old now : Proof) (r : Result Unit Refusal) → test ≡ false → EditsTree rest old r now → EditsTree (unless ((test, x) ∷ []) rest) old r now
unfolding unless
past_test false x rest old now r e h = h
past_test true x rest old now r e h = cc

-- both, of a text that has a word
module _ (bytes : List ℕ) (theorem : ℕ) (p : Proof) (text : List ℕ) (word k : ℕ) (edit : List WSym → Result Proof EditFault) (some : is_empty text ≡ false) where
  abbrev put : Result Proof Refusal
  put = given (value_of bytes theorem p text) (λ v. or_refusal (edit v) (edit_refusal [] k))

  pub let_refused : (r : Refusal) → GivesValue (value_of bytes theorem p text) (Err r) → EditsTree (unless ((is_empty text, wrong_word word) ∷ []) put) p (Err r) p
  let_refused r h = past_test (is_empty text) (wrong_word word) put p p (Err r) some (value_refused bytes theorem p text k edit r h)

  pub let_given : (v : List WSym) (r : Result Unit Refusal) (now : Proof) → value_of bytes theorem p text ≡ Ok v → EditsTree (or_refusal (edit v) (edit_refusal [] k)) p r now
      → EditsTree (unless ((is_empty text, wrong_word word) ∷ []) put) p r now
  let_given v r now is h = past_test (is_empty text) (wrong_word word) put p now r some (value_given bytes theorem p text k edit v r now is h)

-- ## The ending of every edit

pub counted_so : (bytes : List ℕ) (q : Proof) (steps unknown pending : ℕ) → steps ≡ size_of q.plain → unknown ≡ unknowns_among (labels_in q.plain) → pending ≡ pending_count bytes q.plain
    → (let n : Counts = record { steps = steps; unknown = unknown; pending = pending } in n) ≡ counts_of bytes q
counted_so bytes q steps unknown pending s u p =
    ap (λ (k : ℕ). let n : Counts = record { steps = k; unknown = unknown; pending = pending } in n) s
    ∙ ap (λ (k : ℕ). let n : Counts = record { steps = size_of q.plain; unknown = k; pending = pending } in n) (u ∙ unknowns_counted q.plain)
    ∙ ap (λ (k : ℕ). let n : Counts = record { steps = size_of q.plain; unknown = unknown_count q.plain; pending = k } in n) p

edit_ended : (bytes : List ℕ) (meaning : Result Proof Refusal) (p : ProofState) (q : Proof) (counts : Counts) → meaning ≡ Ok q → counts ≡ counts_of bytes q
    → EditsProof (given meaning (λ q. Ok (record { counts = counts_of bytes q; open_proof = after_edit p q }))) p (Ok counts) (after_edit p q)
unfolding given
edit_ended bytes meaning p q counts e c = rw e (ap (λ (n : Counts). let x : Result Edit Refusal = Ok (record { counts = n; open_proof = after_edit p q }) in x) c)

refused_so : (bytes : List ℕ) (meaning : Result Proof Refusal) (p : ProofState) (r : Refusal) → Err r ≡ meaning
    → (let x : Result Edit Refusal = Err r in x) ≡ given meaning (λ q. Ok (record { counts = counts_of bytes q; open_proof = after_edit p q }))
unfolding given
refused_so bytes meaning p r e = rw (sym e) refl

takes_so : (bytes : List ℕ) (meaning : Result Proof Refusal) (p : ProofState) → edit_takes meaning ≡ true
    → edit_takes (given meaning (λ q. let x : Result Edit Refusal = Ok (record { counts = counts_of bytes q; open_proof = after_edit p q }) in x)) ≡ true
unfolding given
takes_so bytes (Ok q) p e = refl
takes_so bytes (Err r) p e = e

-- it is refused
pub proof_refused : (set : Settings) (bytes : List ℕ) (m : Meaning) (p now : ProofState) (q : Proof) (r : Refusal) → EditsTree (edit_of m set bytes p.theorem p.proof) p.proof (Err r) q → (q ≡ p.proof → now ≡ p) → EditsProof (edit_in m set bytes p) p (Err r) now
proof_refused set bytes m p now q OutOfMemory h same = (takes_so bytes (edit_of m set bytes p.theorem p.proof) p h.0, same h.1)
proof_refused set bytes m p now q r h same = (refused_so bytes (edit_of m set bytes p.theorem p.proof) p r h.0, same h.1)

-- there is no memory to count
pub proof_starved : (set : Settings) (bytes : List ℕ) (m : Meaning) (p now : ProofState) (q : Proof) → edit_of m set bytes p.theorem p.proof ≡ Ok q → now ≡ p → EditsProof (edit_in m set bytes p) p (Err OutOfMemory) now
proof_starved set bytes m p now q e same = (takes_so bytes (edit_of m set bytes p.theorem p.proof) p (ap edit_takes e), same)

-- it is kept
pub proof_edited : (set : Settings) (bytes : List ℕ) (m : Meaning) (p now : ProofState) (q : Proof) (counts : Counts) → edit_of m set bytes p.theorem p.proof ≡ Ok q → counts ≡ counts_of bytes q → now ≡ after_edit p q → EditsProof (edit_in m set bytes p) p (Ok counts) now
proof_edited set bytes m p now q counts e c same = subst (λ (x : ProofState). EditsProof (edit_in m set bytes p) p (Ok counts) x) (sym same) (edit_ended bytes (edit_of m set bytes p.theorem p.proof) p q counts e c)
