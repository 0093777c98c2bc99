-- What a step keeps, if there is no fault.
use Rattle.std.proofs.Common.{◌≡◌, ℕ, Bool, true, false, cond, not, ◌||◌, List, [], ◌∷◌, ◌++◌, Option, None, Some, length, position, slice_index, nat_lt, nat_eq, Result, Ok, Err, refl, sym, ◌∙◌, subst, arith, length-append, ◌<◌}
use Rattle.std.proofs.Math.Seq.{get_or-append_seam}
use Rattle.std.proofs.lemmas.Bool.{eqb-true, true≢false}
use Rattle.std.specs.List.{list_any}
use Rattle.std.specs.Str.{bytes_eq}
use Rattle.mm_tokens.specs.Words.{is_bad_label, is_bad_symbol}
use Rattle.mm_scope.specs.Events.{Event, put, constant, variable, float, essential, asserted, theorem, distinct, opened, closed, symbols, labels, open_blocks}
use Rattle.mm_scope.specs.Looks.{look_back, known_as}
use Rattle.mm_scope.specs.Steps.{most_label, Answers, State, unless, symbol_checks, take_symbol, is_full, a_label, a_constant, a_variable, a_float, a_symbol, a_distinct, at_text, at_end, at_proof, unlabelled, at_constants, labelled, at_open, at_close, step_by}
use Rattle.mm_tokens.specs.declared.word.Word.{Word}
use Rattle.mm_tokens.specs.declared.word.Word.TheVariants as word
use Rattle.mm_scope.specs.declared.mode.Mode.{Mode}
use Rattle.mm_scope.specs.declared.mode.Mode.TheVariants as mode
use Rattle.mm_scope.specs.declared.fault.ReadFault.{ReadFault}
use Rattle.mm_scope.proofs.Agreements.{IsReady, ready_as}
use Rattle.mm_scope.proofs.Held.{Held, held_constant, held_variable, held_float, held_essential, held_asserted, held_theorem, held_distinct, held_opened, held_closed}
use Rattle.mm_scope.proofs.Declared.{neither}
use Rattle.mm_scope.proofs.Whole.{IfFine}

abbrev pub AllOff : List (Bool × ReadFault) → Type 0
AllOff [] = Unit {0}
AllOff (c ∷ cs) = (c.0 ≡ false) × AllOff cs

pub fine_if : {A : Type 0} (b : Bool) (x y : Result A ReadFault) (P : A → Type 0) → (b ≡ true → IfFine x P) → (b ≡ false → IfFine y P) → IfFine (cond b x y) P
fine_if true x y P on off = on refl
fine_if false x y P on off = off refl

pub fine_unless : {A : Type 0} (cs : List (Bool × ReadFault)) (x : A) (P : A → Type 0) → (AllOff cs → P x) → IfFine (unless cs (Ok x)) P
fine_unless [] x P h = h tt
fine_unless (c ∷ cs) x P h = fine_if c.0 (Err c.1) (unless cs (Ok x)) P (λ _. tt) (λ e. fine_unless cs x P (λ off. h (e, off)))

-- the label of the statement that is begun is new
abbrev pub Fresh : Mode → List ℕ → List Event → Type 0
Fresh mode.Start l past = Unit {0}
Fresh mode.Constants l past = Unit {0}
Fresh mode.Variables l past = Unit {0}
Fresh mode.Distinct l past = Unit {0}
Fresh mode.Labelled l past = list_any (bytes_eq l) (labels past) ≡ false
Fresh mode.Float l past = list_any (bytes_eq l) (labels past) ≡ false
Fresh mode.Essential l past = list_any (bytes_eq l) (labels past) ≡ false
Fresh mode.Axiom l past = list_any (bytes_eq l) (labels past) ≡ false
Fresh mode.Theorem l past = list_any (bytes_eq l) (labels past) ≡ false
Fresh mode.Proof l past = list_any (bytes_eq l) (labels past) ≡ false

-- the variable of a `$f` has none yet, and a theorem whose proof is begun has a symbol
abbrev pub Ready : Mode → List ℕ → List Event → Type 0
Ready mode.Float ss past = length ss ≡ 2 → IsReady past (slice_index ss 1)
Ready mode.Proof ss past = 0 < length ss
Ready _ ss past = Unit {0}

pub record GoodAt (past : List Event) (m : Mode) (l ss : List ℕ) : Type 0 where
  pub held : Held past
  pub fresh : Fresh m l past
  pub ready : Ready m ss past

abbrev pub Good : State (List Event) → Type 0
Good s = GoodAt s.context s.mode s.label s.buffer

-- no statement is begun
between : (past : List Event) (l ss : List ℕ) → Held past → GoodAt past mode.Start l ss
between past l ss h = record { held = h; fresh = tt; ready = tt }

label_as : (past : List Event) (t : List ℕ) (r : Option ℕ) → (known_as past t r).label ≡ list_any (bytes_eq t) (labels past)
label_as past t None = refl
label_as past t (Some n) = refl

deep_as : (past : List Event) (t : List ℕ) (r : Option ℕ) → (known_as past t r).deep ≡ not (nat_eq (length (open_blocks past)) 0)
deep_as past t None = refl
deep_as past t (Some n) = refl

a_label_keeps : (s : State (List Event)) (t : List ℕ) (p : ℕ) → Good s → IfFine (a_label s (look_back s.context t) t p) Good
unfolding a_label
a_label_keeps s t p g =
    let a : Answers = look_back s.context t in
    fine_if (is_bad_label t) _ _ Good (λ _. tt) (λ _.
    fine_if (a.label || a.known) _ _ Good (λ _. tt) (λ off.
    fine_if (nat_lt most_label (length t)) _ _ Good (λ _. tt) (λ _.
    record { held = g.held; fresh = sym (label_as s.context t (position (bytes_eq t) (symbols s.context))) ∙ (neither a.label a.known off).0; ready = tt })))

-- what the next token adds to a statement
with_buffer : (s : State (List Event)) (m : Mode) → s.mode ≡ m → (ss : List ℕ) → Good s → Ready m ss s.context → GoodAt s.context s.mode s.label ss
with_buffer s m e ss g r = record { held = g.held; fresh = g.fresh; ready = subst (λ n. Ready n ss s.context) (sym e) r }

a_symbol_keeps : (s : State (List Event)) (m : Mode) → s.mode ≡ m → ((ss : List ℕ) → Ready m ss s.context) → (a : Answers) (p : ℕ) → Good s → IfFine (a_symbol s a p) Good
unfolding a_symbol
a_symbol_keeps s m e ready a p g =
    fine_unless (symbol_checks s a p) (take_symbol s a.number) Good (λ _. with_buffer s m e (s.buffer ++ a.number ∷ []) g (ready (s.buffer ++ a.number ∷ [])))

a_distinct_keeps : (s : State (List Event)) → s.mode ≡ mode.Distinct → (a : Answers) (p : ℕ) → Good s → IfFine (a_distinct s a p) Good
unfolding a_distinct
a_distinct_keeps s e a p g =
    fine_if (not (a.constant || a.active)) _ _ Good (λ _. tt) (λ _.
    fine_if (a.constant || list_any (nat_eq a.number) s.buffer) _ _ Good (λ _. tt) (λ _.
    fine_if (is_full s) _ _ Good (λ _. tt) (λ _.
    with_buffer s mode.Distinct e (s.buffer ++ a.number ∷ []) g tt)))

alive : (c b : Bool) → not (c || b) ≡ false → c ≡ false → b ≡ true
alive true b h e = absurd (true≢false e)
alive false true h e = refl
alive false false h e = absurd (true≢false h)

last_ready : (past : List Event) (ss : List ℕ) (n : ℕ) → length (ss ++ n ∷ []) ≡ 2 → IsReady past n → IsReady past (slice_index (ss ++ n ∷ []) 1)
last_ready past ss n two r =
    let one : length ss ≡ 1 = omega (arith, length-append ss (n ∷ []), two) in
    subst (IsReady past) (sym (subst (λ j. slice_index (ss ++ n ∷ []) j ≡ n) one (get_or-append_seam ss n [] 0))) r

first_only : (past : List Event) (ss : List ℕ) (n : ℕ) → length ss ≡ 0 → length (ss ++ n ∷ []) ≡ 2 → IsReady past (slice_index (ss ++ n ∷ []) 1)
first_only past ss n none two = absurd (omega (arith, length-append ss (n ∷ []), two, none))

a_float_keeps : (s : State (List Event)) → s.mode ≡ mode.Float → (t : List ℕ) (p : ℕ) → Good s → IfFine (a_float s (look_back s.context t) p) Good
unfolding a_float
a_float_keeps s e t p g =
    let past : List Event = s.context in
    let a : Answers = look_back past t in
    let more : List ℕ = s.buffer ++ a.number ∷ [] in
    fine_if (not (a.constant || a.active)) _ _ Good (λ _. tt) (λ live.
    fine_if (nat_eq (length s.buffer) 0) _ _ Good
    (λ none. fine_if a.constant _ _ Good (λ _. with_buffer s mode.Float e more g (first_only past s.buffer a.number (eqb-true (length s.buffer) 0 none))) (λ _. tt)) (λ _.
    fine_if (nat_lt 1 (length s.buffer) || a.constant) _ _ Good (λ _. tt) (λ off.
    fine_if a.floated _ _ Good (λ _. tt) (λ free.
    with_buffer s mode.Float e more g (λ two. last_ready past s.buffer a.number two
    (ready_as past t (position (bytes_eq t) (symbols past)) refl (alive a.constant a.active live (neither (nat_lt 1 (length s.buffer)) a.constant off).1) free))))))

a_constant_keeps : (s : State (List Event)) → s.mode ≡ mode.Constants → (t : List ℕ) (p : ℕ) → Good s → IfFine (a_constant put s (look_back s.context t) t p) Good
unfolding a_constant
a_constant_keeps s e t p g =
    let past : List Event = s.context in
    let a : Answers = look_back past t in
    fine_if (is_bad_symbol t) _ _ Good (λ _. tt) (λ _.
    fine_if (a.known || a.label) _ _ Good (λ _. tt) (λ off.
    fine_if (is_full s) _ _ Good (λ _. tt) (λ _.
    subst (λ m. GoodAt (constant t a.number ∷ past) m s.label (s.buffer ++ a.number ∷ [])) (sym e)
    (record { held = held_constant past t (position (bytes_eq t) (symbols past)) refl (neither a.known a.label off).0 g.held; fresh = tt; ready = tt }))))

a_variable_keeps : (s : State (List Event)) → s.mode ≡ mode.Variables → (t : List ℕ) (p : ℕ) → Good s → IfFine (a_variable put s (look_back s.context t) t p) Good
unfolding a_variable
a_variable_keeps s e t p g =
    let past : List Event = s.context in
    let a : Answers = look_back past t in
    fine_if (is_bad_symbol t) _ _ Good (λ _. tt) (λ _.
    fine_if (a.active || a.constant || a.label) _ _ Good (λ _. tt) (λ off.
    fine_if (is_full s) _ _ Good (λ _. tt) (λ _.
    subst (λ m. GoodAt (variable t a.number ∷ past) m s.label (s.buffer ++ a.number ∷ [])) (sym e)
    (record { held = held_variable past t (position (bytes_eq t) (symbols past)) refl (neither a.active a.constant (neither (a.active || a.constant) a.label off).0).0 g.held; fresh = tt; ready = tt }))))

at_text_keeps : (s : State (List Event)) (m : Mode) → s.mode ≡ m → (t : List ℕ) (p : ℕ) → Good s → IfFine (at_text put s m (look_back s.context t) t p) Good
unfolding at_text
at_text_keeps s mode.Start e t p g = a_label_keeps s t p g
at_text_keeps s mode.Labelled e t p g = tt
at_text_keeps s mode.Constants e t p g = a_constant_keeps s e t p g
at_text_keeps s mode.Variables e t p g = a_variable_keeps s e t p g
at_text_keeps s mode.Distinct e t p g = a_distinct_keeps s e (look_back s.context t) p g
at_text_keeps s mode.Float e t p g = a_float_keeps s e t p g
at_text_keeps s mode.Essential e t p g = a_symbol_keeps s mode.Essential e (λ _. tt) (look_back s.context t) p g
at_text_keeps s mode.Axiom e t p g = a_symbol_keeps s mode.Axiom e (λ _. tt) (look_back s.context t) p g
at_text_keeps s mode.Theorem e t p g = a_symbol_keeps s mode.Theorem e (λ _. tt) (look_back s.context t) p g
at_text_keeps s mode.Proof e t p g = g

-- a statement ends
some_length : (n : ℕ) → nat_eq n 0 ≡ false → 0 < n
some_length n h = grind (arith, h)

at_end_keeps : (s : State (List Event)) (m : Mode) → GoodAt s.context m s.label s.buffer → (p : ℕ) → IfFine (at_end put s m p) Good
unfolding at_end
at_end_keeps s mode.Start g p = tt
at_end_keeps s mode.Labelled g p = tt
at_end_keeps s mode.Constants g p = fine_if (nat_eq (length s.buffer) 0) _ _ Good (λ _. tt) (λ _. between s.context s.label [] g.held)
at_end_keeps s mode.Variables g p = fine_if (nat_eq (length s.buffer) 0) _ _ Good (λ _. tt) (λ _. between s.context s.label [] g.held)
at_end_keeps s mode.Distinct g p =
    fine_if (nat_lt (length s.buffer) 2) _ _ Good (λ _. tt) (λ _. between (distinct s.buffer ∷ s.context) s.label [] (held_distinct s.context s.buffer g.held))
at_end_keeps s mode.Float g p =
    fine_if (nat_eq (length s.buffer) 2) _ _ Good
    (λ two. let length_two : length s.buffer ≡ 2 = eqb-true (length s.buffer) 2 two in
    between (float s.label s.buffer s.described ∷ s.context) s.label [] (held_float s.context s.label s.buffer s.described g.fresh (g.ready length_two) length_two g.held)) (λ _. tt)
at_end_keeps s mode.Essential g p =
    fine_if (nat_eq (length s.buffer) 0) _ _ Good (λ _. tt)
    (λ none. between (essential s.label s.buffer s.described ∷ s.context) s.label [] (held_essential s.context s.label s.buffer s.described g.fresh (some_length (length s.buffer) none) g.held))
at_end_keeps s mode.Axiom g p =
    fine_if (nat_eq (length s.buffer) 0) _ _ Good (λ _. tt)
    (λ none. between (asserted s.label s.buffer s.described ∷ s.context) s.label [] (held_asserted s.context s.label s.buffer s.described g.fresh (some_length (length s.buffer) none) g.held))
at_end_keeps s mode.Theorem g p = tt
at_end_keeps s mode.Proof g p =
    between (theorem s.label s.buffer s.proof p s.described ∷ s.context) s.label [] (held_theorem s.context s.label s.buffer s.proof p s.described g.fresh g.ready g.held)

at_proof_keeps : (s : State (List Event)) (m : Mode) → GoodAt s.context m s.label s.buffer → (p : ℕ) → IfFine (at_proof s m p) Good
unfolding at_proof
at_proof_keeps s mode.Theorem g p =
    fine_if (nat_eq (length s.buffer) 0) _ _ Good (λ _. tt) (λ none. record { held = g.held; fresh = g.fresh; ready = some_length (length s.buffer) none })
at_proof_keeps s _ g p = tt

unlabelled_keeps : (s : State (List Event)) (m n : Mode) → GoodAt s.context m s.label s.buffer → Fresh n s.label s.context → Ready n [] s.context → (p : ℕ) → IfFine (unlabelled s m n p) Good
unfolding unlabelled
unlabelled_keeps s mode.Start n g fresh ready p = record { held = g.held; fresh = fresh; ready = ready }
unlabelled_keeps s mode.Labelled n g fresh ready p = tt
unlabelled_keeps s _ n g fresh ready p = tt

at_constants_keeps : (s : State (List Event)) (m : Mode) → Good s → (deep : Bool) (p : ℕ) → IfFine (at_constants s m deep p) Good
unfolding at_constants
at_constants_keeps s mode.Start g deep p = fine_if deep _ _ Good (λ _. tt) (λ _. record { held = g.held; fresh = tt; ready = tt })
at_constants_keeps s mode.Labelled g deep p = fine_if deep _ _ Good (λ _. tt) (λ _. tt)
at_constants_keeps s _ g deep p = tt

labelled_keeps : (s : State (List Event)) (m n : Mode) → GoodAt s.context m s.label s.buffer → (list_any (bytes_eq s.label) (labels s.context) ≡ false → Fresh n s.label s.context) → Ready n [] s.context
    → (p : ℕ) → IfFine (labelled s m n p) Good
unfolding labelled
labelled_keeps s mode.Labelled n g fresh ready p = record { held = g.held; fresh = fresh g.fresh; ready = ready }
labelled_keeps s mode.Start n g fresh ready p = tt
labelled_keeps s _ n g fresh ready p = tt

at_open_keeps : (s : State (List Event)) (m : Mode) → s.mode ≡ m → Good s → (p : ℕ) → IfFine (at_open put s m p) Good
unfolding at_open
at_open_keeps s mode.Start e g p =
    subst (λ m. GoodAt (opened p ∷ s.context) m s.label s.buffer) (sym e) (between (opened p ∷ s.context) s.label s.buffer (held_opened s.context p g.held))
at_open_keeps s mode.Labelled e g p = tt
at_open_keeps s _ e g p = tt

some_open : (n : ℕ) → not (nat_eq n 0) ≡ true → 0 < n
some_open n h = grind arith

at_close_keeps : (s : State (List Event)) (m : Mode) → s.mode ≡ m → Good s → (t : List ℕ) (p : ℕ) → IfFine (at_close put s m (look_back s.context t).deep p) Good
unfolding at_close
at_close_keeps s mode.Start e g t p =
    fine_if (look_back s.context t).deep _ _ Good (λ deep. subst (λ m. GoodAt (closed ∷ s.context) m s.label s.buffer) (sym e) (between (closed ∷ s.context) s.label s.buffer
    (held_closed s.context (some_open (length (open_blocks s.context)) (sym (deep_as s.context t (position (bytes_eq t) (symbols s.context))) ∙ deep)) g.held))) (λ _. tt)
at_close_keeps s mode.Labelled e g t p = tt
at_close_keeps s _ e g t p = tt

none_ready : (past : List Event) → Ready mode.Float [] past
none_ready past two = absurd (omega (arith, two))

pub step_keeps : (s : State (List Event)) (w : Word) (t : List ℕ) (p : ℕ) → Good s → IfFine (step_by put s (look_back s.context t) w t p) Good
unfolding step_by
step_keeps s word.Unknown t p g = tt
step_keeps s word.Inclusion t p g = tt
step_keeps s word.Text t p g = at_text_keeps s s.mode refl t p g
step_keeps s word.End t p g = at_end_keeps s s.mode g p
step_keeps s word.Proof t p g = at_proof_keeps s s.mode g p
step_keeps s word.Constants t p g = at_constants_keeps s s.mode g (look_back s.context t).deep p
step_keeps s word.Variables t p g = unlabelled_keeps s s.mode mode.Variables g tt tt p
step_keeps s word.Distinct t p g = unlabelled_keeps s s.mode mode.Distinct g tt tt p
step_keeps s word.Open t p g = at_open_keeps s s.mode refl g p
step_keeps s word.Close t p g = at_close_keeps s s.mode refl g t p
step_keeps s word.Float t p g = labelled_keeps s s.mode mode.Float g (λ f. f) (none_ready s.context) p
step_keeps s word.Essential t p g = labelled_keeps s s.mode mode.Essential g (λ f. f) tt p
step_keeps s word.Axiom t p g = labelled_keeps s s.mode mode.Axiom g (λ f. f) tt p
step_keeps s word.Theorem t p g = labelled_keeps s s.mode mode.Theorem g (λ f. f) tt p
