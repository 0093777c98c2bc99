-- Each label that is read is fit and new.
use Rattle.std.proofs.Common.{◌≡◌, ◌≤◌, ◌<◌, ℕ, Bool, true, false, not, ◌||◌, List, [], ◌∷◌, Option, None, Some, length, position, nat_lt, nat_eq, refl, sym, ◌∙◌, subst, arith}
use Rattle.std.proofs.lemmas.Bool.{true≢false}
use Rattle.std.specs.List.{list_any}
use Rattle.std.specs.Str.{bytes_eq}
use Rattle.mm_tokens.specs.declared.pieces.Token.{Token}
use Rattle.mm_tokens.specs.Words.{word_of, is_bad_label, is_bad_symbol}
use Rattle.mm_tokens.specs.declared.word.Word.{Word}
use Rattle.mm_tokens.specs.declared.word.Word.TheVariants as word
use Rattle.mm_scope.specs.Contents.{events_of}
use Rattle.mm_scope.specs.Events.{Event, put, constant, variable, float, essential, asserted, theorem, distinct, opened, closed, symbols, labels}
use Rattle.mm_scope.specs.Looks.{look_back, known_as}
use Rattle.mm_scope.specs.Reading.{text_of, step}
use Rattle.mm_scope.specs.Steps.{most_label, Answers, State, symbol_checks, take_symbol, is_full, a_label, a_constant, a_variable, a_float, a_symbol, a_distinct, at_text, at_end, at_proof, unlabelled, at_constants, labelled, at_open, at_close, step_by}
use Rattle.mm_scope.specs.declared.mode.Mode.{Mode}
use Rattle.mm_scope.specs.declared.mode.Mode.TheVariants as mode
use Rattle.mm_plain.proofs.Fine.{IfFine, fine_if, fine_unless, of_each}
use Rattle.mm_plain.proofs.Places.{AreLabels, IsNew, no_labels, one_label}

-- the labels so far
abbrev pub AreLabelled : List Event → Type 0
AreLabelled past = AreLabels (labels past)

-- the label of the statement that is begun is new
abbrev Fresh : Mode → List ℕ → List (List ℕ) → Type 0
Fresh mode.Start l ts = Unit {0}
Fresh mode.Constants l ts = Unit {0}
Fresh mode.Variables l ts = Unit {0}
Fresh mode.Distinct l ts = Unit {0}
Fresh mode.Labelled l ts = IsNew ts l
Fresh mode.Float l ts = IsNew ts l
Fresh mode.Essential l ts = IsNew ts l
Fresh mode.Axiom l ts = IsNew ts l
Fresh mode.Theorem l ts = IsNew ts l
Fresh mode.Proof l ts = IsNew ts l

record LabelsAt (past : List Event) (m : Mode) (l : List ℕ) : Type 0 where
  all : AreLabelled past
  fresh : Fresh m l (labels past)

abbrev Good : State (List Event) → Type 0
Good s = LabelsAt s.context s.mode s.label

between : (past : List Event) (l : List ℕ) → AreLabelled past → LabelsAt past mode.Start l
between past l all = record { all = all; fresh = tt }

label_as : (past : List Event) (t : List ℕ) (r : Option ℕ) → (known_as past t r).label ≡ list_any (bytes_eq t) (labels past)
label_as past t None = refl
label_as past t (Some n) = refl

neither : (a b : Bool) → (a || b) ≡ false → (a ≡ false) × (b ≡ false)
neither true b h = absurd (true≢false h)
neither false b h = (refl, h)

no_longer : (n : ℕ) → nat_lt most_label n ≡ false → n ≤ most_label
no_longer n h = grind arith

a_label_good : (s : State (List Event)) (t : List ℕ) (p : ℕ) → 0 < length t → AreLabelled s.context → IfFine (a_label s (look_back s.context t) t p) Good
unfolding a_label
a_label_good s t p some all =
    let a : Answers = look_back s.context t in
    fine_if (is_bad_label t) _ _ Good (λ _. tt) (λ fit.
    fine_if (a.label || a.known) _ _ Good (λ _. tt) (λ off.
    fine_if (nat_lt most_label (length t)) _ _ Good (λ _. tt) (λ short.
    record { all = all; fresh = record { fit = fit; some = some; short = no_longer (length t) short; fresh = sym (label_as s.context t (position (bytes_eq t) (symbols s.context))) ∙ (neither a.label a.known off).0 } })))

a_symbol_good : (s : State (List Event)) (a : Answers) (p : ℕ) → Good s → IfFine (a_symbol s a p) Good
unfolding a_symbol
a_symbol_good s a p g = fine_unless (symbol_checks s a p) (take_symbol s a.number) Good (λ _. g)

a_distinct_good : (s : State (List Event)) (a : Answers) (p : ℕ) → Good s → IfFine (a_distinct s a p) Good
unfolding a_distinct
a_distinct_good s a p g =
    fine_if (not (a.constant || a.active)) _ _ Good (λ _. tt) (λ _.
    fine_if (a.constant || list_any (nat_eq a.number) s.buffer) _ _ Good (λ _. tt) (λ _.
    fine_if (is_full s) _ _ Good (λ _. tt) (λ _. g)))

a_float_good : (s : State (List Event)) (a : Answers) (p : ℕ) → Good s → IfFine (a_float s a p) Good
unfolding a_float
a_float_good s a p g =
    fine_if (not (a.constant || a.active)) _ _ Good (λ _. tt) (λ _.
    fine_if (nat_eq (length s.buffer) 0) _ _ Good (λ _. fine_if a.constant _ _ Good (λ _. g) (λ _. tt)) (λ _.
    fine_if (nat_lt 1 (length s.buffer) || a.constant) _ _ Good (λ _. tt) (λ _.
    fine_if a.floated _ _ Good (λ _. tt) (λ _. g))))

a_constant_good : (s : State (List Event)) → s.mode ≡ mode.Constants → (a : Answers) (t : List ℕ) (p : ℕ) → AreLabelled s.context → IfFine (a_constant put s a t p) Good
unfolding a_constant labels
a_constant_good s e a t p all =
    fine_if (is_bad_symbol t) _ _ Good (λ _. tt) (λ _.
    fine_if (a.known || a.label) _ _ Good (λ _. tt) (λ _.
    fine_if (is_full s) _ _ Good (λ _. tt) (λ _.
    subst (λ m. LabelsAt (constant t a.number ∷ s.context) m s.label) (sym e) (record { all = all; fresh = tt }))))

a_variable_good : (s : State (List Event)) → s.mode ≡ mode.Variables → (a : Answers) (t : List ℕ) (p : ℕ) → AreLabelled s.context → IfFine (a_variable put s a t p) Good
unfolding a_variable labels
a_variable_good s e a t p all =
    fine_if (is_bad_symbol t) _ _ Good (λ _. tt) (λ _.
    fine_if (a.active || a.constant || a.label) _ _ Good (λ _. tt) (λ _.
    fine_if (is_full s) _ _ Good (λ _. tt) (λ _.
    subst (λ m. LabelsAt (variable t a.number ∷ s.context) m s.label) (sym e) (record { all = all; fresh = tt }))))

at_text_good : (s : State (List Event)) (m : Mode) → s.mode ≡ m → (t : List ℕ) (p : ℕ) → 0 < length t → Good s → IfFine (at_text put s m (look_back s.context t) t p) Good
unfolding at_text
at_text_good s mode.Start e t p some g = a_label_good s t p some g.all
at_text_good s mode.Labelled e t p some g = tt
at_text_good s mode.Constants e t p some g = a_constant_good s e (look_back s.context t) t p g.all
at_text_good s mode.Variables e t p some g = a_variable_good s e (look_back s.context t) t p g.all
at_text_good s mode.Distinct e t p some g = a_distinct_good s (look_back s.context t) p g
at_text_good s mode.Float e t p some g = a_float_good s (look_back s.context t) p g
at_text_good s mode.Essential e t p some g = a_symbol_good s (look_back s.context t) p g
at_text_good s mode.Axiom e t p some g = a_symbol_good s (look_back s.context t) p g
at_text_good s mode.Theorem e t p some g = a_symbol_good s (look_back s.context t) p g
at_text_good s mode.Proof e t p some g = g

-- a statement ends
at_end_good : (s : State (List Event)) (m : Mode) → LabelsAt s.context m s.label → (p : ℕ) → IfFine (at_end put s m p) Good
unfolding at_end labels
at_end_good s mode.Start g p = tt
at_end_good s mode.Labelled g p = tt
at_end_good s mode.Constants g p = fine_if (nat_eq (length s.buffer) 0) _ _ Good (λ _. tt) (λ _. between s.context s.label g.all)
at_end_good s mode.Variables g p = fine_if (nat_eq (length s.buffer) 0) _ _ Good (λ _. tt) (λ _. between s.context s.label g.all)
at_end_good s mode.Distinct g p = fine_if (nat_lt (length s.buffer) 2) _ _ Good (λ _. tt) (λ _. between (distinct s.buffer ∷ s.context) s.label g.all)
at_end_good s mode.Float g p =
    fine_if (nat_eq (length s.buffer) 2) _ _ Good (λ _. between (float s.label s.buffer s.described ∷ s.context) s.label (one_label (labels s.context) s.label g.all g.fresh)) (λ _. tt)
at_end_good s mode.Essential g p =
    fine_if (nat_eq (length s.buffer) 0) _ _ Good (λ _. tt) (λ _. between (essential s.label s.buffer s.described ∷ s.context) s.label (one_label (labels s.context) s.label g.all g.fresh))
at_end_good s mode.Axiom g p =
    fine_if (nat_eq (length s.buffer) 0) _ _ Good (λ _. tt) (λ _. between (asserted s.label s.buffer s.described ∷ s.context) s.label (one_label (labels s.context) s.label g.all g.fresh))
at_end_good s mode.Theorem g p = tt
at_end_good s mode.Proof g p = between (theorem s.label s.buffer s.proof p s.described ∷ s.context) s.label (one_label (labels s.context) s.label g.all g.fresh)

at_proof_good : (s : State (List Event)) (m : Mode) → LabelsAt s.context m s.label → (p : ℕ) → IfFine (at_proof s m p) Good
unfolding at_proof
at_proof_good s mode.Theorem g p = fine_if (nat_eq (length s.buffer) 0) _ _ Good (λ _. tt) (λ _. record { all = g.all; fresh = g.fresh })
at_proof_good s _ g p = tt

unlabelled_good : (s : State (List Event)) (m n : Mode) → AreLabelled s.context → Fresh n s.label (labels s.context) → (p : ℕ) → IfFine (unlabelled s m n p) Good
unfolding unlabelled
unlabelled_good s mode.Start n all fresh p = record { all = all; fresh = fresh }
unlabelled_good s mode.Labelled n all fresh p = tt
unlabelled_good s _ n all fresh p = tt

labelled_good : (s : State (List Event)) (m n : Mode) → LabelsAt s.context m s.label → (IsNew (labels s.context) s.label → Fresh n s.label (labels s.context)) → (p : ℕ) → IfFine (labelled s m n p) Good
unfolding labelled
labelled_good s mode.Labelled n g fresh p = record { all = g.all; fresh = fresh g.fresh }
labelled_good s mode.Start n g fresh p = tt
labelled_good s _ n g fresh p = tt

at_constants_good : (s : State (List Event)) (m : Mode) → AreLabelled s.context → (deep : Bool) (p : ℕ) → IfFine (at_constants s m deep p) Good
unfolding at_constants
at_constants_good s mode.Start all deep p = fine_if deep _ _ Good (λ _. tt) (λ _. record { all = all; fresh = tt })
at_constants_good s mode.Labelled all deep p = fine_if deep _ _ Good (λ _. tt) (λ _. tt)
at_constants_good s _ all deep p = tt

at_open_good : (s : State (List Event)) (m : Mode) → s.mode ≡ m → AreLabelled s.context → (p : ℕ) → IfFine (at_open put s m p) Good
unfolding at_open labels
at_open_good s mode.Start e all p = subst (λ m. LabelsAt (opened p ∷ s.context) m s.label) (sym e) (between (opened p ∷ s.context) s.label all)
at_open_good s mode.Labelled e all p = tt
at_open_good s _ e all p = tt

at_close_good : (s : State (List Event)) (m : Mode) → s.mode ≡ m → AreLabelled s.context → (deep : Bool) (p : ℕ) → IfFine (at_close put s m deep p) Good
unfolding at_close labels
at_close_good s mode.Start e all deep p =
    fine_if deep _ _ Good (λ _. subst (λ m. LabelsAt (closed ∷ s.context) m s.label) (sym e) (between (closed ∷ s.context) s.label all)) (λ _. tt)
at_close_good s mode.Labelled e all deep p = tt
at_close_good s _ e all deep p = tt

step_good : (s : State (List Event)) (w : Word) (t : List ℕ) (p : ℕ) → 0 < length t → Good s → IfFine (step_by put s (look_back s.context t) w t p) Good
unfolding step_by
step_good s word.Unknown t p some g = tt
step_good s word.Inclusion t p some g = tt
step_good s word.Text t p some g = at_text_good s s.mode refl t p some g
step_good s word.End t p some g = at_end_good s s.mode g p
step_good s word.Proof t p some g = at_proof_good s s.mode g p
step_good s word.Constants t p some g = at_constants_good s s.mode g.all (look_back s.context t).deep p
step_good s word.Variables t p some g = unlabelled_good s s.mode mode.Variables g.all tt p
step_good s word.Distinct t p some g = unlabelled_good s s.mode mode.Distinct g.all tt p
step_good s word.Open t p some g = at_open_good s s.mode refl g.all p
step_good s word.Close t p some g = at_close_good s s.mode refl g.all (look_back s.context t).deep p
step_good s word.Float t p some g = labelled_good s s.mode mode.Float g (λ n. n) p
step_good s word.Essential t p some g = labelled_good s s.mode mode.Essential g (λ n. n) p
step_good s word.Axiom t p some g = labelled_good s s.mode mode.Axiom g (λ n. n) p
step_good s word.Theorem t p some g = labelled_good s s.mode mode.Theorem g (λ n. n) p

kept : (bytes : List ℕ) (s : State (List Event)) (k : Token) → 0 < length (text_of bytes k) → Good s → IfFine (step put look_back bytes s k) Good
kept bytes s k some g = step_good s (word_of (text_of bytes k)) (text_of bytes k) k.start some g

none_labelled : AreLabelled []
unfolding labels
none_labelled = no_labels

-- so it is in each database
pub all_labelled : (bytes : List ℕ) → AreLabelled (events_of bytes)
all_labelled = of_each Good (λ s c g. g) (λ s g. g) kept AreLabelled none_labelled (λ s g. g.all) (record { all = none_labelled; fresh = tt })
