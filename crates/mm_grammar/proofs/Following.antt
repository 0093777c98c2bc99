-- Each event that reading adds is as the language asks.
use Rattle.std.proofs.Common.{◌≡◌, ◌<◌, ℕ, false, not, ◌||◌, List, [], ◌∷◌, ◌++◌, length, nat_eq, nat_lt, refl, sym, subst, arith}
use Rattle.std.proofs.lemmas.Bool.{or_parts}
use Rattle.std.specs.List.{list_any}
use Rattle.mm_tokens.specs.declared.pieces.Token.{Token}
use Rattle.mm_tokens.specs.Words.{word_of, is_bad_label, is_bad_symbol}
use Rattle.mm_tokens.specs.declared.word.Word.{Word}
use Rattle.mm_tokens.specs.declared.word.Word.TheVariants as word
use Rattle.mm_scope.specs.Contents.{events_of}
use Rattle.mm_scope.specs.Events.{Event, put, constant, variable, float, essential, asserted, theorem, distinct, opened, closed, open_blocks}
use Rattle.mm_scope.specs.Looks.{look_back}
use Rattle.mm_scope.specs.Reading.{text_of, step}
use Rattle.mm_scope.specs.Steps.{most_label, Answers, State, symbol_checks, take_symbol, is_full, a_label, a_constant, a_variable, a_float, a_symbol, a_distinct, at_text, at_end, at_proof, unlabelled, at_constants, labelled, at_open, at_close, step_by}
use Rattle.mm_scope.specs.declared.mode.Mode.{Mode}
use Rattle.mm_scope.specs.declared.mode.Mode.TheVariants as mode
use Rattle.mm_plain.proofs.Fine.{IfFine, fine_if, fine_unless, of_each}
use Rattle.mm_grammar.specs.Beginnings.{IsTypingBegun, IsExpressionBegun, IsPartingBegun}
use Rattle.mm_grammar.specs.Rules.{IsNewLabel, FollowsRules}
use Rattle.mm_grammar.proofs.Answering.{constant_back, scope_back, free_back, typed_back, inactive_back, unknown_back, no_label_back, outermost_back, deep_back}
use Rattle.mm_grammar.proofs.Begun.{typing_none, typing_first, typing_second, typing_done, expression_none, expression_more, expression_done, parting_none, parting_more, parting_done}
use Rattle.mm_grammar.proofs.Known.{declared_named}

-- the statement that is begun is as it is asked so far
abbrev pub Fits : Mode → List Event → List ℕ → List ℕ → Type 0
Fits mode.Start past l ss = Unit {0}
Fits mode.Labelled past l ss = IsNewLabel past l
Fits mode.Constants past l ss = open_blocks past ≡ []
Fits mode.Variables past l ss = Unit {0}
Fits mode.Distinct past l ss = IsPartingBegun past ss
Fits mode.Float past l ss = IsNewLabel past l × IsTypingBegun past ss
Fits mode.Essential past l ss = IsNewLabel past l × IsExpressionBegun past ss
Fits mode.Axiom past l ss = IsNewLabel past l × IsExpressionBegun past ss
Fits mode.Theorem past l ss = IsNewLabel past l × IsExpressionBegun past ss
Fits mode.Proof past l ss = IsNewLabel past l × IsExpressionBegun past ss × (0 < length ss)

pub record FollowsAt (past : List Event) (m : Mode) (l ss : List ℕ) : Type 0 where
  pub all : FollowsRules past
  pub fits : Fits m past l ss

abbrev Good : State (List Event) → Type 0
Good s = FollowsAt s.context s.mode s.label s.buffer

a_label_good : (s : State (List Event)) (t : List ℕ) (p : ℕ) → FollowsRules s.context → IfFine (a_label s (look_back s.context t) t p) Good
unfolding a_label
a_label_good s t p all =
    let a : Answers = look_back s.context t in
    fine_if (is_bad_label t) _ _ Good (λ _. tt) (λ _.
    fine_if (a.label || a.known) _ _ Good (λ _. tt) (λ off.
    fine_if (nat_lt most_label (length t)) _ _ Good (λ _. tt) (λ _.
    let w = or_parts a.label a.known off in
    record { all = all; fits = record { label = no_label_back s.context t w.0; symbol = unknown_back s.context t w.1 } })))

-- one symbol more
grow : (s : State (List Event)) (m : Mode) → s.mode ≡ m → (n : ℕ) → FollowsRules s.context → Fits m s.context s.label (s.buffer ++ n ∷ []) → FollowsAt s.context s.mode s.label (s.buffer ++ n ∷ [])
grow s m e n all fits = subst (λ k. FollowsAt s.context k s.label (s.buffer ++ n ∷ [])) (sym e) (record { all = all; fits = fits })

a_symbol_good : (s : State (List Event)) (m : Mode) → s.mode ≡ m → (t : List ℕ) (p : ℕ) → FollowsRules s.context → IsExpressionBegun s.context s.buffer
    → ((ss : List ℕ) → IsExpressionBegun s.context ss → Fits m s.context s.label ss) → IfFine (a_symbol s (look_back s.context t) p) Good
unfolding a_symbol
a_symbol_good s m e t p all b fit =
    let a : Answers = look_back s.context t in
    fine_unless (symbol_checks s a p) (take_symbol s a.number) Good (λ off. grow s m e a.number all (fit (s.buffer ++ a.number ∷ [])
    (expression_more s.context s.buffer a.number a.constant off.1.0 (constant_back s.context t) (typed_back s.context t off.0 off.1.1.0) b)))

a_distinct_good : (s : State (List Event)) → s.mode ≡ mode.Distinct → (t : List ℕ) (p : ℕ) → FollowsRules s.context → IsPartingBegun s.context s.buffer
    → IfFine (a_distinct s (look_back s.context t) p) Good
unfolding a_distinct
a_distinct_good s e t p all b =
    let a : Answers = look_back s.context t in
    fine_if (not (a.constant || a.active)) _ _ Good (λ _. tt) (λ live.
    fine_if (a.constant || list_any (nat_eq a.number) s.buffer) _ _ Good (λ _. tt) (λ off.
    fine_if (is_full s) _ _ Good (λ _. tt) (λ _.
    let w = or_parts a.constant (list_any (nat_eq a.number) s.buffer) off in
    grow s mode.Distinct e a.number all (parting_more s.context s.buffer a.number w.1 (scope_back s.context t live w.0) b))))

a_float_good : (s : State (List Event)) → s.mode ≡ mode.Float → (t : List ℕ) (p : ℕ) → FollowsRules s.context → IsNewLabel s.context s.label → IsTypingBegun s.context s.buffer
    → IfFine (a_float s (look_back s.context t) p) Good
unfolding a_float
a_float_good s e t p all new b =
    let a : Answers = look_back s.context t in
    fine_if (not (a.constant || a.active)) _ _ Good (λ _. tt) (λ live.
    fine_if (nat_eq (length s.buffer) 0) _ _ Good
    (λ none. fine_if a.constant _ _ Good (λ is. grow s mode.Float e a.number all (new, typing_first s.context s.buffer a.number none (constant_back s.context t is))) (λ _. tt)) (λ some.
    fine_if (nat_lt 1 (length s.buffer) || a.constant) _ _ Good (λ _. tt) (λ off.
    let w = or_parts (nat_lt 1 (length s.buffer)) a.constant off in
    fine_if a.floated _ _ Good (λ _. tt) (λ free. grow s mode.Float e a.number all
    (new, typing_second s.context s.buffer a.number some w.0 b (scope_back s.context t live w.1) (free_back s.context t live free))))))

a_constant_good : (s : State (List Event)) → s.mode ≡ mode.Constants → (t : List ℕ) (p : ℕ) → FollowsRules s.context → open_blocks s.context ≡ []
    → IfFine (a_constant put s (look_back s.context t) t p) Good
unfolding a_constant open_blocks
a_constant_good s e t p all outermost =
    let a : Answers = look_back s.context t in
    fine_if (is_bad_symbol t) _ _ Good (λ _. tt) (λ fit.
    fine_if (a.known || a.label) _ _ Good (λ _. tt) (λ off.
    fine_if (is_full s) _ _ Good (λ _. tt) (λ _.
    let w = or_parts a.known a.label off in
    subst (λ m. FollowsAt (constant t a.number ∷ s.context) m s.label (s.buffer ++ a.number ∷ [])) (sym e) (record {
      all = (record { fit = fit; outermost = outermost; symbol = unknown_back s.context t w.0; label = no_label_back s.context t w.1; named = declared_named s.context t }, all);
      fits = outermost;
    }))))

a_variable_good : (s : State (List Event)) → s.mode ≡ mode.Variables → (t : List ℕ) (p : ℕ) → FollowsRules s.context → IfFine (a_variable put s (look_back s.context t) t p) Good
unfolding a_variable
a_variable_good s e t p all =
    let a : Answers = look_back s.context t in
    fine_if (is_bad_symbol t) _ _ Good (λ _. tt) (λ fit.
    fine_if (a.active || a.constant || a.label) _ _ Good (λ _. tt) (λ off.
    fine_if (is_full s) _ _ Good (λ _. tt) (λ _.
    let w = or_parts (a.active || a.constant) a.label off in
    let v = or_parts a.active a.constant w.0 in
    subst (λ m. FollowsAt (variable t a.number ∷ s.context) m s.label (s.buffer ++ a.number ∷ [])) (sym e) (record {
      all = (record { fit = fit; inactive = inactive_back s.context t all v.0 v.1; label = no_label_back s.context t w.1; named = declared_named s.context t }, all);
      fits = tt;
    }))))

at_text_good : (s : State (List Event)) (m : Mode) → s.mode ≡ m → (t : List ℕ) (p : ℕ) → FollowsAt s.context m s.label s.buffer → IfFine (at_text put s m (look_back s.context t) t p) Good
unfolding at_text
at_text_good s mode.Start e t p g = a_label_good s t p g.all
at_text_good s mode.Labelled e t p g = tt
at_text_good s mode.Constants e t p g = a_constant_good s e t p g.all g.fits
at_text_good s mode.Variables e t p g = a_variable_good s e t p g.all
at_text_good s mode.Distinct e t p g = a_distinct_good s e t p g.all g.fits
at_text_good s mode.Float e t p g = a_float_good s e t p g.all g.fits.0 g.fits.1
at_text_good s mode.Essential e t p g = a_symbol_good s mode.Essential e t p g.all g.fits.1 (λ ss b. (g.fits.0, b))
at_text_good s mode.Axiom e t p g = a_symbol_good s mode.Axiom e t p g.all g.fits.1 (λ ss b. (g.fits.0, b))
at_text_good s mode.Theorem e t p g = a_symbol_good s mode.Theorem e t p g.all g.fits.1 (λ ss b. (g.fits.0, b))
at_text_good s mode.Proof e t p g = subst (λ m. FollowsAt s.context m s.label s.buffer) (sym e) g

-- a statement ends
some_length : (k : ℕ) → nat_eq k 0 ≡ false → 0 < k
some_length k h = grind (arith, h)

between : (past : List Event) (l : List ℕ) → FollowsRules past → FollowsAt past mode.Start l []
between past l all = record { all = all; fits = tt }

at_end_good : (s : State (List Event)) (m : Mode) → FollowsAt s.context m s.label s.buffer → (p : ℕ) → IfFine (at_end put s m p) Good
unfolding at_end
at_end_good s mode.Start g p = tt
at_end_good s mode.Labelled g p = tt
at_end_good s mode.Constants g p = fine_if (nat_eq (length s.buffer) 0) _ _ Good (λ _. tt) (λ _. between s.context s.label g.all)
at_end_good s mode.Variables g p = fine_if (nat_eq (length s.buffer) 0) _ _ Good (λ _. tt) (λ _. between s.context s.label g.all)
at_end_good s mode.Distinct g p = fine_if (nat_lt (length s.buffer) 2) _ _ Good (λ _. tt)
    (λ many. between (distinct s.buffer ∷ s.context) s.label (parting_done s.context s.buffer many g.fits, g.all))
at_end_good s mode.Float g p = fine_if (nat_eq (length s.buffer) 2) _ _ Good
    (λ two. between (float s.label s.buffer s.described ∷ s.context) s.label ((g.fits.0, typing_done s.context s.buffer two g.fits.1), g.all)) (λ _. tt)
at_end_good s mode.Essential g p = fine_if (nat_eq (length s.buffer) 0) _ _ Good (λ _. tt)
    (λ none. between (essential s.label s.buffer s.described ∷ s.context) s.label ((g.fits.0, expression_done s.context s.buffer (some_length (length s.buffer) none) g.fits.1), g.all))
at_end_good s mode.Axiom g p = fine_if (nat_eq (length s.buffer) 0) _ _ Good (λ _. tt)
    (λ none. between (asserted s.label s.buffer s.described ∷ s.context) s.label ((g.fits.0, expression_done s.context s.buffer (some_length (length s.buffer) none) g.fits.1), g.all))
at_end_good s mode.Theorem g p = tt
at_end_good s mode.Proof g p =
    between (theorem s.label s.buffer s.proof p s.described ∷ s.context) s.label ((g.fits.0, expression_done s.context s.buffer g.fits.2 g.fits.1), g.all)

at_proof_good : (s : State (List Event)) (m : Mode) → FollowsAt s.context m s.label s.buffer → (p : ℕ) → IfFine (at_proof s m p) Good
unfolding at_proof
at_proof_good s mode.Theorem g p = fine_if (nat_eq (length s.buffer) 0) _ _ Good (λ _. tt)
    (λ none. record { all = g.all; fits = (g.fits.0, g.fits.1, some_length (length s.buffer) none) })
at_proof_good s _ g p = tt

unlabelled_good : (s : State (List Event)) (m n : Mode) → FollowsRules s.context → Fits n s.context s.label [] → (p : ℕ) → IfFine (unlabelled s m n p) Good
unfolding unlabelled
unlabelled_good s mode.Start n all fits p = record { all = all; fits = fits }
unlabelled_good s mode.Labelled n all fits p = tt
unlabelled_good s _ n all fits p = tt

labelled_good : (s : State (List Event)) (m n : Mode) → FollowsAt s.context m s.label s.buffer → (IsNewLabel s.context s.label → Fits n s.context s.label []) → (p : ℕ)
    → IfFine (labelled s m n p) Good
unfolding labelled
labelled_good s mode.Labelled n g fits p = record { all = g.all; fits = fits g.fits }
labelled_good s mode.Start n g fits p = tt
labelled_good s _ n g fits p = tt

at_constants_good : (s : State (List Event)) (m : Mode) → FollowsRules s.context → (t : List ℕ) (p : ℕ) → IfFine (at_constants s m (look_back s.context t).deep p) Good
unfolding at_constants
at_constants_good s mode.Start all t p = fine_if (look_back s.context t).deep _ _ Good (λ _. tt) (λ flat. record { all = all; fits = outermost_back s.context t flat })
at_constants_good s mode.Labelled all t p = fine_if (look_back s.context t).deep _ _ Good (λ _. tt) (λ _. tt)
at_constants_good s _ all t p = tt

at_open_good : (s : State (List Event)) (m : Mode) → s.mode ≡ m → FollowsRules s.context → (p : ℕ) → IfFine (at_open put s m p) Good
unfolding at_open
at_open_good s mode.Start e all p = subst (λ m. FollowsAt (opened p ∷ s.context) m s.label s.buffer) (sym e) (record { all = (tt, all); fits = tt })
at_open_good s mode.Labelled e all p = tt
at_open_good s _ e all p = tt

at_close_good : (s : State (List Event)) (m : Mode) → s.mode ≡ m → FollowsRules s.context → (t : List ℕ) (p : ℕ) → IfFine (at_close put s m (look_back s.context t).deep p) Good
unfolding at_close
at_close_good s mode.Start e all t p = fine_if (look_back s.context t).deep _ _ Good
    (λ deep. subst (λ m. FollowsAt (closed ∷ s.context) m s.label s.buffer) (sym e) (record { all = (deep_back s.context t deep, all); fits = tt })) (λ _. tt)
at_close_good s mode.Labelled e all t p = tt
at_close_good s _ e all t p = tt

pub step_good : (s : State (List Event)) (w : Word) (t : List ℕ) (p : ℕ) → Good s → IfFine (step_by put s (look_back s.context t) w t p) Good
unfolding step_by
step_good s word.Unknown t p g = tt
step_good s word.Inclusion t p g = tt
step_good s word.Text t p g = at_text_good s s.mode refl t p g
step_good s word.End t p g = at_end_good s s.mode g p
step_good s word.Proof t p g = at_proof_good s s.mode g p
step_good s word.Constants t p g = at_constants_good s s.mode g.all t p
step_good s word.Variables t p g = unlabelled_good s s.mode mode.Variables g.all tt p
step_good s word.Distinct t p g = unlabelled_good s s.mode mode.Distinct g.all (parting_none s.context) p
step_good s word.Open t p g = at_open_good s s.mode refl g.all p
step_good s word.Close t p g = at_close_good s s.mode refl g.all t p
step_good s word.Float t p g = labelled_good s s.mode mode.Float g (λ new. (new, typing_none s.context)) p
step_good s word.Essential t p g = labelled_good s s.mode mode.Essential g (λ new. (new, expression_none s.context)) p
step_good s word.Axiom t p g = labelled_good s s.mode mode.Axiom g (λ new. (new, expression_none s.context)) p
step_good s word.Theorem t p g = labelled_good s s.mode mode.Theorem g (λ new. (new, expression_none s.context)) p

pub kept : (bytes : List ℕ) (s : State (List Event)) (k : Token) → 0 < length (text_of bytes k) → Good s → IfFine (step put look_back bytes s k) Good
kept bytes s k some g = step_good s (word_of (text_of bytes k)) (text_of bytes k) k.start g

-- so are those of each database
pub followed : (bytes : List ℕ) → FollowsRules (events_of bytes)
followed = of_each Good (λ s c g. g) (λ s g. g) kept FollowsRules tt (λ s g. g.all) (record { all = tt; fits = tt })
