-- Where a statement stands, each of its symbols is active.
use Rattle.std.proofs.Common.{◌≡◌, ◌≤◌, ℕ, zero, suc, ◌+◌, Bool, true, false, cond, not, ◌||◌, List, [], ◌∷◌, ◌++◌, Option, None, Some, length, position, nat_lt, nat_eq, Result, Ok, Err, refl, sym, ap, ◌∙◌, subst, arith, ◌⊎◌, inl, inr, All, ◌<◌, slice_get, get_or, length-append}
use Rattle.std.proofs.lemmas.Bool.{eqb-true, false≢true, true≢false, not-false}
use Rattle.std.proofs.lemmas.List.Elements.{All-push, All-nil}
use Rattle.std.proofs.lemmas.List.{get_or_append_left}
use Rattle.std.proofs.lemmas.List.Quantifiers.{position-Some}
use Rattle.std.proofs.lemmas.Option.{slice_get_within, slice_get-get_or, get_or_from_slice_get}
use Rattle.std.proofs.lemmas.Slice.Eq.{bytes_eq-Decides}
use Rattle.std.proofs.Math.Seq.{get_or-append_seam}
use Rattle.std.specs.List.{list_any}
use Rattle.std.specs.Str.{bytes_eq}
use Rattle.mm_tokens.specs.declared.pieces.Token.{Token}
use Rattle.mm_tables.specs.Texts.{with_text}
use Rattle.mm_tokens.specs.Words.{word_of, is_bad_label, is_bad_symbol}
use Rattle.mm_scope.specs.Events.{Event, put, constant, variable, float, essential, asserted, theorem, distinct, opened, closed, symbols, open_blocks}
use Rattle.mm_scope.specs.Laws.{openings, closings, NoneEnds, IsConstant, IsInScope, IsActive, SymbolsAreNumbered, Laws}
use Rattle.mm_scope.specs.Looks.{look_back, known_as, moves, constants, is_active_of}
use Rattle.mm_tables.specs.Moves.{in_force}
use Rattle.mm_scope.specs.Reading.{text_of, after, step, read_from}
use Rattle.mm_scope.specs.Steps.{most_label, Answers, State, symbol_checks, take_symbol, is_full, a_label, a_constant, a_variable, a_float, a_symbol, a_distinct, at_text, at_end, at_proof, unlabelled, at_constants, labelled, at_open, at_close, step_by}
use Rattle.mm_tokens.specs.Pieces.{pieces_of, open_in}
use Rattle.mm_scope.specs.Contents.{events_in, events_of}
use Rattle.mm_scope.specs.Databases.{nothing_read, at_the_end, unless_open, unless_begun, read_by, database_of}
use Rattle.mm_scope.specs.Judged.{is_long, judged, clean}
use Rattle.mm_tokens.specs.Bytes.{is_bad}
use Rattle.mm_scope.specs.declared.ending.Ending.TheVariants.{Active, Floated}
use Rattle.mm_tokens.specs.declared.word.Word.{Word}
use Rattle.mm_tokens.specs.declared.word.Word.TheVariants as word
use Rattle.mm_scope.specs.declared.mode.Mode.{Mode}
use Rattle.mm_scope.specs.declared.mode.Mode.TheVariants as mode
use Rattle.mm_scope.specs.declared.fault.ReadFault.{ReadFault}
use Rattle.mm_scope.proofs.Declared.{any_pushed}
use Rattle.mm_scope.proofs.Agreements.{not_there, is_there}
use Rattle.mm_scope.proofs.Kept.{fine_if, fine_unless}
use Rattle.mm_scope.proofs.Whole.{IfFine, fine_read}

either_or : (a b : Bool) → (a || b) ≡ true → (a ≡ true) ⊎ (b ≡ true)
either_or true b h = inl refl
either_or false b h = inr h

passed : (e : Event) (past : List Event) (n : ℕ) → IsConstant past n → IsConstant (e ∷ past) n
passed e past n f = record { text = f.text; later = e ∷ f.later; earlier = f.earlier; whole = ap (λ l. e ∷ l) f.whole }

-- a constant stands in the past
constant_in : (past : List Event) (n : ℕ) → list_any (nat_eq n) (constants past) ≡ true → IsConstant past n
unfolding constants
constant_in [] n h = absurd (false≢true h)
constant_in (constant t m ∷ past) n h = elim (either_or (nat_eq n m) (list_any (nat_eq n) (constants past)) h) [
  | inl here ↦ let same : n ≡ m = eqb-true n m here in record { text = t; later = []; earlier = past; whole = ap (λ k. constant t k ∷ past) (sym same) }
  | inr there ↦ passed (constant t m) past n (constant_in past n there)
]
constant_in (e ∷ past) n h = passed e past n (constant_in past n h)

-- a variable stands in the past, once the blocks that were closed later are left
record Stands (past : List Event) (n k : ℕ) : Type 0 where
  text : List ℕ
  later : List Event
  earlier : List Event
  whole : past ≡ later ++ variable text n ∷ earlier
  stays : NoneEnds later
  enough : k + closings later ≤ openings later

more : (e : Event) (past : List Event) (n k j : ℕ) → ((later : List Event) → j + closings later ≤ openings later → k + closings (e ∷ later) ≤ openings (e ∷ later))
    → Stands past n j → Stands (e ∷ past) n k
more e past n k j count f = record {
  text = f.text;
  later = e ∷ f.later;
  earlier = f.earlier;
  whole = ap (λ l. e ∷ l) f.whole;
  stays = (omega (arith, count f.later f.enough), f.stays);
  enough = count f.later f.enough;
}

stands_in : (past : List Event) (n k : ℕ) → list_any (is_active_of n) (in_force k (moves past)) ≡ true → Stands past n k
unfolding moves in_force openings closings
stands_in [] n k h = absurd (false≢true h)
stands_in (variable t m ∷ past) n zero h =
    elim (either_or (list_any (is_active_of n) (in_force zero (moves past))) (nat_eq n m) (sym (any_pushed (is_active_of n) (in_force zero (moves past)) (Active m)) ∙ h)) [
      | inl there ↦ more (variable t m) past n zero zero (λ later c. c) (stands_in past n zero there)
      | inr here ↦ let same : n ≡ m = eqb-true n m here in
          record { text = t; later = []; earlier = past; whole = ap (λ k. variable t k ∷ past) (sym same); stays = tt; enough = omega arith }
    ]
stands_in (variable t m ∷ past) n (suc k) h = more (variable t m) past n (suc k) (suc k) (λ later c. c) (stands_in past n (suc k) h)
stands_in (float l ss d ∷ past) n zero h =
    elim (either_or (list_any (is_active_of n) (in_force zero (moves past))) false (sym (any_pushed (is_active_of n) (in_force zero (moves past)) (Floated _)) ∙ h)) [
      | inl there ↦ more (float l ss d) past n zero zero (λ later c. c) (stands_in past n zero there)
      | inr here ↦ absurd (false≢true here)
    ]
stands_in (float l ss d ∷ past) n (suc k) h = more (float l ss d) past n (suc k) (suc k) (λ later c. c) (stands_in past n (suc k) h)
stands_in (opened p ∷ past) n zero h = more (opened p) past n zero zero (λ later c. omega (arith, c)) (stands_in past n zero h)
stands_in (opened p ∷ past) n (suc k) h = more (opened p) past n (suc k) k (λ later c. omega (arith, c)) (stands_in past n k h)
stands_in (closed ∷ past) n k h = more closed past n k (suc k) (λ later c. omega (arith, c)) (stands_in past n (suc k) h)
stands_in (constant t m ∷ past) n k h = more (constant t m) past n k k (λ later c. c) (stands_in past n k h)
stands_in (essential l ss d ∷ past) n k h = more (essential l ss d) past n k k (λ later c. c) (stands_in past n k h)
stands_in (asserted l ss d ∷ past) n k h = more (asserted l ss d) past n k k (λ later c. c) (stands_in past n k h)
stands_in (theorem l ss from to d ∷ past) n k h = more (theorem l ss from to d) past n k k (λ later c. c) (stands_in past n k h)
stands_in (distinct ss ∷ past) n k h = more (distinct ss) past n k k (λ later c. c) (stands_in past n k h)

in_scope : (past : List Event) (n : ℕ) → list_any (is_active_of n) (in_force zero (moves past)) ≡ true → IsInScope past n
in_scope past n h = let f = stands_in past n zero h in record { text = f.text; later = f.later; earlier = f.earlier; whole = f.whole; stays = f.stays }

active_as : (past : List Event) (t : List ℕ) (r : Option ℕ) → not ((known_as past t r).constant || (known_as past t r).active) ≡ false → IsActive past (known_as past t r).number
active_as past t None h = absurd (true≢false h)
active_as past t (Some n) h = elim (either_or (known_as past t (Some n)).constant (known_as past t (Some n)).active (not-false _ h)) [
  | inl c ↦ inl (constant_in past n c)
  | inr v ↦ inr (in_scope past n v)
]

is_active : (past : List Event) (t : List ℕ) → not ((look_back past t).constant || (look_back past t).active) ≡ false → IsActive past (look_back past t).number
is_active past t h = active_as past t (position (bytes_eq t) (symbols past)) h

-- a text more leaves the numbers
slice_get_more : (all : List (List ℕ)) (x : List ℕ) (n : ℕ) (t : List ℕ) → slice_get all n ≡ Some t → slice_get (all ++ x ∷ []) n ≡ Some t
slice_get_more all x n t e =
    let small : n < length all = slice_get_within all n t e in
    slice_get-get_or (all ++ x ∷ []) n [] (omega (arith, small, length-append all (x ∷ [])))
    ∙ ap Some (get_or_append_left all (x ∷ []) [] n small ∙ get_or_from_slice_get all n t [] e)

numbered_more : (all : List (List ℕ)) (x : List ℕ) (past : List Event) → SymbolsAreNumbered all past → SymbolsAreNumbered (all ++ x ∷ []) past
numbered_more all x [] h = tt
numbered_more all x (constant t n ∷ past) h = (slice_get_more all x n t h.0, numbered_more all x past h.1)
numbered_more all x (variable t n ∷ past) h = (slice_get_more all x n t h.0, numbered_more all x past h.1)
numbered_more all x (e ∷ past) h = numbered_more all x past h

last_text : (all : List (List ℕ)) (t : List ℕ) → slice_get (all ++ t ∷ []) (length all) ≡ Some t
last_text all t =
    slice_get-get_or (all ++ t ∷ []) (length all) [] (omega (arith, length-append all (t ∷ []))) ∙ ap Some (get_or-append_seam all t [] [])

same_text : (t : List ℕ) (all : List (List ℕ)) (n : ℕ) → position (bytes_eq t) all ≡ Some n → slice_get all n ≡ Some t
same_text t all n e =
    let found = position-Some (bytes_eq t) all n [] e in
    slice_get-get_or all n [] found.0 ∙ ap Some (sym ((bytes_eq-Decides t (get_or all n [])).0 found.1))

-- the next declaration carries its place too
numbered_next : (past : List Event) (t : List ℕ) (r : Option ℕ) → position (bytes_eq t) (symbols past) ≡ r → SymbolsAreNumbered (symbols past) past
    → (slice_get (with_text (symbols past) t) (known_as past t r).number ≡ Some t) × SymbolsAreNumbered (with_text (symbols past) t) past
numbered_next past t None e h =
    subst (λ all. (slice_get all (length (symbols past)) ≡ Some t) × SymbolsAreNumbered all past)
    (ap (λ b. cond b (symbols past) (symbols past ++ t ∷ [])) (sym (not_there (bytes_eq t) (symbols past) e)))
    (last_text (symbols past) t, numbered_more (symbols past) t past h)
numbered_next past t (Some n) e h =
    subst (λ all. (slice_get all n ≡ Some t) × SymbolsAreNumbered all past)
    (ap (λ b. cond b (symbols past) (symbols past ++ t ∷ [])) (sym (is_there t (symbols past) n e).1))
    (same_text t (symbols past) n e, h)

-- so far the symbols of the statement that is begun are active
abbrev pub Fits : Mode → List ℕ → List Event → Type 0
Fits mode.Start ss past = Unit {0}
Fits mode.Labelled ss past = Unit {0}
Fits mode.Constants ss past = Unit {0}
Fits mode.Variables ss past = Unit {0}
Fits mode.Distinct ss past = All (IsActive past) ss
Fits mode.Float ss past = All (IsActive past) ss
Fits mode.Essential ss past = All (IsActive past) ss
Fits mode.Axiom ss past = All (IsActive past) ss
Fits mode.Theorem ss past = All (IsActive past) ss
Fits mode.Proof ss past = All (IsActive past) ss

pub record LawfulAt (past : List Event) (m : Mode) (ss : List ℕ) : Type 0 where
  pub law : Laws past
  pub fits : Fits m ss past

abbrev pub Lawful : State (List Event) → Type 0
Lawful s = LawfulAt s.context s.mode s.buffer

-- one symbol more
grow : (s : State (List Event)) (m : Mode) → s.mode ≡ m → (n : ℕ) → Laws s.context → Fits m (s.buffer ++ n ∷ []) s.context → LawfulAt s.context s.mode (s.buffer ++ n ∷ [])
grow s m e n law fits = subst (λ k. LawfulAt s.context k (s.buffer ++ n ∷ [])) (sym e) (record { law = law; fits = fits })

a_symbol_lawful : (s : State (List Event)) (m : Mode) → s.mode ≡ m → (t : List ℕ) (p : ℕ) → Laws s.context
    → ((n : ℕ) → IsActive s.context n → Fits m (s.buffer ++ n ∷ []) s.context) → IfFine (a_symbol s (look_back s.context t) p) Lawful
unfolding a_symbol
a_symbol_lawful s m e t p law push =
    let a : Answers = look_back s.context t in
    fine_unless (symbol_checks s a p) (take_symbol s a.number) Lawful (λ off. grow s m e a.number law (push a.number (is_active s.context t off.0)))

a_distinct_lawful : (s : State (List Event)) → s.mode ≡ mode.Distinct → (t : List ℕ) (p : ℕ) → Laws s.context
    → ((n : ℕ) → IsActive s.context n → Fits mode.Distinct (s.buffer ++ n ∷ []) s.context) → IfFine (a_distinct s (look_back s.context t) p) Lawful
unfolding a_distinct
a_distinct_lawful s e t p law push =
    let a : Answers = look_back s.context t in
    fine_if (not (a.constant || a.active)) _ _ Lawful (λ _. tt) (λ live.
    fine_if (a.constant || list_any (nat_eq a.number) s.buffer) _ _ Lawful (λ _. tt) (λ _.
    fine_if (is_full s) _ _ Lawful (λ _. tt) (λ _.
    grow s mode.Distinct e a.number law (push a.number (is_active s.context t live)))))

a_float_lawful : (s : State (List Event)) → s.mode ≡ mode.Float → (t : List ℕ) (p : ℕ) → Laws s.context
    → ((n : ℕ) → IsActive s.context n → Fits mode.Float (s.buffer ++ n ∷ []) s.context) → IfFine (a_float s (look_back s.context t) p) Lawful
unfolding a_float
a_float_lawful s e t p law push =
    let a : Answers = look_back s.context t in
    fine_if (not (a.constant || a.active)) _ _ Lawful (λ _. tt) (λ live.
    fine_if (nat_eq (length s.buffer) 0) _ _ Lawful
    (λ _. fine_if a.constant _ _ Lawful (λ _. grow s mode.Float e a.number law (push a.number (is_active s.context t live))) (λ _. tt)) (λ _.
    fine_if (nat_lt 1 (length s.buffer) || a.constant) _ _ Lawful (λ _. tt) (λ _.
    fine_if a.floated _ _ Lawful (λ _. tt) (λ _.
    grow s mode.Float e a.number law (push a.number (is_active s.context t live))))))

a_label_lawful : (s : State (List Event)) (t : List ℕ) (p : ℕ) → Laws s.context → IfFine (a_label s (look_back s.context t) t p) Lawful
unfolding a_label
a_label_lawful s t p law =
    let a : Answers = look_back s.context t in
    fine_if (is_bad_label t) _ _ Lawful (λ _. tt) (λ _.
    fine_if (a.label || a.known) _ _ Lawful (λ _. tt) (λ _.
    fine_if (nat_lt most_label (length t)) _ _ Lawful (λ _. tt) (λ _.
    record { law = law; fits = tt })))

a_constant_lawful : (s : State (List Event)) → s.mode ≡ mode.Constants → (t : List ℕ) (p : ℕ) → Laws s.context → IfFine (a_constant put s (look_back s.context t) t p) Lawful
unfolding a_constant symbols
a_constant_lawful s e t p law =
    let a : Answers = look_back s.context t in
    fine_if (is_bad_symbol t) _ _ Lawful (λ _. tt) (λ _.
    fine_if (a.known || a.label) _ _ Lawful (λ _. tt) (λ _.
    fine_if (is_full s) _ _ Lawful (λ _. tt) (λ _.
    subst (λ m. LawfulAt (constant t a.number ∷ s.context) m (s.buffer ++ a.number ∷ [])) (sym e) (record { law = (law.0, numbered_next s.context t (position (bytes_eq t) (symbols s.context)) refl law.1); fits = tt }))))

a_variable_lawful : (s : State (List Event)) → s.mode ≡ mode.Variables → (t : List ℕ) (p : ℕ) → Laws s.context → IfFine (a_variable put s (look_back s.context t) t p) Lawful
unfolding a_variable symbols
a_variable_lawful s e t p law =
    let a : Answers = look_back s.context t in
    fine_if (is_bad_symbol t) _ _ Lawful (λ _. tt) (λ _.
    fine_if (a.active || a.constant || a.label) _ _ Lawful (λ _. tt) (λ _.
    fine_if (is_full s) _ _ Lawful (λ _. tt) (λ _.
    subst (λ m. LawfulAt (variable t a.number ∷ s.context) m (s.buffer ++ a.number ∷ [])) (sym e) (record { law = (law.0, numbered_next s.context t (position (bytes_eq t) (symbols s.context)) refl law.1); fits = tt }))))

at_text_lawful : (s : State (List Event)) (m : Mode) → s.mode ≡ m → (t : List ℕ) (p : ℕ) → LawfulAt s.context m s.buffer → IfFine (at_text put s m (look_back s.context t) t p) Lawful
unfolding at_text
at_text_lawful s mode.Start e t p g = a_label_lawful s t p g.law
at_text_lawful s mode.Labelled e t p g = tt
at_text_lawful s mode.Constants e t p g = a_constant_lawful s e t p g.law
at_text_lawful s mode.Variables e t p g = a_variable_lawful s e t p g.law
at_text_lawful s mode.Distinct e t p g = a_distinct_lawful s e t p g.law (λ n a. All-push (IsActive s.context) s.buffer n g.fits a)
at_text_lawful s mode.Float e t p g = a_float_lawful s e t p g.law (λ n a. All-push (IsActive s.context) s.buffer n g.fits a)
at_text_lawful s mode.Essential e t p g = a_symbol_lawful s mode.Essential e t p g.law (λ n a. All-push (IsActive s.context) s.buffer n g.fits a)
at_text_lawful s mode.Axiom e t p g = a_symbol_lawful s mode.Axiom e t p g.law (λ n a. All-push (IsActive s.context) s.buffer n g.fits a)
at_text_lawful s mode.Theorem e t p g = a_symbol_lawful s mode.Theorem e t p g.law (λ n a. All-push (IsActive s.context) s.buffer n g.fits a)
at_text_lawful s mode.Proof e t p g = subst (λ m. LawfulAt s.context m s.buffer) (sym e) g

between : (past : List Event) (ss : List ℕ) → Laws past → LawfulAt past mode.Start ss
between past ss law = record { law = law; fits = tt }

at_end_lawful : (s : State (List Event)) (m : Mode) → LawfulAt s.context m s.buffer → (p : ℕ) → IfFine (at_end put s m p) Lawful
unfolding at_end symbols
at_end_lawful s mode.Start g p = tt
at_end_lawful s mode.Labelled g p = tt
at_end_lawful s mode.Constants g p = fine_if (nat_eq (length s.buffer) 0) _ _ Lawful (λ _. tt) (λ _. between s.context [] g.law)
at_end_lawful s mode.Variables g p = fine_if (nat_eq (length s.buffer) 0) _ _ Lawful (λ _. tt) (λ _. between s.context [] g.law)
at_end_lawful s mode.Distinct g p = fine_if (nat_lt (length s.buffer) 2) _ _ Lawful (λ _. tt) (λ _. between (distinct s.buffer ∷ s.context) [] ((g.fits, g.law.0), g.law.1))
at_end_lawful s mode.Float g p = fine_if (nat_eq (length s.buffer) 2) _ _ Lawful (λ _. between (float s.label s.buffer s.described ∷ s.context) [] ((g.fits, g.law.0), g.law.1)) (λ _. tt)
at_end_lawful s mode.Essential g p = fine_if (nat_eq (length s.buffer) 0) _ _ Lawful (λ _. tt) (λ _. between (essential s.label s.buffer s.described ∷ s.context) [] ((g.fits, g.law.0), g.law.1))
at_end_lawful s mode.Axiom g p = fine_if (nat_eq (length s.buffer) 0) _ _ Lawful (λ _. tt) (λ _. between (asserted s.label s.buffer s.described ∷ s.context) [] ((g.fits, g.law.0), g.law.1))
at_end_lawful s mode.Theorem g p = tt
at_end_lawful s mode.Proof g p = between (theorem s.label s.buffer s.proof p s.described ∷ s.context) [] ((g.fits, g.law.0), g.law.1)

at_proof_lawful : (s : State (List Event)) (m : Mode) → LawfulAt s.context m s.buffer → (p : ℕ) → IfFine (at_proof s m p) Lawful
unfolding at_proof
at_proof_lawful s mode.Theorem g p = fine_if (nat_eq (length s.buffer) 0) _ _ Lawful (λ _. tt) (λ _. record { law = g.law; fits = g.fits })
at_proof_lawful s _ g p = tt

unlabelled_lawful : (s : State (List Event)) (m n : Mode) → Laws s.context → Fits n [] s.context → (p : ℕ) → IfFine (unlabelled s m n p) Lawful
unfolding unlabelled
unlabelled_lawful s mode.Start n law fits p = record { law = law; fits = fits }
unlabelled_lawful s mode.Labelled n law fits p = tt
unlabelled_lawful s _ n law fits p = tt

labelled_lawful : (s : State (List Event)) (m n : Mode) → Laws s.context → Fits n [] s.context → (p : ℕ) → IfFine (labelled s m n p) Lawful
unfolding labelled
labelled_lawful s mode.Labelled n law fits p = record { law = law; fits = fits }
labelled_lawful s mode.Start n law fits p = tt
labelled_lawful s _ n law fits p = tt

at_constants_lawful : (s : State (List Event)) (m : Mode) → Laws s.context → (deep : Bool) (p : ℕ) → IfFine (at_constants s m deep p) Lawful
unfolding at_constants
at_constants_lawful s mode.Start law deep p = fine_if deep _ _ Lawful (λ _. tt) (λ _. record { law = law; fits = tt })
at_constants_lawful s mode.Labelled law deep p = fine_if deep _ _ Lawful (λ _. tt) (λ _. tt)
at_constants_lawful s _ law deep p = tt

at_open_lawful : (s : State (List Event)) (m : Mode) → s.mode ≡ m → Laws s.context → (p : ℕ) → IfFine (at_open put s m p) Lawful
unfolding at_open symbols
at_open_lawful s mode.Start e law p = subst (λ m. LawfulAt (opened p ∷ s.context) m s.buffer) (sym e) (between (opened p ∷ s.context) s.buffer (law.0, law.1))
at_open_lawful s mode.Labelled e law p = tt
at_open_lawful s _ e law p = tt

at_close_lawful : (s : State (List Event)) (m : Mode) → s.mode ≡ m → Laws s.context → (deep : Bool) (p : ℕ) → IfFine (at_close put s m deep p) Lawful
unfolding at_close symbols
at_close_lawful s mode.Start e law deep p =
    fine_if deep _ _ Lawful (λ _. subst (λ m. LawfulAt (closed ∷ s.context) m s.buffer) (sym e) (between (closed ∷ s.context) s.buffer (law.0, law.1))) (λ _. tt)
at_close_lawful s mode.Labelled e law deep p = tt
at_close_lawful s _ e law deep p = tt

step_lawful : (s : State (List Event)) (w : Word) (t : List ℕ) (p : ℕ) → Lawful s → IfFine (step_by put s (look_back s.context t) w t p) Lawful
unfolding step_by
step_lawful s word.Unknown t p g = tt
step_lawful s word.Inclusion t p g = tt
step_lawful s word.Text t p g = at_text_lawful s s.mode refl t p g
step_lawful s word.End t p g = at_end_lawful s s.mode g p
step_lawful s word.Proof t p g = at_proof_lawful s s.mode g p
step_lawful s word.Constants t p g = at_constants_lawful s s.mode g.law (look_back s.context t).deep p
step_lawful s word.Variables t p g = unlabelled_lawful s s.mode mode.Variables g.law tt p
step_lawful s word.Distinct t p g = unlabelled_lawful s s.mode mode.Distinct g.law (All-nil (IsActive s.context)) p
step_lawful s word.Open t p g = at_open_lawful s s.mode refl g.law p
step_lawful s word.Close t p g = at_close_lawful s s.mode refl g.law (look_back s.context t).deep p
step_lawful s word.Float t p g = labelled_lawful s s.mode mode.Float g.law (All-nil (IsActive s.context)) p
step_lawful s word.Essential t p g = labelled_lawful s s.mode mode.Essential g.law (All-nil (IsActive s.context)) p
step_lawful s word.Axiom t p g = labelled_lawful s s.mode mode.Axiom g.law (All-nil (IsActive s.context)) p
step_lawful s word.Theorem t p g = labelled_lawful s s.mode mode.Theorem g.law (All-nil (IsActive s.context)) p

kept : (bytes : List ℕ) (s : State (List Event)) (k : Token) → Lawful s → IfFine (step put look_back bytes s k) Lawful
kept bytes s k g = step_lawful s (word_of (text_of bytes k)) (text_of bytes k) k.start g

lawful_nothing : Lawful nothing_read
lawful_nothing = record { law = (tt, tt); fits = tt }

begun_lawful : (s : State (List Event)) (m : Mode) → Laws s.context → IfFine (unless_begun s m) Laws
begun_lawful s mode.Start law = law
begun_lawful s _ law = tt

open_lawful : (s : State (List Event)) (ps : List ℕ) → Laws s.context → IfFine (unless_open s ps) Laws
open_lawful s [] law = begun_lawful s s.mode law
open_lawful s (p ∷ ps) law = tt

the_end_lawful : (s : State (List Event)) (bad : Option ℕ) (long : Bool) (unclosed : Option ℕ) → Laws s.context → IfFine (at_the_end s bad long unclosed) Laws
the_end_lawful s (Some p) long unclosed law = tt
the_end_lawful s None true unclosed law = tt
the_end_lawful s None false (Some p) law = tt
the_end_lawful s None false None law = open_lawful s (open_blocks s.context) law

after_lawful : (r : Result (State (List Event)) ReadFault) → IfFine r Lawful → (bad : Option ℕ) (long : Bool) (unclosed : Option ℕ)
    → IfFine (after r (λ s. at_the_end s bad long unclosed)) Laws
after_lawful (Ok s) g bad long unclosed = the_end_lawful s bad long unclosed g.law
after_lawful (Err e) g bad long unclosed = tt

read_lawful : (bytes : List ℕ) (long : Bool) → IfFine (read_by bytes long) Laws
read_lawful bytes long =
    after_lawful (read_from put look_back (clean bytes) nothing_read (pieces_of (clean bytes)))
    (fine_read Lawful (λ s c g. g) (λ s g. g) kept (clean bytes) (pieces_of (clean bytes)) nothing_read lawful_nothing)
    (position is_bad bytes) long (open_in (pieces_of (clean bytes)))

none_lawful : Laws []
unfolding symbols
none_lawful = (tt, tt)

events_lawful : (r : Result (List Event) ReadFault) → IfFine r Laws → Laws (events_in r)
events_lawful (Ok past) law = law
events_lawful (Err e) law = none_lawful

-- so it is in each database
pub is_lawful : (bytes : List ℕ) → Laws (events_of bytes)
unfolding events_of database_of
is_lawful bytes = events_lawful (database_of bytes) (read_lawful (judged bytes) (is_long bytes))
