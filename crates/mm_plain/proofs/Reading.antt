-- Each statement that is read is well formed.
use Rattle.std.proofs.Common.{◌≡◌, ◌≤◌, ◌<◌, ℕ, Bool, true, false, cond, not, ◌&&◌, ◌||◌, List, [], ◌∷◌, ◌++◌, Option, None, Some, length, position, nat_lt, nat_eq, slice_index, All, refl, sym, ap, ◌∙◌, subst, arith, length-append}
use Rattle.std.proofs.lemmas.Bool.{eqb-true, true≢false, false≢true}
use Rattle.std.proofs.lemmas.List.Elements.{All-push, All-nil}
use Rattle.std.proofs.lemmas.List.Quantifiers.{position-Some}
use Rattle.std.specs.List.{list_any}
use Rattle.std.specs.Str.{bytes_eq}
use Rattle.mm_tokens.specs.declared.pieces.Span.{Span}
use Rattle.mm_tokens.specs.declared.pieces.Token.{Token}
use Rattle.mm_tokens.specs.Words.{word_of, is_bad_label, is_bad_symbol}
use Rattle.mm_tokens.specs.declared.word.Word.{Word}
use Rattle.mm_tokens.specs.declared.word.Word.TheVariants as word
use Rattle.mm_scope.specs.Contents.{events_of}
use Rattle.mm_scope.specs.Events.{Event, put, constant, variable, float, essential, asserted, theorem, distinct, opened, closed, symbols, statements, labels, active_hypotheses, active_distinct}
use Rattle.mm_scope.specs.Looks.{look_back, known_as, constants}
use Rattle.mm_scope.specs.Reading.{text_of, step}
use Rattle.mm_stated.specs.Mandatory.{an_assertion}
use Rattle.mm_stated.specs.Stated.{Stated, a_hypothesis}
use Rattle.mm_scope.specs.Steps.{most_label, Answers, State, symbol_checks, take_symbol, is_full, most_symbols, a_label, a_constant, a_variable, a_float, a_symbol, a_distinct, at_text, at_end, at_proof, unlabelled, at_constants, labelled, at_open, at_close, step_by}
use Rattle.mm_scope.specs.declared.mode.Mode.{Mode}
use Rattle.mm_scope.specs.declared.mode.Mode.TheVariants as mode
use Rattle.mm_stated.specs.declared.statement.Kind.{Kind}
use Rattle.mm_stated.specs.declared.statement.Kind.TheVariants as kind
use Rattle.mm_plain.proofs.Begun.{is_among, IsBegun, HasVariable, IsWhole, none_begun, none_varies, one_more, first_varies, second_varies}
use Rattle.mm_plain.proofs.Fine.{IfFine, fine_if, fine_unless, of_each}

-- the statements so far
abbrev pub AreWhole : List Event → Type 0
AreWhole past = All (IsWhole (length (symbols past)) (constants past)) (statements past)

-- a text more leaves no fewer
no_fewer : (b : Bool) (ts : List (List ℕ)) (t : List ℕ) → length ts ≤ length (cond b ts (ts ++ t ∷ []))
no_fewer true ts t = omega arith
no_fewer false ts t = omega (arith, length-append ts (t ∷ []))

-- more symbols, and more constants that are new ones
grown : (count more : ℕ) (old new : List ℕ) → count ≤ more → ((n : ℕ) → is_among old n ≡ true → is_among new n ≡ true)
    → ((n : ℕ) → n < count → is_among old n ≡ false → is_among new n ≡ false) → (s : Stated) → IsWhole count old s → IsWhole more new s
grown count more old new rises kept fresh s w = record {
  own = λ k d small. omega (arith, rises, w.own k d small);
  short = w.short;
  some = w.some;
  typecode = kept (slice_index s.symbols 0) w.typecode;
  pair = w.pair;
  variable = λ is. fresh (slice_index s.symbols 1) (w.own 1 0 (omega (arith, w.pair is))) (w.variable is);
}

one_symbol : (past : List Event) (t : List ℕ) (n : ℕ) → AreWhole past → AreWhole (variable t n ∷ past)
unfolding symbols constants statements
one_symbol past t n all k d small =
    grown (length (symbols past)) (length (symbols (variable t n ∷ past))) (constants past) (constants past) (no_fewer (list_any (bytes_eq t) (symbols past)) (symbols past) t) (λ m e. e) (λ m less e. e) _ (all k d small)

differ : (m n : ℕ) → m < n → nat_eq m n ≡ false
differ m n h = grind arith

or_right : (a b : Bool) → b ≡ true → (a || b) ≡ true
or_right true b h = refl
or_right false b h = h

or_none : (a b : Bool) → a ≡ false → b ≡ false → (a || b) ≡ false
or_none true b h g = absurd (true≢false h)
or_none false b h g = g

one_constant : (past : List Event) (t : List ℕ) (n : ℕ) → length (symbols past) ≤ n → AreWhole past → AreWhole (constant t n ∷ past)
unfolding symbols constants statements
one_constant past t n new all k d small =
    grown (length (symbols past)) (length (symbols (constant t n ∷ past))) (constants past) (n ∷ constants past) (no_fewer (list_any (bytes_eq t) (symbols past)) (symbols past) t)
    (λ m e. or_right (nat_eq m n) (is_among (constants past) m) e)
    (λ m less e. or_none (nat_eq m n) (is_among (constants past) m) (differ m n (omega (arith, less, new))) e) _ (all k d small)

new_number : (past : List Event) (t : List ℕ) (r : Option ℕ) → (known_as past t r).known ≡ false → length (symbols past) ≤ (known_as past t r).number
new_number past t None off = omega arith
new_number past t (Some n) off = absurd (true≢false off)

own_number : (past : List Event) (t : List ℕ) (r : Option ℕ) → position (bytes_eq t) (symbols past) ≡ r → not ((known_as past t r).constant || (known_as past t r).active) ≡ false
    → (known_as past t r).number < length (symbols past)
own_number past t None e h = absurd (true≢false h)
own_number past t (Some n) e h = (position-Some (bytes_eq t) (symbols past) n [] e).0

constant_as : (past : List Event) (t : List ℕ) (r : Option ℕ) → not ((known_as past t r).constant || (known_as past t r).active) ≡ false
    → is_among (constants past) (known_as past t r).number ≡ (known_as past t r).constant
constant_as past t None h = absurd (true≢false h)
constant_as past t (Some n) h = refl

-- so far the symbols of the statement that is begun have its form
abbrev pub Fits : Mode → List ℕ → ℕ → List ℕ → Type 0
Fits mode.Start ss count cs = Unit {0}
Fits mode.Labelled ss count cs = Unit {0}
Fits mode.Constants ss count cs = Unit {0}
Fits mode.Variables ss count cs = Unit {0}
Fits mode.Distinct ss count cs = Unit {0}
Fits mode.Float ss count cs = IsBegun count cs ss × HasVariable cs ss
Fits mode.Essential ss count cs = IsBegun count cs ss
Fits mode.Axiom ss count cs = IsBegun count cs ss
Fits mode.Theorem ss count cs = IsBegun count cs ss
Fits mode.Proof ss count cs = IsBegun count cs ss × (0 < length ss)

pub record FormedAt (past : List Event) (m : Mode) (ss : List ℕ) : Type 0 where
  pub all : AreWhole past
  pub fits : Fits m ss (length (symbols past)) (constants past)

abbrev pub Formed : State (List Event) → Type 0
Formed s = FormedAt s.context s.mode s.buffer

-- one symbol more
grow : (s : State (List Event)) (m : Mode) → s.mode ≡ m → (n : ℕ) → AreWhole s.context → Fits m (s.buffer ++ n ∷ []) (length (symbols s.context)) (constants s.context)
    → FormedAt s.context s.mode (s.buffer ++ n ∷ [])
grow s m e n all fits = subst (λ k. FormedAt s.context k (s.buffer ++ n ∷ [])) (sym e) (record { all = all; fits = fits })

has_room : (n : ℕ) → not (nat_lt n most_symbols) ≡ false → n < most_symbols
has_room n h = grind arith

a_symbol_formed : (s : State (List Event)) (m : Mode) → s.mode ≡ m → (t : List ℕ) (p : ℕ) → AreWhole s.context → IsBegun (length (symbols s.context)) (constants s.context) s.buffer
    → ((ss : List ℕ) → IsBegun (length (symbols s.context)) (constants s.context) ss → Fits m ss (length (symbols s.context)) (constants s.context))
    → IfFine (a_symbol s (look_back s.context t) p) Formed
unfolding a_symbol
a_symbol_formed s m e t p all b fit =
    let past : List Event = s.context in
    let a : Answers = look_back past t in
    let r : Option ℕ = position (bytes_eq t) (symbols past) in
    fine_unless (symbol_checks s a p) (take_symbol s a.number) Formed (λ off. grow s m e a.number all (fit (s.buffer ++ a.number ∷ [])
    (one_more (length (symbols past)) (constants past) s.buffer a.number (own_number past t r refl off.0)
    (subst (λ c. (nat_eq (length s.buffer) 0 && not c) ≡ false) (sym (constant_as past t r off.0)) off.1.0) (has_room (length s.buffer) off.1.1.1.0) b)))

a_distinct_formed : (s : State (List Event)) → s.mode ≡ mode.Distinct → (t : List ℕ) (p : ℕ) → AreWhole s.context → IfFine (a_distinct s (look_back s.context t) p) Formed
unfolding a_distinct
a_distinct_formed s e t p all =
    let a : Answers = look_back s.context t in
    fine_if (not (a.constant || a.active)) _ _ Formed (λ _. tt) (λ live.
    fine_if (a.constant || list_any (nat_eq a.number) s.buffer) _ _ Formed (λ _. tt) (λ _.
    fine_if (is_full s) _ _ Formed (λ _. tt) (λ _.
    grow s mode.Distinct e a.number all tt)))

none_left : (n : ℕ) → nat_eq n 0 ≡ true → n < most_symbols
none_left n h = grind arith

one_left : (n : ℕ) → nat_lt 1 n ≡ false → n < most_symbols
one_left n h = grind arith

first_test : (b c : Bool) → c ≡ true → (b && not c) ≡ false
first_test true c h = ap not h
first_test false c h = refl

later_test : (b c : Bool) → b ≡ false → (b && not c) ≡ false
later_test true c h = absurd (true≢false h)
later_test false c h = refl

neither : (a b : Bool) → (a || b) ≡ false → (a ≡ false) × (b ≡ false)
neither true b h = absurd (true≢false h)
neither false b h = (refl, h)

a_float_formed : (s : State (List Event)) → s.mode ≡ mode.Float → (t : List ℕ) (p : ℕ) → AreWhole s.context → IsBegun (length (symbols s.context)) (constants s.context) s.buffer
    → IfFine (a_float s (look_back s.context t) p) Formed
unfolding a_float
a_float_formed s e t p all b =
    let past : List Event = s.context in
    let cs : List ℕ = constants past in
    let a : Answers = look_back past t in
    let r : Option ℕ = position (bytes_eq t) (symbols past) in
    fine_if (not (a.constant || a.active)) _ _ Formed (λ _. tt) (λ live.
    fine_if (nat_eq (length s.buffer) 0) _ _ Formed
    (λ none. fine_if a.constant _ _ Formed (λ is. grow s mode.Float e a.number all (
      one_more (length (symbols past)) cs s.buffer a.number (own_number past t r refl live)
          (first_test (nat_eq (length s.buffer) 0) (is_among cs a.number) (constant_as past t r live ∙ is)) (none_left (length s.buffer) none) b,
      first_varies cs s.buffer a.number none,
    )) (λ _. tt)) (λ some.
    fine_if (nat_lt 1 (length s.buffer) || a.constant) _ _ Formed (λ _. tt) (λ off.
    let w = neither (nat_lt 1 (length s.buffer)) a.constant off in
    fine_if a.floated _ _ Formed (λ _. tt) (λ _. grow s mode.Float e a.number all (
      one_more (length (symbols past)) cs s.buffer a.number (own_number past t r refl live)
          (later_test (nat_eq (length s.buffer) 0) (is_among cs a.number) some) (one_left (length s.buffer) w.0) b,
      second_varies cs s.buffer a.number some w.0 (constant_as past t r live ∙ w.1),
    )))))

a_label_formed : (s : State (List Event)) (t : List ℕ) (p : ℕ) → AreWhole s.context → IfFine (a_label s (look_back s.context t) t p) Formed
unfolding a_label
a_label_formed s t p all =
    let a : Answers = look_back s.context t in
    fine_if (is_bad_label t) _ _ Formed (λ _. tt) (λ _.
    fine_if (a.label || a.known) _ _ Formed (λ _. tt) (λ _.
    fine_if (nat_lt most_label (length t)) _ _ Formed (λ _. tt) (λ _.
    record { all = all; fits = tt })))

a_constant_formed : (s : State (List Event)) → s.mode ≡ mode.Constants → (t : List ℕ) (p : ℕ) → AreWhole s.context → IfFine (a_constant put s (look_back s.context t) t p) Formed
unfolding a_constant
a_constant_formed s e t p all =
    let past : List Event = s.context in
    let a : Answers = look_back past t in
    fine_if (is_bad_symbol t) _ _ Formed (λ _. tt) (λ _.
    fine_if (a.known || a.label) _ _ Formed (λ _. tt) (λ off.
    fine_if (is_full s) _ _ Formed (λ _. tt) (λ _.
    subst (λ m. FormedAt (constant t a.number ∷ past) m (s.buffer ++ a.number ∷ [])) (sym e)
    (record { all = one_constant past t a.number (new_number past t (position (bytes_eq t) (symbols past)) (neither a.known a.label off).0) all; fits = tt }))))

a_variable_formed : (s : State (List Event)) → s.mode ≡ mode.Variables → (t : List ℕ) (p : ℕ) → AreWhole s.context → IfFine (a_variable put s (look_back s.context t) t p) Formed
unfolding a_variable
a_variable_formed s e t p all =
    let past : List Event = s.context in
    let a : Answers = look_back past t in
    fine_if (is_bad_symbol t) _ _ Formed (λ _. tt) (λ _.
    fine_if (a.active || a.constant || a.label) _ _ Formed (λ _. tt) (λ _.
    fine_if (is_full s) _ _ Formed (λ _. tt) (λ _.
    subst (λ m. FormedAt (variable t a.number ∷ past) m (s.buffer ++ a.number ∷ [])) (sym e) (record { all = one_symbol past t a.number all; fits = tt }))))

at_text_formed : (s : State (List Event)) (m : Mode) → s.mode ≡ m → (t : List ℕ) (p : ℕ) → FormedAt s.context m s.buffer → IfFine (at_text put s m (look_back s.context t) t p) Formed
unfolding at_text
at_text_formed s mode.Start e t p g = a_label_formed s t p g.all
at_text_formed s mode.Labelled e t p g = tt
at_text_formed s mode.Constants e t p g = a_constant_formed s e t p g.all
at_text_formed s mode.Variables e t p g = a_variable_formed s e t p g.all
at_text_formed s mode.Distinct e t p g = a_distinct_formed s e t p g.all
at_text_formed s mode.Float e t p g = a_float_formed s e t p g.all g.fits.0
at_text_formed s mode.Essential e t p g = a_symbol_formed s mode.Essential e t p g.all g.fits (λ ss b. b)
at_text_formed s mode.Axiom e t p g = a_symbol_formed s mode.Axiom e t p g.all g.fits (λ ss b. b)
at_text_formed s mode.Theorem e t p g = a_symbol_formed s mode.Theorem e t p g.all g.fits (λ ss b. b)
at_text_formed s mode.Proof e t p g = subst (λ m. FormedAt s.context m s.buffer) (sym e) g

-- a statement ends
is_float : Kind → Bool
is_float kind.Float = true
is_float _ = false

whole : (count : ℕ) (cs : List ℕ) (s : Stated) → IsBegun count cs s.symbols → 0 < length s.symbols → is_float s.kind ≡ false → IsWhole count cs s
unfolding is_float
whole count cs s b some other = record {
  own = b.own;
  short = b.short;
  some = some;
  typecode = b.typecode some;
  pair = λ is. absurd (false≢true (sym other ∙ ap is_float is));
  variable = λ is. absurd (false≢true (sym other ∙ ap is_float is));
}

whole_float : (count : ℕ) (cs : List ℕ) (s : Stated) → IsBegun count cs s.symbols → HasVariable cs s.symbols → length s.symbols ≡ 2 → IsWhole count cs s
whole_float count cs s b v two = record {
  own = b.own;
  short = b.short;
  some = omega (arith, two);
  typecode = b.typecode (omega (arith, two));
  pair = λ _. two;
  variable = λ _. v (omega (arith, two));
}

some_length : (n : ℕ) → nat_eq n 0 ≡ false → 0 < n
some_length n h = grind (arith, h)

between : (past : List Event) (ss : List ℕ) → AreWhole past → FormedAt past mode.Start ss
between past ss all = record { all = all; fits = tt }

pushed : (past : List Event) (s : Stated) → AreWhole past → IsWhole (length (symbols past)) (constants past) s → All (IsWhole (length (symbols past)) (constants past)) (statements past ++ s ∷ [])
pushed past s all w = All-push (IsWhole (length (symbols past)) (constants past)) (statements past) s all w

asserting : List Event → Kind → List ℕ → ℕ → ℕ → Option Span → Stated
asserting past k ss from to d = an_assertion (statements past) (active_hypotheses past) (active_distinct past) k ss from to d

at_end_formed : (s : State (List Event)) (m : Mode) → FormedAt s.context m s.buffer → (p : ℕ) → IfFine (at_end put s m p) Formed
unfolding at_end symbols constants statements is_float asserting
at_end_formed s mode.Start g p = tt
at_end_formed s mode.Labelled g p = tt
at_end_formed s mode.Constants g p = fine_if (nat_eq (length s.buffer) 0) _ _ Formed (λ _. tt) (λ _. between s.context [] g.all)
at_end_formed s mode.Variables g p = fine_if (nat_eq (length s.buffer) 0) _ _ Formed (λ _. tt) (λ _. between s.context [] g.all)
at_end_formed s mode.Distinct g p = fine_if (nat_lt (length s.buffer) 2) _ _ Formed (λ _. tt) (λ _. between (distinct s.buffer ∷ s.context) [] g.all)
at_end_formed s mode.Float g p =
    let past : List Event = s.context in
    let x : Stated = a_hypothesis kind.Float s.buffer s.described in
    fine_if (nat_eq (length s.buffer) 2) _ _ Formed (λ two. between (float s.label s.buffer s.described ∷ past) []
    (pushed past x g.all (whole_float (length (symbols past)) (constants past) x g.fits.0 g.fits.1 (eqb-true (length s.buffer) 2 two)))) (λ _. tt)
at_end_formed s mode.Essential g p =
    let past : List Event = s.context in
    let x : Stated = a_hypothesis kind.Essential s.buffer s.described in
    fine_if (nat_eq (length s.buffer) 0) _ _ Formed (λ _. tt) (λ none. between (essential s.label s.buffer s.described ∷ past) []
    (pushed past x g.all (whole (length (symbols past)) (constants past) x g.fits (some_length (length s.buffer) none) refl)))
at_end_formed s mode.Axiom g p =
    let past : List Event = s.context in
    let x : Stated = asserting past kind.Axiom s.buffer 0 0 s.described in
    fine_if (nat_eq (length s.buffer) 0) _ _ Formed (λ _. tt) (λ none. between (asserted s.label s.buffer s.described ∷ past) []
    (pushed past x g.all (whole (length (symbols past)) (constants past) x g.fits (some_length (length s.buffer) none) refl)))
at_end_formed s mode.Theorem g p = tt
at_end_formed s mode.Proof g p =
    let past : List Event = s.context in
    let x : Stated = asserting past kind.Theorem s.buffer s.proof p s.described in
    between (theorem s.label s.buffer s.proof p s.described ∷ past) [] (pushed past x g.all (whole (length (symbols past)) (constants past) x g.fits.0 g.fits.1 refl))

at_proof_formed : (s : State (List Event)) (m : Mode) → FormedAt s.context m s.buffer → (p : ℕ) → IfFine (at_proof s m p) Formed
unfolding at_proof
at_proof_formed s mode.Theorem g p = fine_if (nat_eq (length s.buffer) 0) _ _ Formed (λ _. tt) (λ none. record { all = g.all; fits = (g.fits, some_length (length s.buffer) none) })
at_proof_formed s _ g p = tt

unlabelled_formed : (s : State (List Event)) (m n : Mode) → AreWhole s.context → Fits n [] (length (symbols s.context)) (constants s.context) → (p : ℕ) → IfFine (unlabelled s m n p) Formed
unfolding unlabelled
unlabelled_formed s mode.Start n all fits p = record { all = all; fits = fits }
unlabelled_formed s mode.Labelled n all fits p = tt
unlabelled_formed s _ n all fits p = tt

labelled_formed : (s : State (List Event)) (m n : Mode) → AreWhole s.context → Fits n [] (length (symbols s.context)) (constants s.context) → (p : ℕ) → IfFine (labelled s m n p) Formed
unfolding labelled
labelled_formed s mode.Labelled n all fits p = record { all = all; fits = fits }
labelled_formed s mode.Start n all fits p = tt
labelled_formed s _ n all fits p = tt

at_constants_formed : (s : State (List Event)) (m : Mode) → AreWhole s.context → (deep : Bool) (p : ℕ) → IfFine (at_constants s m deep p) Formed
unfolding at_constants
at_constants_formed s mode.Start all deep p = fine_if deep _ _ Formed (λ _. tt) (λ _. record { all = all; fits = tt })
at_constants_formed s mode.Labelled all deep p = fine_if deep _ _ Formed (λ _. tt) (λ _. tt)
at_constants_formed s _ all deep p = tt

at_open_formed : (s : State (List Event)) (m : Mode) → s.mode ≡ m → AreWhole s.context → (p : ℕ) → IfFine (at_open put s m p) Formed
unfolding at_open symbols constants statements
at_open_formed s mode.Start e all p = subst (λ m. FormedAt (opened p ∷ s.context) m s.buffer) (sym e) (between (opened p ∷ s.context) s.buffer all)
at_open_formed s mode.Labelled e all p = tt
at_open_formed s _ e all p = tt

at_close_formed : (s : State (List Event)) (m : Mode) → s.mode ≡ m → AreWhole s.context → (deep : Bool) (p : ℕ) → IfFine (at_close put s m deep p) Formed
unfolding at_close symbols constants statements
at_close_formed s mode.Start e all deep p =
    fine_if deep _ _ Formed (λ _. subst (λ m. FormedAt (closed ∷ s.context) m s.buffer) (sym e) (between (closed ∷ s.context) s.buffer all)) (λ _. tt)
at_close_formed s mode.Labelled e all deep p = tt
at_close_formed s _ e all deep p = tt

step_formed : (s : State (List Event)) (w : Word) (t : List ℕ) (p : ℕ) → Formed s → IfFine (step_by put s (look_back s.context t) w t p) Formed
unfolding step_by
step_formed s word.Unknown t p g = tt
step_formed s word.Inclusion t p g = tt
step_formed s word.Text t p g = at_text_formed s s.mode refl t p g
step_formed s word.End t p g = at_end_formed s s.mode g p
step_formed s word.Proof t p g = at_proof_formed s s.mode g p
step_formed s word.Constants t p g = at_constants_formed s s.mode g.all (look_back s.context t).deep p
step_formed s word.Variables t p g = unlabelled_formed s s.mode mode.Variables g.all tt p
step_formed s word.Distinct t p g = unlabelled_formed s s.mode mode.Distinct g.all tt p
step_formed s word.Open t p g = at_open_formed s s.mode refl g.all p
step_formed s word.Close t p g = at_close_formed s s.mode refl g.all (look_back s.context t).deep p
step_formed s word.Float t p g =
    labelled_formed s s.mode mode.Float g.all (none_begun (length (symbols s.context)) (constants s.context), none_varies (constants s.context)) p
step_formed s word.Essential t p g = labelled_formed s s.mode mode.Essential g.all (none_begun (length (symbols s.context)) (constants s.context)) p
step_formed s word.Axiom t p g = labelled_formed s s.mode mode.Axiom g.all (none_begun (length (symbols s.context)) (constants s.context)) p
step_formed s word.Theorem t p g = labelled_formed s s.mode mode.Theorem g.all (none_begun (length (symbols s.context)) (constants s.context)) p

kept : (bytes : List ℕ) (s : State (List Event)) (k : Token) → 0 < length (text_of bytes k) → Formed s → IfFine (step put look_back bytes s k) Formed
kept bytes s k some g = step_formed s (word_of (text_of bytes k)) (text_of bytes k) k.start g

none_whole : AreWhole []
unfolding statements
none_whole = All-nil _

-- so it is in each database
pub all_formed : (bytes : List ℕ) → AreWhole (events_of bytes)
all_formed = of_each Formed (λ s c g. g) (λ s g. g) kept AreWhole none_whole (λ s g. g.all) (record { all = none_whole; fits = tt })

-- each labelled statement has a label
one_more_each : {A B : Type 0} (xs : List A) (x : A) (ys : List B) (y : B) → length xs ≡ length ys → length (xs ++ x ∷ []) ≡ length (ys ++ y ∷ [])
one_more_each xs x ys y e = omega (arith, e, length-append xs (x ∷ []), length-append ys (y ∷ []))

pub as_many : (past : List Event) → length (statements past) ≡ length (labels past)
unfolding statements labels asserting
as_many [] = refl
as_many (float l ss d ∷ past) = one_more_each (statements past) (a_hypothesis kind.Float ss d) (labels past) l (as_many past)
as_many (essential l ss d ∷ past) = one_more_each (statements past) (a_hypothesis kind.Essential ss d) (labels past) l (as_many past)
as_many (asserted l ss d ∷ past) = one_more_each (statements past) (asserting past kind.Axiom ss 0 0 d) (labels past) l (as_many past)
as_many (theorem l ss from to d ∷ past) = one_more_each (statements past) (asserting past kind.Theorem ss from to d) (labels past) l (as_many past)
as_many (constant t n ∷ past) = as_many past
as_many (variable t n ∷ past) = as_many past
as_many (distinct ss ∷ past) = as_many past
as_many (opened p ∷ past) = as_many past
as_many (closed ∷ past) = as_many past
