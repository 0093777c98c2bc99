-- The texts of LET: what is made of them has symbols of the database, and work variables that were drawn.
use Rattle.std.proofs.Common.{◌≡◌, ◌≤◌, ◌<◌, ℕ, ◌==◌, ◌+◌, ◌-◌, ◌*◌, ◌&&◌, Bool, true, false, not, cond, nat_le, nat_lt, List, [], ◌∷◌, ◌++◌, length, map, filter, Option, None, Some, refl, ap, sym, ◌∙◌, subst, arith, length-append}
use Rattle.std.specs.Prelude.{Result, Ok, Err, filter_map, position}
use Rattle.std.specs.List.{All, fold, list_all, list_any, onto_first, prefix_len, slice_split}
use Rattle.std.specs.Option.{is_none, option_map}
use Rattle.std.specs.Str.{bytes_eq}
use Rattle.std.proofs.lemmas.List.{length-map}
use Rattle.std.proofs.lemmas.List.Elements.{All-nil, All-cons}
use Rattle.std.proofs.lemmas.List.Quantifiers.{position-Some}
use Rattle.mm_scope.specs.Contents.{active_symbol_at, events_of, is_variable_of, past_before, symbol_by, symbols_of}
use Rattle.mm_tables.specs.Texts.{with_text}
use Rattle.mm_scope.specs.Events as event
use Rattle.mm_scope.specs.Events.{Event, labels, symbols}
use Rattle.mm_scope.specs.Looks.{known_as}
use Rattle.mm_tokens.specs.Bytes.{is_white}
use Rattle.mm_subst.specs.Applied.{most_symbols}
use Rattle.mm_subst.specs.declared.fault.ParseFault.TheVariants as fault
use Rattle.mm_subst.specs.Parsing.{IsParsed, first_bad, is_numeral, meaning, meanings, number_below, number_of, or_work, words, work_of}
use Rattle.mm_subst.specs.Statements.{symbol_of}
use Rattle.mm_subst.specs.declared.symbol.WSym.{WSym}
use Rattle.mm_subst.specs.declared.symbol.WSym.TheVariants.{Const, Var, Work}
use Rattle.mm_plain.specs.Shape.{Proof}
use Rattle.mm_plain.specs.Valid.{IsKnownSymbol, IsString, Setting, setting_of}
use Rattle.mm_shell.specs.Answers.{none_of, unless}
use Rattle.mm_shell.specs.declared.refusal.Refusal.{Refusal}
use Rattle.mm_shell.specs.declared.refusal.Refusal.TheVariants.{BadSymbol, TooLong}
use Rattle.mm_edit_commands.specs.Values as values
use Rattle.mm_edit_commands.specs.Values.{is_empty, value_of}

-- ## Symbols

some_same : {A : Type 0} (a b : A) → Some a ≡ Some b → a ≡ b
some_same a b e = cc

-- no declaration takes a symbol away
one_more : (ts : List (List ℕ)) (t : List ℕ) → length ts ≤ length (with_text ts t)
one_more ts t = by (list_any (bytes_eq t) ts) where
  by : (is : Bool) → length ts ≤ length (cond is ts (ts ++ t ∷ []))
  by true = omega arith
  by false = omega (arith, length-append ts (t ∷ []))

event_more : (e : Event) (past : List Event) → length (symbols past) ≤ length (symbols (e ∷ past))
unfolding symbols
event_more (event.constant t n) past = one_more (symbols past) t
event_more (event.variable t n) past = one_more (symbols past) t
event_more (event.float l ss d) past = omega arith
event_more (event.essential l ss d) past = omega arith
event_more (event.asserted l ss d) past = omega arith
event_more (event.theorem l ss from to d) past = omega arith
event_more (event.distinct ss) past = omega arith
event_more (event.opened p) past = omega arith
event_more event.closed past = omega arith

fewer_before : (id : ℕ) (past : List Event) → length (symbols (past_before id past)) ≤ length (symbols past)
unfolding past_before
fewer_before id [] = omega arith
fewer_before id (e ∷ past) = by (nat_le (length (labels (e ∷ past))) id) (fewer_before id past) where
  by : (is : Bool) → length (symbols (past_before id past)) ≤ length (symbols past) → length (symbols (cond is (e ∷ past) (past_before id past))) ≤ length (symbols (e ∷ past))
  by true h = omega arith
  by false h = omega (arith, h, event_more e past)

-- a symbol that is active at a statement is one of the database
active_own : (bytes text : List ℕ) (id n : ℕ) → active_symbol_at bytes id text ≡ Some n → n < length (symbols_of bytes)
unfolding active_symbol_at symbols_of
active_own bytes text id n e = by (position (bytes_eq text) (symbols past)) refl e where
  past : List Event
  past = past_before id (events_of bytes)

  chosen : (b : Bool) (k : ℕ) → cond b (Some k) None ≡ Some n → k ≡ n
  chosen true k h = some_same k n h
  chosen false k h = cc

  by : (o : Option ℕ) → position (bytes_eq text) (symbols past) ≡ o → symbol_by (known_as past text o) ≡ Some n → n < length (symbols (events_of bytes))
  by None is h = cc
  by (Some k) is h = omega (arith, (position-Some (bytes_eq text) (symbols past) k [] is).0, chosen _ k h, fewer_before id (events_of bytes))

known_symbol : (c : Setting) (n : ℕ) → n < length (symbols_of c.bytes) → IsKnownSymbol c (symbol_of c.bytes n)
known_symbol c n own = by (is_variable_of c.bytes n) refl where
  by : (b : Bool) → is_variable_of c.bytes n ≡ b → IsKnownSymbol c (cond b (Var n) (Const n))
  by true e = (own, e)
  by false e = (own, e)

-- one digit more makes no number smaller
grows : (n : ℕ) (ds : List ℕ) → n ≤ fold (λ m d. 10 * m + (d - 48)) n ds
grows n [] = omega arith
grows n (d ∷ ds) = omega (arith, grows (10 * n + (d - 48)) ds)

and_left : (a b : Bool) → (a && b) ≡ true → a ≡ true
and_left true b h = refl
and_left false b h = h

is_less : (a b : ℕ) → nat_lt a b ≡ true → a < b
is_less a b h = grind (arith, h)

numeral_some : (ds : List ℕ) → is_numeral ds ≡ true → 1 ≤ number_of ds
numeral_some [] h = cc
numeral_some (d ∷ ds) h = omega (arith, is_less 48 d (and_left (nat_lt 48 d) _ h), grows (10 * 0 + (d - 48)) ds)

-- a work variable that a word names was drawn
work_known : (c : Setting) (word : List ℕ) (x : WSym) → work_of c.next word ≡ Some x → IsKnownSymbol c x
work_known c [] x e = cc
work_known c (b ∷ ds) x e = by (b == 36 && is_numeral ds) refl e where
  and_right : (a b : Bool) → (a && b) ≡ true → b ≡ true
  and_right true b h = h
  and_right false b h = cc

  numbered : (is : Bool) → nat_lt (number_of ds) c.next ≡ is → is_numeral ds ≡ true → option_map Work (cond is (Some (number_of ds)) None) ≡ Some x → IsKnownSymbol c x
  numbered true below numeral h = subst (IsKnownSymbol c) (some_same (Work (number_of ds)) x h) (numeral_some ds numeral, is_less (number_of ds) c.next below)
  numbered false below numeral h = cc

  by : (is : Bool) → (b == 36 && is_numeral ds) ≡ is → cond is (option_map Work (number_below c.next ds)) None ≡ Some x → IsKnownSymbol c x
  by true named h = numbered (nat_lt (number_of ds) c.next) refl (and_right (b == 36) (is_numeral ds) named) h
  by false named h = cc

meaning_known : (c : Setting) (word : List ℕ) (x : WSym) → meaning c.bytes c.at c.next word ≡ Some x → IsKnownSymbol c x
meaning_known c word x e = by (active_symbol_at c.bytes c.at word) refl e where
  by : (o : Option ℕ) → active_symbol_at c.bytes c.at word ≡ o → or_work c.next word (option_map (symbol_of c.bytes) o) ≡ Some x → IsKnownSymbol c x
  by (Some n) is h = subst (IsKnownSymbol c) (some_same (symbol_of c.bytes n) x h) (known_symbol c n (active_own c.bytes word c.at n is))
  by None is h = work_known c word x h

-- ## Strings

abbrev there : List (Option WSym) → List WSym
there ms = filter_map (λ m. m) ms

symbols_known : (c : Setting) (ws : List (List ℕ)) → All (IsKnownSymbol c) (there (map (meaning c.bytes c.at c.next) ws))
symbols_known c [] = All-nil _
symbols_known c (w ∷ ws) = by (meaning c.bytes c.at c.next w) refl (symbols_known c ws) where
  by : (o : Option WSym) → meaning c.bytes c.at c.next w ≡ o → All (IsKnownSymbol c) (there (map (meaning c.bytes c.at c.next) ws)) → All (IsKnownSymbol c) (there (o ∷ map (meaning c.bytes c.at c.next) ws))
  by None is known = known
  by (Some x) is known = All-cons (IsKnownSymbol c) x (there (map (meaning c.bytes c.at c.next) ws)) (meaning_known c w x is) known

no_longer : (ms : List (Option WSym)) → length (there ms) ≤ length ms
no_longer [] = omega arith
no_longer (None ∷ ms) = omega (arith, no_longer ms)
no_longer (Some x ∷ ms) = omega (arith, no_longer ms)

-- what a list of meanings comes to
record IsThere (ms : List (Option WSym)) (s : List WSym) : Type 0 where
  few : length ms ≤ most_symbols
  same : there ms ≡ s

all_there : (ms : List (Option WSym)) (s : List WSym) → values.symbols_of ms ≡ Ok s → IsThere ms s
unfolding unless
all_there ms s e = by (first_bad ms) (nat_lt most_symbols (length ms)) refl e where
  ok_same : (a b : List WSym) → (let x : Result (List WSym) Refusal = Ok a in x) ≡ Ok b → a ≡ b
  ok_same a b h = cc

  not_less : nat_lt most_symbols (length ms) ≡ false → length ms ≤ most_symbols
  not_less h = grind (arith, h)

  by : (o : Option ℕ) (long : Bool) → nat_lt most_symbols (length ms) ≡ long → none_of o (λ i. BadSymbol (i + 1)) (unless ((long, TooLong) ∷ []) (Ok (there ms))) ≡ Ok s → IsThere ms s
  by (Some i) long is h = cc
  by None true is h = cc
  by None false is h = record { few = not_less is; same = ok_same (there ms) s h }

pub value_string : (bytes : List ℕ) (theorem : ℕ) (p : Proof) (text : List ℕ) (s : List WSym) → value_of bytes theorem p text ≡ Ok s → IsString (setting_of bytes theorem p) s
unfolding value_of
value_string bytes theorem p text s e =
    let ms : List (Option WSym) = meanings bytes theorem p.next text in
    let h = all_there ms s e in
    subst (IsString (setting_of bytes theorem p)) h.same (record {
      symbols = symbols_known (setting_of bytes theorem p) (words text);
      short = omega (arith, h.few, no_longer ms);
    })

-- ## What parsing answers

abbrev means : Option WSym → Bool
means o = not (is_none o)

all_mean : (s : List WSym) → prefix_len means (map Some s) ≡ length s
all_mean [] = refl
all_mean (x ∷ s) = omega (arith, all_mean s)

not_below : (n m : ℕ) → m ≤ n → nat_lt n m ≡ false
not_below n m h = grind (arith, h)

-- all words have a meaning
none_bad : (s : List WSym) (ms : List (Option WSym)) → ms ≡ map Some s → first_bad ms ≡ None
none_bad s ms h =
    let place : prefix_len means ms ≡ length s = ap (prefix_len means) h ∙ all_mean s in
    let len : length ms ≡ length s = ap length h ∙ length-map s Some in
    ap (λ b. cond b (Some (prefix_len means ms)) None) (not_below (prefix_len means ms) (length ms) (omega (arith, place, len)))

there_some : (s : List WSym) → there (map Some s) ≡ s
there_some [] = refl
there_some (x ∷ s) = ap (λ xs. x ∷ xs) (there_some s)

value_is : (ms : List (Option WSym)) (s : List WSym) → ms ≡ map Some s → length ms ≤ most_symbols → values.symbols_of ms ≡ Ok s
unfolding unless
value_is ms s e few =
    ap (λ o. none_of o (λ i. BadSymbol (i + 1)) (unless ((nat_lt most_symbols (length ms), TooLong) ∷ []) (Ok (there ms)))) (none_bad s ms e)
    ∙ ap (λ b. unless ((b, TooLong) ∷ []) (Ok (there ms))) not_long
    ∙ ap (λ xs. let x : Result (List WSym) Refusal = Ok xs in x) (ap there e ∙ there_some s)
  where
    not_long : nat_lt most_symbols (length ms) ≡ false
    not_long = grind (arith, few)

value_bad : (ms : List (Option WSym)) (k : ℕ) → 1 ≤ k → first_bad ms ≡ Some (k - 1) → values.symbols_of ms ≡ Err (BadSymbol k)
value_bad ms k some e =
    let same : (k - 1) + 1 ≡ k = omega (arith, some) in
    ap (λ o. none_of o (λ i. BadSymbol (i + 1)) (unless ((nat_lt most_symbols (length ms), TooLong) ∷ []) (Ok (there ms)))) e
    ∙ ap (λ i. let x : Result (List WSym) Refusal = Err (BadSymbol i) in x) same

value_long : (ms : List (Option WSym)) → first_bad ms ≡ None → most_symbols < length ms → values.symbols_of ms ≡ Err TooLong
unfolding unless
value_long ms e long =
    ap (λ o. none_of o (λ i. BadSymbol (i + 1)) (unless ((nat_lt most_symbols (length ms), TooLong) ∷ []) (Ok (there ms)))) e
    ∙ ap (λ b. unless ((b, TooLong) ∷ []) (Ok (there ms))) is_long
  where
    is_long : nat_lt most_symbols (length ms) ≡ true
    is_long = grind (arith, long)

-- the answer of parsing, where no work variable but those of the proof counts
pub parsed_ok : (bytes : List ℕ) (theorem next : ℕ) (p : Proof) (text : List ℕ) (s : List WSym) → next ≡ p.next → IsParsed (Ok s) (meanings bytes theorem next text) → value_of bytes theorem p text ≡ Ok s
unfolding value_of
parsed_ok bytes theorem next p text s e h = ap (λ n. values.symbols_of (meanings bytes theorem n text)) (sym e) ∙ value_is (meanings bytes theorem next text) s h.0 h.2

pub parsed_bad : (bytes : List ℕ) (theorem next : ℕ) (p : Proof) (text : List ℕ) (k : ℕ) → next ≡ p.next → IsParsed (Err (fault.BadSymbol k)) (meanings bytes theorem next text) → value_of bytes theorem p text ≡ Err (BadSymbol k)
unfolding value_of
parsed_bad bytes theorem next p text k e h = ap (λ n. values.symbols_of (meanings bytes theorem n text)) (sym e) ∙ value_bad (meanings bytes theorem next text) k h.0 h.1

pub parsed_long : (bytes : List ℕ) (theorem next : ℕ) (p : Proof) (text : List ℕ) → next ≡ p.next → IsParsed (Err fault.TooLong) (meanings bytes theorem next text) → value_of bytes theorem p text ≡ Err TooLong
unfolding value_of
parsed_long bytes theorem next p text e h = ap (λ n. values.symbols_of (meanings bytes theorem n text)) (sym e) ∙ value_long (meanings bytes theorem next text) h.0 h.1

-- ## Texts without a word

abbrev has_none : List (List ℕ) → Bool
has_none ps = length (filter (λ w. not (length w == 0)) ps) == 0

not_none : {A : Type 0} (x : A) (xs : List A) → length (x ∷ xs) == 0 ≡ false
not_none x xs = grind arith

pub white_alone : (text : List ℕ) → list_all is_white text ≡ is_empty text
white_alone [] = refl
white_alone (b ∷ text) = by (is_white b) (white_alone text) where
  first : (ps : List (List ℕ)) → has_none (onto_first b ps) ≡ false
  first [] = refl
  first (p ∷ ps) = ap (λ z. length (cond (not z) ((b ∷ p) ∷ filter (λ w. not (length w == 0)) ps) (filter (λ w. not (length w == 0)) ps)) == 0) (not_none b p) ∙ not_none (b ∷ p) (filter (λ w. not (length w == 0)) ps)

  by : (white : Bool) → list_all is_white text ≡ is_empty text → (white && list_all is_white text) ≡ has_none (cond white ([] ∷ slice_split is_white text) (onto_first b (slice_split is_white text)))
  by true h = h
  by false h = sym (first (slice_split is_white text))
