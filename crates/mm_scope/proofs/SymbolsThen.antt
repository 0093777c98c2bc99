-- Symbols are never forgotten, and each has one number for good.
use Rattle.std.proofs.Common.{◌≡◌, ◌<◌, ◌≤◌, ℕ, zero, suc, ◌+◌, Bool, true, false, cond, not, ◌||◌, ◌&&◌, nat_le, nat_lt, nat_eq, List, [], ◌∷◌, ◌++◌, Option, None, Some, length, position, refl, sym, ap, ◌∙◌, arith, length-append, append_assoc}
use Rattle.std.proofs.lemmas.Grind.{common_steps}
use Rattle.std.proofs.lemmas.List.{append-nil}
use Rattle.std.proofs.Math.ListN.{get_or-eq_default}
use Rattle.std.specs.List.{list_any, position_or_len}
use Rattle.std.specs.Str.{bytes_eq}
use Rattle.mm_tables.specs.Moves.{in_force}
use Rattle.mm_tables.specs.Standings.{Standings}
use Rattle.mm_tables.specs.Tables.{nothing, found_by, found_in, standing_at}
use Rattle.mm_tables.specs.declared.table.Found.{Found}
use Rattle.mm_tables.specs.Texts.{with_text}
use Rattle.mm_scope.specs.Contents.{events_of, past_before, variables_at, symbol_by, is_active_number, active_symbol_at, symbols_of}
use Rattle.mm_scope.specs.Events.{Event, constant, variable, float, essential, asserted, theorem, distinct, opened, closed, symbols, labels, variable_moves, active_variables}
use Rattle.mm_scope.specs.Looks.{constants, moves, is_active_of, look_back, known_as}
use Rattle.mm_scope.specs.declared.ending.Ending.TheVariants.{Active, Floated}
use Rattle.mm_scope.proofs.Declared.{any_pushed, or_false}

-- the one list begins with the other
pub record Begins (xs ys : List (List ℕ)) : Type 0 where
  pub rest : List (List ℕ)
  pub whole : ys ≡ xs ++ rest

itself : (xs : List (List ℕ)) → Begins xs xs
itself xs = record { rest = []; whole = sym (append-nil xs) }

further : (xs ys : List (List ℕ)) (t : List ℕ) → Begins xs ys → Begins xs (with_text ys t)
further xs ys t b = by (list_any (bytes_eq t) ys)
  where
    by : (is : Bool) → Begins xs (cond is ys (ys ++ t ∷ []))
    by true = b
    by false = record { rest = b.rest ++ t ∷ []; whole = ap (λ zs. zs ++ t ∷ []) b.whole ∙ append_assoc xs b.rest (t ∷ []) }

grown : (xs : List (List ℕ)) (e : Event) (past : List Event) → Begins xs (symbols past) → Begins xs (symbols (e ∷ past))
unfolding symbols
grown xs (constant t n) past b = further xs (symbols past) t b
grown xs (variable t n) past b = further xs (symbols past) t b
grown xs (float l ss d) past b = b
grown xs (essential l ss d) past b = b
grown xs (asserted l ss d) past b = b
grown xs (theorem l ss from to d) past b = b
grown xs (distinct ss) past b = b
grown xs (opened p) past b = b
grown xs closed past b = b

-- the symbols before a statement are the first ones of all
pub symbols_begin : (id : ℕ) (past : List Event) → Begins (symbols (past_before id past)) (symbols past)
unfolding past_before
symbols_begin id [] = itself (symbols [])
symbols_begin id (e ∷ past) = by (nat_le (length (labels (e ∷ past))) id) (grown (symbols (past_before id past)) e past (symbols_begin id past))
  where
    by : (is : Bool) → Begins (symbols (past_before id past)) (symbols (e ∷ past)) → Begins (symbols (cond is (e ∷ past) (past_before id past))) (symbols (e ∷ past))
    by true more = itself (symbols (e ∷ past))
    by false more = more

pub no_more : (xs ys : List (List ℕ)) → Begins xs ys → length xs ≤ length ys
no_more xs ys b = omega (arith, ap length b.whole, length-append xs b.rest)

-- a constant that is declared gets a new number
abbrev pub ConstantsAreNew : List Event → Type 0
ConstantsAreNew [] = Unit {0}
ConstantsAreNew (constant t n ∷ past) = (length (symbols past) ≤ n) × ConstantsAreNew past
ConstantsAreNew (_ ∷ past) = ConstantsAreNew past

differ : (n m : ℕ) → n < m → nat_eq n m ≡ false
differ n m h = grind (arith, h)

-- what holds at the whole past, and at what stands before the statement in the rest
either : (id : ℕ) (e : Event) (past : List Event) (P Q : List Event → Type 0) → P (past_before id (e ∷ past)) → Q (e ∷ past) → (P (past_before id past) → Q (past_before id past)) → Q (past_before id (e ∷ past))
unfolding past_before
either id e past P Q known whole rest = by (nat_le (length (labels (e ∷ past))) id) known
  where
    by : (is : Bool) → P (cond is (e ∷ past) (past_before id past)) → Q (cond is (e ∷ past) (past_before id past))
    by true p = whole
    by false p = rest p

-- so a symbol that was known before a statement was a constant there if it ever is
pub was_constant : (id n : ℕ) (past : List Event) → ConstantsAreNew past → n < length (symbols (past_before id past))
    → list_any (nat_eq n) (constants past) ≡ list_any (nat_eq n) (constants (past_before id past))
unfolding past_before constants
was_constant id n [] new known = refl
was_constant id n (constant t m ∷ past) new known = either id (constant t m) past (λ q. n < length (symbols q)) (λ q. list_any (nat_eq n) (constants (constant t m ∷ past)) ≡ list_any (nat_eq n) (constants q)) known refl
    (λ h. ap (λ b. b || list_any (nat_eq n) (constants past)) (differ n m (omega (arith, h, new.0, no_more (symbols (past_before id past)) (symbols past) (symbols_begin id past)))) ∙ was_constant id n past new.1 h)
was_constant id n (variable t m ∷ past) new known = either id (variable t m) past (λ q. n < length (symbols q)) (λ q. list_any (nat_eq n) (constants (variable t m ∷ past)) ≡ list_any (nat_eq n) (constants q)) known refl
    (λ h. was_constant id n past new h)
was_constant id n (float l ss d ∷ past) new known = either id (float l ss d) past (λ q. n < length (symbols q)) (λ q. list_any (nat_eq n) (constants (float l ss d ∷ past)) ≡ list_any (nat_eq n) (constants q)) known refl
    (λ h. was_constant id n past new h)
was_constant id n (essential l ss d ∷ past) new known = either id (essential l ss d) past (λ q. n < length (symbols q)) (λ q. list_any (nat_eq n) (constants (essential l ss d ∷ past)) ≡ list_any (nat_eq n) (constants q)) known refl
    (λ h. was_constant id n past new h)
was_constant id n (asserted l ss d ∷ past) new known = either id (asserted l ss d) past (λ q. n < length (symbols q)) (λ q. list_any (nat_eq n) (constants (asserted l ss d ∷ past)) ≡ list_any (nat_eq n) (constants q)) known refl
    (λ h. was_constant id n past new h)
was_constant id n (theorem l ss from to d ∷ past) new known = either id (theorem l ss from to d) past (λ q. n < length (symbols q)) (λ q. list_any (nat_eq n) (constants (theorem l ss from to d ∷ past)) ≡ list_any (nat_eq n) (constants q)) known refl
    (λ h. was_constant id n past new h)
was_constant id n (distinct ss ∷ past) new known = either id (distinct ss) past (λ q. n < length (symbols q)) (λ q. list_any (nat_eq n) (constants (distinct ss ∷ past)) ≡ list_any (nat_eq n) (constants q)) known refl
    (λ h. was_constant id n past new h)
was_constant id n (opened p ∷ past) new known = either id (opened p) past (λ q. n < length (symbols q)) (λ q. list_any (nat_eq n) (constants (opened p ∷ past)) ≡ list_any (nat_eq n) (constants q)) known refl
    (λ h. was_constant id n past new h)
was_constant id n (closed ∷ past) new known = either id (closed) past (λ q. n < length (symbols q)) (λ q. list_any (nat_eq n) (constants (closed ∷ past)) ≡ list_any (nat_eq n) (constants q)) known refl
    (λ h. was_constant id n past new h)

-- a variable is active as what ends with its block
still_active : (k n : ℕ) (past : List Event) → list_any (is_active_of n) (in_force k (moves past)) ≡ list_any (nat_eq n) (in_force k (variable_moves past))
unfolding in_force moves variable_moves
still_active k n [] = refl
still_active zero n (variable t m ∷ past) =
    any_pushed (is_active_of n) (in_force zero (moves past)) (Active m) ∙ ap (λ b. b || nat_eq n m) (still_active zero n past)
    ∙ sym (any_pushed (nat_eq n) (in_force zero (variable_moves past)) m)
still_active (suc k) n (variable t m ∷ past) = still_active (suc k) n past
still_active zero n (float l ss d ∷ past) =
    any_pushed (is_active_of n) (in_force zero (moves past)) (Floated _) ∙ or_false (list_any (is_active_of n) (in_force zero (moves past))) ∙ still_active zero n past
still_active (suc k) n (float l ss d ∷ past) = still_active (suc k) n past
still_active k n (constant t m ∷ past) = still_active k n past
still_active k n (essential l ss d ∷ past) = still_active k n past
still_active k n (asserted l ss d ∷ past) = still_active k n past
still_active k n (theorem l ss from to d ∷ past) = still_active k n past
still_active k n (distinct ss ∷ past) = still_active k n past
still_active zero n (opened p ∷ past) = still_active zero n past
still_active (suc k) n (opened p ∷ past) = still_active k n past
still_active k n (closed ∷ past) = still_active (suc k) n past

-- the first of a list that begins with another
first_among : {A : Type 0} (p : A → Bool) (xs ys : List A) → nat_lt (position_or_len p (xs ++ ys)) (length xs) ≡ nat_lt (position_or_len p xs) (length xs)
first_among p [] ys = grind arith
first_among p (x ∷ xs) ys = grind (arith, common_steps, first_among p xs ys)

first_there : {A : Type 0} (p : A → Bool) (xs ys : List A) → nat_lt (position_or_len p xs) (length xs) ≡ true → position_or_len p (xs ++ ys) ≡ position_or_len p xs
first_there p [] ys h = grind (arith, h)
first_there p (x ∷ xs) ys h = grind (arith, common_steps, first_there p xs ys)

is_less : (a b : ℕ) → nat_lt a b ≡ true → a < b
is_less a b h = grind (arith, h)

abbrev is_active_then : ℕ → List Event → ℕ → Bool
is_active_then id past n =
    nat_lt n (length (symbols (past_before id past)))
    && (list_any (nat_eq n) (constants past) || list_any (nat_eq n) (active_variables (past_before id past)))

-- what looking back from a statement finds, by the numbers of all symbols
active_by_number : (id : ℕ) (past : List Event) (t : List ℕ) → ConstantsAreNew past → (n : ℕ) → n ≡ position_or_len (bytes_eq t) (symbols past)
    → symbol_by (look_back (past_before id past) t) ≡ cond (is_active_then id past n) (Some n) None
active_by_number id past t new n e = by (nat_lt first (length before)) refl
  where
    q : List Event
    q = past_before id past

    before : List (List ℕ)
    before = symbols q

    b : Begins before (symbols past)
    b = symbols_begin id past

    first : ℕ
    first = position_or_len (bytes_eq t) before

    among : nat_lt n (length before) ≡ nat_lt first (length before)
    among = ap (λ k. nat_lt k (length before)) (e ∙ ap (position_or_len (bytes_eq t)) b.whole) ∙ first_among (bytes_eq t) before b.rest

    finish : (is : Bool) → nat_lt first (length before) ≡ is → symbol_by (known_as q t (cond is (Some first) None)) ≡ cond (is && (list_any (nat_eq n) (constants past) || list_any (nat_eq n) (active_variables q))) (Some n) None
    finish true h =
        let same : n ≡ first = e ∙ ap (position_or_len (bytes_eq t)) b.whole ∙ first_there (bytes_eq t) before b.rest h in
        let here : n < length before = omega (arith, same, is_less first (length before) h) in
        ap (λ k. symbol_by (known_as q t (Some k))) (sym same)
        ∙ ap (λ c. cond (c || list_any (is_active_of n) (in_force zero (moves q))) (Some n) None) (sym (was_constant id n past new here))
        ∙ ap (λ a. cond (list_any (nat_eq n) (constants past) || a) (Some n) None) (still_active zero n q)
    finish false h = refl

    by : (is : Bool) → nat_lt first (length before) ≡ is → symbol_by (look_back q t) ≡ cond (is_active_then id past n) (Some n) None
    by is h =
        ap (λ c. symbol_by (known_as q t (cond c (Some first) None))) h ∙ finish is h
        ∙ ap (λ c. cond (c && (list_any (nat_eq n) (constants past) || list_any (nat_eq n) (active_variables q))) (Some n) None) (sym (among ∙ h))

-- so it does in a database
active_symbol_found : (bytes text : List ℕ) (id n : ℕ) (fixed : Bool) → ConstantsAreNew (events_of bytes) → n ≡ position_or_len (bytes_eq text) (symbols_of bytes)
    → fixed ≡ list_any (nat_eq n) (constants (events_of bytes)) → active_symbol_at bytes id text ≡ cond (is_active_number bytes id n fixed) (Some n) None
unfolding active_symbol_at symbols_of variables_at
active_symbol_found bytes text id n fixed new number is =
    active_by_number id (events_of bytes) text new n number
    ∙ ap (λ c. cond (nat_lt n (length (symbols (past_before id (events_of bytes)))) && (c || list_any (nat_eq n) (active_variables (past_before id (events_of bytes))))) (Some n) None) (sym is)

-- the number that is found of a text
first_or_end : (p : List ℕ → Bool) (ts : List (List ℕ)) → position_or_len p ts ≤ length ts
first_or_end p [] = omega arith
first_or_end p (t ∷ ts) = by (p t) (first_or_end p ts)
  where
    by : (is : Bool) → position_or_len p ts ≤ length ts → cond (not is) (1 + position_or_len p ts) 0 ≤ length (t ∷ ts)
    by true h = omega arith
    by false h = omega (arith, h)

number_by : (t : Standings) (text : List ℕ) (is : Bool) → nat_lt (position_or_len (bytes_eq text) t.texts) (length t.texts) ≡ is
    → (found_by t (cond is (Some (position_or_len (bytes_eq text) t.texts)) None)).number ≡ position_or_len (bytes_eq text) t.texts
number_by t text true h = refl
number_by t text false h = grind (arith, h, first_or_end (bytes_eq text) t.texts)

number_found : (t : Standings) (text : List ℕ) → (found_in t text).number ≡ position_or_len (bytes_eq text) t.texts
number_found t text = number_by t text (nat_lt (position_or_len (bytes_eq text) t.texts) (length t.texts)) refl

constant_by : (t : Standings) (r : Option ℕ) (n : ℕ) → (found_by t r).number ≡ n → length t.standings ≡ length t.texts → (found_by t r).standing.constant ≡ (standing_at t n).constant
constant_by t None n e sizes = ap (λ s. s.constant) (sym (get_or-eq_default t.standings nothing (omega (arith, e, sizes))))
constant_by t (Some k) n e sizes = ap (λ j. (standing_at t j).constant) e

constant_found : (t : Standings) (text : List ℕ) → length t.standings ≡ length t.texts → (found_in t text).standing.constant ≡ (standing_at t (found_in t text).number).constant
constant_found t text sizes = constant_by t (position (bytes_eq text) t.texts) (found_in t text).number refl sizes

and_left : (a b : Bool) → (a && b) ≡ true → a ≡ true
and_left true b h = refl
and_left false b h = h

module _ (bytes now text : List ℕ) (same : bytes ≡ now) (t : Standings) (f : Found) (found : f ≡ found_in t text) (texts : t.texts ≡ symbols_of bytes)
    (sizes : length t.standings ≡ length t.texts) (flags : (n : ℕ) → (standing_at t n).constant ≡ list_any (nat_eq n) (constants (events_of bytes)))
    (new : ConstantsAreNew (events_of now)) (id : ℕ) (is : Bool) (active : is ≡ is_active_number now id f.number f.standing.constant) where
  -- what the table and the variables of a moment say
  pub active_symbol_by : (b : Bool) → is ≡ b → cond b (Some f.number) None ≡ active_symbol_at now id text
  active_symbol_by b e =
      ap (λ c. cond c (Some f.number) None) (sym e ∙ active)
      ∙ sym (active_symbol_found now text id f.number f.standing.constant new
      (ap (λ x. x.number) found ∙ number_found t text ∙ ap (position_or_len (bytes_eq text)) (texts ∙ ap symbols_of same))
      (ap (λ x. x.standing.constant) found ∙ constant_found t text sizes ∙ flags (found_in t text).number
      ∙ ap (λ x. list_any (nat_eq x.number) (constants (events_of bytes))) (sym found) ∙ ap (λ x. list_any (nat_eq f.number) (constants (events_of x))) same))

  -- it is one of the symbols
  pub active_symbol_own : is ≡ true → f.number < length (symbols_of now)
  unfolding symbols_of
  active_symbol_own e =
      let before : List (List ℕ) = symbols (past_before id (events_of now)) in
      let known : f.number < length before = is_less f.number (length before) (and_left (nat_lt f.number (length before)) _ (sym active ∙ e)) in
      omega (arith, known, no_more before (symbols (events_of now)) (symbols_begin id (events_of now)))
