-- The symbols of a statement are taken, one after another.
use Rattle.std.proofs.Common.{◌≡◌, ◌≢◌, ◌≤◌, ◌<◌, ◌+◌, ℕ, zero, suc, Bool, true, false, cond, not, ◌&&◌, ◌||◌, List, [], ◌∷◌, ◌++◌, Option, None, Some, length, map, position, get_or, nat_eq, nat_lt, Result, Ok, Err, refl, sym, ap, ◌∙◌, subst, arith, length-append, append-nil, append_assoc, inl, inr}
use Rattle.std.proofs.Math.Seq.{get_or-append_seam}
use Rattle.std.proofs.lemmas.Bool.{eqb-true, or_from, or_left, or_right, and_right, false_from_ne_true}
use Rattle.std.proofs.lemmas.List.{get_or_append_left}
use Rattle.std.specs.List.{list_any}
use Rattle.mm_tables.specs.Moves.{in_force}
use Rattle.mm_tokens.specs.declared.pieces.Span.{Span}
use Rattle.std.specs.Str.{bytes_eq}
use Rattle.mm_tokens.specs.Words.{is_bad_symbol}
use Rattle.mm_tokens.specs.declared.word.Word.TheVariants as word
use Rattle.mm_scope.specs.Events.{Event, put, constant, variable, symbols}
use Rattle.mm_scope.specs.Laws.{IsConstant, IsInScope, IsActive}
use Rattle.mm_scope.specs.Looks.{look_back, known_as, moves, constants, is_active_of, is_floated_of}
use Rattle.mm_scope.specs.Reading.{step}
use Rattle.mm_scope.specs.Steps.{Answers, State, most_symbols, unless, symbol_checks, take_symbol, is_full, a_constant, a_variable, a_float, a_symbol, a_distinct, at_text, step_by}
use Rattle.mm_scope.specs.declared.fault.ReadFault.{ReadFault}
use Rattle.mm_scope.specs.declared.mode.Mode.{Mode}
use Rattle.mm_scope.specs.declared.mode.Mode.TheVariants as mode
use Rattle.mm_plain.proofs.Fine.{AllOff}
use Rattle.mm_grammar.specs.Phrases.{Noted, Symbol, places, numbers, text_at, IsPlain, IsSymbol}
use Rattle.mm_grammar.specs.Rules.{HasFloat, IsTyped, Differ, IsNewConstant, IsNewVariable, FollowsRules}
use Rattle.mm_grammar.proofs.Answering.{label_now}
use Rattle.mm_grammar.proofs.Going.{at, Goal, ReadsTo, go, stepped, plain_word}
use Rattle.mm_grammar.proofs.Numbering.{known_now, unknown_now, declared_now, variable_now}
use Rattle.mm_grammar.proofs.Scoping.{in_scope, active_in_scope, has_float, floated_in_scope, is_constant, constant_in}

pub cond_no : {A : Type 0} (b : Bool) (x y : A) → b ≡ false → cond b x y ≡ y
cond_no b x y h = ap (λ c. cond c x y) h

pub cond_yes : {A : Type 0} (b : Bool) (x y : A) → b ≡ true → cond b x y ≡ x
cond_yes b x y h = ap (λ c. cond c x y) h

unless_off : {A : Type 0} (cs : List (Bool × ReadFault)) (r : Result A ReadFault) → AllOff cs → unless cs r ≡ r
unless_off [] r off = refl
unless_off (c ∷ cs) r off = cond_no c.0 (Err c.1) (unless cs r) off.0 ∙ unless_off cs r off.1

not_yet : (k : ℕ) → k < most_symbols → not (nat_lt k most_symbols) ≡ false
not_yet k h = grind (arith, h)

-- what is known of a symbol by its number
abbrev is_constant_of : List Event → ℕ → Bool
is_constant_of past n = list_any (nat_eq n) (constants past)

abbrev is_active_in : List Event → ℕ → Bool
is_active_in past n = list_any (is_active_of n) (in_force zero (moves past))

abbrev is_floated_in : List Event → ℕ → Bool
is_floated_in past n = list_any (is_floated_of n) (in_force zero (moves past))

abbrev pub Each : (Symbol → Type 0) → List Symbol → Type 0
Each P [] = Unit {0}
Each P (x ∷ xs) = P x × Each P xs

-- the first symbol is a constant
abbrev pub FirstIs : List Event → List ℕ → List Symbol → Type 0
FirstIs past [] (x ∷ xs) = IsConstant past x.number
FirstIs past _ _ = Unit {0}

first_off : (past : List Event) (buffer : List ℕ) (x : Symbol) (xs : List Symbol) → FirstIs past buffer (x ∷ xs) → (nat_eq (length buffer) 0 && not (is_constant_of past x.number)) ≡ false
first_off past [] x xs first = ap not (constant_in past x.number first)
first_off past (y ∷ ys) x xs first = ap (λ b. b && not (is_constant_of past x.number)) (no_zero (length ys))
  where
    no_zero : (k : ℕ) → nat_eq (suc k) 0 ≡ false
    no_zero k = grind arith

first_later : (past : List Event) (buffer : List ℕ) (n : ℕ) (xs : List Symbol) → FirstIs past (buffer ++ n ∷ []) xs
first_later past [] n xs = tt
first_later past (y ∷ ys) n xs = tt

pub typed_live : (past : List Event) (n : ℕ) → IsTyped past n → not (is_constant_of past n || is_active_in past n) ≡ false
typed_live past n (inl c) = ap not (or_left (is_constant_of past n) (is_active_in past n) (constant_in past n c))
typed_live past n (inr v) = ap not (or_right (is_constant_of past n) (is_active_in past n) (active_in_scope past n v.0))

typed_off : (past : List Event) (n : ℕ) → IsTyped past n → (not (is_constant_of past n) && not (is_floated_in past n)) ≡ false
typed_off past n (inl c) = ap (λ b. not b && not (is_floated_in past n)) (constant_in past n c)
typed_off past n (inr v) = and_right (not (is_constant_of past n)) (not (is_floated_in past n)) (ap not (floated_in_scope past n v.1))

-- a number that differs from each before it
new_in : (buffer : List ℕ) (n : ℕ) (ns : List ℕ) → Differ (buffer ++ n ∷ ns) → list_any (nat_eq n) buffer ≡ false
new_in buffer n ns differ = none buffer (λ i small e. differ i (length buffer) small (omega (arith, length-append buffer (n ∷ ns)))
    (get_or_append_left buffer (n ∷ ns) 0 i small ∙ e ∙ sym (get_or-append_seam buffer n ns 0)))
  where
    none : (xs : List ℕ) → ((i : ℕ) → i < length xs → get_or xs i 0 ≢ n) → list_any (nat_eq n) xs ≡ false
    none [] h = refl
    none (x ∷ xs) h =
        or_from (nat_eq n x) (list_any (nat_eq n) xs) (false_from_ne_true (nat_eq n x) (λ e. h 0 (omega arith) (sym (eqb-true n x e)))) (none xs (λ i small. h (suc i) (omega (arith, small))))

not_floated : (past : List Event) (n : ℕ) → ¬ HasFloat past n → is_floated_in past n ≡ false
not_floated past n free = false_from_ne_true (is_floated_in past n) (λ e. free (has_float past n e))

-- a symbol that is not active
inactive_now : (past : List Event) (t : List ℕ) (n : ℕ) → ¬ IsActive past n → (look_back past t).number ≡ n → ((look_back past t).active ≡ false) × ((look_back past t).constant ≡ false)
inactive_now past t n inactive e = by (position (bytes_eq t) (symbols past)) e
  where
    no_active : (k : ℕ) → k ≡ n → is_active_in past k ≡ false
    no_active k f = false_from_ne_true (is_active_in past k) (λ g. inactive (inr (in_scope past n (ap (is_active_in past) (sym f) ∙ g))))

    no_constant : (k : ℕ) → k ≡ n → is_constant_of past k ≡ false
    no_constant k f = false_from_ne_true (is_constant_of past k) (λ g. inactive (inl (is_constant past n (ap (is_constant_of past) (sym f) ∙ g))))

    by : (r : Option ℕ) → (known_as past t r).number ≡ n → ((known_as past t r).active ≡ false) × ((known_as past t r).constant ≡ false)
    by None f = (refl, refl)
    by (Some k) f = (no_active k f, no_constant k f)

-- where a statement is begun, and its tokens lead on to some events
module _ (bytes : List ℕ) (past : List Event) (begun : ℕ) (label : List ℕ) (described : Option Span) (proof : ℕ) (rest : List Noted) (final : Goal) where
  -- a symbol that is used
  pub used : (m : Mode) (buffer : List ℕ) (x : Symbol) (t : State (List Event)) → IsSymbol bytes (symbols past) x
      → at_text put (at m past begun label described buffer proof x.place.comment) m (known_as past (text_at bytes x.place) (Some x.number)) (text_at bytes x.place) x.place.token.start ≡ Ok t
      → step put look_back bytes (at m past begun label described buffer proof x.place.comment) x.place.token ≡ Ok t
  unfolding step_by
  used m buffer x t is h =
      stepped bytes (at m past begun label described buffer proof None) x.place (text_at bytes x.place) word.Text refl (plain_word (text_at bytes x.place) is.plain) t
      (ap (λ a. at_text put (at m past begun label described buffer proof x.place.comment) m a (text_at bytes x.place) x.place.token.start) (known_now past (text_at bytes x.place) x.number is.named) ∙ h)

  -- what takes the place of the rest, with the symbols taken
  abbrev Leads : Mode → List ℕ → Type 0
  Leads m all = (buffer : List ℕ) → buffer ≡ all → ReadsTo bytes (at m past begun label described buffer proof None) rest final

  leads_more : (m : Mode) (buffer : List ℕ) (n : ℕ) (ns : List ℕ) → Leads m (buffer ++ n ∷ ns) → Leads m ((buffer ++ n ∷ []) ++ ns)
  leads_more m buffer n ns leads b e = leads b (e ∙ append_assoc buffer (n ∷ []) ns)

  -- of a `$e`, `$a` or `$p`
  module _ (m : Mode) (same : (s : State (List Event)) (a : Answers) (t : List ℕ) (p : ℕ) → at_text put s m a t p ≡ a_symbol s a p) where
    pub expression_taken : (ss : List Symbol) (buffer : List ℕ) → length buffer + length ss ≤ most_symbols → Each (λ x. IsSymbol bytes (symbols past) x × IsTyped past x.number) ss
        → FirstIs past buffer ss → Leads m (buffer ++ numbers ss) → ReadsTo bytes (at m past begun label described buffer proof None) (places ss ++ rest) final
    unfolding a_symbol
    expression_taken [] buffer room each first leads = leads buffer (sym (append-nil buffer))
    expression_taken (x ∷ xs) buffer room each first leads =
        let s : State (List Event) = at m past begun label described buffer proof x.place.comment in
        let t : List ℕ = text_at bytes x.place in
        let a : Answers = known_as past t (Some x.number) in
        let p : ℕ = x.place.token.start in
        go bytes (at m past begun label described buffer proof None) x.place (places xs ++ rest) final (take_symbol s x.number)
        (used m buffer x (take_symbol s x.number) each.0.0 (same s a t p ∙ unless_off (symbol_checks s a p) (Ok (take_symbol s x.number))
        (typed_live past x.number each.0.1, (first_off past buffer x xs first, (typed_off past x.number each.0.1, (not_yet (length buffer) (omega (arith, room)), tt))))))
        (expression_taken xs (buffer ++ x.number ∷ []) (omega (arith, room, length-append buffer (x.number ∷ []))) each.1 (first_later past buffer x.number xs)
        (leads_more m buffer x.number (numbers xs) leads))

  -- of a `$d`
  module _ (rules : FollowsRules past) where
    pub parting_taken : (ss : List Symbol) (buffer : List ℕ) → length buffer + length ss ≤ most_symbols → Each (λ x. IsSymbol bytes (symbols past) x × IsInScope past x.number) ss
        → Differ (buffer ++ numbers ss) → Leads mode.Distinct (buffer ++ numbers ss) → ReadsTo bytes (at mode.Distinct past begun label described buffer proof None) (places ss ++ rest) final
    unfolding a_distinct at_text
    parting_taken [] buffer room each differ leads = leads buffer (sym (append-nil buffer))
    parting_taken (x ∷ xs) buffer room each differ leads =
        let s : State (List Event) = at mode.Distinct past begun label described buffer proof x.place.comment in
        let n : ℕ = x.number in
        let live : not (is_constant_of past n || is_active_in past n) ≡ false = ap not (or_right (is_constant_of past n) (is_active_in past n) (active_in_scope past n each.0.1)) in
        go bytes (at mode.Distinct past begun label described buffer proof None) x.place (places xs ++ rest) final (take_symbol s n)
        (used mode.Distinct buffer x (take_symbol s n) each.0.0
        (cond_no (not (is_constant_of past n || is_active_in past n)) _ _ live
        ∙ cond_no (is_constant_of past n || list_any (nat_eq n) buffer) _ _ (or_from (is_constant_of past n) (list_any (nat_eq n) buffer) (variable_now past n rules each.0.1) (new_in buffer n (numbers xs) differ))
        ∙ cond_no (is_full s) _ _ (not_yet (length buffer) (omega (arith, room)))))
        (parting_taken xs (buffer ++ n ∷ []) (omega (arith, room, length-append buffer (n ∷ []))) each.1
        (subst Differ (sym (append_assoc buffer (n ∷ []) (numbers xs))) differ) (leads_more mode.Distinct buffer n (numbers xs) leads))

    -- of a `$f`
    pub typing_taken : (c v : Symbol) → IsSymbol bytes (symbols past) c → IsSymbol bytes (symbols past) v → IsConstant past c.number → IsInScope past v.number → ¬ HasFloat past v.number
        → Leads mode.Float (c.number ∷ (v.number ∷ [])) → ReadsTo bytes (at mode.Float past begun label described [] proof None) (c.place ∷ (v.place ∷ rest)) final
    unfolding a_float at_text
    typing_taken c v is_c is_v fixed scope free leads =
        let s : State (List Event) = at mode.Float past begun label described [] proof c.place.comment in
        let u : State (List Event) = at mode.Float past begun label described (c.number ∷ []) proof v.place.comment in
        let live_c : not (is_constant_of past c.number || is_active_in past c.number) ≡ false = typed_live past c.number (inl fixed) in
        let live_v : not (is_constant_of past v.number || is_active_in past v.number) ≡ false =
        ap not (or_right (is_constant_of past v.number) (is_active_in past v.number) (active_in_scope past v.number scope)) in
        go bytes (at mode.Float past begun label described [] proof None) c.place (v.place ∷ rest) final (take_symbol s c.number)
        (used mode.Float [] c (take_symbol s c.number) is_c
        (cond_no (not (is_constant_of past c.number || is_active_in past c.number)) _ _ live_c ∙ cond_yes (is_constant_of past c.number) _ _ (constant_in past c.number fixed)))
        (go bytes (at mode.Float past begun label described (c.number ∷ []) proof None) v.place rest final (take_symbol u v.number)
        (used mode.Float (c.number ∷ []) v (take_symbol u v.number) is_v
        (cond_no (not (is_constant_of past v.number || is_active_in past v.number)) _ _ live_v
        ∙ cond_no (is_constant_of past v.number) _ _ (variable_now past v.number rules scope)
        ∙ cond_no (is_floated_in past v.number) _ _ (not_floated past v.number free)))
        (leads (c.number ∷ (v.number ∷ [])) refl))

-- the events of a declaration, one after another
abbrev pub onto : List Event → List Event → List Event
onto [] past = past
onto (e ∷ es) past = onto es (e ∷ past)

pub rules_before : (es past : List Event) → FollowsRules (onto es past) → FollowsRules past
rules_before [] past r = r
rules_before (e ∷ es) past r = (rules_before es (e ∷ past) r).1

abbrev pub says : List ℕ → (List ℕ → ℕ → Event) → Symbol → Event
says bytes event x = event (text_at bytes x.place) x.number

-- where a declaration is begun
module _ (bytes : List ℕ) (begun : ℕ) (label : List ℕ) (described : Option Span) (proof : ℕ) (rest : List Noted) (final : Goal) where
  declared : (m : Mode) (past : List Event) (buffer : List ℕ) (x : Symbol) (t : State (List Event)) → IsPlain bytes x.place
      → at_text put (at m past begun label described buffer proof x.place.comment) m (look_back past (text_at bytes x.place)) (text_at bytes x.place) x.place.token.start ≡ Ok t
      → step put look_back bytes (at m past begun label described buffer proof x.place.comment) x.place.token ≡ Ok t
  unfolding step_by
  declared m past buffer x t plain h =
      stepped bytes (at m past begun label described buffer proof None) x.place (text_at bytes x.place) word.Text refl (plain_word (text_at bytes x.place) plain) t h

  pub constants_taken : (ss : List Symbol) (past : List Event) (buffer : List ℕ) → length buffer + length ss ≤ most_symbols → Each (λ x. IsPlain bytes x.place) ss
      → FollowsRules (onto (map (says bytes constant) ss) past)
      → ((b : List ℕ) → b ≡ buffer ++ numbers ss → ReadsTo bytes (at mode.Constants (onto (map (says bytes constant) ss) past) begun label described b proof None) rest final)
      → ReadsTo bytes (at mode.Constants past begun label described buffer proof None) (places ss ++ rest) final
  unfolding a_constant at_text
  constants_taken [] past buffer room plain rules leads = leads buffer (sym (append-nil buffer))
  constants_taken (x ∷ xs) past buffer room plain rules leads =
      let t : List ℕ = text_at bytes x.place in
      let s : State (List Event) = at mode.Constants past begun label described buffer proof x.place.comment in
      let a : Answers = look_back past t in
      let n : ℕ = x.number in
      let r : IsNewConstant past t n = (rules_before (map (says bytes constant) xs) (constant t n ∷ past) rules).0 in
      let taken : ℕ → State (List Event) = λ k. at mode.Constants (constant t k ∷ past) begun label described (buffer ++ k ∷ []) proof x.place.comment in
      go bytes (at mode.Constants past begun label described buffer proof None) x.place (places xs ++ rest) final (taken n)
      (declared mode.Constants past buffer x (taken n) plain.0
      (cond_no (is_bad_symbol t) _ _ r.fit ∙ cond_no (a.known || a.label) _ _ (or_from a.known a.label (ap (λ b. b.known) (unknown_now past t r.symbol)) (label_now past t r.label))
      ∙ cond_no (is_full s) _ _ (not_yet (length buffer) (omega (arith, room))) ∙ ap (λ k. Ok (taken k)) (declared_now past t n r.named)))
      (constants_taken xs (constant t n ∷ past) (buffer ++ n ∷ []) (omega (arith, room, length-append buffer (n ∷ []))) plain.1 rules
      (λ b e. leads b (e ∙ append_assoc buffer (n ∷ []) (numbers xs))))

  pub variables_taken : (ss : List Symbol) (past : List Event) (buffer : List ℕ) → length buffer + length ss ≤ most_symbols → Each (λ x. IsPlain bytes x.place) ss
      → FollowsRules (onto (map (says bytes variable) ss) past)
      → ((b : List ℕ) → b ≡ buffer ++ numbers ss → ReadsTo bytes (at mode.Variables (onto (map (says bytes variable) ss) past) begun label described b proof None) rest final)
      → ReadsTo bytes (at mode.Variables past begun label described buffer proof None) (places ss ++ rest) final
  unfolding a_variable at_text
  variables_taken [] past buffer room plain rules leads = leads buffer (sym (append-nil buffer))
  variables_taken (x ∷ xs) past buffer room plain rules leads =
      let t : List ℕ = text_at bytes x.place in
      let s : State (List Event) = at mode.Variables past begun label described buffer proof x.place.comment in
      let a : Answers = look_back past t in
      let n : ℕ = x.number in
      let r : IsNewVariable past t n = (rules_before (map (says bytes variable) xs) (variable t n ∷ past) rules).0 in
      let taken : ℕ → State (List Event) = λ k. at mode.Variables (variable t k ∷ past) begun label described (buffer ++ k ∷ []) proof x.place.comment in
      let off = inactive_now past t n r.inactive (declared_now past t n r.named) in
      go bytes (at mode.Variables past begun label described buffer proof None) x.place (places xs ++ rest) final (taken n)
      (declared mode.Variables past buffer x (taken n) plain.0
      (cond_no (is_bad_symbol t) _ _ r.fit ∙ cond_no (a.active || a.constant || a.label) _ _ (or_from (a.active || a.constant) a.label (or_from a.active a.constant off.0 off.1) (label_now past t r.label))
      ∙ cond_no (is_full s) _ _ (not_yet (length buffer) (omega (arith, room))) ∙ ap (λ k. Ok (taken k)) (declared_now past t n r.named)))
      (variables_taken xs (variable t n ∷ past) (buffer ++ n ∷ []) (omega (arith, room, length-append buffer (n ∷ []))) plain.1 rules
      (λ b e. leads b (e ∙ append_assoc buffer (n ∷ []) (numbers xs))))
