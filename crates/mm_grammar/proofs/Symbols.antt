-- Each token that is no keyword carries on what is written.
use Rattle.std.proofs.Common.{◌≡◌, ◌≤◌, ◌<◌, ℕ, Bool, true, false, not, ◌||◌, List, [], ◌∷◌, ◌++◌, length, codes, nat_lt, nat_eq, refl, sym, ap, subst, arith}
use Rattle.std.specs.List.{list_any}
use Rattle.mm_tokens.specs.Words.{is_bad_label, is_bad_symbol}
use Rattle.mm_scope.specs.Events.{Event, put, constant, variable, symbols}
use Rattle.mm_scope.specs.Looks.{look_back}
use Rattle.mm_scope.specs.Steps.{most_label, Answers, State, symbol_checks, take_symbol, is_full, most_symbols, a_label, a_constant, a_variable, a_float, a_symbol, a_distinct, at_text}
use Rattle.mm_scope.specs.declared.mode.Mode.{Mode}
use Rattle.mm_scope.specs.declared.mode.Mode.TheVariants as mode
use Rattle.mm_plain.proofs.Fine.{IfFine, fine_if, fine_unless}
use Rattle.std.proofs.lemmas.Bool.{or_parts}
use Rattle.mm_grammar.specs.Phrases.{Noted, Symbol, text_at, IsPlain, IsSymbol}
use Rattle.mm_grammar.proofs.Known.{active_named, declared_named}
use Rattle.mm_grammar.proofs.Writing.{one_token, one_text, Stating, listing_more, stating_more, proving_more, declaring_more, Begun, FirstAt, placed_more, ReadAt}

no_longer : (k : ℕ) → nat_lt most_label k ≡ false → k ≤ most_label
no_longer k h = grind arith

has_room : (k : ℕ) → not (nat_lt k most_symbols) ≡ false → k < most_symbols
has_room k h = grind arith

none_left : (k : ℕ) → nat_eq k 0 ≡ true → k < most_symbols
none_left k h = grind arith

one_left : (k : ℕ) (b : Bool) → (nat_lt 1 k || b) ≡ false → k < most_symbols
one_left k b h = few (or_parts (nat_lt 1 k) b h).0
  where
    few : nat_lt 1 k ≡ false → k < most_symbols
    few e = grind arith

-- where n is the next token
module _ (bytes : List ℕ) (read : List Noted) (s : State (List Event)) (n : Noted) (noted : s.comment ≡ n.comment) where
  abbrev Good : State (List Event) → Type 0
  Good t = ReadAt bytes (read ++ (n ∷ [])) t t.mode

  a_label_written : ReadAt bytes read s mode.Start → IsPlain bytes n → IfFine (a_label s (look_back s.context (text_at bytes n)) (text_at bytes n) n.token.start) Good
  unfolding a_label
  a_label_written g plain =
      let t : List ℕ = text_at bytes n in
      let a : Answers = look_back s.context t in
      fine_if (is_bad_label t) _ _ Good (λ _. tt) (λ fit.
      fine_if (a.label || a.known) _ _ Good (λ _. tt) (λ _.
      fine_if (nat_lt most_label (length t)) _ _ Good (λ _. tt) (λ short. record {
        phrases = g.phrases;
        begun = g.begun ++ (n ∷ []);
        placed = subst (λ b. FirstAt n.token.start (b ++ (n ∷ []))) (sym g.now.0) refl;
        done = one_token bytes (symbols s.context) read g.phrases g.begun g.done n;
        now = (record { name = n; is = record { fit = fit; short = no_longer (length t) short }; text = refl; comment = noted; stands = ap (λ b. b ++ (n ∷ [])) g.now.0 }, g.now.1);
      })))

  -- the token is a symbol
  grown : (m : Mode) → s.mode ≡ m → (g : ReadAt bytes read s m) (k : ℕ) → Begun bytes m (take_symbol s k) g.phrases (g.begun ++ (n ∷ [])) → Good (take_symbol s k)
  grown m e g k now = subst (λ j. ReadAt bytes (read ++ (n ∷ [])) (take_symbol s k) j) (sym e) (record {
    phrases = g.phrases;
    begun = g.begun ++ (n ∷ []);
    placed = placed_more m s.begun g.begun n g.placed;
    done = one_token bytes (symbols s.context) read g.phrases g.begun g.done n;
    now = now;
  })

  is_symbol : IsPlain bytes n → not ((look_back s.context (text_at bytes n)).constant || (look_back s.context (text_at bytes n)).active) ≡ false
      → IsSymbol bytes (symbols s.context) (record { place = n; number = (look_back s.context (text_at bytes n)).number })
  is_symbol plain h = record { plain = plain; named = active_named s.context (text_at bytes n) h }

  abbrev Fits : (m : Mode) → ReadAt bytes read s m → Type 0
  Fits m g = (k : ℕ) → IsSymbol bytes (symbols s.context) (record { place = n; number = k }) → length s.buffer < most_symbols → Begun bytes m (take_symbol s k) g.phrases (g.begun ++ (n ∷ []))

  a_symbol_written : (m : Mode) → s.mode ≡ m → (g : ReadAt bytes read s m) → IsPlain bytes n → Fits m g → (p : ℕ) → IfFine (a_symbol s (look_back s.context (text_at bytes n)) p) Good
  unfolding a_symbol
  a_symbol_written m e g plain fit p =
      let a : Answers = look_back s.context (text_at bytes n) in
      fine_unless (symbol_checks s a p) (take_symbol s a.number) Good (λ off. grown m e g a.number (fit a.number (is_symbol plain off.0) (has_room (length s.buffer) off.1.1.1.0)))

  a_distinct_written : (m : Mode) → s.mode ≡ m → (g : ReadAt bytes read s m) → IsPlain bytes n → Fits m g → (p : ℕ) → IfFine (a_distinct s (look_back s.context (text_at bytes n)) p) Good
  unfolding a_distinct
  a_distinct_written m e g plain fit p =
      let a : Answers = look_back s.context (text_at bytes n) in
      fine_if (not (a.constant || a.active)) _ _ Good (λ _. tt) (λ live.
      fine_if (a.constant || list_any (nat_eq a.number) s.buffer) _ _ Good (λ _. tt) (λ _.
      fine_if (is_full s) _ _ Good (λ _. tt) (λ room. grown m e g a.number (fit a.number (is_symbol plain live) (has_room (length s.buffer) room)))))

  a_float_written : (m : Mode) → s.mode ≡ m → (g : ReadAt bytes read s m) → IsPlain bytes n → Fits m g → (p : ℕ) → IfFine (a_float s (look_back s.context (text_at bytes n)) p) Good
  unfolding a_float
  a_float_written m e g plain fit p =
      let a : Answers = look_back s.context (text_at bytes n) in
      fine_if (not (a.constant || a.active)) _ _ Good (λ _. tt) (λ live.
      fine_if (nat_eq (length s.buffer) 0) _ _ Good (λ none. fine_if a.constant _ _ Good (λ _. grown m e g a.number (fit a.number (is_symbol plain live) (none_left (length s.buffer) none))) (λ _. tt)) (λ _.
      fine_if (nat_lt 1 (length s.buffer) || a.constant) _ _ Good (λ _. tt) (λ off.
      fine_if a.floated _ _ Good (λ _. tt) (λ _. grown m e g a.number (fit a.number (is_symbol plain live) (one_left (length s.buffer) a.constant off))))))

  a_constant_written : s.mode ≡ mode.Constants → ReadAt bytes read s mode.Constants → IsPlain bytes n → (p : ℕ) → IfFine (a_constant put s (look_back s.context (text_at bytes n)) (text_at bytes n) p) Good
  unfolding a_constant symbols
  a_constant_written e g plain p =
      let t : List ℕ = text_at bytes n in
      let a : Answers = look_back s.context t in
      let x : Symbol = record { place = n; number = a.number } in
      fine_if (is_bad_symbol t) _ _ Good (λ _. tt) (λ _.
      fine_if (a.known || a.label) _ _ Good (λ _. tt) (λ _.
      fine_if (is_full s) _ _ Good (λ _. tt) (λ room.
      subst (λ m. ReadAt bytes (read ++ (n ∷ [])) (record s { context = constant t a.number ∷ s.context; buffer = s.buffer ++ a.number ∷ [] }) m) (sym e) (record {
        phrases = g.phrases;
        begun = g.begun ++ (n ∷ []);
        placed = placed_more mode.Constants s.begun g.begun n g.placed;
        done = one_text bytes (symbols s.context) (read ++ (n ∷ [])) g.phrases (g.begun ++ (n ∷ [])) t (one_token bytes (symbols s.context) read g.phrases g.begun g.done n);
        now = declaring_more bytes (codes "$c") constant s.context g.phrases s.buffer g.begun x refl (record { plain = plain; named = declared_named s.context t }) (has_room (length s.buffer) room) g.now;
      }))))

  a_variable_written : s.mode ≡ mode.Variables → ReadAt bytes read s mode.Variables → IsPlain bytes n → (p : ℕ) → IfFine (a_variable put s (look_back s.context (text_at bytes n)) (text_at bytes n) p) Good
  unfolding a_variable symbols
  a_variable_written e g plain p =
      let t : List ℕ = text_at bytes n in
      let a : Answers = look_back s.context t in
      let x : Symbol = record { place = n; number = a.number } in
      fine_if (is_bad_symbol t) _ _ Good (λ _. tt) (λ _.
      fine_if (a.active || a.constant || a.label) _ _ Good (λ _. tt) (λ _.
      fine_if (is_full s) _ _ Good (λ _. tt) (λ room.
      subst (λ m. ReadAt bytes (read ++ (n ∷ [])) (record s { context = variable t a.number ∷ s.context; buffer = s.buffer ++ a.number ∷ [] }) m) (sym e) (record {
        phrases = g.phrases;
        begun = g.begun ++ (n ∷ []);
        placed = placed_more mode.Variables s.begun g.begun n g.placed;
        done = one_text bytes (symbols s.context) (read ++ (n ∷ [])) g.phrases (g.begun ++ (n ∷ [])) t (one_token bytes (symbols s.context) read g.phrases g.begun g.done n);
        now = declaring_more bytes (codes "$v") variable s.context g.phrases s.buffer g.begun x refl (record { plain = plain; named = declared_named s.context t }) (has_room (length s.buffer) room) g.now;
      }))))

  -- one symbol more of a labelled statement
  stated : (keyword : List ℕ) (begun : List Noted) → Stating bytes keyword s.label s.described (symbols s.context) s.buffer begun
      → (k : ℕ) → IsSymbol bytes (symbols s.context) (record { place = n; number = k }) → length s.buffer < most_symbols
      → Stating bytes keyword s.label s.described (symbols s.context) (s.buffer ++ k ∷ []) (begun ++ (n ∷ []))
  stated keyword begun st k is room = stating_more bytes keyword s.label s.described (symbols s.context) s.buffer begun (record { place = n; number = k }) st is room

  pub at_text_written : (m : Mode) → s.mode ≡ m → ReadAt bytes read s m → IsPlain bytes n → IfFine (at_text put s m (look_back s.context (text_at bytes n)) (text_at bytes n) n.token.start) Good
  unfolding at_text
  at_text_written mode.Start e g plain = a_label_written g plain
  at_text_written mode.Labelled e g plain = tt
  at_text_written mode.Constants e g plain = a_constant_written e g plain n.token.start
  at_text_written mode.Variables e g plain = a_variable_written e g plain n.token.start
  at_text_written mode.Distinct e g plain =
      a_distinct_written mode.Distinct e g plain
      (λ k is room. let x : Symbol = record { place = n; number = k } in ((g.now.0.0 ++ x ∷ [], listing_more bytes (codes "$d") (symbols s.context) s.buffer g.now.0.0 g.begun x g.now.0.1 is room), g.now.1)) n.token.start
  at_text_written mode.Float e g plain = a_float_written mode.Float e g plain (λ k is room. (stated (codes "$f") g.begun g.now.0 k is room, g.now.1)) n.token.start
  at_text_written mode.Essential e g plain = a_symbol_written mode.Essential e g plain (λ k is room. (stated (codes "$e") g.begun g.now.0 k is room, g.now.1)) n.token.start
  at_text_written mode.Axiom e g plain = a_symbol_written mode.Axiom e g plain (λ k is room. (stated (codes "$a") g.begun g.now.0 k is room, g.now.1)) n.token.start
  at_text_written mode.Theorem e g plain = a_symbol_written mode.Theorem e g plain (λ k is room. (stated (codes "$p") g.begun g.now.0 k is room, g.now.1)) n.token.start
  at_text_written mode.Proof e g plain = subst (λ m. ReadAt bytes (read ++ (n ∷ [])) s m) (sym e) (record {
    phrases = g.phrases;
    begun = g.begun ++ (n ∷ []);
    placed = placed_more mode.Proof s.begun g.begun n g.placed;
    done = one_token bytes (symbols s.context) read g.phrases g.begun g.done n;
    now = (proving_more bytes s.label s.described (symbols s.context) s.buffer s.proof g.begun n g.now.0 plain, g.now.1);
  })
