-- Reading statements and the beginning of one reaches a state that stands there.
use Rattle.std.proofs.Common.{◌≡◌, ◌≤◌, ◌+◌, ℕ, not, ◌||◌, List, [], ◌∷◌, ◌++◌, Option, None, length, map, reverse, nat_eq, nat_lt, codes, refl, sym, ap, ◌∙◌, subst, arith, inl}
use Rattle.std.proofs.lemmas.Bool.{or_from}
use Rattle.std.specs.List.{list_any}
use Rattle.mm_tokens.specs.declared.pieces.Span.{Span}
use Rattle.mm_tokens.specs.Words.{is_bad_label}
use Rattle.mm_tokens.specs.declared.word.Word.{Word}
use Rattle.mm_tokens.specs.declared.word.Word.TheVariants as word
use Rattle.mm_tables.specs.Moves.{in_force}
use Rattle.mm_scope.specs.Events.{Event, constant, variable, symbols, open_blocks}
use Rattle.mm_scope.specs.Laws.{IsConstant, IsInScope}
use Rattle.mm_scope.specs.Looks.{look_back, moves, constants, is_active_of}
use Rattle.mm_scope.specs.Steps.{Answers, State, most_symbols, take_symbol, a_label, a_float, at_text, at_proof, unlabelled, at_constants, labelled, step_by}
use Rattle.mm_scope.specs.declared.fault.ReadFault.{ReadFault}
use Rattle.mm_scope.specs.declared.mode.Mode.TheVariants as mode
use Rattle.mm_grammar.specs.Phrases.{Noted, Symbol, places, numbers, text_at, Reads, IsLabel, IsSymbol}
use Rattle.mm_grammar.specs.Rules.{IsTyped, IsNewLabel, FollowsRules}
use Rattle.mm_grammar.specs.Beginnings.{Beginning, tokens_begun, symbols_begun, events_begun, IsFormBegun, IsExpressionBegun, IsAskedBegun}
use Rattle.mm_grammar.specs.Beginnings as begun
use Rattle.mm_grammar.proofs.Answering.{shallow_now, label_now}
use Rattle.mm_grammar.proofs.Deciding.{mode_of}
use Rattle.mm_grammar.proofs.Fitting.{IsPlacedAt}
use Rattle.mm_grammar.proofs.Going.{at, Goal, ReadsTo, go, stepped, plain_word, words}
use Rattle.mm_grammar.proofs.Numbering.{unknown_now}
use Rattle.mm_grammar.proofs.Readable.{onto_is}
use Rattle.mm_grammar.proofs.Rows.{holds}
use Rattle.mm_grammar.proofs.Saying.{label_plain, at_most, some_there, as_many, each_number, each_both, each_plain, reassociated, proof_taken, labelled_read}
use Rattle.mm_grammar.proofs.Scoping.{constant_in}
use Rattle.mm_grammar.proofs.Taking.{cond_no, cond_yes, Each, FirstIs, typed_live, used, expression_taken, parting_taken, typing_taken, onto, says, constants_taken, variables_taken}

-- declarations leave the blocks
constants_flat : (bytes : List ℕ) (ss : List Symbol) (past : List Event) → open_blocks (onto (map (says bytes constant) ss) past) ≡ open_blocks past
unfolding open_blocks
constants_flat bytes [] past = refl
constants_flat bytes (x ∷ xs) past = constants_flat bytes xs (constant (text_at bytes x.place) x.number ∷ past)

abbrev pub HasTests : Beginning → List ℕ → Type 0
HasTests b buffer = (a : Answers) (w : Word) (t : List ℕ) (f : ReadFault) → holds (mode_of b) buffer a w t f ≡ holds (mode_of b) (numbers (symbols_begun b)) a w t f

module _ (bytes : List ℕ) (rest : List Noted) (final : List Event) (goal : Goal) (rules : FollowsRules final) where
  abbrev pub Between : List Noted → List Event → Type 0
  Between ns past = (begun : ℕ) (label : List ℕ) (described : Option Span) (buffer : List ℕ) (proof : ℕ) → ReadsTo bytes (at mode.Start past begun label described buffer proof None) ns goal

  -- the rest, from a state that stands where the statement is begun so far
  abbrev pub Next : Beginning → Type 0
  Next b = (p : ℕ) (l : List ℕ) (d : Option Span) (buffer : List ℕ) (proof : ℕ) → HasTests b buffer → IsPlacedAt b p → ReadsTo bytes (at (mode_of b) final p l d buffer proof None) rest goal

  label_begun : (l : Noted) → IsLabel bytes l → IsNewLabel final (text_at bytes l) → Next (begun.label l) → Between (l ∷ rest) final
  unfolding step_by at_text a_label
  label_begun l label new next b g d buf pr =
      let t : List ℕ = text_at bytes l in
      let s : State (List Event) = at mode.Start final b g d buf pr None in
      let a : Answers = look_back final t in
      let u : State (List Event) = at mode.Labelled final l.token.start t l.comment buf pr l.comment in
      go bytes s l rest goal u
      (stepped bytes s l t word.Text refl (plain_word t (label_plain t label.fit)) u
      (cond_no (is_bad_label t) _ _ label.fit
      ∙ cond_no (a.label || a.known) _ _ (or_from a.label a.known (label_now final t new.label) (ap (λ x. x.known) (unknown_now final t new.symbol)))
      ∙ cond_no (nat_lt 255 (length t)) _ _ (at_most (length t) label.short)))
      (next l.token.start t l.comment buf pr (λ a w t f. refl) refl)

  constants_begun : (k : Noted) (ss : List Symbol) (past : List Event) → final ≡ onto (map (says bytes constant) ss) past → Reads bytes k (codes "$c") → length ss ≤ most_symbols
      → Each (IsSymbol bytes (symbols final)) ss → open_blocks final ≡ [] → Next (begun.constants k ss) → Between (k ∷ (places ss ++ rest)) past
  unfolding step_by at_constants
  constants_begun k ss past e reads few named outermost next b l d buf pr =
      let p : ℕ = k.token.start in
      go bytes (at mode.Start past b l d buf pr None) k (places ss ++ rest) goal (at mode.Constants past p l d [] pr k.comment)
      (stepped bytes (at mode.Start past b l d buf pr None) k (codes "$c") word.Constants reads words.0 (at mode.Constants past p l d [] pr k.comment)
      (cond_no (look_back past (codes "$c")).deep _ _ (shallow_now past (codes "$c") (sym (constants_flat bytes ss past) ∙ ap open_blocks (sym e) ∙ outermost))))
      (constants_taken bytes p l d pr rest goal ss past [] (omega (arith, few)) (each_plain bytes (symbols final) ss named) (subst FollowsRules e rules)
      (λ f is. subst (λ q. ReadsTo bytes (at mode.Constants q p l d f pr None) rest goal) e (next p l d f pr (λ a w t g. ap (λ b. holds mode.Constants b a w t g) is) refl)))

  variables_begun : (k : Noted) (ss : List Symbol) (past : List Event) → final ≡ onto (map (says bytes variable) ss) past → Reads bytes k (codes "$v") → length ss ≤ most_symbols
      → Each (IsSymbol bytes (symbols final)) ss → Next (begun.variables k ss) → Between (k ∷ (places ss ++ rest)) past
  unfolding step_by unlabelled
  variables_begun k ss past e reads few named next b l d buf pr =
      let p : ℕ = k.token.start in
      go bytes (at mode.Start past b l d buf pr None) k (places ss ++ rest) goal (at mode.Variables past p l d [] pr k.comment)
      (stepped bytes (at mode.Start past b l d buf pr None) k (codes "$v") word.Variables reads words.1 (at mode.Variables past p l d [] pr k.comment) refl)
      (variables_taken bytes p l d pr rest goal ss past [] (omega (arith, few)) (each_plain bytes (symbols final) ss named) (subst FollowsRules e rules)
      (λ f is. subst (λ q. ReadsTo bytes (at mode.Variables q p l d f pr None) rest goal) e (next p l d f pr (λ a w t g. ap (λ b. holds mode.Variables b a w t g) is) refl)))

  distinct_begun : (k : Noted) (ss : List Symbol) → IsFormBegun bytes (begun.distinct k ss) → Each (IsSymbol bytes (symbols final)) ss → IsAskedBegun bytes final (begun.distinct k ss)
      → Next (begun.distinct k ss) → Between (k ∷ (places ss ++ rest)) final
  unfolding step_by unlabelled
  distinct_begun k ss form named asked next b l d buf pr =
      let p : ℕ = k.token.start in
      go bytes (at mode.Start final b l d buf pr None) k (places ss ++ rest) goal (at mode.Distinct final p l d [] pr k.comment)
      (stepped bytes (at mode.Start final b l d buf pr None) k (codes "$d") word.Distinct form.0 words.2 (at mode.Distinct final p l d [] pr k.comment) refl)
      (parting_taken bytes final p l d pr rest goal rules ss [] (omega (arith, form.1))
      (each_both (IsSymbol bytes (symbols final)) (λ x. IsInScope final x.number) (λ x. IsSymbol bytes (symbols final) x × IsInScope final x.number) ss (λ x is v. (is, v)) named
      (each_number (IsInScope final) ss asked.variables))
      asked.differ (λ f is. next p l d f pr (λ a w t g. ap (λ b. holds mode.Distinct b a w t g) is) refl))

  float_begun : (l k : Noted) (ss : List Symbol) → IsFormBegun bytes (begun.float l k ss) → Each (IsSymbol bytes (symbols final)) ss → IsAskedBegun bytes final (begun.float l k ss)
      → Next (begun.float l k ss) → Between (l ∷ (k ∷ (places ss ++ rest))) final
  unfolding step_by at_text a_float labelled
  float_begun l k [] form named asked next =
      labelled_read bytes rest final goal mode.Float (codes "$f") word.Float words.3 (λ past b l d buf pr c a u p. refl) l k rest final form.0 form.1 asked.0
      (λ pr. next k.token.start (text_at bytes l) l.comment [] pr (λ a w t g. refl) refl)
  float_begun l k (c ∷ []) form named asked next =
      let t : List ℕ = text_at bytes l in
      let p : ℕ = k.token.start in
      let fixed : IsConstant final c.number = asked.1.typecode (omega arith) in
      labelled_read bytes rest final goal mode.Float (codes "$f") word.Float words.3 (λ past b l d buf pr c a u p. refl) l k (c.place ∷ rest) final form.0 form.1 asked.0
      (λ pr. let s : State (List Event) = at mode.Float final p t l.comment [] pr c.place.comment in
      go bytes (at mode.Float final p t l.comment [] pr None) c.place rest goal (take_symbol s c.number)
      (used bytes final p t l.comment pr rest goal mode.Float [] c (take_symbol s c.number) named.0
      (cond_no (not (list_any (nat_eq c.number) (constants final) || list_any (is_active_of c.number) (in_force 0 (moves final)))) _ _ (typed_live final c.number (inl fixed))
      ∙ cond_yes (list_any (nat_eq c.number) (constants final)) _ _ (constant_in final c.number fixed)))
      (next p t l.comment (c.number ∷ []) pr (λ a w t g. refl) refl))
  float_begun l k (c ∷ v ∷ []) form named asked next =
      let t : List ℕ = text_at bytes l in
      let p : ℕ = k.token.start in
      labelled_read bytes rest final goal mode.Float (codes "$f") word.Float words.3 (λ past b l d buf pr c a u p. refl) l k (c.place ∷ (v.place ∷ rest)) final form.0 form.1 asked.0
      (λ pr. typing_taken bytes final p t l.comment pr rest goal rules c v named.0 named.1.0 (asked.1.typecode (omega arith)) (asked.1.variable (omega arith)) (asked.1.free (omega arith))
      (λ f is. next p t l.comment f pr (λ a w t g. ap (λ b. holds mode.Float b a w t g) is) refl))
  float_begun l k (c ∷ v ∷ x ∷ xs) form named asked next = absurd (omega (arith, form.2))

  -- the symbols of a `$e`, `$a` or `$p`
  first_begun : (ss : List Symbol) → IsExpressionBegun final (numbers ss) → FirstIs final [] ss
  first_begun [] h = tt
  first_begun (x ∷ xs) h = h.typecode (omega arith)

  each_typed : (ss : List Symbol) → Each (IsSymbol bytes (symbols final)) ss → IsExpressionBegun final (numbers ss) → Each (λ x. IsSymbol bytes (symbols final) x × IsTyped final x.number) ss
  each_typed ss named h =
      each_both (IsSymbol bytes (symbols final)) (λ x. IsTyped final x.number) (λ x. IsSymbol bytes (symbols final) x × IsTyped final x.number) ss (λ x is v. (is, v)) named (each_number (IsTyped final) ss h.typed)

  essential_begun : (l k : Noted) (ss : List Symbol) → IsFormBegun bytes (begun.essential l k ss) → Each (IsSymbol bytes (symbols final)) ss → IsAskedBegun bytes final (begun.essential l k ss)
      → Next (begun.essential l k ss) → Between (l ∷ (k ∷ (places ss ++ rest))) final
  unfolding step_by labelled at_text
  essential_begun l k ss form named asked next =
      let t : List ℕ = text_at bytes l in
      let p : ℕ = k.token.start in
      labelled_read bytes rest final goal mode.Essential (codes "$e") word.Essential words.4 (λ past b l d buf pr c a u p. refl) l k (places ss ++ rest) final form.0 form.1 asked.0
      (λ pr. expression_taken bytes final p t l.comment pr rest goal mode.Essential (λ s a u q. refl) ss [] (omega (arith, form.2)) (each_typed ss named asked.1) (first_begun ss asked.1)
      (λ f is. next p t l.comment f pr (λ a w t g. ap (λ b. holds mode.Essential b a w t g) is) refl))

  asserted_begun : (l k : Noted) (ss : List Symbol) → IsFormBegun bytes (begun.asserted l k ss) → Each (IsSymbol bytes (symbols final)) ss → IsAskedBegun bytes final (begun.asserted l k ss)
      → Next (begun.asserted l k ss) → Between (l ∷ (k ∷ (places ss ++ rest))) final
  unfolding step_by labelled at_text
  asserted_begun l k ss form named asked next =
      let t : List ℕ = text_at bytes l in
      let p : ℕ = k.token.start in
      labelled_read bytes rest final goal mode.Axiom (codes "$a") word.Axiom words.5 (λ past b l d buf pr c a u p. refl) l k (places ss ++ rest) final form.0 form.1 asked.0
      (λ pr. expression_taken bytes final p t l.comment pr rest goal mode.Axiom (λ s a u q. refl) ss [] (omega (arith, form.2)) (each_typed ss named asked.1) (first_begun ss asked.1)
      (λ f is. next p t l.comment f pr (λ a w t g. ap (λ b. holds mode.Axiom b a w t g) is) refl))

  theorem_begun : (l k : Noted) (ss : List Symbol) → IsFormBegun bytes (begun.theorem l k ss) → Each (IsSymbol bytes (symbols final)) ss → IsAskedBegun bytes final (begun.theorem l k ss)
      → Next (begun.theorem l k ss) → Between (l ∷ (k ∷ (places ss ++ rest))) final
  unfolding step_by labelled at_text
  theorem_begun l k ss form named asked next =
      let t : List ℕ = text_at bytes l in
      let p : ℕ = k.token.start in
      labelled_read bytes rest final goal mode.Theorem (codes "$p") word.Theorem words.6 (λ past b l d buf pr c a u p. refl) l k (places ss ++ rest) final form.0 form.1 asked.0
      (λ pr. expression_taken bytes final p t l.comment pr rest goal mode.Theorem (λ s a u q. refl) ss [] (omega (arith, form.2)) (each_typed ss named asked.1) (first_begun ss asked.1)
      (λ f is. next p t l.comment f pr (λ a w t g. ap (λ b. holds mode.Theorem b a w t g) is) refl))

  proof_begun : (l k : Noted) (ss : List Symbol) (q : Noted) (ts : List Noted) → IsFormBegun bytes (begun.proof l k ss q ts) → Each (IsSymbol bytes (symbols final)) ss
      → IsAskedBegun bytes final (begun.proof l k ss q ts) → Next (begun.proof l k ss q ts) → Between (l ∷ (k ∷ ((places ss ++ (q ∷ ts)) ++ rest))) final
  unfolding step_by labelled at_text at_proof
  proof_begun l k ss q ts form named asked next =
      let t : List ℕ = text_at bytes l in
      let p : ℕ = k.token.start in
      let start : ℕ = q.token.start + 2 in
      labelled_read bytes rest final goal mode.Theorem (codes "$p") word.Theorem words.6 (λ past b l d buf pr c a u p. refl) l k ((places ss ++ (q ∷ ts)) ++ rest) final form.0 form.1 asked.0
      (λ pr. reassociated bytes rest final goal (at mode.Theorem final p t l.comment [] pr None) (places ss) (q ∷ ts)
      (expression_taken bytes final p t l.comment pr ((q ∷ ts) ++ rest) goal mode.Theorem (λ s a u r. refl) ss [] (omega (arith, form.2.1)) (each_typed ss named asked.1) (first_begun ss asked.1)
      (λ f is. go bytes (at mode.Theorem final p t l.comment f pr None) q (ts ++ rest) goal (at mode.Proof final p t l.comment f start q.comment)
      (stepped bytes (at mode.Theorem final p t l.comment f pr None) q (codes "$=") word.Proof form.3 words.7 (at mode.Proof final p t l.comment f start q.comment)
      (cond_no (nat_eq (length f) 0) _ _ (some_there (length ss) (length f) form.2.0 (ap length is ∙ as_many ss))))
      (proof_taken bytes rest final goal ts rest final p t l.comment f start form.4 (next p t l.comment f start (λ a w t g. ap (λ b. holds mode.Proof b a w t g) is) refl)))))

  -- any beginning
  pub beginning_read : (b : Beginning) (past : List Event) → final ≡ reverse (events_begun bytes b) ++ past → IsFormBegun bytes b → Each (IsSymbol bytes (symbols final)) (symbols_begun b)
      → IsAskedBegun bytes final b → Next b → Between (tokens_begun b ++ rest) past
  beginning_read begun.nothing past e form named asked next = subst (Between rest) e (λ b l d buf pr. next b l d buf pr (λ a w t f. refl) tt)
  beginning_read (begun.label l) past e form named asked next = subst (Between (l ∷ rest)) e (label_begun l form asked next)
  beginning_read (begun.constants k ss) past e form named asked next =
      constants_begun k ss past (e ∙ sym (onto_is (map (says bytes constant) ss) past)) form.0 form.1 named asked next
  beginning_read (begun.variables k ss) past e form named asked next =
      variables_begun k ss past (e ∙ sym (onto_is (map (says bytes variable) ss) past)) form.0 form.1 named next
  beginning_read (begun.distinct k ss) past e form named asked next = subst (Between (k ∷ (places ss ++ rest))) e (distinct_begun k ss form named asked next)
  beginning_read (begun.float l k ss) past e form named asked next = subst (Between (l ∷ (k ∷ (places ss ++ rest)))) e (float_begun l k ss form named asked next)
  beginning_read (begun.essential l k ss) past e form named asked next = subst (Between (l ∷ (k ∷ (places ss ++ rest)))) e (essential_begun l k ss form named asked next)
  beginning_read (begun.asserted l k ss) past e form named asked next = subst (Between (l ∷ (k ∷ (places ss ++ rest)))) e (asserted_begun l k ss form named asked next)
  beginning_read (begun.theorem l k ss) past e form named asked next = subst (Between (l ∷ (k ∷ (places ss ++ rest)))) e (theorem_begun l k ss form named asked next)
  beginning_read (begun.proof l k ss q ts) past e form named asked next = subst (Between (l ∷ (k ∷ ((places ss ++ (q ∷ ts)) ++ rest)))) e (proof_begun l k ss q ts form named asked next)
