-- The tokens of a statement are read, and say what the statement says.
use Rattle.std.proofs.Common.{◌≡◌, ◌≤◌, ◌<◌, ◌+◌, ℕ, suc, false, not, ◌||◌, List, [], ◌∷◌, ◌++◌, Option, None, Some, All, length, map, nat_eq, nat_lt, slice_get, slice_index, codes, Ok, refl, sym, ap, ◌∙◌, subst, arith, append_assoc, inl, inr}
use Rattle.std.proofs.lemmas.Bool.{eqb-true, true≢false, or_from, or_parts, false_from_ne_true}
use Rattle.std.proofs.lemmas.List.{length-map}
use Rattle.std.specs.List.{list_any}
use Rattle.mm_tokens.specs.declared.pieces.Span.{Span}
use Rattle.mm_tokens.specs.Words.{word_of, is_bad_label, is_label_byte}
use Rattle.mm_tokens.specs.declared.word.Word.{Word}
use Rattle.mm_tokens.specs.declared.word.Word.TheVariants as word
use Rattle.mm_scope.specs.Events.{Event, put, constant, variable, float, essential, asserted, theorem, distinct, opened, closed, symbols, open_blocks}
use Rattle.mm_scope.specs.Laws.{IsConstant, IsInScope}
use Rattle.mm_scope.specs.Looks.{look_back}
use Rattle.mm_scope.specs.Steps.{most_label, Answers, State, a_label, at_text, at_end, at_proof, unlabelled, at_constants, labelled, at_open, at_close, step_by}
use Rattle.mm_scope.specs.declared.mode.Mode.{Mode}
use Rattle.mm_scope.specs.declared.mode.Mode.TheVariants as mode
use Rattle.mm_grammar.specs.Phrases.{Noted, Symbol, Phrase, places, numbers, tokens, symbols_in, text_at, told, Reads, IsPlain, IsLabel, IsForm, IsSymbol}
use Rattle.mm_grammar.specs.Phrases as phrase
use Rattle.mm_grammar.specs.Rules.{IsTyped, IsNewLabel, FollowsRules}
use Rattle.mm_grammar.proofs.Answering.{constant_within, variable_within, shallow_now, deep_now, label_now}
use Rattle.mm_grammar.proofs.Going.{at, Goal, ReadsTo, go, stepped, plain_word, words}
use Rattle.mm_grammar.proofs.Numbering.{named_then, unknown_now}
use Rattle.mm_grammar.proofs.Taking.{cond_no, cond_yes, Each, FirstIs, expression_taken, parting_taken, typing_taken, onto, rules_before, says, constants_taken, variables_taken}

-- a label is no keyword
pub label_plain : (t : List ℕ) → is_bad_label t ≡ false → nat_eq (slice_index t 0) 36 ≡ false
unfolding is_bad_label
label_plain [] h = refl
label_plain (b ∷ t) h = false_from_ne_true (nat_eq b 36)
    (λ e. true≢false (sym (ap (λ c. not (is_label_byte c)) (eqb-true b 36 e)) ∙ (or_parts (not (is_label_byte b)) (list_any (λ c. not (is_label_byte c)) t) h).0))

pub at_most : (k : ℕ) → k ≤ most_label → nat_lt most_label k ≡ false
at_most k h = grind (arith, h)

pub some_there : (k j : ℕ) → 1 ≤ k → j ≡ k → nat_eq j 0 ≡ false
some_there k j h e = grind (arith, h, e)

two_there : (k j : ℕ) → 2 ≤ k → j ≡ k → nat_lt j 2 ≡ false
two_there k j h e = grind (arith, h, e)

pub as_many : (ss : List Symbol) → length (numbers ss) ≡ length ss
as_many ss = length-map ss (λ (s : Symbol). s.number)

-- what holds of all holds of each
pub each_of : (P : Symbol → Type 0) (ss : List Symbol) → All P ss → Each P ss
each_of P [] h = tt
each_of P (x ∷ xs) h = (h 0 x (omega arith), each_of P xs (λ k d small. h (suc k) d (omega (arith, small))))

pub each_number : (P : ℕ → Type 0) (ss : List Symbol) → All P (numbers ss) → Each (λ x. P x.number) ss
each_number P [] h = tt
each_number P (x ∷ xs) h = (h 0 0 (omega arith), each_number P xs (λ k d small. h (suc k) d (omega (arith, small))))

pub each_both : (P Q R : Symbol → Type 0) (ss : List Symbol) → ((x : Symbol) → P x → Q x → R x) → Each P ss → Each Q ss → Each R ss
each_both P Q R [] f p q = tt
each_both P Q R (x ∷ xs) f p q = (f x p.0 q.0, each_both P Q R xs f p.1 q.1)

pub each_plain : (bytes : List ℕ) (all : List (List ℕ)) (ss : List Symbol) → Each (IsSymbol bytes all) ss → Each (λ x. IsPlain bytes x.place) ss
each_plain bytes all [] h = tt
each_plain bytes all (x ∷ xs) h = (h.0.plain, each_plain bytes all xs h.1)

typed_within : (past : List Event) (n : ℕ) → FollowsRules past → IsTyped past n → n < length (symbols past)
typed_within past n r (inl c) = constant_within past n r c
typed_within past n r (inr v) = variable_within past n r v.0

module _ (bytes : List ℕ) (rest : List Noted) (final : List Event) (goal : Goal) where
  -- the rest is read between statements
  abbrev Between : List Noted → List Event → Type 0
  Between ns past = (begun : ℕ) (label : List ℕ) (described : Option Span) (buffer : List ℕ) (proof : ℕ) → ReadsTo bytes (at mode.Start past begun label described buffer proof None) ns goal

  pub reassociated : (s : State (List Event)) (xs ys : List Noted) → ReadsTo bytes s (xs ++ (ys ++ rest)) goal → ReadsTo bytes s ((xs ++ ys) ++ rest) goal
  reassociated s xs ys r = subst (λ ns. ReadsTo bytes s ns goal) (sym (append_assoc xs ys rest)) r

  -- a symbol was named then as it is at last
  named_at : (later past : List Event) (x : Symbol) → final ≡ later ++ past → IsSymbol bytes (symbols final) x → x.number < length (symbols past) → IsSymbol bytes (symbols past) x
  named_at later past x e is small = record {
    plain = is.plain;
    named = named_then later past x.number (text_at bytes x.place) (subst (λ q. slice_get (symbols q) x.number ≡ Some (text_at bytes x.place)) e is.named) small;
  }

  -- `$c` and `$v`
  constants_read : (k : Noted) (ss : List Symbol) (e : Noted) (past : List Event) → IsForm bytes (phrase.constants k ss e) → Each (λ x. IsPlain bytes x.place) ss
      → FollowsRules (onto (map (says bytes constant) ss) past) → Between rest (onto (map (says bytes constant) ss) past) → Between ((k ∷ (places ss ++ (e ∷ []))) ++ rest) past
  unfolding step_by at_constants at_end
  constants_read k [] e past form plain rules next b l d buf pr = absurd (omega (arith, form.1.0))
  constants_read k (x ∷ xs) e past form plain rules next b l d buf pr =
      let p : ℕ = k.token.start in
      let outermost : open_blocks past ≡ [] = (rules_before (map (says bytes constant) xs) (constant (text_at bytes x.place) x.number ∷ past) rules).0.outermost in
      go bytes (at mode.Start past b l d buf pr None) k ((places (x ∷ xs) ++ (e ∷ [])) ++ rest) goal (at mode.Constants past p l d [] pr k.comment)
      (stepped bytes (at mode.Start past b l d buf pr None) k (codes "$c") word.Constants form.0 words.0 (at mode.Constants past p l d [] pr k.comment)
      (cond_no (look_back past (codes "$c")).deep _ _ (shallow_now past (codes "$c") outermost)))
      (reassociated (at mode.Constants past p l d [] pr None) (places (x ∷ xs)) (e ∷ [])
      (constants_taken bytes p l d pr (e ∷ rest) goal (x ∷ xs) past [] (omega (arith, form.1.1)) plain rules
      (λ f is. go bytes (at mode.Constants (onto (map (says bytes constant) (x ∷ xs)) past) p l d f pr None) e rest goal (at mode.Start (onto (map (says bytes constant) (x ∷ xs)) past) p l d [] pr e.comment)
      (stepped bytes (at mode.Constants (onto (map (says bytes constant) (x ∷ xs)) past) p l d f pr None) e (codes "$.") word.End form.2 words.8 (at mode.Start (onto (map (says bytes constant) (x ∷ xs)) past) p l d [] pr e.comment)
      (cond_no (nat_eq (length f) 0) _ _ (some_there (length (x ∷ xs)) (length f) form.1.0 (ap length is ∙ as_many (x ∷ xs)))))
      (next p l d [] pr))))

  variables_read : (k : Noted) (ss : List Symbol) (e : Noted) (past : List Event) → IsForm bytes (phrase.variables k ss e) → Each (λ x. IsPlain bytes x.place) ss
      → FollowsRules (onto (map (says bytes variable) ss) past) → Between rest (onto (map (says bytes variable) ss) past) → Between ((k ∷ (places ss ++ (e ∷ []))) ++ rest) past
  unfolding step_by unlabelled at_end
  variables_read k ss e past form plain rules next b l d buf pr =
      let p : ℕ = k.token.start in
      let after : List Event = onto (map (says bytes variable) ss) past in
      go bytes (at mode.Start past b l d buf pr None) k ((places ss ++ (e ∷ [])) ++ rest) goal (at mode.Variables past p l d [] pr k.comment)
      (stepped bytes (at mode.Start past b l d buf pr None) k (codes "$v") word.Variables form.0 words.1 (at mode.Variables past p l d [] pr k.comment) refl)
      (reassociated (at mode.Variables past p l d [] pr None) (places ss) (e ∷ [])
      (variables_taken bytes p l d pr (e ∷ rest) goal ss past [] (omega (arith, form.1.1)) plain rules
      (λ f is. go bytes (at mode.Variables after p l d f pr None) e rest goal (at mode.Start after p l d [] pr e.comment)
      (stepped bytes (at mode.Variables after p l d f pr None) e (codes "$.") word.End form.2 words.8 (at mode.Start after p l d [] pr e.comment)
      (cond_no (nat_eq (length f) 0) _ _ (some_there (length ss) (length f) form.1.0 (ap length is ∙ as_many ss))))
      (next p l d [] pr))))

  -- brackets
  opened_read : (k : Noted) (past : List Event) → Reads bytes k (codes "${") → Between rest (opened k.token.start ∷ past) → Between (k ∷ rest) past
  unfolding step_by at_open
  opened_read k past reads next b l d buf pr =
      go bytes (at mode.Start past b l d buf pr None) k rest goal (at mode.Start (opened k.token.start ∷ past) b l d buf pr k.comment)
      (stepped bytes (at mode.Start past b l d buf pr None) k (codes "${") word.Open reads words.9 (at mode.Start (opened k.token.start ∷ past) b l d buf pr k.comment) refl)
      (next b l d buf pr)

  closed_read : (k : Noted) (past : List Event) → Reads bytes k (codes "$}") → 0 < length (open_blocks past) → Between rest (closed ∷ past) → Between (k ∷ rest) past
  unfolding step_by at_close
  closed_read k past reads some next b l d buf pr =
      go bytes (at mode.Start past b l d buf pr None) k rest goal (at mode.Start (closed ∷ past) b l d buf pr k.comment)
      (stepped bytes (at mode.Start past b l d buf pr None) k (codes "$}") word.Close reads words.10 (at mode.Start (closed ∷ past) b l d buf pr k.comment)
      (cond_yes (look_back past (codes "$}")).deep _ _ (deep_now past (codes "$}") some)))
      (next b l d buf pr)

  -- `$d`
  distinct_read : (k : Noted) (ss : List Symbol) (e : Noted) (later past : List Event) → IsForm bytes (phrase.distinct k ss e) → final ≡ later ++ past → Each (IsSymbol bytes (symbols final)) ss
      → FollowsRules (distinct (numbers ss) ∷ past) → Between rest (distinct (numbers ss) ∷ past) → Between ((k ∷ (places ss ++ (e ∷ []))) ++ rest) past
  unfolding step_by unlabelled at_end
  distinct_read k ss e later past form from named rules next b l d buf pr =
      let p : ℕ = k.token.start in
      go bytes (at mode.Start past b l d buf pr None) k ((places ss ++ (e ∷ [])) ++ rest) goal (at mode.Distinct past p l d [] pr k.comment)
      (stepped bytes (at mode.Start past b l d buf pr None) k (codes "$d") word.Distinct form.0 words.2 (at mode.Distinct past p l d [] pr k.comment) refl)
      (reassociated (at mode.Distinct past p l d [] pr None) (places ss) (e ∷ [])
      (parting_taken bytes past p l d pr (e ∷ rest) goal rules.1 ss [] (omega (arith, form.1.1))
      (each_both (IsSymbol bytes (symbols final)) (λ x. IsInScope past x.number) (λ x. IsSymbol bytes (symbols past) x × IsInScope past x.number) ss
      (λ x is v. (named_at later past x from is (variable_within past x.number rules.1 v), v)) named (each_number (IsInScope past) ss rules.0.variables))
      rules.0.differ
      (λ f is. subst (λ g. ReadsTo bytes (at mode.Distinct past p l d g pr None) (e ∷ rest) goal) (sym is)
      (go bytes (at mode.Distinct past p l d (numbers ss) pr None) e rest goal (at mode.Start (distinct (numbers ss) ∷ past) p l d [] pr e.comment)
      (stepped bytes (at mode.Distinct past p l d (numbers ss) pr None) e (codes "$.") word.End form.2 words.8 (at mode.Start (distinct (numbers ss) ∷ past) p l d [] pr e.comment)
      (cond_no (nat_lt (length (numbers ss)) 2) _ _ (two_there (length ss) (length (numbers ss)) form.1.0 (as_many ss))))
      (next p l d [] pr)))))

  -- a label, and the keyword after it
  module _ (m : Mode) (keyword : List ℕ) (w : Word) (is_word : word_of keyword ≡ w)
      (begins : (past : List Event) (b : ℕ) (l : List ℕ) (d : Option Span) (buf : List ℕ) (pr : ℕ) (c : Option Span) (a : Answers) (u : List ℕ) (p : ℕ)
      → step_by put (at mode.Labelled past b l d buf pr c) a w u p ≡ Ok (at m past p l d [] pr c)) where
    pub labelled_read : (l k : Noted) (ns : List Noted) (past : List Event) → IsLabel bytes l → Reads bytes k keyword → IsNewLabel past (text_at bytes l)
        → ((pr : ℕ) → ReadsTo bytes (at m past k.token.start (text_at bytes l) l.comment [] pr None) ns goal) → Between (l ∷ (k ∷ ns)) past
    unfolding step_by at_text a_label
    labelled_read l k ns past label reads new next b g d buf pr =
        let t : List ℕ = text_at bytes l in
        let s : State (List Event) = at mode.Start past b g d buf pr None in
        let a : Answers = look_back past t in
        let u : State (List Event) = at mode.Labelled past l.token.start t l.comment buf pr l.comment in
        go bytes s l (k ∷ ns) goal u
        (stepped bytes s l t word.Text refl (plain_word t (label_plain t label.fit)) u
        (cond_no (is_bad_label t) _ _ label.fit
        ∙ cond_no (a.label || a.known) _ _ (or_from a.label a.known (label_now past t new.label) (ap (λ x. x.known) (unknown_now past t new.symbol)))
        ∙ cond_no (nat_lt most_label (length t)) _ _ (at_most (length t) label.short)))
        (go bytes (at mode.Labelled past l.token.start t l.comment buf pr None) k ns goal (at m past k.token.start t l.comment [] pr k.comment)
        (stepped bytes (at mode.Labelled past l.token.start t l.comment buf pr None) k keyword w reads is_word (at m past k.token.start t l.comment [] pr k.comment)
        (begins past l.token.start t l.comment buf pr k.comment (look_back past keyword) keyword k.token.start))
        (next pr))

  -- `$f`
  float_read : (l k : Noted) (ss : List Symbol) (e : Noted) (later past : List Event) → IsForm bytes (phrase.float l k ss e) → final ≡ later ++ past → Each (IsSymbol bytes (symbols final)) ss
      → FollowsRules (float (text_at bytes l) (numbers ss) l.comment ∷ past) → Between rest (float (text_at bytes l) (numbers ss) l.comment ∷ past)
      → Between ((l ∷ (k ∷ (places ss ++ (e ∷ [])))) ++ rest) past
  unfolding step_by labelled at_end
  float_read l k [] e later past form from named rules next = absurd (omega (arith, form.2))
  float_read l k (c ∷ []) e later past form from named rules next = absurd (omega (arith, form.2))
  float_read l k (c ∷ v ∷ []) e later past form from named rules next =
      let t : List ℕ = text_at bytes l in
      let p : ℕ = k.token.start in
      let ns : List ℕ = c.number ∷ (v.number ∷ []) in
      labelled_read mode.Float (codes "$f") word.Float words.3 (λ past b l d buf pr c a u p. refl) l k (c.place ∷ (v.place ∷ (e ∷ rest))) past form.0 form.1 rules.0.0
      (λ pr. typing_taken bytes past p t l.comment pr (e ∷ rest) goal rules.1 c v
      (named_at later past c from named.0 (constant_within past c.number rules.1 rules.0.1.typecode))
      (named_at later past v from named.1.0 (variable_within past v.number rules.1 rules.0.1.variable))
      rules.0.1.typecode rules.0.1.variable rules.0.1.free
      (λ f is. subst (λ g. ReadsTo bytes (at mode.Float past p t l.comment g pr None) (e ∷ rest) goal) (sym is)
      (go bytes (at mode.Float past p t l.comment ns pr None) e rest goal (at mode.Start (float t ns l.comment ∷ past) p t l.comment [] pr e.comment)
      (stepped bytes (at mode.Float past p t l.comment ns pr None) e (codes "$.") word.End form.3 words.8 (at mode.Start (float t ns l.comment ∷ past) p t l.comment [] pr e.comment) refl)
      (next p t l.comment [] pr))))
  float_read l k (c ∷ v ∷ x ∷ xs) e later past form from named rules next = absurd (omega (arith, form.2))

  -- the symbols of a `$e`, `$a` or `$p`
  each_typed : (ss : List Symbol) (later past : List Event) → final ≡ later ++ past → Each (IsSymbol bytes (symbols final)) ss → FollowsRules past → All (IsTyped past) (numbers ss)
      → Each (λ x. IsSymbol bytes (symbols past) x × IsTyped past x.number) ss
  each_typed ss later past from named rules typed =
      each_both (IsSymbol bytes (symbols final)) (λ x. IsTyped past x.number) (λ x. IsSymbol bytes (symbols past) x × IsTyped past x.number) ss
      (λ x is h. (named_at later past x from is (typed_within past x.number rules h), h)) named (each_number (IsTyped past) ss typed)

  pub first_constant : (past : List Event) (ss : List Symbol) → IsConstant past (slice_index (numbers ss) 0) → FirstIs past [] ss
  first_constant past [] h = tt
  first_constant past (x ∷ xs) h = h

  essential_read : (l k : Noted) (ss : List Symbol) (e : Noted) (later past : List Event) → IsForm bytes (phrase.essential l k ss e) → final ≡ later ++ past → Each (IsSymbol bytes (symbols final)) ss
      → FollowsRules (essential (text_at bytes l) (numbers ss) l.comment ∷ past) → Between rest (essential (text_at bytes l) (numbers ss) l.comment ∷ past)
      → Between ((l ∷ (k ∷ (places ss ++ (e ∷ [])))) ++ rest) past
  unfolding step_by labelled at_end at_text
  essential_read l k ss e later past form from named rules next =
      let t : List ℕ = text_at bytes l in
      let p : ℕ = k.token.start in
      let ns : List ℕ = numbers ss in
      labelled_read mode.Essential (codes "$e") word.Essential words.4 (λ past b l d buf pr c a u p. refl) l k ((places ss ++ (e ∷ [])) ++ rest) past form.0 form.1 rules.0.0
      (λ pr. reassociated (at mode.Essential past p t l.comment [] pr None) (places ss) (e ∷ [])
      (expression_taken bytes past p t l.comment pr (e ∷ rest) goal mode.Essential (λ s a u q. refl) ss [] (omega (arith, form.2.1))
      (each_typed ss later past from named rules.1 rules.0.1.typed) (first_constant past ss rules.0.1.typecode)
      (λ f is. subst (λ g. ReadsTo bytes (at mode.Essential past p t l.comment g pr None) (e ∷ rest) goal) (sym is)
      (go bytes (at mode.Essential past p t l.comment ns pr None) e rest goal (at mode.Start (essential t ns l.comment ∷ past) p t l.comment [] pr e.comment)
      (stepped bytes (at mode.Essential past p t l.comment ns pr None) e (codes "$.") word.End form.3 words.8 (at mode.Start (essential t ns l.comment ∷ past) p t l.comment [] pr e.comment)
      (cond_no (nat_eq (length ns) 0) _ _ (some_there (length ss) (length ns) form.2.0 (as_many ss))))
      (next p t l.comment [] pr)))))

  asserted_read : (l k : Noted) (ss : List Symbol) (e : Noted) (later past : List Event) → IsForm bytes (phrase.asserted l k ss e) → final ≡ later ++ past → Each (IsSymbol bytes (symbols final)) ss
      → FollowsRules (asserted (text_at bytes l) (numbers ss) l.comment ∷ past) → Between rest (asserted (text_at bytes l) (numbers ss) l.comment ∷ past)
      → Between ((l ∷ (k ∷ (places ss ++ (e ∷ [])))) ++ rest) past
  unfolding step_by labelled at_end at_text
  asserted_read l k ss e later past form from named rules next =
      let t : List ℕ = text_at bytes l in
      let p : ℕ = k.token.start in
      let ns : List ℕ = numbers ss in
      labelled_read mode.Axiom (codes "$a") word.Axiom words.5 (λ past b l d buf pr c a u p. refl) l k ((places ss ++ (e ∷ [])) ++ rest) past form.0 form.1 rules.0.0
      (λ pr. reassociated (at mode.Axiom past p t l.comment [] pr None) (places ss) (e ∷ [])
      (expression_taken bytes past p t l.comment pr (e ∷ rest) goal mode.Axiom (λ s a u q. refl) ss [] (omega (arith, form.2.1))
      (each_typed ss later past from named rules.1 rules.0.1.typed) (first_constant past ss rules.0.1.typecode)
      (λ f is. subst (λ g. ReadsTo bytes (at mode.Axiom past p t l.comment g pr None) (e ∷ rest) goal) (sym is)
      (go bytes (at mode.Axiom past p t l.comment ns pr None) e rest goal (at mode.Start (asserted t ns l.comment ∷ past) p t l.comment [] pr e.comment)
      (stepped bytes (at mode.Axiom past p t l.comment ns pr None) e (codes "$.") word.End form.3 words.8 (at mode.Start (asserted t ns l.comment ∷ past) p t l.comment [] pr e.comment)
      (cond_no (nat_eq (length ns) 0) _ _ (some_there (length ss) (length ns) form.2.0 (as_many ss))))
      (next p t l.comment [] pr)))))

  -- the tokens of a proof
  pub proof_taken : (ns ends : List Noted) (past : List Event) (b : ℕ) (l : List ℕ) (d : Option Span) (buf : List ℕ) (pr : ℕ) → All (IsPlain bytes) ns
      → ReadsTo bytes (at mode.Proof past b l d buf pr None) ends goal → ReadsTo bytes (at mode.Proof past b l d buf pr None) (ns ++ ends) goal
  unfolding step_by at_text
  proof_taken [] ends past b l d buf pr plain next = next
  proof_taken (n ∷ ns) ends past b l d buf pr plain next =
      go bytes (at mode.Proof past b l d buf pr None) n (ns ++ ends) goal (at mode.Proof past b l d buf pr n.comment)
      (stepped bytes (at mode.Proof past b l d buf pr None) n (text_at bytes n) word.Text refl (plain_word (text_at bytes n) (plain 0 n (omega arith))) (at mode.Proof past b l d buf pr n.comment) refl)
      (proof_taken ns ends past b l d buf pr (λ k x small. plain (suc k) x (omega (arith, small))) next)

  theorem_read : (l k : Noted) (ss : List Symbol) (q : Noted) (proof : List Noted) (e : Noted) (later past : List Event) → IsForm bytes (phrase.theorem l k ss q proof e) → final ≡ later ++ past
      → Each (IsSymbol bytes (symbols final)) ss → FollowsRules (theorem (text_at bytes l) (numbers ss) (q.token.start + 2) e.token.start l.comment ∷ past)
      → Between rest (theorem (text_at bytes l) (numbers ss) (q.token.start + 2) e.token.start l.comment ∷ past)
      → Between ((l ∷ (k ∷ (places ss ++ (q ∷ (proof ++ (e ∷ [])))))) ++ rest) past
  unfolding step_by labelled at_end at_text at_proof
  theorem_read l k ss q proof e later past form from named rules next =
      let t : List ℕ = text_at bytes l in
      let p : ℕ = k.token.start in
      let ns : List ℕ = numbers ss in
      let start : ℕ = q.token.start + 2 in
      let done : Event = theorem t ns start e.token.start l.comment in
      labelled_read mode.Theorem (codes "$p") word.Theorem words.6 (λ past b l d buf pr c a u p. refl) l k ((places ss ++ (q ∷ (proof ++ (e ∷ [])))) ++ rest) past form.0 form.1 rules.0.0
      (λ pr. reassociated (at mode.Theorem past p t l.comment [] pr None) (places ss) (q ∷ (proof ++ (e ∷ [])))
      (expression_taken bytes past p t l.comment pr ((q ∷ (proof ++ (e ∷ []))) ++ rest) goal mode.Theorem (λ s a u r. refl) ss [] (omega (arith, form.2.1))
      (each_typed ss later past from named rules.1 rules.0.1.typed) (first_constant past ss rules.0.1.typecode)
      (λ f is. subst (λ g. ReadsTo bytes (at mode.Theorem past p t l.comment g pr None) ((q ∷ (proof ++ (e ∷ []))) ++ rest) goal) (sym is)
      (go bytes (at mode.Theorem past p t l.comment ns pr None) q ((proof ++ (e ∷ [])) ++ rest) goal (at mode.Proof past p t l.comment ns start q.comment)
      (stepped bytes (at mode.Theorem past p t l.comment ns pr None) q (codes "$=") word.Proof form.3 words.7 (at mode.Proof past p t l.comment ns start q.comment)
      (cond_no (nat_eq (length ns) 0) _ _ (some_there (length ss) (length ns) form.2.0 (as_many ss))))
      (reassociated (at mode.Proof past p t l.comment ns start None) proof (e ∷ [])
      (proof_taken proof (e ∷ rest) past p t l.comment ns start form.4
      (go bytes (at mode.Proof past p t l.comment ns start None) e rest goal (at mode.Start (done ∷ past) p t l.comment [] start e.comment)
      (stepped bytes (at mode.Proof past p t l.comment ns start None) e (codes "$.") word.End form.5 words.8 (at mode.Start (done ∷ past) p t l.comment [] start e.comment) refl)
      (next p t l.comment [] start))))))))

  -- any statement
  pub phrase_read : (x : Phrase) (later past : List Event) → IsForm bytes x → final ≡ later ++ past → Each (IsSymbol bytes (symbols final)) (symbols_in x)
      → FollowsRules (onto (told bytes x) past) → Between rest (onto (told bytes x) past) → Between (tokens x ++ rest) past
  phrase_read (phrase.constants k ss e) later past form from named rules next = constants_read k ss e past form (each_plain bytes (symbols final) ss named) rules next
  phrase_read (phrase.variables k ss e) later past form from named rules next = variables_read k ss e past form (each_plain bytes (symbols final) ss named) rules next
  phrase_read (phrase.distinct k ss e) later past form from named rules next = distinct_read k ss e later past form from named rules next
  phrase_read (phrase.float l k ss e) later past form from named rules next = float_read l k ss e later past form from named rules next
  phrase_read (phrase.essential l k ss e) later past form from named rules next = essential_read l k ss e later past form from named rules next
  phrase_read (phrase.asserted l k ss e) later past form from named rules next = asserted_read l k ss e later past form from named rules next
  phrase_read (phrase.theorem l k ss q proof e) later past form from named rules next = theorem_read l k ss q proof e later past form from named rules next
  phrase_read (phrase.opened k) later past form from named rules next = opened_read k past form next
  phrase_read (phrase.closed k) later past form from named rules next = closed_read k past form rules.0 next
