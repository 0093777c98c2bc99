-- The chosen proof of a typecode alone.
use Rattle.std.proofs.Common.{◌≡◌, ◌<◌, ◌≤◌, ◌&&◌, ℕ, zero, suc, Bool, true, false, cond, List, [], ◌∷◌, ◌++◌, Option, None, Some, length, map, get_or, refl, sym, ◌∙◌, ap, arith, inl, inr, subst}
use Rattle.std.specs.List.{flat_map, list_all}
use Rattle.std.proofs.lemmas.Bool.{and_parts, le-leb, true≢false}
use Rattle.mm_scope.specs.Contents.{labels_of}
use Rattle.mm_subst.specs.declared.symbol.WSym.{WSym}
use Rattle.mm_subst.specs.declared.symbol.WSym.TheVariants.{Const, Var, Work}
use Rattle.mm_subst.specs.Applied.{most_symbols}
use Rattle.mm_subst.specs.Statements.{statement_of}
use Rattle.mm_subst.specs.Substitutions.{Pairs, applied}
use Rattle.mm_subst.specs.Symbols.{is_same, has_work}
use Rattle.mm_unify.proofs.Sorted.{Among, among_mapped}
use Rattle.mm_plain.specs.declared.plain.Plain.{Plain}
use Rattle.mm_plain.specs.Premises.{premises_of, variables_for}
use Rattle.mm_plain.specs.Shape.{known}
use Rattle.mm_chart.specs.declared.grammar.Item.{Item}
use Rattle.mm_chart.specs.declared.grammar.Item.TheVariants.{Fixed, Again, New}
use Rattle.mm_chart.specs.Options.{or_else, on, first}
use Rattle.mm_improve.specs.Assertions.{Terms, parts, plain_assertions}
use Rattle.mm_chart.specs.Items.{are_parted}
use Rattle.mm_improve.specs.Ranks as ranks
use Rattle.mm_chart.specs.Items.{Assertion, Chosen, Goal, Grammar, Hypothesis, IsAnswer, Use, by_hypothesis, by_use, chosen, fits, hypothesis, limited, matches, same_goal, serves, uses, uses_of, value}
use Rattle.mm_improve.specs.Choices.{bare_id, has_no_items, is_bare}
use Rattle.mm_improve.specs.Grammars.{assertion_of, chosen_by, codes_for, grammar_of, item_of, items_of, order_for, place, place_or_none, seen_in, sigma_of, split, variable_item, with_variable}
use Rattle.mm_improve.specs.Proving.{chosen_tree, rank_limit}
use Rattle.mm_improve.proofs.Agreeing.{VariablesDiffer, answers_agree, are_plain}
use Rattle.mm_improve.proofs.Forms.{IsPlainAssertion, typed}
use Rattle.mm_improve.proofs.Limited.{link, ranks_are_limited}
use Rattle.mm_improve.proofs.Limits.{first_among}
use Rattle.mm_chart.proofs.Ranks.{chosen-zero, chosen-suc}
use Rattle.mm_improve.proofs.Unfolding.{no_parts, unfolds}

-- ## The matches with an empty string

-- the first item of a conclusion is no variable that occurred before
none_taken : (ok : List Goal → Bool) (codes : List WSym) (n : ℕ) (o : Option ℕ) (is : List Item) → matches ok (variable_item codes n o None ∷ is) [] [] ≡ []
none_taken ok codes n None is = refl
none_taken ok codes n (Some k) is = refl

empty_match : (ok : List Goal → Bool) (keys : List ℕ) (codes s : List WSym) → ok [] ≡ true → matches ok (items_of keys codes [] s) [] [] ≡ cond (has_no_items (items_of keys codes [] s)) ([] ∷ []) []
empty_match ok keys codes [] h = ap (λ (b : Bool). cond b ([] ∷ []) []) h
empty_match ok keys codes (Const n ∷ s) h = refl
empty_match ok keys codes (Work n ∷ s) h = refl
empty_match ok keys codes (Var n ∷ s) h = none_taken ok codes n (place keys n) (items_of keys codes (with_variable [] n (place keys n) None) s)

all_parted : (groups : List (List ℕ)) (ps : List (ℕ × ℕ)) → list_all (λ p. are_parted groups (value [] p.0) (value [] p.1)) ps ≡ true
all_parted groups [] = refl
all_parted groups (p ∷ ps) = all_parted groups ps

-- the use of an assertion without variables
abbrev bare_use : Assertion → Use
bare_use a = (a.id, [])

either : (b d : Bool) (u : Use) (vs : List (List Goal)) → vs ≡ cond d ([] ∷ []) [] → u.1 ≡ [] → cond b (map (λ v. (u.0, v)) vs) [] ≡ cond (b && d) (u ∷ []) []
either false d u vs e n = refl
either true true u vs e n = ap (map (λ v. (u.0, v))) e ∙ ap (λ (v : List Goal). (u.0, v) ∷ []) (sym n)
either true false u vs e n = ap (map (λ v. (u.0, v))) e

module _ (c : Terms) (differ : VariablesDiffer c.bytes) (low : c.at < length (labels_of c.bytes)) (code : WSym) (plain : has_work (code ∷ []) ≡ false) where
  abbrev G : Grammar
  G = grammar_of c

  abbrev g : Goal
  g = (code, [])

  used : (id : ℕ) → uses_of G g (assertion_of c.bytes id) ≡ cond (is_bare code (assertion_of c.bytes id)) (bare_use (assertion_of c.bytes id) ∷ []) []
  used id =
      let a = assertion_of c.bytes id in
      either (is_same a.code code) (has_no_items a.items) (bare_use a) (matches (fits G a.apart) a.items [] [])
      (empty_match (fits G a.apart) (variables_for c.bytes id) (codes_for c.bytes id) (split (statement_of c.bytes id)).1 (all_parted G.groups a.apart)) refl

  pick : (q : Goal → Option Chosen) (ids : List ℕ) → first (serves q) (flat_map (uses_of G g) (map (assertion_of c.bytes) ids)) ≡ on bare_use (first (is_bare code) (map (assertion_of c.bytes) ids))
  pick q [] = refl
  pick q (id ∷ ids) =
      let a = assertion_of c.bytes id in
      let us = flat_map (uses_of G g) (map (assertion_of c.bytes) ids) in
      ap (λ (vs : List Use). first (serves q) (vs ++ us)) (used id) ∙ by (is_bare code a) (pick q ids)
    where
      by : (b : Bool) → first (serves q) (flat_map (uses_of G g) (map (assertion_of c.bytes) ids)) ≡ on bare_use (first (is_bare code) (map (assertion_of c.bytes) ids)) →
          first (serves q) (cond b (bare_use (assertion_of c.bytes id) ∷ []) [] ++ flat_map (uses_of G g) (map (assertion_of c.bytes) ids)) ≡ on bare_use (cond b (Some (assertion_of c.bytes id)) (first (is_bare code) (map (assertion_of c.bytes) ids)))
      by true ih = refl
      by false ih = ih

  abbrev first_bare : Option Assertion
  first_bare = first (is_bare code) G.assertions

  abbrev choice : Option Chosen
  choice = or_else (hypothesis G g) (on (by_use 1) (on bare_use first_bare))

  later : (r : ℕ) → chosen G (suc r) g ≡ or_else (chosen G r g) (on (by_use (suc r)) (on bare_use first_bare))
  later r = chosen-suc G r g ∙ ap (λ (o : Option Use). or_else (chosen G r g) (on (by_use (suc r)) o)) (pick (chosen G r) (plain_assertions c))

  answer : IsAnswer G g choice
  answer zero = chosen-zero G g ∙ by (first (λ (h : Hypothesis). same_goal g h.goal) G.hypotheses) first_bare
    where
      by : (o : Option Hypothesis) (a : Option Assertion) → on by_hypothesis o ≡ limited 0 (or_else (on by_hypothesis o) (on (by_use 1) (on bare_use a)))
      by (Some h) a = refl
      by None None = refl
      by None (Some a) = refl
  answer (suc r) = later r ∙ ap (λ (o : Option Chosen). or_else o (on (by_use (suc r)) (on bare_use first_bare))) (answer r) ∙ by r (first (λ (h : Hypothesis). same_goal g h.goal) G.hypotheses) first_bare
    where
      by : (r : ℕ) (o : Option Hypothesis) (a : Option Assertion) → or_else (limited r (or_else (on by_hypothesis o) (on (by_use 1) (on bare_use a)))) (on (by_use (suc r)) (on bare_use a)) ≡ limited (suc r) (or_else (on by_hypothesis o) (on (by_use 1) (on bare_use a)))
      by r (Some h) a =
          let x : Chosen = by_hypothesis h in
          ap (λ (b : Bool). or_else (cond b (Some x) None) (on (by_use (suc r)) (on bare_use a))) (le-leb 0 r (omega arith))
          ∙ sym (ap (λ (b : Bool). cond b (Some x) None) (le-leb 0 (suc r) (omega arith)))
      by r None None = refl
      by zero None (Some a) = refl
      by (suc r) None (Some a) =
          let x : Chosen = by_use 1 (bare_use a) in
          ap (λ (b : Bool). or_else (cond b (Some x) None) (Some (by_use (suc (suc r)) (bare_use a)))) (le-leb 1 (suc r) (omega arith))
          ∙ sym (ap (λ (b : Bool). cond b (Some x) None) (le-leb 1 (suc (suc r)) (omega arith)))

  abbrev limit : ℕ
  limit = rank_limit c.bytes (code ∷ [])

  short : length (code ∷ []) ≤ most_symbols
  short = omega arith

  chosen_is : ranks.chosen c limit (code ∷ []) ≡ on (chosen_by c.bytes) choice
  chosen_is = ranks_are_limited c.bytes differ c refl low code [] plain short (on (chosen_by c.bytes) choice) (answers_agree c.bytes differ c refl low code [] plain short choice answer)

  tree_from : (x : ranks.Chosen) → ranks.chosen c limit (code ∷ []) ≡ Some x → x.use_.sigma ≡ [] → parts c.bytes x.use_.id x.use_.sigma ≡ [] → chosen_tree c (code ∷ []) ≡ Some (known (code ∷ []) x.use_.id [] [])
  tree_from x e s p =
      ap (on (λ _. ranks.tree c limit (code ∷ []))) e
      ∙ ap (λ (y : Plain). Some y) (
      unfolds c limit (code ∷ []) x e
      ∙ ap (λ (gs : List (List WSym)). known (code ∷ []) x.use_.id x.use_.sigma (map (ranks.tree c limit) gs)) p
      ∙ ap (λ (v : Pairs). known (code ∷ []) x.use_.id v []) s)

  -- an assertion whose conclusion is a typecode alone has no variable, and so no hypothesis
  no_text : (keys : List ℕ) (codes s : List WSym) → has_no_items (items_of keys codes [] s) ≡ true → s ≡ []
  no_text keys codes [] h = refl
  no_text keys codes (x ∷ s) h = absurd (true≢false (sym h))

  no_keys : (bytes : List ℕ) (id : ℕ) (a : IsPlainAssertion bytes id) → a.text ≡ [] → (ns : List ℕ) → variables_for bytes id ≡ ns → ns ≡ []
  no_keys bytes id a t [] e = refl
  no_keys bytes id a t (n ∷ ns) e =
      let here = a.own 0 (subst (λ (ms : List ℕ). 0 < length ms) (sym e) (omega arith)) in
      let j = a.concluded (get_or (variables_for bytes id) 0 0) 0 here in
      absurd (let z : None ≡ Some j.0 = sym (ap (λ (s : List WSym). place (seen_in (variables_for bytes id) [] s) (get_or (variables_for bytes id) 0 0)) t) ∙ j.1 in cc)

  untyped : (codes : List WSym) → typed codes [] ≡ []
  untyped [] = refl
  untyped (x ∷ codes) = refl

  bare_assertion_is : (a : Assertion) → Among a G.assertions → is_bare code a ≡ true → (sigma_of c.bytes a.id [] ≡ []) × (parts c.bytes a.id (sigma_of c.bytes a.id []) ≡ [])
  bare_assertion_is a h b =
      let i = among_mapped (assertion_of c.bytes) a (plain_assertions c) h in
      let id = i.0 in
      let p = are_plain c differ low id i.1 in
      let items_none = (and_parts (is_same a.code code) (has_no_items a.items) b).1 in
      let stated : has_no_items (items_of (variables_for c.bytes id) (codes_for c.bytes id) [] p.text) ≡ true =
      sym (ap (λ (s : List WSym). has_no_items (items_of (variables_for c.bytes id) (codes_for c.bytes id) [] (split s).1)) p.statement) ∙ sym (ap (λ (y : Assertion). has_no_items y.items) i.2) ∙ items_none in
      let none : variables_for c.bytes id ≡ [] = no_keys c.bytes id p (no_text (variables_for c.bytes id) (codes_for c.bytes id) p.text stated) (variables_for c.bytes id) refl in
      let same : a.id ≡ id = ap (λ (y : Assertion). y.id) i.2 in
      let empty : (v : Pairs) → parts c.bytes id v ≡ [] = λ v. ap (map (applied v)) (p.hypotheses ∙ ap (typed (codes_for c.bytes id)) none ∙ untyped (codes_for c.bytes id)) in (
        ap (λ (n : ℕ). sigma_of c.bytes n []) same ∙ ap (map (λ n. (Var n, value [] (place_or_none (place (order_for c.bytes id) n))))) none,
        ap (λ (n : ℕ). parts c.bytes n (sigma_of c.bytes n [])) same ∙ empty (sigma_of c.bytes id []),
      )

  -- what is known of the chosen proof
  abbrev pub Told : Option ℕ → Type 0
  Told None = chosen_tree c (code ∷ []) ≡ None
  Told (Some id) = chosen_tree c (code ∷ []) ≡ Some (known (code ∷ []) id [] [])

  pub bare_told : Told (bare_id G code)
  bare_told = by (first (λ (h : Hypothesis). same_goal g h.goal) G.hypotheses) first_bare refl refl
    where
      by : (o : Option Hypothesis) (s : Option Assertion) → first (λ (h : Hypothesis). same_goal g h.goal) G.hypotheses ≡ o → first_bare ≡ s → Told (or_else (on (λ h. h.id) o) (on (λ a. a.id) s))
      by (Some h) s e f =
          let x : ranks.Chosen = chosen_by c.bytes (by_hypothesis h) in
          let now : ranks.chosen c limit (code ∷ []) ≡ Some x = chosen_is ∙ ap (λ (o : Option Hypothesis). on (chosen_by c.bytes) (or_else (on by_hypothesis o) (on (by_use 1) (on bare_use first_bare)))) e in
          let at_zero : ranks.chosen c 0 (code ∷ []) ≡ Some x = link c differ low code [] (plain, short) 0 ∙ ap (on (chosen_by c.bytes)) (chosen-zero G g) ∙ ap (λ (o : Option Hypothesis). on (chosen_by c.bytes) (on by_hypothesis o)) e in
          tree_from x now refl (no_parts c (code ∷ []) x at_zero)
      by None (Some a) e f =
          let x : ranks.Chosen = chosen_by c.bytes (by_use 1 (bare_use a)) in
          let now : ranks.chosen c limit (code ∷ []) ≡ Some x =
          chosen_is ∙ ap (λ (o : Option Hypothesis). on (chosen_by c.bytes) (or_else (on by_hypothesis o) (on (by_use 1) (on bare_use first_bare)))) e ∙ ap (λ (s : Option Assertion). on (chosen_by c.bytes) (on (by_use 1) (on bare_use s))) f in
          let m = first_among (is_bare code) G.assertions a f in
          let w = bare_assertion_is a m.0 m.1 in
          tree_from x now w.0 w.1
      by None None e f =
          ap (on (λ _. ranks.tree c limit (code ∷ []))) (
          chosen_is ∙ ap (λ (o : Option Hypothesis). on (chosen_by c.bytes) (or_else (on by_hypothesis o) (on (by_use 1) (on bare_use first_bare)))) e ∙ ap (λ (s : Option Assertion). on (chosen_by c.bytes) (on (by_use 1) (on bare_use s))) f)
