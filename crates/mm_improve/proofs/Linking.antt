-- The matches of a goal with a plain assertion, by the unifiers and by the items of the conclusion.
use Rattle.std.proofs.Common.{◌≡◌, ℕ, suc, ◌+◌, ◌≤◌, ◌<◌, List, [], ◌∷◌, ◌++◌, Option, None, Some, Bool, true, false, cond, not, ◌&&◌, refl, sym, ◌∙◌, ap, arith, inl, inr, subst, length, get_or, map, filter}
use Rattle.std.specs.List.{list_all, AllByRecursion}
use Rattle.std.proofs.lemmas.Bool.{cases_Bool, cases_eq, eq-eqb, ne_eqb, and_from, and_left, and_right}
use Rattle.mm_scope.specs.Contents.{stated_at, distinct_at}
use Rattle.mm_subst.specs.declared.symbol.WSym.{WSym}
use Rattle.mm_subst.specs.declared.symbol.WSym.TheVariants.{Const, Var, Work}
use Rattle.mm_subst.specs.Applied.{most_symbols}
use Rattle.mm_subst.specs.Symbols.{is_same, has_work}
use Rattle.mm_subst.specs.Substitutions.{Pairs, value_at, value_of, or_itself, applied, with_values}
use Rattle.mm_subst.proofs.Replaced.{applied-cons, applied-one}
use Rattle.mm_unify.specs.Unifying.{restricted}
use Rattle.mm_unify.specs.Variables.{numbers}
use Rattle.mm_unify.specs.Forbidden.{Forbidden, forbidden, heeded}
use Rattle.mm_unify.specs.Listings.{answer}
use Rattle.mm_unify.specs.Matching.{onward, matches, are_allowed}
use Rattle.mm_unify.proofs.Mapping.{cases_same}
use Rattle.mm_unify.proofs.Root.{Has, numbered, numbered_right}
use Rattle.mm_unify.proofs.Sorted.{Among, among_mapped, among_filtered}
use Rattle.mm_unify.proofs.Matched.{AreNamed, made}
use Rattle.mm_unify.proofs.Listed.{lists_matches, restricted_value}
use Rattle.mm_plain.specs.Drawing.{fresh_from}
use Rattle.mm_plain.specs.Premises.{variables_for}
use Rattle.mm_chart.specs.Options.{on}
use Rattle.mm_improve.specs.Assertions as assertions
use Rattle.mm_improve.specs.Assertions.{Terms, sigma_by, are_apart}
use Rattle.mm_chart.specs.Items.{are_parted}
use Rattle.mm_improve.specs.Ranks as ranks
use Rattle.mm_chart.specs.Items as items
use Rattle.mm_chart.specs.Items.{Goal, Use, value}
use Rattle.mm_improve.specs.Grammars.{split, place, place_or_none, items_of, seen_in, codes_for, order_for, assertion_of, grammar_of, sigma_of, use_by}
use Rattle.mm_improve.proofs.Forms.{IsPlainAssertion}
use Rattle.mm_improve.proofs.Translating.{AreSeen, goals, seen-value, same-matches, filtered, fresh-constant}
use Rattle.mm_improve.proofs.Covering.{ends}

kept : {X : Type 0} (p : X → Bool) (x : X) (xs : List X) → p x ≡ true → filter p (x ∷ xs) ≡ x ∷ filter p xs
kept p x xs e = ap (λ (b : Bool). cond b (x ∷ filter p xs) (filter p xs)) e

left_out : {X : Type 0} (p : X → Bool) (x : X) (xs : List X) → p x ≡ false → filter p (x ∷ xs) ≡ filter p xs
left_out p x xs e = ap (λ (b : Bool). cond b (x ∷ filter p xs) (filter p xs)) e

two_filters : {V S T U : Type 0} (p : V → Bool) (F : V → S) (q : S → Bool) (H : V → T) (k : T → Bool) (A : S → U) (B : T → U) (xs : List V) →
    ((x : V) → Among x xs → (p x && q (F x)) ≡ k (H x)) → ((x : V) → Among x xs → A (F x) ≡ B (H x)) → map A (filter q (map F (filter p xs))) ≡ map B (filter k (map H xs))
two_filters p F q H k A B [] h e = refl
two_filters p F q H k A B (x ∷ xs) h e =
    let ih = two_filters p F q H k A B xs (λ y a. h y (inr a)) (λ y a. e y (inr a)) in
    let z = h x (inl refl) in
    elim (cases_Bool (p x)) [
      | inl a ↦ elim (cases_Bool (q (F x))) [
        | inl b ↦
            let c : k (H x) ≡ true = sym z ∙ and_from (p x) (q (F x)) a b in
            ap (λ ys. map A (filter q (map F ys))) (kept p x xs a) ∙ ap (map A) (kept q (F x) (map F (filter p xs)) b)
            ∙ ap (λ (u : _). u ∷ map A (filter q (map F (filter p xs)))) (e x (inl refl)) ∙ ap (λ us. B (H x) ∷ us) ih
            ∙ sym (ap (map B) (kept k (H x) (map H xs) c))
        | inr b ↦
            let c : k (H x) ≡ false = sym z ∙ and_right (p x) (q (F x)) b in
            ap (λ ys. map A (filter q (map F ys))) (kept p x xs a) ∙ ap (map A) (left_out q (F x) (map F (filter p xs)) b) ∙ ih ∙ sym (ap (map B) (left_out k (H x) (map H xs) c))
      ]
      | inr a ↦
          let c : k (H x) ≡ false = sym z ∙ and_left (p x) (q (F x)) a in
          ap (λ ys. map A (filter q (map F ys))) (left_out p x xs a) ∙ ih ∙ sym (ap (map B) (left_out k (H x) (map H xs) c))
    ]

map_twice : {X Y Z : Type 0} (f : X → Y) (g : Y → Z) (xs : List X) → map g (map f xs) ≡ map (λ x. g (f x)) xs
map_twice f g [] = refl
map_twice f g (x ∷ xs) = ap (λ zs. g (f x) ∷ zs) (map_twice f g xs)

all_map : {X Y : Type 0} (p : Y → Bool) (f : X → Y) (xs : List X) → list_all p (map f xs) ≡ list_all (λ x. p (f x)) xs
all_map p f [] = refl
all_map p f (x ∷ xs) = ap (λ (b : Bool). p (f x) && b) (all_map p f xs)

all_same : {X : Type 0} (p q : X → Bool) (xs : List X) → AllByRecursion (λ x. p x ≡ q x) xs → list_all p xs ≡ list_all q xs
all_same p q [] h = refl
all_same p q (x ∷ xs) h = ap (λ (b : Bool). b && list_all p xs) h.0 ∙ ap (λ (b : Bool). q x && b) (all_same p q xs h.1)

all_weaker : {X : Type 0} (P Q : X → Type 0) → ((x : X) → P x → Q x) → (xs : List X) → AllByRecursion P xs → AllByRecursion Q xs
all_weaker P Q f [] h = tt
all_weaker P Q f (x ∷ xs) h = (f x h.0, all_weaker P Q f xs h.1)

-- a key that has a value is one of the numbers
named_has : (ms : List ℕ) (v : Pairs) (n : ℕ) (w : List WSym) → AreNamed ms v → value_at v (Work n) ≡ Some w → Has n ms
named_has ms [] n w h e = absurd (cc)
named_has ms (q ∷ v) n w h e = elim (cases_same q.0 (Work n)) [
  | inl s ↦ h.0 n s
  | inr s ↦ named_has ms v n w h.1 (sym (ap (λ (b : Bool). cond b (Some q.1) (value_at v (Work n))) s) ∙ e)
]

-- the value of a key among keys
listed_value : (F : ℕ → List WSym) (ks : List ℕ) (n i : ℕ) → place ks n ≡ Some i → value_at (map (λ k. (Var k, F k)) ks) (Var n) ≡ Some (F n)
listed_value F [] n i h = absurd (cc)
listed_value F (k ∷ ks) n i h = elim (cases_eq k n) [
  | inl e ↦ ap (λ (b : Bool). cond b (Some (F k)) (value_at (map (λ k. (Var k, F k)) ks) (Var n))) (eq-eqb k n e) ∙ ap (λ (m : ℕ). Some (F m)) e
  | inr e ↦
      let b = ne_eqb k n e in
      ap (λ (b : Bool). cond b (Some (F k)) (value_at (map (λ k. (Var k, F k)) ks) (Var n))) b
      ∙ some_place (place ks n) refl (sym (ap (λ (b : Bool). cond b (Some 0) (on suc (place ks n))) b) ∙ h) (λ j q. listed_value F ks n j q)
]
  where
    some_place : (o : Option ℕ) → place ks n ≡ o → on suc (place ks n) ≡ Some i → ((j : ℕ) → place ks n ≡ Some j → value_at (map (λ k. (Var k, F k)) ks) (Var n) ≡ Some (F n)) → value_at (map (λ k. (Var k, F k)) ks) (Var n) ≡ Some (F n)
    some_place None q z ih = absurd (let y : on suc (place ks n) ≡ None = ap (on suc) q in cc)
    some_place (Some j) q z ih = ih j q

module _ (c : Terms) (id : ℕ) (a : IsPlainAssertion c.bytes id) (code : WSym) (t : List WSym) (plain : has_work (code ∷ t) ≡ false) (short : length (code ∷ t) ≤ most_symbols) where
  abbrev pub keys : List ℕ
  keys = variables_for c.bytes id

  abbrev pub codes : List WSym
  codes = codes_for c.bytes id

  abbrev pub d : WSym
  d = Const a.code

  abbrev pub rest : List WSym
  rest = applied (fresh_from 1 keys) a.text

  abbrev ms : List ℕ
  ms = numbers ((code ∷ t) ++ d ∷ rest)

  abbrev f : Forbidden
  f = forbidden c.bytes c.rule

  abbrev pub order : List ℕ
  order = seen_in keys [] a.text

  -- all matches, before any is left out
  abbrev pub all : List Pairs
  all = matches rest [] t

  pub order_is : order_for c.bytes id ≡ order
  order_is = ap (λ (s : List WSym). seen_in keys [] (split s).1) a.statement

  pub pattern_is : assertions.pattern c.bytes id ≡ d ∷ rest
  pattern_is = ap (applied (fresh_from 1 keys)) a.statement ∙ applied-cons (fresh_from 1 keys) d a.text ∙ ap (λ (u : List WSym). u ++ rest) (ap (or_itself d) (fresh-constant 1 keys a.code))

  -- of a match
  pub seen : (v : Pairs) → Among v all → AreSeen keys codes order v
  seen v h = ends keys codes a.text a.plain [] [] t v tt h

  named : (v : Pairs) → Among v all → AreNamed ms v
  named v h =
      let m = made rest [] t v tt h in
      let n = numbered_right ms (code ∷ t) (d ∷ rest) (numbered ((code ∷ t) ++ d ∷ rest)) in
      subst (AreNamed ms) (sym m.whole) (m.named ms n.1)

  abbrev values : Pairs → ℕ → List WSym
  values v n = value (goals keys codes v) (place_or_none (place order n))

  key_value : (v : Pairs) → Among v all → (n i : ℕ) → place keys n ≡ Some i → value_of (restricted v ms) (Work (suc i)) ≡ values v n
  key_value v h n i e =
      let j = a.concluded n i e in
      let z : value_at v (Work (suc i)) ≡ Some (values v n) =
      seen-value keys codes order v n i (seen v h) e ∙ ap (on (λ j. value (goals keys codes v) j)) j.1 ∙ ap (λ (k : Option ℕ). Some (value (goals keys codes v) (place_or_none k))) (sym j.1) in
      restricted_value v ms (suc i) (named_has ms v (suc i) (values v n) (named v h) z) ∙ ap (or_itself (Work (suc i))) z

  -- the substitution of the step
  sigma_from : (v : Pairs) → Among v all → (ks : List ℕ) (m : ℕ) → ((i : ℕ) → i < length ks → (k : ℕ) × (suc k ≡ m + i) × (place keys (get_or ks i 0) ≡ Some k)) →
      with_values (restricted v ms) (fresh_from m ks) ≡ map (λ n. (Var n, values v n)) ks
  sigma_from v h [] m p = refl
  sigma_from v h (n ∷ ks) m p =
      let z = p 0 (omega arith) in
      let q : m ≡ suc z.0 = let y = z.1 in omega arith in
      let here : applied (restricted v ms) (Work m ∷ []) ≡ values v n =
      applied-one (restricted v ms) (Work m) ∙ ap (λ (k : ℕ). value_of (restricted v ms) (Work k)) q ∙ key_value v h n z.0 z.2 in
      ap (λ (w : List WSym). (Var n, w) ∷ with_values (restricted v ms) (fresh_from (m + 1) ks)) here
      ∙ ap (λ (ps : Pairs). (Var n, values v n) ∷ ps) (sigma_from v h ks (m + 1) (λ i l. let y = p (suc i) (omega arith) in let x = y.1 in (y.0, omega arith, y.2)))

  sigma_is : (v : Pairs) → Among v all → sigma_by c.bytes id (restricted v ms) ≡ sigma_of c.bytes id (goals keys codes v)
  sigma_is v h =
      sigma_from v h keys 1 (λ i l. (i, omega arith, a.own i l))
      ∙ ap (λ (o : List ℕ). map (λ n. (Var n, value (goals keys codes v) (place_or_none (place o n)))) keys) (sym order_is)

  pub key_here : (v : Pairs) (n i : ℕ) → place keys n ≡ Some i → value_of (sigma_of c.bytes id (goals keys codes v)) (Var n) ≡ value (goals keys codes v) (place_or_none (place (order_for c.bytes id) n))
  key_here v n i e = ap (or_itself (Var n)) (listed_value (λ n. value (goals keys codes v) (place_or_none (place (order_for c.bytes id) n))) keys n i e)

  abbrev pub G : items.Grammar
  G = grammar_of c

  apart_is : (v : Pairs) → Among v all → are_apart c id (sigma_by c.bytes id (restricted v ms)) ≡ list_all (λ p. are_parted G.groups (value (goals keys codes v) p.0) (value (goals keys codes v) p.1)) (assertion_of c.bytes id).apart
  apart_is v h =
      ap (are_apart c id) (sigma_is v h)
      ∙ all_same (λ (p : ℕ × ℕ). are_parted (distinct_at c.bytes c.at) (value_of (sigma_of c.bytes id (goals keys codes v)) (Var p.0)) (value_of (sigma_of c.bytes id (goals keys codes v)) (Var p.1)))
      (λ (p : ℕ × ℕ). are_parted (distinct_at c.bytes c.at) (value (goals keys codes v) (place_or_none (place (order_for c.bytes id) p.0))) (value (goals keys codes v) (place_or_none (place (order_for c.bytes id) p.1)))) (stated_at c.bytes id).pairs
      (all_weaker (λ (p : ℕ × ℕ). ((i : ℕ) × (place keys p.0 ≡ Some i)) × ((i : ℕ) × (place keys p.1 ≡ Some i))) _ (λ p x.
      ap (λ (w : List WSym). are_parted (distinct_at c.bytes c.at) w (value_of (sigma_of c.bytes id (goals keys codes v)) (Var p.1))) (key_here v p.0 x.0.0 x.0.1)
      ∙ ap (λ (w : List WSym). are_parted (distinct_at c.bytes c.at) (value (goals keys codes v) (place_or_none (place (order_for c.bytes id) p.0))) w) (key_here v p.1 x.1.0 x.1.1)) (stated_at c.bytes id).pairs a.pairs)
      ∙ sym (all_map (λ (p : ℕ × ℕ). are_parted G.groups (value (goals keys codes v) p.0) (value (goals keys codes v) p.1)) _ (stated_at c.bytes id).pairs)

  allowed_is : (v : Pairs) → are_allowed f v ≡ list_all (λ g. not (f.at_end g.1)) (goals keys codes v)
  allowed_is v = sym (all_map (λ (g : Goal). not (f.at_end g.1)) _ v)

  abbrev pub fits : List Goal → Bool
  fits = items.fits G (assertion_of c.bytes id).apart

  fits_is : (v : Pairs) → Among v all → (are_allowed f v && are_apart c id (sigma_by c.bytes id (restricted v ms))) ≡ fits (goals keys codes v)
  fits_is v h =
      ap (λ (b : Bool). b && are_apart c id (sigma_by c.bytes id (restricted v ms))) (allowed_is v)
      ∙ ap (λ (b : Bool). list_all (λ g. not (f.at_end g.1)) (goals keys codes v) && b) (apart_is v h)

  -- the list of unifiers
  found_is : (answer f None (code ∷ t) (assertions.pattern c.bytes id)).found ≡ map (λ v. restricted v ms) (filter (are_allowed f) (matches (d ∷ rest) [] (code ∷ t)))
  found_is = ap (λ (p : List WSym). (answer f None (code ∷ t) p).found) pattern_is ∙ (lists_matches (heeded c.bytes c.rule) (code ∷ t) d rest plain short refl).1

  matches_here : is_same d code ≡ true → matches (d ∷ rest) [] (code ∷ t) ≡ all
  matches_here e = ap (λ (b : Bool). onward (matches rest []) (cond b (Some t) None)) e

  matches_none : is_same d code ≡ false → matches (d ∷ rest) [] (code ∷ t) ≡ []
  matches_none e = ap (λ (b : Bool). onward (matches rest []) (cond b (Some t) None)) e

  abbrev named_use : Pairs → ranks.Use
  named_use sigma = record { id = id; sigma = sigma }

  unified : (ms' : List Pairs) → matches (d ∷ rest) [] (code ∷ t) ≡ ms' →
      map named_use (assertions.matches c (code ∷ t) id) ≡ map named_use (filter (are_apart c id) (map (λ v. sigma_by c.bytes id (restricted v ms)) (filter (are_allowed f) ms')))
  unified ms' e =
      ap (λ (us : List Pairs). map named_use (filter (are_apart c id) (map (sigma_by c.bytes id) us))) (found_is ∙ ap (λ (vs : List Pairs). map (λ v. restricted v ms) (filter (are_allowed f) vs)) e)
      ∙ ap (λ (us : List Pairs). map named_use (filter (are_apart c id) us)) (map_twice (λ v. restricted v ms) (sigma_by c.bytes id) (filter (are_allowed f) ms'))

  items_are : items.matches fits (assertion_of c.bytes id).items [] t ≡ filter fits (map (goals keys codes) all)
  items_are =
      filtered fits (assertion_of c.bytes id).items [] t
      ∙ ap (filter fits) (ap (λ (s : List WSym). items.matches (λ _. true) (items_of keys codes [] (split s).1) [] t) a.statement ∙ sym (same-matches keys codes a.text a.plain [] [] t tt))

  by_items : items.uses_of G (code, t) (assertion_of c.bytes id) ≡ cond (is_same d code) (map (λ v. (id, v)) (filter fits (map (goals keys codes) all))) []
  by_items =
      ap (λ (s : List WSym). cond (is_same (split s).0 code) (map (λ v. (id, v)) (items.matches fits (assertion_of c.bytes id).items [] t)) []) a.statement
      ∙ ap (λ (vs : List (List Goal)). cond (is_same d code) (map (λ v. (id, v)) vs) []) items_are

  pub same_uses : map named_use (assertions.matches c (code ∷ t) id) ≡ map (use_by c.bytes) (items.uses_of G (code, t) (assertion_of c.bytes id))
  same_uses = elim (cases_Bool (is_same d code)) [
    | inl e ↦
        unified all (matches_here e)
        ∙ two_filters (are_allowed f) (λ v. sigma_by c.bytes id (restricted v ms)) (are_apart c id) (goals keys codes) fits named_use (λ v. use_by c.bytes (id, v)) all fits_is (λ v h. ap named_use (sigma_is v h))
        ∙ sym (map_twice (λ v. (id, v)) (use_by c.bytes) (filter fits (map (goals keys codes) all)))
        ∙ ap (map (use_by c.bytes)) (sym (by_items ∙ ap (λ (b : Bool). cond b (map (λ v. (id, v)) (filter fits (map (goals keys codes) all))) []) e))
    | inr e ↦
        unified [] (matches_none e)
        ∙ ap (map (use_by c.bytes)) (sym (by_items ∙ ap (λ (b : Bool). cond b (map (λ v. (id, v)) (filter fits (map (goals keys codes) all))) []) e))
  ]

  -- each use is by a match
  pub use_match : (u : Use) → Among u (items.uses_of G (code, t) (assertion_of c.bytes id)) → (v : Pairs) × Among v all × (u ≡ (id, goals keys codes v))
  use_match u h = pick (is_same d code) (subst (Among u) by_items h)
    where
      pick : (b : Bool) → Among u (cond b (map (λ v. (id, v)) (filter fits (map (goals keys codes) all))) []) → (v : Pairs) × Among v all × (u ≡ (id, goals keys codes v))
      pick false k = absurd k
      pick true k =
          let r = among_mapped (λ v. (id, v)) u (filter fits (map (goals keys codes) all)) k in
          let q = among_filtered fits r.0 (map (goals keys codes) all) r.1 in
          let m = among_mapped (goals keys codes) r.0 all q.0 in
          (m.0, m.1, r.2 ∙ ap (λ (gs : List Goal). (id, gs)) m.2)

  pub use_items : (u : Use) → Among u (items.uses_of G (code, t) (assertion_of c.bytes id)) → Among u.1 (items.matches fits (assertion_of c.bytes id).items [] t)
  use_items u h = pick (is_same (assertion_of c.bytes id).code code) h
    where
      pick : (b : Bool) → Among u (cond b (map (λ v. (id, v)) (items.matches fits (assertion_of c.bytes id).items [] t)) []) → Among u.1 (items.matches fits (assertion_of c.bytes id).items [] t)
      pick false k = absurd k
      pick true k =
          let r = among_mapped (λ v. (id, v)) u (items.matches fits (assertion_of c.bytes id).items [] t) k in
          subst (λ (x : Use). Among x.1 (items.matches fits (assertion_of c.bytes id).items [] t)) (sym r.2) r.1
