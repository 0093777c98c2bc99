-- The chosen proof by unifiers is the chosen proof by items.
use Rattle.std.proofs.Common.{◌≡◌, ℕ, zero, suc, ◌≤◌, ◌<◌, List, [], ◌∷◌, ◌++◌, Option, None, Some, Bool, true, false, cond, ◌||◌, refl, sym, ◌∙◌, ap, arith, inl, inr, subst, length, get_or, map, take, drop, leb, if◌then◌else◌}
use Rattle.std.specs.List.{list_all, flat_map, AllByRecursion}
use Rattle.std.specs.Cmp.Lexicographic.{pointwise}
use Rattle.std.proofs.lemmas.Bool.{cases_Bool, le-ltb, ne_eqb}
use Rattle.std.proofs.lemmas.List.{map-append}
use Rattle.mm_scope.specs.Contents.{active_at}
use Rattle.mm_subst.specs.declared.symbol.WSym.{WSym}
use Rattle.mm_subst.specs.declared.symbol.WSym.TheVariants.{Const, Var, Work}
use Rattle.mm_subst.specs.Applied.{most_symbols}
use Rattle.mm_subst.specs.Symbols.{is_same, is_work, has_work}
use Rattle.mm_subst.specs.Substitutions.{Pairs, value_of, applied}
use Rattle.mm_subst.specs.Statements.{statement_of}
use Rattle.mm_unify.specs.Matching.{behind, onward}
use Rattle.mm_unify.proofs.Sorted.{Among, among_mapped, among_some_length, among_either}
use Rattle.mm_unify.proofs.Matched.{behind-some}
use Rattle.mm_plain.specs.Premises.{variables_for}
use Rattle.mm_chart.specs.declared.grammar.Item.{Item}
use Rattle.mm_chart.specs.declared.grammar.Item.TheVariants.{Fixed, Again, New}
use Rattle.mm_chart.specs.Options.{is_there, or_else, on, first}
use Rattle.mm_improve.specs.Assertions as assertions
use Rattle.mm_improve.specs.Assertions.{Terms, plain_assertions, parts}
use Rattle.mm_improve.specs.Ranks as ranks
use Rattle.mm_chart.specs.Items as items
use Rattle.mm_chart.specs.Items.{Goal, no_goal, Use, value, by_use, by_hypothesis}
use Rattle.mm_improve.specs.Grammars.{split, place, place_or_none, codes_for, order_for, assertion_of, hypothesis_of, grammar_of, sigma_of, use_by, chosen_by}
use Rattle.mm_improve.proofs.Forms.{IsPlainAssertion, IsStatedAs}
use Rattle.mm_chart.proofs.Ranks.{chosen-zero, chosen-suc}
use Rattle.mm_improve.proofs.Translating.{goals}
use Rattle.mm_improve.proofs.Linking.{same_uses, use_match, use_items, seen, order, order_is, key_here}
use Rattle.mm_improve.proofs.Serving.{differ-in, same_test, applied-typed, parts_of}

-- a string inside another
pub record Within (t w : List WSym) : Type 0 where
  pub short : length w ≤ length t
  pub plain : has_work t ≡ false → has_work w ≡ false

plain-take : (n : ℕ) (s : List WSym) → has_work s ≡ false → has_work (take n s) ≡ false
plain-take zero s h = refl
plain-take (suc n) [] h = refl
plain-take (suc n) (c ∷ s) h = elim (cases_Bool (is_work c)) [
  | inl e ↦ absurd (let z : true ≡ false = sym (ap (λ (b : Bool). b || has_work s) e) ∙ h in cc)
  | inr e ↦ ap (λ (b : Bool). b || has_work (take n s)) e ∙ plain-take n s (sym (ap (λ (b : Bool). b || has_work s) e) ∙ h)
]

plain-drop : (n : ℕ) (s : List WSym) → has_work s ≡ false → has_work (drop n s) ≡ false
plain-drop zero s h = h
plain-drop (suc n) [] h = refl
plain-drop (suc n) (c ∷ s) h = elim (cases_Bool (is_work c)) [
  | inl e ↦ absurd (let z : true ≡ false = sym (ap (λ (b : Bool). b || has_work s) e) ∙ h in cc)
  | inr e ↦ plain-drop n s (sym (ap (λ (b : Bool). b || has_work s) e) ∙ h)
]

short-take : (n : ℕ) (s : List WSym) → length (take n s) ≤ length s
short-take zero s = omega arith
short-take (suc n) [] = omega arith
short-take (suc n) (c ∷ s) = let i = short-take n s in omega arith

short-drop : (n : ℕ) (s : List WSym) → length (drop n s) ≤ length s
short-drop zero s = omega arith
short-drop (suc n) [] = omega arith
short-drop (suc n) (c ∷ s) = let i = short-drop n s in omega arith

within-take : (t s : List WSym) (n : ℕ) → Within t s → Within t (take n s)
within-take t s n w = let a = w.short in let b = short-take n s in record { short = omega arith; plain = λ h. plain-take n s (w.plain h) }

within-drop : (t s : List WSym) (n : ℕ) → Within t s → Within t (drop n s)
within-drop t s n w = let a = w.short in let b = short-drop n s in record { short = omega arith; plain = λ h. plain-drop n s (w.plain h) }

drop-front : (w s : List WSym) → drop (length w) (w ++ s) ≡ s
drop-front [] s = refl
drop-front (c ∷ w) s = drop-front w s

within-behind : (t w s r : List WSym) → Within t s → behind w s ≡ Some r → Within t r
within-behind t w s r h e = subst (Within t) (ap (drop (length w)) (behind-some w s r e) ∙ drop-front w r) (within-drop t s (length w) h)

abbrev pub AreWithin : List WSym → List Goal → Type 0
AreWithin t v = AllByRecursion (λ g. Within t g.1) v

push : (t : List WSym) (v : List Goal) (g : Goal) → AreWithin t v → Within t g.1 → AreWithin t (v ++ g ∷ [])
push t [] g h k = (k, tt)
push t (x ∷ v) g h k = (h.0, push t v g h.1 k)

-- the values of a match are inside the string
pub values-within : (ok : List Goal → Bool) (is : List Item) (v : List Goal) (s t : List WSym) (m : List Goal) → AreWithin t v → Within t s → Among m (items.matches ok is v s) → AreWithin t m
values-within ok [] v [] t m a w h = ended (ok v) h
  where
    ended : (b : Bool) → Among m (cond b (v ∷ []) []) → AreWithin t m
    ended true (inl e) = subst (AreWithin t) (sym e) a
    ended true (inr k) = absurd k
    ended false k = absurd k
values-within ok [] v (c ∷ s) t m a w h = absurd h
values-within ok (Fixed c ∷ is) v s t m a w h = fixed (behind (c ∷ []) s) refl h (λ r k x. values-within ok is v r t m a x k)
  where
    fixed : (o : Option (List WSym)) → behind (c ∷ []) s ≡ o → Among m (onward (items.matches ok is v) o) → ((r : List WSym) → Among m (items.matches ok is v r) → Within t r → AreWithin t m) → AreWithin t m
    fixed None e k ih = absurd k
    fixed (Some r) e k ih = ih r k (within-behind t (c ∷ []) s r w e)
values-within ok (Again i ∷ is) v s t m a w h = again (behind (value v i) s) refl h (λ r k x. values-within ok is v r t m a x k)
  where
    again : (o : Option (List WSym)) → behind (value v i) s ≡ o → Among m (onward (items.matches ok is v) o) → ((r : List WSym) → Among m (items.matches ok is v r) → Within t r → AreWithin t m) → AreWithin t m
    again None e k ih = absurd k
    again (Some r) e k ih = ih r k (within-behind t (value v i) s r w e)
values-within ok (New code ∷ is) v s t m a w h =
    let r = among_some_length (λ n. items.matches ok is (v ++ (code, take n s) ∷ []) (drop n s)) (length s) m h in
    values-within ok is (v ++ (code, take r.0 s) ∷ []) (drop r.0 s) t m (push t v (code, take r.0 s) a (within-take t s r.0 w)) (within-drop t s r.0 w) r.3

pub within-at : (t : List WSym) (v : List Goal) (j : ℕ) → j < length v → AreWithin t v → Within t (get_or v j no_goal).1
within-at t [] j l h = absurd (omega arith)
within-at t (g ∷ v) zero l h = h.0
within-at t (g ∷ v) (suc j) l h = within-at t v j (omega arith) h.1

first_map : {X Y : Type 0} (p : Y → Bool) (q : X → Bool) (f : X → Y) (xs : List X) → ((x : X) → Among x xs → p (f x) ≡ q x) → first p (map f xs) ≡ on f (first q xs)
first_map p q f [] h = refl
first_map p q f (x ∷ xs) h = elim (cases_Bool (q x)) [
  | inl e ↦ ap (λ (b : Bool). cond b (Some (f x)) (first p (map f xs))) (h x (inl refl) ∙ e) ∙ sym (ap (λ (b : Bool). on f (cond b (Some x) (first q xs))) e)
  | inr e ↦ ap (λ (b : Bool). cond b (Some (f x)) (first p (map f xs))) (h x (inl refl) ∙ e) ∙ first_map p q f xs (λ y a. h y (inr a)) ∙ sym (ap (λ (b : Bool). on f (cond b (Some x) (first q xs))) e)
]

on_or_else : {A B : Type 0} (f : A → B) (a b : Option A) → or_else (on f a) (on f b) ≡ on f (or_else a b)
on_or_else f None b = refl
on_or_else f (Some a) b = refl

on_there : {A B : Type 0} (f : A → B) (o : Option A) → is_there (on f o) ≡ is_there o
on_there f None = refl
on_there f (Some a) = refl

flat_same : {X Y : Type 0} (f g : X → List Y) (xs : List X) → ((x : X) → Among x xs → f x ≡ g x) → flat_map f xs ≡ flat_map g xs
flat_same f g [] h = refl
flat_same f g (x ∷ xs) h = ap (λ ys. ys ++ flat_map f xs) (h x (inl refl)) ∙ ap (λ ys. g x ++ ys) (flat_same f g xs (λ y a. h y (inr a)))

map_flat : {X Y Z : Type 0} (k : Y → Z) (f : X → List Y) (xs : List X) → map k (flat_map f xs) ≡ flat_map (λ x. map k (f x)) xs
map_flat k f [] = refl
map_flat k f (x ∷ xs) = map-append k (f x) (flat_map f xs) ∙ ap (λ ys. map k (f x) ++ ys) (map_flat k f xs)

flat_map_map : {X Y Z : Type 0} (h : X → Y) (f : Y → List Z) (xs : List X) → flat_map f (map h xs) ≡ flat_map (λ x. f (h x)) xs
flat_map_map h f [] = refl
flat_map_map h f (x ∷ xs) = ap (λ ys. f (h x) ++ ys) (flat_map_map h f xs)

pub among_flat : {X Y : Type 0} (f : X → List Y) (xs : List X) (y : Y) → Among y (flat_map f xs) → (x : X) × Among x xs × Among y (f x)
among_flat f [] y h = absurd h
among_flat f (x ∷ xs) y h = elim (among_either y (f x) (flat_map f xs) h) [
  | inl a ↦ (x, inl refl, a)
  | inr b ↦ let r = among_flat f xs y b in (r.0, inr r.1, r.2)
]

module _ (c : Terms) (are_plain : (id : ℕ) → Among id (plain_assertions c) → IsPlainAssertion c.bytes id) (are_stated : (id : ℕ) → Among id (active_at c.bytes c.at) → IsStatedAs c.bytes id) where
  abbrev pub G : items.Grammar
  G = grammar_of c

  abbrev pub IsFit : WSym → List WSym → Type 0
  IsFit code t = (has_work (code ∷ t) ≡ false) × (length (code ∷ t) ≤ most_symbols)

  hypothesis_is : (code : WSym) (t : List WSym) → on (ranks.at_rank 0) (ranks.hypothesis c (code ∷ t)) ≡ on (chosen_by c.bytes) (items.hypothesis G (code, t))
  hypothesis_is code t =
      let active = active_at c.bytes c.at in
      let q : ℕ → Bool = λ id. pointwise is_same (code ∷ t) (statement_of c.bytes id) in
      sym (ap (λ o. on (chosen_by c.bytes) (on by_hypothesis o)) (first_map (λ h. items.same_goal (code, t) h.goal) q (hypothesis_of c.bytes) active (λ id a.
      let s = are_stated id a in
      ap (λ (x : List WSym). items.same_goal (code, t) (split x)) s.2 ∙ sym (ap (pointwise is_same (code ∷ t)) s.2)))
      ∙ ends (first q active))
    where
      ends : (o : Option ℕ) → on (chosen_by c.bytes) (on by_hypothesis (on (hypothesis_of c.bytes) o)) ≡ on (ranks.at_rank 0) (on (λ id. record { id = id; sigma = [] }) o)
      ends None = refl
      ends (Some id) = refl

  uses_are : (code : WSym) (t : List WSym) → IsFit code t → ranks.uses c (code ∷ t) ≡ map (use_by c.bytes) (items.uses G (code, t))
  uses_are code t fit =
      flat_same (λ id. map (λ sigma. record { id = id; sigma = sigma }) (assertions.matches c (code ∷ t) id)) (λ id. map (use_by c.bytes) (items.uses_of G (code, t) (assertion_of c.bytes id))) (plain_assertions c)
      (λ id a. same_uses c id (are_plain id a) code t fit.0 fit.1)
      ∙ sym (map_flat (use_by c.bytes) (λ id. items.uses_of G (code, t) (assertion_of c.bytes id)) (plain_assertions c))
      ∙ ap (map (use_by c.bytes)) (sym (flat_map_map (assertion_of c.bytes) (items.uses_of G (code, t)) (plain_assertions c)))

  abbrev Linked : ℕ → Type 0
  Linked r = (code : WSym) (t : List WSym) → IsFit code t → ranks.chosen c r (code ∷ t) ≡ on (chosen_by c.bytes) (items.chosen G r (code, t))

  pub constants-stay : (bytes : List ℕ) (id : ℕ) (gs : List Goal) (ns : List ℕ) (F : ℕ → List WSym) (m : ℕ) → value_of (map (λ n. (Var n, F n)) ns) (Const m) ≡ Const m ∷ []
  constants-stay bytes id gs [] F m = refl
  constants-stay bytes id gs (n ∷ ns) F m = constants-stay bytes id gs ns F m

  pub all_weaker : {X : Type 0} (P Q : X → Type 0) → ((x : X) → P x → Q x) → (xs : List X) → AllByRecursion P xs → AllByRecursion Q xs
  all_weaker P Q f [] h = tt
  all_weaker P Q f (x ∷ xs) h = (f x h.0, all_weaker P Q f xs h.1)

  pub places : (P : ℕ → Type 0) (keys ns : List ℕ) → ((i : ℕ) → i < length ns → P (get_or ns i 0)) → AllByRecursion P ns
  places P keys [] h = tt
  places P keys (n ∷ ns) h = (h 0 (omega arith), places P keys ns (λ i l. h (suc i) (omega arith)))

  pub goal_fit : (code : WSym) (t : List WSym) (g : Goal) → IsFit code t → is_work g.0 ≡ false → Within t g.1 → IsFit g.0 g.1
  goal_fit code t g fit e w = (
    ap (λ (b : Bool). b || has_work g.1) e ∙ w.plain (later (is_work code) fit.0),
    (let a = w.short in let b = fit.1 in omega arith),
  )
    where
      later : (b : Bool) → (b || has_work t) ≡ false → has_work t ≡ false
      later true h = absurd (cc)
      later false h = h

  -- the typecode of a part is a constant
  pub code-plain : (keys : List ℕ) (codes : List WSym) (v : Pairs) (j : ℕ) → AllByRecursion (λ c. (m : ℕ) × (c ≡ Const m)) codes → is_work (get_or (goals keys codes v) j no_goal).0 ≡ false
  code-plain keys codes [] j h = refl
  code-plain keys codes (q ∷ v) (suc j) h = code-plain keys codes v j h
  code-plain keys codes ((Const n, w) ∷ v) zero h = refl
  code-plain keys codes ((Var n, w) ∷ v) zero h = refl
  code-plain keys codes ((Work zero, w) ∷ v) zero h = refl
  code-plain keys codes ((Work (suc k), w) ∷ v) zero h = at codes k h
    where
      at : (cs : List WSym) (k : ℕ) → AllByRecursion (λ c. (m : ℕ) × (c ≡ Const m)) cs → is_work (get_or cs k (Const 0)) ≡ false
      at [] k h = refl
      at (x ∷ cs) zero h = ap is_work h.0.1
      at (x ∷ cs) (suc k) h = at cs k h.1

  serves_is : (r : ℕ) (code : WSym) (t : List WSym) → IsFit code t → Linked r → (u : Use) → Among u (items.uses G (code, t)) → ranks.serves c (ranks.chosen c r) (use_by c.bytes u) ≡ items.serves (items.chosen G r) u
  serves_is r code t fit link u h =
      let x = among_flat (items.uses_of G (code, t)) (map (assertion_of c.bytes) (plain_assertions c)) u h in
      let y = among_mapped (assertion_of c.bytes) x.0 (plain_assertions c) x.1 in
      let id = y.0 in
      let a = are_plain id y.1 in
      let k : Among u (items.uses_of G (code, t) (assertion_of c.bytes id)) = subst (λ z. Among u (items.uses_of G (code, t) z)) y.2 x.2 in
      let m = use_match c id a code t fit.0 fit.1 u k in
      let v = m.0 in
      let keys = variables_for c.bytes id in
      let codes = codes_for c.bytes id in
      let gs = goals keys codes v in
      let sigma = sigma_of c.bytes id gs in
      let P : List WSym → Bool = λ g. is_there (ranks.chosen c r g) in
      let Q : Goal → Bool = λ g. is_there (items.chosen G r g) in
      let o = order c id a code t fit.0 fit.1 in
      let F : ℕ → List WSym = λ n. value gs (place_or_none (place o n)) in
      let parts_are : parts c.bytes id sigma ≡ parts_of codes keys F =
      ap (map (applied sigma)) a.hypotheses
      ∙ applied-typed sigma codes keys F
      (all_weaker (λ x. (m : ℕ) × (x ≡ Const m)) _ (λ x z. ap (value_of sigma) z.1 ∙ constants-stay c.bytes id gs keys (λ n. value gs (place_or_none (place (order_for c.bytes id) n))) z.0 ∙ ap (λ (w : WSym). w ∷ []) (sym z.1)) codes a.constants)
      (places (λ n. value_of sigma (Var n) ≡ F n) keys keys (λ i l.
      key_here c id a code t fit.0 fit.1 v (get_or keys i 0) i (a.own i l) ∙ ap (λ (z : List ℕ). value gs (place_or_none (place z (get_or keys i 0)))) (order_is c id a code t fit.0 fit.1))) in
      let inside : (j : ℕ) → j < length gs → Within t (get_or gs j no_goal).1 = λ j l.
      within-at t gs j l (subst (λ (z : Use). AreWithin t z.1) m.2 (values-within _ (assertion_of c.bytes id).items [] t t u.1 tt (record { short = omega arith; plain = λ z. z }) (use_items c id a code t fit.0 fit.1 u k))) in
      ap (λ (z : Use). ranks.serves c (ranks.chosen c r) (use_by c.bytes z)) m.2
      ∙ ap (list_all P) parts_are
      ∙ same_test keys codes o v P Q a.as_many (seen c id a code t fit.0 fit.1 v m.1) (differ-in keys [] a.text (λ j l. absurd (omega arith))) a.own a.concluded (λ j l.
      let g = get_or gs j no_goal in
      ap is_there (link g.0 g.1 (goal_fit code t g fit (code-plain keys codes v j a.constants) (inside j l))) ∙ on_there (chosen_by c.bytes) (items.chosen G r g))
      ∙ sym (ap (items.serves (items.chosen G r)) m.2)

  not_long : (code : WSym) (t : List WSym) → IsFit code t → (o : Option ranks.Chosen) → ranks.unless_long (code ∷ t) o ≡ o
  not_long code t fit o = ap (λ (b : Bool). if b then None else o) (le-ltb most_symbols (length (code ∷ t)) fit.1)

  ranked : (r : ℕ) (o : Option Use) → on (ranks.at_rank (suc r)) (on (use_by c.bytes) o) ≡ on (chosen_by c.bytes) (on (by_use (suc r)) o)
  ranked r None = refl
  ranked r (Some u) = sym (ap (λ (b : Bool). Some (record { rank = suc r; use_ = record { id = u.0; sigma = cond b [] (sigma_of c.bytes u.0 u.1) } })) (ne_eqb (suc r) 0 (λ z. omega arith)))

  unranked-zero : (g : List WSym) → ranks.chosen c 0 g ≡ ranks.unless_long g (on (ranks.at_rank 0) (ranks.hypothesis c g))
  unfolding ranks.chosen
  unranked-zero g = refl

  unranked-suc : (r : ℕ) (g : List WSym) → ranks.chosen c (suc r) g ≡ ranks.unless_long g (or_else (ranks.chosen c r g) (on (ranks.at_rank (suc r)) (first (ranks.serves c (ranks.chosen c r)) (ranks.uses c g))))
  unfolding ranks.chosen
  unranked-suc r g = refl

  pub linked : (r : ℕ) → Linked r
  linked zero code t fit =
      unranked-zero (code ∷ t) ∙ not_long code t fit (on (ranks.at_rank 0) (ranks.hypothesis c (code ∷ t))) ∙ hypothesis_is code t ∙ ap (on (chosen_by c.bytes)) (sym (chosen-zero G (code, t)))
  linked (suc r) code t fit =
      let g : Goal = (code, t) in
      let us = items.uses G g in
      let next : first (ranks.serves c (ranks.chosen c r)) (ranks.uses c (code ∷ t)) ≡ on (use_by c.bytes) (first (items.serves (items.chosen G r)) us) =
      ap (first (ranks.serves c (ranks.chosen c r))) (uses_are code t fit) ∙ first_map (ranks.serves c (ranks.chosen c r)) (items.serves (items.chosen G r)) (use_by c.bytes) us (λ u h. serves_is r code t fit (linked r) u h) in
      unranked-suc r (code ∷ t)
      ∙ not_long code t fit (or_else (ranks.chosen c r (code ∷ t)) (on (ranks.at_rank (suc r)) (first (ranks.serves c (ranks.chosen c r)) (ranks.uses c (code ∷ t)))))
      ∙ ap (λ o. or_else o (on (ranks.at_rank (suc r)) (first (ranks.serves c (ranks.chosen c r)) (ranks.uses c (code ∷ t))))) (linked r code t fit)
      ∙ ap (λ o. or_else (on (chosen_by c.bytes) (items.chosen G r g)) (on (ranks.at_rank (suc r)) o)) next
      ∙ ap (λ o. or_else (on (chosen_by c.bytes) (items.chosen G r g)) o) (ranked r (first (items.serves (items.chosen G r)) us))
      ∙ on_or_else (chosen_by c.bytes) (items.chosen G r g) (on (by_use (suc r)) (first (items.serves (items.chosen G r)) us))
      ∙ ap (on (chosen_by c.bytes)) (sym (chosen-suc G r g))

  -- an answer by items is one by unifiers
  pub answered : (code : WSym) (t : List WSym) → IsFit code t → (o : Option items.Chosen) → items.IsAnswer G (code, t) o → ranks.IsAnswer c (code ∷ t) (on (chosen_by c.bytes) o)
  answered code t fit o h r = linked r code t fit ∙ ap (on (chosen_by c.bytes)) (h r) ∙ limits o
    where
      cut : (b : Bool) (x : items.Chosen) → on (chosen_by c.bytes) (cond b (Some x) None) ≡ cond b (Some (chosen_by c.bytes x)) None
      cut true x = refl
      cut false x = refl

      limits : (o : Option items.Chosen) → on (chosen_by c.bytes) (items.limited r o) ≡ ranks.limited r (on (chosen_by c.bytes) o)
      limits None = refl
      limits (Some x) = cut (leb x.rank r) x
