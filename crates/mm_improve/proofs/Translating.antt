-- The matches of a pattern are those of its items.
use Rattle.std.proofs.Common.{◌≡◌, ℕ, zero, suc, ◌+◌, ◌<◌, List, [], ◌∷◌, ◌++◌, Option, None, Some, Bool, true, false, cond, ◌||◌, refl, sym, ◌∙◌, ap, arith, eqb, inl, inr, length, get_or, map, take, drop, filter}
use Rattle.std.specs.List.{flat_map}
use Rattle.std.proofs.lemmas.Bool.{cases_Bool, eqb-true, eq-eqb, ne_eqb, cases_eq}
use Rattle.std.proofs.lemmas.List.{map-append}
use Rattle.std.proofs.lemmas.List.Elements.{filter-append}
use Rattle.mm_subst.specs.declared.symbol.WSym.{WSym}
use Rattle.mm_subst.specs.declared.symbol.WSym.TheVariants.{Const, Var, Work}
use Rattle.mm_subst.specs.Symbols.{is_same, is_work, has_work}
use Rattle.mm_subst.specs.Substitutions.{Pairs, value_at, value_of, or_itself, applied}
use Rattle.mm_subst.proofs.Replaced.{applied-nil, applied-cons}
use Rattle.mm_unify.specs.Matching.{lengths, behind, onward, by_value, matches}
use Rattle.mm_plain.specs.Drawing.{fresh_from}
use Rattle.mm_chart.specs.declared.grammar.Item.{Item}
use Rattle.mm_chart.specs.declared.grammar.Item.TheVariants.{Fixed, Again, New}
use Rattle.mm_chart.specs.Options.{on}
use Rattle.mm_chart.specs.Items as items
use Rattle.mm_chart.specs.Items.{Goal, no_goal, value, whole}
use Rattle.mm_improve.specs.Grammars.{place, variable_item, with_variable, items_of}

-- a place holds the variable
pub place-at : (vs : List ℕ) (n k : ℕ) → place vs n ≡ Some k → (k < length vs) × (get_or vs k 0 ≡ n)
place-at [] n k h = absurd (cc)
place-at (v ∷ vs) n k h = elim (cases_Bool (eqb v n)) [
  | inl e ↦
      let z : Some 0 ≡ Some k = sym (ap (λ (b : Bool). cond b (Some 0) (on suc (place vs n))) e) ∙ h in
      let y : 0 ≡ k = cc in
      (omega arith, ap (λ (i : ℕ). get_or (v ∷ vs) i 0) (sym y) ∙ eqb-true v n e)
  | inr e ↦ later (place vs n) refl (sym (ap (λ (b : Bool). cond b (Some 0) (on suc (place vs n))) e) ∙ h) (λ j q. place-at vs n j q)
]
  where
    later : (o : Option ℕ) → place vs n ≡ o → on suc (place vs n) ≡ Some k → ((j : ℕ) → place vs n ≡ Some j → (j < length vs) × (get_or vs j 0 ≡ n)) → (k < length (v ∷ vs)) × (get_or (v ∷ vs) k 0 ≡ n)
    later None q z ih = absurd (let y : on suc (place vs n) ≡ None = ap (on suc) q in cc)
    later (Some j) q z ih =
        let y : Some (suc j) ≡ Some k = sym (ap (on suc) q) ∙ z in
        let x : suc j ≡ k = cc in
        let i = ih j q in
        let l = i.0 in
        (omega arith, ap (λ (m : ℕ). get_or (v ∷ vs) m 0) (sym x) ∙ i.1)

-- two variables with one place are the same
pub place-one : (vs : List ℕ) (m n k : ℕ) → place vs m ≡ Some k → place vs n ≡ Some k → m ≡ n
place-one vs m n k a b = sym (place-at vs m k a).1 ∙ (place-at vs n k b).1

-- what a fresh work variable stands for
fresh-value : (m : ℕ) (vs : List ℕ) (n : ℕ) → value_at (fresh_from m vs) (Var n) ≡ on (λ k. Work (m + k) ∷ []) (place vs n)
fresh-value m [] n = refl
fresh-value m (v ∷ vs) n = elim (cases_Bool (eqb v n)) [
  | inl e ↦
      ap (λ (b : Bool). cond b (Some (Work m ∷ [])) (value_at (fresh_from (m + 1) vs) (Var n))) e
      ∙ ap (λ (k : ℕ). Some (Work k ∷ [])) (let z : m ≡ m + 0 = omega arith in z)
      ∙ sym (ap (λ (b : Bool). on (λ k. Work (m + k) ∷ []) (cond b (Some 0) (on suc (place vs n)))) e)
  | inr e ↦
      ap (λ (b : Bool). cond b (Some (Work m ∷ [])) (value_at (fresh_from (m + 1) vs) (Var n))) e
      ∙ fresh-value (m + 1) vs n ∙ shifted (place vs n)
      ∙ sym (ap (λ (b : Bool). on (λ k. Work (m + k) ∷ []) (cond b (Some 0) (on suc (place vs n)))) e)
]
  where
    shifted : (o : Option ℕ) → on (λ k. Work (m + 1 + k) ∷ []) o ≡ on (λ k. Work (m + k) ∷ []) (on suc o)
    shifted None = refl
    shifted (Some k) = ap (λ (i : ℕ). Some (Work i ∷ [])) (let z : m + 1 + k ≡ m + suc k = omega arith in z)

pub fresh-constant : (m : ℕ) (vs : List ℕ) (n : ℕ) → value_at (fresh_from m vs) (Const n) ≡ None
fresh-constant m [] n = refl
fresh-constant m (v ∷ vs) n = fresh-constant (m + 1) vs n

abbrev pub key_symbol : ℕ → WSym
key_symbol k = Work (suc k)

-- the symbol of a pattern for a key, and for any other variable
abbrev pub keyed : ℕ → Option ℕ → WSym
keyed n None = Var n
keyed n (Some k) = Work (suc k)

pub fresh-variable : (vs : List ℕ) (n : ℕ) (o : Option ℕ) → place vs n ≡ o → value_of (fresh_from 1 vs) (Var n) ≡ keyed n o ∷ []
fresh-variable vs n None h = ap (or_itself (Var n)) (fresh-value 1 vs n ∙ ap (on (λ k. Work (1 + k) ∷ [])) h)
fresh-variable vs n (Some k) h = ap (or_itself (Var n)) (fresh-value 1 vs n ∙ ap (on (λ k. Work (1 + k) ∷ [])) h) ∙ ap (λ (i : ℕ). Work i ∷ []) (let z : 1 + k ≡ suc k = omega arith in z)

module _ (keys : List ℕ) (codes : List WSym) where
  -- the typecode of a work variable of the pattern
  abbrev pub code_of : WSym → WSym
  code_of (Const n) = Const 0
  code_of (Var n) = Const 0
  code_of (Work zero) = Const 0
  code_of (Work (suc k)) = get_or codes k (Const 0)

  -- values as goals
  abbrev pub goals : Pairs → List Goal
  goals v = map (λ q. (code_of q.0, q.1)) v

  -- the values so far are those of the variables that have occurred
  abbrev pub AreSeen : List ℕ → Pairs → Type 0
  AreSeen [] [] = Unit {0}
  AreSeen [] (q ∷ v) = ⊥
  AreSeen (n ∷ seen) [] = ⊥
  AreSeen (n ∷ seen) (q ∷ v) = ((k : ℕ) × (place keys n ≡ Some k) × (q.0 ≡ Work (suc k))) × AreSeen seen v

  pub seen-push : (seen : List ℕ) (v : Pairs) (n k : ℕ) (w : List WSym) → AreSeen seen v → place keys n ≡ Some k → AreSeen (seen ++ n ∷ []) (v ++ (Work (suc k), w) ∷ [])
  seen-push [] [] n k w h e = ((k, e, refl), tt)
  seen-push [] (q ∷ v) n k w h e = absurd h
  seen-push (m ∷ seen) [] n k w h e = absurd h
  seen-push (m ∷ seen) (q ∷ v) n k w h e = (h.0, seen-push seen v n k w h.1 e)

  -- the value of a variable that has occurred
  pub seen-value : (seen : List ℕ) (v : Pairs) (n k : ℕ) → AreSeen seen v → place keys n ≡ Some k → value_at v (Work (suc k)) ≡ on (λ j. value (goals v) j) (place seen n)
  seen-value [] [] n k h e = refl
  seen-value [] (q ∷ v) n k h e = absurd h
  seen-value (m ∷ seen) [] n k h e = absurd h
  seen-value (m ∷ seen) (q ∷ v) n k h e = elim (cases_eq m n) [
    | inl f ↦
        let i : h.0.0 ≡ k = let z : Some h.0.0 ≡ Some k = sym h.0.1 ∙ ap (place keys) f ∙ e in cc in
        let s : is_same q.0 (Work (suc k)) ≡ true = ap (λ (x : WSym). is_same x (Work (suc k))) (h.0.2 ∙ ap (λ (j : ℕ). Work (suc j)) i) ∙ eq-eqb (suc k) (suc k) refl in
        ap (λ (b : Bool). cond b (Some q.1) (value_at v (Work (suc k)))) s ∙ sym (ap (λ (b : Bool). on (λ j. value (goals (q ∷ v)) j) (cond b (Some 0) (on suc (place seen n)))) (eq-eqb m n f))
    | inr f ↦
        let s : is_same q.0 (Work (suc k)) ≡ false = ap (λ (x : WSym). is_same x (Work (suc k))) h.0.2 ∙ ne_eqb (suc h.0.0) (suc k) (λ z. f (let y : h.0.0 ≡ k = omega arith in place-one keys m n k (h.0.1 ∙ ap (λ (j : ℕ). Some j) y) e)) in
        ap (λ (b : Bool). cond b (Some q.1) (value_at v (Work (suc k)))) s ∙ seen-value seen v n k h.1 e ∙ later (place seen n)
        ∙ sym (ap (λ (b : Bool). on (λ j. value (goals (q ∷ v)) j) (cond b (Some 0) (on suc (place seen n)))) (ne_eqb m n f))
  ]
    where
      later : (o : Option ℕ) → on (λ j. value (goals v) j) o ≡ on (λ j. value (goals (q ∷ v)) j) (on suc o)
      later None = refl
      later (Some j) = refl

  abbrev any_match : List Goal → Bool
  any_match v = true

  abbrev found_items : List ℕ → List WSym → Pairs → List WSym → List (List Goal)
  found_items seen s v t = items.matches any_match (items_of keys codes seen s) (goals v) t

  map_onward : (f : List WSym → List Pairs) (o : Option (List WSym)) (g : List WSym → List (List Goal)) → ((t : List WSym) → map goals (f t) ≡ g t) → map goals (onward f o) ≡ onward g o
  map_onward f None g h = refl
  map_onward f (Some t) g h = h t

  map_flat : {X : Type 0} (f : X → List Pairs) (g : X → List (List Goal)) (xs : List X) → ((x : X) → map goals (f x) ≡ g x) → map goals (flat_map f xs) ≡ flat_map g xs
  map_flat f g [] h = refl
  map_flat f g (x ∷ xs) h = map-append goals (f x) (flat_map f xs) ∙ ap (λ ys. ys ++ map goals (flat_map f xs)) (h x) ∙ ap (λ ys. g x ++ ys) (map_flat f g xs h)

  abbrev rest : List WSym → List WSym
  rest s = applied (fresh_from 1 keys) s

  -- what holds of the rest of a string
  abbrev Same : List WSym → Type 0
  Same s = (seen : List ℕ) (v : Pairs) (t : List WSym) → AreSeen seen v → map goals (matches (rest s) v t) ≡ found_items seen s v t

  same-fixed : (s : List WSym) (seen : List ℕ) (v : Pairs) (t : List WSym) (x : WSym) → Same s → AreSeen seen v → is_work x ≡ false → map goals (matches (x ∷ rest s) v t) ≡ items.matches any_match (Fixed x ∷ items_of keys codes seen s) (goals v) t
  same-fixed s seen v t x ih h e =
      ap (λ (b : Bool). map goals (by_value (λ v u. matches (rest s) v u) x v t (cond b (value_at v x) (Some (x ∷ []))))) e
      ∙ map_onward (matches (rest s) v) (behind (x ∷ []) t) (found_items seen s v) (λ u. ih seen v u h)

  same-again : (s : List WSym) (seen : List ℕ) (v : Pairs) (t : List WSym) (n k j : ℕ) → Same s → AreSeen seen v → place keys n ≡ Some k → place seen n ≡ Some j →
      map goals (matches (Work (suc k) ∷ rest s) v t) ≡ items.matches any_match (Again j ∷ items_of keys codes seen s) (goals v) t
  same-again s seen v t n k j ih h e f =
      ap (λ (o : Option (List WSym)). map goals (by_value (λ v u. matches (rest s) v u) (Work (suc k)) v t o)) (seen-value seen v n k h e ∙ ap (on (λ j. value (goals v) j)) f)
      ∙ map_onward (matches (rest s) v) (behind (value (goals v) j) t) (found_items seen s v) (λ u. ih seen v u h)

  same-new : (s : List WSym) (seen : List ℕ) (v : Pairs) (t : List WSym) (n k : ℕ) → Same s → AreSeen seen v → place keys n ≡ Some k → place seen n ≡ None →
      map goals (matches (Work (suc k) ∷ rest s) v t) ≡ items.matches any_match (New (get_or codes k (Const 0)) ∷ items_of keys codes (seen ++ n ∷ []) s) (goals v) t
  same-new s seen v t n k ih h e f =
      let x : WSym = Work (suc k) in
      let code = get_or codes k (Const 0) in
      ap (λ (o : Option (List WSym)). map goals (by_value (λ v u. matches (rest s) v u) x v t o)) (seen-value seen v n k h e ∙ ap (on (λ j. value (goals v) j)) f)
      ∙ map_flat (λ m. matches (rest s) (v ++ (x, take m t) ∷ []) (drop m t)) (λ m. items.matches any_match (items_of keys codes (seen ++ n ∷ []) s) (goals v ++ (code, take m t) ∷ []) (drop m t)) (lengths (length t))
      (λ m.
      ih (seen ++ n ∷ []) (v ++ (x, take m t) ∷ []) (drop m t) (seen-push seen v n k (take m t) h e)
      ∙ ap (λ (gs : List Goal). items.matches any_match (items_of keys codes (seen ++ n ∷ []) s) gs (drop m t)) (map-append (λ (q : WSym × List WSym). (code_of q.0, q.1)) v ((x, take m t) ∷ [])))

  same-key : (s : List WSym) (seen : List ℕ) (v : Pairs) (t : List WSym) (n k : ℕ) (o : Option ℕ) → Same s → AreSeen seen v → place keys n ≡ Some k → place seen n ≡ o →
      map goals (matches (Work (suc k) ∷ rest s) v t) ≡ items.matches any_match (variable_item codes n (Some k) o ∷ items_of keys codes (with_variable seen n (Some k) o) s) (goals v) t
  same-key s seen v t n k None ih h e f = same-new s seen v t n k ih h e f
  same-key s seen v t n k (Some j) ih h e f = same-again s seen v t n k j ih h e f

  same-variable : (s : List WSym) (seen : List ℕ) (v : Pairs) (t : List WSym) (n : ℕ) (o : Option ℕ) → Same s → AreSeen seen v → place keys n ≡ o →
      map goals (matches (keyed n o ∷ rest s) v t) ≡ items.matches any_match (variable_item codes n o (place seen n) ∷ items_of keys codes (with_variable seen n o (place seen n)) s) (goals v) t
  same-variable s seen v t n None ih h e = same-fixed s seen v t (Var n) ih h refl
  same-variable s seen v t n (Some k) ih h e = same-key s seen v t n k (place seen n) ih h e refl

  same-end : (v : Pairs) (t : List WSym) → map goals (matches [] v t) ≡ whole any_match (goals v) t
  same-end v [] = refl
  same-end v (c ∷ t) = refl

  work_later : (x : WSym) (s : List WSym) → has_work (x ∷ s) ≡ false → is_work x ≡ false → has_work s ≡ false
  work_later x s h e = sym (ap (λ (b : Bool). b || has_work s) e) ∙ h

  pub same-matches : (s : List WSym) → has_work s ≡ false → Same s
  same-matches [] w seen v t h = ap (λ (b : List WSym). map goals (matches b v t)) (applied-nil (fresh_from 1 keys)) ∙ same-end v t
  same-matches (Const n ∷ s) w seen v t h =
      ap (λ (b : List WSym). map goals (matches b v t)) (applied-cons (fresh_from 1 keys) (Const n) s ∙ ap (λ (u : List WSym). u ++ rest s) (ap (or_itself (Const n)) (fresh-constant 1 keys n)))
      ∙ same-fixed s seen v t (Const n) (same-matches s (work_later (Const n) s w refl)) h refl
  same-matches (Var n ∷ s) w seen v t h =
      ap (λ (b : List WSym). map goals (matches b v t)) (applied-cons (fresh_from 1 keys) (Var n) s ∙ ap (λ (u : List WSym). u ++ rest s) (fresh-variable keys n (place keys n) refl))
      ∙ same-variable s seen v t n (place keys n) (same-matches s (work_later (Var n) s w refl)) h refl
  same-matches (Work n ∷ s) w seen v t h = absurd (cc)

-- a match that passes a test is one of all matches
filter_onward : (ok : List Goal → Bool) (f g : List WSym → List (List Goal)) (o : Option (List WSym)) → ((s : List WSym) → f s ≡ filter ok (g s)) → onward f o ≡ filter ok (onward g o)
filter_onward ok f g None h = refl
filter_onward ok f g (Some s) h = h s

filter_flat : {X : Type 0} (ok : List Goal → Bool) (f g : X → List (List Goal)) (xs : List X) → ((x : X) → f x ≡ filter ok (g x)) → flat_map f xs ≡ filter ok (flat_map g xs)
filter_flat ok f g [] h = refl
filter_flat ok f g (x ∷ xs) h = ap (λ ys. ys ++ flat_map f xs) (h x) ∙ ap (λ ys. filter ok (g x) ++ ys) (filter_flat ok f g xs h) ∙ sym (filter-append ok (g x) (flat_map g xs))

pub filtered : (ok : List Goal → Bool) (is : List Item) (v : List Goal) (s : List WSym) → items.matches ok is v s ≡ filter ok (items.matches (λ _. true) is v s)
filtered ok [] v [] = refl
filtered ok [] v (c ∷ s) = refl
filtered ok (Fixed c ∷ is) v s = filter_onward ok (items.matches ok is v) (items.matches (λ _. true) is v) (behind (c ∷ []) s) (λ t. filtered ok is v t)
filtered ok (Again k ∷ is) v s = filter_onward ok (items.matches ok is v) (items.matches (λ _. true) is v) (behind (value v k) s) (λ t. filtered ok is v t)
filtered ok (New code ∷ is) v s =
    filter_flat ok (λ n. items.matches ok is (v ++ (code, take n s) ∷ []) (drop n s)) (λ n. items.matches (λ _. true) is (v ++ (code, take n s) ∷ []) (drop n s)) (lengths (length s)) (λ n. filtered ok is (v ++ (code, take n s) ∷ []) (drop n s))
