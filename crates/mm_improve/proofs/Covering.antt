-- What a match of a pattern has for each variable that occurs.
use Rattle.std.proofs.Common.{◌≡◌, ℕ, suc, List, [], ◌∷◌, ◌++◌, Option, None, Some, Bool, false, cond, refl, sym, ◌∙◌, ap, inl, inr, subst, length, take, drop}
use Rattle.mm_subst.specs.declared.symbol.WSym.{WSym}
use Rattle.mm_subst.specs.declared.symbol.WSym.TheVariants.{Const, Var, Work}
use Rattle.mm_subst.specs.Symbols.{is_work, has_work}
use Rattle.mm_subst.specs.Substitutions.{Pairs, value_at, or_itself, applied}
use Rattle.mm_subst.proofs.Replaced.{applied-nil, applied-cons}
use Rattle.mm_unify.specs.Matching.{behind, onward, by_value, matches}
use Rattle.mm_unify.proofs.Sorted.{Among, among_some_length}
use Rattle.mm_plain.specs.Drawing.{fresh_from}
use Rattle.mm_chart.specs.Options.{on}
use Rattle.mm_chart.specs.Items.{value}
use Rattle.mm_improve.specs.Grammars.{place, with_variable, seen_in}
use Rattle.mm_improve.proofs.Translating.{AreSeen, goals, keyed, seen-value, seen-push, fresh-constant, fresh-variable}

among_onward : {A : Type 0} (f : List WSym → List A) (o : Option (List WSym)) (x : A) → Among x (onward f o) → (t : List WSym) × Among x (f t)
among_onward f None x h = absurd h
among_onward f (Some t) x h = (t, h)

module _ (keys : List ℕ) (codes : List WSym) where
  abbrev rest : List WSym → List WSym
  rest s = applied (fresh_from 1 keys) s

  abbrev Ends : List WSym → Type 0
  Ends s = (seen : List ℕ) (v : Pairs) (t : List WSym) (m : Pairs) → AreSeen keys codes seen v → Among m (matches (rest s) v t) → AreSeen keys codes (seen_in keys seen s) m

  ends-fixed : (s : List WSym) (seen : List ℕ) (v : Pairs) (t : List WSym) (m : Pairs) (x : WSym) → Ends s → AreSeen keys codes seen v → is_work x ≡ false → Among m (matches (x ∷ rest s) v t) → AreSeen keys codes (seen_in keys seen s) m
  ends-fixed s seen v t m x ih h e a =
      let b = subst (λ (w : Bool). Among m (by_value (λ v u. matches (rest s) v u) x v t (cond w (value_at v x) (Some (x ∷ []))))) e a in
      let r = among_onward (matches (rest s) v) (behind (x ∷ []) t) m b in
      ih seen v r.0 m h r.1

  ends-key : (s : List WSym) (seen : List ℕ) (v : Pairs) (t : List WSym) (m : Pairs) (n k : ℕ) (o : Option ℕ) → Ends s → AreSeen keys codes seen v → place keys n ≡ Some k → place seen n ≡ o → Among m (matches (Work (suc k) ∷ rest s) v t) →
      AreSeen keys codes (seen_in keys (with_variable seen n (Some k) o) s) m
  ends-key s seen v t m n k (Some j) ih h e f a =
      let q : value_at v (Work (suc k)) ≡ Some (value (goals keys codes v) j) = seen-value keys codes seen v n k h e ∙ ap (on (λ j. value (goals keys codes v) j)) f in
      let b = subst (λ (o : Option (List WSym)). Among m (by_value (λ v u. matches (rest s) v u) (Work (suc k)) v t o)) q a in
      let r = among_onward (matches (rest s) v) (behind (value (goals keys codes v) j) t) m b in
      ih seen v r.0 m h r.1
  ends-key s seen v t m n k None ih h e f a =
      let q : value_at v (Work (suc k)) ≡ None = seen-value keys codes seen v n k h e ∙ ap (on (λ j. value (goals keys codes v) j)) f in
      let b = subst (λ (o : Option (List WSym)). Among m (by_value (λ v u. matches (rest s) v u) (Work (suc k)) v t o)) q a in
      let r = among_some_length (λ i. matches (rest s) (v ++ (Work (suc k), take i t) ∷ []) (drop i t)) (length t) m b in
      ih (seen ++ n ∷ []) (v ++ (Work (suc k), take r.0 t) ∷ []) (drop r.0 t) m (seen-push keys codes seen v n k (take r.0 t) h e) r.3

  ends-variable : (s : List WSym) (seen : List ℕ) (v : Pairs) (t : List WSym) (m : Pairs) (n : ℕ) (o : Option ℕ) → Ends s → AreSeen keys codes seen v → place keys n ≡ o → Among m (matches (keyed n o ∷ rest s) v t) →
      AreSeen keys codes (seen_in keys (with_variable seen n o (place seen n)) s) m
  ends-variable s seen v t m n None ih h e a = ends-fixed s seen v t m (Var n) ih h refl a
  ends-variable s seen v t m n (Some k) ih h e a = ends-key s seen v t m n k (place seen n) ih h e refl a

  ends-nil : (seen : List ℕ) (v : Pairs) (t : List WSym) (m : Pairs) → AreSeen keys codes seen v → Among m (matches [] v t) → AreSeen keys codes seen m
  ends-nil seen v [] m h (inl e) = subst (AreSeen keys codes seen) (sym e) h
  ends-nil seen v [] m h (inr k) = absurd k
  ends-nil seen v (c ∷ t) m h k = absurd k

  -- a match has a value for each key that occurs, in order
  pub ends : (s : List WSym) → has_work s ≡ false → Ends s
  ends [] w seen v t m h a = ends-nil seen v t m h (subst (λ (b : List WSym). Among m (matches b v t)) (applied-nil (fresh_from 1 keys)) a)
  ends (Const n ∷ s) w seen v t m h a =
      ends-fixed s seen v t m (Const n) (ends s w) h refl
      (subst (λ (b : List WSym). Among m (matches b v t)) (applied-cons (fresh_from 1 keys) (Const n) s ∙ ap (λ (u : List WSym). u ++ rest s) (ap (or_itself (Const n)) (fresh-constant 1 keys n))) a)
  ends (Var n ∷ s) w seen v t m h a =
      ends-variable s seen v t m n (place keys n) (ends s w) h refl
      (subst (λ (b : List WSym). Among m (matches b v t)) (applied-cons (fresh_from 1 keys) (Var n) s ∙ ap (λ (u : List WSym). u ++ rest s) (fresh-variable keys n (place keys n) refl)) a)
  ends (Work n ∷ s) w seen v t m h a = absurd (cc)
