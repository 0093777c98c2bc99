-- Where the two steps at a work variable part: the values so far, and the variable in which the unifiers differ.
use Rattle.std.proofs.Common.{ℕ, ◌+◌, ◌≡◌, List, [], ◌∷◌, ◌++◌, true, false, map, length, refl, sym, ap, ◌∙◌, subst, inl, inr, ◌⊎◌, arith, append_assoc, length-append}
use Rattle.std.specs.List.{AllByRecursion}
use Rattle.mm_subst.specs.declared.symbol.WSym.{WSym}
use Rattle.mm_subst.specs.declared.symbol.WSym.TheVariants.{Work}
use Rattle.mm_subst.specs.Symbols.{is_same, is_work}
use Rattle.mm_subst.specs.Substitutions.{Pairs, value_of, applied, with_values}
use Rattle.mm_subst.proofs.Keys.{is_same-itself}
use Rattle.mm_subst.proofs.Replaced.{applied-nil, applied-cons, applied-append, applied-one, length-applied-cons}
use Rattle.mm_unify.specs.Ordering.{IsBefore}
use Rattle.mm_unify.proofs.Mapping.{behind, applied-behind, cases_same, value_first, value_later}
use Rattle.mm_unify.proofs.Proper.{Good, value_plain, full_after, good_behind}
use Rattle.mm_unify.proofs.Lists.{AllByRecursion-append}
use Rattle.mm_unify.proofs.Cover.{value_own}
use Rattle.mm_unify.proofs.Root.{Numbered}
use Rattle.mm_unify.proofs.Balanced.{Plain, plain_right, plain_apply, step_plain}
use Rattle.mm_unify.proofs.Sound.{keys, stepped_apply}

-- a value so far: it has no work variable, or the variable itself comes last and no other one
abbrev pub IsSoFar : WSym → List WSym → Type 0
IsSoFar c s = Plain s ⊎ ((w : List WSym) × (is_work c ≡ true) × Plain w × (s ≡ w ++ c ∷ []))

-- the part without work variables before the first one
front_rest : (p front rest t : List WSym) (x : WSym) → is_work x ≡ true → Plain p → p ++ t ≡ front ++ x ∷ rest → (q : List WSym) × (front ≡ p ++ q) × (t ≡ q ++ x ∷ rest)
front_rest [] front rest t x w h e = (front, refl, e)
front_rest (c ∷ p) [] rest t x w h e = let k : c ≡ x = cc in let f = ap is_work k in let g = h.0 in absurd cc
front_rest (c ∷ p) (d ∷ front) rest t x w h e =
    let k : c ≡ d = cc in
    let e' : p ++ t ≡ front ++ x ∷ rest = cc in
    let i = front_rest p front rest t x w h.1 e' in
    let f = i.1 in
    (i.0, cc, i.2)

first_work : (w front t rest : List WSym) (c x : WSym) → is_work c ≡ true → is_work x ≡ true → Plain w → Plain front → w ++ c ∷ t ≡ front ++ x ∷ rest → c ≡ x
first_work [] [] t rest c x h k p q e = cc
first_work [] (d ∷ front) t rest c x h k p q e = let l : c ≡ d = cc in let f = ap is_work l in let g = q.0 in cc
first_work (d ∷ w) [] t rest c x h k p q e = let l : d ≡ x = cc in let f = ap is_work l in let g = p.0 in cc
first_work (d ∷ w) (d' ∷ front) t rest c x h k p q e = first_work w front t rest c x h k p.1 q.1 cc

-- the values after a step
value_step : (p : WSym × List WSym) (values : Pairs) (ms : List ℕ) → is_work p.0 ≡ true → keys values ≡ map Work ms → (c : WSym) → Numbered ms (c ∷ []) →
    value_of (with_values (p ∷ []) values) c ≡ applied (p ∷ []) (value_of values c)
value_step p values ms w k c n =
    sym (applied-one (with_values (p ∷ []) values) c) ∙ stepped_apply p values ms w k (c ∷ []) n ∙ ap (applied (p ∷ [])) (applied-one values c)

abbrev pub Through : List WSym → Pairs → Pairs → Pairs → Type 0
Through s values phi u = AllByRecursion (λ c. value_of u c ≡ applied phi (value_of values c)) s

pub through_step : (p : WSym × List WSym) (values phi u : Pairs) (ms : List ℕ) → is_work p.0 ≡ true → keys values ≡ map Work ms → (s : List WSym) → Numbered ms s →
    Through s (with_values (p ∷ []) values) phi u → Through s values (behind phi p.0 p.1) u
through_step p values phi u ms w k [] n h = tt
through_step p values phi u ms w k (c ∷ s) n h = (
  h.0 ∙ ap (applied phi) (value_step p values ms w k c (n.0, tt)) ∙ applied-behind phi p.0 p.1 (value_of values c),
  through_step p values phi u ms w k s n.1 h.1,
)

-- the steps at a work variable x and another symbol y: x := y and x := y x
module _ (x y : WSym) (work : is_work x ≡ true) (fixed : is_work y ≡ false) where
  abbrev pub step : List WSym → Pairs
  step t = (x, y ∷ t) ∷ []

  so_far_at : (t : List WSym) → (t ≡ []) ⊎ (t ≡ x ∷ []) → (c : WSym) (s : List WSym) → IsSoFar c s → IsSoFar c (applied (step t) s)
  so_far_at t f c s (inl p) = inl (subst Plain (sym (plain_apply (step t) s (step_plain (x, y ∷ t) work) p)) p)
  so_far_at t f c s (inr q) =
      let whole : applied (step t) s ≡ q.0 ++ value_of (step t) c =
      ap (applied (step t)) q.3
      ∙ applied-append (step t) q.0 (c ∷ [])
      ∙ ap (λ z. z ++ applied (step t) (c ∷ [])) (plain_apply (step t) q.0 (step_plain (x, y ∷ t) work) q.2)
      ∙ ap (λ z. q.0 ++ z) (applied-one (step t) c) in
      let one : Plain (q.0 ++ y ∷ []) = AllByRecursion-append (λ d. is_work d ≡ false) q.0 (y ∷ []) q.2 (fixed, tt) in
      subst (IsSoFar c) (sym whole) (elim (cases_same x c) [
        | inl e ↦
            let own : value_of (step t) c ≡ y ∷ t = value_first (x, y ∷ t) [] c (subst (λ (d : WSym). is_same x d ≡ true) e (is_same-itself x)) in
            subst (λ z. IsSoFar c (q.0 ++ z)) (sym own) (elim f [
              | inl n ↦ inl (subst (λ z. Plain (q.0 ++ y ∷ z)) (sym n) one)
              | inr n ↦ inr (q.0 ++ y ∷ [], q.1, one, ap (λ z. q.0 ++ y ∷ z) (n ∙ ap (λ d. d ∷ []) e) ∙ sym (append_assoc q.0 (y ∷ []) (c ∷ [])))
            ])
        | inr e ↦ subst (λ z. IsSoFar c (q.0 ++ z)) (sym (value_later (x, y ∷ t) [] c e)) (inr (q.0, q.1, q.2, refl))
      ])

  pub so_far_step : (values : Pairs) (ms : List ℕ) (t : List WSym) → (t ≡ []) ⊎ (t ≡ x ∷ []) → keys values ≡ map Work ms → (s : List WSym) → Numbered ms s →
      AllByRecursion (λ c. IsSoFar c (value_of values c)) s → AllByRecursion (λ c. IsSoFar c (value_of (with_values (step t) values) c)) s
  so_far_step values ms t f k [] n h = tt
  so_far_step values ms t f k (c ∷ s) n h = (
    subst (IsSoFar c) (sym (value_step (x, y ∷ t) values ms work k c (n.0, tt))) (so_far_at t f c (value_of values c) h.0),
    so_far_step values ms t f k s n.1 h.1,
  )

  kept : (phi : Pairs) → Good phi → (t s : List WSym) → Plain s → applied (behind phi x (y ∷ t)) s ≡ s
  kept phi g t s p = plain_apply (behind phi x (y ∷ t)) s (λ d e. value_plain (behind phi x (y ∷ t)) d (good_behind phi x y t g work) e) p

  -- how long the value of x gets
  length_at : (phi : Pairs) → Good phi → (t w : List WSym) → Plain w → (c : WSym) → c ≡ x → length (applied (behind phi x (y ∷ t)) (w ++ c ∷ [])) ≡ length w + 1 + length (applied phi t)
  length_at phi g t w p c e =
      let a : applied (behind phi x (y ∷ t)) (w ++ c ∷ []) ≡ w ++ applied phi (y ∷ t) =
      applied-append (behind phi x (y ∷ t)) w (c ∷ [])
      ∙ ap (λ z. z ++ applied (behind phi x (y ∷ t)) (c ∷ [])) (kept phi g t w p)
      ∙ ap (λ z. w ++ z) (applied-one (behind phi x (y ∷ t)) c ∙ ap (value_of (behind phi x (y ∷ t))) e ∙ value_own phi x (y ∷ t)) in
      let b = ap length a in
      let l = ap length (value_plain phi y g fixed) in
      let m = length-applied-cons phi y t in
      let n = length-append w (applied phi (y ∷ t)) in
      omega arith

  none : (front rest : List WSym) → [] ≡ front ++ x ∷ rest → ⊥
  none [] rest e = cc
  none (c ∷ front) rest e = cc

  pub apart : (values u v phi psi : Pairs) → Good phi → Good psi → (s front rest : List WSym) → Plain front → applied values s ≡ front ++ x ∷ rest → AllByRecursion (λ c. IsSoFar c (value_of values c)) s →
      Through s values (behind phi x (y ∷ [])) u → Through s values (behind psi x (y ∷ x ∷ [])) v → IsBefore s u v
  apart values u v phi psi g h [] front rest p e f i j = absurd (none front rest (sym (applied-nil values) ∙ e))
  apart values u v phi psi g h (c ∷ s) front rest p e f i j =
      let e' : value_of values c ++ applied values s ≡ front ++ x ∷ rest = sym (applied-cons values c s) ∙ e in
      elim f.0 [
        | inl q ↦
            let r = front_rest (value_of values c) front rest (applied values s) x work q e' in
            inr (i.0 ∙ kept phi g [] (value_of values c) q ∙ sym (j.0 ∙ kept psi h (x ∷ []) (value_of values c) q), apart values u v phi psi g h s r.0 rest (plain_right (value_of values c) r.0 (subst Plain r.1 p)) r.2 f.1 i.1 j.1)
        | inr q ↦
            let k : c ≡ x = first_work q.0 front (applied values s) rest c x q.1 work q.2 p (sym (append_assoc q.0 (c ∷ []) (applied values s)) ∙ ap (λ z. z ++ applied values s) (sym q.3) ∙ e') in
            let l = ap length (i.0 ∙ ap (applied (behind phi x (y ∷ []))) q.3) in
            let m = ap length (j.0 ∙ ap (applied (behind psi x (y ∷ x ∷ []))) q.3) in
            let l' = length_at phi g [] q.0 q.2 c k in
            let m' = length_at psi h (x ∷ []) q.0 q.2 c k in
            let o = ap length (applied-nil phi) in
            let z = full_after psi x [] h in
            inl (omega arith)
      ]
