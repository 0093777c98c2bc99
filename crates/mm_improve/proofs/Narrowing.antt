-- A narrow grammar has the same chosen proofs of what leads to its goals.
use Rattle.std.proofs.Common.{◌≡◌, ℕ, zero, suc, ◌<◌, List, [], ◌∷◌, ◌++◌, Option, None, Some, Bool, true, false, cond, ◌||◌, ◌&&◌, filter, refl, sym, ◌∙◌, ap, inl, inr, subst, map}
use Rattle.std.specs.List.{flat_map, list_all, list_any, AllByRecursion}
use Rattle.std.proofs.lemmas.Bool.{cases_Bool, false≢true}
use Rattle.mm_subst.specs.declared.symbol.WSym.{WSym}
use Rattle.mm_subst.specs.Symbols.{is_same}
use Rattle.mm_subst.proofs.Keys.{is_same-true}
use Rattle.mm_unify.proofs.Sorted.{Among}
use Rattle.mm_chart.specs.Options.{is_there, or_else, on, first}
use Rattle.mm_chart.specs.Items.{Goal, Grammar, Assertion, Use, Chosen, by_use, chosen, fits, may_lead, matches, part_codes, serves, uses, uses_of}
use Rattle.mm_improve.specs.Narrow.{IsEnough, narrowed}
use Rattle.mm_improve.proofs.Leading.{AreOf, used}
use Rattle.mm_improve.proofs.Ranking.{among_flat}
use Rattle.mm_chart.proofs.Ranks.{chosen-zero, chosen-suc}

first_same : {X : Type 0} (p q : X → Bool) (xs : List X) → ((x : X) → Among x xs → p x ≡ q x) → first p xs ≡ first q xs
first_same p q [] h = refl
first_same p q (x ∷ xs) h = ap (λ (b : Bool). cond b (Some x) (first p xs)) (h x (inl refl)) ∙ ap (λ (o : Option _). cond (q x) (Some x) o) (first_same p q xs (λ y a. h y (inr a)))

any_among : (x : WSym) (cs : List WSym) → list_any (is_same x) cs ≡ true → Among x cs
any_among x [] h = absurd (false≢true h)
any_among x (c ∷ cs) h = by (is_same x c) refl h (λ k. any_among x cs k)
  where
    by : (b : Bool) → is_same x c ≡ b → (b || list_any (is_same x) cs) ≡ true → (list_any (is_same x) cs ≡ true → Among x cs) → Among x (c ∷ cs)
    by true e k ih = inl (is_same-true x c e)
    by false e k ih = inr (ih k)

module _ (G : Grammar) (p : WSym → Bool) (closed : (x : WSym) → Among x (part_codes G) → p x ≡ true) where
  abbrev N : Grammar
  N = narrowed p G

  uses_none : (g : Goal) (a : Assertion) → p g.0 ≡ true → p a.code ≡ false → uses_of G g a ≡ []
  uses_none g a h k = by (is_same a.code g.0) refl
    where
      by : (b : Bool) → is_same a.code g.0 ≡ b → cond {A = List Use} b (map {B = Use} (λ v. (a.id, v)) (matches (fits G a.apart) a.items [] g.1)) [] ≡ []
      by true e = absurd (false≢true (sym k ∙ ap p (is_same-true a.code g.0 e) ∙ h))
      by false e = refl

  uses_in : (g : Goal) → p g.0 ≡ true → (xs : List Assertion) → flat_map (uses_of G g) (filter (λ a. p a.code) xs) ≡ flat_map (uses_of G g) xs
  uses_in g h [] = refl
  uses_in g h (a ∷ xs) = elim (cases_Bool (p a.code)) [
    | inl e ↦ ap (λ (b : Bool). flat_map (uses_of G g) (cond b (a ∷ filter (λ a. p a.code) xs) (filter (λ a. p a.code) xs))) e ∙ ap (λ us. uses_of G g a ++ us) (uses_in g h xs)
    | inr e ↦ ap (λ (b : Bool). flat_map (uses_of G g) (cond b (a ∷ filter (λ a. p a.code) xs) (filter (λ a. p a.code) xs))) e ∙ uses_in g h xs ∙ sym (ap (λ us. us ++ flat_map (uses_of G g) xs) (uses_none g a h e))
  ]

  served : (r : ℕ) (q : (g : Goal) → p g.0 ≡ true → chosen N r g ≡ chosen G r g) (v : List Goal) → AreOf (part_codes G) v → list_all (λ g. is_there (chosen N r g)) v ≡ list_all (λ g. is_there (chosen G r g)) v
  served r q [] h = refl
  served r q (g ∷ v) h = ap (λ (o : Option Chosen). is_there o && list_all (λ g. is_there (chosen N r g)) v) (q g (closed g.0 h.0)) ∙ ap (λ (b : Bool). is_there (chosen G r g) && b) (served r q v h.1)

  pub narrow : (r : ℕ) (g : Goal) → p g.0 ≡ true → chosen N r g ≡ chosen G r g
  narrow zero g h = chosen-zero N g ∙ sym (chosen-zero G g)
  narrow (suc r) g h =
      let pick : first (serves (chosen N r)) (uses N g) ≡ first (serves (chosen G r)) (uses G g) =
      ap (first (serves (chosen N r))) (uses_in g h G.assertions)
      ∙ first_same (serves (chosen N r)) (serves (chosen G r)) (uses G g) (λ u a. let x = among_flat (uses_of G g) G.assertions u a in served r (λ g h. narrow r g h) u.1 (used G g x.0 u x.1 x.2)) in
      chosen-suc N r g
      ∙ ap (λ (o : Option Chosen). or_else o (on (by_use (suc r)) (first (serves (chosen N r)) (uses N g)))) (narrow r g h)
      ∙ ap (λ o. or_else (chosen G r g) (on (by_use (suc r)) o)) pick
      ∙ sym (chosen-suc G r g)

  pub is_enough : (code : WSym) → p code ≡ true → IsEnough G code N
  is_enough code h r g k = narrow r g (by (is_same g.0 code) refl k)
    where
      by : (b : Bool) → is_same g.0 code ≡ b → (b || list_any (is_same g.0) (part_codes G)) ≡ true → p g.0 ≡ true
      by true e k = ap p (is_same-true g.0 code e) ∙ h
      by false e k = closed g.0 (any_among g.0 (part_codes G) k)
