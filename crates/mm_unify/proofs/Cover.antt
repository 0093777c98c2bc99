-- What a node covers: the substitutions that go through its values and make what is left equal.
use Rattle.std.proofs.Common.{◌≡◌, ◌<◌, List, [], ◌∷◌, ◌++◌, true, false, length, refl, sym, ap, ◌∙◌, arith, length-append}
use Rattle.std.specs.List.{AllByRecursion}
use Rattle.std.proofs.lemmas.List.{append-nil, append_cancel_left}
use Rattle.mm_subst.specs.declared.symbol.WSym.{WSym}
use Rattle.mm_subst.specs.Symbols.{is_same, is_work}
use Rattle.mm_subst.specs.Substitutions.{Pairs, value_of, applied, with_values}
use Rattle.mm_unify.specs.Search.{Node, child}
use Rattle.mm_subst.proofs.Keys.{is_same-true, is_same-itself}
use Rattle.mm_subst.proofs.Replaced.{applied-one}
use Rattle.mm_unify.proofs.Mapping.{behind, applied-behind, applied_everywhere, value_cases, value_first, value_later}
use Rattle.mm_unify.proofs.Proper.{Good, good_behind, full_after}
use Rattle.mm_unify.proofs.Lists.{AllByRecursion-append}

-- theta is phi after the values
abbrev pub Agrees : Pairs → Pairs → Pairs → Type 0
Agrees theta phi values = AllByRecursion (λ q. value_of theta q.0 ≡ applied phi q.1) values

pub record Covers (theta : Pairs) (node : Node) : Type 0 where
  pub phi : Pairs
  pub good : Good phi
  pub equal : applied phi node.left ≡ applied phi node.right
  pub agrees : Agrees theta phi node.values

-- two substitutions with one effect on the values have one effect on what is left
abbrev pub Alike : Pairs → Pairs → List WSym → Type 0
Alike phi psi s = AllByRecursion (λ c. value_of phi c ≡ value_of psi c) s

abbrev pub AlikeOn : Pairs → Pairs → Pairs → Type 0
AlikeOn phi psi values = AllByRecursion (λ q. applied phi q.1 ≡ applied psi q.1) values

abbrev pub Determined : Node → Type 0
Determined node = (phi psi : Pairs) → Good phi → Good psi → AlikeOn phi psi node.values → Alike phi psi node.left × Alike phi psi node.right

-- the value of the step's own variable, and of the others
pub value_own : (phi : Pairs) (u : WSym) (w : List WSym) → value_of (behind phi u w) u ≡ applied phi w
value_own phi u w = value_first (u, applied phi w) phi u (is_same-itself u)

pub value_other : (phi : Pairs) (u : WSym) (w : List WSym) (c : WSym) → is_same u c ≡ false → value_of (behind phi u w) c ≡ value_of phi c
value_other phi u w c e = value_later (u, applied phi w) phi c e

pub agrees_back : (theta psi : Pairs) (u : WSym) (w : List WSym) (values : Pairs) → Agrees theta psi (with_values ((u, w) ∷ []) values) → Agrees theta (behind psi u w) values
agrees_back theta psi u w [] h = tt
agrees_back theta psi u w (q ∷ values) h = (h.0 ∙ applied-behind psi u w q.1, agrees_back theta psi u w values h.1)

agrees_forth : (theta phi psi : Pairs) (u : WSym) (w : List WSym) (values : Pairs) → ((c : WSym) → value_of (behind psi u w) c ≡ value_of phi c) → Agrees theta phi values → Agrees theta psi (with_values ((u, w) ∷ []) values)
agrees_forth theta phi psi u w [] f h = tt
agrees_forth theta phi psi u w (q ∷ values) f h =
    (h.0 ∙ sym (applied_everywhere (behind psi u w) phi q.1 f) ∙ sym (applied-behind psi u w q.1), agrees_forth theta phi psi u w values f h.1)

alike_back : (phi psi : Pairs) (u : WSym) (w : List WSym) (values : Pairs) → AlikeOn phi psi (with_values ((u, w) ∷ []) values) → AlikeOn (behind phi u w) (behind psi u w) values
alike_back phi psi u w [] h = tt
alike_back phi psi u w (q ∷ values) h =
    (sym (applied-behind phi u w q.1) ∙ h.0 ∙ applied-behind psi u w q.1, alike_back phi psi u w values h.1)

-- what a child covers its parent covers
unfoldable pub covers_back : (theta : Pairs) (l r : List WSym) (values : Pairs) (u c : WSym) (w : List WSym) → is_work u ≡ true →
    Covers theta (child l r values (u, c ∷ w)) → Covers theta (record { left = l; right = r; values = values })
covers_back theta l r values u c w e h = record {
  phi = behind h.phi u (c ∷ w);
  good = good_behind h.phi u c w h.good e;
  equal = sym (applied-behind h.phi u (c ∷ w) l) ∙ h.equal ∙ applied-behind h.phi u (c ∷ w) r;
  agrees = agrees_back theta h.phi u (c ∷ w) values h.agrees;
}

-- a substitution that goes through the step is covered by the child
pub covers_forth : (theta : Pairs) (l r : List WSym) (values : Pairs) (u : WSym) (w : List WSym) (h : Covers theta (record { left = l; right = r; values = values }))
    (psi : Pairs) → Good psi → ((c : WSym) → value_of (behind psi u w) c ≡ value_of h.phi c) → Covers theta (child l r values (u, w))
covers_forth theta l r values u w h psi g f = record {
  phi = psi;
  good = g;
  equal = applied-behind psi u w l ∙ applied_everywhere (behind psi u w) h.phi l f ∙ h.equal ∙ sym (applied_everywhere (behind psi u w) h.phi r f) ∙ sym (applied-behind psi u w r);
  agrees = agrees_forth theta h.phi psi u w values f h.agrees;
}

-- phi goes through u := v where it gives both one value
pub through_whole : (phi : Pairs) (u v : WSym) → value_of phi u ≡ value_of phi v → (c : WSym) → value_of (behind phi u (v ∷ [])) c ≡ value_of phi c
through_whole phi u v e c =
    value_cases (u, applied phi (v ∷ [])) phi c (λ t. t ≡ value_of phi c)
    (λ s. applied-one phi v ∙ sym e ∙ ap (value_of phi) (is_same-true u c s))
    (λ s. refl)

-- phi goes through u := v u where its value of u begins with that of v
pub through_longer : (phi : Pairs) (u v : WSym) (w : List WSym) → is_same u v ≡ false → value_of phi u ≡ value_of phi v ++ w → (c : WSym) → value_of (behind ((u, w) ∷ phi) u (v ∷ u ∷ [])) c ≡ value_of phi c
unfolding applied
through_longer phi u v w d e c =
    let own : value_of ((u, w) ∷ phi) u ≡ w = value_first (u, w) phi u (is_same-itself u) in
    let other : value_of ((u, w) ∷ phi) v ≡ value_of phi v = value_later (u, w) phi v d in
    value_cases (u, applied ((u, w) ∷ phi) (v ∷ u ∷ [])) ((u, w) ∷ phi) c (λ t. t ≡ value_of phi c)
    (λ s. let k = append-nil (value_of ((u, w) ∷ phi) u) in let m = ap (value_of phi) (is_same-true u c s) in cc)
    (λ s. value_later (u, w) phi c s)

-- whatever covers the node has one value at each symbol that is left
pub alike_heads : (theta : Pairs) (x y : WSym) (l r : List WSym) (values : Pairs) (h k : Covers theta (record { left = x ∷ l; right = y ∷ r; values = values })) →
    Determined (record { left = x ∷ l; right = y ∷ r; values = values }) → (value_of k.phi x ≡ value_of h.phi x) × (value_of k.phi y ≡ value_of h.phi y)
alike_heads theta x y l r values h k det = (d.0.0, d.1.0)
  where
    both : (vs : Pairs) → Agrees theta h.phi vs → Agrees theta k.phi vs → AlikeOn k.phi h.phi vs
    both [] a b = tt
    both (q ∷ vs) a b = (sym b.0 ∙ a.0, both vs a.1 b.1)

    d : Alike k.phi h.phi (x ∷ l) × Alike k.phi h.phi (y ∷ r)
    d = det k.phi h.phi k.good h.good (both values h.agrees k.agrees)

-- what a step says of the two values
pub whole_tells : (psi : Pairs) (u v : WSym) → is_same u v ≡ false → value_of (behind psi u (v ∷ [])) u ≡ value_of (behind psi u (v ∷ [])) v
whole_tells psi u v d = value_own psi u (v ∷ []) ∙ applied-one psi v ∙ sym (value_other psi u (v ∷ []) v d)

pub longer_tells : (psi : Pairs) (u v : WSym) → Good psi → is_same u v ≡ false → length (value_of (behind psi u (v ∷ u ∷ [])) v) < length (value_of (behind psi u (v ∷ u ∷ [])) u)
unfolding applied
longer_tells psi u v g d =
    let a = ap length (value_own psi u (v ∷ u ∷ [])) in
    let b = ap length (value_other psi u (v ∷ u ∷ []) v d) in
    let f = full_after psi u [] g in
    omega (arith, length-append (value_of psi v) (applied psi (u ∷ [])))

-- a child's strings are determined too
alike_step : (phi psi : Pairs) (u : WSym) (w : List WSym) → Alike phi psi w → (s : List WSym) → Alike (behind phi u w) (behind psi u w) s → Alike phi psi (applied ((u, w) ∷ []) s)
unfolding applied
alike_step phi psi u w h [] k = tt
alike_step phi psi u w h (c ∷ s) k =
    AllByRecursion-append (λ c. value_of phi c ≡ value_of psi c) (value_of ((u, w) ∷ []) c) (applied ((u, w) ∷ []) s)
    (value_cases (u, w) [] c (λ t. Alike phi psi t) (λ e. h) (λ e. (sym (value_other phi u w c e) ∙ k.0 ∙ value_other psi u w c e, tt)))
    (alike_step phi psi u w h s k.1)

pub determined_child : (l r : List WSym) (values : Pairs) (u c : WSym) (w : List WSym) → is_work u ≡ true →
    Determined (record { left = l; right = r; values = values }) →
    ((phi psi : Pairs) → Good phi → Good psi → Alike (behind phi u (c ∷ w)) (behind psi u (c ∷ w)) l → Alike (behind phi u (c ∷ w)) (behind psi u (c ∷ w)) r → Alike phi psi (c ∷ w)) →
    Determined (child l r values (u, c ∷ w))
determined_child l r values u c w e det own phi psi g g' h =
    let d = det (behind phi u (c ∷ w)) (behind psi u (c ∷ w)) (good_behind phi u c w g e) (good_behind psi u c w g' e) (alike_back phi psi u (c ∷ w) values h) in
    let o = own phi psi g g' d.0 d.1 in
    (alike_step phi psi u (c ∷ w) o l d.0, alike_step phi psi u (c ∷ w) o r d.1)

pub own_whole : (phi psi : Pairs) (u v : WSym) → is_same u v ≡ false → value_of (behind phi u (v ∷ [])) v ≡ value_of (behind psi u (v ∷ [])) v → Alike phi psi (v ∷ [])
own_whole phi psi u v d e = (sym (value_other phi u (v ∷ []) v d) ∙ e ∙ value_other psi u (v ∷ []) v d, tt)

pub own_longer : (phi psi : Pairs) (u v : WSym) → is_same u v ≡ false →
    value_of (behind phi u (v ∷ u ∷ [])) u ≡ value_of (behind psi u (v ∷ u ∷ [])) u →
    value_of (behind phi u (v ∷ u ∷ [])) v ≡ value_of (behind psi u (v ∷ u ∷ [])) v → Alike phi psi (v ∷ u ∷ [])
unfolding applied
own_longer phi psi u v d e f =
    let k : value_of phi v ≡ value_of psi v = sym (value_other phi u (v ∷ u ∷ []) v d) ∙ f ∙ value_other psi u (v ∷ u ∷ []) v d in
    let m : value_of phi v ++ applied phi (u ∷ []) ≡ value_of psi v ++ applied psi (u ∷ []) = sym (value_own phi u (v ∷ u ∷ [])) ∙ e ∙ value_own psi u (v ∷ u ∷ []) in
    let n : value_of psi v ++ applied phi (u ∷ []) ≡ value_of psi v ++ applied psi (u ∷ []) = cc in
    let o = append_cancel_left (value_of psi v) (applied phi (u ∷ [])) (applied psi (u ∷ [])) n in
    (k, (sym (applied-one phi u) ∙ o ∙ applied-one psi u, tt))
