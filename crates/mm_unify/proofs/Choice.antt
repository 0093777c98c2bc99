-- Exactly one child of a node covers what the node covers.
use Rattle.std.proofs.Common.{◌≡◌, ◌<◌, List, [], ◌∷◌, true, false, cond, length, sym, ap, ◌∙◌, inl, inr, arith}
use Rattle.std.specs.List.{AllByRecursion}
use Rattle.std.proofs.lemmas.Bool.{cond_both, cases_order}
use Rattle.mm_subst.specs.declared.symbol.WSym.{WSym}
use Rattle.mm_subst.specs.Symbols.{is_same, is_work}
use Rattle.mm_subst.specs.Substitutions.{Pairs, value_of, applied}
use Rattle.mm_unify.specs.Search.{child, steps}
use Rattle.mm_subst.proofs.Keys.{is_same-itself, is_same-comm}
use Rattle.mm_unify.proofs.Proper.{value_plain, value_full}
use Rattle.mm_unify.proofs.Lists.{NoneOf, OneOf, longer_front, same_front}
use Rattle.mm_unify.proofs.Cover.{Covers, Determined, covers_back, covers_forth, through_whole, through_longer, alike_heads, whole_tells, longer_tells, determined_child, own_whole, own_longer}

module _ (theta : Pairs) (x y : WSym) (l r : List WSym) (values : Pairs) (differ : is_same x y ≡ false) (det : Determined (record { left = x ∷ l; right = y ∷ r; values = values })) where
  abbrev Here : Type 0
  Here = Covers theta (record { left = x ∷ l; right = y ∷ r; values = values })

  abbrev At : WSym × List WSym → Type 0
  At p = Covers theta (child (x ∷ l) (y ∷ r) values p)

  differ' : is_same y x ≡ false
  differ' = is_same-comm y x ∙ differ

  -- what a child that covers theta says of the two values
  whole_lengths : (h : Here) → is_work x ≡ true → At (x, y ∷ []) → length (value_of h.phi x) ≡ length (value_of h.phi y)
  unfolding covers_back
  whole_lengths h e k =
      let b = covers_back theta (x ∷ l) (y ∷ r) values x y [] e k in
      let a = alike_heads theta x y l r values h b det in
      let t = whole_tells k.phi x y differ in
      ap length (sym a.0 ∙ t ∙ a.1)

  whole_lengths' : (h : Here) → is_work y ≡ true → At (y, x ∷ []) → length (value_of h.phi x) ≡ length (value_of h.phi y)
  unfolding covers_back
  whole_lengths' h e k =
      let b = covers_back theta (x ∷ l) (y ∷ r) values y x [] e k in
      let a = alike_heads theta x y l r values h b det in
      let t = whole_tells k.phi y x differ' in
      ap length (sym a.0 ∙ sym t ∙ a.1)

  longer_lengths : (h : Here) → is_work x ≡ true → At (x, y ∷ x ∷ []) → length (value_of h.phi y) < length (value_of h.phi x)
  unfolding covers_back
  longer_lengths h e k =
      let b = covers_back theta (x ∷ l) (y ∷ r) values x y (x ∷ []) e k in
      let a = alike_heads theta x y l r values h b det in
      let t = longer_tells k.phi x y k.good differ in
      let m = ap length a.0 in
      let n = ap length a.1 in
      omega arith

  longer_lengths' : (h : Here) → is_work y ≡ true → At (y, x ∷ y ∷ []) → length (value_of h.phi x) < length (value_of h.phi y)
  unfolding covers_back
  longer_lengths' h e k =
      let b = covers_back theta (x ∷ l) (y ∷ r) values y x (y ∷ []) e k in
      let a = alike_heads theta x y l r values h b det in
      let t = longer_tells k.phi y x k.good differ' in
      let m = ap length a.0 in
      let n = ap length a.1 in
      omega arith

  -- by the lengths of the two values, the child that covers theta
  at_whole : (h : Here) → length (value_of h.phi x) ≡ length (value_of h.phi y) → At (x, y ∷ [])
  unfolding applied
  at_whole h n =
      let s = same_front (value_of h.phi x) (value_of h.phi y) (applied h.phi l) (applied h.phi r) h.equal n in
      covers_forth theta (x ∷ l) (y ∷ r) values x (y ∷ []) h h.phi h.good (through_whole h.phi x y s)

  at_whole' : (h : Here) → length (value_of h.phi x) ≡ length (value_of h.phi y) → At (y, x ∷ [])
  unfolding applied
  at_whole' h n =
      let s = same_front (value_of h.phi x) (value_of h.phi y) (applied h.phi l) (applied h.phi r) h.equal n in
      covers_forth theta (x ∷ l) (y ∷ r) values y (x ∷ []) h h.phi h.good (through_whole h.phi y x (sym s))

  at_longer : (h : Here) → is_work x ≡ true → length (value_of h.phi y) < length (value_of h.phi x) → At (x, y ∷ x ∷ [])
  unfolding applied
  at_longer h e n =
      let s = longer_front (value_of h.phi x) (value_of h.phi y) (applied h.phi l) (applied h.phi r) h.equal n in
      covers_forth theta (x ∷ l) (y ∷ r) values x (y ∷ x ∷ []) h ((x, s.0) ∷ h.phi) ((e, s.2), h.good) (through_longer h.phi x y s.0 differ s.1)

  at_longer' : (h : Here) → is_work y ≡ true → length (value_of h.phi x) < length (value_of h.phi y) → At (y, x ∷ y ∷ [])
  unfolding applied
  at_longer' h e n =
      let s = longer_front (value_of h.phi y) (value_of h.phi x) (applied h.phi r) (applied h.phi l) (sym h.equal) n in
      covers_forth theta (x ∷ l) (y ∷ r) values y (x ∷ y ∷ []) h ((y, s.0) ∷ h.phi) ((e, s.2), h.good) (through_longer h.phi y x s.0 differ' s.1)

  -- a head that is no work variable has itself as its value
  plain_length : (h : Here) (c : WSym) → is_work c ≡ false → length (value_of h.phi c) ≡ 1
  plain_length h c e = ap length (value_plain h.phi c h.good e)

  one_both : (h : Here) → is_work x ≡ true → is_work y ≡ true → OneOf At ((x, y ∷ []) ∷ (x, y ∷ x ∷ []) ∷ (y, x ∷ y ∷ []) ∷ [])
  one_both h e f = elim (cases_order (length (value_of h.phi x)) (length (value_of h.phi y))) [
    | inl n ↦ inl (at_whole h n, ((λ k. let m = longer_lengths h e k in omega arith), ((λ k. let m = longer_lengths' h f k in omega arith), tt)))
    | inr s ↦ elim s [
      | inl n ↦ inr ((λ k. let m = whole_lengths h e k in omega arith), inr ((λ k. let m = longer_lengths h e k in omega arith), inl (at_longer' h f n, tt)))
      | inr n ↦ inr ((λ k. let m = whole_lengths h e k in omega arith), inl (at_longer h e n, ((λ k. let m = longer_lengths' h f k in omega arith), tt)))
    ]
  ]

  one_left : (h : Here) → is_work x ≡ true → is_work y ≡ false → OneOf At ((x, y ∷ []) ∷ (x, y ∷ x ∷ []) ∷ [])
  one_left h e f =
      let p = plain_length h y f in
      let q = value_full h.phi x h.good in
      elim (cases_order (length (value_of h.phi x)) (length (value_of h.phi y))) [
        | inl n ↦ inl (at_whole h n, ((λ k. let m = longer_lengths h e k in omega arith), tt))
        | inr s ↦ elim s [
          | inl n ↦ absurd (omega arith)
          | inr n ↦ inr ((λ k. let m = whole_lengths h e k in omega arith), inl (at_longer h e n, tt))
        ]
      ]

  one_right : (h : Here) → is_work x ≡ false → is_work y ≡ true → OneOf At ((y, x ∷ []) ∷ (y, x ∷ y ∷ []) ∷ [])
  one_right h e f =
      let p = plain_length h x e in
      let q = value_full h.phi y h.good in
      elim (cases_order (length (value_of h.phi x)) (length (value_of h.phi y))) [
        | inl n ↦ inl (at_whole' h n, ((λ k. let m = longer_lengths' h f k in omega arith), tt))
        | inr s ↦ elim s [
          | inl n ↦ inr ((λ k. let m = whole_lengths' h f k in omega arith), inl (at_longer' h f n, tt))
          | inr n ↦ absurd (omega arith)
        ]
      ]

  clash : Here → is_work x ≡ false → is_work y ≡ false → ⊥
  unfolding applied
  clash h e f =
      let a = value_plain h.phi x h.good e in
      let b = value_plain h.phi y h.good f in
      let s = same_front (value_of h.phi x) (value_of h.phi y) (applied h.phi l) (applied h.phi r) h.equal (ap length a ∙ sym (ap length b)) in
      let k : x ∷ [] ≡ y ∷ [] = sym a ∙ s ∙ b in
      let m : x ≡ y = cc in
      let n = ap (is_same x) m in
      let o = is_same-itself x in
      cc

  -- exactly one child
  pub one_child : Here → OneOf At (steps x y)
  one_child h =
      cond_both (is_work x)
      ((x, y ∷ []) ∷ (x, y ∷ x ∷ []) ∷ cond (is_work y) ((y, x ∷ y ∷ []) ∷ []) [])
      (cond (is_work y) ((y, x ∷ []) ∷ (y, x ∷ y ∷ []) ∷ []) [])
      (λ ps. OneOf At ps)
      (λ e. cond_both (is_work y) ((y, x ∷ y ∷ []) ∷ []) [] (λ ps. OneOf At ((x, y ∷ []) ∷ (x, y ∷ x ∷ []) ∷ ps)) (λ f. one_both h e f) (λ f. one_left h e f))
      (λ e. cond_both (is_work y) ((y, x ∷ []) ∷ (y, x ∷ y ∷ []) ∷ []) [] (λ ps. OneOf At ps) (λ f. one_right h e f) (λ f. absurd (clash h e f)))

  -- of what the node doesn't cover no child covers anything
  pub no_child : (Here → ⊥) → NoneOf At (steps x y)
  no_child n =
      cond_both (is_work x)
      ((x, y ∷ []) ∷ (x, y ∷ x ∷ []) ∷ cond (is_work y) ((y, x ∷ y ∷ []) ∷ []) [])
      (cond (is_work y) ((y, x ∷ []) ∷ (y, x ∷ y ∷ []) ∷ []) [])
      (λ ps. NoneOf At ps)
      (λ e. (
        (λ k. n (covers_back theta (x ∷ l) (y ∷ r) values x y [] e k)),
        (
          (λ k. n (covers_back theta (x ∷ l) (y ∷ r) values x y (x ∷ []) e k)),
          cond_both (is_work y) ((y, x ∷ y ∷ []) ∷ []) [] (λ ps. NoneOf At ps) (λ f. ((λ k. n (covers_back theta (x ∷ l) (y ∷ r) values y x (y ∷ []) f k)), tt)) (λ f. tt),
        ),
      ))
      (λ e. cond_both (is_work y) ((y, x ∷ []) ∷ (y, x ∷ y ∷ []) ∷ []) [] (λ ps. NoneOf At ps)
      (λ f. ((λ k. n (covers_back theta (x ∷ l) (y ∷ r) values y x [] f k)), ((λ k. n (covers_back theta (x ∷ l) (y ∷ r) values y x (y ∷ []) f k)), tt))) (λ f. tt))

  -- the children are determined
  det_whole : is_work x ≡ true → Determined (child (x ∷ l) (y ∷ r) values (x, y ∷ []))
  det_whole e = determined_child (x ∷ l) (y ∷ r) values x y [] e det (λ phi psi g g' a b. own_whole phi psi x y differ b.0)

  det_whole' : is_work y ≡ true → Determined (child (x ∷ l) (y ∷ r) values (y, x ∷ []))
  det_whole' e = determined_child (x ∷ l) (y ∷ r) values y x [] e det (λ phi psi g g' a b. own_whole phi psi y x differ' a.0)

  det_longer : is_work x ≡ true → Determined (child (x ∷ l) (y ∷ r) values (x, y ∷ x ∷ []))
  det_longer e = determined_child (x ∷ l) (y ∷ r) values x y (x ∷ []) e det (λ phi psi g g' a b. own_longer phi psi x y differ a.0 b.0)

  det_longer' : is_work y ≡ true → Determined (child (x ∷ l) (y ∷ r) values (y, x ∷ y ∷ []))
  det_longer' e = determined_child (x ∷ l) (y ∷ r) values y x (y ∷ []) e det (λ phi psi g g' a b. own_longer phi psi y x differ' b.0 a.0)

  pub determined_children : AllByRecursion (λ p. Determined (child (x ∷ l) (y ∷ r) values p)) (steps x y)
  determined_children =
      cond_both (is_work x)
      ((x, y ∷ []) ∷ (x, y ∷ x ∷ []) ∷ cond (is_work y) ((y, x ∷ y ∷ []) ∷ []) [])
      (cond (is_work y) ((y, x ∷ []) ∷ (y, x ∷ y ∷ []) ∷ []) [])
      (λ ps. AllByRecursion (λ p. Determined (child (x ∷ l) (y ∷ r) values p)) ps)
      (λ e. (det_whole e, (det_longer e, cond_both (is_work y) ((y, x ∷ y ∷ []) ∷ []) [] (λ ps. AllByRecursion (λ p. Determined (child (x ∷ l) (y ∷ r) values p)) ps) (λ f. (det_longer' f, tt)) (λ f. tt))))
      (λ e. cond_both (is_work y) ((y, x ∷ []) ∷ (y, x ∷ y ∷ []) ∷ []) [] (λ ps. AllByRecursion (λ p. Determined (child (x ∷ l) (y ∷ r) values p)) ps) (λ f. (det_whole' f, (det_longer' f, tt))) (λ f. tt))
