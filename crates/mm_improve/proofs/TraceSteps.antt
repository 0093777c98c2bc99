-- The steps of the parts that are left, and those that are done.
use Rattle.std.proofs.Common.{◌≡◌, ◌≤◌, ◌<◌, ◌+◌, ℕ, suc, List, [], ◌∷◌, ◌++◌, map, length, refl, sym, ◌∙◌, ap, arith, subst, append_assoc, append-nil, length-append}
use Rattle.std.specs.Prelude.{reverse}
use Rattle.std.specs.List.{flat_map, AllByRecursion, sum_by}
use Rattle.std.proofs.lemmas.List.{reverse-append, map-append, length-reverse, length-map}
use Rattle.std.proofs.lemmas.List.Concat.{flat_map-cons}
use Rattle.mm_subst.specs.declared.symbol.WSym.{WSym}
use Rattle.mm_plain.specs.declared.plain.Plain.{Plain}
use Rattle.mm_plain.specs.Shape.{known, steps_of, size_of}
use Rattle.mm_plain.proofs.Equations.{steps_of-known, length-steps_of, size_of-pos, flat_map-map}
use Rattle.mm_chart.specs.declared.table.Part.{Part}
use Rattle.mm_improve.specs.Assertions.{Terms}
use Rattle.mm_improve.specs.Traces.{string_of, tree_at, IsRanked, IsOver}

flat_map-append : {X Y : Type 0} (f : X → List Y) (xs ys : List X) → flat_map f (xs ++ ys) ≡ flat_map f xs ++ flat_map f ys
flat_map-append f [] ys = refl
flat_map-append f (x ∷ xs) ys = flat_map-cons f x (xs ++ ys) ∙ ap (λ zs. f x ++ zs) (flat_map-append f xs ys) ∙ sym (append_assoc (f x) (flat_map f xs) (flat_map f ys)) ∙ sym (ap (λ zs. zs ++ flat_map f ys) (flat_map-cons f x xs))

reverse-more : {X : Type 0} (xs : List X) (x : X) → reverse (xs ++ x ∷ []) ≡ x ∷ reverse xs
reverse-more xs x = reverse-append xs (x ∷ [])

module _ (c : Terms) (r : ℕ) (goal : WSym) (t : List WSym) where
  abbrev T : Part → Plain
  T = tree_at c r t

  abbrev steps : Part → List Plain
  steps p = steps_of (T p)

  -- the steps of the parts on the stack, and then those that are done
  pub record AreLeft (whole : Part) (stack done : List Part) : Type 0 where
    pub ranked : AllByRecursion (IsRanked c r goal t) stack
    pub steps_are : flat_map (λ p. steps_of (tree_at c r t p)) stack ++ reverse (map (tree_at c r t) done) ≡ steps_of (tree_at c r t whole)

  pub begun : (whole : Part) → IsRanked c r goal t whole → AreLeft whole (whole ∷ []) []
  begun whole h = record { ranked = (h, tt); steps_are = append-nil (flat_map steps (whole ∷ [])) ∙ flat_map-cons steps whole [] ∙ append-nil (steps whole) }

  split_all : (P : Part → Type 0) (xs : List Part) (x : Part) → AllByRecursion P (xs ++ x ∷ []) → AllByRecursion P xs × P x
  split_all P [] x h = (tt, h.0)
  split_all P (y ∷ xs) x h = let w = split_all P xs x h.1 in ((h.0, w.0), w.1)

  join_all : (P : Part → Type 0) (xs ys : List Part) → AllByRecursion P xs → AllByRecursion P ys → AllByRecursion P (xs ++ ys)
  join_all P [] ys h k = k
  join_all P (x ∷ xs) ys h k = (h.0, join_all P xs ys h.1 k)

  pub last_ranked : (whole : Part) (rest : List Part) (p : Part) (done : List Part) → AreLeft whole (rest ++ p ∷ []) done → IsRanked c r goal t p
  last_ranked whole rest p done h = (split_all (IsRanked c r goal t) rest p h.ranked).1

  pub one_more : (whole : Part) (rest : List Part) (p : Part) (done new : List Part) → AreLeft whole (rest ++ p ∷ []) done → IsOver c r goal t p rest new → AreLeft whole new (done ++ p ∷ [])
  one_more whole rest p done new h o =
      let kids = o.kids in
      let w = split_all (IsRanked c r goal t) rest p h.ranked in
      let back = reverse (map T done) in
      let own : steps p ≡ flat_map steps kids ++ T p ∷ [] =
      ap steps_of o.is ∙ steps_of-known (string_of t p) o.id o.sigma (map T kids) ∙ ap (λ xs. xs ++ known (string_of t p) o.id o.sigma (map T kids) ∷ []) (flat_map-map steps_of T kids) ∙ ap (λ x. flat_map steps kids ++ x ∷ []) (sym o.is) in
      let old : flat_map steps (rest ++ p ∷ []) ≡ flat_map steps rest ++ (flat_map steps kids ++ T p ∷ []) =
      flat_map-append steps rest (p ∷ []) ∙ ap (λ xs. flat_map steps rest ++ xs) (flat_map-cons steps p [] ∙ append-nil (steps p) ∙ own) in
      let now : reverse (map T (done ++ p ∷ [])) ≡ T p ∷ back = ap reverse (map-append T done (p ∷ [])) ∙ reverse-more (map T done) (T p) in
      record {
        ranked = subst (AllByRecursion (IsRanked c r goal t)) (sym o.added) (join_all (IsRanked c r goal t) rest kids w.0 o.ranked);
        steps_are = ap (λ xs. flat_map steps xs ++ reverse (map T (done ++ p ∷ []))) o.added
            ∙ ap (λ ys. flat_map steps (rest ++ kids) ++ ys) now
            ∙ ap (λ xs. xs ++ T p ∷ back) (flat_map-append steps rest kids)
            ∙ append_assoc (flat_map steps rest) (flat_map steps kids) (T p ∷ back)
            ∙ ap (λ xs. flat_map steps rest ++ xs) (sym (append_assoc (flat_map steps kids) (T p ∷ []) back))
            ∙ sym (append_assoc (flat_map steps rest) (flat_map steps kids ++ T p ∷ []) back)
            ∙ ap (λ xs. xs ++ back) (sym old)
            ∙ h.steps_are;
      }

  pub at_end : (whole : Part) (stack done : List Part) → stack ≡ [] → AreLeft whole stack done → reverse (map (tree_at c r t) done) ≡ steps_of (tree_at c r t whole)
  at_end whole stack done e h = sym (ap (λ xs. flat_map steps xs ++ reverse (map T done)) e) ∙ h.steps_are

  some_steps : (stack : List Part) → 0 < length stack → 1 ≤ length (flat_map steps stack)
  some_steps [] h = absurd (omega arith)
  some_steps (p ∷ stack) h =
      let a = size_of-pos (T p) in
      let b = length-steps_of (T p) in
      let d = length-append (steps p) (flat_map steps stack) in
      let e = ap length (flat_map-cons steps p stack) in
      omega (arith, a, b, d, e)

  pub too_many : (whole : Part) (stack done : List Part) (n : ℕ) → 0 < length stack → length done ≡ n → AreLeft whole stack done → n < size_of (tree_at c r t whole)
  too_many whole stack done n some e h =
      let a = some_steps stack some in
      let b = length-append (flat_map steps stack) (reverse (map T done)) in
      let d = length-reverse (map T done) in
      let f = length-map done T in
      let g = ap length h.steps_are in
      let s = length-steps_of (T whole) in
      omega (arith, a, b, d, e, f, g, s)
