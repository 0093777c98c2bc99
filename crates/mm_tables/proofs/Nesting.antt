-- Blocks that begin one in another.
use Rattle.std.proofs.Common.{◌≡◌, ◌≤◌, ℕ, suc, ◌-◌, List, [], ◌∷◌, ◌++◌, length, take, get_or, refl, ap, sym, ◌∙◌, subst, arith, length-append}
use Rattle.std.proofs.lemmas.Grind.{common_steps}
use Rattle.std.proofs.lemmas.List.{length-take-le, take-append-le}
use Rattle.mm_tables.specs.Nesting.{Nests}

takes : (m n : ℕ) (xs : List ℕ) → m ≤ n → take m (take n xs) ≡ take m xs
takes m n xs h = grind (arith, common_steps)

module _ {X : Type 0} where
  pub front : List X → List X
  front [] = []
  front (x ∷ []) = []
  front (x ∷ y ∷ xs) = x ∷ front (y ∷ xs)

  pub last : X → List X → X
  last d [] = d
  last d (x ∷ xs) = last x xs

  pub front_is : (xs : List X) → take (length xs - 1) xs ≡ front xs
  unfolding front
  front_is [] = refl
  front_is (x ∷ []) = refl
  front_is (x ∷ y ∷ xs) =
      let less : suc (suc (length xs)) - 1 ≡ suc (length xs) = omega arith in
      let same : suc (length xs) - 1 ≡ length xs = omega arith in
      rw less (ap (λ ys. x ∷ ys) (ap (λ n. take n (y ∷ xs)) (sym same) ∙ front_is (y ∷ xs)))

  pub last_is : (d : X) (xs : List X) → get_or xs (length xs - 1) d ≡ last d xs
  unfolding last
  last_is d [] = refl
  last_is d (x ∷ []) = refl
  last_is d (x ∷ y ∷ xs) =
      let less : suc (suc (length xs)) - 1 ≡ suc (length xs) = omega arith in
      let same : suc (length xs) - 1 ≡ length xs = omega arith in
      rw less (ap (λ n. get_or (y ∷ xs) n d) (sym same) ∙ last_is d (y ∷ xs))

module _ {X : Type 0} (IsBlock : List ℕ → X → Type 0) where
  -- no block begins with more than there are
  within : (low : ℕ) (heights : List ℕ) (outer : List X) (now : List ℕ) → Nests IsBlock low heights outer now → low ≤ length now
  unfolding Nests
  within low [] [] now nests = nests
  within low (h ∷ hs) (o ∷ os) now nests = omega (arith, nests.0, within h hs os now nests.2)
  within low [] (o ∷ os) now nests = absurd nests
  within low (h ∷ hs) [] now nests = absurd nests

  pub nests_more : (low : ℕ) (heights : List ℕ) (outer : List X) (now xs : List ℕ) → Nests IsBlock low heights outer now → Nests IsBlock low heights outer (now ++ xs)
  unfolding Nests
  nests_more low [] [] now xs nests = omega (arith, nests, length-append now xs)
  nests_more low (h ∷ hs) (o ∷ os) now xs nests =
      (nests.0, subst (λ part. IsBlock part o) (sym (take-append-le h now xs (within h hs os now nests.2))) nests.1, nests_more h hs os now xs nests.2)
  nests_more low [] (o ∷ os) now xs nests = absurd nests
  nests_more low (h ∷ hs) [] now xs nests = absurd nests

  -- one block more begins
  pub nests_one_more : (low : ℕ) (heights : List ℕ) (outer : List X) (now : List ℕ) (block : X) → IsBlock (take (length now) now) block
      → Nests IsBlock low heights outer now → Nests IsBlock low (heights ++ length now ∷ []) (outer ++ block ∷ []) now
  unfolding Nests
  nests_one_more low [] [] now block is nests = (nests, is, omega arith)
  nests_one_more low (h ∷ hs) (o ∷ os) now block is nests = (nests.0, nests.1, nests_one_more h hs os now block is nests.2)
  nests_one_more low [] (o ∷ os) now block is nests = absurd nests
  nests_one_more low (h ∷ hs) [] now block is nests = absurd nests

  -- what is left where the innermost block ends
  record Ends (low h : ℕ) (hs : List ℕ) (o : X) (os : List X) (now : List ℕ) : Type 0 where
    nests : Nests IsBlock low (front (h ∷ hs)) (front (o ∷ os)) (take (last h hs) now)
    block : IsBlock (take (last h hs) now) (last o os)
    above : h ≤ last h hs
    own : last h hs ≤ length now

  ends : (low h : ℕ) (hs : List ℕ) (o : X) (os : List X) (now : List ℕ) → Nests IsBlock low (h ∷ hs) (o ∷ os) now → Ends low h hs o os now
  unfolding Nests front last
  ends low h [] o [] now nests = record {
    nests = omega (arith, nests.0, length-take-le h now nests.2);
    block = nests.1;
    above = omega arith;
    own = nests.2;
  }
  ends low h (h2 ∷ hs) o (o2 ∷ os) now nests =
      let inner = ends h h2 hs o2 os now nests.2 in
      let high : h ≤ last h2 hs = omega (arith, nests.2.0, inner.above) in
      record {
        nests = (nests.0, subst (λ part. IsBlock part o) (sym (takes h (last h2 hs) now high)) nests.1, inner.nests);
        block = inner.block;
        above = high;
        own = inner.own;
      }
  ends low h [] o (o2 ∷ os) now nests = absurd nests.2
  ends low h (h2 ∷ hs) o [] now nests = absurd nests.2

  -- what is in force again, where no block is open nothing
  pub record Again (none : X) (heights : List ℕ) (outer : List X) (now : List ℕ) : Type 0 where
    pub nests : Nests IsBlock 0 (front heights) (front outer) (take (last 0 heights) now)
    pub block : IsBlock (take (last 0 heights) now) (last none outer)
    pub own : last 0 heights ≤ length now

  pub again : (none : X) (heights : List ℕ) (outer : List X) (now : List ℕ) → IsBlock [] none → Nests IsBlock 0 heights outer now → Again none heights outer now
  unfolding Nests front last
  again none [] [] now is nests = record { nests = omega arith; block = is; own = omega arith }
  again none (h ∷ hs) (o ∷ os) now is nests =
      let after = ends 0 h hs o os now nests in
      record { nests = after.nests; block = after.block; own = after.own }
  again none [] (o ∷ os) now is nests = absurd nests
  again none (h ∷ hs) [] now is nests = absurd nests
