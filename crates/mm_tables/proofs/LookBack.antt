-- What is kept of a past is what looking back over it finds.
use Rattle.std.proofs.Common.{◌≡◌, ℕ, zero, suc, ◌-◌, ◌<◌, ◌≤◌, cond, nat_le, List, [], ◌∷◌, ◌++◌, Some, length, take, slice_get, get_or, refl, sym, ap, ◌∙◌, arith, length-append, ◌⊎◌, inl, inr}
use Rattle.std.proofs.lemmas.Grind.{common_steps}
use Rattle.std.proofs.lemmas.List.{get_or_append_left}
use Rattle.std.proofs.Math.ListN.{get_or-eq_default}
use Rattle.std.proofs.Math.Seq.{get_or-append_seam}
use Rattle.std.proofs.lemmas.Option.{slice_get-get_or}
use Rattle.std.proofs.lemmas.Bool.{cases_lt}
use Rattle.mm_tables.specs.Moves.{Move, item, opened, closed, noted, in_force, notes, before}
use Rattle.mm_tables.specs.Layered.{layered}

module _ {X : Type 0} where
  -- what was in force where the block began that a look back leaves after so many, the innermost first
  outside : List (List X) → ℕ → List X
  outside outer k = cond (nat_le (length outer) k) [] (get_or outer (length outer - suc k) [])

  outside_none : (k : ℕ) → outside [] k ≡ []
  unfolding outside
  outside_none k = grind (arith, common_steps)

  first_is : (outer : List (List X)) (xs : List X) → get_or (outer ++ xs ∷ []) (length (outer ++ xs ∷ []) - 1) [] ≡ xs
  first_is outer xs =
      let same : length (outer ++ xs ∷ []) - 1 ≡ length outer = omega (arith, length-append outer (xs ∷ [])) in
      rw same (get_or-append_seam outer xs [] [])

  outside_first : (outer : List (List X)) (xs : List X) → outside (outer ++ xs ∷ []) 0 ≡ xs
  unfolding outside
  outside_first outer xs = grind (arith, common_steps, first_is outer xs)

  outside_next : (outer : List (List X)) (xs : List X) (k : ℕ) → outside (outer ++ xs ∷ []) (suc k) ≡ outside outer k
  unfolding outside
  outside_next outer xs k = grind (arith, common_steps)

  outside_last : (outer : List (List X)) → get_or outer (length outer - 1) [] ≡ outside outer 0
  unfolding outside
  outside_last outer = grind (arith, common_steps, get_or-eq_default outer [])

  outside_left : (outer : List (List X)) (k : ℕ) → outside (take (length outer - 1) outer) k ≡ outside outer (suc k)
  unfolding outside
  outside_left outer k = grind (arith, common_steps)

  record Finds (past : List (Move X)) : Type 0 where
    now : (layered past).now ≡ in_force zero past
    outer : (k : ℕ) → outside (layered past).outer k ≡ in_force (suc k) past

  began : (past : List (Move X)) → Finds past → (k : ℕ) → outside ((layered past).outer ++ (layered past).now ∷ []) k ≡ in_force (suc k) (opened ∷ past)
  unfolding in_force
  began past before zero = outside_first (layered past).outer (layered past).now ∙ before.now
  began past before (suc k) = outside_next (layered past).outer (layered past).now k ∙ before.outer k

  finds : (past : List (Move X)) → Finds past
  unfolding in_force layered
  finds [] = record { now = refl; outer = λ k. outside_none k }
  finds (item xs ∷ past) = let before = finds past in record { now = ap (λ ys. ys ++ xs) before.now; outer = before.outer }
  finds (opened ∷ past) = let before = finds past in record { now = before.now; outer = began past before }
  finds (closed ∷ past) =
      let before = finds past in
      record {
        now = outside_last (layered past).outer ∙ before.outer 0;
        outer = λ k. outside_left (layered past).outer k ∙ before.outer (suc k);
      }
  finds (noted ∷ past) = let before = finds past in record { now = before.now; outer = before.outer }

  pub in_force_now : (past : List (Move X)) → (layered past).now ≡ in_force zero past
  in_force_now past = (finds past).now

  pub moments_are_noted : (past : List (Move X)) → length (layered past).moments ≡ notes past
  unfolding layered notes
  moments_are_noted [] = refl
  moments_are_noted (item xs ∷ past) = moments_are_noted past
  moments_are_noted (opened ∷ past) = moments_are_noted past
  moments_are_noted (closed ∷ past) = moments_are_noted past
  moments_are_noted (noted ∷ past) = omega (arith, length-append (layered past).moments ((layered past).now ∷ []), moments_are_noted past)

  -- before a moment that was noted, a later move changes nothing
  sooner : (m : Move X) (k : ℕ) (past : List (Move X)) → k < notes (m ∷ past) → before k (m ∷ past) ≡ before k past
  unfolding before
  sooner m k past h = grind (arith, common_steps)

  -- after all that were noted, it is the whole past
  later : (k : ℕ) (past : List (Move X)) → notes past ≤ k → before k past ≡ past
  unfolding before
  later k [] h = refl
  later k (m ∷ past) h = grind (arith, common_steps)

  appended : (zs : List (List X)) (z : List X) (k : ℕ) → k < length zs → slice_get (zs ++ z ∷ []) k ≡ slice_get zs k
  appended zs z k h =
      let longer : k < length (zs ++ z ∷ []) = omega (arith, h, length-append zs (z ∷ [])) in
      slice_get-get_or (zs ++ z ∷ []) k [] longer ∙ ap Some (get_or_append_left zs (z ∷ []) [] k h) ∙ sym (slice_get-get_or zs k [] h)

  newest : (zs : List (List X)) (z : List X) (k : ℕ) → k ≡ length zs → slice_get (zs ++ z ∷ []) k ≡ Some z
  newest zs z k e =
      let longer : length zs < length (zs ++ z ∷ []) = omega (arith, length-append zs (z ∷ [])) in
      rw e (slice_get-get_or (zs ++ z ∷ []) (length zs) [] longer ∙ ap Some (get_or-append_seam zs z [] []))

  pub in_force_at : (k : ℕ) (past : List (Move X)) → k < notes past → slice_get (layered past).moments k ≡ Some (in_force zero (before k past))
  unfolding layered notes
  in_force_at k [] h = absurd (omega (arith, h))
  in_force_at k (item xs ∷ past) h = rw (sooner (item xs) k past h) (in_force_at k past h)
  in_force_at k (opened ∷ past) h = rw (sooner opened k past h) (in_force_at k past h)
  in_force_at k (closed ∷ past) h = rw (sooner closed k past h) (in_force_at k past h)
  in_force_at k (noted ∷ past) h = rw (sooner noted k past h) (elim (cases_lt k (notes past)) [
    | inl here ↦ appended (layered past).moments (layered past).now k (omega (arith, here, moments_are_noted past)) ∙ in_force_at k past here
    | inr top ↦ newest (layered past).moments (layered past).now k (omega (arith, top, h, moments_are_noted past))
        ∙ ap Some (in_force_now past ∙ ap (in_force zero) (sym (later k past top)))
  ])
