-- The first of the rows that holds is the lowest.
use Rattle.std.proofs.Common.{◌≡◌, ◌≤◌, ◌<◌, ℕ, Bool, true, false, cond, List, [], ◌∷◌, map, Result, Ok, Err, is_err, refl, sym, ap, ◌∙◌, subst, arith, ◌⊎◌, inl, inr}
use Rattle.std.proofs.lemmas.Bool.{true≢false}
use Rattle.mm_scope.specs.Events.{Event}
use Rattle.mm_scope.specs.Faults.{number_of, place_of}
use Rattle.mm_scope.specs.Steps.{State, Answers, unless}
use Rattle.mm_scope.specs.declared.fault.ReadFault.{ReadFault}
use Rattle.mm_scope.specs.declared.fault.ReadFault.TheVariants as fault
use Rattle.mm_scope.specs.declared.mode.Mode.{Mode}
use Rattle.mm_tokens.specs.declared.word.Word.{Word}
use Rattle.mm_grammar.proofs.Rows.{holds, faults_at, rows}

error_or : {A B : Type 0} → B → Result A B → B
error_or d (Ok x) = d
error_or d (Err e) = e

-- the numbers are above n, and grow
abbrev Grow : ℕ → List ReadFault → Type 0
Grow n [] = Unit {0}
Grow n (g ∷ gs) = (n < number_of g) × Grow (number_of g) gs

module _ (p : ℕ) (test : ReadFault → Bool) (u : State (List Event)) where
  -- none of a number below n holds
  abbrev OffBelow : ℕ → List ReadFault → Type 0
  OffBelow n [] = Unit {0}
  OffBelow n (g ∷ gs) = (number_of g < n → test g ≡ false) × OffBelow n gs

  off_above : (n m : ℕ) (gs : List ReadFault) → m ≤ n → Grow n gs → OffBelow m gs
  off_above n m [] less grow = tt
  off_above n m (g ∷ gs) less grow = (λ h. absurd (omega (arith, h, less, grow.0)), off_above (number_of g) m gs (omega (arith, less, grow.0)) grow.1)

  abbrev AllAt : List ReadFault → Type 0
  AllAt [] = Unit {0}
  AllAt (g ∷ gs) = (place_of g ≡ p) × AllAt gs

  record IsLowest (f : ReadFault) (gs : List ReadFault) : Type 0 where
    holds : test f ≡ true
    place : place_of f ≡ p
    off : OffBelow (number_of f) gs

  lowest_of : (n : ℕ) (gs : List ReadFault) (f : ReadFault) → Grow n gs → AllAt gs → unless (map (λ g. (test g, g)) gs) (Ok u) ≡ Err f → IsLowest f gs
  unfolding error_or
  lowest_of n [] f grow all e = absurd (true≢false (sym (ap is_err e)))
  lowest_of n (g ∷ gs) f grow all e = by (test g) refl e (lowest_of (number_of g) gs f grow.1 all.1)
    where
      by : (b : Bool) → test g ≡ b → cond b (Err g) (unless (map (λ g. (test g, g)) gs) (Ok u)) ≡ Err f
          → (unless (map (λ g. (test g, g)) gs) (Ok u) ≡ Err f → IsLowest f gs) → IsLowest f (g ∷ gs)
      by true is h later = subst (λ x. IsLowest x (g ∷ gs)) (ap (error_or g) h)
          (record { holds = is; place = all.0; off = (λ less. absurd (omega (arith, less)), off_above (number_of g) (number_of g) gs (omega arith) grow.1) })
      by false is h later = let l = later h in record { holds = l.holds; place = l.place; off = (λ _. is, l.off) }

-- so it is of the rows at a token
pub record IsLowestAt (m : Mode) (ss : List ℕ) (a : Answers) (w : Word) (t : List ℕ) (p : ℕ) (f : ReadFault) : Type 0 where
  pub holding : holds m ss a w t f ≡ true
  pub place : place_of f ≡ p
  pub lowest : (g : ReadFault) → number_of g < number_of f → holds m ss a w t g ≡ false

module _ (m : Mode) (ss : List ℕ) (a : Answers) (w : Word) (t : List ℕ) (p : ℕ) (f : ReadFault) where
  grown : Grow 0 (faults_at p)
  grown = (omega arith, (omega arith, (omega arith, (omega arith, (omega arith, (omega arith, (omega arith, (omega arith, (omega arith, (omega arith, (omega arith, (omega arith, (omega arith, (omega arith, (omega arith, (omega arith, tt))))))))))))))))

  placed : (test : ReadFault → Bool) (u : State (List Event)) → AllAt p test u (faults_at p)
  placed test u = (refl, (refl, (refl, (refl, (refl, (refl, (refl, (refl, (refl, (refl, (refl, (refl, (refl, (refl, (refl, (refl, tt))))))))))))))))

  none_lower : (u : State (List Event)) → OffBelow p (holds m ss a w t) u (number_of f) (faults_at p) → (g : ReadFault) → number_of g < number_of f → holds m ss a w t g ≡ false
  none_lower u off (fault.UnknownKeyword q) less = off.0 less
  none_lower u off (fault.FileInclusion q) less = off.1.0 less
  none_lower u off (fault.BadLabel q) less = off.1.1.0 less
  none_lower u off (fault.BadSymbol q) less = off.1.1.1.0 less
  none_lower u off (fault.Redeclared q) less = off.1.1.1.1.0 less
  none_lower u off (fault.NotActive q) less = off.1.1.1.1.1.0 less
  none_lower u off (fault.ConstantInBlock q) less = off.1.1.1.1.1.1.0 less
  none_lower u off (fault.LabelUsed q) less = off.1.1.1.1.1.1.1.0 less
  none_lower u off (fault.LabelMissing q) less = off.1.1.1.1.1.1.1.1.0 less
  none_lower u off (fault.LabelNotWanted q) less = off.1.1.1.1.1.1.1.1.1.0 less
  none_lower u off (fault.WrongForm q) less = off.1.1.1.1.1.1.1.1.1.1.0 less
  none_lower u off (fault.FloatRepeated q) less = off.1.1.1.1.1.1.1.1.1.1.1.0 less
  none_lower u off (fault.NoFloat q) less = off.1.1.1.1.1.1.1.1.1.1.1.1.0 less
  none_lower u off (fault.DistinctForm q) less = off.1.1.1.1.1.1.1.1.1.1.1.1.1.0 less
  none_lower u off (fault.BlockNotOpen q) less = off.1.1.1.1.1.1.1.1.1.1.1.1.1.1.0 less
  none_lower u off (fault.TooLong q) less = off.1.1.1.1.1.1.1.1.1.1.1.1.1.1.1.0 less
  none_lower u off (fault.BadByte q) less = refl
  none_lower u off (fault.CommentOpen q) less = refl
  none_lower u off (fault.BlockOpen q) less = refl
  none_lower u off (fault.NotClosed q) less = refl
  none_lower u off fault.Memory less = refl

  pub lowest_row : (u : State (List Event)) → unless (rows m ss a w t p) (Ok u) ≡ Err f → IsLowestAt m ss a w t p f
  lowest_row u e = let l = lowest_of p (holds m ss a w t) u 0 (faults_at p) f grown (placed (holds m ss a w t) u) e in record { holding = l.holds; place = l.place; lowest = none_lower u l.off }

-- and the lowest that holds is the first
abbrev IsIn : ReadFault → List ReadFault → Type 0
IsIn f [] = ⊥
IsIn f (g ∷ gs) = (f ≡ g) ⊎ IsIn f gs

above : (f : ReadFault) (n : ℕ) (gs : List ReadFault) → Grow n gs → IsIn f gs → n < number_of f
above f n [] grow there = absurd there
above f n (g ∷ gs) grow (inl e) = subst (λ x. n < number_of x) (sym e) grow.0
above f n (g ∷ gs) grow (inr later) = omega (arith, grow.0, above f (number_of g) gs grow.1 later)

module _ (test : ReadFault → Bool) (u : State (List Event)) (f : ReadFault) (is : test f ≡ true) (lower : (g : ReadFault) → number_of g < number_of f → test g ≡ false) where
  first_of : (n : ℕ) (gs : List ReadFault) → Grow n gs → IsIn f gs → unless (map (λ g. (test g, g)) gs) (Ok u) ≡ Err f
  first_of n [] grow there = absurd there
  first_of n (g ∷ gs) grow (inl e) = ap (λ b. cond b (Err g) (unless (map (λ g. (test g, g)) gs) (Ok u))) (ap test (sym e) ∙ is) ∙ ap Err (sym e)
  first_of n (g ∷ gs) grow (inr later) =
      ap (λ b. cond b (Err g) (unless (map (λ g. (test g, g)) gs) (Ok u))) (lower g (above f (number_of g) gs grow.1 later)) ∙ first_of (number_of g) gs grow.1 later

module _ (m : Mode) (ss : List ℕ) (a : Answers) (w : Word) (t : List ℕ) (p : ℕ) where
  there : (f : ReadFault) → place_of f ≡ p → holds m ss a w t f ≡ true → IsIn f (faults_at p)
  there (fault.UnknownKeyword q) e is = inl (ap fault.UnknownKeyword e)
  there (fault.FileInclusion q) e is = inr (inl (ap fault.FileInclusion e))
  there (fault.BadLabel q) e is = inr (inr (inl (ap fault.BadLabel e)))
  there (fault.BadSymbol q) e is = inr (inr (inr (inl (ap fault.BadSymbol e))))
  there (fault.Redeclared q) e is = inr (inr (inr (inr (inl (ap fault.Redeclared e)))))
  there (fault.NotActive q) e is = inr (inr (inr (inr (inr (inl (ap fault.NotActive e))))))
  there (fault.ConstantInBlock q) e is = inr (inr (inr (inr (inr (inr (inl (ap fault.ConstantInBlock e)))))))
  there (fault.LabelUsed q) e is = inr (inr (inr (inr (inr (inr (inr (inl (ap fault.LabelUsed e))))))))
  there (fault.LabelMissing q) e is = inr (inr (inr (inr (inr (inr (inr (inr (inl (ap fault.LabelMissing e)))))))))
  there (fault.LabelNotWanted q) e is = inr (inr (inr (inr (inr (inr (inr (inr (inr (inl (ap fault.LabelNotWanted e))))))))))
  there (fault.WrongForm q) e is = inr (inr (inr (inr (inr (inr (inr (inr (inr (inr (inl (ap fault.WrongForm e)))))))))))
  there (fault.FloatRepeated q) e is = inr (inr (inr (inr (inr (inr (inr (inr (inr (inr (inr (inl (ap fault.FloatRepeated e))))))))))))
  there (fault.NoFloat q) e is = inr (inr (inr (inr (inr (inr (inr (inr (inr (inr (inr (inr (inl (ap fault.NoFloat e)))))))))))))
  there (fault.DistinctForm q) e is = inr (inr (inr (inr (inr (inr (inr (inr (inr (inr (inr (inr (inr (inl (ap fault.DistinctForm e))))))))))))))
  there (fault.BlockNotOpen q) e is = inr (inr (inr (inr (inr (inr (inr (inr (inr (inr (inr (inr (inr (inr (inl (ap fault.BlockNotOpen e)))))))))))))))
  there (fault.TooLong q) e is = inr (inr (inr (inr (inr (inr (inr (inr (inr (inr (inr (inr (inr (inr (inr (inl (ap fault.TooLong e))))))))))))))))
  there (fault.BadByte q) e is = absurd (true≢false (sym is))
  there (fault.CommentOpen q) e is = absurd (true≢false (sym is))
  there (fault.BlockOpen q) e is = absurd (true≢false (sym is))
  there (fault.NotClosed q) e is = absurd (true≢false (sym is))
  there fault.Memory e is = absurd (true≢false (sym is))

  pub first_row : (f : ReadFault) (u : State (List Event)) → IsLowestAt m ss a w t p f → unless (rows m ss a w t p) (Ok u) ≡ Err f
  first_row f u l = first_of (holds m ss a w t) u f l.holding l.lowest 0 (faults_at p) (grown m ss a w t p f) (there f l.place l.holding)
