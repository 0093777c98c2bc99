-- One visit of a step whose source is found: what is found stays a part of one substitution.
use Rattle.std.proofs.Common.{◌≡◌, ℕ, ◌==◌, Bool, true, false, not, ◌&&◌, List, [], ◌∷◌, ◌++◌, Option, None, Some, refl, sym, ap, ◌∙◌, ◌⊎◌, inl, inr, arith, if◌then◌else◌}
use Rattle.std.proofs.lemmas.Bool.{true≢false, false≢true}
use Rattle.std.specs.Cmp.Lexicographic.{pointwise}
use Rattle.mm_subst.specs.declared.symbol.WSym.{WSym}
use Rattle.mm_subst.specs.declared.symbol.WSym.TheVariants.{Const, Work}
use Rattle.mm_subst.specs.Symbols.{is_same, has_work}
use Rattle.mm_subst.specs.Substitutions.{Pairs, value_at, value_of, or_itself, applied, then_by}
use Rattle.mm_subst.proofs.Replaced.{applied-cons, applied-one, value_of-some, value_of-none}
use Rattle.mm_subst.proofs.Keys.{is_same-true}
use Rattle.mm_plain.specs.Binding.{HasWorkKeys}
use Rattle.mm_plain.proofs.Works.{no_key}
use Rattle.mm_edit.proofs.PartialBinding.{IsPart, IsGround, still_found, newly_found, both_parts, whole_after}

-- What is asked of a search: where the source has no work variable, and gamma makes the target the source, what is found
-- is a part of gamma; and a value of gamma is found, for a work variable behind a typecode.
pub record FindsParts (gamma : Pairs) (find : List WSym → List WSym → Option Pairs) : Type 0 where
  pub part : (t s : List WSym) (theta : Pairs) → has_work s ≡ false → applied gamma t ≡ s → find t s ≡ Some theta → IsPart gamma theta
  pub single : (c n : ℕ) (v : List WSym) → value_at gamma (Work n) ≡ Some v → find (Const c ∷ Work n ∷ []) (Const c ∷ v) ≡ Some ((Work n, v) ∷ [])

-- what is found at a step: nothing, where its strings are the same
abbrev pub choice : (List WSym → List WSym → Option Pairs) → List WSym → List WSym → Option Pairs
choice find a b = if not (pointwise is_same a b) then find a b else None

abbrev pub then_opt : Option Pairs → Pairs → Pairs
then_opt None beta = beta
then_opt (Some theta) beta = then_by theta beta

both : (a b : Bool) → (a && b) ≡ true → (a ≡ true) × (b ≡ true)
both true b h = (refl, h)
both false b h = absurd (false≢true h)

pub same_string : (s t : List WSym) → pointwise is_same s t ≡ true → s ≡ t
same_string [] [] h = refl
same_string [] (y ∷ ys) h = absurd (false≢true h)
same_string (x ∷ xs) [] h = absurd (false≢true h)
same_string (x ∷ xs) (y ∷ ys) h =
    let b = both (is_same x y) (pointwise is_same xs ys) h in
    ap (λ z. z ∷ xs) (is_same-true x y b.0) ∙ ap (λ zs. y ∷ zs) (same_string xs ys b.1)

chosen_by : (same : Bool) (o : Option Pairs) (theta : Pairs) → (if not same then o else None) ≡ Some theta → o ≡ Some theta
chosen_by true o theta e = cc
chosen_by false o theta e = e

own_value : (n : ℕ) (v : List WSym) → value_of ((Work n, v) ∷ []) (Work n) ≡ v
own_value n v = ap (λ b. or_itself (Work n) (if b then Some v else None)) (same n)
  where
    same : (m : ℕ) → m == m ≡ true
    same m = grind arith

module _ (find : List WSym → List WSym → Option Pairs) (gamma : Pairs) (works : HasWorkKeys gamma) (ground : IsGround gamma) (facts : FindsParts gamma find)
    (beta : Pairs) (part : IsPart gamma beta)
    (t s : List WSym) (equal : applied gamma t ≡ applied gamma s)
    (source : applied beta s ≡ applied gamma s) (fixed : has_work (applied gamma s) ≡ false) where
  abbrev a : List WSym
  a = applied beta t

  abbrev b : List WSym
  b = applied beta s

  b_fixed : has_work b ≡ false
  b_fixed = ap has_work source ∙ fixed

  makes : applied gamma a ≡ b
  makes = whole_after gamma ground works beta part t ∙ equal ∙ sym source

  found_part : (theta : Pairs) → choice find a b ≡ Some theta → IsPart gamma theta
  found_part theta e = facts.part a b theta b_fixed makes (chosen_by (pointwise is_same a b) (find a b) theta e)

  -- what comes of the step
  pub record Turned (o : Option Pairs) : Type 0 where
    pub is_part : IsPart gamma (then_opt o beta)
    pub keeps : (x : WSym) → value_of beta x ≡ value_of gamma x → value_of (then_opt o beta) x ≡ value_of gamma x
    pub float : (c n : ℕ) → t ≡ Const c ∷ Work n ∷ [] → value_of (then_opt o beta) (Work n) ≡ value_of gamma (Work n)

  -- a `$f`'s target whose variable is not found yet
  float_target : (c n : ℕ) → t ≡ Const c ∷ Work n ∷ [] → value_of beta (Work n) ≡ Work n ∷ [] → a ≡ Const c ∷ Work n ∷ []
  float_target c n e u =
      ap (applied beta) e ∙ applied-cons beta (Const c) (Work n ∷ []) ∙ ap (λ v. v ++ applied beta (Work n ∷ [])) (value_of-none beta (Const c) (no_key beta part.works (Const c) refl))
      ∙ ap (λ v. Const c ∷ v) (applied-one beta (Work n) ∙ u)

  float_source : (c n : ℕ) → t ≡ Const c ∷ Work n ∷ [] → b ≡ Const c ∷ value_of gamma (Work n)
  float_source c n e =
      source ∙ sym equal ∙ ap (applied gamma) e ∙ applied-cons gamma (Const c) (Work n ∷ []) ∙ ap (λ v. v ++ applied gamma (Work n ∷ [])) (value_of-none gamma (Const c) (no_key gamma works (Const c) refl))
      ∙ ap (λ v. Const c ∷ v) (applied-one gamma (Work n))

  never_same : (same : Bool) → pointwise is_same a b ≡ same → has_work a ≡ true → same ≡ false
  never_same true p w = absurd (true≢false (sym w ∙ ap has_work (same_string a b p) ∙ b_fixed))
  never_same false p w = refl

  float_found : (c n : ℕ) (v : List WSym) → t ≡ Const c ∷ Work n ∷ [] → value_of beta (Work n) ≡ Work n ∷ [] → value_at gamma (Work n) ≡ Some v → choice find a b ≡ Some ((Work n, v) ∷ [])
  float_found c n v e u g =
      let target = float_target c n e u in
      let src : b ≡ Const c ∷ v = float_source c n e ∙ ap (λ w. Const c ∷ w) (value_of-some gamma (Work n) v g) in
      ap (λ q. if not q then find a b else None) (never_same (pointwise is_same a b) refl (ap has_work target))
      ∙ ap (λ q. find q b) target ∙ ap (find (Const c ∷ Work n ∷ [])) src ∙ facts.single c n v g

  float_some : (theta : Pairs) → choice find a b ≡ Some theta → (c n : ℕ) → t ≡ Const c ∷ Work n ∷ [] → (value_of beta (Work n) ≡ Work n ∷ []) ⊎ (value_of beta (Work n) ≡ value_of gamma (Work n))
      → value_of (then_by theta beta) (Work n) ≡ value_of gamma (Work n)
  float_some theta e c n f (inr h) = still_found gamma ground theta beta (found_part theta e) (Work n) h
  float_some theta e c n f (inl u) = go (value_at gamma (Work n)) refl
    where
      go : (o : Option (List WSym)) → value_at gamma (Work n) ≡ o → value_of (then_by theta beta) (Work n) ≡ value_of gamma (Work n)
      go None g = still_found gamma ground theta beta (found_part theta e) (Work n) (u ∙ sym (value_of-none gamma (Work n) g))
      go (Some v) g =
          let same : theta ≡ (Work n, v) ∷ [] = let q = sym e ∙ float_found c n v f u g in cc in
          newly_found gamma ground theta beta part (found_part theta e) (Work n)
          (ap (λ r. value_of r (Work n)) same ∙ own_value n v ∙ sym (value_of-some gamma (Work n) v g))

  float_none : choice find a b ≡ None → (c n : ℕ) → t ≡ Const c ∷ Work n ∷ [] → (value_of beta (Work n) ≡ Work n ∷ []) ⊎ (value_of beta (Work n) ≡ value_of gamma (Work n)) → value_of beta (Work n) ≡ value_of gamma (Work n)
  float_none e c n f (inr h) = h
  float_none e c n f (inl u) = go (value_at gamma (Work n)) refl
    where
      go : (o : Option (List WSym)) → value_at gamma (Work n) ≡ o → value_of beta (Work n) ≡ value_of gamma (Work n)
      go None g = u ∙ sym (value_of-none gamma (Work n) g)
      go (Some v) g = let q = sym e ∙ float_found c n v f u g in cc

  pub turned : (o : Option Pairs) → choice find a b ≡ o → Turned o
  turned None e = record { is_part = part; keeps = λ x h. h; float = λ c n f. float_none e c n f (part.each (Work n)) }
  turned (Some theta) e = record {
    is_part = both_parts gamma ground theta beta part (found_part theta e);
    keeps = still_found gamma ground theta beta (found_part theta e);
    float = λ c n f. float_some theta e c n f (part.each (Work n));
  }
