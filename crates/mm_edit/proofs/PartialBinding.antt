-- A substitution of which a part is found.
use Rattle.std.proofs.Common.{◌≡◌, List, [], ◌∷◌, ◌++◌, Bool, true, false, Option, None, Some, refl, sym, ap, ◌∙◌, subst, ◌⊎◌, inl, inr, if◌then◌else◌}
use Rattle.std.specs.List.{AllByRecursion as ByRecursion}
use Rattle.std.proofs.lemmas.List.Elements.{recursion_from_All, All-from_recursion}
use Rattle.mm_subst.specs.declared.symbol.WSym.{WSym}
use Rattle.mm_subst.specs.Symbols.{is_same, is_work, has_work}
use Rattle.mm_subst.specs.Substitutions.{Pairs, value_at, value_of, applied, with_values, then_by}
use Rattle.mm_subst.proofs.Replaced.{applied-nil, applied-cons, applied-one, applied-append, value_of-some, value_of-none, value_of-then_by}
use Rattle.mm_plain.specs.Binding.{HasWorkKeys}
use Rattle.mm_plain.proofs.Works.{applied-plain, no_key}

-- each symbol stands for itself, or for what it stands for in the whole
pub record IsPart (gamma beta : Pairs) : Type 0 where
  pub works : HasWorkKeys beta
  pub each : (x : WSym) → (value_of beta x ≡ x ∷ []) ⊎ (value_of beta x ≡ value_of gamma x)

-- its values have no work variables
abbrev pub IsGround : Pairs → Type 0
IsGround gamma = ByRecursion (λ p. has_work p.1 ≡ false) gamma

pub nothing_found : (gamma : Pairs) → IsPart gamma []
nothing_found gamma = record { works = All-from_recursion (λ p. is_work p.0 ≡ true) [] tt; each = λ x. inl refl }

pub all_of_it : (gamma : Pairs) → HasWorkKeys gamma → IsPart gamma gamma
all_of_it gamma works = record { works = works; each = λ x. inr refl }

found_ground : (gamma : Pairs) (x : WSym) (v : List WSym) → IsGround gamma → value_at gamma x ≡ Some v → has_work v ≡ false
found_ground [] x v g e = cc
found_ground (p ∷ ps) x v g e = go (is_same p.0 x) e (λ h. found_ground ps x v g.1 h)
  where
    go : (b : Bool) → (if b then Some p.1 else value_at ps x) ≡ Some v → (value_at ps x ≡ Some v → has_work v ≡ false) → has_work v ≡ false
    go true h later = let same : p.1 ≡ v = cc in subst (λ w. has_work w ≡ false) same g.0
    go false h later = later h

joined_keys : (theta beta : Pairs) → ByRecursion (λ p. is_work p.0 ≡ true) beta → ByRecursion (λ p. is_work p.0 ≡ true) theta → ByRecursion (λ p. is_work p.0 ≡ true) (then_by theta beta)
joined_keys theta beta = go beta
  where
    go : (ps : Pairs) → ByRecursion (λ p. is_work p.0 ≡ true) ps → ByRecursion (λ p. is_work p.0 ≡ true) theta → ByRecursion (λ p. is_work p.0 ≡ true) (with_values theta ps ++ theta)
    go [] h k = k
    go (p ∷ ps) h k = (h.0, go ps h.1 k)

module _ (gamma : Pairs) (ground : IsGround gamma) where
  -- what a symbol stands for in the whole stays under a part
  stays : (theta : Pairs) → IsPart gamma theta → (x : WSym) → applied theta (value_of gamma x) ≡ value_of gamma x
  stays theta p x = go (value_at gamma x) refl (p.each x)
    where
      go : (o : Option (List WSym)) → value_at gamma x ≡ o → (value_of theta x ≡ x ∷ []) ⊎ (value_of theta x ≡ value_of gamma x) → applied theta (value_of gamma x) ≡ value_of gamma x
      go (Some v) e h =
          let own = value_of-some gamma x v e in
          ap (applied theta) own ∙ applied-plain theta p.works v (found_ground gamma x v ground e) ∙ sym own
      go None e h = let own = value_of-none gamma x e in ap (applied theta) own ∙ applied-one theta x ∙ self h own
        where
          self : (value_of theta x ≡ x ∷ []) ⊎ (value_of theta x ≡ value_of gamma x) → value_of gamma x ≡ x ∷ [] → value_of theta x ≡ value_of gamma x
          self (inl f) own = f ∙ sym own
          self (inr f) own = f

  -- what was found stays found
  pub still_found : (theta beta : Pairs) → IsPart gamma theta → (x : WSym) → value_of beta x ≡ value_of gamma x → value_of (then_by theta beta) x ≡ value_of gamma x
  still_found theta beta p x h = value_of-then_by theta beta x ∙ ap (applied theta) h ∙ stays theta p x

  pub newly_found : (theta beta : Pairs) → IsPart gamma beta → IsPart gamma theta → (x : WSym) → value_of theta x ≡ value_of gamma x → value_of (then_by theta beta) x ≡ value_of gamma x
  newly_found theta beta q p x h = go (q.each x)
    where
      go : (value_of beta x ≡ x ∷ []) ⊎ (value_of beta x ≡ value_of gamma x) → value_of (then_by theta beta) x ≡ value_of gamma x
      go (inl e) = value_of-then_by theta beta x ∙ ap (applied theta) e ∙ applied-one theta x ∙ h
      go (inr e) = still_found theta beta p x e

  -- a part after a part is a part
  pub both_parts : (theta beta : Pairs) → IsPart gamma beta → IsPart gamma theta → IsPart gamma (then_by theta beta)
  both_parts theta beta q p = record {
    works = All-from_recursion (λ r. is_work r.0 ≡ true) (then_by theta beta) (joined_keys theta beta (recursion_from_All _ beta q.works) (recursion_from_All _ theta p.works));
    each = λ x. go x (q.each x) (p.each x);
  }
    where
      go : (x : WSym) → (value_of beta x ≡ x ∷ []) ⊎ (value_of beta x ≡ value_of gamma x) → (value_of theta x ≡ x ∷ []) ⊎ (value_of theta x ≡ value_of gamma x)
          → (value_of (then_by theta beta) x ≡ x ∷ []) ⊎ (value_of (then_by theta beta) x ≡ value_of gamma x)
      go x (inr e) f = inr (still_found theta beta p x e)
      go x (inl e) (inl f) = inl (value_of-then_by theta beta x ∙ ap (applied theta) e ∙ applied-one theta x ∙ f)
      go x (inl e) (inr f) = inr (newly_found theta beta q p x f)

  -- the whole after a part is the whole
  pub whole_after : (works : HasWorkKeys gamma) (beta : Pairs) → IsPart gamma beta → (s : List WSym) → applied gamma (applied beta s) ≡ applied gamma s
  whole_after works beta p [] = ap (applied gamma) (applied-nil beta)
  whole_after works beta p (x ∷ xs) =
      ap (applied gamma) (applied-cons beta x xs)
      ∙ applied-append gamma (value_of beta x) (applied beta xs)
      ∙ ap (λ v. v ++ applied gamma (applied beta xs)) (one (p.each x))
      ∙ ap (λ t. value_of gamma x ++ t) (whole_after works beta p xs)
      ∙ sym (applied-cons gamma x xs)
    where
      one : (value_of beta x ≡ x ∷ []) ⊎ (value_of beta x ≡ value_of gamma x) → applied gamma (value_of beta x) ≡ value_of gamma x
      one (inl e) = ap (applied gamma) e ∙ applied-one gamma x
      one (inr e) = ap (applied gamma) e ∙ stays gamma (all_of_it gamma works) x

-- a string whose symbols all stand for what they do in the whole
abbrev pub AllFound : Pairs → Pairs → List WSym → Type 0
AllFound gamma beta s = ByRecursion (λ x. is_work x ≡ true → value_of beta x ≡ value_of gamma x) s

pub string_found : (gamma beta : Pairs) → HasWorkKeys gamma → HasWorkKeys beta → (s : List WSym) → AllFound gamma beta s → applied beta s ≡ applied gamma s
string_found gamma beta works keys [] h = applied-nil beta ∙ sym (applied-nil gamma)
string_found gamma beta works keys (x ∷ xs) h =
    applied-cons beta x xs ∙ ap (λ v. v ++ applied beta xs) (one (is_work x) refl) ∙ ap (λ t. value_of gamma x ++ t) (string_found gamma beta works keys xs h.1) ∙ sym (applied-cons gamma x xs)
  where
    one : (b : Bool) → is_work x ≡ b → value_of beta x ≡ value_of gamma x
    one true e = h.0 e
    one false e = value_of-none beta x (no_key beta keys x e) ∙ sym (value_of-none gamma x (no_key gamma works x e))
