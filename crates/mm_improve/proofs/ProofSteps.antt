-- A step by a use proves its goal, over proofs of the goals of its hypotheses.
use Rattle.std.proofs.Common.{◌≡◌, ℕ, true, not, ◌&&◌, List, [], ◌∷◌, All, is_some, map, refl, sym, ◌∙◌, ap, subst}
use Rattle.std.specs.List.{flat_map}
use Rattle.std.specs.Cmp.Lexicographic.{pointwise}
use Rattle.mm_scope.specs.Contents.{stated_at, distinct_at}
use Rattle.mm_subst.specs.declared.symbol.WSym.{WSym}
use Rattle.mm_subst.specs.declared.symbol.WSym.TheVariants.{Var}
use Rattle.mm_subst.specs.Statements.{statement_of}
use Rattle.mm_subst.specs.Substitutions.{Pairs, value_of, applied}
use Rattle.mm_subst.specs.Symbols.{is_same}
use Rattle.mm_subst.proofs.Keys.{is_same-itself}
use Rattle.mm_plain.specs.declared.plain.Plain.{Plain}
use Rattle.mm_plain.specs.Premises.{premises_of}
use Rattle.mm_plain.specs.Shape.{Each, known, steps_of, target_of}
use Rattle.mm_plain.specs.Sources.{sigma_of}
use Rattle.mm_plain.specs.Valid.{Setting, first_setting, IsString, IsSound}
use Rattle.mm_plain.proofs.Equations.{steps_of-known, target_of-known}
use Rattle.mm_plain.proofs.Kept.{sound-known}
use Rattle.mm_plain.proofs.Read.{label_of-known, sigma_of-known, is_pending-known}
use Rattle.mm_sound.specs.Apart.{AreParted, KeepsPairs, IsApart, pairs_by}
use Rattle.mm_sound.specs.Complete.{IsDone, IsComplete}
use Rattle.mm_sound.proofs.NoWork.{each-append, from_kids}
use Rattle.mm_improve.specs.Assertions.{Terms}
use Rattle.mm_improve.specs.Ranks.{Use}
use Rattle.mm_improve.specs.Proofs.{IsProofFor}
use Rattle.mm_improve.proofs.ProofUses.{IsUse}

-- a step's own fact, added to those of the steps below it
whole : (P : Plain → Type 0) (t : List WSym) (l : ℕ) (s : Pairs) (kids : List Plain) → Each (λ x. Each P (steps_of x)) kids → P (known t l s kids) → Each P (steps_of (known t l s kids))
whole P t l s kids e h = subst (Each P) (sym (steps_of-known t l s kids)) (each-append P (flat_map steps_of kids) (known t l s kids ∷ []) (from_kids P kids e) (h, tt))

same_itself : (s : List WSym) → pointwise is_same s s ≡ true
same_itself [] = refl
same_itself (x ∷ xs) = ap (λ b. b && pointwise is_same xs xs) (is_same-itself x) ∙ same_itself xs

done : (bytes : List ℕ) (t : List WSym) (l : ℕ) (s : Pairs) (kids : List Plain) → applied s (statement_of bytes l) ≡ t → IsDone bytes (known t l s kids)
done bytes t l s kids e = record {
  known = ap (λ o. is_some o) (label_of-known t l s kids);
  settled = is_pending-known bytes t l s kids ∙ ap (λ u. not (pointwise is_same t u)) e ∙ ap not (same_itself t);
}

keeps : (bytes : List ℕ) (groups : List (List ℕ)) (t : List WSym) (l : ℕ) (s : Pairs) (kids : List Plain)
    → All (λ p. AreParted groups (value_of s (Var p.0)) (value_of s (Var p.1))) (stated_at bytes l).pairs → KeepsPairs bytes groups (known t l s kids)
keeps bytes groups t l s kids h =
    subst (λ o. All (λ p. AreParted groups (value_of (sigma_of (known t l s kids)) (Var p.0)) (value_of (sigma_of (known t l s kids)) (Var p.1))) (pairs_by bytes o)) (sym (label_of-known t l s kids))
    (subst (λ u. All (λ p. AreParted groups (value_of u (Var p.0)) (value_of u (Var p.1))) (stated_at bytes l).pairs) (sym (sigma_of-known t l s kids)) h)

-- a tree proves its target
abbrev pub IsProof : Terms → Plain → Type 0
IsProof c x = IsProofFor c.bytes c.at (target_of x) x

pub each_weaker : (P Q : Plain → Type 0) → ((x : Plain) → P x → Q x) → (xs : List Plain) → Each P xs → Each Q xs
each_weaker P Q f [] h = tt
each_weaker P Q f (x ∷ xs) h = (f x h.0, each_weaker P Q f xs h.1)

pub step_proves : (c : Terms) (g : List WSym) (u : Use) (kids : List Plain) → IsString (first_setting c.bytes c.at) g → IsUse c g u → Each (IsProof c) kids
    → map target_of kids ≡ map (applied u.sigma) (premises_of c.bytes u.id) → IsProofFor c.bytes c.at g (known g u.id u.sigma kids)
step_proves c g u kids string use_ proofs targets =
    let S : Setting = first_setting c.bytes c.at in
    let groups : List (List ℕ) = distinct_at c.bytes c.at in
    record {
      goal_is = target_of-known g u.id u.sigma kids;
      sound = sound-known S g u.id u.sigma kids (each_weaker (IsProof c) (IsSound S) (λ x p. p.sound) kids proofs) (record { target = string; names = use_.names; children = targets });
      complete = whole (IsDone c.bytes) g u.id u.sigma kids (each_weaker (IsProof c) (IsComplete c.bytes) (λ x p. p.complete) kids proofs) (done c.bytes g u.id u.sigma kids use_.source);
      apart = whole (KeepsPairs c.bytes groups) g u.id u.sigma kids (each_weaker (IsProof c) (IsApart c.bytes groups) (λ x p. p.apart) kids proofs) (keeps c.bytes groups g u.id u.sigma kids use_.parted);
    }
