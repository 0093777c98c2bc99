-- The labels of trees as they are laid one behind the other.
use Rattle.std.specs.Prelude.{◌≡◌, ◌≤◌, ℕ, ◌+◌, ◌-◌, List, [], ◌∷◌, ◌++◌, length, slice_get, slice_range, Option, None, Some, unwrap_or, nat_le, if◌then◌else◌}
use Rattle.mm_proof.specs.Trees.{Tree, postorder}
use Rattle.mm_proof.specs.Parts.{one}
use Rattle.mm_proof.specs.declared.flat.Stretch.{Stretch}
use Rattle.mm_proof.specs.declared.step.StepKind.{StepKind}
use Rattle.mm_proof.specs.declared.step.StepKind.TheVariants.{Hyp, Apply, Back, Unknown}

abbrev pub begin_at : List ℕ → ℕ → ℕ → ℕ
begin_at stack from end = unwrap_or (slice_get stack from) end

-- a stretch of labels, if it is there, is laid once more
abbrev pub laid_again : List ℕ → Option Stretch → List ℕ
laid_again before None = before
laid_again before (Some s) = if nat_le s.end (length before) then before ++ slice_range before s.begin s.end else before

-- the labels after a step, where the trees before it stand in these stretches
abbrev pub Lays : List ℕ → List ℕ → List Stretch → StepKind → Type 0
Lays before after trees (Hyp s) = after ≡ before ++ (s.0 + 1) ∷ []
Lays before after trees (Apply s) = after ≡ before ++ (s.0 + 1) ∷ []
Lays before after trees (Back k) = after ≡ laid_again before (slice_get trees (k - 1))
Lays before after trees Unknown = after ≡ before ++ 0 ∷ []

-- labels that begin where the trees on a stack do
abbrev pub AreBegins : ℕ → List ℕ → List Tree → Type 0
AreBegins n [] [] = Unit {0}
AreBegins n [] (t ∷ ts) = ⊥
AreBegins n (b ∷ bs) [] = ⊥
AreBegins n (b ∷ bs) (t ∷ ts) = (b ≡ n) × AreBegins (n + length (postorder (one t))) bs ts

pub record IsStretch (labels : List ℕ) (s : Stretch) (t : Tree) : Type 0 where
  pub ordered : s.begin ≤ s.end
  pub within : s.end ≤ length labels
  pub is : slice_range labels s.begin s.end ≡ postorder (one t)

-- the labels of trees stand in these stretches
abbrev pub AreStretches : List ℕ → List Stretch → List Tree → Type 0
AreStretches labels [] [] = Unit {0}
AreStretches labels [] (t ∷ ts) = ⊥
AreStretches labels (s ∷ ss) [] = ⊥
AreStretches labels (s ∷ ss) (t ∷ ts) = IsStretch labels s t × AreStretches labels ss ts
