-- The letters of steps (Metamath book, Appendix B). The labels by number are given, so their order is free.
use Rattle.std.specs.Prelude.{◌≡◌, ◌≢◌, ℕ, ◌+◌, Bool, true, false, ◌==◌, ◌||◌, List, [], ◌∷◌, ◌++◌, length, slice_get, Some, if◌then◌else◌}
use Rattle.std.specs.List.{flat_map}
use Rattle.mm_proof.specs.declared.step.ProofStep.{ProofStep}
use Rattle.mm_proof.specs.declared.step.StepKind.{StepKind}
use Rattle.mm_proof.specs.declared.step.StepKind.TheVariants as kind
use Rattle.mm_proof.specs.declared.written.Step.{Step}
use Rattle.mm_proof.specs.declared.written.Step.TheVariants.{Label, Unknown, Back}
use Rattle.mm_proof.specs.Numbers.{letters_of}

-- how many numbers stand before a number
abbrev pub place_in : List ℕ → ℕ → ℕ
place_in [] n = 0
place_in (m ∷ ms) n = if m == n then 0 else 1 + place_in ms n

abbrev pub is_among : List ℕ → ℕ → Bool
is_among [] n = false
is_among (m ∷ ms) n = m == n || is_among ms n

-- the number of a step, from 1 on; 0 for `?`
abbrev pub number_of : List ℕ → List ℕ → Step → ℕ
number_of labels tags (Label l) = place_in labels l + 1
number_of labels tags Unknown = 0
number_of labels tags (Back k) = length labels + place_in tags k + 1

abbrev pub spelled : ℕ → List ℕ
spelled n = if n == 0 then 63 ∷ [] else letters_of n

abbrev pub with_tag : Bool → List ℕ
with_tag true = 90 ∷ []
with_tag false = []

abbrev pub tags_then : Bool → List ℕ → ℕ → List ℕ
tags_then true tags i = tags ++ i ∷ []
tags_then false tags i = tags

-- the letters of steps, of which the first has the place i, where some places have a tag
unfoldable pub letters_from : List ℕ → (ℕ → Bool) → ℕ → List ℕ → List Step → List ℕ
letters_from labels tagged i tags [] = []
letters_from labels tagged i tags (s ∷ ss) =
    spelled (number_of labels tags s) ++ (with_tag (tagged i) ++ letters_from labels tagged (i + 1) (tags_then (tagged i) tags i) ss)

-- whether some back reference names a step
abbrev pub is_named : List Step → ℕ → Bool
is_named [] k = false
is_named (Label l ∷ ss) k = is_named ss k
is_named (Unknown ∷ ss) k = is_named ss k
is_named (Back j ∷ ss) k = j == k || is_named ss k

abbrev pub letters : List ℕ → List Step → List ℕ
letters labels steps = letters_from labels (is_named steps) 0 [] steps

-- the labels that stand in steps, in order of first use, but those of the mandatory hypotheses
abbrev pub used : List ℕ → List ℕ → List Step → List ℕ
used own so_far [] = so_far
used own so_far (Label l ∷ ss) = if is_among (own ++ so_far) l then used own so_far ss else used own (so_far ++ l ∷ []) ss
used own so_far (Unknown ∷ ss) = used own so_far ss
used own so_far (Back k ∷ ss) = used own so_far ss

-- a label has a number, and a back reference names an earlier step that is not unknown
abbrev pub IsSpellable : List ℕ → List Step → Step → Type 0
IsSpellable labels done (Label l) = is_among labels l ≡ true
IsSpellable labels done Unknown = Unit {0}
IsSpellable labels done (Back k) = (s : Step) × (slice_get done k ≡ Some s) × (s ≢ Unknown)

abbrev pub AreSpellable : List ℕ → List Step → List Step → Type 0
AreSpellable labels done [] = Unit {0}
AreSpellable labels done (s ∷ ss) = IsSpellable labels done s × AreSpellable labels (done ++ s ∷ []) ss

-- the one line of a proof
abbrev pub line_of : (ℕ → List ℕ) → List ℕ → List ℕ → List ℕ
line_of name list ls = 40 ∷ 32 ∷ flat_map (λ l. name l ++ 32 ∷ []) list ++ (41 ∷ 32 ∷ ls)

-- each label of the steps
abbrev pub HasLabels : List ℕ → List Step → Type 0
HasLabels labels [] = Unit {0}
HasLabels labels (Label l ∷ ss) = (is_among labels l ≡ true) × HasLabels labels ss
HasLabels labels (Unknown ∷ ss) = HasLabels labels ss
HasLabels labels (Back k ∷ ss) = HasLabels labels ss

-- the bytes of the labels, each with a space behind it
abbrev pub names_len : (ℕ → List ℕ) → List ℕ → ℕ
names_len name [] = 0
names_len name (l ∷ ls) = length (name l) + 1 + names_len name ls

-- the step that is read of a written one, where labels stand for these
abbrev pub kind_for : (ℕ → StepKind) → Step → StepKind
kind_for f (Label l) = f l
kind_for f Unknown = kind.Unknown
kind_for f (Back k) = kind.Back (k + 1)

-- the steps that are read of written ones, of which the first has the place i, where some places have a tag
abbrev pub steps_tagged : (ℕ → StepKind) → (ℕ → Bool) → ℕ → List Step → List ProofStep
steps_tagged f tagged i [] = []
steps_tagged f tagged i (s ∷ ss) = record { kind = kind_for f s; tagged = tagged i } ∷ steps_tagged f tagged (i + 1) ss

-- the steps that are read of written ones: a step has a tag if some back reference names it
abbrev pub steps_read : (ℕ → StepKind) → List Step → List ProofStep
steps_read f steps = steps_tagged f (is_named steps) 0 steps
