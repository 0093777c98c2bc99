-- What the tree of a list of labels answers.
use Rattle.std.specs.Prelude.{◌≡◌, ℕ, ◌+◌, ◌≤◌, ◌<◌, List, Option, Some, Result, Ok, Err}
use Rattle.std.specs.List.{sum_by}
use Rattle.mm_plain.specs.declared.plain.Plain.{Plain}
use Rattle.mm_plain.specs.Drawing.{draws_by}
use Rattle.mm_plain.specs.LabelTrees.{tree_of}
use Rattle.mm_plain.specs.Shape.{Proof, height_of}
use Rattle.mm_plain.specs.Valid.{most_levels, most_works}
use Rattle.mm_tree.specs.Trees.{State}
use Rattle.mm_tree.specs.declared.labelled.OfLabelsFault.{OfLabelsFault}
use Rattle.mm_tree.specs.declared.labelled.OfLabelsFault.TheVariants.{WorkSpent, Memory}

-- how many work variables the steps of labels need
abbrev pub draws_all : List ℕ → List (Option ℕ) → ℕ
draws_all bytes labels = sum_by (draws_by bytes) labels

-- So many are needed, which may be drawn; or more than may be are.
abbrev pub AreCounted : Result ℕ OfLabelsFault → ℕ → Type 0
AreCounted (Ok n) needed = (n ≡ needed) × (needed ≤ most_works)
AreCounted (Err WorkSpent) needed = most_works < needed
AreCounted (Err Memory) needed = Unit {0}

-- The tree has the proof p; or more work variables than may be drawn were for it.
abbrev pub IsBegun : Result State OfLabelsFault → Proof → Type 0
IsBegun (Ok t) p = (t.proof ≡ p) × (p.next ≤ most_works + 1)
IsBegun (Err WorkSpent) p = most_works + 1 < p.next
IsBegun (Err Memory) p = Unit {0}

-- labels fold to one tree, which is not too high
abbrev pub FoldLow : List ℕ → List (Option ℕ) → Type 0
FoldLow bytes labels = (x : Plain) × (tree_of bytes labels ≡ Some x) × (height_of x ≤ most_levels)
