-- A child by the step that it holds, and a tree with the subtree at a step replaced, under any bindings.
use Rattle.std.specs.Prelude.{◌≡◌, ℕ, ◌+◌, ◌≤◌, ◌<◌, max, List, [], set}
use Rattle.mm_plain.specs.Shape.{known, put, step_at, depth_at, greatest}
use Rattle.std.specs.Prelude.{map}
use Rattle.mm_tree.specs.Lines.{Line}
use Rattle.mm_tree.specs.declared.timed.Text.{Text}
use Rattle.mm_tree.specs.declared.timed.Values.{Values}
use Rattle.mm_tree.specs.declared.timed.TimedTree.{TimedTree}
use Rattle.mm_tree.specs.Meanings.{mean, means, count, youngest, text_now, sigma_now}

-- step k of x is step `left` of its child d
pub record IsChild (x d : TimedTree) (k left : ℕ) : Type 0 where
  pub smaller : count d < count x
  pub first : 1 ≤ left
  pub last : left ≤ count d
  pub same_step : (line : Line) → step_at (mean d line) left ≡ step_at (mean x line) k
  pub deeper : depth_at (mean x []) k ≡ depth_at (mean d []) left + 1
  pub older : youngest d ≤ youngest x

-- step k of x is its root
pub record IsRoot (x : TimedTree) (k : ℕ) : Type 0 where
  pub whole : (line : Line) → step_at (mean x line) k ≡ mean x line
  pub top : depth_at (mean x []) k ≡ 0

-- y is a known step with these strings and these children, but with another child at a place
pub record IsRebuilt (t : Text) (l : ℕ) (s : Values) (kids : List TimedTree) (at : ℕ) (child y : TimedTree) : Type 0 where
  pub meaning : (line : Line) → mean y line ≡ known (text_now line t) l (sigma_now line s) (set (means line kids) at (mean child line))
  pub births : youngest y ≤ max (max t.birth (max s.birth (greatest (map youngest kids)))) (youngest child)

-- y is x with `new` at step k
pub record IsPut (x : TimedTree) (k : ℕ) (new y : TimedTree) : Type 0 where
  pub meaning : (line : Line) → mean y line ≡ put (mean x line) k (mean new line)
  pub births : youngest y ≤ max (youngest x) (youngest new)
