-- What waits in a search against a string without work variables.
use Rattle.std.specs.Prelude.{ℕ, ◌≡◌, ◌+◌, ◌-◌, ◌<◌, ◌≤◌, Bool, false, cond, List, [], ◌∷◌, ◌++◌, map, take, drop, length, reverse, nat_lt}
use Rattle.std.specs.List.{AllByRecursion, list_any}
use Rattle.mm_subst.specs.Substitutions.{Pairs, applied}
use Rattle.mm_subst.specs.Applied.{most_symbols}
use Rattle.mm_subst.specs.declared.symbol.WSym.{WSym}
use Rattle.mm_subst.specs.declared.symbol.WSym.TheVariants.{Work}
use Rattle.mm_unify.specs.declared.bound.Bound.{Bound}
use Rattle.mm_unify.specs.declared.advance.Open.{Open}
use Rattle.mm_unify.specs.declared.frame.Frame.{Frame}
use Rattle.mm_unify.specs.declared.frame.Kind.{Kind}
use Rattle.mm_unify.specs.declared.frame.Kind.TheVariants.{First, Whole, Longer}
use Rattle.mm_unify.specs.Variables.{numbers}
use Rattle.mm_unify.specs.Unifying.{restricted}
use Rattle.mm_unify.specs.Forbidden.{Forbidden}
use Rattle.mm_unify.specs.Search.{Node, plain_count, visit}
use Rattle.mm_unify.specs.Parts.{part, parts_of, AreWithin, Opens}

-- the node after j equal heads
abbrev pub node_of : List WSym → List WSym → Pairs → ℕ → Node
node_of a b theta j = record { left = drop j (applied theta a); right = drop j b; values = restricted theta (numbers (a ++ b)) }

-- one more value
abbrev pub with_value : List WSym → List Bound → ℕ → List WSym → Pairs
with_value b path n w = parts_of b path ++ (Work n, w) ∷ []

-- the value of the open variable
abbrev pub open_value : List WSym → Open → List WSym
open_value b o = part b o.from o.to ++ Work o.number ∷ []

abbrev pub theta_by : Kind → List WSym → List Bound → ℕ → ℕ → ℕ → Pairs
theta_by First b path n from to = parts_of b path
theta_by Whole b path n from to = with_value b path n (part b from (to + 1))
theta_by Longer b path n from to = with_value b path n (part b from (to + 1) ++ Work n ∷ [])

abbrev pub theta_of : List WSym → List Bound → Frame → Pairs
theta_of b path f = theta_by f.kind b path f.number f.from f.to

-- what a frame means, on the variables that are bound before it
abbrev pub node_at : List WSym → List WSym → List Bound → Frame → Node
node_at a b path f = node_of a b (theta_of b path f) f.to

abbrev pub length_by : Kind → ℕ → ℕ → ℕ
length_by First from to = 1
length_by Whole from to = (to + 1) - from
length_by Longer from to = (to + 2) - from

abbrev pub some_early : Forbidden → List WSym → List WSym → Pairs → Bool
some_early rule a b theta = list_any (λ q. rule.so_far q.1) (restricted theta (numbers (a ++ b)))

abbrev pub some_long : List WSym → List WSym → Pairs → Bool
some_long a b theta = list_any (λ q. nat_lt most_symbols (length q.1)) (restricted theta (numbers (a ++ b)))

-- what holds of the step of a frame
abbrev pub StepFits : Kind → Forbidden → List WSym → List WSym → List Bound → Frame → Type 0
StepFits First rule a b path f = (path ≡ []) × (f.to ≡ 0)
StepFits _ rule a b path f =
    Opens a b path (record { at = f.at; number = f.number; from = f.from; to = f.to }) × (f.to < length b) × (some_early rule a b (parts_of b path) ≡ false)

-- and of the frame
pub record Fits (rule : Forbidden) (a b : List WSym) (path : List Bound) (f : Frame) : Type 0 where
  pub step : StepFits f.kind rule a b path f
  pub within : AreWithin b path
  pub short : some_long a b (parts_of b path) ≡ false
  pub total : f.total ≡ plain_count (applied (theta_of b path f) a)
  pub early : f.early ≡ some_early rule a b (theta_of b path f)

-- what holds where a variable's value is to grow
pub record MayGrow (rule : Forbidden) (a b : List WSym) (path : List Bound) (o : Open) (total : ℕ) (early : Bool) : Type 0 where
  pub opens : Opens a b path o
  pub within : AreWithin b path
  pub short : some_long a b (parts_of b path) ≡ false
  pub fine : early ≡ false → some_early rule a b (parts_of b path) ≡ false
  pub total_is : total ≡ plain_count (applied (with_value b path o.number (open_value b o)) a)
  pub early_is : early ≡ some_early rule a b (with_value b path o.number (open_value b o))

-- the frames that a visit adds
pub record Adds (rule : Forbidden) (a b : List WSym) (path : List Bound) (node : Node) (before now : List Frame) : Type 0 where
  pub fresh : List Frame
  pub now_is : now ≡ before ++ fresh
  pub nodes : map (node_at a b path) fresh ≡ reverse (visit rule node).children
  pub fit : AllByRecursion (λ f. (f.depth ≡ length path) × Fits rule a b path f) fresh

-- what a frame means among the variables that are bound now
abbrev pub node_in : List WSym → List WSym → List Bound → Frame → Node
node_in a b path f = node_at a b (take f.depth path) f

-- what a visit of a frame does: the variables bound before it stay, its node's children are added, and a solution is found
pub record Visits (rule : Forbidden) (a b : List WSym) (f : Frame) (path path' : List Bound) (frames frames' : List Frame) (found found' : List Pairs) : Type 0 where
  pub kept : take f.depth path' ≡ take f.depth path
  pub deep : f.depth ≤ length path'
  pub adds : Adds rule a b path' (node_in a b path f) frames frames'
  pub found_is : found' ≡ found ++ (visit rule (node_in a b path f)).found

-- values are listed as a solution where none of them is forbidden
abbrev pub Lists : Forbidden → Pairs → List Pairs → List Pairs → Type 0
Lists rule values found found' = found' ≡ found ++ cond (list_any (λ q. rule.at_end q.1) values) [] (values ∷ [])

-- the variables that are bound in a frame's node: those before it, and its own where its value ends
abbrev pub bound_path : Kind → Frame → List Bound → List Bound
bound_path First f path = take f.depth path
bound_path Whole f path = take f.depth path ++ record { number = f.number; from = f.from; to = f.to + 1 } ∷ []
bound_path Longer f path = take f.depth path

-- the frame of the first node
abbrev pub first_of : ℕ → Frame
first_of total = record { kind = First; depth = 0; at = 0; number = 0; from = 0; to = 0; total = total; early = false }
