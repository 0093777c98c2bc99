-- What is known of a plan after one step more, and of one whose steps are all laid out.
use Rattle.std.specs.Prelude.{◌≡◌, ℕ, ◌-◌, ◌≤◌, List, [], ◌∷◌, ◌++◌, length, get_or, Option}
use Rattle.std.specs.List.{sum_by}
use Rattle.mm_subst.specs.Statements.{statement_of}
use Rattle.mm_unify.specs.declared.listing.Settings.{Settings}
use Rattle.mm_plain.specs.Shape.{size_of, target_of}
use Rattle.mm_tree.specs.Plans.{Grove, IsPlan, grove_of, no_tree}
use Rattle.mm_tree.specs.declared.plan.Plan.{Plan}
use Rattle.mm_edit.specs.LaidOut.{IsLaidOut}

-- where the labels of the tree of a step begin, which stands last
abbrev pub begin_of : Grove → ℕ → ℕ
begin_of g step = sum_by size_of g.standing - size_of (get_or g.made step no_tree)

-- a plan is laid out by its steps
pub record IsLaidPlan (bytes : List ℕ) (at : ℕ) (set : Settings) (labels : List (Option ℕ)) (begins : List ℕ) (p : Plan) : Type 0 where
  pub plan : IsPlan p
  pub laid : IsLaidOut bytes at set labels (grove_of p) begins

-- so it is with one step more than begins, whose tree stands last
pub record HasOneMore (bytes : List ℕ) (at : ℕ) (set : Settings) (labels : List (Option ℕ)) (begins : List ℕ) (p : Plan) : Type 0 where
  pub all : IsLaidPlan bytes at set labels (begins ++ begin_of (grove_of p) (length begins) ∷ []) p
  pub last : size_of (get_or (grove_of p).made (length begins) no_tree) ≤ sum_by size_of (grove_of p).standing

-- one tree stands, which has as many steps as there are labels and proves the theorem
pub record IsWhole (bytes : List ℕ) (at : ℕ) (labels : List (Option ℕ)) (g : Grove) : Type 0 where
  pub one : length g.standing ≡ 1
  pub steps : sum_by size_of g.standing ≡ length labels
  pub goal : target_of (get_or g.standing 0 no_tree) ≡ statement_of bytes at
