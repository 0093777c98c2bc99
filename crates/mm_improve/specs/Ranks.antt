-- Ranks, and the chosen proof of a goal.
use Rattle.std.specs.Prelude.{ℕ, zero, suc, ◌≡◌, ◌≤◌, List, [], map, Option, None, Some, Bool, cond, nat_le, if◌then◌else◌}
use Rattle.std.specs.List.{list_all, flat_map}
use Rattle.std.specs.Cmp.Lexicographic.{pointwise}
use Rattle.mm_scope.specs.Contents.{active_at}
use Rattle.mm_subst.specs.declared.symbol.WSym.{WSym}
use Rattle.mm_subst.specs.Symbols.{is_same}
use Rattle.mm_subst.specs.Substitutions.{Pairs}
use Rattle.mm_subst.specs.Statements.{statement_of}
use Rattle.mm_plain.specs.declared.plain.Plain.{Plain}
use Rattle.mm_plain.specs.Shape.{unknown, known}
use Rattle.mm_plain.specs.Lengths.{is_long}
use Rattle.mm_chart.specs.Options.{is_there, or_else, on, first}
use Rattle.mm_improve.specs.Assertions.{Terms, plain_assertions, matches, parts}

-- what the last step of a proof names, with its substitution
pub record Use : Type 0 where
  pub id : ℕ
  pub sigma : Pairs

-- the rank of a goal, and the last step of its chosen proof
pub record Chosen : Type 0 where
  pub rank : ℕ
  pub use_ : Use

abbrev pub at_rank : ℕ → Use → Chosen
at_rank r u = record { rank = r; use_ = u }

-- the first active hypothesis that is the goal
abbrev pub hypothesis : Terms → List WSym → Option Use
hypothesis c g = on (λ id. record { id = id; sigma = [] }) (first (λ id. pointwise is_same g (statement_of c.bytes id)) (active_at c.bytes c.at))

-- all matches of the goal with plain assertions, in the order of the database, and of each in the order of the unifiers
abbrev pub uses : Terms → List WSym → List Use
uses c g = flat_map (λ id. map (λ sigma. record { id = id; sigma = sigma }) (matches c g id)) (plain_assertions c)

-- whether the goals of all hypotheses have a proof
abbrev pub serves : Terms → (List WSym → Option Chosen) → Use → Bool
serves c proof u = list_all (λ g. is_there (proof g)) (parts c.bytes u.id u.sigma)

-- a goal with too many symbols has none
abbrev pub unless_long : List WSym → Option Chosen → Option Chosen
unless_long g o = if is_long g then None else o

-- The chosen proof of a goal whose rank is at most r. At the next rank it is the one that the goal has already, and
-- otherwise the first use for which the goals of all hypotheses have one.
unfoldable pub chosen : Terms → ℕ → List WSym → Option Chosen
chosen c zero g = unless_long g (on (at_rank 0) (hypothesis c g))
chosen c (suc r) g = unless_long g (or_else (chosen c r g) (on (at_rank (suc r)) (first (serves c (chosen c r)) (uses c g))))

-- a proof as far as a rank
abbrev pub limited : ℕ → Option Chosen → Option Chosen
limited r None = None
limited r (Some x) = cond (nat_le x.rank r) (Some x) None

-- the chosen proof, which the goal has from its rank on; or the goal has none at any rank
abbrev pub IsAnswer : Terms → List WSym → Option Chosen → Type 0
IsAnswer c g answer = (r : ℕ) → chosen c r g ≡ limited r answer

abbrev pub grown : List ℕ → (List WSym → Plain) → List WSym → Option Chosen → Plain
grown bytes part g None = unknown g
grown bytes part g (Some x) = known g x.use_.id x.use_.sigma (map part (parts bytes x.use_.id x.use_.sigma))

-- the chosen proof of a goal whose rank is at most r, as a tree
unfoldable pub tree : Terms → ℕ → List WSym → Plain
tree c zero g = grown c.bytes unknown g (chosen c zero g)
tree c (suc r) g = grown c.bytes (tree c r) g (chosen c (suc r) g)

-- the tree of the chosen proof of a goal that has one
pub record IsChosenProof (c : Terms) (g : List WSym) (x : Plain) : Type 0 where
  pub choice : Chosen
  pub answer : IsAnswer c g (Some choice)
  pub tree_is : (r : ℕ) → choice.rank ≤ r → x ≡ tree c r g
