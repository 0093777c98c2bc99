-- What brackets forbid of the values of a search.
use Rattle.std.specs.Prelude.{ℕ, Bool, false, ◌&&◌, not, List, Option, None, Some, if◌then◌else◌}
use Rattle.mm_subst.specs.Brackets.{is_opened_first, are_balanced, brackets_of}
use Rattle.mm_subst.specs.declared.symbol.WSym.{WSym}
use Rattle.mm_subst.specs.declared.brackets.Brackets.{Brackets}
use Rattle.mm_unify.specs.declared.listing.Rule.{Rule}

-- what is forbidden of a value so far, and of a value that is listed
pub record Forbidden : Type 0 where
  pub so_far : List WSym → Bool
  pub at_end : List WSym → Bool

-- no prefix closes more than it opens, in any of the three pairs
abbrev pub are_opened_first : Brackets → List WSym → Bool
are_opened_first bs s = is_opened_first bs.round s && is_opened_first bs.curly s && is_opened_first bs.square s

-- a value whose brackets close too early, and one that is not balanced; nothing where there are no brackets to heed
abbrev pub forbidden_by : Option Brackets → Forbidden
forbidden_by None = record { so_far = λ s. false; at_end = λ s. false }
forbidden_by (Some bs) = record { so_far = λ s. not (are_opened_first bs s); at_end = λ s. not (are_balanced bs s) }

-- the pairs of a database that a rule heeds
abbrev pub heeded : List ℕ → Rule → Option Brackets
heeded bytes rule = if rule.brackets then Some (brackets_of bytes) else None

abbrev pub forbidden : List ℕ → Rule → Forbidden
forbidden bytes rule = forbidden_by (heeded bytes rule)
