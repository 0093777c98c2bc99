-- What is kept of a past: what is in force, where each open block began and at each moment that was noted.
use Rattle.std.specs.Prelude.{◌-◌, List, [], ◌∷◌, ◌++◌, length, take, slice_index_or}
use Rattle.mm_tables.specs.Moves.{Move, item, opened, closed, noted}

pub record Layered (X : Type 0) : Type 0 where
  -- what is in force, the oldest first
  pub now : List X
  -- what was in force where each open block began, the innermost last
  pub outer : List (List X)
  -- what was in force at each noted moment, in order
  pub moments : List (List X)

module _ {X : Type 0} where
  abbrev pub nothing : Layered X
  nothing = record { now = []; outer = []; moments = [] }

  -- items come into force
  abbrev pub pushed : Layered X → List X → Layered X
  pushed l xs = record l { now = l.now ++ xs }

  -- a block begins
  abbrev pub begun : Layered X → Layered X
  begun l = record l { outer = l.outer ++ l.now ∷ [] }

  -- the innermost block ends: what was in force where it began is again
  abbrev pub ended : Layered X → Layered X
  ended l = record l { now = slice_index_or l.outer (length l.outer - 1) []; outer = take (length l.outer - 1) l.outer }

  -- the moment is noted
  abbrev pub marked : Layered X → Layered X
  marked l = record l { moments = l.moments ++ l.now ∷ [] }

  -- what is kept of a past
  unfoldable pub layered : List (Move X) → Layered X
  layered [] = nothing
  layered (item xs ∷ past) = pushed (layered past) xs
  layered (opened ∷ past) = begun (layered past)
  layered (closed ∷ past) = ended (layered past)
  layered (noted ∷ past) = marked (layered past)
