-- What is in force, by looking back over the whole past (Metamath book, section 4.2.8). A past is a list of moves, the
-- newest first: items come into force, blocks begin and end, and a moment is noted.
use Rattle.std.specs.Prelude.{ℕ, zero, suc, List, [], ◌∷◌, ◌++◌, nat_le, if◌then◌else◌}

pub data Move (X : Type 0) : Type 0 where
  item : List X → Move X
  opened : Move X
  closed : Move X
  noted : Move X

module _ {X : Type 0} where
  -- what is in force, the oldest first; looking back, n is how many closed blocks the look is inside
  unfoldable pub in_force : ℕ → List (Move X) → List X
  in_force n [] = []
  in_force n (closed ∷ past) = in_force (suc n) past
  in_force zero (opened ∷ past) = in_force zero past
  in_force (suc n) (opened ∷ past) = in_force n past
  in_force zero (item xs ∷ past) = in_force zero past ++ xs
  in_force (suc n) (item xs ∷ past) = in_force (suc n) past
  in_force n (noted ∷ past) = in_force n past

  -- how many moments were noted
  unfoldable pub notes : List (Move X) → ℕ
  notes [] = 0
  notes (noted ∷ past) = suc (notes past)
  notes (_ ∷ past) = notes past

  -- the past before moment k, counted from 0
  unfoldable pub before : ℕ → List (Move X) → List (Move X)
  before k [] = []
  before k (m ∷ past) = if nat_le (notes (m ∷ past)) k then m ∷ past else before k past
