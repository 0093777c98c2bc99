-- What is known of a text after a past, by looking back over the whole past.
use Rattle.std.specs.Prelude.{ℕ, zero, Bool, true, false, not, ◌==◌, List, [], ◌∷◌, Option, None, Some, length, position, slice_index}
use Rattle.std.specs.List.{list_any}
use Rattle.std.specs.Str.{bytes_eq}
use Rattle.mm_scope.specs.Events.{Event, constant, variable, float, opened, closed, symbols, labels, open_blocks}
use Rattle.mm_tables.specs.Moves.{Move, in_force}
use Rattle.mm_tables.specs.Moves as move
use Rattle.mm_scope.specs.Steps.{Answers}
use Rattle.mm_scope.specs.declared.ending.Ending.{Ending}
use Rattle.mm_scope.specs.declared.ending.Ending.TheVariants.{Active, Floated}

-- the numbers of the constants
unfoldable pub constants : List Event → List ℕ
constants [] = []
constants (constant t n ∷ past) = n ∷ constants past
constants (_ ∷ past) = constants past

-- blocks, and what ends with them
unfoldable pub moves : List Event → List (Move Ending)
moves [] = []
moves (variable t n ∷ past) = move.item (Active n ∷ []) ∷ moves past
moves (float l ss d ∷ past) = move.item (Floated (slice_index ss 1) ∷ []) ∷ moves past
moves (opened p ∷ past) = move.opened ∷ moves past
moves (closed ∷ past) = move.closed ∷ moves past
moves (_ ∷ past) = moves past

abbrev pub is_active_of : ℕ → Ending → Bool
is_active_of n (Active m) = n == m
is_active_of n (Floated m) = false

abbrev pub is_floated_of : ℕ → Ending → Bool
is_floated_of n (Active m) = false
is_floated_of n (Floated m) = n == m

abbrev pub known_as : List Event → List ℕ → Option ℕ → Answers
known_as past t None = record {
  number = length (symbols past);
  known = false;
  constant = false;
  active = false;
  floated = false;
  label = list_any (bytes_eq t) (labels past);
  deep = not (length (open_blocks past) == 0);
}
known_as past t (Some n) = record {
  number = n;
  known = true;
  constant = list_any (λ m. n == m) (constants past);
  active = list_any (is_active_of n) (in_force zero (moves past));
  floated = list_any (is_floated_of n) (in_force zero (moves past));
  label = list_any (bytes_eq t) (labels past);
  deep = not (length (open_blocks past) == 0);
}

abbrev pub look_back : List Event → List ℕ → Answers
look_back past t = known_as past t (position (bytes_eq t) (symbols past))
