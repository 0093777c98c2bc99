-- When values come into force and go out of it. Of each value the moments are kept before which that changed, in order:
-- it comes with the first change, goes with the second, and so on.
use Rattle.std.specs.Prelude.{◌≡◌, ◌≤◌, ◌<◌, ◌==◌, ◌^◌, ℕ, Bool, false, not, nat_le, List, [], ◌∷◌, length, filter, slice_index_or, All, if◌then◌else◌}
use Rattle.std.specs.List.{list_any}
use Rattle.std.specs.List.Sorted.{IsNonDecreasing}
use Rattle.mm_tables.specs.Layered.{Layered}
use Rattle.mm_tables.specs.Nesting.{Nests}
use Rattle.mm_tables.specs.Numbering.{numbers_of}

-- whether a value with these changes is in force after all of them
abbrev pub is_now : List ℕ → Bool
is_now [] = false
is_now (c ∷ cs) = not (is_now cs)

-- whether it was at a moment, after the changes up to it
abbrev pub was_at : ℕ → List ℕ → Bool
was_at k [] = false
was_at k (c ∷ cs) = if nat_le c k then not (was_at k cs) else was_at k cs

-- the first list has each value of the second once, and no other
abbrev pub HasOnce : List ℕ → List ℕ → Type 0
HasOnce once values = (v : ℕ) → filter (λ n. v == n) once ≡ (if list_any (λ n. v == n) values then v ∷ [] else [])

-- Each value in force now stands once in a list, in the order in which they came; the changes of each value tell what was
-- in force at each moment.
pub record AreChanges (l : Layered ℕ) (changes : List (List ℕ)) (standing heights : List ℕ) : Type 0 where
  pub once : HasOnce standing l.now
  pub nests : Nests HasOnce 0 heights l.outer standing
  pub now : (v : ℕ) → is_now (numbers_of changes v) ≡ list_any (λ n. v == n) l.now
  pub earlier : (v k : ℕ) → k < length l.moments → was_at k (numbers_of changes v) ≡ list_any (λ n. v == n) (slice_index_or l.moments k [])
  pub rising : (v : ℕ) → IsNonDecreasing (numbers_of changes v)
  pub past : (v : ℕ) → All (λ c. c ≤ length l.moments) (numbers_of changes v)
  pub small : length l.moments < 2 ^ 32
