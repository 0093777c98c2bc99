-- Marks on statements, as they are spread along uses.
use Rattle.std.specs.Prelude.{◌≡◌, ◌≤◌, ◌<◌, ◌&&◌, ◌||◌, ℕ, Bool, true, false, List, get_or, length}
use Rattle.mm_trace.specs.Uses.{Depends}

-- each use is of an earlier statement
abbrev pub IsEarlier : (ℕ → ℕ → Bool) → Type 0
IsEarlier applies = (k m : ℕ) → applies k m ≡ true → m < k

-- marks with those that statement j passes on to what it uses, if it is marked
pub record PassesOn (applies : ℕ → ℕ → Bool) (j : ℕ) (old new : List Bool) : Type 0 where
  pub count : length new ≡ length old
  pub each : (n : ℕ) → n < length old → get_or new n false ≡ (get_or old n false || (get_or old j false && applies j n))

-- Marks on some of what a statement depends on: on what it uses itself, and on what is used by marked ones from a place on.
pub record Spreads (applies : ℕ → ℕ → Bool) (id from : ℕ) (marks : List Bool) : Type 0 where
  pub sound : (n : ℕ) → n < length marks → get_or marks n false ≡ true → Depends applies id n
  pub first : (n : ℕ) → n < length marks → applies id n ≡ true → get_or marks n false ≡ true
  pub closed : (j n : ℕ) → from ≤ j → j < length marks → n < length marks → get_or marks j false ≡ true → applies j n ≡ true → get_or marks n false ≡ true

-- marks on the first numbers, on those that pass a test
pub record AreMarks (test : ℕ → Bool) (n : ℕ) (marks : List Bool) : Type 0 where
  pub count : length marks ≡ n
  pub each : (k : ℕ) → k < n → get_or marks k false ≡ test k
