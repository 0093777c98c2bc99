-- What holds of the statements that are used to make a proof shorter.
use Rattle.std.specs.Prelude.{◌≡◌, ◌<◌, ℕ, true, false, List, [], ◌∷◌, Option, Some, Ok, All, length}
use Rattle.mm_trace.specs.Uses.{depends, is_axiom}
use Rattle.mm_subst.specs.declared.symbol.WSym.{WSym}
use Rattle.mm_plain.specs.declared.plain.Plain.{Plain}
use Rattle.mm_improve.specs.Assertions as improve
use Rattle.mm_minimize.specs.Candidates.{Terms, is_named, has_base}
use Rattle.mm_minimize.specs.Minimising.{Minimised, bytes_of, minimised, tried}

-- one proof becomes another by statements in turn, each by a replacement that is taken
abbrev pub Becomes : (Plain → ℕ → Option Plain) → Plain → List ℕ → Plain → Type 0
Becomes step x [] y = x ≡ y
Becomes step x (id ∷ used) y = (z : Plain) × ((step x id ≡ Some z) × Becomes step z used y)

-- a statement doesn't match the forbidden pattern, and depends on none that does
pub record IsAllowed (bytes : List ℕ) (t : Terms) (id : ℕ) : Type 0 where
  pub itself : is_named bytes t.forbid id ≡ false
  pub below : (m : ℕ) → is_named bytes t.forbid m ≡ true → depends bytes id m ≡ false

-- each axiom of the pattern that a statement is, or on which it depends, is one on which the proof rests already
pub record BringsNone (bytes : List ℕ) (t : Terms) (x : Plain) (id : ℕ) : Type 0 where
  pub itself : is_axiom bytes id ≡ true → is_named bytes t.no_new_axioms id ≡ true → has_base bytes x id ≡ true
  pub below : (a : ℕ) → is_axiom bytes a ≡ true → is_named bytes t.no_new_axioms a ≡ true → depends bytes id a ≡ true → has_base bytes x a ≡ true

-- a proof made shorter becomes what it is by the statements that were used, at least one
abbrev pub IsChain : Type 0
IsChain = (c : improve.Terms) (t : Terms) (prove : List WSym → Option Plain) (x : Plain) (m : Minimised) → minimised c t prove x ≡ Ok m → Becomes (tried c t prove) x m.used m.plain × (0 < length m.used)

-- its compressed proof is shorter, unless it may grow
abbrev pub IsShorter : Type 0
IsShorter = (c : improve.Terms) (t : Terms) (prove : List WSym → Option Plain) (x : Plain) (m : Minimised) → t.may_grow ≡ false → minimised c t prove x ≡ Ok m → bytes_of c.bytes c.at m.plain < bytes_of c.bytes c.at x

-- each statement that was used is allowed
abbrev pub UsesAllowed : Type 0
UsesAllowed = (c : improve.Terms) (t : Terms) (prove : List WSym → Option Plain) (x : Plain) (m : Minimised) → minimised c t prove x ≡ Ok m → All (IsAllowed c.bytes t) m.used

-- and brings no new axiom to the proof as it stands at its turn
abbrev pub BringsNoAxiom : Type 0
BringsNoAxiom = (c : improve.Terms) (t : Terms) (prove : List WSym → Option Plain) (x y : Plain) (id : ℕ) → tried c t prove x id ≡ Some y → BringsNone c.bytes t x id
