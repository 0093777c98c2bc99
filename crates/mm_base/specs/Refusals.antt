-- The words with which the meaning of a call is written that may refuse.
use Rattle.std.specs.Prelude.{Bool, List, [], ◌∷◌, Option, Some, None, Result, Ok, Err, if◌then◌else◌}

-- the refusal of the first row whose test holds; else what follows
unfoldable pub unless : {A E : Type 0} → List (Bool × E) → Result A E → Result A E
unless [] r = r
unless (row ∷ rows) r = if row.0 then Err row.1 else unless rows r

-- what follows with what is found, unless that is refused
unfoldable pub given : {A B E : Type 0} → Result A E → (A → Result B E) → Result B E
given (Ok a) f = f a
given (Err e) f = Err e

-- what is there, or the refusal
abbrev pub found_or : {A E : Type 0} → Option A → E → Result A E
found_or (Some a) e = Ok a
found_or None e = Err e
