-- A proof made shorter by assertions, each in the place of one step.
use Rattle.std.specs.Prelude.{ℕ, Bool, not, ◌&&◌, List, [], ◌∷◌, Option, None, Some, Result, Ok, Err, length, filter_map, nat_lt, is_some, slice_get, option_and_then, if◌then◌else◌}
use Rattle.std.specs.List.{list_all, range_with_len}
use Rattle.mm_proof.specs.Encoding.{one_line}
use Rattle.mm_proof.specs.Trees.{same_tree}
use Rattle.mm_sound.specs.LabelTrees.{label_tree}
use Rattle.mm_subst.specs.declared.symbol.WSym.{WSym}
use Rattle.mm_plain.specs.declared.plain.Plain.{Plain}
use Rattle.mm_plain.specs.Shape.{put, size_of, height_of, steps_of}
use Rattle.mm_plain.specs.Sources.{label_of, is_pending}
use Rattle.mm_plain.specs.Valid.{most_steps, most_levels}
use Rattle.mm_improve.specs.Assertions as improve
use Rattle.mm_minimize.specs.Candidates.{Terms, is_candidate}
use Rattle.mm_minimize.specs.Combinations.{replacement}
use Rattle.mm_minimize.specs.declared.fault.MinimizeFault.{MinimizeFault}
use Rattle.mm_minimize.specs.declared.fault.MinimizeFault.TheVariants.{NotComplete, NothingChanged, TooManySteps, TooDeep}

-- how many bytes the compressed proof of a tree has on one line
abbrev pub bytes_of : List ℕ → ℕ → Plain → ℕ
bytes_of bytes at x = length (one_line bytes at (label_tree x))

-- Whether a tree is taken in the place of an old one: its compressed proof is shorter; where the proof may grow, it differs.
-- In complete proofs labels decide targets, so trees differ where their labels do.
abbrev pub is_taken : improve.Terms → Terms → Plain → Plain → Bool
is_taken c t old new =
    if t.may_grow then not (same_tree (label_tree old) (label_tree new))
    else nat_lt (bytes_of c.bytes c.at new) (bytes_of c.bytes c.at old)

-- the proof with the replacement of a step, if there is one and it is taken
abbrev pub taken_at : improve.Terms → Terms → (List WSym → Option Plain) → Plain → ℕ → ℕ → Option Plain
taken_at c t prove x id s =
    option_and_then (λ y. if is_taken c t x (put x s y) then Some (put x s y) else None) (replacement c prove x s id)

-- the first replacement by an assertion that is taken, over the steps in order
abbrev pub taken_by : improve.Terms → Terms → (List WSym → Option Plain) → Plain → ℕ → Option Plain
taken_by c t prove x id = slice_get (filter_map (taken_at c t prove x id) (range_with_len 1 (size_of x))) 0

-- what a statement makes of a proof: nothing unless it is a candidate
unfoldable pub tried : improve.Terms → Terms → (List WSym → Option Plain) → Plain → ℕ → Option Plain
tried c t prove x id = if is_candidate c.bytes t x id then taken_by c t prove x id else None

-- a proof, and the statements that were used to make it, in order
pub record Minimised : Type 0 where
  pub plain : Plain
  pub used : List ℕ

-- one more statement was used before these
abbrev pub with_used : ℕ → Result Minimised MinimizeFault → Result Minimised MinimizeFault
with_used id (Ok m) = Ok (record { plain = m.plain; used = id ∷ m.used })
with_used id (Err e) = Err e

-- a tree that was taken is refused where it is too large; otherwise one goes on with it
abbrev pub onward : (Plain → Result Minimised MinimizeFault) → Plain → ℕ → Option Plain → Result Minimised MinimizeFault
onward rest x id None = rest x
onward rest x id (Some y) =
    if nat_lt most_steps (size_of y) then Err TooManySteps
    else if nat_lt most_levels (height_of y) then Err TooDeep
    else with_used id (rest y)

-- the statements in turn, each on the proof as it stands by then; at most one replacement each
unfoldable pub minimised_by : improve.Terms → Terms → (List WSym → Option Plain) → List ℕ → Plain → Result Minimised MinimizeFault
minimised_by c t prove [] x = Ok (record { plain = x; used = [] })
minimised_by c t prove (id ∷ ids) x = onward (λ y. minimised_by c t prove ids y) x id (tried c t prove x id)

-- each step is known, and none is pending
abbrev pub is_complete : List ℕ → Plain → Bool
is_complete bytes x = list_all (λ y. is_some (label_of y) && not (is_pending bytes y)) (steps_of x)

abbrev pub if_changed : Result Minimised MinimizeFault → Result Minimised MinimizeFault
if_changed (Ok m) = if nat_lt 0 (length m.used) then Ok m else Err NothingChanged
if_changed (Err e) = Err e

-- A proof made shorter by the statements before its theorem, in the database's order; or the first refusal: it isn't
-- complete; a tree that was taken has too many steps, or else too many levels; no replacement was taken.
unfoldable pub minimised : improve.Terms → Terms → (List WSym → Option Plain) → Plain → Result Minimised MinimizeFault
minimised c t prove x =
    if is_complete c.bytes x then if_changed (minimised_by c t prove (range_with_len 0 c.at) x) else Err NotComplete
