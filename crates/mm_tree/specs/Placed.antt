-- What placing, and drawing work variables, answer.
use Rattle.std.specs.Prelude.{◌≡◌, ℕ, zero, suc, ◌+◌, ◌≤◌, ◌<◌, List, map, Result, Ok, Err}
use Rattle.mm_subst.specs.declared.symbol.WSym.{WSym}
use Rattle.mm_subst.specs.Substitutions.{Pairs, applied}
use Rattle.mm_plain.specs.Shape.{Proof, size_of, height_of}
use Rattle.mm_plain.specs.Grafts.{raised}
use Rattle.mm_plain.specs.Valid.{most_works, most_steps, most_levels}
use Rattle.mm_tree.specs.Meanings.{unknown_timed, known_timed}
use Rattle.mm_tree.specs.Trees.{State}
use Rattle.mm_tree.specs.declared.timed.Text.{Text}
use Rattle.mm_tree.specs.declared.timed.TimedTree.{TimedTree}
use Rattle.mm_tree.specs.declared.fault.WorkSpent.{WorkSpent}
use Rattle.mm_tree.specs.declared.fault.GraftFault.{GraftFault}
use Rattle.mm_tree.specs.declared.fault.GraftFault.TheVariants.{TooManySteps, TooDeep, Memory}

-- how many levels a known step over so many unknown ones has
abbrev pub levels_over : ℕ → ℕ
levels_over zero = 1
levels_over (suc n) = 2

-- The proof is now p, which is not too large; or p is, in steps or else in levels, or memory ran out, and nothing changed.
abbrev pub IsPlaced : Result Unit GraftFault → State → State → Proof → Type 0
IsPlaced (Ok u) old now p = (now.proof ≡ p) × (size_of p.plain ≤ most_steps) × (height_of p.plain ≤ most_levels)
IsPlaced (Err TooManySteps) old now p = (now ≡ old) × (most_steps < size_of p.plain)
IsPlaced (Err TooDeep) old now p = (now ≡ old) × (size_of p.plain ≤ most_steps) × (most_levels < height_of p.plain)
IsPlaced (Err Memory) old now p = now ≡ old

-- The proof p is not too large; or it is, in steps or else in levels.
abbrev pub HasRoom : Result Unit GraftFault → Proof → Type 0
HasRoom (Ok u) p = (size_of p.plain ≤ most_steps) × (height_of p.plain ≤ most_levels)
HasRoom (Err TooManySteps) p = most_steps < size_of p.plain
HasRoom (Err TooDeep) p = (size_of p.plain ≤ most_steps) × (most_levels < height_of p.plain)
HasRoom (Err Memory) p = ⊥

-- The counter is raised by n, and the first number drawn was what it stood at; or a number above the greatest would be drawn,
-- and nothing changed.
abbrev pub IsDrawn : Result ℕ WorkSpent → State → State → ℕ → Type 0
IsDrawn (Ok first) old now n = (first ≡ old.proof.next) × (now ≡ record old { proof = raised n old.proof }) × (old.proof.next + n ≤ most_works + 1)
IsDrawn (Err e) old now n = (now ≡ old) × (most_works + 1 < old.proof.next + n)

-- unknown steps for strings under a substitution, and a known step over them, as they are kept
abbrev pub unknowns_timed : ℕ → Pairs → List (List WSym) → List TimedTree
unknowns_timed birth sigma premises = map (λ (h : List WSym). unknown_timed (record { birth = birth; string = applied sigma h })) premises

abbrev pub placed_timed : ℕ → Text → ℕ → Pairs → List (List WSym) → TimedTree
placed_timed birth target id sigma premises = known_timed target id (record { birth = birth; pairs = sigma }) (unknowns_timed birth sigma premises)
