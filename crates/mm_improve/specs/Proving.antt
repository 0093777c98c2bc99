-- The proof that is found for a goal at a depth.
use Rattle.std.specs.Prelude.{ℕ, zero, suc, ◌≡◌, ◌*◌, ◌≤◌, ◌<◌, ◌&&◌, false, List, ◌∷◌, map, filter, flat_map, length, Option, None, Some, Result, Ok, Err, if◌then◌else◌}
use Rattle.std.specs.List.{range_with_len}
use Rattle.mm_scope.specs.Contents.{labels_of, symbols_of, stated_at}
use Rattle.mm_stated.specs.Stated.{is_essential}
use Rattle.mm_subst.specs.declared.symbol.WSym.{WSym}
use Rattle.mm_subst.specs.Applied.{most_symbols}
use Rattle.mm_subst.specs.Substitutions.{Pairs, applied}
use Rattle.mm_subst.specs.Statements.{statement_of}
use Rattle.mm_subst.specs.Symbols.{has_work}
use Rattle.mm_plain.specs.declared.plain.Plain.{Plain}
use Rattle.mm_plain.specs.Shape.{known, size_of, height_of}
use Rattle.mm_plain.specs.Lengths.{is_long}
use Rattle.mm_plain.specs.Premises.{premise_ids}
use Rattle.mm_plain.specs.Valid.{most_steps, most_levels}
use Rattle.mm_tree.specs.Trees.{State}
use Rattle.mm_chart.specs.Options.{or_else, on, first_there, all_there}
use Rattle.mm_improve.specs.Assertions.{Terms, may_be_used, has_essential, matches, parts}
use Rattle.mm_improve.specs.Ranks.{Use, Chosen, IsAnswer, chosen, tree}
use Rattle.mm_improve.specs.declared.fault.ImproveFault.{ImproveFault}
use Rattle.mm_improve.specs.declared.fault.ImproveFault.TheVariants.{TooManySteps, TooDeep, Memory}

-- No rank is greater. The goals on the way from a goal to a hypothesis have ranks that differ, and each of them is a constant
-- of the database and a part of the goal, which may be empty.
abbrev pub rank_limit : List ℕ → List WSym → ℕ
rank_limit bytes g = length (symbols_of bytes) * (length g * length g)

-- the answer for a goal without work variables is the chosen proof at that limit
abbrev pub RanksAreLimited : List ℕ → Type 0
RanksAreLimited bytes = (c : Terms) → c.bytes ≡ bytes → c.at < length (labels_of bytes) → (code : WSym) (t : List WSym) → has_work (code ∷ t) ≡ false → length (code ∷ t) ≤ most_symbols →
    (o : Option Chosen) → IsAnswer c (code ∷ t) o → chosen c (rank_limit bytes (code ∷ t)) (code ∷ t) ≡ o

-- the tree of the chosen proof of a goal that has a rank
abbrev pub chosen_tree : Terms → List WSym → Option Plain
chosen_tree c g = on (λ _. tree c (rank_limit c.bytes g) g) (chosen c (rank_limit c.bytes g) g)

-- that tree is a step over the trees of its parts
abbrev pub TreesUnfold : Terms → Type 0
TreesUnfold c = (r : ℕ) (g : List WSym) (x : Chosen) → chosen c r g ≡ Some x → tree c r g ≡ known g x.use_.id x.use_.sigma (map (tree c r) (parts c.bytes x.use_.id x.use_.sigma))

-- the assertions before the theorem that have `$e` hypotheses, and no variable outside their conclusion
abbrev pub essential_assertions : Terms → List ℕ
essential_assertions c = filter (λ id. may_be_used c id && has_essential c.bytes id) (range_with_len 0 c.at)

-- all matches of the goal with them, in the order of the database, and of each in the order of the unifiers
abbrev pub essential_uses : Terms → List WSym → List Use
essential_uses c g = flat_map (λ id. map (λ sigma. record { id = id; sigma = sigma }) (matches c g id)) (essential_assertions c)

-- the proof of the goal of a hypothesis under a substitution: of a `$f` the chosen one, of a `$e` one at the depth below
abbrev pub premise_proof : Terms → (List WSym → Option Plain) → Pairs → ℕ → Option Plain
premise_proof c below sigma m =
    if is_essential (stated_at c.bytes m).kind then below (applied sigma (statement_of c.bytes m))
    else chosen_tree c (applied sigma (statement_of c.bytes m))

-- the proof by a use, which serves where the goals of all hypotheses have one
abbrev pub proof_by : Terms → (List WSym → Option Plain) → List WSym → Use → Option Plain
proof_by c below g u = on (known g u.id u.sigma) (all_there (map (premise_proof c below u.sigma) (premise_ids c.bytes u.id)))

-- The proof of a goal at a depth. A goal that has a rank has its chosen proof. Another one has, above depth 0, that by the
-- first use of an assertion with `$e` which serves. A goal with too many symbols has none.
unfoldable pub proof_of : Terms → ℕ → List WSym → Option Plain
proof_of c zero g = chosen_tree c g
proof_of c (suc depth) g = if is_long g then None else or_else (chosen_tree c g) (first_there (map (proof_by c (proof_of c depth) g) (essential_uses c g)))

-- What is found is made as a tree over which no work variable is drawn; or it is too large, in steps or else in levels; or
-- nothing is found; or memory ran out.
abbrev pub IsFound : Result (Option State) ImproveFault → Option Plain → Type 0
IsFound (Ok None) found = found ≡ None
IsFound (Ok (Some t)) found = (found ≡ Some t.proof.plain) × (t.proof.next ≡ 1) × (size_of t.proof.plain ≤ most_steps) × (height_of t.proof.plain ≤ most_levels)
IsFound (Err TooManySteps) found = (x : Plain) × (found ≡ Some x) × (most_steps < size_of x)
IsFound (Err TooDeep) found = (x : Plain) × (found ≡ Some x) × (size_of x ≤ most_steps) × (most_levels < height_of x)
IsFound (Err Memory) found = Unit {0}
