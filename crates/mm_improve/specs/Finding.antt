-- The search for the proof of a goal at a depth.
use Rattle.std.specs.Prelude.{◌≡◌, ◌≤◌, ◌<◌, ◌+◌, ℕ, Bool, ◌&&◌, List, [], ◌++◌, map, length, Option, None, Some, Result, Ok, Err, All}
use Rattle.std.specs.List.{sum_by}
use Rattle.mm_scope.specs.Contents.{labels_of}
use Rattle.mm_subst.specs.declared.symbol.WSym.{WSym}
use Rattle.mm_subst.specs.Substitutions.{Pairs}
use Rattle.mm_plain.specs.declared.plain.Plain.{Plain}
use Rattle.mm_plain.specs.Shape.{greatest, height_of, size_of}
use Rattle.mm_plain.specs.Premises.{premise_ids}
use Rattle.mm_plain.specs.Valid.{IsString, first_setting, most_steps}
use Rattle.mm_tree.specs.Plans.{IsPlan, grove_of}
use Rattle.mm_tree.specs.declared.plan.Plan.{Plan}
use Rattle.mm_improve.specs.Assertions.{Terms, may_be_used, has_essential}
use Rattle.mm_improve.specs.Laying.{steps_in}
use Rattle.mm_chart.specs.Options.{is_there, all_there}
use Rattle.mm_improve.specs.Proving.{premise_proof, proof_of}
use Rattle.mm_improve.specs.Ranks.{Use}
use Rattle.mm_improve.specs.declared.fault.ImproveFault.{ImproveFault}
use Rattle.mm_improve.specs.declared.fault.ImproveFault.TheVariants.{TooManySteps, TooDeep, Memory}

-- the values of a substitution are strings for a theorem
abbrev pub HasStrings : List ℕ → ℕ → Pairs → Type 0
HasStrings bytes at sigma = All (λ p. IsString (first_setting bytes at) p.1) sigma

-- an assertion with `$e` that may be used
abbrev pub may_serve : Terms → ℕ → Bool
may_serve c id = may_be_used c id && has_essential c.bytes id

-- the proofs of the goals of all hypotheses under a substitution
abbrev pub premise_proofs : Terms → ℕ → Use → List (Option Plain)
premise_proofs c depth u = map (premise_proof c (proof_of c depth) u.sigma) (premise_ids c.bytes u.id)

-- whether there are all of them
abbrev pub serves_at : Terms → ℕ → Use → Bool
serves_at c depth u = is_there (all_there (premise_proofs c depth u))

abbrev pub or_none : Option (List Plain) → List Plain
or_none None = []
or_none (Some xs) = xs

-- they themselves, where there are all
abbrev pub kids_at : Terms → ℕ → Use → List Plain
kids_at c depth u = or_none (all_there (premise_proofs c depth u))

-- a use of a statement of the database, whose values are strings for the theorem
pub record IsOwnUse (c : Terms) (u : Use) : Type 0 where
  pub own : u.id < length (labels_of c.bytes)
  pub values : HasStrings c.bytes c.at u.sigma

-- trees of no more than some levels stand behind the others
pub record AreLaid (old : Plan) (xs : List Plain) (left : ℕ) (new : Plan) : Type 0 where
  pub plan : IsPlan new
  pub standing : (grove_of new).standing ≡ (grove_of old).standing ++ xs
  pub low : greatest (map height_of xs) ≤ left

-- Trees are laid behind those that stand; or with them there are too many steps; or one has more levels than are left.
abbrev pub LaysTrees : {A : Type 0} → Plan → List Plain → ℕ → Result A ImproveFault → Plan → Type 0
LaysTrees old xs left (Ok _) new = AreLaid old xs left new
LaysTrees old xs left (Err TooManySteps) new = most_steps < steps_in old + sum_by size_of xs
LaysTrees old xs left (Err TooDeep) new = left < greatest (map height_of xs)
LaysTrees old xs left (Err Memory) new = Unit {0}
