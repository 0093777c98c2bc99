-- What a substitution makes of the strings of a step, and what binding answers.
use Rattle.std.specs.Prelude.{◌≡◌, ℕ, Bool, ◌||◌, List, Result, Ok, Err, None, Some}
use Rattle.std.specs.List.{list_any}
use Rattle.mm_subst.specs.declared.symbol.WSym.{WSym}
use Rattle.mm_subst.specs.Substitutions.{Pairs, applied}
use Rattle.mm_plain.specs.Shape.{Proof}
use Rattle.mm_plain.specs.Lengths.{is_long, first_long}
use Rattle.mm_tree.specs.Trees.{State}
use Rattle.mm_tree.specs.declared.fault.BindFault.{BindFault}
use Rattle.mm_tree.specs.declared.fault.BindFault.TheVariants.{TooLong, Memory}

-- whether a value has too many symbols under theta
abbrev pub has_long_value : Pairs → Pairs → Bool
has_long_value theta sigma = list_any (λ (p : WSym × List WSym). is_long (applied theta p.1)) sigma

-- whether a target, a source or a value has
abbrev pub is_long_known : Pairs → List WSym → List WSym → Pairs → Bool
is_long_known theta target source sigma = (is_long (applied theta target) || is_long (applied theta source)) || has_long_value theta sigma

-- The proof is now p, in which no target, source or value is too long; or the first step of p that has one that is too long is
-- told, or memory ran out, and nothing changed.
abbrev pub IsBound : Result Unit BindFault → List ℕ → State → State → Proof → Type 0
IsBound (Ok u) bytes old now p = (now.proof ≡ p) × (first_long bytes p.plain ≡ None)
IsBound (Err (TooLong step)) bytes old now p = (now ≡ old) × (first_long bytes p.plain ≡ Some step)
IsBound (Err Memory) bytes old now p = now ≡ old
