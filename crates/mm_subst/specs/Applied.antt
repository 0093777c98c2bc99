-- What applying a substitution answers.
use Rattle.std.specs.Prelude.{◌≡◌, ◌≤◌, ◌<◌, List, All, Result, Ok, Err, length}
use Rattle.std.specs.List.{Any}
pub use Rattle.mm_scope.specs.Steps.{most_symbols}
use Rattle.mm_subst.specs.Substitutions.{Pairs}
use Rattle.mm_subst.specs.declared.symbol.WSym.{WSym}
use Rattle.mm_subst.specs.declared.fault.TooLongOrMemory.{TooLongOrMemory}
use Rattle.mm_subst.specs.declared.fault.TooLongOrMemory.TheVariants.{TooLong, Memory}

-- the string, which is not too long, or that it is; nothing is said out of memory
abbrev pub IsApplied : Result (List WSym) TooLongOrMemory → List WSym → Type 0
IsApplied (Ok s) t = (s ≡ t) × (length t ≤ most_symbols)
IsApplied (Err TooLong) t = most_symbols < length t
IsApplied (Err Memory) t = Unit {0}

-- the pairs, no value of which is too long, or that some value is; nothing is said out of memory
abbrev pub AreApplied : Result Pairs TooLongOrMemory → Pairs → Type 0
AreApplied (Ok ps) qs = (ps ≡ qs) × All (λ p. length p.1 ≤ most_symbols) qs
AreApplied (Err TooLong) qs = Any (λ p. most_symbols < length p.1) qs
AreApplied (Err Memory) qs = Unit {0}
