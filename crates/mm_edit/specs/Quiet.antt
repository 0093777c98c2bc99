-- Steps that are known to have no only unifier.
use Rattle.std.specs.Prelude.{◌≡◌, ℕ, ◌≤◌, Bool, true, false, ◌||◌, List, Option, None, Some, is_some, nat_eq}
use Rattle.std.specs.List.{list_any}
use Rattle.std.specs.HashSet.{contains}
use Rattle.mm_subst.specs.declared.symbol.WSym.{WSym}
use Rattle.mm_subst.specs.Substitutions.{Pairs, value_at}
use Rattle.mm_unify.specs.declared.listing.Settings.{Settings}
use Rattle.mm_plain.specs.declared.plain.Plain.{Plain}
use Rattle.mm_plain.specs.Shape.{size_of, step_at, target_of}
use Rattle.mm_plain.specs.Sources.{source_of}
use Rattle.mm_edit.specs.Unifying.{unifier_at}
use Rattle.mm_edit.specs.declared.quiet.Quiet.{Quiet}

abbrev pub is_quiet : Quiet → ℕ → Bool
is_quiet q k = contains nat_eq q.steps k

-- each of these steps has no only unifier
abbrev pub AreQuiet : List ℕ → Settings → Plain → Quiet → Type 0
AreQuiet bytes set x q = (k : ℕ) → 1 ≤ k → k ≤ size_of x → is_quiet q k ≡ true → unifier_at bytes set (step_at x k) ≡ None

-- whether a string has a key of theta, and whether the target or the source of a step has
abbrev pub has_key : Pairs → List WSym → Bool
has_key theta s = list_any (λ x. is_some (value_at theta x)) s

abbrev pub has_key_in : Pairs → Option (List WSym) → Bool
has_key_in theta None = false
has_key_in theta (Some s) = has_key theta s

abbrev pub has_key_at : List ℕ → Pairs → Plain → Bool
has_key_at bytes theta y = has_key theta (target_of y) || has_key_in theta (source_of bytes y)
