-- Which qualifiers are free to be given.
use Rattle.std.proofs.Common.{◌≡◌, ℕ, false, List, [], ◌∷◌, Option, None, Some, is_some, Bor, refl, slice_get}
use Rattle.mm_command.specs.Grammar.{Value, Qualifier, is_excluded}
use Rattle.mm_command.specs.Table.{choice_qualifiers, improve_qualifiers, minimize_qualifiers}
use Rattle.mm_command.specs.Spelled.{number_value, bytes_value, flag_value}
use Rattle.mm_command.specs.declared.qualifier.ImproveGiven.{ImproveGiven}
use Rattle.mm_command.specs.declared.qualifier.MinimizeGiven.{MinimizeGiven}
use Rattle.mm_command.specs.Given.{improve_given, minimize_given}

abbrev is_free : List Qualifier → List (Option Value) → ℕ → Type 0
is_free qs given i = is_excluded (slice_get qs i) qs given ≡ false

pub free_choice : (n : Option ℕ) → is_some n ≡ false → is_free choice_qualifiers (number_value n ∷ []) 0
free_choice None e = refl
free_choice (Some n) e = absurd cc

free_first : (n : Option ℕ) (b : Option Value) → is_some n ≡ false → is_free improve_qualifiers (number_value n ∷ b ∷ []) 0
free_first None b e = refl
free_first (Some n) b e = absurd cc

pub free_depth : (given : ImproveGiven) → is_some given.depth ≡ false → is_free improve_qualifiers (improve_given given) 0
free_depth given e = free_first given.depth (flag_value given.no_distinct) e

is_free_at_0 : (word : Option (Bor (List ℕ))) (b c d e : Option Value) → is_some word ≡ false → is_free minimize_qualifiers (bytes_value word ∷ b ∷ c ∷ d ∷ e ∷ []) 0
is_free_at_0 None b c d e h = refl
is_free_at_0 (Some w) b c d e h = absurd cc

pub free_except : (given : MinimizeGiven) → is_some given.except ≡ false → is_free minimize_qualifiers (minimize_given given) 0
free_except given h =
    is_free_at_0 given.except (bytes_value given.forbid) (bytes_value given.no_new_axioms) (flag_value given.may_grow) (flag_value given.guarded_too) h

is_free_at_1 : (word : Option (Bor (List ℕ))) (a c d e : Option Value) → is_some word ≡ false → is_free minimize_qualifiers (a ∷ bytes_value word ∷ c ∷ d ∷ e ∷ []) 1
is_free_at_1 None a c d e h = refl
is_free_at_1 (Some w) a c d e h = absurd cc

pub free_forbid : (given : MinimizeGiven) → is_some given.forbid ≡ false → is_free minimize_qualifiers (minimize_given given) 1
free_forbid given h =
    is_free_at_1 given.forbid (bytes_value given.except) (bytes_value given.no_new_axioms) (flag_value given.may_grow) (flag_value given.guarded_too) h

is_free_at_2 : (word : Option (Bor (List ℕ))) (a b d e : Option Value) → is_some word ≡ false → is_free minimize_qualifiers (a ∷ b ∷ bytes_value word ∷ d ∷ e ∷ []) 2
is_free_at_2 None a b d e h = refl
is_free_at_2 (Some w) a b d e h = absurd cc

pub free_no_new_axioms : (given : MinimizeGiven) → is_some given.no_new_axioms ≡ false → is_free minimize_qualifiers (minimize_given given) 2
free_no_new_axioms given h =
    is_free_at_2 given.no_new_axioms (bytes_value given.except) (bytes_value given.forbid) (flag_value given.may_grow) (flag_value given.guarded_too) h
