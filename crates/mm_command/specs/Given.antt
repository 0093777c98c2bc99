-- What the qualifiers of a command are given with, where it has several.
use Rattle.std.specs.Prelude.{List, [], ◌∷◌, Option}
use Rattle.mm_command.specs.declared.qualifier.ImproveGiven.{ImproveGiven}
use Rattle.mm_command.specs.declared.qualifier.MinimizeGiven.{MinimizeGiven}
use Rattle.mm_command.specs.declared.qualifier.SaveGiven.{SaveGiven}
use Rattle.mm_command.specs.Grammar.{Value}
use Rattle.mm_command.specs.Spelled.{flag_value, number_value, bytes_value}

abbrev pub improve_given : ImproveGiven → List (Option Value)
improve_given given = number_value given.depth ∷ flag_value given.no_distinct ∷ []

abbrev pub minimize_given : MinimizeGiven → List (Option Value)
minimize_given given =
    bytes_value given.except ∷ bytes_value given.forbid ∷ bytes_value given.no_new_axioms
    ∷ flag_value given.may_grow ∷ flag_value given.guarded_too ∷ []

abbrev pub save_given : SaveGiven → List (Option Value)
save_given given = flag_value given.normal ∷ flag_value given.compressed ∷ flag_value given.guarded_too ∷ []
