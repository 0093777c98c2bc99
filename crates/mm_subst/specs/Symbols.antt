-- Symbols of strings.
use Rattle.std.specs.Prelude.{Bool, true, false, ◌==◌, List}
use Rattle.std.specs.List.{list_any}
use Rattle.mm_subst.specs.declared.symbol.WSym.{WSym}
use Rattle.mm_subst.specs.declared.symbol.WSym.TheVariants.{Const, Var, Work}

abbrev pub is_same : WSym → WSym → Bool
is_same (Const m) (Const n) = m == n
is_same (Var m) (Var n) = m == n
is_same (Work m) (Work n) = m == n
is_same _ _ = false

abbrev pub is_work : WSym → Bool
is_work (Const n) = false
is_work (Var n) = false
is_work (Work n) = true

-- whether a string has a work variable
abbrev pub has_work : List WSym → Bool
has_work s = list_any is_work s
