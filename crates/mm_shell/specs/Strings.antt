-- The texts of symbols and of strings.
use Rattle.std.specs.Prelude.{ℕ, List, ◌++◌, codes}
use Rattle.std.specs.List.{join_by}
use Rattle.std.specs.Fmt.{decimal}
use Rattle.mm_subst.specs.declared.symbol.WSym.{WSym}
use Rattle.mm_subst.specs.declared.symbol.WSym.TheVariants.{Const, Var, Work}
use Rattle.mm_shell.specs.Verdicts.{symbol_text}

-- a symbol of the database as it stands there; of a work variable its number after `$`
abbrev pub wsym_text : List ℕ → WSym → List ℕ
wsym_text bytes (Const n) = symbol_text bytes n
wsym_text bytes (Var n) = symbol_text bytes n
wsym_text bytes (Work n) = codes "$" ++ decimal n

-- the symbols, with a space between each two
abbrev pub string_text : List ℕ → List WSym → List ℕ
string_text bytes s = join_by (wsym_text bytes) (codes " ") s
