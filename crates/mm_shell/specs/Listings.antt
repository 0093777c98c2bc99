-- What SHOW TRACE_BACK and SHOW USAGE list. Each line ends with LF.
use Rattle.std.specs.Prelude.{ℕ, List, [], ◌∷◌, ◌++◌, codes, length}
use Rattle.std.specs.List.{flat_map}
use Rattle.std.specs.Fmt.{decimal}
use Rattle.mm_plain.specs.Labels.{label_at}
use Rattle.mm_shell.specs.Lines.{line_of}

-- the label, after two spaces
unfoldable pub statement_line : List ℕ → ℕ → List ℕ
statement_line bytes id = codes "  " ++ line_of (label_at bytes id)

-- how many statements there are
unfoldable pub count_line : ℕ → List ℕ
count_line n = codes "Statements " ++ (decimal n ++ (codes "." ++ 10 ∷ []))

abbrev pub statements_text : List ℕ → List ℕ → List ℕ
statements_text bytes ids = flat_map (statement_line bytes) ids ++ count_line (length ids)
