-- The unifiers of a step, among which UNIFY STEP chooses by a number. Each line ends with LF.
use Rattle.std.specs.Prelude.{ℕ, Bool, List, [], ◌∷◌, ◌++◌, codes, take, if◌then◌else◌}
use Rattle.std.specs.List.{enumerate_from, flat_map}
use Rattle.std.specs.Cmp.Lexicographic.{pointwise}
use Rattle.std.specs.Fmt.{decimal}
use Rattle.mm_subst.specs.declared.symbol.WSym.{WSym}
use Rattle.mm_subst.specs.Substitutions.{Pairs}
use Rattle.mm_subst.specs.Symbols.{is_same}
use Rattle.mm_shell.specs.Lines.{line_of}
use Rattle.mm_shell.specs.Strings.{string_text, wsym_text}

-- no more are told
abbrev pub most_choices : ℕ
most_choices = 20

-- a work variable and its value, after two spaces; nothing where the value is the variable itself
unfoldable pub value_line : List ℕ → WSym × List WSym → List ℕ
value_line bytes p = if pointwise is_same p.1 (p.0 ∷ []) then [] else codes "  " ++ (wsym_text bytes p.0 ++ (codes " = " ++ line_of (string_text bytes p.1)))

-- a unifier by its number, and its values
unfoldable pub choice_text : List ℕ → ℕ → Pairs → List ℕ
choice_text bytes k theta = codes "Choice " ++ (decimal k ++ (10 ∷ flat_map (value_line bytes) theta))

-- the first of the unifiers, counted from 1
abbrev pub choices_text : List ℕ → List Pairs → List ℕ
choices_text bytes found = flat_map (λ p. choice_text bytes p.0 p.1) (enumerate_from 1 (take most_choices found))
