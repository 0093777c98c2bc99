-- Grammars that have only what leads to a goal.
use Rattle.std.specs.Prelude.{ℕ, ◌≡◌, Bool, true, false, not, ◌||◌, List, filter}
use Rattle.mm_scope.specs.Contents.{is_typecode_of}
use Rattle.mm_subst.specs.declared.symbol.WSym.{WSym}
use Rattle.mm_subst.specs.declared.symbol.WSym.TheVariants.{Const, Var, Work}
use Rattle.mm_chart.specs.Items.{Goal, Grammar, chosen, may_lead}

-- whether a symbol is the typecode of some `$f`
abbrev pub is_float_code : List ℕ → WSym → Bool
is_float_code bytes (Const n) = is_typecode_of bytes n
is_float_code bytes (Var n) = false
is_float_code bytes (Work n) = false

-- whether a typecode is one of those, where only those are taken
abbrev pub is_taken : List ℕ → Bool → WSym → Bool
is_taken bytes narrow code = not narrow || is_float_code bytes code

-- the grammar without the assertions whose typecodes don't pass
abbrev pub narrowed : (WSym → Bool) → Grammar → Grammar
narrowed p G = record { hypotheses = G.hypotheses; assertions = filter (λ a. p a.code) G.assertions; brackets = G.brackets; groups = G.groups }

-- a grammar has the same chosen proofs of all that may lead to a goal with a typecode
abbrev pub IsEnough : Grammar → WSym → Grammar → Type 0
IsEnough G code H = (r : ℕ) (g : Goal) → may_lead G code g.0 ≡ true → chosen H r g ≡ chosen G r g
