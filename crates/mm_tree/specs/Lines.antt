-- What the bindings of a version make of a string.
use Rattle.std.specs.Prelude.{ℕ, List, [], ◌∷◌, map, drop, if◌then◌else◌}
use Rattle.mm_subst.specs.declared.symbol.WSym.{WSym}
use Rattle.mm_subst.specs.Substitutions.{Pairs, applied}
use Rattle.mm_subst.specs.Symbols.{has_work}

-- the bindings of a version, the oldest first; each is a substitution of which all keys hold at once
abbrev pub Line : Type 0
Line = List Pairs

-- a string after bindings, one after the other
abbrev pub after : Line → List WSym → List WSym
after [] s = s
after (theta ∷ line) s = after line (applied theta s)

-- A string of a birth means what the bindings after its birth make of it. One without work variables is never rewritten.
abbrev pub string_now : Line → ℕ → List WSym → List WSym
string_now line birth s = if has_work s then after (drop birth line) s else s

-- the same for each value of a substitution
abbrev pub values_now : Line → ℕ → Pairs → Pairs
values_now line birth ps = map (λ (p : WSym × List WSym). (p.0, string_now line birth p.1)) ps
