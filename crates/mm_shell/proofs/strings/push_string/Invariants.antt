use Rattle.std.proofs.Common.{◌≡◌, ◌++◌, codes, take}
use Rattle.std.specs.List.{flat_map}
use Rattle.mm_shell.specs.Strings.{wsym_text}
use Rattle.mm_shell.proofs.strings.push_string.Given as goal

abbrev pub invariant-loop-symbol : goal.invariant-loop-symbol
invariant-loop-symbol l = l.into.items ≡ l.initial.into.items ++ flat_map (λ y. codes " " ++ wsym_text l.database y) (take l.symbol-index l.others)
