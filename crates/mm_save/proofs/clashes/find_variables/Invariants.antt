use Rattle.std.proofs.Common.{◌≡◌, drop}
use Rattle.mm_sound.specs.Apart.{variables_in}
use Rattle.mm_save.specs.Clashes.{each_once, variables_of}
use Rattle.mm_save.proofs.clashes.find_variables.Given as goal

abbrev pub invariant-loop-symbol : goal.invariant-loop-symbol
invariant-loop-symbol l = each_once l.found (variables_in (drop l.symbol-index l.symbols)) ≡ variables_of l.symbols
