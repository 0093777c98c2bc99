use Rattle.std.proofs.Common.{◌≡◌, drop}
use Rattle.std.specs.Str.{bytes_eq}
use Rattle.mm_stack.specs.Seats.{value_in}
use Rattle.mm_stack.specs.Substitution.{instance}
use Rattle.mm_stack.proofs.instance.is_instance.Given as goal

abbrev pub invariant-loop-symbol : goal.invariant-loop-symbol
invariant-loop-symbol l =
    bytes_eq (instance (value_in l.values l.stack.stack) (drop l.symbol-index l.symbols)) l.rest
    ≡ bytes_eq (instance (value_in l.values l.stack.stack) l.symbols) l.entry
