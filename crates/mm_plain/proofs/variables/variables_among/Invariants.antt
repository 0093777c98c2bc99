use Rattle.std.proofs.Common.{◌≡◌, ◌++◌, drop}
use Rattle.mm_plain.specs.Variables.{variables_among}
use Rattle.mm_plain.proofs.variables.variables_among.Given as goal

abbrev pub invariant-loop-id : goal.invariant-loop-id
invariant-loop-id l = l.variables.items ++ variables_among l.db (drop l.id-index l.ids) ≡ variables_among l.db l.ids
