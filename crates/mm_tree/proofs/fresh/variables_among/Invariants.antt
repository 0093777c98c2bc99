use Rattle.std.proofs.Common.{◌≡◌, ◌++◌, drop}
use Rattle.std.specs.Prelude.{filter_map}
use Rattle.mm_scope.specs.Contents.{stated_at}
use Rattle.mm_stated.specs.Stated.{variable_of}
use Rattle.mm_tree.proofs.fresh.variables_among.Given as goal

abbrev pub invariant-loop-id : goal.invariant-loop-id
invariant-loop-id l = l.variables.items ++ filter_map (λ id. variable_of (stated_at l.db id)) (drop l.id-index l.ids) ≡ filter_map (λ id. variable_of (stated_at l.db id)) l.ids
