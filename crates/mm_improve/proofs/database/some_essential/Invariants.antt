use Rattle.std.proofs.Common.{◌≡◌, drop}
use Rattle.std.specs.List.{list_any}
use Rattle.mm_scope.specs.Contents.{stated_at}
use Rattle.mm_stated.specs.Stated.{is_essential}
use Rattle.mm_improve.proofs.database.some_essential.Given as goal

abbrev pub invariant-loop-id : goal.invariant-loop-id
invariant-loop-id l = list_any (λ m. is_essential (stated_at l.db m).kind) l.ids ≡ list_any (λ m. is_essential (stated_at l.db m).kind) (drop l.id-index l.ids)
