use Rattle.std.proofs.Common.{◌≡◌, take, map, count_by}
use Rattle.mm_stated.specs.Statements.{stated}
use Rattle.mm_stated.specs.Stated.{is_same_kind}
use Rattle.mm_scope.proofs.database.count_kind.Given as goal

abbrev pub invariant-loop-statement : goal.invariant-loop-statement
invariant-loop-statement l = l.count ≡ count_by (λ s. is_same_kind l.kind s.kind) (take l.statement-index (map stated l.statements))
