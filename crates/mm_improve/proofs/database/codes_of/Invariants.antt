use Rattle.std.proofs.Common.{◌≡◌, ◌++◌, drop, map}
use Rattle.mm_subst.specs.Statements.{statement_of}
use Rattle.mm_improve.specs.Grammars.{split}
use Rattle.mm_improve.proofs.database.codes_of.Given as goal

abbrev pub invariant-loop-id : goal.invariant-loop-id
invariant-loop-id l = l.codes.items ++ map (λ h. (split h).0) (map (statement_of l.db) (drop l.id-index l.ids)) ≡ map (λ h. (split h).0) (map (statement_of l.db) l.ids)
