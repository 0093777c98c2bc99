use Rattle.std.proofs.Common.{◌≡◌, drop, fold, flat_map, map}
use Rattle.mm_tables.specs.Marked.{with_number}
use Rattle.mm_stated.specs.Statements.{stated}
use Rattle.mm_stated.specs.Mandatory.{statement_at}
use Rattle.mm_stated.specs.Needed.{floats_of}
use Rattle.mm_stated.proofs.mandatory.gather_floats_at.Given as goal

abbrev pub invariant-loop-id : goal.invariant-loop-id
invariant-loop-id l =
    fold with_number l.gathered (floats_of l.table (flat_map (λ id. (statement_at (map stated l.statements) id).symbols) (drop l.id-index l.ids)))
    ≡ fold with_number l.fn.gathered (floats_of l.table (flat_map (λ id. (statement_at (map stated l.statements) id).symbols) l.ids))
