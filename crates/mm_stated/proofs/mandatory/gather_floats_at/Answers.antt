use Rattle.std.proofs.Common.{ℕ, List, ◌∙◌, ◌+◌, ap, arith, drop, flat_map, fold, map}
use Rattle.mm_tables.specs.Marked.{with_number}
use Rattle.mm_stated.specs.Statements.{stated}
use Rattle.mm_stated.specs.Mandatory.{statement_at}
use Rattle.mm_stated.specs.Needed.{floats_of}
use Rattle.mm_stated.specs.Stated.{Stated}
use Rattle.mm_stated.proofs.Gathering.{more_at}
use Rattle.mm_stated.proofs.mandatory.gather_floats_at.Goals as goal

pub loop-id-preserved : goal.loop-id-preserved
loop-id-preserved c =
    let statements : List Stated = map stated c.args.statements.now in
    let later : List ℕ = flat_map (λ id. (statement_at statements id).symbols) (drop (c.loop-id.id-index + 1) c.args.ids.now) in
    ap (λ g. fold with_number g (floats_of c.args.table.now later))
    (c.in_ok-gather_floats.ensures ∙ ap (λ l. fold with_number c.loop-id.gathered (floats_of c.args.table.now l)) c.symbols_at.ensures)
    ∙ more_at c.args.table.now statements c.loop-id.gathered c.args.ids.now c.loop-id.id-index 0 (omega (arith, c.loop-id-test.true))
    ∙ c.loop-id.invariant
