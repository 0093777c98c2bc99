use Rattle.std.proofs.Common.{◌||◌, nat_eq, ap, ◌∙◌}
use Rattle.std.specs.List.{list_any}
use Rattle.mm_tables.specs.Marked.{is_marked}
use Rattle.mm_stated.specs.Statements.{stated}
use Rattle.mm_stated.specs.Stated.{typecode_of}
use Rattle.mm_stated.proofs.Gathered.{gathered}
use Rattle.mm_stated.proofs.floated.typecodes_of.Goals as goal

pub returns : goal.returns
returns c = λ n.
    c.in_ok-mark_all.ensures n
    ∙ ap (λ m. is_marked m n || list_any (nat_eq n) c.as_slice.result.now) c.new-marks.ensures
    ∙ ap (list_any (nat_eq n)) (c.as_slice.ensures.value ∙ c.in_ok-typecodes.ensures ∙ gathered typecode_of stated c.args.statements.now)
