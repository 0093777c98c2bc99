use Rattle.std.proofs.Common.{arith, refl, codes, ◌∷◌, [], ◌<◌}
use Rattle.mm_command.specs.Table.{table, rows_after}
use Rattle.mm_command.specs.Spelled.{spelled}
use Rattle.mm_command.proofs.Choosing.{gives_rows, gives_row, fault_rows}
use Rattle.mm_command.proofs.edits.read_delete.Goals as goal

pub returns-in-Err : goal.returns-in-Err
unfolding table
returns-in-Err c = fault_rows (rows_after (codes "DELETE" ∷ [])) _ _ _ refl c.in-Err.ensures.value

pub returns-in-0 : goal.returns-in-0
unfolding table
returns-in-0 c =
    gives_rows spelled (rows_after (codes "DELETE" ∷ [])) _ _ 0 _ _ _ refl c.in-Ok.ensures.value.0 (omega arith) c.in-Ok.ensures.value.1
    (gives_row spelled _ _ _ _ _ refl c.read_delete_step.ensures)

pub returns-in-1 : goal.returns-in-1
unfolding table
returns-in-1 c =
    gives_rows spelled (rows_after (codes "DELETE" ∷ [])) _ _ 1 _ _ _ refl c.in-Ok.ensures.value.0 (omega arith) c.in-Ok.ensures.value.1
    (gives_row spelled _ _ _ _ _ refl c.read_delete_all.ensures)

pub returns-in_default : goal.returns-in_default
unfolding table
returns-in_default c =
    let within : c.in-Ok.place < 3 = c.in-Ok.ensures.within in
    gives_rows spelled (rows_after (codes "DELETE" ∷ [])) _ _ 2 _ _ _ refl c.in-Ok.ensures.value.0 (omega arith) c.in-Ok.ensures.value.1
    (gives_row spelled _ _ _ _ _ refl c.read_delete_floats.ensures)
