use Rattle.std.proofs.Common.{arith, refl, codes, ◌∷◌, [], ◌<◌}
use Rattle.mm_command.specs.Table.{table, rows_after}
use Rattle.mm_command.specs.Spelled.{spelled}
use Rattle.mm_command.proofs.Choosing.{gives_rows, gives_row, fault_rows}
use Rattle.mm_command.proofs.edits.read_save.Goals as goal

pub returns-in-Err : goal.returns-in-Err
unfolding table
returns-in-Err c = fault_rows (rows_after (codes "SAVE" ∷ [])) _ _ _ refl c.in-Err.ensures.value

pub returns-in-Ok : goal.returns-in-Ok
unfolding table
returns-in-Ok c =
    let within : c.in-Ok.field-0-0 < 1 = c.in-Ok.ensures.within in
    gives_rows spelled (rows_after (codes "SAVE" ∷ [])) _ _ 0 _ _ _ refl c.in-Ok.ensures.value.0 (omega arith) c.in-Ok.ensures.value.1
    (gives_row spelled _ _ _ _ _ refl c.read_save_new_proof.ensures)
