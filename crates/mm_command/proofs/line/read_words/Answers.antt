use Rattle.std.proofs.Common.{arith, refl, ◌<◌}
use Rattle.mm_command.specs.Table.{table}
use Rattle.mm_command.specs.Spelled.{spelled}
use Rattle.mm_command.proofs.Choosing.{gives_rows, gives_row, fault_rows}
use Rattle.mm_command.proofs.line.read_words.Goals as goal

pub returns-in-Err : goal.returns-in-Err
unfolding table
returns-in-Err c = fault_rows table _ _ _ refl c.in-Err.ensures.value

pub returns-in-0 : goal.returns-in-0
unfolding table
returns-in-0 c =
    gives_rows spelled table _ _ 0 _ _ _ refl c.in-Ok.ensures.value.0 (omega arith) c.in-Ok.ensures.value.1
    (gives_row spelled _ _ _ _ _ refl c.read_read.ensures)

pub returns-in-1 : goal.returns-in-1
unfolding table
returns-in-1 c =
    gives_rows spelled table _ _ 1 _ _ _ refl c.in-Ok.ensures.value.0 (omega arith) c.in-Ok.ensures.value.1
    c.read_verify.ensures

pub returns-in-2 : goal.returns-in-2
unfolding table
returns-in-2 c =
    gives_rows spelled table _ _ 2 _ _ _ refl c.in-Ok.ensures.value.0 (omega arith) c.in-Ok.ensures.value.1
    c.read_show.ensures

pub returns-in-3 : goal.returns-in-3
unfolding table
returns-in-3 c =
    gives_rows spelled table _ _ 3 _ _ _ refl c.in-Ok.ensures.value.0 (omega arith) c.in-Ok.ensures.value.1
    c.read_set.ensures

pub returns-in-4 : goal.returns-in-4
unfolding table
returns-in-4 c =
    gives_rows spelled table _ _ 4 _ _ _ refl c.in-Ok.ensures.value.0 (omega arith) c.in-Ok.ensures.value.1
    c.read_write.ensures

pub returns-in-5 : goal.returns-in-5
unfolding table
returns-in-5 c =
    gives_rows spelled table _ _ 5 _ _ _ refl c.in-Ok.ensures.value.0 (omega arith) c.in-Ok.ensures.value.1
    c.read_open.ensures

pub returns-in-6 : goal.returns-in-6
unfolding table
returns-in-6 c =
    gives_rows spelled table _ _ 6 _ _ _ refl c.in-Ok.ensures.value.0 (omega arith) c.in-Ok.ensures.value.1
    c.read_close.ensures

pub returns-in-7 : goal.returns-in-7
unfolding table
returns-in-7 c =
    gives_rows spelled table _ _ 7 _ _ _ refl c.in-Ok.ensures.value.0 (omega arith) c.in-Ok.ensures.value.1
    (gives_row spelled _ _ _ _ _ refl c.read_prove.ensures)

pub returns-in-8 : goal.returns-in-8
unfolding table
returns-in-8 c =
    gives_rows spelled table _ _ 8 _ _ _ refl c.in-Ok.ensures.value.0 (omega arith) c.in-Ok.ensures.value.1
    (gives_row spelled _ _ _ _ _ refl c.read_demo.ensures)

pub returns-in-9 : goal.returns-in-9
unfolding table
returns-in-9 c =
    gives_rows spelled table _ _ 9 _ _ _ refl c.in-Ok.ensures.value.0 (omega arith) c.in-Ok.ensures.value.1
    (gives_row spelled _ _ _ _ _ refl c.read_exit.ensures)

pub returns-in-10 : goal.returns-in-10
unfolding table
returns-in-10 c =
    gives_rows spelled table _ _ 10 _ _ _ refl c.in-Ok.ensures.value.0 (omega arith) c.in-Ok.ensures.value.1
    (gives_row spelled _ _ _ _ _ refl c.read_exit-in-10.ensures)

pub returns-in-11 : goal.returns-in-11
unfolding table
returns-in-11 c =
    gives_rows spelled table _ _ 11 _ _ _ refl c.in-Ok.ensures.value.0 (omega arith) c.in-Ok.ensures.value.1
    (gives_row spelled _ _ _ _ _ refl c.read_assign.ensures)

pub returns-in-12 : goal.returns-in-12
unfolding table
returns-in-12 c =
    gives_rows spelled table _ _ 12 _ _ _ refl c.in-Ok.ensures.value.0 (omega arith) c.in-Ok.ensures.value.1
    (gives_row spelled _ _ _ _ _ refl c.read_replace.ensures)

pub returns-in-13 : goal.returns-in-13
unfolding table
returns-in-13 c =
    gives_rows spelled table _ _ 13 _ _ _ refl c.in-Ok.ensures.value.0 (omega arith) c.in-Ok.ensures.value.1
    c.read_let.ensures

pub returns-in-14 : goal.returns-in-14
unfolding table
returns-in-14 c =
    gives_rows spelled table _ _ 14 _ _ _ refl c.in-Ok.ensures.value.0 (omega arith) c.in-Ok.ensures.value.1
    c.read_unify.ensures

pub returns-in-15 : goal.returns-in-15
unfolding table
returns-in-15 c =
    gives_rows spelled table _ _ 15 _ _ _ refl c.in-Ok.ensures.value.0 (omega arith) c.in-Ok.ensures.value.1
    c.read_initialize.ensures

pub returns-in-16 : goal.returns-in-16
unfolding table
returns-in-16 c =
    gives_rows spelled table _ _ 16 _ _ _ refl c.in-Ok.ensures.value.0 (omega arith) c.in-Ok.ensures.value.1
    c.read_delete.ensures

pub returns-in-17 : goal.returns-in-17
unfolding table
returns-in-17 c =
    gives_rows spelled table _ _ 17 _ _ _ refl c.in-Ok.ensures.value.0 (omega arith) c.in-Ok.ensures.value.1
    (gives_row spelled _ _ _ _ _ refl c.read_improve.ensures)

pub returns-in-18 : goal.returns-in-18
unfolding table
returns-in-18 c =
    gives_rows spelled table _ _ 18 _ _ _ refl c.in-Ok.ensures.value.0 (omega arith) c.in-Ok.ensures.value.1
    (gives_row spelled _ _ _ _ _ refl c.read_minimize.ensures)

pub returns-in-19 : goal.returns-in-19
unfolding table
returns-in-19 c =
    gives_rows spelled table _ _ 19 _ _ _ refl c.in-Ok.ensures.value.0 (omega arith) c.in-Ok.ensures.value.1
    (gives_row spelled _ _ _ _ _ refl c.read_undo.ensures)

pub returns-in-20 : goal.returns-in-20
unfolding table
returns-in-20 c =
    gives_rows spelled table _ _ 20 _ _ _ refl c.in-Ok.ensures.value.0 (omega arith) c.in-Ok.ensures.value.1
    (gives_row spelled _ _ _ _ _ refl c.read_redo.ensures)

pub returns-in_default : goal.returns-in_default
unfolding table
returns-in_default c =
    let within : c.in-Ok.place < 22 = c.in-Ok.ensures.within in
    gives_rows spelled table _ _ 21 _ _ _ refl c.in-Ok.ensures.value.0 (omega arith) c.in-Ok.ensures.value.1
    c.read_save.ensures
