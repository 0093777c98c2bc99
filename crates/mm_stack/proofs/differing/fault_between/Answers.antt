use Rattle.std.proofs.Common.{sym, ◌∙◌, arith}
use Rattle.mm_scope.specs.Contents.{is_variable_of}
use Rattle.mm_stack.specs.Differing.{faults_with}
use Rattle.mm_stack.proofs.Firsts.{passed_over, goes_on_among, stops_among}
use Rattle.mm_stack.proofs.differing.fault_between.Goals as goal
use Rattle.mm_stack.proofs.differing.fault_between.Goals.{then-is_variable+in_default, else-is_variable}

pub returns-in-Some : goal.returns-in-Some
returns-in-Some c =
    let fs = faults_with c.args.db.now c.args.parted.now c.args.number c.args.right.now in
    stops_among (is_variable_of c.args.db.now) fs c.args.left.now c.loop-u.u-index 0 c.in-Some.fault (omega arith) (sym c.if-is_variable.ensures) (sym c.in-Some.is ∙ c.fault_with.ensures)
    ∙ c.loop-u.invariant

pub loop-u-preserved : goal.loop-u-preserved
loop-u-preserved c =
    elim c.if-is_variable.branch [
      | then-is_variable+in_default w ↦
          goes_on_among (is_variable_of c.args.db.now) (faults_with c.args.db.now c.args.parted.now c.args.number c.args.right.now) c.args.left.now c.loop-u.u-index 0 (omega arith)
          (sym w.if-is_variable.ensures) (sym w.in_default.is ∙ w.fault_with.ensures)
          ∙ c.loop-u.invariant
      | else-is_variable w ↦
          passed_over (is_variable_of c.args.db.now) (faults_with c.args.db.now c.args.parted.now c.args.number c.args.right.now) c.args.left.now c.loop-u.u-index 0 (omega arith)
          (sym w.if-is_variable.ensures)
          ∙ c.loop-u.invariant
    ]
