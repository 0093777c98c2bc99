use Rattle.mm_edit.proofs.Assigning.{kept-assigned}
use Rattle.mm_edit.proofs.Deleting.{kept-floats_deleted}
use Rattle.mm_edit.proofs.Improving.{kept-improved, kept-all_improved}
use Rattle.mm_edit.proofs.Initializing.{kept-all_initialized, kept-initialized, kept-deleted}
use Rattle.mm_edit.proofs.Letting.{kept-variable_let, kept-step_let}
use Rattle.mm_edit.proofs.Replacing.{kept-replaced}
use Rattle.mm_edit.proofs.Unifying.{kept-step_unified, kept-all_unified}
use Rattle.mm_edit.proofs.laws.accepted_edits_keep_proofs_valid.Goals as goal

pub returns-clause-assigned : goal.returns-clause-assigned
returns-clause-assigned c = λ at k id set goal p q v h. kept-assigned c.args.bytes.now at set goal p q k id v h

pub returns-clause-replaced : goal.returns-clause-replaced
returns-clause-replaced c = λ at k id set goal p q v h. kept-replaced c.args.bytes.now at set goal p q k id v h

pub returns-clause-variable_let : goal.returns-clause-variable_let
returns-clause-variable_let c = λ at n goal value p q v k h. kept-variable_let c.args.bytes.now at goal p q n value v k h

pub returns-clause-step_let : goal.returns-clause-step_let
returns-clause-step_let c = λ at k set goal text p q v s h. kept-step_let c.args.bytes.now at set goal p q k text v s h

pub returns-clause-step_unified : goal.returns-clause-step_unified
returns-clause-step_unified c = λ at k set choice goal p q v h. kept-step_unified c.args.bytes.now at set goal p q k choice v h

pub returns-clause-all_unified : goal.returns-clause-all_unified
returns-clause-all_unified c = λ at set goal p q v h. kept-all_unified c.args.bytes.now at set goal p q v h

pub returns-clause-initialized : goal.returns-clause-initialized
returns-clause-initialized c = λ at k goal p q v h. kept-initialized c.args.bytes.now at goal p q k v h

pub returns-clause-all_initialized : goal.returns-clause-all_initialized
returns-clause-all_initialized c = λ at goal p q v h. kept-all_initialized c.args.bytes.now at goal p q v h

pub returns-clause-deleted : goal.returns-clause-deleted
returns-clause-deleted c = λ at k goal p q v h. kept-deleted c.args.bytes.now at goal p q k v h

pub returns-clause-floats_deleted : goal.returns-clause-floats_deleted
returns-clause-floats_deleted c = λ at goal p q v h. kept-floats_deleted c.args.bytes.now at goal p q v h

pub returns-clause-improved : goal.returns-clause-improved
returns-clause-improved c = λ at k prove goal p q f v h. kept-improved c.args.bytes.now at prove goal p q k f v h

pub returns-clause-all_improved : goal.returns-clause-all_improved
returns-clause-all_improved c = λ at prove goal p q f v h. kept-all_improved c.args.bytes.now at prove goal p q f v h
