use Rattle.std.proofs.Common.{◌≡◌, ◌∙◌, Result, Err, ap, length, vec_len, subst, sym, arith}
use Rattle.mm_plain.specs.Shape.{steps_of}
use Rattle.mm_plain.specs.Sources.{is_pending}
use Rattle.mm_plain.proofs.Equations.{length-steps_of}
use Rattle.mm_plain.proofs.Owned.{own-valid}
use Rattle.mm_subst.specs.Statements.{statement_of}
use Rattle.mm_edit.proofs.Pending.{numbers_few}
use Rattle.mm_shell.specs.Answers.{Answer, Answers}
use Rattle.mm_shell.specs.declared.refusal.Refusal.{Refusal}
use Rattle.mm_proof_commands.specs.Commands.{prove_theorem}
use Rattle.mm_proof_commands.proofs.ProveLemmas.{load_refused, opened_so, prove_starved}
use Rattle.mm_proof_commands.proofs.prove.prove_theorem.Goals as goal

pub returns-in-Err : goal.returns-in-Err
returns-in-Err g c =
    rw c.load_refusal.ensures (load_refused c.args.state.now c.args.database.now c.args.id.0 c.args.label.now c.in-Err.fault c.in-Err.ensures.loaded)

pub pending_steps-requires : goal.pending_steps-requires
pending_steps-requires g c = own-valid c.args.database.now c.args.id.0 (statement_of c.args.database.now c.args.id.0) c.in-Ok.tree.proof c.requires.own c.in-Ok.ensures.valid

pub returns-in_err-pending_steps : goal.returns-in_err-pending_steps
returns-in_err-pending_steps g c = prove_starved c.args.state.now c.args.database.now c.args.id.0 c.args.label.now c.from_residual.result c.from_residual.ensures.1 c.from_residual.ensures.0

pub overflow_cast-report : goal.overflow_cast-report
overflow_cast-report g c =
    let few = c.in-Ok.ensures.valid.few in
    omega (
      arith,
      few,
      c.len-pending.ensures,
      ap length c.in_ok-pending_steps.ensures,
      numbers_few (is_pending c.args.database.now) 1 (steps_of c.in-Ok.tree.proof.plain),
      length-steps_of c.in-Ok.tree.proof.plain,
    )

pub returns-in_err-proof : goal.returns-in_err-proof
returns-in_err-proof g c = prove_starved c.args.state.now c.args.database.now c.args.id.0 c.args.label.now c.from_residual-in_err-proof.result c.from_residual-in_err-proof.ensures.1 c.from_residual-in_err-proof.ensures.0

pub returns : goal.returns
returns g c =
    let long : vec_len c.in_ok-pending_steps.field-0 ≡ length c.in_ok-pending_steps.field-0.items = omega arith in
    opened_so c.args.state.now c.args.database.now c.args.id.0 c.args.label.now c.in-Ok.tree.proof c.size.result c.unknown_steps.result c.len-pending.result c.in_ok-proof.proof c.in-Ok.ensures.loaded
    c.size.ensures c.unknown_steps.ensures (c.len-pending.ensures ∙ long ∙ ap length c.in_ok-pending_steps.ensures) c.in_ok-proof.ensures
