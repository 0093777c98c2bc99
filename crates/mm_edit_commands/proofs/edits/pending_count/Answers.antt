use Rattle.std.proofs.Common.{◌≡◌, ◌∙◌, ap, length, vec_len, arith}
use Rattle.mm_plain.specs.Shape.{steps_of}
use Rattle.mm_plain.specs.Sources.{is_pending}
use Rattle.mm_plain.proofs.Equations.{length-steps_of}
use Rattle.mm_edit.specs.Counts.{pending_count}
use Rattle.mm_edit.proofs.Pending.{numbers_counted, numbers_few}
use Rattle.mm_edit_commands.proofs.edits.pending_count.Goals as goal

pub overflow_cast-result : goal.overflow_cast-result
overflow_cast-result c =
    let few = c.requires.few in
    omega (
      arith,
      few,
      c.len.ensures,
      ap length c.in_ok-pending.ensures,
      numbers_few (is_pending c.args.database.now) 1 (steps_of c.args.tree.now.proof.plain),
      length-steps_of c.args.tree.now.proof.plain,
    )

pub returns : goal.returns
unfolding pending_count
returns c =
    let long : vec_len c.in_ok-pending.pending ≡ length c.in_ok-pending.pending.items = omega arith in
    c.len.ensures ∙ long ∙ ap length c.in_ok-pending.ensures ∙ numbers_counted (is_pending c.args.database.now) 1 (steps_of c.args.tree.now.proof.plain)
