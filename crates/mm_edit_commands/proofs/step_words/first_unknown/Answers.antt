use Rattle.std.proofs.Common.{arith, ap, length}
use Rattle.std.proofs.lemmas.List.{length-map}
use Rattle.mm_plain.specs.Shape.{steps_of}
use Rattle.mm_plain.specs.Sources.{label_of}
use Rattle.mm_plain.proofs.Equations.{length-steps_of}
use Rattle.mm_edit_commands.proofs.step_words.first_unknown.Goals as goal

pub overflow_cast-result : goal.overflow_cast-result
overflow_cast-result c =
    let x = c.args.tree.now.proof.plain in
    omega (arith, c.size-size.ensures, c.size-size.type_inv, c.loop-place-test.true, c.deref-label-items.ensures.value, ap length c.in_ok-labels.ensures, length-map (steps_of x) label_of, length-steps_of x)

pub overflow_add-result : goal.overflow_add-result
overflow_add-result c =
    let x = c.args.tree.now.proof.plain in
    omega (arith, c.size-size.ensures, c.size-size.type_inv, c.loop-place-test.true, c.deref-label-items.ensures.value, ap length c.in_ok-labels.ensures, length-map (steps_of x) label_of, length-steps_of x)
