use Rattle.std.proofs.Common.{◌≡◌, ℕ, ◌≤◌, ap, sym, subst, arith}
use Rattle.mm_plain.specs.Shape.{depth_at, size_of, step_at}
use Rattle.mm_plain.proofs.Equations.{size_of-pos}
use Rattle.mm_plain.proofs.Nested.{step_last}
use Rattle.mm_tree.proofs.Bared.{depth_last}
use Rattle.mm_edit.specs.Edited.{IsDone}
use Rattle.mm_edit.specs.Initializing.{all_initialized, part_initialized}
use Rattle.mm_edit.proofs.initialization.initialize_all.Goals as goal

pub initialize_part-requires-clause-exists : goal.initialize_part-requires-clause-exists
initialize_part-requires-clause-exists g c = (omega (arith, c.size.ensures, size_of-pos c.args.tree.now.proof.plain), omega (arith, c.size.ensures))

pub returns-clause-done : goal.returns-clause-done
unfolding all_initialized
returns-clause-done g c = subst (λ (k : ℕ). IsDone (part_initialized c.args.db.now c.args.tree.now.proof k) c.initialize_part.result c.args.tree.now.proof c.initialize_part.new.tree.proof) c.size.ensures c.initialize_part.ensures.done

pub returns-clause-cost : goal.returns-clause-cost
returns-clause-cost g c =
    let p = c.args.tree.now.proof.plain in
    omega (
      arith,
      c.initialize_part.ensures.cost,
      ap (depth_at p) c.size.ensures,
      depth_last p,
      ap (λ (k : ℕ). size_of (step_at p k)) c.size.ensures,
      ap size_of (step_last p),
    )
