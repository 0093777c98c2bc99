use Rattle.std.proofs.Common.{sym, ◌∙◌, arith}
use Rattle.mm_plain.specs.Shape.{target_of}
use Rattle.mm_tree.proofs.Rooms.{same_error}
use Rattle.mm_edit.specs.Loading.{all_visited}
use Rattle.mm_edit.proofs.AssignLemmas.{tried-err}
use Rattle.mm_edit.proofs.LoadLemmas.{Stays, visit_stays, visited-err, visited-more}
use Rattle.mm_edit.proofs.loading.visit_all.Goals as goal

pub returns-in_err-visit : goal.returns-in_err-visit
returns-in_err-visit c =
    let f = c.in_err-visit.field-0.0 in
    record {
      tried = tried-err (all_visited c.args.db.now c.args.set.now c.args.tree.now.proof) c.from_residual.result f c.visit.new.tree.proof
          (same_error c.from_residual.result f c.from_residual.ensures.1 c.from_residual.ensures.0)
          (λ other. sym c.loop-step.invariant.so_far ∙ visited-err c.args.db.now c.args.set.now c.loop-step.tree.proof f c.size-last.result c.loop-step.step c.loop-step-test.true (c.in_err-visit.ensures.tried other));
    }

pub loop-step-preserved : goal.loop-step-preserved
loop-step-preserved c =
    let goal = target_of c.args.tree.now.proof.plain in
    let v = c.loop-step.invariant in
    let within = c.loop-step-test.true in
    let stays : Stays c.args.db.now c.args.at.0 goal c.loop-step.tree.proof c.visit.new.tree.proof
    = visit_stays c.args.db.now c.args.at.0 c.args.set.now goal c.loop-step.tree.proof c.visit.new.tree.proof c.loop-step.step v.valid v.first (let size = v.size in omega arith) c.in_ok-visit.ensures.tried in
    record {
      valid = stays.proof;
      so_far = sym (visited-more c.args.db.now c.args.set.now c.loop-step.tree.proof c.visit.new.tree.proof c.size-last.result c.loop-step.step within c.in_ok-visit.ensures.tried) ∙ v.so_far;
      size = stays.size ∙ v.size;
      first = omega arith;
    }
