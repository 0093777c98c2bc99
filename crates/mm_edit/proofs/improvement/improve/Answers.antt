use Rattle.std.proofs.Common.{Ok, Err, ◌∙◌, ap, sym, subst}
use Rattle.mm_plain.specs.Shape.{target_of}
use Rattle.mm_tree.proofs.Rooms.{same_error}
use Rattle.mm_improve.specs.declared.database.Search.{Search}
use Rattle.mm_edit.specs.Edited.{IsFilled}
use Rattle.mm_edit.specs.Improving.{improved}
use Rattle.mm_edit.specs.Keeping.{IsProofOf}
use Rattle.mm_edit.specs.Proving.{found_by, proofs_found}
use Rattle.mm_edit.proofs.ImproveLemmas.{improve-err, improve-none, improve-ok, improved-so}
use Rattle.mm_edit.proofs.improvement.improve.Goals as goal

pub fill_goal-requires-clause-valid : goal.fill_goal-requires-clause-valid
fill_goal-requires-clause-valid g c =
    let p = c.args.tree.now.proof in
    subst (λ (s : Search). IsProofOf c.args.db.now s.at.0 (target_of p.plain) p) (sym c.in_ok-prover.ensures.search) c.requires.valid

pub returns-in_err-fill_goal-clause-done : goal.returns-in_err-fill_goal-clause-done
returns-in_err-fill_goal-clause-done g c =
    let p = c.args.tree.now.proof in
    let q = c.fill_goal.new.tree.proof in
    let k = c.args.step in
    let prove = proofs_found c.args.db.now c.args.at.0 c.args.set.now c.args.no_distinct c.args.depth in
    let f = c.in_err-fill_goal.field-0.0 in
    let meaning = improved-so prove p k c.in_ok-goal.goal (sym c.has_step.ensures ∙ c.if-not-has_step.false) (sym c.is_unknown.ensures ∙ c.if-not-is_unknown.false) c.in_ok-goal.ensures (sym c.has_work.ensures ∙ c.if-has_work.false) in
    let filled = subst (λ (s : Search). IsFilled (found_by c.args.db.now s c.args.depth c.in_ok-goal.goal) p k (Err f) q) c.in_ok-prover.ensures.search c.in_err-fill_goal.ensures.filled in
    improve-err (improved prove p k) (prove c.in_ok-goal.goal) p q k c.from_residual-in_err-fill_goal.result f meaning
    (same_error c.from_residual-in_err-fill_goal.result f c.from_residual-in_err-fill_goal.ensures.1 c.from_residual-in_err-fill_goal.ensures.0)
    filled (ap (λ s. s.proof) c.in_err-fill_goal.ensures.same)

pub returns-then-branch-clause-done : goal.returns-then-branch-clause-done
returns-then-branch-clause-done g c =
    let p = c.args.tree.now.proof in
    let q = c.fill_goal.new.tree.proof in
    let k = c.args.step in
    let prove = proofs_found c.args.db.now c.args.at.0 c.args.set.now c.args.no_distinct c.args.depth in
    let meaning = improved-so prove p k c.in_ok-goal.goal (sym c.has_step.ensures ∙ c.if-not-has_step.false) (sym c.is_unknown.ensures ∙ c.if-not-is_unknown.false) c.in_ok-goal.ensures (sym c.has_work.ensures ∙ c.if-has_work.false) in
    let filled = subst (λ (s : Search). IsFilled (found_by c.args.db.now s c.args.depth c.in_ok-goal.goal) p k (Ok c.in_ok-fill_goal.field-0) q) c.in_ok-prover.ensures.search c.in_ok-fill_goal.ensures.filled in
    improve-ok (improved prove p k) (prove c.in_ok-goal.goal) p q k c.in_ok-fill_goal.field-0 meaning c.if-branch.true filled

pub returns-clause-done : goal.returns-clause-done
returns-clause-done g c =
    let p = c.args.tree.now.proof in
    let q = c.fill_goal.new.tree.proof in
    let k = c.args.step in
    let prove = proofs_found c.args.db.now c.args.at.0 c.args.set.now c.args.no_distinct c.args.depth in
    let meaning = improved-so prove p k c.in_ok-goal.goal (sym c.has_step.ensures ∙ c.if-not-has_step.false) (sym c.is_unknown.ensures ∙ c.if-not-is_unknown.false) c.in_ok-goal.ensures (sym c.has_work.ensures ∙ c.if-has_work.false) in
    let filled = subst (λ (s : Search). IsFilled (found_by c.args.db.now s c.args.depth c.in_ok-goal.goal) p k (Ok c.in_ok-fill_goal.field-0) q) c.in_ok-prover.ensures.search c.in_ok-fill_goal.ensures.filled in
    ((λ other. improve-none (improved prove p k) (prove c.in_ok-goal.goal) p k c.in_ok-fill_goal.field-0 meaning c.if-branch.false filled.1), ap (λ s. s.proof) (c.in_ok-fill_goal.ensures.same c.if-branch.false))
