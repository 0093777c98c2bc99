use Rattle.std.proofs.Common.{◌≡◌, ◌+◌, ◌-◌, ◌≤◌, true, false, Ok, Err, refl, sym, ◌∙◌, subst, arith}
use Rattle.std.proofs.lemmas.Bool.{true≢false, false≢true}
use Rattle.mm_plain.specs.Shape.{size_of, step_at, target_of}
use Rattle.mm_tree.proofs.Rooms.{same_error}
use Rattle.mm_improve.specs.declared.database.Search.{Search}
use Rattle.mm_edit.specs.Edited.{IsFilled}
use Rattle.mm_edit.specs.Improving.{number_after, proof_for}
use Rattle.mm_edit.specs.Keeping.{IsProofOf}
use Rattle.mm_edit.specs.Proving.{found_by}
use Rattle.mm_edit.proofs.ImproveLemmas.{all-err, counted-end, counted-next, looks-filled, looks-first, moved-filled, turn-end, turn-err, turn-more, turn-start}
use Rattle.mm_edit.proofs.Marks.{marks_stay}
use Rattle.mm_edit.proofs.RoundLemmas.{begins-along, keeps-along}
use Rattle.mm_edit.proofs.improvement.fill_all.Goals as goal
use Rattle.mm_edit.proofs.improvement.fill_all.Goals.{then-branch, else-branch}

pub loop-step-init : goal.loop-step-init
loop-step-init g c =
    let p = c.args.tree.now.proof in
    let prove = found_by c.args.db.now c.args.prover.now.search c.args.depth in
    record {
      ready = c.requires.ready;
      search = refl;
      valid = c.requires.valid;
      so_far = turn-start prove p c.size-size.result 1 refl c.size-size.ensures;
      looks = looks-first p.plain;
      counted = refl;
      still = λ none. refl;
      few = omega arith;
      size = c.size-size.ensures;
      first = omega arith;
      marks = marks_stay c.args.tree.now.versions;
      begun = (refl, refl);
    }

pub fill_step-requires-clause-valid : goal.fill_step-requires-clause-valid
fill_step-requires-clause-valid g c =
    let q = c.loop-step.tree.proof in
    let v = c.loop-step.invariant in
    subst (λ (s : Search). IsProofOf c.args.db.now s.at.0 (target_of q.plain) q) (sym v.search)
    (subst (λ aim. IsProofOf c.args.db.now c.args.prover.now.search.at.0 aim q) (sym v.valid.valid.goal_is) v.valid)

pub returns-in_err-fill_step-clause-filled : goal.returns-in_err-fill_step-clause-filled
returns-in_err-fill_step-clause-filled g c =
    let p = c.args.tree.now.proof in
    let q = c.loop-step.tree.proof in
    let k = c.loop-step.step in
    let v = c.loop-step.invariant in
    let prove = found_by c.args.db.now c.args.prover.now.search c.args.depth in
    let f = c.in_err-fill_step.field-0.0 in
    let size = v.size in
    let m : k + (c.size.result - c.size-size.result) ≡ number_after p.plain q.plain k = omega (arith, c.size.ensures, size) in
    let filled = moved-filled prove q c.fill_step.new.tree.proof (k + (c.size.result - c.size-size.result)) (number_after p.plain q.plain k) (Err f) m
    (subst (λ (s : Search). IsFilled (proof_for (found_by c.args.db.now s c.args.depth) (step_at q.plain (k + (c.size.result - c.size-size.result)))) q (k + (c.size.result - c.size-size.result)) (Err f) c.fill_step.new.tree.proof) v.search c.in_err-fill_step.ensures.filled) in
    all-err prove p c.fill_step.new.tree.proof c.from_residual.result f
    (same_error c.from_residual.result f c.from_residual.ensures.1 c.from_residual.ensures.0)
    (λ other. sym v.so_far ∙ turn-err prove p.plain q f c.size-size.result k c.loop-step-test.true
    (filled other))

pub loop-step-preserved : goal.loop-step-preserved
loop-step-preserved g c =
    let p = c.args.tree.now.proof in
    let q = c.loop-step.tree.proof in
    let new = c.fill_step.new.tree.proof in
    let k = c.loop-step.step in
    let v = c.loop-step.invariant in
    let bytes = c.args.db.now in
    let prove = found_by bytes c.args.prover.now.search c.args.depth in
    let b = c.in_ok-fill_step.field-0 in
    let size = v.size in
    let few = v.few in
    let first = v.first in
    let within = c.loop-step-test.true in
    let high : k ≤ size_of p.plain = omega arith in
    let m : k + (c.size.result - c.size-size.result) ≡ number_after p.plain q.plain k = omega (arith, c.size.ensures, size) in
    let filled = moved-filled prove q new (k + (c.size.result - c.size-size.result)) (number_after p.plain q.plain k) (Ok b) m
    (subst (λ (s : Search). IsFilled (proof_for (found_by bytes s c.args.depth) (step_at q.plain (k + (c.size.result - c.size-size.result)))) q (k + (c.size.result - c.size-size.result)) (Ok b) new) v.search c.in_ok-fill_step.ensures.filled) in
    let up : b ≡ true → c.if-branch.count ≡ c.loop-step.count + 1 = λ t. elim c.if-branch.branch [
      | then-branch w ↦ w.count-is
      | else-branch w ↦ absurd (true≢false (sym t ∙ w.if-branch.false))
    ] in
    let stay : b ≡ false → c.if-branch.count ≡ c.loop-step.count = λ t. elim c.if-branch.branch [
      | then-branch w ↦ absurd (false≢true (sym t ∙ w.if-branch.true))
      | else-branch w ↦ w.count-is
    ] in
    record {
      ready = c.in_ok-fill_step.ensures.ready;
      search = c.in_ok-fill_step.ensures.search ∙ v.search;
      valid = subst (λ aim. IsProofOf bytes c.args.prover.now.search.at.0 aim new) v.valid.valid.goal_is
          (subst (λ (s : Search). IsProofOf bytes s.at.0 (target_of q.plain) new) v.search c.in_ok-fill_step.ensures.valid);
      so_far = sym (turn-more prove p.plain q new c.size-size.result k within filled.0) ∙ v.so_far;
      looks = looks-filled prove p.plain q new k first high v.looks filled.0;
      counted = counted-next prove p.plain q.plain k c.loop-step.count c.if-branch.count b first high v.looks filled.1 v.counted up stay;
      still = λ none. elim c.if-branch.branch [
        | then-branch w ↦ absurd (omega (arith, none, w.count-is))
        | else-branch w ↦ c.in_ok-fill_step.ensures.same w.if-branch.false ∙ v.still (sym w.count-is ∙ none)
      ];
      few = elim c.if-branch.branch [ then-branch w ↦ omega (arith, w.count-is, few) | else-branch w ↦ omega (arith, w.count-is, few) ];
      size = size;
      first = omega arith;
      marks = keeps-along c.args.tree.now.versions c.loop-step.tree.versions c.fill_step.new.tree.versions v.marks c.in_ok-fill_step.ensures.marks;
      begun = begins-along c.args.tree.now.versions c.loop-step.tree.versions c.fill_step.new.tree.versions v.begun c.in_ok-fill_step.ensures.begun;
    }

pub returns-clause-filled : goal.returns-clause-filled
returns-clause-filled g c =
    let p = c.args.tree.now.proof in
    let v = c.loop-step.invariant in
    let size = v.size in
    let past = c.loop-step-test.false in
    let prove = found_by c.args.db.now c.args.prover.now.search c.args.depth in (
      sym v.so_far ∙ turn-end prove p.plain c.loop-step.tree.proof c.size-size.result c.loop-step.step (omega arith),
      v.counted ∙ counted-end prove p.plain c.loop-step.step (omega arith),
    )
