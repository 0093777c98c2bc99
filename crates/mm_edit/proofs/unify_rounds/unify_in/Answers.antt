use Rattle.std.proofs.Common.{◌≡◌, sym, ◌∙◌, arith}
use Rattle.mm_plain.specs.Shape.{target_of}
use Rattle.mm_plain.proofs.Owned.{own-valid}
use Rattle.mm_tree.proofs.Rooms.{same_error}
use Rattle.mm_edit.specs.Unifying.{unified_in}
use Rattle.mm_edit.proofs.AssignLemmas.{tried-err}
use Rattle.mm_edit.proofs.QuietLemmas.{quiet-bound}
use Rattle.mm_edit.proofs.RoundLemmas.{begins-along, keeps-along, keys-first, round-end, round-err, round-none, round-ok, still-proof}
use Rattle.mm_edit.proofs.Short.{short-valid}
use Rattle.mm_edit.proofs.unify_rounds.unify_in.Goals as goal

pub first_unifier-requires-clause-own : goal.first_unifier-requires-clause-own
first_unifier-requires-clause-own c = own-valid c.args.db.now c.args.at.0 (target_of c.args.tree.now.proof.plain) c.loop-left.tree.proof c.requires.at c.loop-left.invariant.valid.valid

pub returns-in_default-clause-tried : goal.returns-in_default-clause-tried
returns-in_default-clause-tried c =
    sym c.loop-left.invariant.so_far ∙ round-none c.loop-left.left c.args.db.now c.args.set.now c.loop-left.tree.proof c.loop-left-test.true (sym c.in_default.is ∙ c.in_ok-theta.ensures.first)

pub forget-requires : goal.forget-requires
forget-requires c = own-valid c.args.db.now c.args.at.0 (target_of c.args.tree.now.proof.plain) c.loop-left.tree.proof c.requires.at c.loop-left.invariant.valid.valid

pub apply_to_tree-requires-clause-keys : goal.apply_to_tree-requires-clause-keys
apply_to_tree-requires-clause-keys c =
    keys-first c.args.db.now c.args.at.0 c.args.set.now (target_of c.args.tree.now.proof.plain) c.loop-left.tree.proof c.in-Some.theta c.loop-left.invariant.valid (sym c.in-Some.is ∙ c.in_ok-theta.ensures.first)

pub apply_to_tree-requires-clause-own : goal.apply_to_tree-requires-clause-own
apply_to_tree-requires-clause-own c = own-valid c.args.db.now c.args.at.0 (target_of c.args.tree.now.proof.plain) c.loop-left.tree.proof c.requires.at c.loop-left.invariant.valid.valid

pub apply_to_tree-requires-clause-short : goal.apply_to_tree-requires-clause-short
apply_to_tree-requires-clause-short c = short-valid c.args.db.now c.args.at.0 (target_of c.args.tree.now.proof.plain) c.loop-left.tree.proof c.loop-left.invariant.valid.valid

pub returns-in_err-apply_to_tree-clause-tried : goal.returns-in_err-apply_to_tree-clause-tried
returns-in_err-apply_to_tree-clause-tried c =
    let f = c.in_err-apply_to_tree.field-0.0 in
    tried-err (unified_in c.args.most c.args.db.now c.args.set.now c.args.tree.now.proof) c.from_residual-in_err-apply_to_tree.result f c.apply_to_tree.new.tree.proof
    (same_error c.from_residual-in_err-apply_to_tree.result f c.from_residual-in_err-apply_to_tree.ensures.1 c.from_residual-in_err-apply_to_tree.ensures.0)
    (λ other. sym c.loop-left.invariant.so_far ∙ round-err c.loop-left.left c.args.db.now c.args.set.now c.loop-left.tree.proof c.in-Some.theta f c.loop-left-test.true (sym c.in-Some.is ∙ c.in_ok-theta.ensures.first) (c.in_err-apply_to_tree.ensures.done.0 other))

pub loop-left-preserved : goal.loop-left-preserved
loop-left-preserved c = record {
  valid = still-proof c.args.db.now c.args.at.0 c.args.set.now (target_of c.args.tree.now.proof.plain) c.loop-left.tree.proof c.apply_to_tree.new.tree.proof c.in-Some.theta c.loop-left.invariant.valid (sym c.in-Some.is ∙ c.in_ok-theta.ensures.first)
      c.in_ok-apply_to_tree.ensures.done;
  so_far = sym (round-ok c.loop-left.left c.args.db.now c.args.set.now c.loop-left.tree.proof c.apply_to_tree.new.tree.proof c.in-Some.theta c.loop-left-test.true (sym c.in-Some.is ∙ c.in_ok-theta.ensures.first) c.in_ok-apply_to_tree.ensures.done)
      ∙ c.loop-left.invariant.so_far;
  marks = keeps-along c.args.tree.now.versions c.loop-left.tree.versions c.apply_to_tree.new.tree.versions c.loop-left.invariant.marks c.in_ok-apply_to_tree.ensures.marks;
  begun = begins-along c.args.tree.now.versions c.loop-left.tree.versions c.apply_to_tree.new.tree.versions c.loop-left.invariant.begun c.in_ok-apply_to_tree.ensures.begun;
  quiet = quiet-bound c.args.db.now c.args.set.now c.in-Some.theta c.loop-left.tree.proof c.apply_to_tree.new.tree.proof c.first_unifier.new.quiet c.forget.new.self
      (keys-first c.args.db.now c.args.at.0 c.args.set.now (target_of c.args.tree.now.proof.plain) c.loop-left.tree.proof c.in-Some.theta c.loop-left.invariant.valid (sym c.in-Some.is ∙ c.in_ok-theta.ensures.first))
      c.in_ok-apply_to_tree.ensures.done c.in_ok-theta.ensures.quiet c.in_ok-forget.ensures.fewer c.in_ok-forget.ensures.same;
}

pub returns-clause-tried : goal.returns-clause-tried
returns-clause-tried c =
    let none : c.loop-left.left ≡ 0 = omega arith in
    sym c.loop-left.invariant.so_far ∙ round-end c.loop-left.left c.args.db.now c.args.set.now c.loop-left.tree.proof none
