use Rattle.std.proofs.Common.{◌≡◌, is_none, length, vec_len, ap, sym, ◌∙◌, arith}
use Rattle.mm_plain.specs.Shape.{steps_of, target_of}
use Rattle.mm_plain.specs.Sources.{is_pending}
use Rattle.mm_plain.proofs.Owned.{own-valid}
use Rattle.mm_tree.specs.Trees.{State}
use Rattle.mm_tree.specs.declared.tree.Mark.{Mark}
use Rattle.mm_edit.specs.Counts.{pending_count}
use Rattle.mm_edit.specs.Unifying.{all_unified, unified_in}
use Rattle.mm_edit.proofs.Pending.{numbers_counted}
use Rattle.mm_edit.proofs.QuietLemmas.{quiet-none}
use Rattle.mm_edit.proofs.RoundLemmas.{all-so, some-there}
use Rattle.mm_edit.proofs.TryingLemmas.{IsTaken, done-by, tried-along}
use Rattle.mm_edit.proofs.unify_rounds.unify_all.Goals as goal

pub pending_steps-requires : goal.pending_steps-requires
pending_steps-requires g c = own-valid c.args.db.now c.args.at.0 (target_of c.args.tree.now.proof.plain) c.args.tree.now.proof c.requires.at c.requires.valid.valid

pub first_unifier-requires-clause-quiet : goal.first_unifier-requires-clause-quiet
first_unifier-requires-clause-quiet g c = quiet-none c.args.db.now c.args.set.now c.args.tree.now.proof.plain c.new-quiet.result c.new-quiet.ensures

pub first_unifier-requires-clause-own : goal.first_unifier-requires-clause-own
first_unifier-requires-clause-own g c = own-valid c.args.db.now c.args.at.0 (target_of c.args.tree.now.proof.plain) c.args.tree.now.proof c.requires.at c.requires.valid.valid

pub returns-clause-done : goal.returns-clause-done
unfolding pending_count
returns-clause-done g c =
    let p = c.args.tree.now.proof in
    let old : State = c.args.tree.now in
    let m : Mark = c.mark-before.result in
    let taken : IsTaken old m = record { alive = c.mark-before.ensures.alive; names = c.mark-before.ensures.named; hand = c.mark-before.ensures.hand; settled = c.mark-before.ensures.settled } in
    let long : vec_len c.in_ok-pending.pending ≡ length c.in_ok-pending.pending.items = omega arith in
    let most : c.len.result ≡ pending_count c.args.db.now p.plain = c.len.ensures ∙ long ∙ ap length c.in_ok-pending.ensures ∙ numbers_counted (is_pending c.args.db.now) 1 (steps_of p.plain) in
    done-by (all_unified c.args.db.now c.args.set.now p) m old c.unify_in-tried.new.tree c.back_where_refused.new.tree c.back_where_refused.result taken c.unify_in-tried.ensures.marks
    (tried-along (unified_in c.len.result c.args.db.now c.args.set.now p) (all_unified c.args.db.now c.args.set.now p) c.unify_in-tried.result c.back_where_refused.result c.unify_in-tried.new.tree.proof
    (all-so c.args.db.now c.args.set.now p c.len.result (ap is_none (sym c.in_ok-first.ensures.first) ∙ some-there c.in_ok-first.first c.is_none.result c.is_none.ensures c.if-is_none.false) most)
    c.back_where_refused.ensures.same c.unify_in-tried.ensures.tried)
    c.back_where_refused.ensures.left
