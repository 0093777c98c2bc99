use Rattle.std.proofs.Common.{◌≡◌, ◌≤◌, None, length, sym, subst, ◌∙◌, arith}
use Rattle.std.specs.List.{All}
use Rattle.mm_subst.specs.Statements.{statement_of}
use Rattle.mm_subst.specs.Substitutions.{Pairs, applied}
use Rattle.mm_plain.specs.Lengths.{first_long}
use Rattle.mm_plain.specs.Numbers.{HasOwnLabels}
use Rattle.mm_plain.specs.Premises.{premises_of}
use Rattle.mm_plain.specs.Shape.{Proof, size_of, step_at, target_of}
use Rattle.mm_plain.specs.Sources.{label_of}
use Rattle.mm_plain.proofs.Owned.{own-valid}
use Rattle.mm_edit.specs.Applying.{applying_only}
use Rattle.mm_edit.specs.Assigning.{named}
use Rattle.mm_edit.specs.Edited.{answer_in}
use Rattle.mm_edit.specs.Listed.{only_unifier}
use Rattle.mm_edit.proofs.AssignLemmas.{applied-so, few-premises, listing-so, named-so, naming, naming-of, none-listed, premises-short, source-short, spent-so, tried-err, tried-of}
use Rattle.mm_edit.proofs.Assigning.{kept-named}
use Rattle.mm_edit.proofs.Listings.{keys-in}
use Rattle.mm_edit.proofs.Short.{short-valid}
use Rattle.mm_tree.proofs.Rooms.{same_error}
use Rattle.mm_edit.proofs.assign_step.name_and_unify.Goals as goal

pub draw-requires-clause-few : goal.draw-requires-clause-few
draw-requires-clause-few g c = omega (arith, few-premises c.args.db.now c.args.tree.now.proof c.args.step c.args.id.0 c.requires.exists c.requires.unknown c.requires.few)

pub returns-in_err-sigma-clause-tried : goal.returns-in_err-sigma-clause-tried
returns-in_err-sigma-clause-tried g c =
    let f = c.in_err-sigma.field-0.0 in
    tried-err (naming c.args.db.now c.args.set.now c.args.tree.now.proof c.args.step c.args.id.0) c.from_residual.result f c.draw.new.tree.proof
    (same_error c.from_residual.result f c.from_residual.ensures.1 c.from_residual.ensures.0)
    (spent-so c.args.db.now c.args.set.now c.args.tree.now.proof c.args.step c.args.id.0 f c.in_err-sigma.ensures.drawn)

pub returns-then-has_none-clause-tried : goal.returns-then-has_none-clause-tried
returns-then-has_none-clause-tried g c =
    let drawn = c.in_ok-sigma.ensures.drawn in
    λ other.
    none-listed c.args.db.now c.args.set.now c.args.tree.now.proof c.args.step c.args.id.0 c.in_ok-listing.listing drawn.2
    (listing-so c.args.db.now c.args.set.now c.args.tree.now.proof c.draw.new.tree.proof c.args.step c.args.id.0 c.in_ok-sigma.sigma c.in_ok-listing.listing drawn.1 drawn.0 c.in_ok-listing.ensures.listing)
    (sym c.has_none.ensures ∙ c.if-has_none.true)

pub apply_only-requires-clause-keys : goal.apply_only-requires-clause-keys
apply_only-requires-clause-keys g c = λ u e.
    keys-in c.args.db.now c.args.set.now (target_of (step_at c.draw.new.tree.proof.plain c.args.step)) (applied c.in_ok-sigma.sigma (statement_of c.args.db.now c.args.id.0)) c.in_ok-listing.listing u c.in_ok-listing.ensures.listing e

pub apply_only-requires-clause-own : goal.apply_only-requires-clause-own
apply_only-requires-clause-own g c =
    let p = c.args.tree.now.proof in
    let goal = target_of p.plain in
    let drawn = c.in_ok-sigma.ensures.drawn in
    let n = naming-of c.args.db.now c.args.at.0 p c.args.step c.args.id.0 c.requires.stands c.requires.exists drawn.2 in
    subst (λ (r : Proof). HasOwnLabels c.args.db.now r.plain) (sym (named-so c.args.db.now p c.draw.new.tree.proof c.place.new.self.proof c.args.step c.args.id.0 c.in_ok-sigma.sigma drawn.1 drawn.0 c.in_ok-place.ensures.placed.0))
    (own-valid c.args.db.now c.args.at.0 goal (named c.args.db.now p c.args.step c.args.id.0) c.requires.at (kept-named c.args.db.now c.args.at.0 goal p c.args.step c.args.id.0 c.requires.valid n c.requires.few c.requires.low).valid)

pub apply_only-requires-clause-short : goal.apply_only-requires-clause-short
apply_only-requires-clause-short g c =
    let p = c.args.tree.now.proof in
    let goal = target_of p.plain in
    let drawn = c.in_ok-sigma.ensures.drawn in
    let n = naming-of c.args.db.now c.args.at.0 p c.args.step c.args.id.0 c.requires.stands c.requires.exists drawn.2 in
    subst (λ (r : Proof). first_long c.args.db.now r.plain ≡ None) (sym (named-so c.args.db.now p c.draw.new.tree.proof c.place.new.self.proof c.args.step c.args.id.0 c.in_ok-sigma.sigma drawn.1 drawn.0 c.in_ok-place.ensures.placed.0))
    (short-valid c.args.db.now c.args.at.0 goal (named c.args.db.now p c.args.step c.args.id.0) (kept-named c.args.db.now c.args.at.0 goal p c.args.step c.args.id.0 c.requires.valid n c.requires.few c.requires.low).valid)

pub returns-clause-tried : goal.returns-clause-tried
returns-clause-tried g c =
    let p = c.args.tree.now.proof in
    let drawn = c.in_ok-sigma.ensures.drawn in
    tried-of (naming c.args.db.now c.args.set.now p c.args.step c.args.id.0) (applying_only c.args.db.now (only_unifier (answer_in c.in_ok-listing.listing)) c.place.new.self.proof) c.apply_only.result c.place.new.self.proof c.apply_only.new.tree.proof
    (applied-so c.args.db.now c.args.set.now p c.place.new.self.proof c.args.step c.args.id.0 c.in_ok-listing.listing drawn.2
    (listing-so c.args.db.now c.args.set.now p c.draw.new.tree.proof c.args.step c.args.id.0 c.in_ok-sigma.sigma c.in_ok-listing.listing drawn.1 drawn.0 c.in_ok-listing.ensures.listing)
    (sym c.has_none.ensures ∙ c.if-has_none.false)
    (named-so c.args.db.now p c.draw.new.tree.proof c.place.new.self.proof c.args.step c.args.id.0 c.in_ok-sigma.sigma drawn.1 drawn.0 c.in_ok-place.ensures.placed.0))
    c.apply_only.ensures.done

pub list_named-requires-clause-exists : goal.list_named-requires-clause-exists
list_named-requires-clause-exists g c = subst (λ (q : Proof). (1 ≤ c.args.step) × (c.args.step ≤ size_of q.plain)) (sym c.in_ok-sigma.ensures.drawn.1) c.requires.exists

pub list_named-requires-clause-short : goal.list_named-requires-clause-short
list_named-requires-clause-short g c =
    let n = naming-of c.args.db.now c.args.at.0 c.args.tree.now.proof c.args.step c.args.id.0 c.requires.stands c.requires.exists c.in_ok-sigma.ensures.drawn.2 in
    subst (λ (s : Pairs). length (applied s (statement_of c.args.db.now c.args.id.0)) ≤ 32768) (sym c.in_ok-sigma.ensures.drawn.0)
    (source-short c.args.db.now c.args.at.0 (target_of c.args.tree.now.proof.plain) c.args.tree.now.proof c.args.step c.args.id.0 c.requires.valid.valid n)

pub place-requires-clause-exists : goal.place-requires-clause-exists
place-requires-clause-exists g c = subst (λ (q : Proof). (1 ≤ c.args.step) × (c.args.step ≤ size_of q.plain)) (sym c.in_ok-sigma.ensures.drawn.1) c.requires.exists

pub place-requires-clause-unknown : goal.place-requires-clause-unknown
place-requires-clause-unknown g c = subst (λ (q : Proof). label_of (step_at q.plain c.args.step) ≡ None) (sym c.in_ok-sigma.ensures.drawn.1) c.requires.unknown

pub place-requires-clause-short : goal.place-requires-clause-short
place-requires-clause-short g c =
    let n = naming-of c.args.db.now c.args.at.0 c.args.tree.now.proof c.args.step c.args.id.0 c.requires.stands c.requires.exists c.in_ok-sigma.ensures.drawn.2 in
    subst (λ (s : Pairs). All (λ h. length (applied s h) ≤ 32768) (premises_of c.args.db.now c.args.id.0)) (sym c.in_ok-sigma.ensures.drawn.0)
    (premises-short c.args.db.now c.args.at.0 (target_of c.args.tree.now.proof.plain) c.args.tree.now.proof c.args.step c.args.id.0 c.requires.valid.valid n)
