use Rattle.std.proofs.Common.{◌≡◌, ◌≤◌, List, true, Result, Err, ap, sym, subst, ◌∙◌, arith}
use Rattle.mm_subst.specs.declared.symbol.WSym.{WSym}
use Rattle.mm_plain.specs.declared.plain.Plain.{Plain}
use Rattle.mm_plain.specs.Shape.{size_of, height_of, put, step_at, target_of, known, unknowns}
use Rattle.mm_plain.specs.Grafts.{grafted_in}
use Rattle.mm_plain.specs.Premises.{premises_of}
use Rattle.mm_plain.specs.Valid.{IsValid, placed_in}
use Rattle.mm_plain.proofs.Kept.{valid-placed}
use Rattle.mm_plain.proofs.Read.{unlabelled-one}
use Rattle.mm_tree.specs.declared.fault.GraftFault.{GraftFault}
use Rattle.mm_tree.proofs.Rooms.{no_room, same_error}
use Rattle.mm_tree.proofs.Grown.{size-placed}
use Rattle.mm_tree.specs.Meanings.{mean, youngest}
use Rattle.mm_tree.specs.Placed.{IsPlaced}
use Rattle.mm_tree.specs.Versions.{line_of}
use Rattle.mm_tree.specs.declared.timed.TimedTree.{TimedTree}
use Rattle.mm_tree.proofs.Made.{placed-mean, placed-young}
use Rattle.mm_tree.proofs.tree.Tree.place.Goals as goal

pub known_over-requires-clause-few : goal.known_over-requires-clause-few
known_over-requires-clause-few g c =
    let x = c.args.self.now.proof.plain in
    let id = c.args.id.0 in
    let sigma = c.args.sigma.now in
    let hs = premises_of c.args.db.now id in
    let room = c.in_ok-room.ensures sigma in
    let one : size_of (step_at x c.args.step) ≡ 1 = unlabelled-one (step_at x c.args.step) c.requires.unknown in
    let s = size-placed x c.args.step id sigma hs c.requires.exists.0 c.requires.exists.1 one in
    omega (arith, room.0)

pub returns-in_err-room-clause-placed : goal.returns-in_err-room-clause-placed
returns-in_err-room-clause-placed g c =
    let none = no_room c.in_err-room.field-0.0 c.args.self.now (placed_in c.args.db.now c.args.self.now.proof c.args.step c.args.id.0 c.args.sigma.now) (c.in_err-room.ensures c.args.sigma.now) in
    let same : c.from_residual.result ≡ Err c.in_err-room.field-0.0 = same_error c.from_residual.result c.in_err-room.field-0.0 c.from_residual.ensures.1 c.from_residual.ensures.0 in
    subst (λ (r : Result Unit GraftFault). IsPlaced r c.args.self.now c.args.self.now (placed_in c.args.db.now c.args.self.now.proof c.args.step c.args.id.0 c.args.sigma.now)) (sym same) none

pub replace_step-requires : goal.replace_step-requires
replace_step-requires g c =
    let x = c.args.self.now.proof.plain in
    let id = c.args.id.0 in
    let sigma = c.args.sigma.now in
    let hs = premises_of c.args.db.now id in
    let room = c.in_ok-room.ensures sigma in
    let new : mean c.in_ok-node.node.value (line_of c.args.self.now.versions true) ≡ known (target_of (step_at x c.args.step)) id sigma (unknowns sigma hs)
    = ap (λ (y : TimedTree). mean y (line_of c.args.self.now.versions true)) c.in_ok-node.ensures.node
    ∙ placed-mean (line_of c.args.self.now.versions true) c.length-born.result c.in_ok-target.target.value id sigma hs (omega (arith, c.length-born.ensures.line))
    ∙ ap (λ (t : List WSym). known t id sigma (unknowns sigma hs)) c.in_ok-target.ensures.now in
    record {
      exists = c.requires.exists;
      born = omega (arith, ap youngest c.in_ok-node.ensures.node, c.length-born.ensures.hand, placed-young c.length-born.result c.in_ok-target.target.value id sigma hs (omega (arith, c.in_ok-target.ensures.born, c.length-born.ensures.hand)));
      few = subst (λ (y : Plain). size_of (put x c.args.step y) ≤ 1000000) (sym new) room.0;
      low = subst (λ (y : Plain). height_of (put x c.args.step y) ≤ 2000) (sym new) room.1;
    }

pub returns-clause-placed : goal.returns-clause-placed
returns-clause-placed g c =
    let x = c.args.self.now.proof.plain in
    let id = c.args.id.0 in
    let sigma = c.args.sigma.now in
    let hs = premises_of c.args.db.now id in
    let room = c.in_ok-room.ensures sigma in
    let new : mean c.in_ok-node.node.value (line_of c.args.self.now.versions true) ≡ known (target_of (step_at x c.args.step)) id sigma (unknowns sigma hs)
    = ap (λ (y : TimedTree). mean y (line_of c.args.self.now.versions true)) c.in_ok-node.ensures.node
    ∙ placed-mean (line_of c.args.self.now.versions true) c.length-born.result c.in_ok-target.target.value id sigma hs (omega (arith, c.length-born.ensures.line))
    ∙ ap (λ (t : List WSym). known t id sigma (unknowns sigma hs)) c.in_ok-target.ensures.now in
    (c.in_ok-replace_step.ensures.ok ∙ ap (grafted_in c.args.self.now.proof c.args.step) new, room.0, room.1)

pub returns-clause-valid : goal.returns-clause-valid
returns-clause-valid g c =
    let x = c.args.self.now.proof.plain in
    let id = c.args.id.0 in
    let sigma = c.args.sigma.now in
    let hs = premises_of c.args.db.now id in
    let room = c.in_ok-room.ensures sigma in
    let new : mean c.in_ok-node.node.value (line_of c.args.self.now.versions true) ≡ known (target_of (step_at x c.args.step)) id sigma (unknowns sigma hs)
    = ap (λ (y : TimedTree). mean y (line_of c.args.self.now.versions true)) c.in_ok-node.ensures.node
    ∙ placed-mean (line_of c.args.self.now.versions true) c.length-born.result c.in_ok-target.target.value id sigma hs (omega (arith, c.length-born.ensures.line))
    ∙ ap (λ (t : List WSym). known t id sigma (unknowns sigma hs)) c.in_ok-target.ensures.now in
    λ at goal v fits.
    subst (IsValid c.args.db.now at goal) (sym (c.in_ok-replace_step.ensures.ok ∙ ap (grafted_in c.args.self.now.proof c.args.step) new))
    (valid-placed c.args.db.now at goal c.args.self.now.proof c.args.step id sigma v c.requires.exists.0 c.requires.exists.1 fits room.0 room.1)

pub returns-clause-cost : goal.returns-clause-cost
returns-clause-cost g c = omega (arith, c.in_ok-replace_step.ensures.cost, c.in_ok-node.ensures.cost)
