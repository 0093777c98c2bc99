use Rattle.std.proofs.Common.{◌≡◌, ◌≤◌, true, Result, Err, ap, sym, subst, ◌∙◌, arith}
use Rattle.mm_plain.specs.declared.plain.Plain.{Plain}
use Rattle.mm_plain.specs.Shape.{size_of, height_of, put}
use Rattle.mm_plain.specs.Grafts.{grafted_in}
use Rattle.mm_plain.specs.Valid.{IsValid}
use Rattle.mm_plain.proofs.Grafts.{valid-grafted}
use Rattle.mm_tree.specs.declared.fault.GraftFault.{GraftFault}
use Rattle.mm_tree.specs.declared.timed.TimedTree.{TimedTree}
use Rattle.mm_tree.specs.Meanings.{mean, youngest}
use Rattle.mm_tree.specs.Placed.{IsPlaced}
use Rattle.mm_tree.specs.Versions.{line_of}
use Rattle.mm_tree.proofs.Rooms.{no_room, same_error}
use Rattle.mm_tree.proofs.Written.{mean-written, young-written}
use Rattle.mm_tree.proofs.tree.Tree.graft.Goals as goal

pub replace_step-requires-clause-born : goal.replace_step-requires-clause-born
replace_step-requires-clause-born g c = omega (arith, ap youngest c.in_ok-node.ensures.node, c.length-birth.ensures.hand, young-written c.length-birth.result c.args.part.now.proof.plain)

pub replace_step-requires-clause-few : goal.replace_step-requires-clause-few
replace_step-requires-clause-few g c =
    let x = c.args.self.now.proof.plain in
    let line = line_of c.args.self.now.versions true in
    let y = c.args.part.now.proof.plain in
    let room = c.in_ok-room_for.ensures in
    let new : mean c.in_ok-node.node.value line ≡ y = ap (λ (z : TimedTree). mean z line) c.in_ok-node.ensures.node ∙ mean-written c.length-birth.result line (omega (arith, c.length-birth.ensures.line)) y in
    subst (λ (z : Plain). size_of (put x c.args.step z) ≤ 1000000) (sym new) room.0

pub replace_step-requires-clause-low : goal.replace_step-requires-clause-low
replace_step-requires-clause-low g c =
    let x = c.args.self.now.proof.plain in
    let line = line_of c.args.self.now.versions true in
    let y = c.args.part.now.proof.plain in
    let room = c.in_ok-room_for.ensures in
    let new : mean c.in_ok-node.node.value line ≡ y = ap (λ (z : TimedTree). mean z line) c.in_ok-node.ensures.node ∙ mean-written c.length-birth.result line (omega (arith, c.length-birth.ensures.line)) y in
    subst (λ (z : Plain). height_of (put x c.args.step z) ≤ 2000) (sym new) room.1

pub returns-clause-grafted : goal.returns-clause-grafted
returns-clause-grafted g c =
    let x = c.args.self.now.proof.plain in
    let line = line_of c.args.self.now.versions true in
    let y = c.args.part.now.proof.plain in
    let room = c.in_ok-room_for.ensures in
    let new : mean c.in_ok-node.node.value line ≡ y = ap (λ (z : TimedTree). mean z line) c.in_ok-node.ensures.node ∙ mean-written c.length-birth.result line (omega (arith, c.length-birth.ensures.line)) y in
    (c.in_ok-replace_step.ensures.ok ∙ ap (grafted_in c.args.self.now.proof c.args.step) new, room.0, room.1)

pub returns-clause-valid : goal.returns-clause-valid
returns-clause-valid g c =
    let x = c.args.self.now.proof.plain in
    let line = line_of c.args.self.now.versions true in
    let y = c.args.part.now.proof.plain in
    let room = c.in_ok-room_for.ensures in
    let new : mean c.in_ok-node.node.value line ≡ y = ap (λ (z : TimedTree). mean z line) c.in_ok-node.ensures.node ∙ mean-written c.length-birth.result line (omega (arith, c.length-birth.ensures.line)) y in
    λ bytes at goal v w below.
    subst (IsValid bytes at goal) (sym (c.in_ok-replace_step.ensures.ok ∙ ap (grafted_in c.args.self.now.proof c.args.step) new))
    (valid-grafted bytes at goal c.args.self.now.proof c.args.part.now.proof c.args.step v c.requires.exists.0 c.requires.exists.1 w below room.0 room.1)
