use Rattle.std.proofs.Common.{◌≡◌, get_or, ◌∙◌, arith}
use Rattle.mm_plain.specs.declared.plain.Plain.{Plain}
use Rattle.mm_plain.proofs.Equations.{size_of-pos}
use Rattle.mm_tree.specs.Plans.{Grove, IsNoteOf, grove_of, no_tree}
use Rattle.mm_tree.proofs.PlanLemmas.{kept-same, kept-steps, note-at}
use Rattle.mm_tree.proofs.plan.Plan.push_again.Goals as goal

pub add-requires-clause-note : goal.add-requires-clause-note
add-requires-clause-note c =
    let g : Grove = grove_of c.args.self.now in
    kept-same c.in_ok-note.note c.index.result.now c.in_ok-note.ensures ∙ note-at c.args.self.now.made.items g.made c.args.step c.index.result.now no_tree c.requires.plan.made c.requires.exists c.index.ensures

pub overflow_add-total : goal.overflow_add-total
overflow_add-total c =
    let x : Plain = get_or (grove_of c.args.self.now).made c.args.step no_tree in
    let note : IsNoteOf c.in_ok-note.note x = kept-same c.in_ok-note.note c.index.result.now c.in_ok-note.ensures ∙ note-at c.args.self.now.made.items (grove_of c.args.self.now).made c.args.step c.index.result.now no_tree c.requires.plan.made c.requires.exists c.index.ensures in
    let total = c.requires.plan.total in
    let room = c.requires.room in
    omega (arith, total, room, kept-steps c.in_ok-note.note x note)

pub add-requires-clause-room : goal.add-requires-clause-room
add-requires-clause-room c =
    let x : Plain = get_or (grove_of c.args.self.now).made c.args.step no_tree in
    let note : IsNoteOf c.in_ok-note.note x = kept-same c.in_ok-note.note c.index.result.now c.in_ok-note.ensures ∙ note-at c.args.self.now.made.items (grove_of c.args.self.now).made c.args.step c.index.result.now no_tree c.requires.plan.made c.requires.exists c.index.ensures in
    let total = c.requires.plan.total in
    let room = c.requires.room in
    omega (arith, total, room, kept-steps c.in_ok-note.note x note)

pub add-requires-clause-more : goal.add-requires-clause-more
add-requires-clause-more c =
    let x : Plain = get_or (grove_of c.args.self.now).made c.args.step no_tree in
    let note : IsNoteOf c.in_ok-note.note x = kept-same c.in_ok-note.note c.index.result.now c.in_ok-note.ensures ∙ note-at c.args.self.now.made.items (grove_of c.args.self.now).made c.args.step c.index.result.now no_tree c.requires.plan.made c.requires.exists c.index.ensures in
    let total = c.requires.plan.total in
    omega (arith, total, kept-steps c.in_ok-note.note x note, size_of-pos x)
