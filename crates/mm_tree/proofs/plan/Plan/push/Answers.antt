use Rattle.std.proofs.Common.{◌≡◌, ℕ, ◌-◌, ◌+◌, List, drop, length, refl, arith}
use Rattle.std.specs.List.{sum_by}
use Rattle.std.proofs.lemmas.List.Sums.{sum_by-take-drop}
use Rattle.mm_plain.specs.Shape.{size_of}
use Rattle.mm_plain.specs.declared.plain.Plain.{Plain}
use Rattle.mm_tree.specs.Plans.{grove_of}
use Rattle.mm_tree.specs.declared.plan.Note.{Note}
use Rattle.mm_tree.proofs.PlanLemmas.{known-note, many-same, sums-behind}
use Rattle.mm_tree.proofs.plan.Plan.push.Goals as goal

pub steps_in-steps-requires : goal.steps_in-steps-requires
steps_in-steps-requires c =
    let xs : List Plain = (grove_of c.args.self.now).standing in
    let stay : ℕ = c.len.result - c.args.takes in
    let kept = c.requires.plan.standing in
    let sums = sums-behind c.deref.result.now c.args.self.now.standing.items xs stay stay c.deref.ensures.value kept refl in
    omega (arith, sums, sum_by-take-drop size_of xs stay, c.requires.room)

pub overflow_add-steps : goal.overflow_add-steps
overflow_add-steps c =
    let xs : List Plain = (grove_of c.args.self.now).standing in
    let stay : ℕ = c.len.result - c.args.takes in
    let kept = c.requires.plan.standing in
    let sums = sums-behind c.deref.result.now c.args.self.now.standing.items xs stay stay c.deref.ensures.value kept refl in
    omega (arith, c.steps_in-steps.ensures, sums, sum_by-take-drop size_of xs stay, c.requires.room)

pub add-requires-clause-note : goal.add-requires-clause-note
add-requires-clause-note c =
    let xs : List Plain = (grove_of c.args.self.now).standing in
    let stay : ℕ = c.len.result - c.args.takes in
    let n : ℕ = length xs - c.args.takes in
    let kept = c.requires.plan.standing in
    let same : stay ≡ n = omega (arith, c.len.ensures, c.args.self.now.standing.ok.0, many-same c.args.self.now.standing.items xs kept) in
    let sums = sums-behind c.deref.result.now c.args.self.now.standing.items xs stay n c.deref.ensures.value kept same in
    known-note (record { text = c.in_ok-text.text; steps = c.steps_in-steps.result + 1 }) c.in_ok-clone.field-0.value c.args.target c.args.id.0 c.in_ok-sigma.sigma.value.pairs (drop n xs)
    c.in_ok-text.ensures (search c.in_ok-clone.ensures) (omega (arith, c.steps_in-steps.ensures, sums))

pub add-requires-clause-total : goal.add-requires-clause-total
add-requires-clause-total c =
    let xs : List Plain = (grove_of c.args.self.now).standing in
    let stay : ℕ = c.len.result - c.args.takes in
    let kept = c.requires.plan.standing in
    let total = c.requires.plan.total in
    let sums = sums-behind c.deref.result.now c.args.self.now.standing.items xs stay stay c.deref.ensures.value kept refl in
    omega (arith, c.steps_in-steps.ensures, sums, sum_by-take-drop size_of xs stay, total)
