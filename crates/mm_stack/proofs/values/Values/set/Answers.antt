use Rattle.std.proofs.Common.{◌<◌, ◌==◌, ◌+◌, ◌-◌, ◌++◌, ℕ, arith, ap, ◌∙◌, length, replicate, get_or, Some, None, Option, if◌then◌else◌, length-append}
use Rattle.std.proofs.lemmas.List.{length-replicate}
use Rattle.mm_stack.specs.declared.values.Seat.{Seat}
use Rattle.mm_stack.proofs.Turns.{set_seat, more_seats}
use Rattle.mm_stack.proofs.values.Values.set.Goals as goal

pub returns : goal.returns
returns c = λ s.
    let seats = c.self.inside.seats.items in
    let turn = c.self.inside.turn in
    let k = c.args.symbol in
    let none : Seat = record { turn = 0; entry = 0 } in
    let more = replicate (k + 1 - length seats) none in
    let room : k < length (seats ++ more) = omega (arith, length-append seats more, length-replicate (k + 1 - length seats) none) in
    let choice : Option ℕ → Option ℕ = λ v. if s == k then Some c.args.entry else v in
    rw c.in_ok-make_room.ensures.ok (
    set_seat turn (seats ++ more) k c.args.entry room s
    ∙ ap choice (more_seats turn seats (k + 1 - length seats) none c.self.invariant.begun s ∙ ap (λ xs. get_or xs s None) c.self.view_is))
