use Rattle.std.proofs.Common.{ap, ◌∙◌, ◌||◌, ◌<◌, arith, length, nat_eq, List, ℕ}
use Rattle.std.proofs.lemmas.List.{length-map}
use Rattle.mm_tables.specs.Marked.{is_marked}
use Rattle.mm_tables.proofs.Marking.{stamped}
use Rattle.mm_tables.proofs.marks.Marks.stamp.Goals as goal

pub returns : goal.returns
returns c = λ n.
    let stamps : List ℕ = c.self.inside.stamps.items in
    let small : c.args.number < length stamps = omega (arith, c.requires, ap length c.self.view_is, length-map stamps (λ s. nat_eq s c.self.inside.turn)) in
    stamped stamps c.args.number c.self.inside.turn n c.self.invariant.0 small
    ∙ ap (λ l. is_marked l n || nat_eq n c.args.number) c.self.view_is
