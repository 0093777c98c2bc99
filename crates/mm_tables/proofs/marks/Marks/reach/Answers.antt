use Rattle.std.proofs.Common.{ap, ◌∙◌, ◌≤◌, ◌+◌, ◌-◌, ◌++◌, replicate, length, arith, List, ℕ}
use Rattle.std.specs.Vec.{vec_len}
use Rattle.mm_tables.specs.Marked.{flags_of, is_marked}
use Rattle.mm_tables.proofs.Marking.{take_whole, roomier}
use Rattle.mm_tables.proofs.marks.Marks.reach.Goals as goal

pub returns-in_ok-resize-clause-same : goal.returns-in_ok-resize-clause-same
returns-in_ok-resize-clause-same c = λ n.
    let stamps : List ℕ = c.self.inside.stamps.items in
    let more : ℕ = (c.args.number + 1) - vec_len c.self.inside.stamps in
    let short : length stamps ≤ c.args.number + 1 = omega (arith, c.if-number-len.true, c.len.ensures) in
    ap (λ l. is_marked (flags_of l c.self.inside.turn) n) c.in_ok-resize.ensures.items
    ∙ ap (λ l. is_marked (flags_of (l ++ replicate more 0) c.self.inside.turn) n) (take_whole (c.args.number + 1) stamps short)
    ∙ roomier stamps c.self.inside.turn more n c.self.invariant.0
    ∙ ap (λ l. is_marked l n) c.self.view_is
