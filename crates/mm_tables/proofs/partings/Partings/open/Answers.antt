use Rattle.std.proofs.Common.{◌≡◌, ◌++◌, ◌∷◌, [], length, ap, ◌∙◌}
use Rattle.mm_tables.specs.Texts.{texts}
use Rattle.mm_tables.proofs.Layering.{in_begun}
use Rattle.mm_tables.proofs.partings.Partings.open.Goals as goal

pub invariant_of-self-in-Ok : goal.invariant_of-self-in-Ok
invariant_of-self-in-Ok c =
    let heights = c.self.inside.heights.items in
    let one_more : c.push.new.self.items ≡ heights ++ length c.self.inside.parted ∷ [] = c.in_ok-push.ensures.items ∙ ap (λ n. heights ++ n ∷ []) c.len.ensures in
    rw (one_more, c.in-Ok.ensures.ok) (in_begun (texts c.self.inside.groups.items) c.self.inside.numbers c.self.inside.parted heights c.self.invariant)
