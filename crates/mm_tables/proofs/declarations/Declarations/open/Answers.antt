use Rattle.std.proofs.Common.{◌≡◌, ◌++◌, ◌∷◌, [], length, ap, arith, ◌∙◌}
use Rattle.mm_tables.proofs.Changing.{opens}
use Rattle.mm_tables.proofs.declarations.Declarations.open.Goals as goal

pub invariant_of-self-in-Ok : goal.invariant_of-self-in-Ok
invariant_of-self-in-Ok c =
    let standing = c.self.inside.standing.items in
    let heights = c.self.inside.heights.items in
    let len : c.len.result ≡ length standing = omega (arith, c.len.ensures) in
    let one_more : c.push.new.self.items ≡ heights ++ length standing ∷ [] = c.in_ok-push.ensures.items ∙ ap (λ n. heights ++ n ∷ []) len in
    rw (one_more, c.in-Ok.ensures.ok) (opens c.self.inside.layers c.self.inside.changes c.self.inside.changes standing heights c.self.invariant)
