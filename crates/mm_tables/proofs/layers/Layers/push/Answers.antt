use Rattle.std.proofs.Common.{◌≡◌, suc, length, ap, ◌∙◌, arith, ◌∷◌, []}
use Rattle.mm_tables.specs.Layered.{pushed}
use Rattle.mm_tables.specs.declared.trail.Node.{Node}
use Rattle.mm_tables.proofs.Chains.{pushes, chains_pushed}
use Rattle.mm_tables.proofs.layers.Layers.push.Goals as goal

pub invariant_of-self-2 : goal.invariant_of-self-2
invariant_of-self-2 c =
    let nodes = c.self.inside.nodes.items in
    let node : Node = record { value = c.args.value; below = c.self.inside.top } in
    let len : c.len-2.result ≡ suc (length nodes) = omega (arith, c.len-2.ensures, c.in_ok-push.ensures.len) in
    rw c.in_ok-push.ensures.items (
    chains_pushed nodes node c.len-2.result c.self.inside.outer.items c.self.inside.moments.items c.self.invariant len (omega (arith, len, c.if-len.false, c.len.ensures)))

pub returns-clause-ok : goal.returns-clause-ok
returns-clause-ok c =
    let nodes = c.self.inside.nodes.items in
    let node : Node = record { value = c.args.value; below = c.self.inside.top } in
    let len : c.len-2.result ≡ suc (length nodes) = omega (arith, c.len-2.ensures, c.in_ok-push.ensures.len) in
    rw c.in_ok-push.ensures.items (pushes nodes node c.len-2.result c.self.inside.outer.items c.self.inside.moments.items c.self.invariant len)
    ∙ ap (λ l. pushed l (c.args.value ∷ [])) c.self.view_is
