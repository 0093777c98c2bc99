use Rattle.std.proofs.Common.{ap, sym, ◌∙◌, arith}
use Rattle.mm_tables.specs.Trails.{trail}
use Rattle.mm_tables.specs.declared.trail.Node.{Node}
use Rattle.mm_tables.proofs.Chains.{parts, no_trail}
use Rattle.mm_tables.proofs.trail.Trail.split_last.Goals as goal

nowhere : Node
nowhere = record { value = 0; below = 0 }

pub returns-then-self-eq0 : goal.returns-then-self-eq0
returns-then-self-eq0 c =
    let nodes = c.self.inside.nodes.now in
    sym c.self.view_is ∙ ap (trail nodes) c.if-self-eq0.true ∙ no_trail nodes

pub invariant_of-older : goal.invariant_of-older
unfolding nowhere
invariant_of-older c =
    let found = parts c.self.inside.nodes.now c.self.inside.top nowhere c.self.invariant.0 c.if-self-eq0.false c.self.invariant.1 in
    (c.self.invariant.0, omega (arith, found.earlier, c.self.invariant.1))

pub returns : goal.returns
unfolding nowhere
returns c =
    let found = parts c.self.inside.nodes.now c.self.inside.top nowhere c.self.invariant.0 c.if-self-eq0.false c.self.invariant.1 in
    sym c.self.view_is ∙ found.whole
