use Rattle.std.proofs.Common.{nat_eq, ap, sym, ◌∙◌, arith, ◌-◌, slice_index_or}
use Rattle.std.specs.List.{list_any}
use Rattle.mm_tables.specs.Trails.{trail}
use Rattle.mm_tables.specs.declared.trail.Node.{Node}
use Rattle.mm_tables.proofs.Chains.{parts, no_trail, held_on_top, held_below}
use Rattle.mm_tables.proofs.trail.Trail.contains.Goals as goal

abbrev nowhere : Node
nowhere = record { value = 0; below = 0 }

pub returns-then-value-node : goal.returns-then-value-node
returns-then-value-node c =
    let nodes = c.self.inside.nodes.now in
    let node = slice_index_or nodes (c.loop-top.top - 1) nowhere in
    let found = parts nodes c.loop-top.top nowhere c.loop-top.invariant.falls c.loop-top-test.true c.loop-top.invariant.within in
    sym (sym c.loop-top.invariant.same ∙ ap (list_any (nat_eq c.args.value)) found.whole ∙ held_on_top c.args.value (trail nodes node.below) node.value c.if-value-node.true)

pub loop-top-smaller : goal.loop-top-smaller
loop-top-smaller c =
    (parts c.self.inside.nodes.now c.loop-top.top nowhere c.loop-top.invariant.falls c.loop-top-test.true c.loop-top.invariant.within).earlier

pub loop-top-preserved : goal.loop-top-preserved
loop-top-preserved c =
    let nodes = c.self.inside.nodes.now in
    let node = slice_index_or nodes (c.loop-top.top - 1) nowhere in
    let found = parts nodes c.loop-top.top nowhere c.loop-top.invariant.falls c.loop-top-test.true c.loop-top.invariant.within in
    record {
      falls = c.loop-top.invariant.falls;
      within = omega (arith, found.earlier, c.loop-top.invariant.within);
      same = sym (held_below c.args.value (trail nodes node.below) node.value c.if-value-node.false)
          ∙ sym (ap (list_any (nat_eq c.args.value)) found.whole) ∙ c.loop-top.invariant.same;
    }

pub returns : goal.returns
returns c =
    let nodes = c.self.inside.nodes.now in
    sym (sym c.loop-top.invariant.same ∙ ap (λ t. list_any (nat_eq c.args.value) (trail nodes t)) c.loop-top-test.false
    ∙ ap (list_any (nat_eq c.args.value)) (no_trail nodes))
