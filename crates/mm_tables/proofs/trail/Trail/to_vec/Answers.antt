use Rattle.std.proofs.Common.{◌-◌, ◌++◌, ◌∷◌, [], reverse, ap, sym, ◌∙◌, arith, slice_index_or, append_assoc}
use Rattle.std.proofs.lemmas.List.{reverse-append}
use Rattle.mm_tables.specs.Trails.{trail}
use Rattle.mm_tables.specs.declared.trail.Node.{Node}
use Rattle.mm_tables.proofs.Chains.{parts, no_trail}
use Rattle.mm_tables.proofs.trail.Trail.to_vec.Goals as goal

abbrev nowhere : Node
nowhere = record { value = 0; below = 0 }

pub loop-top-smaller : goal.loop-top-smaller
loop-top-smaller c =
    (parts c.self.inside.nodes.now c.loop-top.top nowhere c.loop-top.invariant.falls c.loop-top-test.true c.loop-top.invariant.within).earlier

pub loop-top-preserved : goal.loop-top-preserved
loop-top-preserved c =
    let nodes = c.self.inside.nodes.now in
    let node = slice_index_or nodes (c.loop-top.top - 1) nowhere in
    let values = c.loop-top.values.items in
    let found = parts nodes c.loop-top.top nowhere c.loop-top.invariant.falls c.loop-top-test.true c.loop-top.invariant.within in
    record {
      falls = c.loop-top.invariant.falls;
      within = omega (arith, found.earlier, c.loop-top.invariant.within);
      same = ap (λ xs. trail nodes node.below ++ reverse xs) c.in_ok-push.ensures.items
          ∙ ap (λ xs. trail nodes node.below ++ xs) (reverse-append values (node.value ∷ []))
          ∙ sym (append_assoc (trail nodes node.below) (node.value ∷ []) (reverse values))
          ∙ ap (λ xs. xs ++ reverse values) (sym found.whole) ∙ c.loop-top.invariant.same;
    }

pub returns : goal.returns
returns c =
    let nodes = c.self.inside.nodes.now in
    let values = c.loop-top.values.items in
    c.reverse.ensures.items
    ∙ sym (ap (λ xs. xs ++ reverse values) (ap (trail nodes) c.loop-top-test.false ∙ no_trail nodes))
    ∙ c.loop-top.invariant.same
