use Rattle.std.proofs.Common.{ap, ◌∙◌, arith, List, set}
use Rattle.std.specs.List.{sum_by}
use Rattle.mm_tree.specs.declared.timed.TimedTree.{TimedTree}
use Rattle.mm_tree.specs.Meanings.{count}
use Rattle.mm_tree.proofs.Shapes.{counts-values}
use Rattle.mm_tree.proofs.Paths.{rebuilt-as, values-set, set-counts}
use Rattle.mm_tree.proofs.node.with_child.Goals as goal

pub known-requires : goal.known-requires
known-requires g c = omega (
  arith,
  c.requires.small,
  set-counts c.in_ok-kids.kids.items c.args.at c.args.child,
  counts-values c.in_ok-kids.kids.items,
  counts-values c.args.kids.now,
  ap (sum_by count) c.in_ok-kids.ensures,
)

pub returns-clause-meaning : goal.returns-clause-meaning
returns-clause-meaning g c =
    rebuilt-as c.args.target.now.value c.in_ok-target.target.value c.args.label c.args.sigma.now.value c.in_ok-sigma.sigma.value _ _ c.args.at c.args.child.value c.in_ok-new.field-0.value
    (c.in_ok-new.ensures.ok ∙ c.known.ensures) c.in_ok-target.ensures.cases c.in_ok-sigma.ensures.cases
    (values-set c.in_ok-kids.kids.items c.args.at c.args.child ∙ ap (λ (l : List TimedTree). set l c.args.at c.args.child.value) c.in_ok-kids.ensures)
