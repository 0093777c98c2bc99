use Rattle.std.proofs.Common.{◌≡◌, ◌<◌, None, ap, sym, ◌∙◌, arith}
use Rattle.mm_plain.specs.Lengths.{first_long}
use Rattle.mm_plain.specs.Numbers.{HasOwnLabels}
use Rattle.mm_tree.specs.Meanings.{mean, means}
use Rattle.mm_tree.specs.View.{values}
use Rattle.mm_tree.proofs.Kids.{many-means, mean-at}
use Rattle.mm_tree.proofs.ReplacingLemmas.{each-at, long-found, long-more}
use Rattle.mm_tree.proofs.replacing.has_long.Goals as goal

pub first_long-requires-clause-own : goal.first_long-requires-clause-own
first_long-requires-clause-own c = each-at (HasOwnLabels c.args.db.now) (means c.args.line.now (values c.args.trees.now)) c.loop-tree.tree-index (mean c.deref.result.now c.args.line.now) (omega (arith, c.loop-tree-test.true, many-means c.args.line.now c.args.trees.now)) (mean-at c.args.line.now c.args.trees.now c.loop-tree.tree-index c.tree-item.result c.deref.result.now c.loop-tree-test.true c.tree-item.is c.deref.ensures) c.requires.own

pub first_long-requires-clause-short : goal.first_long-requires-clause-short
first_long-requires-clause-short c = each-at (λ x. first_long c.args.db.now x ≡ None) (means c.args.line.now (values c.args.trees.now)) c.loop-tree.tree-index (mean c.deref.result.now c.args.line.now) (omega (arith, c.loop-tree-test.true, many-means c.args.line.now c.args.trees.now)) (mean-at c.args.line.now c.args.trees.now c.loop-tree.tree-index c.tree-item.result c.deref.result.now c.loop-tree-test.true c.tree-item.is c.deref.ensures) c.requires.short

pub returns-then-is_some : goal.returns-then-is_some
returns-then-is_some c = long-found c.args.db.now c.args.theta.now (means c.args.line.now (values c.args.trees.now)) c.loop-tree.tree-index (mean c.deref.result.now c.args.line.now) c.in_ok-first_long.field-0 c.is_some.result (omega (arith, c.loop-tree-test.true, many-means c.args.line.now c.args.trees.now)) (mean-at c.args.line.now c.args.trees.now c.loop-tree.tree-index c.tree-item.result c.deref.result.now c.loop-tree-test.true c.tree-item.is c.deref.ensures) c.in_ok-first_long.ensures c.is_some.ensures c.if-is_some.true

pub loop-tree-preserved : goal.loop-tree-preserved
loop-tree-preserved c = long-more c.args.db.now c.args.theta.now (means c.args.line.now (values c.args.trees.now)) c.loop-tree.tree-index (mean c.deref.result.now c.args.line.now) c.in_ok-first_long.field-0 c.is_some.result (omega (arith, c.loop-tree-test.true, many-means c.args.line.now c.args.trees.now)) (mean-at c.args.line.now c.args.trees.now c.loop-tree.tree-index c.tree-item.result c.deref.result.now c.loop-tree-test.true c.tree-item.is c.deref.ensures) c.in_ok-first_long.ensures c.is_some.ensures c.if-is_some.false c.loop-tree.invariant
