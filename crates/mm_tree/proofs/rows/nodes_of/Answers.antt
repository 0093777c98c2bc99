use Rattle.std.proofs.Common.{ap, arith, length}
use Rattle.std.proofs.lemmas.List.{length_push}
use Rattle.std.proofs.lemmas.List.Elements.{All-pop}
use Rattle.mm_plain.specs.LabelTrees.{takes}
use Rattle.mm_plain.specs.Numbers.{IsOwnLabel}
use Rattle.mm_plain.specs.Rows.{Row}
use Rattle.mm_tree.proofs.RowLemmas.{few_kids, stands_more}
use Rattle.mm_tree.proofs.rows.nodes_of.Goals as goal

pub node_over-requires : goal.node_over-requires
node_over-requires g c = omega (arith, few_kids c.args.db.now c.args.rows.items c.loop-row.left.items c.loop-row.nodes.items c.in_ok-kids.kids.items c.saturating_sub-kept.result 1000000 c.loop-row.invariant.stands c.in_ok-kids.ensures.tail c.requires.few)

pub loop-row-smaller : goal.loop-row-smaller
loop-row-smaller g c = omega (arith, ap length c.in-Some.ensures.items, length_push c.pop.new.self.items c.in-Some.row)

pub loop-row-preserved : goal.loop-row-preserved
loop-row-preserved g c = record {
  stands = stands_more c.args.db.now c.args.rows.items c.loop-row.left.items c.pop.new.self.items c.in-Some.row c.loop-row.nodes.items c.split_off.new.self.items c.in_ok-kids.kids.items c.push.new.self.items c.saturating_sub-kept.result c.in_ok-node_over.field-0
      c.loop-row.invariant.stands c.in-Some.ensures.items (omega (arith, c.saturating_sub-kept.ensures, c.len.ensures, c.loop-row.nodes.ok.0, c.takes.ensures, ap (λ (r : Row). takes c.args.db.now r.label) c.row.view_is)) c.in_ok-kids.ensures.items c.in_ok-kids.ensures.tail c.in_ok-node_over.ensures.node c.in_ok-push.ensures.items;
  own = (All-pop (λ (r : Row). IsOwnLabel c.args.db.now r.label) c.loop-row.left.items c.pop.new.self.items c.pop.result c.pop.ensures.items c.loop-row.invariant.own).0;
  counted = omega (arith, c.loop-row.invariant.counted, c.node_over.ensures.cost, ap length c.in-Some.ensures.items, length_push c.pop.new.self.items c.in-Some.row);
}
