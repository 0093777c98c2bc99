use Rattle.std.proofs.Common.{ap, sym, ◌∙◌}
use Rattle.mm_subst.specs.Symbols.{has_work}
use Rattle.mm_tree.specs.declared.timed.Text.{Text}
use Rattle.mm_tree.specs.Falls.{count-unknown}
use Rattle.mm_tree.proofs.Shapes.{tall-unknown}
use Rattle.mm_tree.proofs.Kids.{unknown_count-unknown, is_live-unknown}
use Rattle.mm_tree.proofs.node.Node.unknown.Goals as goal

pub invariant_of-result : goal.invariant_of-result
invariant_of-result c = record {
  steps_are = sym (count-unknown c.args.target.value);
  levels_are = sym (tall-unknown c.args.target.value);
  unknowns_are = sym (unknown_count-unknown c.args.target.value);
  live_is = c.has_work.ensures ∙ ap (λ (t : Text). has_work t.string) c.deref.ensures ∙ sym (is_live-unknown c.args.target.value);
}
