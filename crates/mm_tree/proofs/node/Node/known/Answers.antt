use Rattle.std.proofs.Common.{◌+◌, ◌||◌, List, map, ap, sym, ◌∙◌}
use Rattle.std.specs.List.{list_any}
use Rattle.mm_subst.specs.Symbols.{has_work}
use Rattle.mm_plain.specs.Shape.{greatest}
use Rattle.mm_tree.specs.declared.timed.Text.{Text}
use Rattle.mm_tree.specs.declared.timed.Values.{Values}
use Rattle.mm_tree.specs.Meanings.{tall, is_live, has_values_with_work}
use Rattle.mm_tree.specs.View.{Shared, values, counts}
use Rattle.mm_tree.specs.Falls.{count-shared}
use Rattle.mm_tree.proofs.Shapes.{tall-known}
use Rattle.mm_tree.proofs.Kids.{unknown_counts, unknown_count-known, is_live-shared}
use Rattle.mm_tree.proofs.node.Node.known.Goals as goal

pub invariant_of-result : goal.invariant_of-result
invariant_of-result c = record {
  steps_are = c.steps_over.ensures ∙ ap (λ (ks : List Shared). counts ks + 1) c.as_slice.ensures.value
      ∙ sym (count-shared c.args.target.value c.args.label c.args.sigma.value c.args.kids.items);
  levels_are = c.levels_over.ensures ∙ ap (λ (ks : List Shared). greatest (map tall (values ks)) + 1) c.as_slice-2.ensures.value
      ∙ sym (tall-known c.args.target.value c.args.label c.args.sigma.value (values c.args.kids.items));
  unknowns_are = c.unknowns_over.ensures ∙ ap unknown_counts c.as_slice-3.ensures.value
      ∙ sym (unknown_count-known c.args.target.value c.args.label c.args.sigma.value c.args.kids.items);
  live_is = c.live_over.ensures
      ∙ ap (λ (t : Text). has_work t.string || (has_values_with_work c.deref-2.result.now.pairs || list_any (λ (r : Shared). is_live r.value) c.as_slice-4.result.now)) c.deref.ensures
      ∙ ap (λ (s : Values). has_work c.args.target.value.string || (has_values_with_work s.pairs || list_any (λ (r : Shared). is_live r.value) c.as_slice-4.result.now)) c.deref-2.ensures
      ∙ ap (λ (ks : List Shared). has_work c.args.target.value.string || (has_values_with_work c.args.sigma.value.pairs || list_any (λ (r : Shared). is_live r.value) ks)) c.as_slice-4.ensures.value
      ∙ sym (is_live-shared c.args.target.value c.args.label c.args.sigma.value c.args.kids.items);
}
