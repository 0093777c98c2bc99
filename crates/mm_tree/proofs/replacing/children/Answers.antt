use Rattle.std.proofs.Common.{◌≡◌, ◌<◌, ◌≤◌, List, [], map, ap, sym, ◌∙◌, arith}
use Rattle.mm_plain.specs.Children.{children_of}
use Rattle.mm_plain.specs.Shape.{greatest}
use Rattle.mm_plain.proofs.Children.{children_of-known, children_of-unknown}
use Rattle.mm_tree.specs.Falls.{count-shared, count-unknown}
use Rattle.mm_tree.specs.Meanings.{count, means, text_now, sigma_now, youngest}
use Rattle.mm_tree.specs.View.{Shared, counts, timed_of, values}
use Rattle.mm_tree.proofs.Kids.{is-known, is-unknown}
use Rattle.mm_tree.proofs.Shapes.{youngest-known}
use Rattle.mm_tree.proofs.replacing.children.Goals as goal

pub returns-in-Known-clause-trees : goal.returns-in-Known-clause-trees
returns-in-Known-clause-trees c = λ line.
    ap (λ (ks : List Shared). means line (values ks)) c.deref.ensures.value
    ∙ sym (children_of-known (text_now line c.in-Known.field-0.value) c.in-Known.field-1 (sigma_now line c.in-Known.field-2.value) (means line (values c.in-Known.kids.items)))
    ∙ ap children_of (is-known c.in-Known.field-0.value c.in-Known.field-1 c.in-Known.field-2.value (values c.in-Known.kids.items) c.args.node.now (ap timed_of (sym c.in-Known.is) ∙ c.node.view_is) line)

pub returns-in-Known-clause-fewer : goal.returns-in-Known-clause-fewer
returns-in-Known-clause-fewer c = omega (
  arith,
  ap counts c.deref.ensures.value,
  count-shared c.in-Known.field-0.value c.in-Known.field-1 c.in-Known.field-2.value c.in-Known.kids.items,
  ap count (ap timed_of (sym c.in-Known.is) ∙ c.node.view_is),
)

pub returns-in-Known-clause-older : goal.returns-in-Known-clause-older
returns-in-Known-clause-older c = omega (
  arith,
  ap (λ (ks : List Shared). greatest (map youngest (values ks))) c.deref.ensures.value,
  youngest-known c.in-Known.field-0.value c.in-Known.field-1 c.in-Known.field-2.value (values c.in-Known.kids.items),
  ap youngest (ap timed_of (sym c.in-Known.is) ∙ c.node.view_is),
)

pub returns-in-Unknown-clause-trees : goal.returns-in-Unknown-clause-trees
returns-in-Unknown-clause-trees c = λ line.
    sym (children_of-unknown (text_now line c.in-Unknown.field-0.value))
    ∙ ap children_of (is-unknown c.in-Unknown.field-0.value c.args.node.now (ap timed_of (sym c.in-Unknown.is) ∙ c.node.view_is) line)

pub returns-in-Unknown-clause-fewer : goal.returns-in-Unknown-clause-fewer
returns-in-Unknown-clause-fewer c = omega (arith, count-unknown c.in-Unknown.field-0.value, ap count (ap timed_of (sym c.in-Unknown.is) ∙ c.node.view_is))
