use Rattle.std.proofs.Common.{◌≡◌, ◌∙◌, ap, subst}
use Rattle.mm_plain.specs.Rows.{Row, tree_with}
use Rattle.mm_tree.specs.Meanings.{unknown_timed, known_timed}
use Rattle.mm_tree.specs.View.{values}
use Rattle.mm_tree.specs.Written.{written}
use Rattle.mm_tree.specs.declared.timed.Text.{Text}
use Rattle.mm_tree.specs.declared.timed.Values.{Values}
use Rattle.mm_tree.proofs.Made.{if-ok}
use Rattle.mm_tree.proofs.RowLemmas.{known_row, unknown_row}
use Rattle.mm_tree.proofs.rows.node_over.Goals as goal

pub returns-in_ok-new-in-Some-clause-node : goal.returns-in_ok-new-in-Some-clause-node
returns-in_ok-new-in-Some-clause-node g c = λ xs e.
    let r : Row = record { target = c.row.inside.target; label = c.row.inside.label; sigma = c.row.inside.sigma } in
    subst (λ (r : Row). c.in_ok-new-in-Some.field-0.value ≡ written 0 (tree_with r.target r.label r.sigma xs)) c.row.view_is
    (known_row r.target r.label c.in-Some.label r.sigma c.args.kids.items xs c.in_ok-new-in-Some.field-0.value c.in-Some.is e
    (c.in_ok-new-in-Some.ensures.ok ∙ c.known.ensures
    ∙ ap (λ (t : Text). known_timed t c.in-Some.label c.in_ok-sigma-in-Some.sigma.value (values c.args.kids.items)) c.in_ok-target.ensures
    ∙ ap (λ (s : Values). known_timed (record { birth = 0; string = r.target }) c.in-Some.label s (values c.args.kids.items)) c.in_ok-sigma-in-Some.ensures.ok))

pub returns-in-None-clause-node : goal.returns-in-None-clause-node
returns-in-None-clause-node g c = if-ok c.unknown_node.result _ _
    (λ n h xs e. subst (λ (r : Row). n.value ≡ written 0 (tree_with r.target r.label r.sigma xs)) c.row.view_is
    (unknown_row c.row.inside.target c.row.inside.label c.row.inside.sigma xs n.value c.in-None.is (h ∙ ap unknown_timed c.in_ok-target.ensures))) c.unknown_node.ensures.node
