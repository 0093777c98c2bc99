use Rattle.std.proofs.Common.{◌≡◌, ◌-◌, ◌++◌, slice_get, slice_range, ap, sym, ◌∙◌, arith}
use Rattle.mm_proof.specs.declared.flat.Stretch.{Stretch}
use Rattle.mm_edit.proofs.LabelLists.{get_past, get_there, lays_again, lays_none, lays_nothing, less, not_less}
use Rattle.mm_edit.proofs.label_list.lay.Goals as goal

pub returns-in_ok-repeat-in-Back : goal.returns-in_ok-repeat-in-Back
returns-in_ok-repeat-in-Back c =
    let before = c.args.labels.now.items in
    let trees = c.args.trees.now in
    let k = c.saturating_sub.result in
    let s : Stretch = c.in-Some.tree.now in
    let look = c.in-Some.ensures.lookup in
    lays_again before c.repeat.new.labels.items trees c.args.kind c.in-Back.step s c.in-Back.is
    (ap (slice_get trees) (sym c.saturating_sub.ensures) ∙ get_there trees k s (less _ _ look.0) look.1)
    (omega (arith, c.if-tree-len.true, ap (λ (s : Stretch). s.end) c.tree.view_is, c.len.ensures, c.args.labels.now.ok.0))
    (c.in_ok-repeat-in-Back.ensures ∙ ap (λ (s : Stretch). before ++ slice_range before s.begin s.end) c.tree.view_is)

pub returns-else-tree-len : goal.returns-else-tree-len
returns-else-tree-len c =
    let trees = c.args.trees.now in
    let k = c.saturating_sub.result in
    let s : Stretch = c.in-Some.tree.now in
    let look = c.in-Some.ensures.lookup in
    lays_nothing c.args.labels.now.items trees c.args.kind c.in-Back.step s c.in-Back.is
    (ap (slice_get trees) (sym c.saturating_sub.ensures) ∙ get_there trees k s (less _ _ look.0) look.1)
    (omega (arith, c.if-tree-len.false, ap (λ (s : Stretch). s.end) c.tree.view_is, c.len.ensures, c.args.labels.now.ok.0))

pub returns-in_default : goal.returns-in_default
returns-in_default c =
    let look = c.in_default.ensures.lookup in
    lays_none c.args.labels.now.items c.args.trees.now c.args.kind c.in-Back.step c.in-Back.is
    (ap (slice_get c.args.trees.now) (sym c.saturating_sub.ensures) ∙ get_past c.args.trees.now c.saturating_sub.result (not_less _ _ look.0))
