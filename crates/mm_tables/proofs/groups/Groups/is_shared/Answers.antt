use Rattle.std.proofs.Common.{◌≡◌, ◌++◌, ◌∷◌, [], true, false, length, get_or, ap, sym, ◌∙◌}
use Rattle.std.specs.List.{list_any}
use Rattle.mm_tables.specs.Texts.{texts}
use Rattle.mm_tables.specs.Distinct.{holds_both}
use Rattle.mm_tables.specs.Parting.{groups_of, AreBelow}
use Rattle.mm_tables.proofs.Layering.{left_of, left_is, below_last, below_front, group_is, one_passes, or_true, or_false}
use Rattle.mm_tables.proofs.groups.Groups.is_shared.Goals as goal

pub returns-then-holds_both : goal.returns-then-holds_both
returns-then-holds_both c =
    let groups = c.self.inside.groups.now in
    let older = c.in-Some.older in
    let number = c.in-Some.number in
    let p = holds_both c.args.u c.args.v in
    let below : AreBelow (length groups) (older ++ number ∷ []) = rw c.in-Some.is at c.loop-rest.invariant.below in
    let group : get_or (texts groups) number [] ≡ c.index-groups-number.result.items =
    group_is groups number c.index-groups-number.result (below_last (length groups) older number below) c.index-groups-number.is in
    let passes : p (get_or (texts groups) number []) ≡ true =
    ap p (group ∙ sym c.as_slice.ensures.value) ∙ sym c.holds_both.ensures ∙ c.if-holds_both.true in
    sym (sym c.loop-rest.invariant.same ∙ ap (λ r. list_any p (groups_of (texts groups) (left_of r))) c.in-Some.is
    ∙ one_passes p (texts groups) older number ∙ or_true (list_any p (groups_of (texts groups) older)) (p (get_or (texts groups) number [])) passes)

pub loop-rest-preserved : goal.loop-rest-preserved
loop-rest-preserved c =
    let groups = c.self.inside.groups.now in
    let older = c.in-Some.older in
    let number = c.in-Some.number in
    let p = holds_both c.args.u c.args.v in
    let below : AreBelow (length groups) (older ++ number ∷ []) = rw c.in-Some.is at c.loop-rest.invariant.below in
    let group : get_or (texts groups) number [] ≡ c.index-groups-number.result.items =
    group_is groups number c.index-groups-number.result (below_last (length groups) older number below) c.index-groups-number.is in
    let fails : p (get_or (texts groups) number []) ≡ false =
    ap p (group ∙ sym c.as_slice.ensures.value) ∙ sym c.holds_both.ensures ∙ c.if-holds_both.false in
    let left : left_of c.split_last-rest-in-Some.result ≡ older = left_is older c.split_last-rest-in-Some.result c.split_last-rest-in-Some.ensures in
    record {
      below = rw left (below_front (length groups) older number below);
      same = ap (λ ks. list_any p (groups_of (texts groups) ks)) left
          ∙ sym (one_passes p (texts groups) older number ∙ or_false (list_any p (groups_of (texts groups) older)) (p (get_or (texts groups) number [])) fails)
          ∙ sym (ap (λ r. list_any p (groups_of (texts groups) (left_of r))) c.in-Some.is) ∙ c.loop-rest.invariant.same;
    }
