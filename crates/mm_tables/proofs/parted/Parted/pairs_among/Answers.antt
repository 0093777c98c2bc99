use Rattle.std.proofs.Common.{◌≡◌, ◌≤◌, ◌+◌, ◌++◌, ap, sym, ◌∙◌, arith, length, drop, append_assoc, get_or, vec_len}
use Rattle.std.proofs.lemmas.Bool.{eqb-true}
use Rattle.mm_tables.specs.Texts.{texts}
use Rattle.std.proofs.lemmas.List.{append-nil, drop_all, take_rest, nil_from_length}
use Rattle.mm_tables.specs.Distinct.{pairs_among, pairs_with}
use Rattle.mm_tables.proofs.Distinct.{among_step, none_among}
use Rattle.mm_tables.proofs.parted.Parted.pairs_among.Goals as goal

pub loop-place-preserved : goal.loop-place-preserved
loop-place-preserved c =
    let groups = c.args.self.now in
    let vs = c.args.variables.now in
    let place = c.loop-place.place in
    ap (λ xs. xs ++ pairs_among groups (drop (place + 1) vs))
    (c.in_ok-add_pairs.ensures ∙ ap (λ later. c.loop-place.pairs.items ++ pairs_with groups (get_or vs place 0) later) (take_rest vs (place + 1)))
    ∙ append_assoc c.loop-place.pairs.items (pairs_with groups (get_or vs place 0) (drop (place + 1) vs)) (pairs_among groups (drop (place + 1) vs))
    ∙ ap (λ ys. c.loop-place.pairs.items ++ ys) (among_step groups vs place 0 c.loop-place-test.true)
    ∙ c.loop-place.invariant

pub returns-then-is_empty : goal.returns-then-is_empty
returns-then-is_empty c =
    let none : length c.self.inside.groups.items ≡ 0 = omega (arith, eqb-true (vec_len c.self.inside.groups) 0 (sym c.is_empty.ensures ∙ c.if-is_empty.true)) in
    c.new-pairs.ensures.items ∙ sym (none_among c.args.variables.now)
    ∙ ap (λ gs. pairs_among gs c.args.variables.now) (sym (ap texts (nil_from_length c.self.inside.groups.items none)) ∙ c.self.view_is)

pub returns : goal.returns
unfolding pairs_among
returns c =
    let groups = c.args.self.now in
    let vs = c.args.variables.now in
    let ended : length vs ≤ c.loop-place.place = omega (arith, c.loop-place-test.false) in
    sym (append-nil c.loop-place.pairs.items) ∙ sym (ap (λ ys. c.loop-place.pairs.items ++ pairs_among groups ys) (drop_all c.loop-place.place vs ended))
    ∙ c.loop-place.invariant
