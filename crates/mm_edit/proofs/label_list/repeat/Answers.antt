use Rattle.std.proofs.Common.{◌≡◌, ◌-◌, ◌<◌, ◌++◌, ◌∷◌, [], None, length, take, drop, get_or, slice_range, ap, sym, ◌∙◌, arith, append_assoc, length-append}
use Rattle.std.proofs.lemmas.List.{append-nil, get_or_append_left, get_or_read}
use Rattle.mm_edit.proofs.LabelLists.{range_end, range_none}
use Rattle.mm_edit.proofs.label_list.repeat.Goals as goal

pub loop-place-init : goal.loop-place-init
loop-place-init c = record {
  low = omega arith;
  high = omega arith;
  same = sym (ap (λ x. c.args.labels.now.items ++ x) (range_none c.args.labels.now.items c.args.begin) ∙ append-nil c.args.labels.now.items);
}

pub loop-place-preserved : goal.loop-place-preserved
loop-place-preserved c =
    let first = c.args.labels.now.items in
    let b = c.args.begin in
    let p = c.loop-place.place in
    let g = c.loop-place.invariant in
    let low = g.low in
    let high = g.high in
    let lt = c.loop-place-test.true in
    let within : p < length first = omega (arith, c.requires) in
    let longer : p < length c.loop-place.labels.items = let e = ap length g.same in omega (arith, length-append first (slice_range first b p)) in
    let label : c.index-label.result.now ≡ get_or first p None =
    get_or_read c.loop-place.labels.items p c.index-label.result.now longer c.index-label.ensures None
    ∙ ap (λ x. get_or x p None) g.same ∙ get_or_append_left first (slice_range first b p) None p within in
    record {
      low = omega arith;
      high = omega arith;
      same =
          c.in_ok-push.ensures.items ∙ ap (λ x. x ++ c.index-label.result.now ∷ []) g.same ∙ append_assoc first (slice_range first b p) (c.index-label.result.now ∷ [])
          ∙ ap (λ x. first ++ (slice_range first b p ++ x ∷ [])) label
          ∙ ap (λ x. first ++ x) (sym (range_end first b p None low within));
    }

pub returns : goal.returns
returns c =
    let g = c.loop-place.invariant in
    let low = g.low in
    let high = g.high in
    let stop = c.loop-place-test.false in
    let e : c.loop-place.place - c.args.begin ≡ c.args.end - c.args.begin = omega arith in
    g.same ∙ ap (λ n. c.args.labels.now.items ++ take n (drop c.args.begin c.args.labels.now.items)) e
