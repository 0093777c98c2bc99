use Rattle.std.proofs.Common.{◌≡◌, ◌+◌, ◌-◌, ◌<◌, ◌≤◌, ℕ, List, [], length, take, get_or, None, is_none, ap, sym, refl, ◌∙◌, arith}
use Rattle.std.specs.List.{sum_by, last_or}
use Rattle.std.proofs.lemmas.List.{take_all}
use Rattle.mm_plain.specs.declared.plain.Plain.{Plain}
use Rattle.mm_plain.specs.Shape.{size_of}
use Rattle.mm_plain.specs.Numbers.{labels_in, numbers_from, unknowns_among}
use Rattle.mm_plain.proofs.Walks.{last-walked, labels_in-unknown}
use Rattle.mm_tree.specs.declared.timed.TimedTree.{TimedTree}
use Rattle.mm_tree.specs.Meanings.{mean, means, count, unknown_count, text_now, sigma_now}
use Rattle.mm_tree.specs.View.{timed_of, values}
use Rattle.mm_tree.specs.Falls.{count-shared}
use Rattle.mm_tree.proofs.Shapes.{size_of-mean, unknowns-mean, sizes-means, counts-values}
use Rattle.mm_tree.proofs.Kids.{is-known, is-unknown, many-means, mean-at, number-holds}
use Rattle.mm_tree.proofs.Unknowns.{last_among, last-here, last-before, number-before}
use Rattle.mm_tree.proofs.node.Node.+last_unknown.Goals as goal

pub overflow_sub-number : goal.overflow_sub-number
overflow_sub-number t c = omega (arith, c.self.invariant.steps_are, ap (λ s. count (timed_of s)) c.in-Known.is, count-shared c.in-Known.field-0.value c.in-Known.field-1 c.in-Known.field-2.value c.in-Known.kids.items)

pub loop-at-init : goal.loop-at-init
loop-at-init t c =
    let m : List Plain = means [] (values c.in-Known.kids.items) in
    let all : length m ≤ c.len-at.result = omega (arith, c.len-at.ensures, c.in-Known.kids.ok.0, many-means [] c.in-Known.kids.items) in
    record {
      some = omega (arith, c.len-at.ensures, c.in-Known.kids.ok.0);
      number = omega (
        arith,
        c.self.invariant.steps_are,
        ap (λ s. count (timed_of s)) c.in-Known.is,
        count-shared c.in-Known.field-0.value c.in-Known.field-1 c.in-Known.field-2.value c.in-Known.kids.items,
        sizes-means [] (values c.in-Known.kids.items),
        counts-values c.in-Known.kids.items,
        ap (sum_by size_of) (take_all c.len-at.result m all),
      );
      last = last-walked (text_now [] c.in-Known.field-0.value) c.in-Known.field-1 (sigma_now [] c.in-Known.field-2.value) m m (mean c.args.self.now []) c.len-at.result c.args.first None
          (is-known c.in-Known.field-0.value c.in-Known.field-1 c.in-Known.field-2.value (values c.in-Known.kids.items) c.args.self.now (ap timed_of (sym c.in-Known.is) ∙ c.self.view_is) []) refl all;
    }

pub overflow_sub-number-in-loop-at : goal.overflow_sub-number-in-loop-at
overflow_sub-number-in-loop-at t c =
    let m : List Plain = means [] (values c.in-Known.kids.items) in
    let kid : Plain = mean c.deref.result.now [] in
    let z : c.loop-at.at - 1 + 1 ≡ c.loop-at.at = omega (arith, c.loop-at-test.true) in
    let low : c.loop-at.at - 1 < length c.in-Known.kids.items = omega (arith, c.loop-at-test.true, c.loop-at.invariant.some) in
    let h : c.loop-at.at - 1 < length m = omega (arith, low, many-means [] c.in-Known.kids.items) in
    let at : kid ≡ get_or m (c.loop-at.at - 1) kid = mean-at [] c.in-Known.kids.items (c.loop-at.at - 1) c.index-kid.result.now c.deref.result.now low c.index-kid.ensures c.deref.ensures in
    let sized : c.size.result ≡ size_of kid = c.size.ensures ∙ sym (size_of-mean [] c.deref.result.now) in
    number-holds m c.loop-at.at c.args.first c.loop-at.number c.size.result kid (omega (arith, c.loop-at-test.true)) (omega (arith, c.loop-at.invariant.some, many-means [] c.in-Known.kids.items)) at sized c.loop-at.invariant.number

pub returns-then-unknowns-gt0 : goal.returns-then-unknowns-gt0
returns-then-unknowns-gt0 t c =
    let m : List Plain = means [] (values c.in-Known.kids.items) in
    let kid : Plain = mean c.deref.result.now [] in
    let z : c.loop-at.at - 1 + 1 ≡ c.loop-at.at = omega (arith, c.loop-at-test.true) in
    let low : c.loop-at.at - 1 < length c.in-Known.kids.items = omega (arith, c.loop-at-test.true, c.loop-at.invariant.some) in
    let h : c.loop-at.at - 1 < length m = omega (arith, low, many-means [] c.in-Known.kids.items) in
    let at : kid ≡ get_or m (c.loop-at.at - 1) kid = mean-at [] c.in-Known.kids.items (c.loop-at.at - 1) c.index-kid.result.now c.deref.result.now low c.index-kid.ensures c.deref.ensures in
    let sized : c.size.result ≡ size_of kid = c.size.ensures ∙ sym (size_of-mean [] c.deref.result.now) in
    let number = number-before m (c.loop-at.at - 1) c.args.first c.loop-at.number c.size.result kid h at
    (c.loop-at.invariant.number ∙ ap (λ (i : ℕ). c.args.first + sum_by size_of (take i m)) (sym z)) sized in
    let unknown : c.unknowns.result ≡ unknowns_among (labels_in kid) = c.unknowns.ensures ∙ ap unknown_count (c.deref-in-loop-at.ensures ∙ sym c.deref.ensures) ∙ sym (unknowns-mean [] c.deref.result.now) in
    c.last_unknown.ensures
    ∙ ap (λ (x : TimedTree). last_or None (numbers_from is_none (c.loop-at.number - c.size.result) (labels_in (mean x [])))) (c.deref-then-unknowns-gt0.ensures ∙ sym c.deref.ensures)
    ∙ last-here m (c.loop-at.at - 1) c.args.first (c.loop-at.number - c.size.result) kid h at number (omega (arith, c.if-unknowns-gt0.true, unknown))
    ∙ ap (λ (i : ℕ). last_among c.args.first (take i m)) z
    ∙ c.loop-at.invariant.last

pub loop-at-preserved : goal.loop-at-preserved
loop-at-preserved t c =
    let m : List Plain = means [] (values c.in-Known.kids.items) in
    let kid : Plain = mean c.deref.result.now [] in
    let z : c.loop-at.at - 1 + 1 ≡ c.loop-at.at = omega (arith, c.loop-at-test.true) in
    let low : c.loop-at.at - 1 < length c.in-Known.kids.items = omega (arith, c.loop-at-test.true, c.loop-at.invariant.some) in
    let h : c.loop-at.at - 1 < length m = omega (arith, low, many-means [] c.in-Known.kids.items) in
    let at : kid ≡ get_or m (c.loop-at.at - 1) kid = mean-at [] c.in-Known.kids.items (c.loop-at.at - 1) c.index-kid.result.now c.deref.result.now low c.index-kid.ensures c.deref.ensures in
    let sized : c.size.result ≡ size_of kid = c.size.ensures ∙ sym (size_of-mean [] c.deref.result.now) in
    let number = number-before m (c.loop-at.at - 1) c.args.first c.loop-at.number c.size.result kid h at
    (c.loop-at.invariant.number ∙ ap (λ (i : ℕ). c.args.first + sum_by size_of (take i m)) (sym z)) sized in
    let unknown : c.unknowns.result ≡ unknowns_among (labels_in kid) = c.unknowns.ensures ∙ ap unknown_count (c.deref-in-loop-at.ensures ∙ sym c.deref.ensures) ∙ sym (unknowns-mean [] c.deref.result.now) in
    record {
      some = omega (arith, c.loop-at.invariant.some);
      number = number;
      last = last-before m (c.loop-at.at - 1) c.args.first (c.loop-at.number - c.size.result) kid h at number (omega (arith, c.if-unknowns-gt0.false, unknown))
          ∙ ap (λ (i : ℕ). last_among c.args.first (take i m)) z
          ∙ c.loop-at.invariant.last;
    }

pub returns-in-Unknown : goal.returns-in-Unknown
returns-in-Unknown t c =
    sym (ap (λ n. last_or None (numbers_from is_none c.args.first n)) (labels_in-unknown (text_now [] c.in-Unknown.field-0.value)))
    ∙ ap (λ (x : Plain). last_or None (numbers_from is_none c.args.first (labels_in x))) (is-unknown c.in-Unknown.field-0.value c.args.self.now (ap timed_of (sym c.in-Unknown.is) ∙ c.self.view_is) [])
