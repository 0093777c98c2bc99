use Rattle.std.proofs.Common.{◌≡◌, ◌<◌, Some, true, false, length, sym, ◌∙◌, ap, arith, get_or}
use Rattle.std.proofs.lemmas.Bool.{and_from, and_left, and_right}
use Rattle.mm_subst.specs.Symbols.{is_same}
use Rattle.mm_improve.specs.Choices.{has_no_items, is_bare}
use Rattle.mm_chart.specs.Items.{Assertion}
use Rattle.mm_chart.specs.Options.{on}
use Rattle.mm_improve.proofs.ChoiceLemmas.{no_items, some_items}
use Rattle.mm_chart.proofs.Firsts.{first_more}
use Rattle.mm_chart.proofs.Stated.{first_here}
use Rattle.mm_improve.proofs.choice.bare_assertion.Goals as goal
use Rattle.mm_improve.proofs.choice.bare_assertion.Goals.{else-is_same-via-then-is_same+else-is_empty, else-is_same-via-else-is_same}

pub returns-then-is_empty : goal.returns-then-is_empty
returns-then-is_empty c =
    let xs = c.args.assertions.now in
    let i = c.loop-assertion.assertion-index in
    let d : Assertion = c.assertion-item.result in
    let x = c.args.code in
    let same : is_same d.code x ≡ true = ap (λ (a : Assertion). is_same a.code x) (sym c.assertion.view_is) ∙ sym c.is_same.ensures ∙ c.if-is_same.true in
    let none : length c.assertion.inside.items.items ≡ 0 = grind (arith, c.is_empty.ensures, c.if-is_empty.true) in
    let empty : has_no_items d.items ≡ true = ap (λ (a : Assertion). has_no_items a.items) (sym c.assertion.view_is) ∙ no_items c.assertion.inside.items.items none in
    let here : is_bare x (get_or xs i d) ≡ true = ap (is_bare x) (sym c.assertion-item.is) ∙ and_from (is_same d.code x) (has_no_items d.items) same empty in
    ap (λ (a : Assertion). Some a.id) (c.assertion.view_is ∙ c.assertion-item.is) ∙ sym (ap (on (λ (a : Assertion). a.id)) (first_here (is_bare x) xs i d c.loop-assertion-test.true c.loop-assertion.invariant here))

pub loop-assertion-preserved : goal.loop-assertion-preserved
loop-assertion-preserved c =
    let xs = c.args.assertions.now in
    let i = c.loop-assertion.assertion-index in
    let d : Assertion = c.assertion-item.result in
    let x = c.args.code in
    let here : is_bare x d ≡ false =
    elim c.else-is_same.branch [
      | else-is_same-via-then-is_same+else-is_empty w ↦
          let some : 0 < length c.assertion.inside.items.items = grind (arith, w.is_empty.ensures, w.if-is_empty.false) in
          and_right (is_same d.code x) (has_no_items d.items) (ap (λ (a : Assertion). has_no_items a.items) (sym c.assertion.view_is) ∙ some_items c.assertion.inside.items.items some)
      | else-is_same-via-else-is_same w ↦
          and_left (is_same d.code x) (has_no_items d.items) (ap (λ (a : Assertion). is_same a.code x) (sym c.assertion.view_is) ∙ sym c.is_same.ensures ∙ w.if-is_same.false)
    ] in
    first_more (is_bare x) xs i d c.loop-assertion-test.true (ap (is_bare x) (sym c.assertion-item.is) ∙ here) c.loop-assertion.invariant
