use Rattle.std.proofs.Common.{◌≡◌, ◌<◌, [], Bool, Some, true, false, length, sym, ◌∙◌, ap, arith, get_or}
use Rattle.std.proofs.lemmas.Bool.{and_from, and_left, and_right}
use Rattle.mm_subst.specs.Symbols.{is_same}
use Rattle.mm_chart.specs.Items.{Hypothesis, same_goal, same_string}
use Rattle.mm_chart.specs.Options.{on}
use Rattle.mm_improve.proofs.ChoiceLemmas.{no_symbols, some_symbols}
use Rattle.mm_chart.proofs.Firsts.{first_more}
use Rattle.mm_chart.proofs.Stated.{first_here}
use Rattle.mm_improve.proofs.choice.bare_hypothesis.Goals as goal
use Rattle.mm_improve.proofs.choice.bare_hypothesis.Goals.{else-is_same-via-then-is_same+else-is_empty, else-is_same-via-else-is_same}

pub returns-then-is_empty : goal.returns-then-is_empty
returns-then-is_empty c =
    let hs = c.args.hypotheses.now in
    let i = c.loop-hypothesis.hypothesis-index in
    let d : Hypothesis = c.hypothesis-item.result in
    let x = c.args.code in
    let q : Hypothesis → Bool = λ h. same_goal (x, []) h.goal in
    let same : is_same x d.goal.0 ≡ true = ap (λ (h : Hypothesis). is_same x h.goal.0) (sym c.hypothesis.view_is) ∙ sym c.is_same.ensures ∙ c.if-is_same.true in
    let none : length c.hypothesis.inside.symbols.items ≡ 0 = grind (arith, c.is_empty.ensures, c.if-is_empty.true) in
    let empty : same_string [] d.goal.1 ≡ true = ap (λ (h : Hypothesis). same_string [] h.goal.1) (sym c.hypothesis.view_is) ∙ no_symbols c.hypothesis.inside.symbols.items none in
    let here : q (get_or hs i d) ≡ true = ap q (sym c.hypothesis-item.is) ∙ and_from (is_same x d.goal.0) (same_string [] d.goal.1) same empty in
    ap (λ (h : Hypothesis). Some h.id) (c.hypothesis.view_is ∙ c.hypothesis-item.is) ∙ sym (ap (on (λ (h : Hypothesis). h.id)) (first_here q hs i d c.loop-hypothesis-test.true c.loop-hypothesis.invariant here))

pub loop-hypothesis-preserved : goal.loop-hypothesis-preserved
loop-hypothesis-preserved c =
    let hs = c.args.hypotheses.now in
    let i = c.loop-hypothesis.hypothesis-index in
    let d : Hypothesis = c.hypothesis-item.result in
    let x = c.args.code in
    let q : Hypothesis → Bool = λ h. same_goal (x, []) h.goal in
    let here : q d ≡ false =
    elim c.else-is_same.branch [
      | else-is_same-via-then-is_same+else-is_empty w ↦
          let some : 0 < length c.hypothesis.inside.symbols.items = grind (arith, w.is_empty.ensures, w.if-is_empty.false) in
          and_right (is_same x d.goal.0) (same_string [] d.goal.1) (ap (λ (h : Hypothesis). same_string [] h.goal.1) (sym c.hypothesis.view_is) ∙ some_symbols c.hypothesis.inside.symbols.items some)
      | else-is_same-via-else-is_same w ↦
          and_left (is_same x d.goal.0) (same_string [] d.goal.1) (ap (λ (h : Hypothesis). is_same x h.goal.0) (sym c.hypothesis.view_is) ∙ sym c.is_same.ensures ∙ w.if-is_same.false)
    ] in
    first_more q hs i d c.loop-hypothesis-test.true (ap q (sym c.hypothesis-item.is) ∙ here) c.loop-hypothesis.invariant
