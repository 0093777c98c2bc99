use Rattle.std.proofs.Common.{◌≡◌, ◌<◌, ◌≤◌, ◌&&◌, [], not, ℕ, sym, ◌∙◌, ap, subst, length, get_or}
use Rattle.mm_chart.specs.Items.{Grammar, Hypothesis, same_string}
use Rattle.mm_chart.specs.Charts.{entry_at}
use Rattle.mm_chart.specs.Options.{is_there}
use Rattle.mm_unify.specs.Parts.{part}
use Rattle.mm_chart.proofs.Stated.{stated_more, not_stated, none_stated, now_stated}
use Rattle.mm_chart.proofs.filling.by_hypothesis.Goals as goal

pub returns-then-is_stated : goal.returns-then-is_stated
returns-then-is_stated c =
    let G : Grammar = c.args.rules.now in
    let i = c.loop-number.number in
    let d : Hypothesis = c.index-h.result.now in
    let len : c.len-number-end.result ≡ length c.args.rules.now.hypotheses = c.len-number-end.ensures ∙ c.rules.inside.hypotheses.ok.0 ∙ ap (λ (g : Grammar). length g.hypotheses) c.rules.view_is in
    let l : i < length G.hypotheses = subst (λ (k : ℕ). i < k) len c.loop-number-test.true in
    let e : d ≡ get_or G.hypotheses i d = c.index-h.ensures ∙ ap (λ (g : Grammar). get_or g.hypotheses i d) c.rules.view_is in
    now_stated G c.args.text.now c.args.rows.now c.args.at c.args.to i d c.stated.result l c.loop-number.invariant
    (c.stated.ensures ∙ ap (λ (h : Hypothesis). record { code = h.goal.0; to = c.args.to; rank = 0; id = h.id; parts = [] }) e)
    (ap (λ (h : Hypothesis). same_string (part c.args.text.now c.args.at c.args.to) h.goal.1 && not (is_there (entry_at c.args.rows.now c.args.at h.goal.0 c.args.to))) (sym e) ∙ sym c.is_stated.ensures ∙ c.if-is_stated.true)

pub loop-number-preserved : goal.loop-number-preserved
loop-number-preserved c =
    let G : Grammar = c.args.rules.now in
    let i = c.loop-number.number in
    let d : Hypothesis = c.index-h.result.now in
    let len : c.len-number-end.result ≡ length c.args.rules.now.hypotheses = c.len-number-end.ensures ∙ c.rules.inside.hypotheses.ok.0 ∙ ap (λ (g : Grammar). length g.hypotheses) c.rules.view_is in
    let l : i < length G.hypotheses = subst (λ (k : ℕ). i < k) len c.loop-number-test.true in
    let e : d ≡ get_or G.hypotheses i d = c.index-h.ensures ∙ ap (λ (g : Grammar). get_or g.hypotheses i d) c.rules.view_is in
    stated_more G c.args.text.now c.args.rows.now c.args.at c.args.to i d l
    (λ code n. not_stated c.args.text.now c.args.rows.now c.args.at c.args.to code (get_or G.hypotheses i d).goal
    (ap (λ (h : Hypothesis). same_string (part c.args.text.now c.args.at c.args.to) h.goal.1 && not (is_there (entry_at c.args.rows.now c.args.at h.goal.0 c.args.to))) (sym e) ∙ sym c.is_stated.ensures ∙ c.if-is_stated.false) n)
    c.loop-number.invariant

pub returns : goal.returns
returns c =
    let len : c.len-number-end.result ≡ length c.args.rules.now.hypotheses = c.len-number-end.ensures ∙ c.rules.inside.hypotheses.ok.0 ∙ ap (λ (g : Grammar). length g.hypotheses) c.rules.view_is in
    none_stated c.args.rules.now c.args.text.now c.args.rows.now c.args.at c.args.to c.loop-number.number (subst (λ (k : ℕ). k ≤ c.loop-number.number) len c.loop-number-test.false) c.loop-number.invariant
