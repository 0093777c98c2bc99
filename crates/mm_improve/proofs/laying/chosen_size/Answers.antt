use Rattle.std.proofs.Common.{◌≡◌, ◌∷◌, ℕ, Ok, length, sym, ◌∙◌, ap, subst}
use Rattle.mm_improve.specs.Choices.{Chooses}
use Rattle.mm_improve.specs.Laying.{IsCounted}
use Rattle.mm_improve.specs.Proving.{chosen_tree, rank_limit}
use Rattle.mm_improve.specs.Searches.{terms}
use Rattle.mm_improve.specs.Traces.{whole}
use Rattle.mm_improve.proofs.ChoiceLemmas.{all_counted, one_counted}
use Rattle.mm_improve.proofs.laying.chosen_size.Goals as goal

pub returns-in-Bare : goal.returns-in-Bare
returns-in-Bare c =
    let k = terms c.args.db.now c.args.prover.now.search in
    let code = c.in-Some.code.now in
    let text = c.in-Some.text.now in
    let is : c.args.goal.now ≡ code ∷ text = sym c.symbols.ensures ∙ c.in-Some.ensures.cases.0 in
    one_counted (chosen_tree k c.args.goal.now) (code ∷ text) c.in-Bare.field-0 (ap (chosen_tree k) is ∙ subst (Chooses k code text) c.in-Bare.is c.in_ok-choose.ensures)

pub returns-in_ok-trace-in-Charted : goal.returns-in_ok-trace-in-Charted
returns-in_ok-trace-in-Charted c =
    let k = terms c.args.db.now c.args.prover.now.search in
    let code = c.in-Some.code.now in
    let text = c.in-Some.text.now in
    let found = chosen_tree k c.args.goal.now in
    let is : c.args.goal.now ≡ code ∷ text = sym c.symbols.ensures ∙ c.in-Some.ensures.cases.0 in
    let h = subst (Chooses k code text) c.in-Charted.is c.in_ok-choose.ensures in
    let parts = c.in_ok-trace-in-Charted.trace in
    let long : length parts ≡ c.len.result = sym (c.len.ensures ∙ c.trace.inside.parts.ok.0 ∙ ap length c.trace.view_is) in
    let e = c.in_ok-trace-in-Charted.ensures in
    subst (λ (n : ℕ). IsCounted found (Ok n)) long (all_counted k (rank_limit c.args.db.now (code ∷ text)) text (whole code text) found parts (ap (chosen_tree k) is ∙ h.tree) e.traced e.few)
