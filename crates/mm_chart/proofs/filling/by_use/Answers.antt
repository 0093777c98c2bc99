use Rattle.mm_subst.specs.declared.symbol.WSym.{WSym}
use Rattle.std.proofs.Common.{◌≡◌, ◌+◌, ◌++◌, ◌∷◌, [], ℕ, List, Option, sym, ◌∙◌, ap, subst, get_or, map, take}
use Rattle.std.proofs.lemmas.List.{take_more, map-append, take_all, get_or_default}
use Rattle.mm_chart.specs.Items.{Grammar, Assertion, fits}
use Rattle.mm_chart.specs.Charts.{Noted, Best, assertion_at, no_assertion, entry_at, bettered, goals_of}
use Rattle.mm_chart.specs.declared.grammar.Item.{Item}
use Rattle.mm_chart.specs.declared.table.Part.{Part}
use Rattle.mm_chart.proofs.Walks.{Walked}
use Rattle.mm_chart.specs.Options.{is_there}
use Rattle.mm_chart.proofs.Uses.{best_skip, best_more, adds_none_settled}
use Rattle.mm_chart.proofs.Waiting.{code_of_assertion}
use Rattle.mm_chart.proofs.filling.by_use.Goals as goal
use Rattle.mm_chart.proofs.filling.by_use.Goals.{then-not-has+in_ok-found+in_ok-best, else-not-has}

pub loop-i-preserved : goal.loop-i-preserved
loop-i-preserved c =
    let G : Grammar = c.args.rules.now in
    let i = c.loop-i.i in
    let n = get_or c.args.able.now i 0 in
    let x = assertion_at G n in
    let l = c.requires.able.within i c.loop-i-test.true in
    let q : map (assertion_at G) (take (i + 1) c.args.able.now) ≡ map (assertion_at G) (take i c.args.able.now) ++ x ∷ [] =
    ap (map (assertion_at G)) (take_more c.args.able.now i 0 c.loop-i-test.true) ∙ map-append (assertion_at G) (take i c.args.able.now) (n ∷ []) in
    let d : Assertion = c.index-assertion.result.now in
    let e : d ≡ x = c.index-assertion.ensures ∙ ap (λ (g : Grammar). get_or g.assertions n d) c.rules.view_is ∙ get_or_default G.assertions n d no_assertion l in
    let code : c.assertion.inside.code ≡ x.code = ap (λ (a : Assertion). a.code) (c.assertion.view_is ∙ e) in
    let id : c.assertion.inside.id ≡ x.id = ap (λ (a : Assertion). a.id) (c.assertion.view_is ∙ e) in
    let items : c.assertion.inside.items.items ≡ x.items = ap (λ (a : Assertion). a.items) (c.assertion.view_is ∙ e) in
    let apart : c.assertion.inside.apart.items ≡ x.apart = ap (λ (a : Assertion). a.apart) (c.assertion.view_is ∙ e) in
    let has : is_there (entry_at c.args.rows.now c.args.at x.code c.args.to) ≡ c.has.result = ap (λ (k : WSym). is_there (entry_at c.args.rows.now c.args.at k c.args.to)) (sym code) ∙ sym c.has.ensures in
    subst (λ (xs : List (Assertion)). Best G c.args.text.now c.args.rows.now c.args.at c.args.to xs c.if-not-has.best) (sym q)
    (elim c.if-not-has.branch [
      | then-not-has+in_ok-found+in_ok-best w ↦
          subst (λ (o : Option Noted). Best G c.args.text.now c.args.rows.now c.args.at c.args.to (map (assertion_at G) (take i c.args.able.now) ++ x ∷ []) o) (sym (w.best-is ∙ w.in_ok-best.ensures ∙ ap (λ (k : WSym). bettered c.loop-i.best k c.args.to c.assertion.inside.id w.in_ok-found.found) code ∙ ap (λ (k : ℕ). bettered c.loop-i.best x.code c.args.to k w.in_ok-found.found) id))
          (best_more G c.args.text.now c.args.rows.now c.args.at c.args.to (map (assertion_at G) (take i c.args.able.now)) x w.in_ok-found.found c.loop-i.best (has ∙ w.if-not-has.true) (code_of_assertion G n no_assertion l) w.in_ok-found.ensures.placed
          (subst (λ (y : List (ℕ × ℕ)). Walked (fits G y) c.args.text.now c.args.rows.now x.items [] c.args.at c.args.to 0 w.in_ok-found.found) (w.as_slice-pairs.ensures.value ∙ apart)
          (subst (λ (y : List Item). Walked (fits G w.as_slice-pairs.result.now) c.args.text.now c.args.rows.now y [] c.args.at c.args.to 0 w.in_ok-found.found) (w.as_slice-items.ensures.value ∙ items)
          (subst (λ (ps : List Part). Walked (fits G w.as_slice-pairs.result.now) c.args.text.now c.args.rows.now w.as_slice-items.result.now (goals_of c.args.text.now ps) c.args.at c.args.to 0 w.in_ok-found.found) w.new-parts.ensures.items w.in_ok-found.ensures.found)))
          c.loop-i.invariant)
      | else-not-has w ↦
          subst (λ (o : Option Noted). Best G c.args.text.now c.args.rows.now c.args.at c.args.to (map (assertion_at G) (take i c.args.able.now) ++ x ∷ []) o) (sym w.best-is)
          (best_skip G c.args.text.now c.args.rows.now c.args.at c.args.to (map (assertion_at G) (take i c.args.able.now)) x c.loop-i.best c.loop-i.invariant (adds_none_settled G c.args.text.now c.args.rows.now c.args.at c.args.to x (has ∙ w.if-not-has.false)))
    ])

pub returns : goal.returns
returns c =
    let G : Grammar = c.args.rules.now in
    subst (λ (xs : List (Assertion)). Best G c.args.text.now c.args.rows.now c.args.at c.args.to xs c.loop-i.best) (ap (map (assertion_at G)) (take_all c.loop-i.i c.args.able.now c.loop-i-test.false) ∙ c.requires.able.are) c.loop-i.invariant
