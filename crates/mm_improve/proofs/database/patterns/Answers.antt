use Rattle.std.proofs.Common.{ℕ, Bool, ◌&&◌, not, ◌++◌, ◌∷◌, [], sym, ◌∙◌, ap}
use Rattle.mm_chart.specs.Items.{Assertion}
use Rattle.mm_improve.specs.Assertions.{has_essential, may_be_used}
use Rattle.mm_improve.specs.Grammars.{assertion_of}
use Rattle.mm_improve.specs.Narrow.{is_taken}
use Rattle.mm_improve.specs.Searches.{terms}
use Rattle.mm_improve.proofs.Sifting.{both_taken, not_taken}
use Rattle.mm_improve.proofs.database.patterns.Goals as goal
use Rattle.mm_improve.proofs.database.patterns.Goals.{then-branch+in_ok-pattern_of+in_ok-push, else-branch}

pub loop-id-preserved : goal.loop-id-preserved
loop-id-preserved c =
    let id : ℕ = c.loop-id.id in
    let f : ℕ → Assertion = assertion_of c.args.db.now in
    let p : ℕ → Bool = λ n. may_be_used (terms c.args.db.now c.args.search) n && not (has_essential c.args.db.now n) in
    let q : Assertion → Bool = λ a. is_taken c.args.db.now c.args.narrow a.code in
    elim c.if-branch.branch [
      | then-branch+in_ok-pattern_of+in_ok-push w ↦
          ap (λ v. v.items) w.patterns-is ∙ w.in_ok-push.ensures.items
          ∙ ap (λ a. c.loop-id.patterns.items ++ a ∷ []) w.in_ok-pattern_of.ensures
          ∙ ap (λ xs. xs ++ f id ∷ []) c.loop-id.invariant
          ∙ both_taken f p q id (sym c.in_ok-is_plain_taken.ensures ∙ w.if-branch.true)
      | else-branch w ↦ ap (λ v. v.items) w.patterns-is ∙ c.loop-id.invariant ∙ not_taken f p q id (sym c.in_ok-is_plain_taken.ensures ∙ w.if-branch.false)
    ]
