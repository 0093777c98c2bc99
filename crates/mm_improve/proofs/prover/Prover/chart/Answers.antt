use Rattle.std.proofs.Common.{IfOk, Result, Ok, Err, true, sym, ◌∙◌, subst}
use Rattle.mm_chart.specs.Items.{Grammar}
use Rattle.mm_chart.specs.Charts.{AreAnswers}
use Rattle.mm_improve.specs.Grammars.{grammar_of}
use Rattle.mm_improve.specs.Narrow.{is_taken, narrowed}
use Rattle.mm_improve.specs.Searches.{terms}
use Rattle.mm_improve.proofs.NarrowCodes.{answers_enough, parts_enough}
use Rattle.mm_improve.proofs.prover.Prover.chart.Goals as goal

pub returns-then-is_float_code-clause-answers : goal.returns-then-is_float_code-clause-answers
returns-then-is_float_code-clause-answers c =
    let k = terms c.args.db.now c.args.self.now.search in
    let enough = parts_enough k c.requires.ready.own c.args.code (sym c.is_float_code.ensures ∙ c.if-is_float_code.true) in
    then_ok c.chart.result (λ rows h.
    answers_enough (grammar_of k) c.args.code (narrowed (is_taken c.args.db.now true) (grammar_of k)) c.args.text.now rows enough
    (subst (λ (H : Grammar). AreAnswers H c.args.text.now rows) c.requires.ready.parts h)) c.chart.ensures.answers
  where
    then_ok : {A E : Type 0} {P Q : A → Type 0} (x : Result A E) → ((a : A) → P a → Q a) → IfOk x P → IfOk x Q
    then_ok (Ok a) f h = f a h
    then_ok (Err e) f h = h
