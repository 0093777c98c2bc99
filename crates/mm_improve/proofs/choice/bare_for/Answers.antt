use Rattle.std.proofs.Common.{true, sym, ◌∙◌, ap}
use Rattle.mm_improve.specs.Choices.{bare_id}
use Rattle.mm_improve.specs.Grammars.{grammar_of}
use Rattle.mm_chart.specs.Items.{Grammar}
use Rattle.mm_improve.specs.Narrow.{is_taken}
use Rattle.mm_improve.specs.Searches.{terms}
use Rattle.mm_improve.proofs.ChoiceLemmas.{bare_kept}
use Rattle.mm_improve.proofs.choice.bare_for.Goals as goal

pub returns-then-is_float_code : goal.returns-then-is_float_code
returns-then-is_float_code c =
    c.bare.ensures ∙ ap (λ (H : Grammar). bare_id H c.args.code) c.requires.parts
    ∙ bare_kept (is_taken c.args.db.now true) (grammar_of (terms c.args.db.now c.args.prover.now.search)) c.args.code (sym c.is_float_code.ensures ∙ c.if-is_float_code.true)
