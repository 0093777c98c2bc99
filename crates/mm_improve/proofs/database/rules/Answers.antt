use Rattle.std.proofs.Common.{◌≡◌, IfOk, Result, Ok, Err, ◌∙◌}
use Rattle.mm_improve.specs.Grammars.{grammar_of}
use Rattle.mm_improve.specs.Searches.{terms}
use Rattle.mm_improve.proofs.NarrowCodes.{all_taken}
use Rattle.mm_improve.proofs.database.rules.Goals as goal

pub returns : goal.returns
returns c = same (all_taken c.args.db.now (grammar_of (terms c.args.db.now c.args.search))) c.rules_for.result c.rules_for.ensures
  where
    same : {A E : Type 0} {a b : A} → a ≡ b → (x : Result A E) → IfOk x (λ y. y ≡ a) → IfOk x (λ y. y ≡ b)
    same e (Ok y) h = h ∙ e
    same e (Err f) h = h
