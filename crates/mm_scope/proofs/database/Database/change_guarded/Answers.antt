use Rattle.std.proofs.Common.{IsTrue, ◌↔◌, sym, subst}
use Rattle.mm_scope.specs.Description.{description_of, Says, change_phrase}
use Rattle.mm_scope.proofs.Phrases.{says-Says}
use Rattle.mm_scope.proofs.database.Database.change_guarded.Goals as goal

pub returns-clause-words : goal.returns-clause-words
returns-clause-words c =
    subst (λ b. IsTrue b ↔ Says c.args.self.now (description_of c.args.self.now c.args.id.0) change_phrase) (sym c.says.ensures)
    (says-Says c.args.self.now (description_of c.args.self.now c.args.id.0) change_phrase)
