use Rattle.mm_grammar.proofs.Closing.{all_closed}
use Rattle.mm_grammar.proofs.Following.{followed}
use Rattle.mm_grammar.proofs.laws.rules_are_followed.Goals as goal

pub returns-clause-followed : goal.returns-clause-followed
returns-clause-followed c = followed c.args.bytes.now

pub returns-clause-closed : goal.returns-clause-closed
returns-clause-closed c = all_closed c.args.bytes.now
