use Rattle.mm_scope.specs.Contents.{stated_at}
use Rattle.mm_grammar.proofs.Substituting.{floats_apart, variables_at}
use Rattle.mm_grammar.proofs.laws.assertions_of_databases_substitute.Goals as goal

pub returns-clause-apart : goal.returns-clause-apart
returns-clause-apart c = floats_apart c.args.bytes.now

pub returns-clause-variables : goal.returns-clause-variables
returns-clause-variables c = variables_at c.args.bytes.now

pub returns-clause-substitutes : goal.returns-clause-substitutes
returns-clause-substitutes c =
    λ id k groups stack next e. c.assertions_substitute.ensures (stated_at c.args.bytes.now id) k groups stack next (floats_apart c.args.bytes.now id) e
