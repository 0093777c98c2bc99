use Rattle.mm_grammar.proofs.Causes.{has_cause}
use Rattle.mm_grammar.proofs.Exact.{refused}
use Rattle.mm_grammar.proofs.laws.faults_have_causes.Goals as goal

pub returns-clause-caused : goal.returns-clause-caused
returns-clause-caused c = has_cause c.args.bytes.now

pub returns-clause-exact : goal.returns-clause-exact
returns-clause-exact c = refused c.args.bytes.now
