use Rattle.mm_grammar.proofs.Written.{written}
use Rattle.mm_grammar.proofs.laws.statements_are_the_tokens.Goals as goal

pub returns : goal.returns
returns c = written c.args.bytes.now
