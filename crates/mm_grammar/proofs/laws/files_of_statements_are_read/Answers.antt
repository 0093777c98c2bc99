use Rattle.mm_grammar.proofs.Readable.{read_so}
use Rattle.mm_grammar.proofs.laws.files_of_statements_are_read.Goals as goal

pub returns : goal.returns
returns c = read_so c.args.bytes.now
