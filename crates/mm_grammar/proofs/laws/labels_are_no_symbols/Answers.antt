use Rattle.mm_grammar.proofs.Apart.{apart}
use Rattle.mm_grammar.proofs.laws.labels_are_no_symbols.Goals as goal

pub returns : goal.returns
returns c = apart c.args.bytes.now
