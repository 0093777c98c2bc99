use Rattle.mm_lines.proofs.PieceLemmas.{first_splits, first_free}
use Rattle.mm_lines.proofs.cut.find_lf.Goals as goal

pub returns-clause-found : goal.returns-clause-found
returns-clause-found c = first_splits c.args.bytes.now c.memchr.result c.memchr.ensures

pub returns-clause-none : goal.returns-clause-none
returns-clause-none c = first_free c.args.bytes.now c.memchr.result c.memchr.ensures
