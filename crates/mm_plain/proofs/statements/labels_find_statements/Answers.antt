use Rattle.mm_plain.proofs.Labels.{has_label}
use Rattle.mm_plain.proofs.statements.labels_find_statements.Goals as goal

pub returns : goal.returns
returns c = has_label c.args.bytes.now
