use Rattle.mm_scope.proofs.Bridge.{labels_differ}
use Rattle.mm_scope.proofs.laws.labels_differ.Goals as goal

pub returns : goal.returns
returns c = labels_differ c.args.bytes.now
