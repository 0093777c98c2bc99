use Rattle.mm_plain.proofs.LabelTrees.{tree_of-labels_in, fresh_proof_of-labels_in, labels-begun, size-begun, height-begun, next-begun, sigmas-begun, valid-begun}
use Rattle.mm_plain.proofs.laws.labels_begin_valid_proofs.Goals as goal

pub returns-clause-labels : goal.returns-clause-labels
returns-clause-labels c = labels-begun c.args.bytes.now

pub returns-clause-tree : goal.returns-clause-tree
returns-clause-tree c = tree_of-labels_in c.args.bytes.now

pub returns-clause-own : goal.returns-clause-own
returns-clause-own c = fresh_proof_of-labels_in c.args.bytes.now

pub returns-clause-size : goal.returns-clause-size
returns-clause-size c = size-begun c.args.bytes.now

pub returns-clause-height : goal.returns-clause-height
returns-clause-height c = height-begun c.args.bytes.now

pub returns-clause-drawn : goal.returns-clause-drawn
returns-clause-drawn c = sigmas-begun c.args.bytes.now

pub returns-clause-next : goal.returns-clause-next
returns-clause-next c = next-begun c.args.bytes.now

pub returns-clause-valid : goal.returns-clause-valid
returns-clause-valid c = valid-begun c.args.bytes.now
