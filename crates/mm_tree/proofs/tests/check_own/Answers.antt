use Rattle.std.proofs.Common.{subst}
use Rattle.std.specs.List.{All}
use Rattle.std.proofs.lemmas.List.{take_all}
use Rattle.std.proofs.lemmas.List.Elements.{All-more}
use Rattle.mm_plain.specs.Numbers.{IsOwnLabel}
use Rattle.mm_tree.proofs.tests.check_own.Goals as goal

pub loop-label-preserved : goal.loop-label-preserved
loop-label-preserved c = All-more (IsOwnLabel c.args.db.now) c.args.labels.now c.loop-label.label-index _ c.loop-label-test.true c.loop-label.invariant (c.is_own.ensures c.if-not-is_own.false)

pub returns : goal.returns
returns c = subst (All (IsOwnLabel c.args.db.now)) (take_all c.loop-label.label-index c.args.labels.now c.loop-label-test.false) c.loop-label.invariant
