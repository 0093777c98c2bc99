use Rattle.std.proofs.Common.{◌∙◌}
use Rattle.mm_improve.proofs.StepLemmas.{all-values, key-is-new, one-more}
use Rattle.mm_improve.proofs.laying.values_by.Goals as goal

pub put-requires : goal.put-requires
put-requires c = key-is-new c.args.text.now c.args.keys.now c.args.kids.now c.loop-i.sigma c.loop-i.i 0 c.requires.differ c.requires.many c.loop-i-test.true c.loop-i.invariant

pub loop-i-preserved : goal.loop-i-preserved
loop-i-preserved c =
    one-more c.args.text.now c.args.keys.now c.args.kids.now c.loop-i.sigma c.put.new.self c.loop-i.i 0 c.in_ok-value.value c.requires.many c.loop-i-test.true c.loop-i.invariant
    (c.in_ok-value.ensures ∙ c.value_of.ensures.value) c.in_ok-put.ensures.ok

pub returns : goal.returns
returns c = all-values c.args.text.now c.args.keys.now c.args.kids.now c.loop-i.sigma c.loop-i.i c.requires.many c.loop-i-test.false c.loop-i.invariant
