use Rattle.std.proofs.Common.{◌+◌, None, get_or, sym, ◌∙◌}
use Rattle.mm_edit.proofs.LayingLemmas.{kept_label, labels-more}
use Rattle.mm_edit.proofs.laying.same_labels.Goals as goal

pub loop-i-preserved : goal.loop-i-preserved
loop-i-preserved c =
    let labels = c.args.labels.now in
    let i = c.loop-i.i in
    labels-more labels c.args.a c.args.b i c.args.many c.requires.first c.requires.second c.loop-i-test.true c.loop-i.invariant
    (kept_label (get_or labels (c.args.a + i) None) (get_or labels (c.args.b + i) None) (sym c.ne.ensures ∙ c.if-ne.false))
