use Rattle.std.proofs.Common.{sym, ◌∙◌}
use Rattle.mm_tree.proofs.Behind.{whole-source, next-value, no-value}
use Rattle.mm_tree.proofs.sources.is_source.Goals as goal

pub returns-in_default : goal.returns-in_default
returns-in_default c = sym (
    whole-source _ _ _ _ _ (c.as_slice-number-items.ensures ∙ c.frame-frame.ensures.conclusion)
    ∙ c.loop-number.invariant
    ∙ next-value _ _ _ _ _ 0 _ _ c.loop-number-test.true c.own_symbol-symbol.ensures c.value.ensures
    ∙ c.in_default.ensures _
    )

pub loop-number-preserved : goal.loop-number-preserved
loop-number-preserved c =
    c.loop-number.invariant
    ∙ next-value _ _ _ _ _ 0 _ _ c.loop-number-test.true c.own_symbol-symbol.ensures c.value.ensures
    ∙ c.in-Some.ensures _

pub returns : goal.returns
returns c =
    c.is_empty.ensures ∙ sym (
    whole-source _ _ _ _ _ (c.as_slice-number-items.ensures ∙ c.frame-frame.ensures.conclusion)
    ∙ c.loop-number.invariant
    ∙ no-value _ _ _ _ _ c.loop-number-test.false
    )
