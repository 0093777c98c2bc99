use Rattle.std.proofs.Common.{◌≡◌, [], None, take}
use Rattle.mm_chart.specs.Items.{same_goal}
use Rattle.mm_chart.specs.Options.{first}
use Rattle.mm_improve.proofs.choice.bare_hypothesis.Given as goal

abbrev pub invariant-loop-hypothesis : goal.invariant-loop-hypothesis
invariant-loop-hypothesis l = first (λ h. same_goal (l.code, []) h.goal) (take l.hypothesis-index l.hypotheses) ≡ None
