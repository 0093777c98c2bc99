use Rattle.std.proofs.Common.{◌≡◌, None, take}
use Rattle.mm_improve.specs.Choices.{is_bare}
use Rattle.mm_chart.specs.Options.{first}
use Rattle.mm_improve.proofs.choice.bare_assertion.Given as goal

abbrev pub invariant-loop-assertion : goal.invariant-loop-assertion
invariant-loop-assertion l = first (is_bare l.code) (take l.assertion-index l.assertions) ≡ None
