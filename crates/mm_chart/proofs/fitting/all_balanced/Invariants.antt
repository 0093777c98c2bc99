use Rattle.std.proofs.Common.{◌≡◌, drop, not}
use Rattle.std.specs.List.{list_all}
use Rattle.mm_subst.specs.Brackets.{are_balanced}
use Rattle.mm_chart.specs.Charts.{goals_of}
use Rattle.mm_chart.proofs.fitting.all_balanced.Given as goal

abbrev pub invariant-loop-part : goal.invariant-loop-part
invariant-loop-part l =
    list_all (λ g. not (not (are_balanced l.heeded g.1))) (goals_of l.text l.parts) ≡ list_all (λ g. not (not (are_balanced l.heeded g.1))) (goals_of l.text (drop l.part-index l.parts))
