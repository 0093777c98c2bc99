use Rattle.std.proofs.Common.{◌≡◌, drop}
use Rattle.std.specs.List.{list_all}
use Rattle.mm_tables.specs.Distinct.{are_distinct}
use Rattle.mm_chart.specs.Items.{if_variable}
use Rattle.mm_chart.proofs.fitting.differs_from_all.Given as goal

abbrev pub invariant-loop-symbol : goal.invariant-loop-symbol
invariant-loop-symbol l = list_all (if_variable (λ v. are_distinct l.groups l.u v)) l.other ≡ list_all (if_variable (λ v. are_distinct l.groups l.u v)) (drop l.symbol-index l.other)
