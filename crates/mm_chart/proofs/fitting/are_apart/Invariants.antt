use Rattle.std.proofs.Common.{◌≡◌, drop}
use Rattle.std.specs.List.{list_all}
use Rattle.mm_chart.specs.Items.{are_parted}
use Rattle.mm_chart.specs.Items.{value}
use Rattle.mm_chart.specs.Charts.{goals_of}
use Rattle.mm_chart.proofs.fitting.are_apart.Given as goal

abbrev pub invariant-loop-pair : goal.invariant-loop-pair
invariant-loop-pair l =
    list_all (λ p. are_parted l.groups (value (goals_of l.text l.parts) p.0) (value (goals_of l.text l.parts) p.1)) l.pairs
    ≡ list_all (λ p. are_parted l.groups (value (goals_of l.text l.parts) p.0) (value (goals_of l.text l.parts) p.1)) (drop l.pair-index l.pairs)
