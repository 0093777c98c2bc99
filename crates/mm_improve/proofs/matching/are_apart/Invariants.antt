use Rattle.std.proofs.Common.{◌≡◌, drop}
use Rattle.std.specs.List.{list_all}
use Rattle.mm_subst.specs.Substitutions.{value_of}
use Rattle.mm_subst.specs.declared.symbol.WSym.TheVariants.{Var}
use Rattle.mm_scope.specs.Contents.{stated_at}
use Rattle.mm_chart.specs.Items.{are_parted}
use Rattle.mm_improve.proofs.matching.are_apart.Given as goal

abbrev pub invariant-loop-pair : goal.invariant-loop-pair
invariant-loop-pair l =
    list_all (λ p. are_parted l.groups (value_of l.sigma (Var p.0)) (value_of l.sigma (Var p.1))) (stated_at l.db l.fn.id.0).pairs
    ≡ list_all (λ p. are_parted l.groups (value_of l.sigma (Var p.0)) (value_of l.sigma (Var p.1))) (drop l.pair-index (stated_at l.db l.fn.id.0).pairs)
