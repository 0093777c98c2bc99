use Rattle.std.proofs.Common.{◌≡◌, drop}
use Rattle.mm_subst.specs.declared.symbol.WSym.TheVariants.{Work}
use Rattle.mm_subst.specs.Substitutions.{value_at}
use Rattle.mm_unify.specs.Parts.{AreWithin, parts_of}
use Rattle.mm_unify.proofs.bound.part.Given as goal

abbrev pub invariant-loop-bound : goal.invariant-loop-bound
invariant-loop-bound l = record {
  within : AreWithin l.target (drop l.bound-index l.path);
  same : value_at (parts_of l.target (drop l.bound-index l.path)) (Work l.number) ≡ value_at (parts_of l.target l.path) (Work l.number);
}
