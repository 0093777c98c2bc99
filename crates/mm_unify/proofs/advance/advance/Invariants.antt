use Rattle.std.proofs.Common.{◌≡◌, ◌≤◌, ◌-◌, length, take}
use Rattle.mm_subst.specs.Substitutions.{applied}
use Rattle.mm_unify.specs.Parts.{parts_of}
use Rattle.mm_unify.proofs.advance.advance.Given as goal

abbrev pub invariant-loop-index : goal.invariant-loop-index
invariant-loop-index l = record {
  in_pattern : l.index ≤ length l.pattern;
  in_target : l.place ≤ length l.target;
  later : l.to ≤ l.place;
  come : applied (parts_of l.target l.path) (take l.index l.pattern) ≡ take l.place l.target;
}

abbrev pub decreases-loop-index : goal.decreases-loop-index
decreases-loop-index l = length l.pattern - l.index
