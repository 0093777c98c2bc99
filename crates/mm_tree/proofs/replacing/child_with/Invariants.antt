use Rattle.std.proofs.Common.{◌≡◌, drop}
use Rattle.mm_subst.specs.Substitutions.{applied}
use Rattle.mm_tree.proofs.ReplacingLemmas.{first_among}
use Rattle.mm_tree.proofs.replacing.child_with.Given as goal

abbrev pub invariant-loop-old : goal.invariant-loop-old
invariant-loop-old g l = first_among l.theta l.line (drop l.old-index l.olds) (applied l.theta l.fn.goal) ≡ first_among l.theta l.line l.olds (applied l.theta l.fn.goal)
