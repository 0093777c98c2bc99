-- Blocks that end nothing.
use Rattle.std.proofs.Common.{List, Option, ◌≡◌, ℕ, ◌≤◌, length, take, drop, fold, arith}
use Rattle.std.proofs.Math.ListN.{drop_of_length-le}
use Rattle.std.proofs.lemmas.List.{length-take-le}
use Rattle.std.proofs.lemmas.Grind.{common_steps}
use Rattle.mm_scope.specs.Contexts.{ended}
use Rattle.mm_tables.specs.Standings.{Standings}
use Rattle.mm_scope.specs.Until.{ended_before}
use Rattle.mm_scope.specs.declared.ending.Ending.{Ending}

pub take_whole : {A : Type 0} (k : ℕ) (l : List A) → length l ≤ k → take k l ≡ l
take_whole k l h = grind (arith, common_steps)

pub nothing_ends : (t : Standings) (k : ℕ) (l : List Ending) → length l ≤ k → fold ended t (drop k l) ≡ t
nothing_ends t k l h = rw (drop_of_length-le l h)

pub no_hypothesis_ends : (next : ℕ) (u : List (Option ℕ)) (k : ℕ) (l : List ℕ) → length l ≤ k → fold (ended_before next) u (drop k l) ≡ u
no_hypothesis_ends next u k l h = rw (drop_of_length-le l h)

pub take_length : {A : Type 0} (k : ℕ) (l : List A) → k ≤ length l → length (take k l) ≡ k
take_length k l h = length-take-le k l h

pub take_small : {A : Type 0} (k : ℕ) (l : List A) → length (take k l) ≤ k
take_small k l = grind (arith, common_steps)
