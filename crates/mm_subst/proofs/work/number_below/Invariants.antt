use Rattle.std.proofs.Common.{◌≡◌, ◌<◌, ◌^◌, ◌+◌, ◌-◌, ◌*◌, take}
use Rattle.mm_subst.specs.Parsing.{number_of}
use Rattle.mm_subst.proofs.work.number_below.Given as goal

abbrev pub invariant-loop-digit : goal.invariant-loop-digit
invariant-loop-digit l = record {
  small : l.number < 2 ^ 36;
  so_far : l.number ≡ number_of (take l.digit-index l.digits);
}
