use Rattle.mm_tables.proofs.LookBack.{in_force_now, moments_are_noted, in_force_at}
use Rattle.mm_tables.proofs.laws.looking_back_finds_what_is_kept.Goals as goal

pub returns : goal.returns
returns c = record { now = in_force_now; moments = moments_are_noted; at = λ past k h. in_force_at k past h }
