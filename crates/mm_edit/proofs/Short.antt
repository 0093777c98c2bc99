-- No string of a valid proof is too long.
use Rattle.std.proofs.Common.{◌≡◌, ℕ, List, None}
use Rattle.mm_subst.specs.declared.symbol.WSym.{WSym}
use Rattle.mm_plain.specs.Lengths.{is_long_step, first_long}
use Rattle.mm_plain.specs.Shape.{Proof, steps_of}
use Rattle.mm_plain.specs.Valid.{IsValid, setting_of}
use Rattle.mm_plain.proofs.Bounds.{sound_short}
use Rattle.mm_plain.proofs.First.{none-first_from}

pub short-valid : (bytes : List ℕ) (at : ℕ) (goal : List WSym) (p : Proof) → IsValid bytes at goal p → first_long bytes p.plain ≡ None
short-valid bytes at goal p v = none-first_from (is_long_step bytes) 1 (steps_of p.plain) (sound_short (setting_of bytes at p) p.plain v.steps)
