-- The marks of a tree that no call has changed.
use Rattle.std.proofs.Common.{refl}
use Rattle.mm_tree.specs.Versions.{Versions, KeepsMarks}

pub marks_stay : (v : Versions) → KeepsMarks v v
marks_stay v m alive = record { alive = alive; same = refl }
