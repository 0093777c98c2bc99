use Rattle.std.proofs.Common.{◌≡◌, ◌<◌, ◌==◌, ◌||◌, ℕ, false, get_or, length, take}
use Rattle.std.specs.List.{list_any}
use Rattle.mm_trace.proofs.closure.mark_all.Given as goal

abbrev pub invariant-loop-id : goal.invariant-loop-id
invariant-loop-id l = record {
  count : length l.marks.items ≡ length l.initial.marks.items;
  each : (n : ℕ) → n < length l.initial.marks.items → get_or l.marks.items n false ≡ (get_or l.initial.marks.items n false || list_any (λ m. m == n) (take l.id-index l.ids));
}
