-- Logs that stand one behind the other in one text.
use Rattle.std.specs.Prelude.{◌≤◌, ℕ, zero, suc, List, [], ◌∷◌, length, slice_range}
use Rattle.mm_base.specs.Recorder.{Log}
use Rattle.mm_base.specs.declared.log_buffer.Place.{Place}

abbrev pub log_between : List ℕ → Place → ℕ → Log
log_between text p end = record { name = slice_range text p.name p.bytes; bytes = slice_range text p.bytes end }

-- each log ends where the next one begins, and the last at the end of the text
abbrev pub logs_in : List ℕ → List Place → List Log
logs_in text [] = []
logs_in text (p ∷ []) = log_between text p (length text) ∷ []
logs_in text (p ∷ (q ∷ places)) = log_between text p q.name ∷ logs_in text (q ∷ places)

-- the places are in order
abbrev pub AreInOrder : ℕ → List Place → Type 0
AreInOrder end [] = Unit {0}
AreInOrder end (p ∷ []) = (p.name ≤ p.bytes) × (p.bytes ≤ end)
AreInOrder end (p ∷ (q ∷ places)) = (p.name ≤ p.bytes) × (p.bytes ≤ q.name) × (q.name ≤ end) × AreInOrder end (q ∷ places)

-- where the log with an index ends, of a text with this end
abbrev pub end_at : ℕ → List Place → ℕ → ℕ
end_at end [] k = end
end_at end (p ∷ []) k = end
end_at end (p ∷ (q ∷ places)) zero = q.name
end_at end (p ∷ (q ∷ places)) (suc k) = end_at end (q ∷ places) k
