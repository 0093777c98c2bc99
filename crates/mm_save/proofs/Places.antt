-- The bytes before and behind a text that is put between two places.
use Rattle.std.proofs.Common.{◌≡◌, ◌+◌, ◌-◌, ◌<◌, ◌≤◌, ℕ, true, nat_le, List, ◌++◌, length, take, drop, slice_range, if◌then◌else◌, sym, ap, ◌∙◌, inl, inr, arith, append_assoc, length-append, length-drop}
use Rattle.std.proofs.Math.Seq.{take-append_seam, drop-append_seam}
use Rattle.std.proofs.lemmas.Bool.{cases_lt}
use Rattle.std.proofs.lemmas.List.{length-take, length-take-le}
use Rattle.mm_splice.specs.Splicing.{put_between, moved_by}

is_le : (a b : ℕ) → a ≤ b → nat_le a b ≡ true
is_le a b h = grind arith

-- the end of a proof stands behind its beginning, where a text moves it to its own end
pub rises : (from to size : ℕ) → moved_by from to size to ≡ from + size → 0 < size → from < to
rises from to size is some = elim (cases_lt from to) [
  | inl less ↦ less
  | inr more ↦
      let e : to ≡ from + size = sym (ap (λ b. if b then to else (to - to) + (from + size)) (is_le to from more)) ∙ is in
      absurd (omega (arith, e, some, more))
]

-- and the beginning within the bytes, where the text stands at its place
pub within : (bytes text : List ℕ) (from to : ℕ) → slice_range (put_between bytes from to text) from (from + length text) ≡ text → 0 < length text → from < to → from ≤ length bytes
within bytes text from to range some less =
    let new : List ℕ = put_between bytes from to text in
    omega (
      arith,
      length-append (take from bytes ++ text) (drop to bytes),
      length-append (take from bytes) text,
      length-take from bytes,
      length-drop to bytes,
      ap length range,
      length-take ((from + length text) - from) (drop from new),
      length-drop from new,
      some,
      less,
    )

pub front_stays : (bytes text : List ℕ) (from to : ℕ) → from ≤ length bytes → take from (put_between bytes from to text) ≡ take from bytes
front_stays bytes text from to h =
    ap (take from) (append_assoc (take from bytes) text (drop to bytes))
    ∙ ap (λ n. take n (take from bytes ++ (text ++ drop to bytes))) (sym (length-take-le from bytes h))
    ∙ take-append_seam (take from bytes) (text ++ drop to bytes)

pub back_stays : (bytes text : List ℕ) (from to : ℕ) → from ≤ length bytes → drop (from + length text) (put_between bytes from to text) ≡ drop to bytes
back_stays bytes text from to h =
    let size : from + length text ≡ length (take from bytes ++ text) = omega (arith, length-append (take from bytes) text, length-take-le from bytes h) in
    ap (λ n. drop n (put_between bytes from to text)) size ∙ drop-append_seam (take from bytes ++ text) (drop to bytes)
