-- What is kept of a line is as good as all of it.
use Rattle.std.proofs.Common.{◌≡◌, ◌∙◌, ◌<◌, ◌≤◌, sym, ap, List, ℕ, [], Bool, true, false, take, length, nat_lt, nat_le, arith, inl, inr, if◌then◌else◌}
use Rattle.std.proofs.lemmas.Bool.{cases_lt}
use Rattle.std.proofs.lemmas.Bool.Decides.{nat_tests}
use Rattle.std.proofs.lemmas.List.{take_all, length-take-le}
use Rattle.mm_command.specs.Table.{line_said}
use Rattle.mm_step.specs.Asked.{TooLong, asked_by, asked_of}
use Rattle.mm_session.specs.Session.{shown}
use Rattle.mm_lines.specs.Lines.{kept}
use Rattle.mm_session.specs.Advance.{IsLine}

too_long : (line : List ℕ) → 65536 < length line → asked_of line ≡ TooLong
unfolding asked_of
too_long line lt =
    let long : nat_lt 65536 (length line) ≡ true = grind (arith, nat_tests) in
    ap (λ (b : Bool). if b then TooLong else asked_by (line_said line)) long

not_shown : (line : List ℕ) → 65536 < length line → shown line ≡ []
not_shown line lt = let no : nat_le (length line) 65536 ≡ false = grind (arith, nat_tests) in ap (λ (b : Bool). if b then line else []) no

kept_long : (line : List ℕ) → 65537 ≤ length line → 65536 < length (take 65537 line)
kept_long line le = let e : length (take 65537 line) ≡ 65537 = length-take-le 65537 line le in omega (arith, e)

pub kept_asks : (line : List ℕ) → asked_of (take 65537 line) ≡ asked_of line
kept_asks line = elim (cases_lt (length line) 65537) [
  | inl short ↦ ap asked_of (take_all 65537 line (omega arith))
  | inr long ↦ too_long (take 65537 line) (kept_long line long) ∙ sym (too_long line (omega arith))
]

pub kept_shows : (line : List ℕ) → shown (take 65537 line) ≡ shown line
kept_shows line = elim (cases_lt (length line) 65537) [
  | inl short ↦ ap shown (take_all 65537 line (omega arith))
  | inr long ↦ not_shown (take 65537 line) (kept_long line long) ∙ sym (not_shown line (omega arith))
]

pub kept_line : (line whole : List ℕ) → line ≡ kept whole → IsLine line whole
kept_line line whole is = record { asks = ap asked_of is ∙ kept_asks whole; shows = ap shown is ∙ kept_shows whole }
