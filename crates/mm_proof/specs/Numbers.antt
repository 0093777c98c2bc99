-- Numbers in letters: `A` to `T` are the last digits 1 to 20, `U` to `Y` the leading digits 1 to 5 (Metamath book, Appendix B).
use Rattle.std.specs.Prelude.{◌≡◌, ◌<◌, ◌≤◌, ℕ, zero, suc, ◌+◌, ◌-◌, ◌*◌, ◌/◌, ◌%◌, Bool, ◌&&◌, ◌==◌, nat_le, List, [], ◌∷◌, ◌++◌, if◌then◌else◌}
use Rattle.mm_proof.specs.declared.letter.Letter.{Letter}
use Rattle.mm_proof.specs.declared.letter.Letter.TheVariants.{Last, Lead, Tag, Query, Other}

-- the leading letters of a quotient, of which there are at most so many
abbrev pub leading_by : ℕ → ℕ → List ℕ
leading_by zero q = []
leading_by (suc most) q = if q == 0 then [] else leading_by most ((q - 1) / 5) ++ (85 + (q - 1) % 5) ∷ []

unfoldable pub leading : ℕ → List ℕ
leading q = leading_by q q

-- the letters of a number from 1 on
unfoldable pub letters_of : ℕ → List ℕ
letters_of n = leading ((n - 1) / 20) ++ (65 + (n - 1) % 20) ∷ []

abbrev pub is_last : ℕ → Bool
is_last b = nat_le 65 b && nat_le b 84

abbrev pub is_lead : ℕ → Bool
is_lead b = nat_le 85 b && nat_le b 89

-- what a byte is among letters
unfoldable pub letter_of : ℕ → Letter
letter_of b =
    if is_last b then Last (b - 64)
    else (if is_lead b then Lead (b - 84) else (if b == 90 then Tag else (if b == 63 then Query else Other)))

-- letters are those of a number, where the letters before them stand for a quotient
pub data Spells : ℕ → List ℕ → ℕ → Type 0 where
  last_letter : (acc b d : ℕ) → letter_of b ≡ Last d → Spells acc (b ∷ []) (20 * acc + d)
  lead_letter : (acc b d n : ℕ) (bs : List ℕ) → letter_of b ≡ Lead d → Spells (5 * acc + d) bs n → Spells acc (b ∷ bs) n

-- a digit is one of those that letters have
abbrev pub IsDigit : Letter → Type 0
IsDigit (Last d) = (0 < d) × (d ≤ 20)
IsDigit (Lead d) = (0 < d) × (d ≤ 5)
IsDigit Tag = Unit {0}
IsDigit Query = Unit {0}
IsDigit Other = Unit {0}
