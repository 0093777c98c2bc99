-- Stamps as marks.
use Rattle.std.proofs.Common.{◌≡◌, ◌<◌, ◌≤◌, ℕ, zero, suc, ◌+◌, Bool, true, false, ◌||◌, List, [], ◌∷◌, ◌++◌, length, take, set, get_or, replicate, All, nat_eq, refl, sym, ap, ◌∙◌, arith, ◌⊎◌, inl, inr}
use Rattle.std.proofs.lemmas.Grind.{common_steps}
use Rattle.std.proofs.lemmas.List.{length-map, get_or-map, get_or-set_same}
use Rattle.std.proofs.lemmas.Bool.{eqb-true, cases_lt}
use Rattle.std.proofs.Math.ListN.{get_or-eq_default}
use Rattle.std.proofs.Math.Bool.{or-true, or-false}
use Rattle.mm_tables.specs.Marked.{flags_of, is_marked}

not_zero : (n : ℕ) → 0 < n → nat_eq 0 n ≡ false
not_zero n h = grind (arith, h)

-- a number is marked where its stamp, 0 where it has none, is that of the turn
pub by_stamp : (stamps : List ℕ) (turn n : ℕ) → 0 < turn → is_marked (flags_of stamps turn) n ≡ nat_eq (get_or stamps n 0) turn
by_stamp stamps turn n h = elim (cases_lt n (length stamps)) [
  | inl here ↦ get_or-map (λ s. nat_eq s turn) stamps n 0 false here
  | inr past ↦ get_or-eq_default (flags_of stamps turn) false (omega (arith, past, length-map stamps (λ s. nat_eq s turn)))
      ∙ sym (ap (λ s. nat_eq s turn) (get_or-eq_default stamps 0 past) ∙ not_zero turn h)
]

differ : (s turn : ℕ) → s ≤ turn → nat_eq s (turn + 1) ≡ false
differ s turn h = grind (arith, h)

-- no stamp is the next turn's
pub next_turn : (stamps : List ℕ) (turn n : ℕ) → All (λ s. s ≤ turn) stamps → is_marked (flags_of stamps (turn + 1)) n ≡ false
next_turn stamps turn n all = elim (cases_lt n (length stamps)) [
  | inl here ↦ get_or-map (λ s. nat_eq s (turn + 1)) stamps n 0 false here ∙ differ (get_or stamps n 0) turn (all n 0 here)
  | inr past ↦ get_or-eq_default (flags_of stamps (turn + 1)) false (omega (arith, past, length-map stamps (λ s. nat_eq s (turn + 1))))
]

same_eq : (n : ℕ) → nat_eq n n ≡ true
same_eq n = grind arith

other : (stamps : List ℕ) (place turn n : ℕ) → nat_eq n place ≡ false → get_or (set stamps place turn) n 0 ≡ get_or stamps n 0
other stamps place turn n h = grind (arith, common_steps, h)

stamped_by : (stamps : List ℕ) (place turn n : ℕ) → place < length stamps → (b : Bool) → nat_eq n place ≡ b
    → nat_eq (get_or (set stamps place turn) n 0) turn ≡ (nat_eq (get_or stamps n 0) turn || b)
stamped_by stamps place turn n h true e =
    let same : n ≡ place = eqb-true n place e in
    rw same (ap (λ s. nat_eq s turn) (get_or-set_same stamps place turn 0 h) ∙ same_eq turn ∙ sym (or-true (nat_eq (get_or stamps place 0) turn)))
stamped_by stamps place turn n h false e =
    ap (λ s. nat_eq s turn) (other stamps place turn n e) ∙ sym (or-false (nat_eq (get_or stamps n 0) turn))

-- one stamp more
pub stamped : (stamps : List ℕ) (place turn n : ℕ) → 0 < turn → place < length stamps
    → is_marked (flags_of (set stamps place turn) turn) n ≡ (is_marked (flags_of stamps turn) n || nat_eq n place)
stamped stamps place turn n h small =
    by_stamp (set stamps place turn) turn n h ∙ stamped_by stamps place turn n small (nat_eq n place) refl
    ∙ ap (λ b. b || nat_eq n place) (sym (by_stamp stamps turn n h))

no_stamp : (z j n : ℕ) → get_or (replicate j z) n z ≡ z
no_stamp z zero n = refl
no_stamp z (suc j) zero = refl
no_stamp z (suc j) (suc n) = no_stamp z j n

with_room : (z : ℕ) (stamps : List ℕ) (j n : ℕ) → get_or (stamps ++ replicate j z) n z ≡ get_or stamps n z
with_room z [] j n = no_stamp z j n
with_room z (s ∷ ss) j zero = refl
with_room z (s ∷ ss) j (suc n) = with_room z ss j n

pub take_whole : (k : ℕ) (l : List ℕ) → length l ≤ k → take k l ≡ l
take_whole k l h = grind (arith, common_steps)

-- room for more stamps
pub roomier : (stamps : List ℕ) (turn j n : ℕ) → 0 < turn → is_marked (flags_of (stamps ++ replicate j 0) turn) n ≡ is_marked (flags_of stamps turn) n
roomier stamps turn j n h =
    by_stamp (stamps ++ replicate j 0) turn n h ∙ ap (λ s. nat_eq s turn) (with_room 0 stamps j n) ∙ sym (by_stamp stamps turn n h)
