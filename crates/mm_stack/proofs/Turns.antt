-- Seats by turn.
use Rattle.std.proofs.Common.{◌≡◌, ◌<◌, ◌==◌, ℕ, zero, suc, List, [], ◌∷◌, ◌++◌, None, Some, length, get_or, map, if◌then◌else◌, refl, ap, ◌∙◌, arith, set, All, replicate, true, false, eq-eqb, eqb, ◌⊎◌, ◌≢◌, inl, inr}
use Rattle.std.proofs.lemmas.Bool.Decides.{eqb_tells}
use Rattle.std.proofs.lemmas.Bool.{ne_eqb}
use Rattle.std.proofs.lemmas.List.{map-set, get_or-set_same, get_or-set_other, length-map}
use Rattle.std.proofs.lemmas.List.Elements.{All-head, All-tail}
use Rattle.mm_stack.specs.Seats.{seated_in}
use Rattle.mm_stack.specs.declared.values.Seat.{Seat}

-- a seat of another turn seats nothing
pub other_turn : (turn : ℕ) (x : Seat) → x.turn < turn → seated_in turn x ≡ None
other_turn turn x h = rw (ne_eqb x.turn turn (λ e. absurd (omega arith))) refl

pub this_turn : (turn entry : ℕ) → seated_in turn (record { turn = turn; entry = entry }) ≡ Some entry
this_turn turn entry = rw (eq-eqb turn turn refl) refl

pub none_seated : (turn : ℕ) (seats : List Seat) → All (λ x. x.turn < turn) seats → (s : ℕ) → get_or (map (seated_in turn) seats) s None ≡ None
none_seated turn [] h s = refl
none_seated turn (x ∷ xs) h zero = other_turn turn x (All-head (λ x. x.turn < turn) x xs h)
none_seated turn (x ∷ xs) h (suc s) = none_seated turn xs (All-tail (λ x. x.turn < turn) x xs h) s

-- empty seats more
pub more_seats : (turn : ℕ) (seats : List Seat) (n : ℕ) (x : Seat) → x.turn < turn → (s : ℕ) → get_or (map (seated_in turn) (seats ++ replicate n x)) s None ≡ get_or (map (seated_in turn) seats) s None
more_seats turn [] zero x h s = refl
more_seats turn [] (suc n) x h zero = other_turn turn x h
more_seats turn [] (suc n) x h (suc s) = more_seats turn [] n x h s
more_seats turn (y ∷ ys) n x h zero = refl
more_seats turn (y ∷ ys) n x h (suc s) = more_seats turn ys n x h s

set_seat_by : (turn : ℕ) (seats : List Seat) (k entry : ℕ) → k < length seats → (s : ℕ) → ((eqb s k ≡ true) × (s ≡ k)) ⊎ ((eqb s k ≡ false) × (s ≢ k))
    → get_or (set (map (seated_in turn) seats) k (Some entry)) s None ≡ (if s == k then Some entry else get_or (map (seated_in turn) seats) s None)
set_seat_by turn seats k entry h s (inl e) =
    rw (e.0, e.1) (get_or-set_same (map (seated_in turn) seats) k (Some entry) None (omega (arith, length-map seats (seated_in turn))))
set_seat_by turn seats k entry h s (inr e) =
    rw e.0 (get_or-set_other (map (seated_in turn) seats) k s (Some entry) None e.1)

-- one seat more of this turn
pub set_seat : (turn : ℕ) (seats : List Seat) (k entry : ℕ) → k < length seats → (s : ℕ)
    → get_or (map (seated_in turn) (set seats k (record { turn = turn; entry = entry }))) s None ≡ (if s == k then Some entry else get_or (map (seated_in turn) seats) s None)
set_seat turn seats k entry h s =
    ap (λ xs. get_or xs s None) (map-set (seated_in turn) seats k (record { turn = turn; entry = entry }) ∙ ap (set (map (seated_in turn) seats) k) (this_turn turn entry))
    ∙ set_seat_by turn seats k entry h s (eqb_tells s k)
