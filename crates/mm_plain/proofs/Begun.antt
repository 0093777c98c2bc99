-- The symbols of a statement that is begun, one after another.
use Rattle.std.proofs.Common.{◌≡◌, ◌≤◌, ◌<◌, ℕ, suc, Bool, true, false, not, ◌&&◌, List, [], ◌∷◌, ◌++◌, length, nat_eq, nat_lt, slice_index, All, arith, length-append}
use Rattle.std.proofs.lemmas.Bool.{true≢false, not-false}
use Rattle.std.proofs.lemmas.List.Elements.{All-push, All-nil}
use Rattle.std.specs.List.{list_any}
use Rattle.mm_stated.specs.Stated.{Stated}
use Rattle.mm_scope.specs.Steps.{most_symbols}
use Rattle.mm_stated.specs.declared.statement.Kind.TheVariants as kind

-- whether a number is among the constants
abbrev pub is_among : List ℕ → ℕ → Bool
is_among constants n = list_any (nat_eq n) constants

-- the symbols so far, where so many symbols are declared and these are the constants
pub record IsBegun (count : ℕ) (constants symbols : List ℕ) : Type 0 where
  pub own : All (λ n. n < count) symbols
  pub short : length symbols ≤ most_symbols
  pub typecode : 0 < length symbols → is_among constants (slice_index symbols 0) ≡ true

-- the second symbol of a `$f` is a variable
abbrev pub HasVariable : List ℕ → List ℕ → Type 0
HasVariable constants symbols = 1 < length symbols → is_among constants (slice_index symbols 1) ≡ false

-- a whole statement
pub record IsWhole (count : ℕ) (constants : List ℕ) (s : Stated) : Type 0 where
  pub own : All (λ n. n < count) s.symbols
  pub short : length s.symbols ≤ most_symbols
  pub some : 0 < length s.symbols
  pub typecode : is_among constants (slice_index s.symbols 0) ≡ true
  pub pair : s.kind ≡ kind.Float → length s.symbols ≡ 2
  pub variable : s.kind ≡ kind.Float → is_among constants (slice_index s.symbols 1) ≡ false

pub none_begun : (count : ℕ) (constants : List ℕ) → IsBegun count constants []
none_begun count constants = record { own = All-nil (λ n. n < count); short = omega arith; typecode = λ h. absurd (omega (arith, h)) }

pub none_varies : (constants : List ℕ) → HasVariable constants []
none_varies constants h = absurd (omega (arith, h))

first_of_more : (constants symbols : List ℕ) (n : ℕ) → (nat_eq (length symbols) 0 && not (is_among constants n)) ≡ false
    → (0 < length symbols → is_among constants (slice_index symbols 0) ≡ true) → 0 < length (symbols ++ n ∷ []) → is_among constants (slice_index (symbols ++ n ∷ []) 0) ≡ true
first_of_more constants [] n off old h = not-false (is_among constants n) off
first_of_more constants (x ∷ xs) n off old h = old (omega arith)

pub one_more : (count : ℕ) (constants symbols : List ℕ) (n : ℕ) → n < count → (nat_eq (length symbols) 0 && not (is_among constants n)) ≡ false
    → length symbols < most_symbols → IsBegun count constants symbols → IsBegun count constants (symbols ++ n ∷ [])
one_more count constants symbols n own off room b = record {
  own = All-push (λ n. n < count) symbols n b.own own;
  short = omega (arith, length-append symbols (n ∷ []), room);
  typecode = first_of_more constants symbols n off b.typecode;
}

not_zero : (k : ℕ) → nat_eq (suc k) 0 ≡ true → ⊥
not_zero k e = grind arith

two_or_more : (k : ℕ) → nat_lt 1 (suc (suc k)) ≡ false → ⊥
two_or_more k e = grind arith

pub first_varies : (constants symbols : List ℕ) (n : ℕ) → nat_eq (length symbols) 0 ≡ true → HasVariable constants (symbols ++ n ∷ [])
first_varies constants [] n e h = absurd (omega (arith, h))
first_varies constants (x ∷ xs) n e h = absurd (not_zero (length xs) e)

pub second_varies : (constants symbols : List ℕ) (n : ℕ) → nat_eq (length symbols) 0 ≡ false → nat_lt 1 (length symbols) ≡ false → is_among constants n ≡ false
    → HasVariable constants (symbols ++ n ∷ [])
second_varies constants [] n e f off h = absurd (true≢false e)
second_varies constants (x ∷ []) n e f off h = off
second_varies constants (x ∷ y ∷ ys) n e f off h = absurd (two_or_more (length ys) f)
