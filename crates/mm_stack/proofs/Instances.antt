-- Instances, symbol by symbol.
use Rattle.std.proofs.Common.{◌≡◌, ◌<◌, ◌+◌, ℕ, Bool, true, false, ◌&&◌, List, [], ◌∷◌, ◌++◌, length, take, drop, get_or, nat_lt, not, refl, ap, sym, ◌∙◌, arith, length-append, eq-eqb}
use Rattle.std.specs.Str.{bytes_eq}
use Rattle.std.specs.Bool.{Decides}
use Rattle.std.proofs.lemmas.Slice.Eq.{bytes_eq-Decides}
use Rattle.std.proofs.lemmas.List.{take_more, drop_more, append-nil, append_assoc, take-append-drop}
use Rattle.mm_stack.specs.Substitution.{instance}
use Rattle.mm_scope.specs.Steps.{most_symbols}

pub instance-append : (value : ℕ → List ℕ) (xs ys : List ℕ) → instance value (xs ++ ys) ≡ instance value xs ++ instance value ys
instance-append value [] ys = refl
instance-append value (x ∷ xs) ys = ap (λ zs. value x ++ zs) (instance-append value xs ys) ∙ sym (append_assoc (value x) (instance value xs) (instance value ys))

-- one symbol more
pub instance_more : (value : ℕ → List ℕ) (xs : List ℕ) (i : ℕ) → i < length xs → instance value (take (i + 1) xs) ≡ instance value (take i xs) ++ value (get_or xs i 0)
instance_more value xs i h =
    ap (instance value) (take_more xs i 0 h)
    ∙ instance-append value (take i xs) (get_or xs i 0 ∷ [])
    ∙ ap (λ zs. instance value (take i xs) ++ zs) (append-nil (value (get_or xs i 0)))

-- an instance is as long as those of its parts
length-instance : (value : ℕ → List ℕ) (xs : List ℕ) (i : ℕ) → length (instance value (take i xs)) + length (instance value (drop i xs)) ≡ length (instance value xs)
length-instance value xs i =
    sym (length-append (instance value (take i xs)) (instance value (drop i xs)))
    ∙ ap length (sym (instance-append value (take i xs) (drop i xs)) ∙ ap (instance value) (take-append-drop i xs))

over : (n : ℕ) → most_symbols < n → false ≡ not (nat_lt most_symbols n)
over n h = grind arith

-- where the symbols so far and one more give too much, all of them do
pub too_long : (value : ℕ → List ℕ) (xs : List ℕ) (i : ℕ) → i < length xs → most_symbols < length (instance value (take i xs)) + length (value (get_or xs i 0))
    → false ≡ not (nat_lt most_symbols (length (instance value xs)))
too_long value xs i h big =
    over (length (instance value xs)) (omega (arith, length-instance value xs (i + 1), ap length (instance_more value xs i h), length-append (instance value (take i xs)) (value (get_or xs i 0))))

same_front : (x : List ℕ) (ys zs : List ℕ) → bytes_eq (x ++ ys) (x ++ zs) ≡ bytes_eq ys zs
same_front [] ys zs = refl
same_front (x ∷ xs) ys zs = ap (λ b. b && bytes_eq (xs ++ ys) (xs ++ zs)) (eq-eqb x x refl) ∙ same_front xs ys zs

refused : {P : Type 0} (b : Bool) → Decides b P → (P → ⊥) → b ≡ false
refused true d h = absurd (h (d.0 refl))
refused false d h = refl

-- what the symbols from place i on give, and how it begins
rest_of : (value : ℕ → List ℕ) (xs : List ℕ) (i : ℕ) → i < length xs → instance value (drop i xs) ≡ value (get_or xs i 0) ++ instance value (drop (i + 1) xs)
rest_of value xs i h = ap (instance value) (drop_more xs i 0 h)

pub begins_otherwise : (value : ℕ → List ℕ) (xs rest : List ℕ) (i : ℕ) → i < length xs → ((more : List ℕ) → rest ≡ value (get_or xs i 0) ++ more → ⊥)
    → bytes_eq (instance value (drop i xs)) rest ≡ false
begins_otherwise value xs rest i h differs =
    refused (bytes_eq (instance value (drop i xs)) rest) (bytes_eq-Decides (instance value (drop i xs)) rest)
    (λ same. differs (instance value (drop (i + 1) xs)) (sym same ∙ rest_of value xs i h))

pub begins_so : (value : ℕ → List ℕ) (xs rest left : List ℕ) (i : ℕ) → i < length xs → rest ≡ value (get_or xs i 0) ++ left
    → bytes_eq (instance value (drop (i + 1) xs)) left ≡ bytes_eq (instance value (drop i xs)) rest
begins_so value xs rest left i h begins =
    rw (rest_of value xs i h, begins) (sym (same_front (value (get_or xs i 0)) (instance value (drop (i + 1) xs)) left))
