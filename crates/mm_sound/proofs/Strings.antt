-- Strings of symbols as the machine's lists of numbers.
use Rattle.std.proofs.Common.{◌≡◌, ◌≤◌, ℕ, Bool, true, false, ◌==◌, List, [], ◌∷◌, ◌++◌, map, length, Option, None, Some, is_some, refl, ap, ◌∙◌, arith, length-append, append-nil, if◌then◌else◌}
use Rattle.std.proofs.lemmas.Bool.{true≢false, false≢true, and_parts}
use Rattle.std.proofs.lemmas.Grind.{flat_map-append}
use Rattle.std.specs.Cmp.Lexicographic.{pointwise}
use Rattle.std.specs.List.{flat_map, list_any}
use Rattle.mm_scope.specs.Contents.{stated_at, is_variable_of}
use Rattle.mm_subst.specs.Statements.{symbol_of, statement_of}
use Rattle.mm_subst.specs.Substitutions.{Pairs, value_at, value_of, or_itself, applied}
use Rattle.mm_subst.specs.Symbols.{is_same}
use Rattle.mm_subst.specs.declared.symbol.WSym.{WSym}
use Rattle.mm_subst.specs.declared.symbol.WSym.TheVariants.{Const, Var, Work}
use Rattle.mm_subst.proofs.Keys.{is_same-true}
use Rattle.mm_stack.specs.Substitution.{instance}
use Rattle.mm_plain.proofs.Keys.{is_among}
use Rattle.mm_sound.specs.Numbers.{number_in, numbers}

-- what stands for a symbol of the database under a substitution, by number
abbrev pub meaning : List ℕ → Pairs → ℕ → List ℕ
meaning bytes sigma n = numbers (value_of sigma (symbol_of bytes n))

number_if : (b : Bool) (n : ℕ) → number_in (if b then Var n else Const n) ≡ n ∷ []
number_if true n = refl
number_if false n = refl

symbols_back : (bytes ns : List ℕ) → numbers (map (symbol_of bytes) ns) ≡ ns
symbols_back bytes [] = refl
symbols_back bytes (n ∷ ns) =
    ap (λ xs. xs ++ numbers (map (symbol_of bytes) ns)) (number_if (is_variable_of bytes n) n) ∙ ap (λ xs. n ∷ xs) (symbols_back bytes ns)

-- a statement's string has its symbols
pub numbers-statement : (bytes : List ℕ) (id : ℕ) → numbers (statement_of bytes id) ≡ (stated_at bytes id).symbols
unfolding statement_of
numbers-statement bytes id = symbols_back bytes (stated_at bytes id).symbols

each_applied : (bytes : List ℕ) (sigma : Pairs) (ns : List ℕ) → numbers (flat_map (value_of sigma) (map (symbol_of bytes) ns)) ≡ instance (meaning bytes sigma) ns
each_applied bytes sigma [] = refl
each_applied bytes sigma (n ∷ ns) =
    flat_map-append number_in (value_of sigma (symbol_of bytes n)) (flat_map (value_of sigma) (map (symbol_of bytes) ns))
    ∙ ap (λ xs. meaning bytes sigma n ++ xs) (each_applied bytes sigma ns)

-- a statement under a substitution is its instance
pub numbers-applied : (bytes : List ℕ) (sigma : Pairs) (id : ℕ) → numbers (applied sigma (statement_of bytes id)) ≡ instance (meaning bytes sigma) (stated_at bytes id).symbols
unfolding applied statement_of
numbers-applied bytes sigma id = each_applied bytes sigma (stated_at bytes id).symbols

one_at_most : (x : WSym) → length (number_in x) ≤ 1
one_at_most (Const n) = omega arith
one_at_most (Var n) = omega arith
one_at_most (Work n) = omega arith

pub length-numbers : (s : List WSym) → length (numbers s) ≤ length s
length-numbers [] = omega arith
length-numbers (x ∷ xs) = omega (arith, length-append (number_in x) (numbers xs), one_at_most x, length-numbers xs)

-- a symbol without a value stands for itself
pub itself : (bytes : List ℕ) (sigma : Pairs) (n : ℕ) → value_at sigma (symbol_of bytes n) ≡ None → meaning bytes sigma n ≡ n ∷ []
itself bytes sigma n e =
    ap (λ o. numbers (or_itself (symbol_of bytes n) o)) e ∙ append-nil (number_in (symbol_of bytes n)) ∙ number_if (is_variable_of bytes n) n

among_if : (vs : List ℕ) (n : ℕ) (b : Bool) → (b ≡ true → list_any (λ v. n == v) vs ≡ false) → is_among vs (if b then Var n else Const n) ≡ false
among_if vs n true h = h refl
among_if vs n false h = refl

pub none_there : {A : Type 0} (o : Option A) → is_some o ≡ false → o ≡ None
none_there None h = refl
none_there (Some x) h = absurd (true≢false h)

-- a constant, and a variable that is no key, have no value
pub no_value : (bytes vs : List ℕ) (sigma : Pairs) → ((x : WSym) → is_some (value_at sigma x) ≡ is_among vs x) → (n : ℕ) → (is_variable_of bytes n ≡ true → list_any (λ v. n == v) vs ≡ false)
    → value_at sigma (symbol_of bytes n) ≡ None
no_value bytes vs sigma keys n h = none_there (value_at sigma (symbol_of bytes n)) (keys (symbol_of bytes n) ∙ among_if vs n (is_variable_of bytes n) h)

-- without keys nothing changes
pub unchanged : (sigma : Pairs) → ((x : WSym) → value_at sigma x ≡ None) → (s : List WSym) → applied sigma s ≡ s
unfolding applied
unchanged sigma none [] = refl
unchanged sigma none (x ∷ xs) = ap (λ o. or_itself x o ++ flat_map (value_of sigma) xs) (none x) ∙ ap (λ ys. x ∷ ys) (unchanged sigma none xs)

-- the test tells strings apart
pub same_string : (s t : List WSym) → pointwise is_same s t ≡ true → s ≡ t
same_string [] [] h = refl
same_string [] (y ∷ ys) h = absurd (false≢true h)
same_string (x ∷ xs) [] h = absurd (false≢true h)
same_string (x ∷ xs) (y ∷ ys) h =
    let b = and_parts (is_same x y) (pointwise is_same xs ys) h in
    ap (λ z. z ∷ xs) (is_same-true x y b.0) ∙ ap (λ zs. y ∷ zs) (same_string xs ys b.1)
