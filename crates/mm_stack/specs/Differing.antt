-- Which variables an assertion puts together that must differ (Metamath book, section 4.2.2).
use Rattle.std.specs.Prelude.{ℕ, ◌==◌, List, [], ◌∷◌, filter, if◌then◌else◌}
use Rattle.std.specs.List.{flat_map}
use Rattle.mm_tables.specs.Distinct.{are_distinct}
use Rattle.mm_scope.specs.Contents.{is_variable_of}
use Rattle.mm_stack.specs.declared.outcome.StackFault.{StackFault}
use Rattle.mm_stack.specs.declared.outcome.StackFault.TheVariants.{SameVariable, MissingDistinct}

-- the variables among symbols, in order
abbrev pub variables_in : List ℕ → List ℕ → List ℕ
variables_in bytes symbols = filter (is_variable_of bytes) symbols

-- the fault of two variables that must differ at step k, if there is one: they are one, or no group holds both
abbrev pub fault_of : List (List ℕ) → ℕ → ℕ → ℕ → List StackFault
fault_of groups k u v =
    if u == v then SameVariable k (record { 0 = u }) ∷ []
    else (if are_distinct groups u v then [] else MissingDistinct k (record { 0 = u }) (record { 0 = v }) ∷ [])

-- the faults of a variable with each variable of a value, in order
abbrev pub faults_with : List ℕ → List (List ℕ) → ℕ → List ℕ → ℕ → List StackFault
faults_with bytes groups k right u = flat_map (fault_of groups k u) (variables_in bytes right)

-- the faults of each variable of one value with each of another, in order
abbrev pub faults_between : List ℕ → List (List ℕ) → ℕ → List ℕ → List ℕ → List StackFault
faults_between bytes groups k left right = flat_map (faults_with bytes groups k right) (variables_in bytes left)

-- The faults of an assertion with these pairs of variables, in order, where symbols stand for these values. A variable
-- that occurs again in a value adds faults that were there, so the first fault is that by first occurrence.
abbrev pub violations : List ℕ → List (List ℕ) → ℕ → (ℕ → List ℕ) → List (ℕ × ℕ) → List StackFault
violations bytes groups k value pairs = flat_map (λ p. faults_between bytes groups k (value p.0) (value p.1)) pairs
