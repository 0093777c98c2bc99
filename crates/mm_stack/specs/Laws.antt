-- What an assertion does to the stack, in the words of substitutions.
use Rattle.std.specs.Prelude.{◌≡◌, ℕ, true, false, ◌==◌, List, [], ◌∷◌, ◌++◌, length, map, slice_index, All, if◌then◌else◌}
use Rattle.std.specs.List.{list_any}
use Rattle.mm_stated.specs.Stated.{Stated}
use Rattle.mm_scope.specs.Contents.{stated_at}
use Rattle.mm_tables.specs.Distinct.{are_distinct}
use Rattle.mm_stack.specs.Differing.{variables_in}
use Rattle.mm_stack.specs.Running.{is_float, substitution_at}
use Rattle.mm_stack.specs.Substitution.{Binding, value_of, instance}

-- the variables of the `$f` among hypotheses
abbrev pub variables_of : List Stated → List ℕ
variables_of [] = []
variables_of (h ∷ hs) = if is_float h.kind then slice_index h.symbols 1 ∷ variables_of hs else variables_of hs

-- a `$f` with later hypotheses: it has a typecode, which is none of these variables, and a variable, which no later one has
pub record IsApart (vs : List ℕ) (h : Stated) (hs : List Stated) : Type 0 where
  pub pair : length h.symbols ≡ 2
  pub typecode : list_any (λ v. slice_index h.symbols 0 == v) vs ≡ false
  pub variable : list_any (λ v. slice_index h.symbols 1 == v) (variables_of hs) ≡ false

abbrev pub AreApart : List ℕ → List Stated → Type 0
AreApart vs [] = Unit {0}
AreApart vs (h ∷ hs) = (is_float h.kind ≡ true → IsApart vs h hs) × AreApart vs hs

-- the mandatory hypotheses of an assertion
abbrev pub hypotheses_of : List ℕ → Stated → List Stated
hypotheses_of bytes a = map (stated_at bytes) a.mandatory

-- each variable of the one string differs from each of the other, and some group holds both
abbrev pub AreDifferent : List ℕ → List (List ℕ) → List ℕ → List ℕ → Type 0
AreDifferent bytes groups s t = All (λ u. All (λ v. are_distinct groups u v ≡ true) (variables_in bytes t)) (variables_in bytes s)

-- One substitution makes the newest entries of a stack from the mandatory hypotheses of an assertion, and the one entry
-- of the next stack in their place from its symbols. It gives a value to each variable of the mandatory `$f`, in their
-- order, and to nothing else: the entry of that `$f` without its typecode. The values of two variables of a mandatory
-- pair have no variable in common, and any two of theirs stand in a group.
pub record Substitutes (bytes : List ℕ) (groups : List (List ℕ)) (a : Stated) (stack next : List (List ℕ)) : Type 0 where
  pub sigma : List Binding
  pub left : List (List ℕ)
  pub keys : map (λ b. b.variable) sigma ≡ variables_of (hypotheses_of bytes a)
  pub own : sigma ≡ substitution_at bytes a stack
  pub before : stack ≡ left ++ map (λ h. instance (value_of sigma) h.symbols) (hypotheses_of bytes a)
  pub after : next ≡ left ++ instance (value_of sigma) a.symbols ∷ []
  pub distinct : All (λ p. AreDifferent bytes groups (value_of sigma p.0) (value_of sigma p.1)) a.pairs
