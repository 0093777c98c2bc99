-- Options, and the first of a list that passes.
use Rattle.std.specs.Prelude.{List, [], ◌∷◌, Option, Some, None, Bool, true, false, cond}

abbrev pub is_there : {A : Type 0} → Option A → Bool
is_there None = false
is_there (Some _) = true

-- the first of two options that is there
abbrev pub or_else : {A : Type 0} → Option A → Option A → Option A
or_else None b = b
or_else (Some a) b = Some a

abbrev pub on : {A B : Type 0} → (A → B) → Option A → Option B
on f None = None
on f (Some a) = Some (f a)

-- the first of a list that passes
abbrev pub first : {A : Type 0} → (A → Bool) → List A → Option A
first p [] = None
first p (x ∷ xs) = cond (p x) (Some x) (first p xs)

-- the first option of a list that is there
abbrev pub first_there : {A : Type 0} → List (Option A) → Option A
first_there [] = None
first_there (o ∷ os) = or_else o (first_there os)

-- what all options of a list have; None where one has nothing
abbrev pub all_there : {A : Type 0} → List (Option A) → Option (List A)
all_there [] = Some []
all_there (None ∷ os) = None
all_there (Some a ∷ os) = on (λ xs. a ∷ xs) (all_there os)
