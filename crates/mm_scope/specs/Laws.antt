-- What holds of each database that is read.
use Rattle.std.specs.Prelude.{◌≡◌, ◌≤◌, ◌==◌, ℕ, false, suc, ◌⊎◌, List, [], ◌∷◌, ◌++◌, All, Some, slice_get}
use Rattle.std.specs.List.{list_any}
use Rattle.std.specs.Str.{bytes_eq}
use Rattle.mm_stated.specs.Mandatory.{mandatory_of, variables_of}
use Rattle.mm_scope.specs.Events.{Event, constant, variable, float, essential, asserted, theorem, distinct, opened, closed, symbols, labels, statements, active_hypotheses}

-- how many blocks begin, and how many end
unfoldable pub openings : List Event → ℕ
openings [] = 0
openings (opened p ∷ es) = suc (openings es)
openings (_ ∷ es) = openings es

unfoldable pub closings : List Event → ℕ
closings [] = 0
closings (closed ∷ es) = suc (closings es)
closings (_ ∷ es) = closings es

-- no block that was open before these events, the newest first, ends among them
abbrev pub NoneEnds : List Event → Type 0
NoneEnds [] = Unit {0}
NoneEnds (e ∷ es) = (closings (e ∷ es) ≤ openings (e ∷ es)) × NoneEnds es

-- the symbol was declared as a constant
pub record IsConstant (past : List Event) (n : ℕ) : Type 0 where
  pub text : List ℕ
  pub later : List Event
  pub earlier : List Event
  pub whole : past ≡ later ++ constant text n ∷ earlier

-- the symbol was declared as a variable, and no block in which that stands has ended
pub record IsInScope (past : List Event) (n : ℕ) : Type 0 where
  pub text : List ℕ
  pub later : List Event
  pub earlier : List Event
  pub whole : past ≡ later ++ variable text n ∷ earlier
  pub stays : NoneEnds later

abbrev pub IsActive : List Event → ℕ → Type 0
IsActive past n = IsConstant past n ⊎ IsInScope past n

-- where a statement stands, each of its symbols is active
abbrev pub SymbolsAreActive : List Event → Type 0
SymbolsAreActive [] = Unit {0}
SymbolsAreActive (float l ss d ∷ past) = All (IsActive past) ss × SymbolsAreActive past
SymbolsAreActive (essential l ss d ∷ past) = All (IsActive past) ss × SymbolsAreActive past
SymbolsAreActive (asserted l ss d ∷ past) = All (IsActive past) ss × SymbolsAreActive past
SymbolsAreActive (theorem l ss from to d ∷ past) = All (IsActive past) ss × SymbolsAreActive past
SymbolsAreActive (distinct ss ∷ past) = All (IsActive past) ss × SymbolsAreActive past
SymbolsAreActive (_ ∷ past) = SymbolsAreActive past

-- each declaration carries the place of its text among all texts
abbrev pub SymbolsAreNumbered : List (List ℕ) → List Event → Type 0
SymbolsAreNumbered all [] = Unit {0}
SymbolsAreNumbered all (constant t n ∷ past) = (slice_get all n ≡ Some t) × SymbolsAreNumbered all past
SymbolsAreNumbered all (variable t n ∷ past) = (slice_get all n ≡ Some t) × SymbolsAreNumbered all past
SymbolsAreNumbered all (_ ∷ past) = SymbolsAreNumbered all past

abbrev pub Laws : List Event → Type 0
Laws past = SymbolsAreActive past × SymbolsAreNumbered (symbols past) past

-- no labelled statement has the label of an earlier one
abbrev pub LabelsDiffer : List Event → Type 0
LabelsDiffer [] = Unit {0}
LabelsDiffer (float l ss d ∷ past) = (list_any (bytes_eq l) (labels past) ≡ false) × LabelsDiffer past
LabelsDiffer (essential l ss d ∷ past) = (list_any (bytes_eq l) (labels past) ≡ false) × LabelsDiffer past
LabelsDiffer (asserted l ss d ∷ past) = (list_any (bytes_eq l) (labels past) ≡ false) × LabelsDiffer past
LabelsDiffer (theorem l ss from to d ∷ past) = (list_any (bytes_eq l) (labels past) ≡ false) × LabelsDiffer past
LabelsDiffer (_ ∷ past) = LabelsDiffer past

-- no number comes twice
abbrev pub AllDiffer : List ℕ → Type 0
AllDiffer [] = Unit {0}
AllDiffer (n ∷ ns) = (list_any (λ m. n == m) ns ≡ false) × AllDiffer ns

-- of no assertion with these symbols, where these statements were read, is a variable mandatory by two `$f`
abbrev pub HasOneFloatEach : List Event → List ℕ → Type 0
HasOneFloatEach past ss = AllDiffer (variables_of (statements past) (mandatory_of (statements past) (active_hypotheses past) ss))

-- the mandatory variables of each assertion differ
abbrev pub VariablesDiffer : List Event → Type 0
VariablesDiffer [] = Unit {0}
VariablesDiffer (asserted l ss d ∷ past) = HasOneFloatEach past ss × VariablesDiffer past
VariablesDiffer (theorem l ss from to d ∷ past) = HasOneFloatEach past ss × VariablesDiffer past
VariablesDiffer (_ ∷ past) = VariablesDiffer past
