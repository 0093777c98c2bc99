-- Steps by their numbers.
use Rattle.std.specs.Prelude.{◌≡◌, ◌<◌, ℕ, ◌+◌, ◌==◌, Bool, false, List, [], ◌∷◌, ◌++◌, length, get_or, nat_eq, Option, None, Some, unwrap_or, ◌⊎◌, if◌then◌else◌}
use Rattle.std.specs.HashMap.{HashMap, get}
use Rattle.mm_proof.specs.Backs.{AreBacks}
use Rattle.mm_proof.specs.declared.written.Step.{Step}
use Rattle.mm_proof.specs.declared.written.Step.TheVariants.{Label, Unknown, Back}
use Rattle.mm_proof.specs.declared.spelling.Spelt.{Spelt}
use Rattle.mm_proof.specs.Spelling.{spelled, with_tag, number_of, tags_then, is_named, is_among, used, place_in}

-- the letters of one step
abbrev pub spell : Spelt → List ℕ
spell s = spelled s.number ++ with_tag s.tag

-- the numbers of steps, of which the first has the place i
unfoldable pub numbers_from : List ℕ → (ℕ → Bool) → ℕ → List ℕ → List Step → List Spelt
numbers_from labels tagged i tags [] = []
numbers_from labels tagged i tags (s ∷ ss) =
    record { number = number_of labels tags s; tag = tagged i } ∷ numbers_from labels tagged (i + 1) (tags_then (tagged i) tags i) ss

abbrev pub numbers_of : List ℕ → List Step → List Spelt
numbers_of labels steps = numbers_from labels (is_named steps) 0 [] steps

pub record Names (steps : List Step) (named : List Bool) : Type 0 where
  pub count : length named ≡ length steps
  pub is : (k : ℕ) → k < length steps → get_or named k false ≡ is_named steps k

-- the number that a table has for a label
abbrev pub number_in : {S : Type 0} → HashMap ℕ ℕ S → ℕ → Option ℕ
number_in table l = get nat_eq table l

-- the number of a step by tables of numbers, 0 where they have none
abbrev pub number_by : (ℕ → Option ℕ) → List ℕ → Step → ℕ
number_by known tags (Label l) = unwrap_or (known l) 0
number_by known tags Unknown = 0
number_by known tags (Back k) = get_or tags k 0

-- a table has the numbers of the labels of steps
abbrev pub HasNumbers : (ℕ → Option ℕ) → List ℕ → List Step → Type 0
HasNumbers known labels [] = Unit {0}
HasNumbers known labels (Label l ∷ ss) = (unwrap_or (known l) 0 ≡ place_in labels l + 1) × HasNumbers known labels ss
HasNumbers known labels (Unknown ∷ ss) = HasNumbers known labels ss
HasNumbers known labels (Back k ∷ ss) = HasNumbers known labels ss

abbrev pub Numbers : (ℕ → Option ℕ) → ℕ → List Step → List Spelt → Type 0
Numbers known count steps out = (labels : List ℕ) → length labels ≡ count → HasNumbers known labels steps → AreBacks [] steps → out ≡ numbers_of labels steps

-- whether a step is a back reference to a place
abbrev pub names : Step → ℕ → Bool
names (Label l) k = false
names Unknown k = false
names (Back j) k = j == k

-- a table has the number of each label of a list, and none for any other
abbrev pub IsTable : (ℕ → Option ℕ) → List ℕ → Type 0
IsTable known labels = (l : ℕ) → known l ≡ (if is_among labels l then Some (place_in labels l + 1) else None)

-- the list of labels so far, and the table of all that have a number
pub record Lists (own : List ℕ) (after : ℕ → Option ℕ) (list : List ℕ) (steps : List Step) : Type 0 where
  pub list_is : list ≡ used own [] steps
  pub table : IsTable after (own ++ list)

-- one step more: its label is listed, if it has no number yet
pub record AddsNew (own : ℕ) (before after : ℕ → Option ℕ) (list longer : List ℕ) (l : ℕ) : Type 0 where
  pub new : before l ≡ None
  pub list_is : longer ≡ list ++ l ∷ []
  pub table_is : (m : ℕ) → after m ≡ (if l == m then Some (own + (length list + 1)) else before m)

pub record AddsNone (before after : ℕ → Option ℕ) (list longer : List ℕ) : Type 0 where
  pub list_is : longer ≡ list
  pub table_is : (m : ℕ) → after m ≡ before m

abbrev pub Adds : ℕ → (ℕ → Option ℕ) → (ℕ → Option ℕ) → List ℕ → List ℕ → Step → Type 0
Adds own before after list longer (Label l) = AddsNew own before after list longer l ⊎ (AddsNone before after list longer × (before l ≡ None → ⊥))
Adds own before after list longer Unknown = AddsNone before after list longer
Adds own before after list longer (Back k) = AddsNone before after list longer

-- a label has a number from now on, if it had none
pub record GivesNew (before after : ℕ → Option ℕ) (l n : ℕ) : Type 0 where
  pub new : before l ≡ None
  pub table_is : (m : ℕ) → after m ≡ (if l == m then Some n else before m)

pub record GivesNone (before after : ℕ → Option ℕ) (l : ℕ) : Type 0 where
  pub old : before l ≡ None → ⊥
  pub table_is : (m : ℕ) → after m ≡ before m

abbrev pub Gives : (ℕ → Option ℕ) → (ℕ → Option ℕ) → ℕ → ℕ → Type 0
Gives before after l n = GivesNew before after l n ⊎ GivesNone before after l
