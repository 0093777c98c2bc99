-- What the language asks of each declaration and each statement, given what stands before it (Metamath book, sections
-- 4.1.3 and 4.2). A past has the newest first.
use Rattle.std.specs.Prelude.{◌≡◌, ◌≢◌, ◌≤◌, ◌<◌, ℕ, false, List, [], ◌∷◌, ◌++◌, Option, Some, ◌⊎◌, All, length, slice_get, slice_index}
use Rattle.std.specs.List.{list_any}
use Rattle.std.specs.Str.{bytes_eq}
use Rattle.mm_tokens.specs.declared.pieces.Span.{Span}
use Rattle.mm_tables.specs.Texts.{with_text}
use Rattle.mm_tokens.specs.Words.{is_bad_symbol}
use Rattle.mm_scope.specs.Events.{Event, constant, variable, float, essential, asserted, theorem, distinct, opened, closed, symbols, labels, open_blocks}
use Rattle.mm_scope.specs.Laws.{NoneEnds, IsConstant, IsInScope, IsActive}

-- the text is none of these
abbrev pub IsNew : List (List ℕ) → List ℕ → Type 0
IsNew texts t = list_any (bytes_eq t) texts ≡ false

-- the symbol is the variable of a `$f`, and no block in which that stands has ended
pub record HasFloat (past : List Event) (n : ℕ) : Type 0 where
  pub label : List ℕ
  pub stated : List ℕ
  pub described : Option Span
  pub later : List Event
  pub earlier : List Event
  pub whole : past ≡ later ++ float label stated described ∷ earlier
  pub second : slice_index stated 1 ≡ n
  pub stays : NoneEnds later

-- a constant, or an active variable that has an active `$f`
abbrev pub IsTyped : List Event → ℕ → Type 0
IsTyped past n = IsConstant past n ⊎ (IsInScope past n × HasFloat past n)

-- no two are the same
abbrev pub Differ : List ℕ → Type 0
Differ ss = (i j : ℕ) → i < j → j < length ss → slice_index ss i ≢ slice_index ss j

-- a constant that is declared: no earlier symbol has its text, and no label, and no block is open
pub record IsNewConstant (past : List Event) (t : List ℕ) (n : ℕ) : Type 0 where
  pub fit : is_bad_symbol t ≡ false
  pub outermost : open_blocks past ≡ []
  pub symbol : IsNew (symbols past) t
  pub label : IsNew (labels past) t
  pub named : slice_get (with_text (symbols past) t) n ≡ Some t

-- a variable that is declared: it is not active, and no label has its text
pub record IsNewVariable (past : List Event) (t : List ℕ) (n : ℕ) : Type 0 where
  pub fit : is_bad_symbol t ≡ false
  pub inactive : ¬ IsActive past n
  pub label : IsNew (labels past) t
  pub named : slice_get (with_text (symbols past) t) n ≡ Some t

-- a label: no earlier statement has it, and no symbol
pub record IsNewLabel (past : List Event) (l : List ℕ) : Type 0 where
  pub label : IsNew (labels past) l
  pub symbol : IsNew (symbols past) l

-- what `$f` states: a constant and a variable that has no active `$f` yet
pub record IsTyping (past : List Event) (ss : List ℕ) : Type 0 where
  pub two : length ss ≡ 2
  pub typecode : IsConstant past (slice_index ss 0)
  pub variable : IsInScope past (slice_index ss 1)
  pub free : ¬ HasFloat past (slice_index ss 1)

-- what `$e`, `$a` and `$p` state: a constant, and then constants and variables that have their `$f`
pub record IsExpression (past : List Event) (ss : List ℕ) : Type 0 where
  pub some : 0 < length ss
  pub typecode : IsConstant past (slice_index ss 0)
  pub typed : All (IsTyped past) ss

-- what `$d` states: two or more variables that differ
pub record IsParting (past : List Event) (ss : List ℕ) : Type 0 where
  pub two : 2 ≤ length ss
  pub variables : All (IsInScope past) ss
  pub differ : Differ ss

abbrev pub IsAsked : List Event → Event → Type 0
IsAsked past (constant t n) = IsNewConstant past t n
IsAsked past (variable t n) = IsNewVariable past t n
IsAsked past (float l ss d) = IsNewLabel past l × IsTyping past ss
IsAsked past (essential l ss d) = IsNewLabel past l × IsExpression past ss
IsAsked past (asserted l ss d) = IsNewLabel past l × IsExpression past ss
IsAsked past (theorem l ss from to d) = IsNewLabel past l × IsExpression past ss
IsAsked past (distinct ss) = IsParting past ss
IsAsked past (opened p) = Unit {0}
IsAsked past closed = 0 < length (open_blocks past)

-- each is as it is asked
abbrev pub FollowsRules : List Event → Type 0
FollowsRules [] = Unit {0}
FollowsRules (e ∷ past) = IsAsked past e × FollowsRules past
