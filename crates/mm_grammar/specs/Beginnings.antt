-- The beginning of a statement: so many of its tokens, and what the language asks of it by then.
use Rattle.std.specs.Prelude.{◌≡◌, ◌≤◌, ◌<◌, ℕ, List, [], ◌∷◌, ◌++◌, Option, None, Some, All, length, map, flat_map, reverse, slice_index, codes}
use Rattle.mm_scope.specs.Events.{Event, symbols, open_blocks}
use Rattle.mm_scope.specs.Events as event
use Rattle.mm_scope.specs.Laws.{IsConstant, IsInScope}
use Rattle.mm_scope.specs.Steps.{most_symbols}
use Rattle.mm_grammar.specs.Phrases.{Noted, Symbol, Phrase, places, numbers, tokens, symbols_in, text_at, Reads, IsPlain, IsLabel, AreEnough, IsForm, IsSymbol}
use Rattle.mm_grammar.specs.Readable.{past_of}
use Rattle.mm_grammar.specs.Rules.{HasFloat, IsTyped, Differ, IsNewLabel, FollowsRules}

-- Between statements there is nothing of one. A label may stand alone; else the keyword has been read, and so many
-- symbols; of a theorem that goes on also the `$=` and so many tokens of the proof.
pub data Beginning : Type 0 where
  nothing : Beginning
  label : Noted → Beginning
  constants : Noted → List Symbol → Beginning
  variables : Noted → List Symbol → Beginning
  distinct : Noted → List Symbol → Beginning
  float : Noted → Noted → List Symbol → Beginning
  essential : Noted → Noted → List Symbol → Beginning
  asserted : Noted → Noted → List Symbol → Beginning
  theorem : Noted → Noted → List Symbol → Beginning
  proof : Noted → Noted → List Symbol → Noted → List Noted → Beginning

-- its tokens, in order
abbrev pub tokens_begun : Beginning → List Noted
tokens_begun nothing = []
tokens_begun (label l) = l ∷ []
tokens_begun (constants k ss) = k ∷ places ss
tokens_begun (variables k ss) = k ∷ places ss
tokens_begun (distinct k ss) = k ∷ places ss
tokens_begun (float l k ss) = l ∷ (k ∷ places ss)
tokens_begun (essential l k ss) = l ∷ (k ∷ places ss)
tokens_begun (asserted l k ss) = l ∷ (k ∷ places ss)
tokens_begun (theorem l k ss) = l ∷ (k ∷ places ss)
tokens_begun (proof l k ss q ts) = (l ∷ (k ∷ places ss)) ++ q ∷ ts

abbrev pub symbols_begun : Beginning → List Symbol
symbols_begun nothing = []
symbols_begun (label l) = []
symbols_begun (constants k ss) = ss
symbols_begun (variables k ss) = ss
symbols_begun (distinct k ss) = ss
symbols_begun (float l k ss) = ss
symbols_begun (essential l k ss) = ss
symbols_begun (asserted l k ss) = ss
symbols_begun (theorem l k ss) = ss
symbols_begun (proof l k ss q ts) = ss

-- where its keyword stands, or the label that stands alone
abbrev pub place_begun : Beginning → Option ℕ
place_begun nothing = None
place_begun (label l) = Some l.token.start
place_begun (constants k ss) = Some k.token.start
place_begun (variables k ss) = Some k.token.start
place_begun (distinct k ss) = Some k.token.start
place_begun (float l k ss) = Some k.token.start
place_begun (essential l k ss) = Some k.token.start
place_begun (asserted l k ss) = Some k.token.start
place_begun (theorem l k ss) = Some k.token.start
place_begun (proof l k ss q ts) = Some k.token.start

-- what it says already: `$c` and `$v` declare each symbol at once
abbrev pub events_begun : List ℕ → Beginning → List Event
events_begun bytes (constants k ss) = map (λ s. event.constant (text_at bytes s.place) s.number) ss
events_begun bytes (variables k ss) = map (λ s. event.variable (text_at bytes s.place) s.number) ss
events_begun bytes _ = []

-- what statements and the beginning of one say, the newest first
abbrev pub past_begun : List ℕ → List Phrase → Beginning → List Event
past_begun bytes phrases b = reverse (events_begun bytes b) ++ past_of bytes phrases

-- it has its label and its keyword, and not too many symbols
abbrev pub IsFormBegun : List ℕ → Beginning → Type 0
IsFormBegun bytes nothing = Unit {0}
IsFormBegun bytes (label l) = IsLabel bytes l
IsFormBegun bytes (constants k ss) = Reads bytes k (codes "$c") × (length ss ≤ most_symbols)
IsFormBegun bytes (variables k ss) = Reads bytes k (codes "$v") × (length ss ≤ most_symbols)
IsFormBegun bytes (distinct k ss) = Reads bytes k (codes "$d") × (length ss ≤ most_symbols)
IsFormBegun bytes (float l k ss) = IsLabel bytes l × Reads bytes k (codes "$f") × (length ss ≤ 2)
IsFormBegun bytes (essential l k ss) = IsLabel bytes l × Reads bytes k (codes "$e") × (length ss ≤ most_symbols)
IsFormBegun bytes (asserted l k ss) = IsLabel bytes l × Reads bytes k (codes "$a") × (length ss ≤ most_symbols)
IsFormBegun bytes (theorem l k ss) = IsLabel bytes l × Reads bytes k (codes "$p") × (length ss ≤ most_symbols)
IsFormBegun bytes (proof l k ss q ts) = IsLabel bytes l × Reads bytes k (codes "$p") × AreEnough 1 ss × Reads bytes q (codes "$=") × All (IsPlain bytes) ts

-- what a `$f` states so far
pub record IsTypingBegun (past : List Event) (ss : List ℕ) : Type 0 where
  pub few : length ss ≤ 2
  pub typecode : 0 < length ss → IsConstant past (slice_index ss 0)
  pub variable : 1 < length ss → IsInScope past (slice_index ss 1)
  pub free : 1 < length ss → ¬ HasFloat past (slice_index ss 1)

-- what a `$e`, `$a` or `$p` states so far
pub record IsExpressionBegun (past : List Event) (ss : List ℕ) : Type 0 where
  pub typecode : 0 < length ss → IsConstant past (slice_index ss 0)
  pub typed : All (IsTyped past) ss

-- what a `$d` states so far
pub record IsPartingBegun (past : List Event) (ss : List ℕ) : Type 0 where
  pub variables : All (IsInScope past) ss
  pub differ : Differ ss

-- what the language asks of it so far; the symbols that a `$c` or `$v` has declared stand in the past, and it is asked of them there
abbrev pub IsAskedBegun : List ℕ → List Event → Beginning → Type 0
IsAskedBegun bytes past nothing = Unit {0}
IsAskedBegun bytes past (label l) = IsNewLabel past (text_at bytes l)
IsAskedBegun bytes past (constants k ss) = open_blocks past ≡ []
IsAskedBegun bytes past (variables k ss) = Unit {0}
IsAskedBegun bytes past (distinct k ss) = IsPartingBegun past (numbers ss)
IsAskedBegun bytes past (float l k ss) = IsNewLabel past (text_at bytes l) × IsTypingBegun past (numbers ss)
IsAskedBegun bytes past (essential l k ss) = IsNewLabel past (text_at bytes l) × IsExpressionBegun past (numbers ss)
IsAskedBegun bytes past (asserted l k ss) = IsNewLabel past (text_at bytes l) × IsExpressionBegun past (numbers ss)
IsAskedBegun bytes past (theorem l k ss) = IsNewLabel past (text_at bytes l) × IsExpressionBegun past (numbers ss)
IsAskedBegun bytes past (proof l k ss q ts) = IsNewLabel past (text_at bytes l) × IsExpressionBegun past (numbers ss)

-- The tokens are those of statements, in order, and of the beginning of one. Each statement has one of the forms, with
-- the symbols declared so far by their numbers, and is as the language asks, given those before it; and so it is of the
-- beginning, so far.
pub record IsFitting (bytes : List ℕ) (read : List Noted) (phrases : List Phrase) (b : Beginning) : Type 0 where
  pub whole : read ≡ flat_map tokens phrases ++ tokens_begun b
  pub formed : All (IsForm bytes) phrases
  pub form_begun : IsFormBegun bytes b
  pub named : All (λ p. All (IsSymbol bytes (symbols (past_begun bytes phrases b))) (symbols_in p)) phrases
  pub named_begun : All (IsSymbol bytes (symbols (past_begun bytes phrases b))) (symbols_begun b)
  pub asked : FollowsRules (past_begun bytes phrases b)
  pub asked_begun : IsAskedBegun bytes (past_begun bytes phrases b) b
