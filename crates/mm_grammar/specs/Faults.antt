-- The faults of a file: the token at which each shows, and its cause there, given the statements before it.
use Rattle.std.specs.Prelude.{◌≡◌, ◌≢◌, ◌≤◌, ◌<◌, ℕ, true, false, ◌==◌, List, [], ◌∷◌, ◌++◌, None, Some, ◌⊎◌, length, position, slice_get, slice_index, codes}
use Rattle.std.specs.List.{list_any}
use Rattle.std.specs.Str.{bytes_eq}
use Rattle.mm_tokens.specs.Bytes.{is_bad}
use Rattle.mm_tokens.specs.Pieces.{pieces_of, open_in}
use Rattle.mm_tokens.specs.Words.{is_bad_label, is_bad_symbol}
use Rattle.mm_scope.specs.Events.{Event, symbols, labels, open_blocks}
use Rattle.mm_scope.specs.Faults.{number_of, place_of}
use Rattle.mm_scope.specs.Judged.{most_bytes, judged, clean}
use Rattle.mm_scope.specs.Laws.{IsConstant, IsInScope}
use Rattle.mm_scope.specs.Steps.{most_symbols}
use Rattle.mm_scope.specs.declared.fault.ReadFault.{ReadFault}
use Rattle.mm_scope.specs.declared.fault.ReadFault.TheVariants as fault
use Rattle.mm_grammar.specs.Phrases.{Noted, Symbol, Phrase, numbers, noted_from, text_at, Reads, IsPlain}
use Rattle.mm_grammar.specs.Rules.{HasFloat}
use Rattle.mm_grammar.specs.Beginnings.{Beginning, nothing, label, constants, variables, distinct, float, essential, asserted, theorem, proof, symbols_begun, place_begun, past_begun, IsFitting}

-- the keywords that begin a statement without a label, or begin or end a block
abbrev pub unlabelled_keywords : List (List ℕ)
unlabelled_keywords = codes "$c" ∷ (codes "$v" ∷ (codes "$d" ∷ (codes "${" ∷ (codes "$}" ∷ []))))

-- the keywords that come after a label
abbrev pub labelled_keywords : List (List ℕ)
labelled_keywords = codes "$f" ∷ (codes "$e" ∷ (codes "$a" ∷ (codes "$p" ∷ [])))

abbrev pub inner_keywords : List (List ℕ)
inner_keywords = codes "$=" ∷ (codes "$." ∷ [])

abbrev pub keywords : List (List ℕ)
keywords = unlabelled_keywords ++ (labelled_keywords ++ inner_keywords)

-- they would include a file
abbrev pub inclusions : List (List ℕ)
inclusions = codes "$[" ∷ (codes "$]" ∷ [])

-- the text is one of these
abbrev pub IsAmong : List (List ℕ) → List ℕ → Type 0
IsAmong texts t = list_any (bytes_eq t) texts ≡ true

-- the text is that of a symbol of which this holds
pub record IsTextOf (past : List Event) (holds : ℕ → Type 0) (t : List ℕ) : Type 0 where
  pub number : ℕ
  pub named : slice_get (symbols past) number ≡ Some t
  pub is : holds number

abbrev pub IsConstantText : List Event → List ℕ → Type 0
IsConstantText past t = IsTextOf past (IsConstant past) t

-- an active variable
abbrev pub IsVariableText : List Event → List ℕ → Type 0
IsVariableText past t = IsTextOf past (IsInScope past) t

-- a variable that has an active `$f`
abbrev pub IsFloatedText : List Event → List ℕ → Type 0
IsFloatedText past t = IsTextOf past (HasFloat past) t

-- an active symbol
abbrev pub IsActiveText : List Event → List ℕ → Type 0
IsActiveText past t = IsConstantText past t ⊎ IsVariableText past t

-- a statement may begin with its label
abbrev pub TakesLabel : Beginning → Type 0
TakesLabel nothing = Unit {0}
TakesLabel _ = ⊥

abbrev pub AfterLabel : Beginning → Type 0
AfterLabel (label l) = Unit {0}
AfterLabel _ = ⊥

-- no keyword of a statement has been read: one may begin
abbrev pub TakesKeyword : Beginning → Type 0
TakesKeyword nothing = Unit {0}
TakesKeyword (label l) = Unit {0}
TakesKeyword _ = ⊥

-- in a `$c` or `$v`
abbrev pub InDeclaration : Beginning → Type 0
InDeclaration (constants k ss) = Unit {0}
InDeclaration (variables k ss) = Unit {0}
InDeclaration _ = ⊥

-- in a `$e`, a `$a`, or a `$p` before the `$=`
abbrev pub InExpression : Beginning → Type 0
InExpression (essential l k ss) = Unit {0}
InExpression (asserted l k ss) = Unit {0}
InExpression (theorem l k ss) = Unit {0}
InExpression _ = ⊥

-- where active symbols stand: in a `$d`, `$f`, `$e`, `$a`, or a `$p` before the `$=`
abbrev pub TakesActive : Beginning → Type 0
TakesActive (distinct k ss) = Unit {0}
TakesActive (float l k ss) = Unit {0}
TakesActive b = InExpression b

-- A constant has the text of no symbol ever declared, a variable that of no constant and no active variable, and neither
-- has that of a label.
abbrev pub IsRedeclared : List Event → Beginning → List ℕ → Type 0
IsRedeclared past (constants k ss) t = IsAmong (symbols past) t ⊎ IsAmong (labels past) t
IsRedeclared past (variables k ss) t = IsActiveText past t ⊎ IsAmong (labels past) t
IsRedeclared past _ t = ⊥

-- a keyword other than the one that fits
abbrev pub IsOther : List ℕ → List ℕ → Type 0
IsOther fitting t = IsAmong keywords t × (t ≢ fitting)

-- in a `$f` a variable first, a constant second, or a third symbol
abbrev pub IsWrongInFloat : List Event → List Symbol → List ℕ → Type 0
IsWrongInFloat past ss t = ((length ss ≡ 0) × IsVariableText past t) ⊎ (((length ss ≡ 1) × IsConstantText past t) ⊎ (1 < length ss))

-- Where no keyword stands, a `$=` or a `$.`, and a second label; after a keyword a keyword other than the one that fits,
-- or that one too early; and a variable where a constant is to stand, a constant for a variable, a symbol too many.
abbrev pub IsMisplaced : List ℕ → List Event → Beginning → Noted → Type 0
IsMisplaced bytes past nothing n = IsAmong inner_keywords (text_at bytes n)
IsMisplaced bytes past (label l) n = IsPlain bytes n ⊎ IsAmong inner_keywords (text_at bytes n)
IsMisplaced bytes past (constants k ss) n = IsOther (codes "$.") (text_at bytes n) ⊎ (Reads bytes n (codes "$.") × (length ss ≡ 0))
IsMisplaced bytes past (variables k ss) n = IsOther (codes "$.") (text_at bytes n) ⊎ (Reads bytes n (codes "$.") × (length ss ≡ 0))
IsMisplaced bytes past (distinct k ss) n = IsOther (codes "$.") (text_at bytes n)
IsMisplaced bytes past (float l k ss) n =
    IsOther (codes "$.") (text_at bytes n) ⊎ ((Reads bytes n (codes "$.") × (length ss ≢ 2)) ⊎ (IsPlain bytes n × IsWrongInFloat past ss (text_at bytes n)))
IsMisplaced bytes past (essential l k ss) n =
    IsOther (codes "$.") (text_at bytes n) ⊎ ((Reads bytes n (codes "$.") × (length ss ≡ 0)) ⊎ (IsPlain bytes n × ((length ss ≡ 0) × IsVariableText past (text_at bytes n))))
IsMisplaced bytes past (asserted l k ss) n =
    IsOther (codes "$.") (text_at bytes n) ⊎ ((Reads bytes n (codes "$.") × (length ss ≡ 0)) ⊎ (IsPlain bytes n × ((length ss ≡ 0) × IsVariableText past (text_at bytes n))))
IsMisplaced bytes past (theorem l k ss) n =
    IsOther (codes "$=") (text_at bytes n) ⊎ ((Reads bytes n (codes "$=") × (length ss ≡ 0)) ⊎ (IsPlain bytes n × ((length ss ≡ 0) × IsVariableText past (text_at bytes n))))
IsMisplaced bytes past (proof l k ss q ts) n = IsOther (codes "$.") (text_at bytes n)

-- the second symbol of a `$f` is a variable that has an active one
abbrev pub IsFloatRepeated : List Event → Beginning → List ℕ → Type 0
IsFloatRepeated past (float l k ss) t = (length ss ≡ 1) × IsFloatedText past t
IsFloatRepeated past _ t = ⊥

-- in a `$d` a constant, a variable that stands there already, or the `$.` after fewer than two
abbrev pub IsNoParting : List ℕ → List Event → Beginning → Noted → Type 0
IsNoParting bytes past (distinct k ss) n =
    (Reads bytes n (codes "$.") × (length ss < 2))
    ⊎ (IsPlain bytes n × (IsConstantText past (text_at bytes n) ⊎ IsTextOf past (λ v. IsInScope past v × (list_any (λ s. v == s) (numbers ss) ≡ true)) (text_at bytes n)))
IsNoParting bytes past _ n = ⊥

-- a label over 255 bytes, or a symbol where 32,768 stand already
abbrev pub IsTooLong : Beginning → List ℕ → Type 0
IsTooLong nothing t = 255 < length t
IsTooLong (label l) t = ⊥
IsTooLong (float l k ss) t = ⊥
IsTooLong (proof l k ss q ts) t = ⊥
IsTooLong b t = most_symbols ≤ length (symbols_begun b)

-- The token is the cause of a fault, after what the past says, where a statement is begun so far. The numbers are the
-- faults'; a plain token is no keyword. Those that show where all tokens are read have no such cause.
-- 4: it begins with `$`, and is no keyword, nor `$[` or `$]`. 5: it is one of these two.
-- 6: a label with a byte that none may have. 7: a declared symbol that holds `$`.
-- 8: a constant with the text of a symbol ever declared or of a label; a variable with that of an active symbol or a label.
-- 9: no active symbol where one is to stand. 10: a `$c` in a block. 11: a label with the text of a label or a symbol.
-- 12: `$f`, `$e`, `$a` or `$p` without a label. 13: a keyword that takes no label, after one.
-- 14: it doesn't fit the form. 15: a second `$f` of a variable. 16: a variable without `$f` in a `$e`, `$a` or `$p`.
-- 17: it doesn't fit a `$d`. 18: a `$}` with no open block. 21: a label or a statement too long.
abbrev pub IsCause : List ℕ → List Event → Beginning → Noted → ReadFault → Type 0
IsCause bytes past b n (fault.UnknownKeyword p) = (slice_index (text_at bytes n) 0 ≡ 36) × (¬ IsAmong (keywords ++ inclusions) (text_at bytes n))
IsCause bytes past b n (fault.FileInclusion p) = IsAmong inclusions (text_at bytes n)
IsCause bytes past b n (fault.BadLabel p) = IsPlain bytes n × (TakesLabel b × (is_bad_label (text_at bytes n) ≡ true))
IsCause bytes past b n (fault.BadSymbol p) = IsPlain bytes n × (InDeclaration b × (is_bad_symbol (text_at bytes n) ≡ true))
IsCause bytes past b n (fault.Redeclared p) = IsPlain bytes n × IsRedeclared past b (text_at bytes n)
IsCause bytes past b n (fault.NotActive p) = IsPlain bytes n × (TakesActive b × (¬ IsActiveText past (text_at bytes n)))
IsCause bytes past b n (fault.ConstantInBlock p) = Reads bytes n (codes "$c") × (TakesKeyword b × (0 < length (open_blocks past)))
IsCause bytes past b n (fault.LabelUsed p) = IsPlain bytes n × (TakesLabel b × (IsAmong (labels past) (text_at bytes n) ⊎ IsAmong (symbols past) (text_at bytes n)))
IsCause bytes past b n (fault.LabelMissing p) = IsAmong labelled_keywords (text_at bytes n) × TakesLabel b
IsCause bytes past b n (fault.LabelNotWanted p) = IsAmong unlabelled_keywords (text_at bytes n) × AfterLabel b
IsCause bytes past b n (fault.WrongForm p) = IsMisplaced bytes past b n
IsCause bytes past b n (fault.FloatRepeated p) = IsPlain bytes n × IsFloatRepeated past b (text_at bytes n)
IsCause bytes past b n (fault.NoFloat p) = IsPlain bytes n × (InExpression b × (IsVariableText past (text_at bytes n) × (¬ IsFloatedText past (text_at bytes n))))
IsCause bytes past b n (fault.DistinctForm p) = IsNoParting bytes past b n
IsCause bytes past b n (fault.BlockNotOpen p) = Reads bytes n (codes "$}") × (TakesKeyword b × (open_blocks past ≡ []))
IsCause bytes past b n (fault.TooLong p) = IsPlain bytes n × IsTooLong b (text_at bytes n)
IsCause bytes past b n _ = ⊥

-- A fault shows at a token. The tokens before it are those of statements, and of the beginning of one, that are as the
-- language asks, so none shows earlier; and no fault of a lower number has its cause there.
pub record ShowsAtToken (bytes : List ℕ) (f : ReadFault) : Type 0 where
  pub before : List Noted
  pub token : Noted
  pub later : List Noted
  pub stands : noted_from None (pieces_of bytes) ≡ before ++ token ∷ later
  pub phrases : List Phrase
  pub begun : Beginning
  pub fitting : IsFitting bytes before phrases begun
  pub place : place_of f ≡ token.token.start
  pub cause : IsCause bytes (past_begun bytes phrases begun) begun token f
  pub lowest : (g : ReadFault) → number_of g < number_of f → ¬ IsCause bytes (past_begun bytes phrases begun) begun token g

-- the first bad byte stands there, and not after the first byte that is too many
pub record IsFirstBad (bytes : List ℕ) (p : ℕ) : Type 0 where
  pub within : p < length bytes
  pub judged : p ≤ most_bytes
  pub bad : is_bad (slice_index bytes p) ≡ true
  pub first : (k : ℕ) → k < p → is_bad (slice_index bytes k) ≡ false

-- not too long, and no byte is bad
pub record IsClean (bytes : List ℕ) : Type 0 where
  pub short : length bytes ≤ most_bytes
  pub clean : position is_bad bytes ≡ None

-- The cause of a fault that shows where all tokens are read: a bad byte; with none, a byte too many; with neither, at the
-- file's end a comment that isn't ended; else the innermost block that is open; else the keyword of a statement that isn't
-- ended, or a label that stands alone.
abbrev pub IsCauseAtEnd : List ℕ → List Event → Beginning → ReadFault → Type 0
IsCauseAtEnd bytes past b (fault.BadByte p) = IsFirstBad bytes p
IsCauseAtEnd bytes past b (fault.TooLong p) = (p ≡ most_bytes) × ((most_bytes < length bytes) × ((k : ℕ) → k ≤ most_bytes → is_bad (slice_index bytes k) ≡ false))
IsCauseAtEnd bytes past b (fault.CommentOpen p) = IsClean bytes × (open_in (pieces_of bytes) ≡ Some p)
IsCauseAtEnd bytes past b (fault.BlockOpen p) = IsClean bytes × ((open_in (pieces_of bytes) ≡ None) × (slice_get (open_blocks past) 0 ≡ Some p))
IsCauseAtEnd bytes past b (fault.NotClosed p) = IsClean bytes × ((open_in (pieces_of bytes) ≡ None) × ((open_blocks past ≡ []) × (place_begun b ≡ Some p)))
IsCauseAtEnd bytes past b _ = ⊥

-- no fault shows at a token of the part that is judged
pub record ShowsAtEnd (bytes : List ℕ) (f : ReadFault) : Type 0 where
  pub phrases : List Phrase
  pub begun : Beginning
  pub fitting : IsFitting (clean (judged bytes)) (noted_from None (pieces_of (clean (judged bytes)))) phrases begun
  pub cause : IsCauseAtEnd bytes (past_begun (clean (judged bytes)) phrases begun) begun f

-- A file is read up to its first bad byte, and not further than one byte more than a file may have. There a fault shows at
-- a token, or where all tokens are read.
abbrev pub HasCause : List ℕ → ReadFault → Type 0
HasCause bytes f = ShowsAtToken (clean (judged bytes)) f ⊎ ShowsAtEnd bytes f
