-- What the comment before a labelled statement says of it.
use Rattle.std.specs.Prelude.{ℕ, ◌+◌, ◌-◌, Bool, false, List, Option, None, Some, slice_range, codes}
use Rattle.std.specs.Option.{option_map}
use Rattle.mm_tokens.specs.declared.pieces.Span.{Span}
use Rattle.mm_scope.specs.Contents.{stated_at}
use Rattle.mm_tokens.specs.Folding.{folded, holds, StandsIn}

-- between the `$(` and the `$)` of a comment
abbrev pub inside : Span → Span
inside s = record { start = s.start + 2; end = s.end - 2 }

-- the content of the last comment between the statement's label and the token before it
abbrev pub description_of : List ℕ → ℕ → Option Span
description_of bytes id = option_map inside (stated_at bytes id).described

-- whether the content holds the phrase, each run of white space taken as one space
abbrev pub says : List ℕ → Option Span → List ℕ → Bool
says bytes None phrase = false
says bytes (Some s) phrase = holds phrase (folded (slice_range bytes s.start s.end))

-- the phrase stands in the content, each run of white space taken as one space
abbrev pub Says : List ℕ → Option Span → List ℕ → Type 0
Says bytes None phrase = ⊥
Says bytes (Some s) phrase = StandsIn phrase (folded (slice_range bytes s.start s.end))

abbrev pub usage_phrase : List ℕ
usage_phrase = codes "(New usage is discouraged.)"

abbrev pub change_phrase : List ℕ
change_phrase = codes "(Proof modification is discouraged.)"

abbrev pub is_usage_guarded : List ℕ → ℕ → Bool
is_usage_guarded bytes id = says bytes (description_of bytes id) usage_phrase

abbrev pub is_change_guarded : List ℕ → ℕ → Bool
is_change_guarded bytes id = says bytes (description_of bytes id) change_phrase
