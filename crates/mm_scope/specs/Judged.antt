-- The bytes that are judged.
use Rattle.std.specs.Prelude.{ℕ, ◌+◌, Bool, nat_lt, List, Option, None, Some, length, position, take}
use Rattle.mm_tokens.specs.Bytes.{is_bad}

-- the longest database, in bytes
abbrev pub most_bytes : ℕ
most_bytes = 134217728

abbrev pub is_long : List ℕ → Bool
is_long bytes = nat_lt most_bytes (length bytes)

-- a longer one is judged by one byte more than that
abbrev pub judged : List ℕ → List ℕ
judged bytes = take (most_bytes + 1) bytes

-- what stands before the first bad byte
abbrev pub before_bad : List ℕ → Option ℕ → List ℕ
before_bad bytes None = bytes
before_bad bytes (Some p) = take p bytes

abbrev pub clean : List ℕ → List ℕ
clean bytes = before_bad bytes (position is_bad bytes)
