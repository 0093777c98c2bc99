-- The maximal runs of token bytes, by their places.
use Rattle.std.specs.Prelude.{◌≡◌, ℕ, zero, suc, ◌+◌, ◌-◌, Bool, not, ◌&&◌, ◌||◌, ◌==◌, List, [], ◌∷◌, length, drop, slice_index, if◌then◌else◌}
use Rattle.std.specs.List.{position_or_len}
use Rattle.mm_tokens.specs.Bytes.{is_graphic}
use Rattle.mm_tokens.specs.declared.pieces.Token.{Token}

-- whether a run starts at place p: a token byte stands there, and none before it
abbrev pub is_start : List ℕ → ℕ → Bool
is_start bytes p = is_graphic (slice_index bytes p) && (p == 0 || not (is_graphic (slice_index bytes (p - 1))))

-- where the run that goes on at place p ends
abbrev pub run_end : List ℕ → ℕ → ℕ
run_end bytes p = p + position_or_len (λ b. not (is_graphic b)) (drop p bytes)

-- the runs that start at one of the n places from p on
unfoldable pub runs_from : List ℕ → ℕ → ℕ → List Token
runs_from bytes p zero = []
runs_from bytes p (suc n) =
    let later = runs_from bytes (p + 1) n in
    if is_start bytes p then record { start = p; end = run_end bytes p } ∷ later else later

-- the runs that start at place p or later
abbrev pub runs_after : List ℕ → ℕ → List Token
runs_after bytes p = runs_from bytes p (length bytes - p)

-- all runs
abbrev pub runs : List ℕ → List Token
runs bytes = runs_after bytes 0

-- whether the run is exactly `$` and the byte c
abbrev pub is_mark : List ℕ → ℕ → Token → Bool
is_mark bytes c r = (r.end == r.start + 2) && (slice_index bytes r.start == 36) && (slice_index bytes (r.start + 1) == c)

-- whether a run that is exactly `$)` starts at place p
abbrev pub is_closing : List ℕ → ℕ → Bool
is_closing bytes p = is_start bytes p && is_mark bytes 41 (record { start = p; end = run_end bytes p })

-- no run goes on across place p: a token byte there starts a run
abbrev pub IsBoundary : List ℕ → ℕ → Type 0
IsBoundary bytes p = is_start bytes p ≡ is_graphic (slice_index bytes p)
