-- Labels and symbols.
use Rattle.std.specs.Prelude.{◌≡◌, ℕ, false, List}
use Rattle.std.specs.List.{list_any}
use Rattle.std.specs.Str.{bytes_eq}
use Rattle.mm_scope.specs.Contents.{symbols_of}

-- no symbol has this text
abbrev pub IsNoSymbol : List ℕ → List ℕ → Type 0
IsNoSymbol bytes text = list_any (bytes_eq text) (symbols_of bytes) ≡ false
