-- The kinds of bytes.
use Rattle.std.specs.Prelude.{ℕ, Bool, not, ◌&&◌, ◌||◌, ◌==◌, nat_le}

-- a byte of a token: the printable ASCII characters without space
abbrev pub is_graphic : ℕ → Bool
is_graphic b = nat_le 33 b && nat_le b 126

-- space, tab, line feed, carriage return and form feed
abbrev pub is_white : ℕ → Bool
is_white b = b == 32 || b == 9 || b == 10 || b == 13 || b == 12

-- a byte that no database may have
abbrev pub is_bad : ℕ → Bool
is_bad b = not (is_graphic b) && not (is_white b)
