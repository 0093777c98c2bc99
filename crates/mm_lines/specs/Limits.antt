-- How much is taken of an input, and kept of a line.
use Rattle.std.specs.Prelude.{ℕ}

-- how many bytes are taken of an input at most
abbrev pub most_taken : ℕ
most_taken = 4294967296

-- how many bytes of a line are kept at most: one more than a line may have, so that a longer one is known
abbrev pub most_kept : ℕ
most_kept = 65537

-- how many bytes of a line that has not ended are held at most: a CR at its end can still be taken off
abbrev pub most_held : ℕ
most_held = 65538

-- how many bytes are asked of the source at once
abbrev pub chunk_size : ℕ
chunk_size = 65536
