-- What follows where a database is read.
use Rattle.std.proofs.Common.{◌+◌, ◌≡◌, ◌≤◌, ℕ, Bool, true, false, List, length, take, nat_lt, refl, sym, ◌∙◌, arith}
use Rattle.std.proofs.lemmas.Bool.{true≢false}
use Rattle.mm_scope.specs.Contents.{is_read}
use Rattle.mm_scope.specs.Databases.{database_of}
use Rattle.mm_scope.specs.Judged.{is_long, most_bytes}
use Rattle.mm_scope.proofs.Long.{long_refused, same_database}

pub not_more : (k n : ℕ) → nat_lt k n ≡ false → n ≤ k
not_more k n h = grind arith

short_by : (bytes : List ℕ) (long : Bool) → is_long bytes ≡ long → is_read bytes ≡ true → length bytes ≤ most_bytes
short_by bytes true e h = absurd (true≢false (sym h ∙ long_refused bytes e))
short_by bytes false e h = not_more most_bytes (length bytes) e

pub is_read-length : (bytes : List ℕ) → is_read bytes ≡ true → length bytes ≤ most_bytes
is_read-length bytes h = short_by bytes (is_long bytes) refl h

-- the first bytes of a file say what all of them say
pub first_bytes : (bytes : List ℕ) → database_of (take (most_bytes + 1) bytes) ≡ database_of bytes
first_bytes bytes = same_database bytes
