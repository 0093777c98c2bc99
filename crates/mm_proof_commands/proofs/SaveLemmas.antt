-- Whether a database is too long.
use Rattle.std.proofs.Common.{◌≡◌, ◌≤◌, ◌<◌, ℕ, true, false, nat_lt, arith}
use Rattle.std.proofs.lemmas.Bool.Decides.{nat_tests}

pub not_over : (n : ℕ) → n ≤ 134217728 → nat_lt 134217728 n ≡ false
not_over n h = grind (arith, nat_tests)

pub over : (n : ℕ) → 134217728 < n → nat_lt 134217728 n ≡ true
over n h = grind (arith, nat_tests)
