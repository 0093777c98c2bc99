-- What a source has left after calls.
use Rattle.std.specs.Prelude.{◌≡◌, ℕ, Bool, IsTrue, List, [], ◌++◌, take, Result, Ok, Err}
use Rattle.mm_base.specs.declared.fault.Failed.{Failed}

-- the bytes that a call put into the buffer
abbrev pub filled : Result ℕ Failed → List ℕ → List ℕ
filled (Ok n) buf = take n buf
filled (Err e) buf = []

-- Where the source tells its bytes at the end, it told them before, and has given these, the first of them.
pub record Gives {S : Type 0} (tells : S → Bool) (left : S → List ℕ) (old new : S) (bytes : List ℕ) : Type 0 where
  pub told : IsTrue (tells new) → IsTrue (tells old)
  pub gave : IsTrue (tells new) → left old ≡ bytes ++ left new
