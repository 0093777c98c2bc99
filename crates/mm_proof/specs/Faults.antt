-- The number and the place of a fault in a proof's text.
use Rattle.std.specs.Prelude.{◌≡◌, ℕ, Result, Ok, Err}
use Rattle.mm_proof.specs.declared.fault.ProofFault.{ProofFault}
use Rattle.mm_proof.specs.declared.fault.ProofFault.TheVariants as fault

-- 0 for want of memory, which is no fault of a proof
abbrev pub number_of : ProofFault → ℕ
number_of (fault.NoSuchLabel k) = 1
number_of (fault.NotEarlier k) = 2
number_of (fault.HypothesisNotActive k) = 3
number_of (fault.MandatoryListed k) = 4
number_of (fault.BadLetter p) = 5
number_of (fault.NumberOutOfRange p) = 6
number_of (fault.TagMisplaced p) = 7
number_of fault.ListNotClosed = 8
number_of fault.EmptyProof = 9
number_of fault.NumberOpen = 10
number_of fault.Memory = 0

-- the token, counted from 1, or the byte, counted from 0; 0 where the fault is of neither
abbrev pub place_of : ProofFault → ℕ
place_of (fault.NoSuchLabel k) = k
place_of (fault.NotEarlier k) = k
place_of (fault.HypothesisNotActive k) = k
place_of (fault.MandatoryListed k) = k
place_of (fault.BadLetter p) = p
place_of (fault.NumberOutOfRange p) = p
place_of (fault.TagMisplaced p) = p
place_of fault.ListNotClosed = 0
place_of fault.EmptyProof = 0
place_of fault.NumberOpen = 0
place_of fault.Memory = 0

-- goes on unless there is a fault
abbrev pub after : {A B : Type 0} → Result A ProofFault → (A → Result B ProofFault) → Result B ProofFault
after (Ok x) f = f x
after (Err e) f = Err e

-- a refusal is the fault that a reading has, unless memory ran out
abbrev pub Refuses : {A : Type 0} → ProofFault → Result A ProofFault → Type 0
Refuses fault.Memory read = Unit {0}
Refuses (fault.NoSuchLabel k) read = read ≡ Err (fault.NoSuchLabel k)
Refuses (fault.NotEarlier k) read = read ≡ Err (fault.NotEarlier k)
Refuses (fault.HypothesisNotActive k) read = read ≡ Err (fault.HypothesisNotActive k)
Refuses (fault.MandatoryListed k) read = read ≡ Err (fault.MandatoryListed k)
Refuses (fault.BadLetter p) read = read ≡ Err (fault.BadLetter p)
Refuses (fault.NumberOutOfRange p) read = read ≡ Err (fault.NumberOutOfRange p)
Refuses (fault.TagMisplaced p) read = read ≡ Err (fault.TagMisplaced p)
Refuses fault.ListNotClosed read = read ≡ Err fault.ListNotClosed
Refuses fault.EmptyProof read = read ≡ Err fault.EmptyProof
Refuses fault.NumberOpen read = read ≡ Err fault.NumberOpen
