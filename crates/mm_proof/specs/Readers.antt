-- What the parts of the reader of proofs answer. Its number is the number that is read, up to a limit.
use Rattle.std.specs.Prelude.{◌≡◌, ◌<◌, ◌≤◌, ◌==◌, ◌^◌, ℕ, List, length, min, nat_eq, Result, Ok, Err, Vec}
use Rattle.std.specs.Global.{Global}
use Rattle.std.specs.HashSet.{HashSet, contains}
use Rattle.std.specs.List.{list_any}
use Rattle.mm_tokens.specs.declared.pieces.Token.{Token}
use Rattle.mm_scope.specs.Contents.{labels_of}
use Rattle.mm_proof.specs.Faults.{Refuses}
use Rattle.mm_proof.specs.Labels.{Numbered}
use Rattle.mm_proof.specs.Reading.{Reading, read_letter}
use Rattle.mm_proof.specs.declared.letter.Letter.{Letter}
use Rattle.mm_proof.specs.declared.reader.Reader.{Reader}
use Rattle.mm_proof.specs.declared.fault.ProofFault.{ProofFault}
use Rattle.mm_proof.specs.declared.fault.ProofFault.TheVariants.{Memory}
use Rattle.mm_proof.specs.declared.step.ProofStep.{ProofStep}
use Rattle.mm_proof.specs.declared.step.StepKind.{StepKind}
use Rattle.mm_proof.specs.declared.step.StepKind.TheVariants.{Hyp, Apply, Back, Unknown}

-- a label names a statement of the database
abbrev pub IsLabel : List ℕ → StepKind → Type 0
IsLabel bytes (Hyp s) = s.0 < length (labels_of bytes)
IsLabel bytes (Apply s) = s.0 < length (labels_of bytes)
IsLabel bytes (Back k) = ⊥
IsLabel bytes Unknown = ⊥

-- a step of a normal proof
abbrev pub IsStep : List ℕ → StepKind → Type 0
IsStep bytes (Hyp s) = s.0 < length (labels_of bytes)
IsStep bytes (Apply s) = s.0 < length (labels_of bytes)
IsStep bytes (Back k) = ⊥
IsStep bytes Unknown = Unit {0}

-- a set has just these numbers
abbrev pub HasAll : {S : Type 0} → HashSet ℕ S → List ℕ → Type 0
HasAll set ids = (n : ℕ) → contains nat_eq set n ≡ list_any (λ m. n == m) ids

abbrev pub GivesKind : Result StepKind ProofFault → Result StepKind ProofFault → Type 0
GivesKind (Ok k) read = read ≡ Ok k
GivesKind (Err e) read = Refuses e read

abbrev pub GivesItems : Result (Vec StepKind Global) ProofFault → List StepKind → Type 0
GivesItems (Ok v) kinds = v.items ≡ kinds
GivesItems (Err e) kinds = e ≡ Memory

abbrev pub GivesNumbered : Result (Vec StepKind Global) ProofFault → List Token → Result Numbered ProofFault → Type 0
GivesNumbered (Ok v) left read = read ≡ Ok (record { kinds = v.items; rest = left })
GivesNumbered (Err e) left read = Refuses e read

abbrev pub GivesSteps : Result (Vec ProofStep Global) ProofFault → Result (List ProofStep) ProofFault → Type 0
GivesSteps (Ok v) read = read ≡ Ok v.items
GivesSteps (Err e) read = Refuses e read

-- from here on a number is out of range whatever follows
abbrev pub most : ℕ
most = 1099511627776

-- what a reader stands for, where n is the number that is read
abbrev pub reading : ℕ → Reader → Reading
reading n r = record { number = n; complete = r.complete; tags = r.tags.items; steps = r.steps.items }

-- so many tags and steps have numbers
pub record IsSmall (r : Reader) : Type 0 where
  pub tags : length r.tags.items < 2 ^ 32
  pub steps : length r.steps.items < 2 ^ 32
  pub number : r.number ≤ most

pub record TakesOne (kinds : List StepKind) (place : ℕ) (letter : Letter) (old new : Reader) (n : ℕ) : Type 0 where
  pub number : ℕ
  pub kept : min number most ≡ new.number
  pub reads : read_letter kinds place (reading n old) letter ≡ Ok (reading number new)

abbrev pub Takes : List StepKind → ℕ → Letter → Reader → Reader → Result (Unit {0}) ProofFault → Type 0
Takes kinds place letter old new (Ok u) = (n : ℕ) → min n most ≡ old.number → TakesOne kinds place letter old new n
Takes kinds place letter old new (Err e) = (n : ℕ) → min n most ≡ old.number → Refuses e (read_letter kinds place (reading n old) letter)
