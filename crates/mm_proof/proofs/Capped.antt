-- A number up to the limit.
use Rattle.std.proofs.Common.{◌≡◌, ◌≢◌, ◌<◌, ℕ, ◌+◌, ◌*◌, true, false, cond, eqb, List, [], ◌∷◌, length, Result, Ok, Err, arith, min, refl, ap, sym, ◌∙◌}
use Rattle.std.proofs.lemmas.Bool.Decides.{nat_tests}
use Rattle.mm_proof.specs.declared.step.ProofStep.{ProofStep}
use Rattle.mm_proof.specs.declared.step.StepKind.{StepKind}
use Rattle.mm_proof.specs.declared.fault.ProofFault.{ProofFault}
use Rattle.mm_proof.specs.declared.fault.ProofFault.TheVariants.{EmptyProof, NumberOpen}
use Rattle.mm_proof.specs.declared.letter.Letter.{Letter}
use Rattle.mm_proof.specs.declared.reader.Reader.{Reader}
use Rattle.mm_proof.specs.Faults.{after, Refuses}
use Rattle.mm_proof.specs.Numbers.{letter_of}
use Rattle.mm_proof.specs.Reading.{Placed, Reading, read_letter, unless_empty, ended, read_from, read}
use Rattle.mm_proof.specs.Readers.{most, reading, IsSmall, TakesOne}
use Rattle.mm_proof.proofs.Decodes.{passed}

pub capped : (n k d : ℕ) → min n most ≡ k → min (5 * n + d) most ≡ min (5 * k + d) most
capped n k d e = omega arith

-- what is read so far, and what is left
pub record GoesOn (kinds : List StepKind) (all left : List Placed) (r : Reader) : Type 0 where
  pub number : ℕ
  pub kept : min number most ≡ r.number
  pub small : IsSmall r
  pub goes : read_from kinds (reading number r) left ≡ read kinds all

next_by : (kinds : List StepKind) (old : Reading) (l : Placed) (left : List Placed) (o : Result Reading ProofFault) → read_letter kinds l.place old (letter_of l.byte) ≡ o
    → read_from kinds old (l ∷ left) ≡ after o (λ next. read_from kinds next left)
unfolding read_from
next_by kinds old l left o h = ap (λ x. after x (λ next. read_from kinds next left)) h

pub goes_more : (kinds : List StepKind) (all left rest : List Placed) (l : Placed) (old new : Reader) (letter : Letter) → GoesOn kinds all left old → left ≡ l ∷ rest → letter ≡ letter_of l.byte
    → ((n : ℕ) → min n most ≡ old.number → TakesOne kinds l.place letter old new n) → IsSmall new → GoesOn kinds all rest new
goes_more kinds all left rest l old new letter g is at t small =
    let one = t g.number g.kept in
    let h = ap (read_letter kinds l.place (reading g.number old)) (sym at) ∙ one.reads in
    record {
      number = one.number;
      kept = one.kept;
      small = small;
      goes = sym (next_by kinds (reading g.number old) l rest (Ok (reading one.number new)) h) ∙ ap (read_from kinds (reading g.number old)) (sym is) ∙ g.goes;
    }

-- a letter that is refused refuses the whole
pub goes_stops : (kinds : List StepKind) (all left rest : List Placed) (l : Placed) (old : Reader) (letter : Letter) (e : ProofFault) → GoesOn kinds all left old → left ≡ l ∷ rest → letter ≡ letter_of l.byte
    → ((n : ℕ) → min n most ≡ old.number → Refuses e (read_letter kinds l.place (reading n old) letter)) → Refuses e (read kinds all)
goes_stops kinds all left rest l old letter e g is at t =
    passed e (read_letter kinds l.place (reading g.number old) letter) (read kinds all) (t g.number g.kept)
    (λ h. sym g.goes ∙ ap (read_from kinds (reading g.number old)) is ∙ next_by kinds (reading g.number old) l rest (Err e) (ap (read_letter kinds l.place (reading g.number old)) (sym at) ∙ h))

end_by : (kinds : List StepKind) (r : Reading) (left : List Placed) → left ≡ [] → read_from kinds r left ≡ ended r
unfolding read_from
end_by kinds r left h = ap (read_from kinds r) h

goes_all : (kinds : List StepKind) (all left : List Placed) (r : Reader) (g : GoesOn kinds all left r) → left ≡ [] → read kinds all ≡ ended (reading g.number r)
goes_all kinds all left r g h = sym g.goes ∙ end_by kinds (reading g.number r) left h

open_end : (n : ℕ) (steps : List ProofStep) → n ≢ 0 → cond (eqb n 0) (unless_empty steps) (Err NumberOpen) ≡ Err NumberOpen
open_end n steps h = let e : eqb n 0 ≡ false = grind (arith, nat_tests) in ap (λ b. cond b (unless_empty steps) (Err NumberOpen)) e

closed_end : (n : ℕ) (steps : List ProofStep) → n ≡ 0 → cond (eqb n 0) (unless_empty steps) (Err NumberOpen) ≡ unless_empty steps
closed_end n steps h = let e : eqb n 0 ≡ true = grind (arith, nat_tests) in ap (λ b. cond b (unless_empty steps) (Err NumberOpen)) e

pub goes_open : (kinds : List StepKind) (all left : List Placed) (r : Reader) → GoesOn kinds all left r → left ≡ [] → r.number ≢ 0 → read kinds all ≡ Err NumberOpen
goes_open kinds all left r g h some =
    let k = g.kept in
    let z : g.number ≢ 0 = λ e. some (omega arith) in
    goes_all kinds all left r g h ∙ open_end g.number r.steps.items z

pub goes_ended : (kinds : List StepKind) (all left : List Placed) (r : Reader) → GoesOn kinds all left r → left ≡ [] → r.number ≡ 0 → read kinds all ≡ unless_empty r.steps.items
goes_ended kinds all left r g h none_open =
    let k = g.kept in
    let z : g.number ≡ 0 = omega arith in
    goes_all kinds all left r g h ∙ closed_end g.number r.steps.items z

some_ok : (steps : List ProofStep) → 0 < length steps → unless_empty steps ≡ Ok steps
some_ok [] h = absurd (omega arith)
some_ok (s ∷ ss) h = refl

none_err : (steps : List ProofStep) → length steps ≡ 0 → unless_empty steps ≡ Err EmptyProof
none_err [] h = refl
none_err (s ∷ ss) h = absurd (omega arith)

pub some_by : (n : ℕ) (steps : List ProofStep) → false ≡ eqb n 0 → n ≡ length steps → unless_empty steps ≡ Ok steps
some_by n steps h e = let f : n ≢ 0 = grind (arith, nat_tests) in some_ok steps (omega arith)

pub none_by : (n : ℕ) (steps : List ProofStep) → true ≡ eqb n 0 → n ≡ length steps → unless_empty steps ≡ Err EmptyProof
none_by n steps h e = let f : n ≡ 0 = grind (arith, nat_tests) in none_err steps (omega arith)
