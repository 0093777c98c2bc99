-- What VERIFY PROOF says of theorems. Each line ends with LF.
use Rattle.std.specs.Prelude.{ℕ, Bool, true, false, List, [], ◌∷◌, ◌++◌, codes, count_by, length, slice_index_or}
use Rattle.std.specs.List.{flat_map}
use Rattle.std.specs.Fmt.{decimal}
use Rattle.mm_scope.specs.Contents.{symbols_of}
use Rattle.mm_proof.specs.Faults.{number_of, place_of}
use Rattle.mm_stack.specs.declared.outcome.StackFault.{StackFault}
use Rattle.mm_stack.specs.declared.outcome.StackFault.TheVariants as fault
use Rattle.mm_stack.specs.declared.outcome.Verdict.{Verdict}
use Rattle.mm_stack.specs.declared.outcome.Verdict.TheVariants.{Accepted, Incomplete, Faulty}
use Rattle.mm_plain.specs.Labels.{label_at}
use Rattle.mm_shell.specs.Lines.{line_of}
use Rattle.mm_shell.specs.declared.checks.Check.{Check}

-- the last line: how many proofs were checked, accepted, incomplete and faulty
unfoldable pub checked_text : ℕ → ℕ → ℕ → ℕ → List ℕ
checked_text n a i f =
    codes "Checked " ++ (decimal n ++ (codes ": accepted " ++ (decimal a ++ (codes ", incomplete " ++ (decimal i ++ (codes ", faulty " ++ (decimal f ++ (codes "." ++ 10 ∷ []))))))))

-- a fault by its number, and the step that has it
abbrev pub at_step : ℕ → ℕ → List ℕ
at_step n k = codes "fault " ++ (decimal n ++ (codes " at step " ++ decimal k))

abbrev pub symbol_text : List ℕ → ℕ → List ℕ
symbol_text bytes u = slice_index_or (symbols_of bytes) u []

-- the same, with two symbols
abbrev pub with_pair : List ℕ → ℕ → ℕ → ℕ → ℕ → List ℕ
with_pair bytes n k u v = at_step n k ++ (codes ", " ++ (symbol_text bytes u ++ (codes " and " ++ symbol_text bytes v)))

unfoldable pub fault_text : List ℕ → StackFault → List ℕ
fault_text bytes (fault.Proof e) = codes "proof fault " ++ (decimal (number_of e) ++ (codes " at " ++ decimal (place_of e)))
fault_text bytes (fault.Underflow k) = at_step 2 k
fault_text bytes (fault.FloatMismatch k) = at_step 3 k
fault_text bytes (fault.EssentialMismatch k) = at_step 4 k
fault_text bytes (fault.SameVariable k v) = with_pair bytes 5 k v.0 v.0
fault_text bytes (fault.MissingDistinct k u v) = with_pair bytes 6 k u.0 v.0
fault_text bytes (fault.LeftOver n) = codes "fault 7, " ++ (decimal n ++ codes " entries")
fault_text bytes fault.WrongResult = codes "fault 8"
fault_text bytes (fault.TooLong k) = at_step 9 k

-- ## Of several proofs

-- the line of a theorem whose proof is not accepted
abbrev pub line_by : List ℕ → List ℕ → Verdict → List ℕ
line_by bytes label Accepted = []
line_by bytes label Incomplete = label ++ line_of (codes ": incomplete")
line_by bytes label (Faulty f) = label ++ line_of (codes ": " ++ fault_text bytes f)

unfoldable pub check_line : List ℕ → Check → List ℕ
check_line bytes c = line_by bytes (label_at bytes c.theorem.0) c.verdict

abbrev pub is_accepted : Verdict → Bool
is_accepted Accepted = true
is_accepted verdict = false

abbrev pub is_incomplete : Verdict → Bool
is_incomplete Incomplete = true
is_incomplete verdict = false

abbrev pub is_faulty : Verdict → Bool
is_faulty (Faulty f) = true
is_faulty verdict = false

abbrev pub last_line : List Check → List ℕ
last_line checks = checked_text (length checks) (count_by (λ c. is_accepted c.verdict) checks) (count_by (λ c. is_incomplete c.verdict) checks) (count_by (λ c. is_faulty c.verdict) checks)

-- the answer to VERIFY PROOF: a line for each theorem whose proof is not accepted, and the last line
abbrev pub checks_text : List ℕ → List Check → List ℕ
checks_text bytes checks = flat_map (check_line bytes) checks ++ last_line checks
