-- The run of a proof: a fold over its steps, from the empty stack (Metamath book, section 4.1.4). A stack is the list of
-- its entries, the oldest first; an entry is a list of symbols by number.
use Rattle.std.specs.Prelude.{ℕ, ◌+◌, ◌-◌, Bool, true, false, not, ◌||◌, ◌==◌, nat_lt, List, [], ◌∷◌, ◌++◌, length, map, take, drop, slice_index, Result, Ok, Err, if◌then◌else◌}
use Rattle.std.specs.List.{list_all}
use Rattle.std.specs.Str.{bytes_eq}
use Rattle.mm_stated.specs.Stated.{Stated}
use Rattle.mm_scope.specs.Contents.{stated_at}
pub use Rattle.mm_scope.specs.Steps.{most_symbols}
use Rattle.mm_stated.specs.declared.statement.Kind.{Kind}
use Rattle.mm_stated.specs.declared.statement.Kind.TheVariants as kind
use Rattle.mm_stack.specs.Differing.{violations}
use Rattle.mm_stack.specs.Entries.{result_at}
use Rattle.mm_stack.specs.Substitution.{Binding, value_of, instance}
use Rattle.mm_stack.specs.declared.outcome.StackFault.{StackFault}
use Rattle.mm_stack.specs.declared.outcome.StackFault.TheVariants.{Underflow, FloatMismatch, EssentialMismatch, TooLong}
use Rattle.mm_stack.specs.declared.outcome.Verdict.{Verdict}
use Rattle.mm_stack.specs.declared.outcome.Verdict.TheVariants.{Incomplete, Faulty}
use Rattle.mm_proof.specs.declared.step.ProofStep.{ProofStep}
use Rattle.mm_proof.specs.declared.step.StepKind.{StepKind}
use Rattle.mm_proof.specs.declared.step.StepKind.TheVariants.{Hyp, Apply, Back, Unknown}

abbrev pub is_float : Kind → Bool
is_float kind.Float = true
is_float kind.Essential = false
is_float kind.Axiom = false
is_float kind.Theorem = false

-- a mandatory hypothesis of an assertion, and the entry that stands for it
pub record Argument : Type 0 where
  pub hypothesis : Stated
  pub entry : List ℕ

-- the mandatory hypotheses with these ids, each with its entry
abbrev pub arguments : List ℕ → List ℕ → List (List ℕ) → List Argument
arguments bytes [] es = []
arguments bytes (m ∷ ms) [] = []
arguments bytes (m ∷ ms) (e ∷ es) = record { hypothesis = stated_at bytes m; entry = e } ∷ arguments bytes ms es

abbrev pub begins_with : ℕ → List ℕ → Bool
begins_with s [] = false
begins_with s (t ∷ ts) = t == s

-- the entry of a `$f` has its typecode
abbrev pub has_typecode : Argument → Bool
has_typecode a = not (is_float a.hypothesis.kind) || begins_with (slice_index a.hypothesis.symbols 0) a.entry

-- with the value of the variable, where the hypothesis is a `$f`: its entry without the typecode
abbrev pub bind : Argument → List Binding → List Binding
bind a sigma =
    if is_float a.hypothesis.kind then record { variable = slice_index a.hypothesis.symbols 1; value = drop 1 a.entry } ∷ sigma
    else sigma

-- the substitution that the `$f` hypotheses fix
abbrev pub substitution_of : List Argument → List Binding
substitution_of [] = []
substitution_of (a ∷ rest) = bind a (substitution_of rest)

-- the entry of a `$e` is its instance, where symbols stand for these values
abbrev pub is_instance : (ℕ → List ℕ) → Argument → Bool
is_instance value a = is_float a.hypothesis.kind || bytes_eq (instance value a.hypothesis.symbols) a.entry

-- the fault of the first check that holds, if one does
abbrev pub unless : {A : Type 0} → List (Bool × StackFault) → Result A Verdict → Result A Verdict
unless [] r = r
unless (c ∷ cs) r = if c.0 then Err (Faulty c.1) else unless cs r

-- goes on unless the run has ended
abbrev pub after : {A B : Type 0} → Result A Verdict → (A → Result B Verdict) → Result B Verdict
after (Ok x) f = f x
after (Err v) f = Err v

-- how many entries an assertion leaves
abbrev pub kept : Stated → List (List ℕ) → ℕ
kept a stack = length stack - length a.mandatory

-- the mandatory hypotheses of an assertion, each with the entry that it pops
abbrev pub popped : List ℕ → Stated → List (List ℕ) → List Argument
popped bytes a stack = arguments bytes a.mandatory (drop (kept a stack) stack)

-- the substitution that the entries which it pops fix
abbrev pub substitution_at : List ℕ → Stated → List (List ℕ) → List Binding
substitution_at bytes a stack = substitution_of (popped bytes a stack)

-- what stands for each symbol at an assertion
abbrev pub values_at : List ℕ → Stated → List (List ℕ) → ℕ → List ℕ
values_at bytes a stack = value_of (substitution_at bytes a stack)

-- the entry that an assertion pushes: the instance of its symbols
abbrev pub conclusion_at : List ℕ → Stated → List (List ℕ) → List ℕ
conclusion_at bytes a stack = instance (values_at bytes a stack) a.symbols

-- whether the entry that an assertion pushes passes the limit
abbrev pub is_too_long : List ℕ → Stated → List (List ℕ) → Bool
is_too_long bytes a stack = nat_lt most_symbols (length (conclusion_at bytes a stack))

-- the pairs that an assertion as step k puts together wrongly, in order
abbrev pub violations_at : List ℕ → List (List ℕ) → Stated → List (List ℕ) → ℕ → List StackFault
violations_at bytes groups a stack k = violations bytes groups k (values_at bytes a stack) a.pairs

-- The faults of an assertion as step k, in the order in which they are tried, where these groups of variables must
-- differ.
abbrev pub checks : List ℕ → List (List ℕ) → Stated → List (List ℕ) → ℕ → List (Bool × StackFault)
checks bytes groups a stack k =
    (nat_lt (length stack) (length a.mandatory), Underflow k)
    ∷ (not (list_all has_typecode (popped bytes a stack)), FloatMismatch k)
    ∷ (not (list_all (is_instance (values_at bytes a stack)) (popped bytes a stack)), EssentialMismatch k)
    ∷ map (λ f. (true, f)) (violations_at bytes groups a stack k)
    ++ (is_too_long bytes a stack, TooLong k) ∷ []

-- an assertion as step k
unfoldable pub applied : List ℕ → List (List ℕ) → Stated → List (List ℕ) → ℕ → Result (List (List ℕ)) Verdict
applied bytes groups a stack k = unless (checks bytes groups a stack k) (Ok (take (kept a stack) stack ++ conclusion_at bytes a stack ∷ []))

-- where a run stands: its stack, and the result of each step so far, which is the entry that it pushed
pub record Progress : Type 0 where
  pub stack : List (List ℕ)
  pub results : List (List ℕ)

abbrev pub start : Progress
start = record { stack = []; results = [] }

-- the number of the next step; steps are counted from 1
abbrev pub next_number : Progress → ℕ
next_number p = length p.results + 1

-- an entry more
abbrev pub pushing : Progress → List ℕ → Progress
pushing p e = record { stack = p.stack ++ e ∷ []; results = p.results ++ e ∷ [] }

-- an assertion as the next step
abbrev pub applying : List ℕ → List (List ℕ) → Stated → Progress → Result Progress Verdict
applying bytes groups a p =
    after (applied bytes groups a p.stack (next_number p)) (λ stack. Ok (record { stack = stack; results = p.results ++ conclusion_at bytes a p.stack ∷ [] }))

-- the next step; one that refers back pushes the result of the step that it names
abbrev pub run_step : List ℕ → List (List ℕ) → Progress → StepKind → Result Progress Verdict
run_step bytes groups p (Hyp id) = Ok (pushing p (stated_at bytes id.0).symbols)
run_step bytes groups p (Apply id) = applying bytes groups (stated_at bytes id.0) p
run_step bytes groups p (Back k) = Ok (pushing p (result_at p.results (k - 1)))
run_step bytes groups p Unknown = Err Incomplete

-- where a run stands after further steps, or what ends it before
unfoldable pub run_from : List ℕ → List (List ℕ) → Progress → List ProofStep → Result Progress Verdict
run_from bytes groups p [] = Ok p
run_from bytes groups p (s ∷ ss) = after (run_step bytes groups p s.kind) (λ next. run_from bytes groups next ss)

-- the stack at the end of a proof, or what ends its run before; variables of a group must differ
abbrev pub run : List ℕ → List (List ℕ) → List ProofStep → Result (List (List ℕ)) Verdict
run bytes groups steps = after (run_from bytes groups start steps) (λ p. Ok p.stack)
