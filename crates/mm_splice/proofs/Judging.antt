-- What is judged of proofs does not look at places.
use Rattle.std.proofs.Common.{◌≡◌, ℕ, ◌+◌, Bool, cond, ◌==◌, ◌&&◌, if◌then◌else◌, List, [], ◌∷◌, ◌++◌, map, filter, flat_map, Option, None, Some, take, drop, slice_range, position, Result, Ok, Err, refl, ◌∙◌, ap}
use Rattle.std.specs.List.{list_all, list_any}
use Rattle.std.specs.Str.{bytes_eq}
use Rattle.mm_tokens.specs.Pieces.{pieces_of, tokens_in}
use Rattle.mm_tokens.specs.declared.pieces.Token.{Token}
use Rattle.mm_scope.specs.Contents.{labels_of, stated_at, find_label, active_at, distinct_at, is_variable_of}
use Rattle.mm_stated.specs.Stated.{Stated}
use Rattle.mm_stated.specs.declared.statement.Kind.{Kind}
use Rattle.mm_stated.specs.declared.statement.Kind.TheVariants as kind
use Rattle.mm_stack.specs.Accepting.{verdict_after, verdict_by}
use Rattle.mm_proof.specs.Decoding.{steps_from, begins_list, normal, compressed, spelled}
use Rattle.mm_proof.specs.Faults as fault
use Rattle.mm_proof.specs.Labels.{text_of, hypothesis, step_by, labelled, named_of, step_of, unless_mandatory, listed_of, listed_from, numbered}
use Rattle.mm_proof.specs.Reading.{letters_in, read, unless_empty}
use Rattle.mm_proof.specs.Steps.{untagged}
use Rattle.mm_proof.specs.declared.fault.ProofFault.{ProofFault}
use Rattle.mm_proof.specs.declared.fault.ProofFault.TheVariants.{MandatoryListed}
use Rattle.mm_proof.specs.declared.step.ProofStep.{ProofStep}
use Rattle.mm_proof.specs.declared.step.StepKind.{StepKind}
use Rattle.mm_proof.specs.declared.step.StepKind.TheVariants.{Hyp, Apply, Back, Unknown}
use Rattle.mm_stack.specs.Differing.{fault_of, violations}
use Rattle.mm_stack.specs.Running.{Argument, arguments, has_typecode, bind, substitution_of, is_instance, unless, after, kept, popped, values_at, conclusion_at, violations_at, checks, applied, applying, Progress, start, next_number, pushing, run_step, run_from, run}
use Rattle.mm_stack.specs.Substitution.{value_of}
use Rattle.mm_stack.specs.declared.outcome.StackFault.{StackFault}
use Rattle.mm_stack.specs.declared.outcome.Verdict.{Verdict}
use Rattle.mm_splice.specs.Moved.{move_stated}

-- an entry's hypothesis with its places moved
abbrev move_argument : (ℕ → ℕ) → Argument → Argument
move_argument f a = record { hypothesis = move_stated f a.hypothesis; entry = a.entry }

-- the faults of pairs, given which symbols are variables
abbrev violations_by : (ℕ → Bool) → List (List ℕ) → ℕ → (ℕ → List ℕ) → List (ℕ × ℕ) → List StackFault
violations_by test gs k value pairs = flat_map (λ p. flat_map (λ u. flat_map (fault_of gs k u) (filter test (value p.1))) (filter test (value p.0))) pairs

module _ (f : ℕ → ℕ) where
  all_typed : (xs : List Argument) → list_all has_typecode (map (move_argument f) xs) ≡ list_all has_typecode xs
  all_typed [] = refl
  all_typed (a ∷ xs) = ap (λ b. has_typecode a && b) (all_typed xs)

  all_instances : (value : ℕ → List ℕ) (xs : List Argument) → list_all (is_instance value) (map (move_argument f) xs) ≡ list_all (is_instance value) xs
  all_instances value [] = refl
  all_instances value (a ∷ xs) = ap (λ b. is_instance value a && b) (all_instances value xs)

  bindings : (xs : List Argument) → substitution_of (map (move_argument f) xs) ≡ substitution_of xs
  bindings [] = refl
  bindings (a ∷ xs) = ap (bind a) (bindings xs)

-- Two databases that say the same, but for places.
module _ (old new : List ℕ) (f : ℕ → ℕ) (stated : (j : ℕ) → stated_at new j ≡ move_stated f (stated_at old j)) (labels : labels_of new ≡ labels_of old)
    (hypotheses : (j : ℕ) → active_at new j ≡ active_at old j) (groups : (j : ℕ) → distinct_at new j ≡ distinct_at old j)
    (variables : is_variable_of new ≡ is_variable_of old) where
  arguments_same : (ms : List ℕ) (es : List (List ℕ)) → arguments new ms es ≡ map (move_argument f) (arguments old ms es)
  arguments_same [] es = refl
  arguments_same (m ∷ ms) [] = refl
  arguments_same (m ∷ ms) (e ∷ es) =
      ap (λ s. record { hypothesis = s; entry = e } ∷ arguments new ms es) (stated m)
      ∙ ap (λ xs. record { hypothesis = move_stated f (stated_at old m); entry = e } ∷ xs) (arguments_same ms es)

  popped_same : (a : Stated) (stack : List (List ℕ)) → popped new (move_stated f a) stack ≡ map (move_argument f) (popped old a stack)
  popped_same a stack = arguments_same a.mandatory (drop (kept a stack) stack)

  values_same : (a : Stated) (stack : List (List ℕ)) → values_at new (move_stated f a) stack ≡ values_at old a stack
  values_same a stack = ap (λ xs. value_of (substitution_of xs)) (popped_same a stack) ∙ ap value_of (bindings f (popped old a stack))

  typed_same : (a : Stated) (stack : List (List ℕ)) → list_all has_typecode (popped new (move_stated f a) stack) ≡ list_all has_typecode (popped old a stack)
  typed_same a stack = ap (list_all has_typecode) (popped_same a stack) ∙ all_typed f (popped old a stack)

  instances_same : (a : Stated) (stack : List (List ℕ))
      → list_all (is_instance (values_at new (move_stated f a) stack)) (popped new (move_stated f a) stack) ≡ list_all (is_instance (values_at old a stack)) (popped old a stack)
  instances_same a stack =
      ap (λ v. list_all (is_instance v) (popped new (move_stated f a) stack)) (values_same a stack)
      ∙ ap (list_all (is_instance (values_at old a stack))) (popped_same a stack)
      ∙ all_instances f (values_at old a stack) (popped old a stack)

  violations_same : (gs : List (List ℕ)) (a : Stated) (stack : List (List ℕ)) (k : ℕ) → violations_at new gs (move_stated f a) stack k ≡ violations_at old gs a stack k
  violations_same gs a stack k =
      ap (λ v. violations new gs k v a.pairs) (values_same a stack) ∙ by (values_at old a stack)
    where
      by : (v : ℕ → List ℕ) → violations new gs k v a.pairs ≡ violations old gs k v a.pairs
      by v = ap (λ test. violations_by test gs k v a.pairs) variables

  conclusion_same : (a : Stated) (stack : List (List ℕ)) → conclusion_at new (move_stated f a) stack ≡ conclusion_at old a stack
  conclusion_same a stack = rw (values_same a stack) refl

  checks_same : (gs : List (List ℕ)) (a : Stated) (stack : List (List ℕ)) (k : ℕ) → checks new gs (move_stated f a) stack k ≡ checks old gs a stack k
  checks_same gs a stack k = rw (typed_same a stack, instances_same a stack, violations_same gs a stack k, conclusion_same a stack) refl

  applied_same : (gs : List (List ℕ)) (a : Stated) (stack : List (List ℕ)) (k : ℕ) → applied new gs (move_stated f a) stack k ≡ applied old gs a stack k
  unfolding applied
  applied_same gs a stack k =
      ap (λ cs. unless cs (Ok (take (kept a stack) stack ++ conclusion_at new (move_stated f a) stack ∷ []))) (checks_same gs a stack k)
      ∙ ap (λ e. unless (checks old gs a stack k) (Ok (take (kept a stack) stack ++ e ∷ []))) (conclusion_same a stack)

  applying_same : (gs : List (List ℕ)) (a : Stated) (p : Progress) → applying new gs (move_stated f a) p ≡ applying old gs a p
  applying_same gs a p =
      ap (λ r. after r (λ stack. Ok (record { stack = stack; results = p.results ++ conclusion_at new (move_stated f a) p.stack ∷ [] }))) (applied_same gs a p.stack (next_number p))
      ∙ ap (λ e. after (applied old gs a p.stack (next_number p)) (λ stack. Ok (record { stack = stack; results = p.results ++ e ∷ [] }))) (conclusion_same a p.stack)

  step_same : (gs : List (List ℕ)) (p : Progress) (s : StepKind) → run_step new gs p s ≡ run_step old gs p s
  step_same gs p (Hyp id) = ap (λ s. Ok (pushing p s.symbols)) (stated id.0)
  step_same gs p (Apply id) = ap (λ s. applying new gs s p) (stated id.0) ∙ applying_same gs (stated_at old id.0) p
  step_same gs p (Back k) = refl
  step_same gs p Unknown = refl

  pub run_same : (gs : List (List ℕ)) (p : Progress) (ss : List ProofStep) → run_from new gs p ss ≡ run_from old gs p ss
  unfolding run_from
  run_same gs p [] = refl
  run_same gs p (s ∷ ss) =
      ap (λ r. after r (λ next. run_from new gs next ss)) (step_same gs p s.kind) ∙ by (run_step old gs p s.kind) (λ next. run_same gs next ss)
    where
      by : (r : Result Progress Verdict) → ((next : Progress) → run_from new gs next ss ≡ run_from old gs next ss)
          → after r (λ next. run_from new gs next ss) ≡ after r (λ next. run_from old gs next ss)
      by (Ok next) later = later next
      by (Err v) later = refl

  found_same : (text : List ℕ) → find_label new text ≡ find_label old text
  found_same text = ap (position (bytes_eq text)) labels

  by_same : (id k n : ℕ) (m : Kind) → step_by new id k n m ≡ step_by old id k n m
  by_same id k n kind.Float = rw (hypotheses id) refl
  by_same id k n kind.Essential = rw (hypotheses id) refl
  by_same id k n kind.Axiom = refl
  by_same id k n kind.Theorem = refl

  labelled_same : (id k : ℕ) (o : Option ℕ) → labelled new id k o ≡ labelled old id k o
  labelled_same id k None = refl
  labelled_same id k (Some n) = ap (λ s. step_by new id k n s.kind) (stated n) ∙ by_same id k n (stated_at old n).kind

  named_same : (id k : ℕ) (text : List ℕ) → named_of new id k text ≡ named_of old id k text
  unfolding named_of
  named_same id k text = ap (labelled new id k) (found_same text) ∙ labelled_same id k (find_label old text)

  step_of_same : (id k : ℕ) (text : List ℕ) → step_of new id k text ≡ step_of old id k text
  unfolding step_of
  step_of_same id k text = ap (λ r. cond (bytes_eq text (63 ∷ [])) (Ok Unknown) r) (named_same id k text)

  steps_same : (id : ℕ) (proof : List ℕ) (k : ℕ) (ts : List Token) → steps_from new id proof k ts ≡ steps_from old id proof k ts
  unfolding steps_from
  steps_same id proof k [] = refl
  steps_same id proof k (t ∷ ts) =
      ap (λ r. fault.after r (λ s. fault.after (steps_from new id proof (k + 1) ts) (λ ss. Ok (untagged s ∷ ss)))) (step_of_same id k (text_of proof t))
      ∙ ap (λ rest. fault.after (step_of old id k (text_of proof t)) (λ s. fault.after rest (λ ss. Ok (untagged s ∷ ss)))) (steps_same id proof (k + 1) ts)

  unlisted_same : (id k : ℕ) (s : StepKind) → unless_mandatory new id k s ≡ unless_mandatory old id k s
  unlisted_same id k (Hyp n) = ap (λ x. if list_any (λ m. n.0 == m) x.mandatory then Err (MandatoryListed k) else Ok (Hyp n)) (stated id)
  unlisted_same id k (Apply n) = refl
  unlisted_same id k (Back n) = refl
  unlisted_same id k Unknown = refl

  listed_same : (id k : ℕ) (text : List ℕ) → listed_of new id k text ≡ listed_of old id k text
  unfolding listed_of
  listed_same id k text = ap (λ r. fault.after r (unless_mandatory new id k)) (named_same id k text) ∙ by (named_of old id k text)
    where
      by : (r : Result StepKind ProofFault) → fault.after r (unless_mandatory new id k) ≡ fault.after r (unless_mandatory old id k)
      by (Ok s) = unlisted_same id k s
      by (Err e) = refl

  list_same : (id : ℕ) (proof : List ℕ) (k : ℕ) (kinds : List StepKind) (ts : List Token) → listed_from new id proof k kinds ts ≡ listed_from old id proof k kinds ts
  unfolding listed_from
  list_same id proof k kinds [] = refl
  list_same id proof k kinds (t ∷ ts) =
      ap (λ r. cond (bytes_eq (text_of proof t) (41 ∷ [])) (Ok (record { kinds = kinds; rest = ts })) r)
      (ap (λ r. fault.after r (λ s. listed_from new id proof (k + 1) (kinds ++ s ∷ []) ts)) (listed_same id k (text_of proof t)) ∙ by (listed_of old id k (text_of proof t)) (λ s. list_same id proof (k + 1) (kinds ++ s ∷ []) ts))
    where
      by : (r : Result StepKind ProofFault) → ((s : StepKind) → listed_from new id proof (k + 1) (kinds ++ s ∷ []) ts ≡ listed_from old id proof (k + 1) (kinds ++ s ∷ []) ts) → fault.after r (λ s. listed_from new id proof (k + 1) (kinds ++ s ∷ []) ts) ≡ fault.after r (λ s. listed_from old id proof (k + 1) (kinds ++ s ∷ []) ts)
      by (Ok s) later = later s
      by (Err e) later = refl

  numbered_same : (id : ℕ) (proof : List ℕ) (ts : List Token) → numbered new id proof ts ≡ numbered old id proof ts
  numbered_same id proof ts =
      ap (λ s. listed_from new id proof 2 (map hypothesis s.mandatory) ts) (stated id) ∙ list_same id proof 2 (map hypothesis (stated_at old id).mandatory) ts

  -- a text spells the same
  pub spells_same : (id from : ℕ) (proof : List ℕ) → spelled new id from proof ≡ spelled old id from proof
  unfolding spelled
  spells_same id from proof =
      let tokens : List Token = tokens_in (pieces_of proof) in
      ap (λ r. cond (begins_list proof tokens) r (normal new id proof tokens)) (ap (λ r. fault.after r (λ n. read n.kinds (letters_in from proof n.rest))) (numbered_same id proof (drop 1 tokens)))
      ∙ ap (λ r. cond (begins_list proof tokens) (compressed old id from proof (drop 1 tokens)) (fault.after r unless_empty)) (steps_same id proof 1 tokens)

  -- and the same comes of steps
  pub comes_same : (id : ℕ) (r : Result (List ProofStep) ProofFault) → verdict_by new id r ≡ verdict_by old id r
  comes_same id (Ok steps) =
      ap (λ s. verdict_after s.symbols (run new (distinct_at new id) steps)) (stated id)
      ∙ ap (λ gs. verdict_after (stated_at old id).symbols (run new gs steps)) (groups id)
      ∙ ap (λ r. verdict_after (stated_at old id).symbols (after r (λ p. Ok p.stack))) (run_same (distinct_at old id) start steps)
  comes_same id (Err e) = refl
