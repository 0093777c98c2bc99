-- A run, step by step.
use Rattle.std.proofs.Common.{◌≡◌, ◌<◌, ◌≤◌, ◌+◌, ℕ, List, [], ◌∷◌, ◌++◌, length, drop, get_or, Ok, Err, ap, sym, ◌∙◌, Result}
use Rattle.std.proofs.lemmas.List.{drop_more, drop_all}
use Rattle.mm_stated.specs.Stated.{Stated}
use Rattle.mm_proof.specs.declared.step.ProofStep.{ProofStep}
use Rattle.mm_stack.specs.Running.{Progress, next_number, applied, applying, conclusion_at, run_from, run_step, after}
use Rattle.mm_stack.specs.Machines.{Stops}
use Rattle.mm_stack.specs.declared.machine.Stop.{Stop}
use Rattle.mm_stack.specs.declared.machine.Stop.TheVariants.{Ended, Memory}
use Rattle.mm_stack.specs.declared.outcome.Verdict.{Verdict}

-- an assertion as the next step, whose number is k
module _ (bytes : List ℕ) (groups : List (List ℕ)) (a : Stated) (p : Progress) (k : ℕ) (number : k ≡ next_number p) where
  pub applying_stops : (v : Verdict) → applied bytes groups a p.stack k ≡ Err v → applying bytes groups a p ≡ Err v
  applying_stops v e = ap (λ r. after r (λ stack. Ok (record { stack = stack; results = p.results ++ conclusion_at bytes a p.stack ∷ [] }))) (ap (applied bytes groups a p.stack) (sym number) ∙ e)

  pub applying_goes_on : (stack : List (List ℕ)) (entry : List ℕ) → applied bytes groups a p.stack k ≡ Ok stack → conclusion_at bytes a p.stack ≡ entry
      → applying bytes groups a p ≡ Ok (record { stack = stack; results = p.results ++ entry ∷ [] })
  applying_goes_on stack entry e h =
      ap (λ r. after r (λ s. Ok (record { stack = s; results = p.results ++ conclusion_at bytes a p.stack ∷ [] }))) (ap (applied bytes groups a p.stack) (sym number) ∙ e)
      ∙ ap (λ x. Ok (record { stack = stack; results = p.results ++ x ∷ [] })) h

module _ (bytes : List ℕ) (groups : List (List ℕ)) (p : Progress) (steps : List ProofStep) (i : ℕ) where
  run_next : (d : ProofStep) → i < length steps
      → run_from bytes groups p (drop i steps) ≡ after (run_step bytes groups p (get_or steps i d).kind) (λ next. run_from bytes groups next (drop (i + 1) steps))
  unfolding run_from
  run_next d h = ap (run_from bytes groups p) (drop_more steps i d h)

  -- a step that is done
  pub run_more : (next : Progress) (d : ProofStep) → i < length steps → run_step bytes groups p (get_or steps i d).kind ≡ Ok next
      → run_from bytes groups p (drop i steps) ≡ run_from bytes groups next (drop (i + 1) steps)
  run_more next d h e =
      let rest : Progress → Result Progress Verdict = λ t. run_from bytes groups t (drop (i + 1) steps) in
      run_next d h ∙ ap (λ r. after r rest) e

  -- a step at which the run stops
  pub run_stops : (d : ProofStep) (stop : Stop) → i < length steps
      → Stops stop (run_step bytes groups p (get_or steps i d).kind) → Stops stop (run_from bytes groups p (drop i steps))
  run_stops d Memory h e = tt
  run_stops d (Ended o) h e =
      let rest : Progress → Result Progress Verdict = λ t. run_from bytes groups t (drop (i + 1) steps) in
      run_next d h ∙ ap (λ r. after r rest) e

  -- no step is left
  pub run_end : length steps ≤ i → run_from bytes groups p (drop i steps) ≡ Ok p
  unfolding run_from
  run_end h = ap (run_from bytes groups p) (drop_all i steps h)
