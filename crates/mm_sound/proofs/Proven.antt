-- What an accepted proof comes to.
use Rattle.std.proofs.Common.{◌≡◌, ℕ, Bool, true, false, List, [], ◌∷◌, ◌++◌, Option, Some, Result, Ok, Err, refl, sym, ap, ◌∙◌, subst, arith, if◌then◌else◌, map, All}
use Rattle.std.proofs.lemmas.Bool.{or_from}
use Rattle.std.proofs.lemmas.List.Elements.{recursion_from_All}
use Rattle.std.proofs.lemmas.Slice.Eq.{bytes_eq-Decides}
use Rattle.std.specs.List.{list_any, AllByRecursion as ByRecursion}
use Rattle.std.specs.Str.{bytes_eq}
use Rattle.mm_scope.specs.Contents.{statements_of, stated_at, distinct_at}
use Rattle.mm_scope.specs.Laws.{AllDiffer}
use Rattle.mm_stated.specs.Mandatory.{variables_of}
use Rattle.mm_stated.specs.Stated.{Stated}
use Rattle.mm_subst.specs.Statements.{symbol_of, statement_of}
use Rattle.mm_subst.specs.Substitutions.{Pairs}
use Rattle.mm_subst.specs.Symbols.{has_work}
use Rattle.mm_subst.specs.declared.symbol.WSym.{WSym}
use Rattle.mm_subst.specs.declared.symbol.WSym.TheVariants.{Const, Var, Work}
use Rattle.mm_plain.specs.Binding.{has_works, works_at}
use Rattle.mm_plain.specs.Shape.{Each, known, unknown, steps_of, target_of}
use Rattle.mm_plain.specs.Sources.{sigma_of}
use Rattle.mm_plain.specs.Valid.{IsKnownSymbol, IsString, IsGood, IsSound, first_setting}
use Rattle.mm_plain.specs.declared.plain.Plain.{Plain}
use Rattle.mm_plain.proofs.Equations.{by_trees, target_of-known, target_of-unknown}
use Rattle.mm_plain.proofs.Kept.{known-good, unknown-good}
use Rattle.mm_plain.proofs.Moved.{sound-raised}
use Rattle.mm_plain.proofs.Read.{sigma_of-known, sigma_of-unknown}
use Rattle.mm_proof.specs.Decoding.{decoded, proof_of}
use Rattle.mm_proof.specs.Trees.{Tree, tree, trees_of}
use Rattle.mm_proof.specs.declared.fault.ProofFault.{ProofFault}
use Rattle.mm_proof.specs.declared.step.ProofStep.{ProofStep}
use Rattle.mm_proof.specs.declared.step.StepKind.{StepKind}
use Rattle.mm_proof.specs.declared.step.StepKind.TheVariants.{Hyp, Apply, Back, Unknown}
use Rattle.mm_stack.specs.Accepting.{verdict_after, verdict_at, verdict_by, verdict_of}
use Rattle.mm_stack.specs.Running.{Progress, start, after, unless, applied, checks, applying, next_number, conclusion_at, run_step, run_from, run}
use Rattle.mm_stack.specs.declared.outcome.StackFault.{StackFault}
use Rattle.mm_stack.specs.declared.outcome.StackFault.TheVariants.{WrongResult}
use Rattle.mm_stack.specs.declared.outcome.Verdict.{Verdict}
use Rattle.mm_stack.specs.declared.outcome.Verdict.TheVariants.{Accepted, Faulty}
use Rattle.mm_sound.specs.LabelTrees.{label_tree}
use Rattle.mm_sound.specs.Proves.{Proves}
use Rattle.mm_sound.specs.Pushed.{IsSmall, Spells, pushed_proof, pushed_tree}
use Rattle.mm_sound.specs.Substituted.{HasValues, substituted_by, substituted_from, substituted_in}
use Rattle.mm_sound.proofs.Fitting.{AllFit, spelled_fit}
use Rattle.mm_sound.proofs.PushedRuns.{Built, Pass, run_builds}
use Rattle.mm_sound.proofs.PushedShapes.{labelled, size_is, height_is}
use Rattle.mm_sound.proofs.PushedSteps.{Stands}

-- ## The run of an accepted proof

goal_left : (goal e : List ℕ) (b : Bool) → bytes_eq e goal ≡ b → (if b then Accepted else Faulty WrongResult) ≡ Accepted → e ≡ goal
goal_left goal e true is h = (bytes_eq-Decides e goal).0 is
goal_left goal e false is h = absurd (cc)

-- no run ends in that verdict
refused : {A : Type 0} (cs : List (Bool × StackFault)) (x : A) → unless cs (Ok x) ≡ Err Accepted → ⊥
refused [] x h = absurd (cc)
refused (c ∷ cs) x h = by c.0 (refused cs x) h
  where
    by : (b : Bool) → (unless cs (Ok x) ≡ Err Accepted → ⊥) → (if b then Err (Faulty c.1) else unless cs (Ok x)) ≡ Err Accepted → ⊥
    by true later h = absurd (cc)
    by false later h = later h

module _ (bytes : List ℕ) (groups : List (List ℕ)) where
  applied_refused : (a : Stated) (stack : List (List ℕ)) (k : ℕ) → applied bytes groups a stack k ≡ Err Accepted → ⊥
  unfolding applied
  applied_refused a stack k h = refused (checks bytes groups a stack k) _ h

  applying_refused : (a : Stated) (p : Progress) → applying bytes groups a p ≡ Err Accepted → ⊥
  applying_refused a p h = by (applied bytes groups a p.stack (next_number p)) (applied_refused a p.stack (next_number p)) h
    where
      by : (r : Result (List (List ℕ)) Verdict) → (r ≡ Err Accepted → ⊥) → after {B = Progress} r (λ stack. Ok (record { stack = stack; results = p.results ++ conclusion_at bytes a p.stack ∷ [] })) ≡ Err Accepted → ⊥
      by (Ok stack) f h = absurd (cc)
      by (Err v) f h = f (let e : v ≡ Accepted = cc in ap (λ w. Err w) e)

  step_refused : (p : Progress) (s : StepKind) → run_step bytes groups p s ≡ Err Accepted → ⊥
  step_refused p (Hyp s) h = absurd (cc)
  step_refused p (Apply s) h = applying_refused (stated_at bytes s.0) p h
  step_refused p (Back k) h = absurd (cc)
  step_refused p Unknown h = absurd (cc)

  run_refused : (ss : List ProofStep) (p : Progress) → run_from bytes groups p ss ≡ Err Accepted → ⊥
  unfolding run_from
  run_refused [] p h = absurd (cc)
  run_refused (s ∷ ss) p h = by (run_step bytes groups p s.kind) (step_refused p s.kind) (λ q. run_refused ss q) h
    where
      by : (r : Result Progress Verdict) → (r ≡ Err Accepted → ⊥) → ((q : Progress) → run_from bytes groups q ss ≡ Err Accepted → ⊥) → after r (λ q. run_from bytes groups q ss) ≡ Err Accepted → ⊥
      by (Ok q) f later h = later q h
      by (Err v) f later h = f (let e : v ≡ Accepted = cc in ap (λ w. Err w) e)

  left_over : (goal : List ℕ) (r : Result Progress Verdict) → (r ≡ Err Accepted → ⊥) → verdict_after goal (after r (λ p. Ok p.stack)) ≡ Accepted → after r (λ p. Ok p.stack) ≡ Ok (goal ∷ [])
  left_over goal (Err v) never h = absurd (never (ap (λ w. Err w) h))
  left_over goal (Ok p) never h = at p.stack h
    where
      at : (stack : List (List ℕ)) → verdict_at goal stack ≡ Accepted → (let q : Result (List (List ℕ)) Verdict = Ok stack in q) ≡ Ok (goal ∷ [])
      at [] h = absurd (cc)
      at (e ∷ []) h = ap (λ x. Ok (x ∷ [])) (goal_left goal e (bytes_eq e goal) refl h)
      at (e ∷ f ∷ es) h = absurd (cc)

  -- an accepted run leaves the goal alone
  goal_alone : (goal : List ℕ) (steps : List ProofStep) → verdict_after goal (run bytes groups steps) ≡ Accepted → run bytes groups steps ≡ Ok (goal ∷ [])
  goal_alone goal steps h = left_over goal (run_from bytes groups start steps) (run_refused steps start) h

-- ## Strings without work variables

-- where no work variable was drawn, a string has none
string_plain : (bytes : List ℕ) (at : ℕ) (s : List WSym) → ByRecursion (IsKnownSymbol (first_setting bytes at)) s → has_work s ≡ false
string_plain bytes at [] h = refl
string_plain bytes at (Const n ∷ xs) h = string_plain bytes at xs h.1
string_plain bytes at (Var n ∷ xs) h = string_plain bytes at xs h.1
string_plain bytes at (Work n ∷ xs) h = absurd (omega (arith, h.0.0, h.0.1))

is_plain : (bytes : List ℕ) (at : ℕ) (s : List WSym) → IsString (first_setting bytes at) s → has_work s ≡ false
is_plain bytes at s h = string_plain bytes at s (recursion_from_All (IsKnownSymbol (first_setting bytes at)) s h.symbols)

values_plain : (bytes : List ℕ) (at : ℕ) (s : Pairs) → ByRecursion (λ p. IsString (first_setting bytes at) p.1) s → list_any (λ p. has_work p.1) s ≡ false
values_plain bytes at [] h = refl
values_plain bytes at (p ∷ ps) h = or_from (has_work p.1) (list_any (λ q. has_work q.1) ps) (is_plain bytes at p.1 h.0) (values_plain bytes at ps h.1)

step_plain : (bytes : List ℕ) (at : ℕ) (x : Plain) → IsGood (first_setting bytes at) x → works_at x ≡ false
step_plain bytes at = by_trees (λ x. IsGood (first_setting bytes at) x → works_at x ≡ false)
    (λ t g. or_from (has_work (target_of (unknown t))) (list_any (λ p. has_work p.1) (sigma_of (unknown t)))
    (ap has_work (target_of-unknown t) ∙ is_plain bytes at t (unknown-good (first_setting bytes at) t g)) (ap (list_any (λ p. has_work p.1)) (sigma_of-unknown t)))
    (λ t l s kids h g.
    let i = known-good (first_setting bytes at) t l s kids g in
    or_from (has_work (target_of (known t l s kids))) (list_any (λ p. has_work p.1) (sigma_of (known t l s kids)))
    (ap has_work (target_of-known t l s kids) ∙ is_plain bytes at t i.target)
    (ap (list_any (λ p. has_work p.1)) (sigma_of-known t l s kids) ∙ values_plain bytes at s (recursion_from_All _ s i.names.values)))

steps_plain : (bytes : List ℕ) (at : ℕ) (xs : List Plain) → Each (IsGood (first_setting bytes at)) xs → list_any works_at xs ≡ false
steps_plain bytes at [] h = refl
steps_plain bytes at (x ∷ xs) h = or_from (works_at x) (list_any works_at xs) (step_plain bytes at x h.0) (steps_plain bytes at xs h.1)

tree_plain : (bytes : List ℕ) (at : ℕ) (x : Plain) → IsSound (first_setting bytes at) x → has_works x ≡ false
unfolding has_works IsSound
tree_plain bytes at x h = steps_plain bytes at (steps_of x) h

-- ## The tree of an accepted proof

same_one : (t u : Tree) → trees_of (t ∷ []) ≡ trees_of (u ∷ []) → t ≡ u
same_one t u h =
    let label : t.label ≡ u.label = cc in
    let children : t.children ≡ u.children = cc in
    ap (λ l. tree l t.children) label ∙ ap (tree u.label) children

module _ (bytes : List ℕ) (differ : (id : ℕ) → AllDiffer (variables_of (statements_of bytes) (stated_at bytes id).mandatory)) (at : ℕ) where
  abbrev builds : (List WSym → Bool) → List ProofStep → Type 0
  builds test steps = Built (first_setting bytes at) (distinct_at bytes at) test steps (stated_at bytes at).symbols

  abbrev stands : (List WSym → Bool) → Tree → Type 0
  stands test t = Stands (first_setting bytes at) (distinct_at bytes at) test (pushed_tree bytes t) (stated_at bytes at).symbols

  abbrev pass : (List WSym → Bool) → List ProofStep → Type 0
  pass test steps = Pass (first_setting bytes at) (distinct_at bytes at) test (substituted_from bytes (distinct_at bytes at) start steps)

  steps_fit : (steps : List ProofStep) → decoded bytes at ≡ Ok steps → AllFit bytes at 0 steps
  unfolding decoded
  steps_fit steps h = spelled_fit bytes at (stated_at bytes at).from (proof_of bytes at) steps h

  accepted_builds : (test : List WSym → Bool) (steps : List ProofStep) → decoded bytes at ≡ Ok steps → pass test steps → verdict_of bytes at ≡ Accepted → builds test steps
  unfolding verdict_of
  accepted_builds test steps h sure v =
      run_builds (first_setting bytes at) (distinct_at bytes at) test differ steps (stated_at bytes at).symbols (steps_fit steps h) sure
      (goal_alone bytes (distinct_at bytes at) (stated_at bytes at).symbols steps (ap (verdict_by bytes at) (sym h) ∙ v))

  any_pass : (vs : List (List ℕ)) → Pass (first_setting bytes at) (distinct_at bytes at) (λ s. true) vs
  any_pass [] = tt
  any_pass (v ∷ vs) = (refl, any_pass vs)

  -- an accepted proof has a label tree
  pub has_tree : verdict_of bytes at ≡ Accepted → (t : Tree) × Spells bytes at t
  unfolding verdict_of
  has_tree v = by (decoded bytes at) (λ steps h. accepted_builds (λ s. true) steps h (any_pass (substituted_from bytes (distinct_at bytes at) start steps)) v) refl v
    where
      by : (r : Result (List ProofStep) ProofFault) → ((steps : List ProofStep) → decoded bytes at ≡ Ok steps → builds (λ s. true) steps) → decoded bytes at ≡ r → verdict_by bytes at r ≡ Accepted → (t : Tree) × Spells bytes at t
      by (Ok steps) f e v = let b = f steps e in (b.tree, record { steps = steps; spelled = e; folds = b.folds })
      by (Err f) g e v = absurd (cc)

  same_tree : (t u : Tree) → (let o : Option (List Tree) = Some (t ∷ []) in o) ≡ Some (u ∷ []) → t ≡ u
  same_tree t u e = cc

  tree_stands_by : (test : List WSym → Bool) (t : Tree) → verdict_of bytes at ≡ Accepted → (s : Spells bytes at t) → pass test s.steps → stands test t
  tree_stands_by test t v s sure =
      let b = accepted_builds test s.steps s.spelled sure v in
      subst (stands test) (same_tree b.tree t (sym b.folds ∙ s.folds)) b.stands

  tree_stands : (t : Tree) → verdict_of bytes at ≡ Accepted → Spells bytes at t → stands (λ s. true) t
  tree_stands t v s = tree_stands_by (λ q. true) t v s (any_pass (substituted_from bytes (distinct_at bytes at) start s.steps))

  mapped : (test : List WSym → Bool) (vs : List (List ℕ)) → ByRecursion (λ v. test v ≡ true) (map (λ v. map (symbol_of bytes) v) vs) → Pass (first_setting bytes at) (distinct_at bytes at) test vs
  mapped test [] h = tt
  mapped test (v ∷ vs) h = (h.0, mapped test vs h.1)

  -- its values are those that the machine substitutes
  pub tree_passes : (test : List WSym → Bool) (t : Tree) → verdict_of bytes at ≡ Accepted → Spells bytes at t → All (λ v. test v ≡ true) (substituted_in bytes at) → HasValues test (pushed_tree bytes t)
  tree_passes test t v s all =
      let run : substituted_by bytes at (decoded bytes at) ≡ substituted_from bytes (distinct_at bytes at) start s.steps = ap (substituted_by bytes at) s.spelled in
      (tree_stands_by test t v s (subst (λ vs. Pass (first_setting bytes at) (distinct_at bytes at) test vs) run
      (mapped test (substituted_by bytes at (decoded bytes at)) (recursion_from_All (λ q. test q ≡ true) (substituted_in bytes at) all)))).pass

  -- whose tree proves the theorem
  pub tree_proves : (next : ℕ) (t : Tree) → verdict_of bytes at ≡ Accepted → Spells bytes at t → IsSmall t next → Proves bytes at (pushed_proof bytes t next)
  unfolding statement_of
  tree_proves next t v s small =
      let w = tree_stands t v s in
      record {
        valid = record {
          goal_is = w.target;
          steps = sound-raised (first_setting bytes at) next small.counter.0 (pushed_tree bytes t) w.sound;
          counter = small.counter;
          few = omega (arith, small.few, size_is bytes t w.complete);
          low = omega (arith, small.low, height_is bytes t w.complete);
        };
        complete = w.complete;
        apart = w.apart;
      }

  pub tree_labelled : (t : Tree) → verdict_of bytes at ≡ Accepted → Spells bytes at t → label_tree (pushed_tree bytes t) ≡ t
  tree_labelled t v s = same_one (label_tree (pushed_tree bytes t)) t (labelled bytes t (tree_stands t v s).complete)

  pub tree_without_works : (t : Tree) → verdict_of bytes at ≡ Accepted → Spells bytes at t → has_works (pushed_tree bytes t) ≡ false
  tree_without_works t v s = tree_plain bytes at (pushed_tree bytes t) (tree_stands t v s).sound
