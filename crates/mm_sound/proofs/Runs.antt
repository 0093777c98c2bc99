-- The machine on the steps of a valid and complete proof.
use Rattle.std.proofs.Common.{◌≡◌, ◌≤◌, ◌+◌, ℕ, Bool, true, false, ◌==◌, List, [], ◌∷◌, ◌++◌, map, length, None, Some, is_some, Ok, refl, sym, ap, ◌∙◌, subst, arith, append_assoc, append-nil, if◌then◌else◌, All}
use Rattle.std.proofs.lemmas.Bool.{true≢false, false≢true, not-false}
use Rattle.std.proofs.lemmas.List.{map-append}
use Rattle.std.proofs.lemmas.List.Concat.{flat_map-cons}
use Rattle.std.specs.List.{flat_map, list_any}
use Rattle.std.specs.Cmp.Lexicographic.{pointwise}
use Rattle.mm_scope.specs.Contents.{stated_at, statements_of, is_variable_of, distinct_at}
use Rattle.mm_stated.specs.Mandatory.{variables_of}
use Rattle.mm_stated.specs.Stated.{is_hypothesis}
use Rattle.mm_subst.specs.Statements.{symbol_of, statement_of}
use Rattle.mm_subst.specs.Substitutions.{Pairs, value_at, applied}
use Rattle.mm_subst.specs.Substitutions as string
use Rattle.mm_subst.specs.Symbols.{is_same}
use Rattle.mm_subst.specs.declared.symbol.WSym.{WSym}
use Rattle.mm_subst.specs.declared.symbol.WSym.TheVariants.{Const, Var, Work}
use Rattle.mm_plain.specs.declared.plain.Plain.{Plain}
use Rattle.mm_plain.specs.Premises.{premises_of, variables_for}
use Rattle.mm_plain.specs.Shape.{Each, Proof, known, unknown, steps_of, target_of}
use Rattle.mm_plain.specs.Sources.{label_of, sigma_of}
use Rattle.mm_plain.specs.Valid.{Setting, setting_of, IsInstance, IsSound, IsValid}
use Rattle.mm_plain.proofs.Keys.{is_among, keys_among}
use Rattle.mm_plain.proofs.Equations.{by_trees, steps_of-unknown, steps_of-known, target_of-known}
use Rattle.mm_plain.proofs.Kept.{kids-sound}
use Rattle.mm_plain.proofs.Read.{label_of-known, label_of-unknown, sigma_of-known, is_pending-known}
use Rattle.mm_stated.specs.Stated.{Stated}
use Rattle.mm_proof.specs.declared.step.ProofStep.{ProofStep}
use Rattle.mm_proof.specs.declared.step.StepKind.TheVariants.{Hyp, Apply}
use Rattle.mm_stack.specs.Running.{Progress, start, run_from, run_step, run, after}
use Rattle.mm_stack.specs.Running as machine
use Rattle.mm_sound.specs.Apart.{AreParted, KeepsPairs, IsApart, pairs_by}
use Rattle.mm_sound.specs.Complete.{IsDone, IsComplete, kind_for, step_for, spelled}
use Rattle.mm_sound.specs.Proves.{Proves}
use Rattle.mm_sound.specs.Numbers.{numbers}
use Rattle.mm_sound.proofs.Strings.{meaning, numbers-statement, numbers-applied, length-numbers, itself, no_value, none_there, unchanged, same_string}
use Rattle.mm_sound.proofs.Popped.{entry_for}
use Rattle.mm_sound.proofs.Pairs.{none_violated}
use Rattle.mm_sound.proofs.Assertion.{concludes, applies}

each-left : (P : Plain → Type 0) (xs ys : List Plain) → Each P (xs ++ ys) → Each P xs
each-left P [] ys a = tt
each-left P (x ∷ xs) ys a = (a.0, each-left P xs ys a.1)

each-right : (P : Plain → Type 0) (xs ys : List Plain) → Each P (xs ++ ys) → Each P ys
each-right P [] ys a = a
each-right P (x ∷ xs) ys a = each-right P xs ys a.1

each-kids : (P : Plain → Type 0) (kids : List Plain) → Each P (flat_map steps_of kids) → Each (λ x. Each P (steps_of x)) kids
each-kids P [] e = tt
each-kids P (x ∷ xs) e = let f = subst (Each P) (flat_map-cons steps_of x xs) e in (each-left P (steps_of x) (flat_map steps_of xs) f, each-kids P xs (each-right P (steps_of x) (flat_map steps_of xs) f))

-- a fact of each step of a tree is one of each child's steps and of the root
pub split : (P : Plain → Type 0) (t : List WSym) (l : ℕ) (s : Pairs) (kids : List Plain) → Each P (steps_of (known t l s kids)) → Each (λ x. Each P (steps_of x)) kids × P (known t l s kids)
split P t l s kids e =
    let f = subst (Each P) (steps_of-known t l s kids) e in
    (each-kids P kids (each-left P (flat_map steps_of kids) (known t l s kids ∷ []) f), (each-right P (flat_map steps_of kids) (known t l s kids ∷ []) f).0)

-- the entry of a tree
abbrev pub entry_of : Plain → List ℕ
entry_of x = numbers (target_of x)

-- where the machine stands after the steps of a tree: its target is on the stack, and each step has that of its own
abbrev pub after_tree : Progress → Plain → Progress
after_tree p x = record { stack = p.stack ++ entry_of x ∷ []; results = p.results ++ map entry_of (steps_of x) }

-- the same of several trees
abbrev pub after_trees : Progress → List Plain → Progress
after_trees p xs = record { stack = p.stack ++ map entry_of xs; results = p.results ++ map entry_of (flat_map steps_of xs) }

-- the machine goes on with the target of a tree on its stack
abbrev pub Runs : List ℕ → List (List ℕ) → Plain → Type 0
Runs bytes groups x = (p : Progress) (rest : List ProofStep) → run_from bytes groups p (spelled bytes x ++ rest) ≡ run_from bytes groups (after_tree p x) rest

abbrev pub RunAll : List ℕ → List (List ℕ) → List Plain → Type 0
RunAll bytes groups xs = (p : Progress) (rest : List ProofStep)
    → run_from bytes groups p (map (step_for bytes) (map label_of (flat_map steps_of xs)) ++ rest) ≡ run_from bytes groups (after_trees p xs) rest

pub spelled-append : (bytes : List ℕ) (xs ys : List Plain) → map (step_for bytes) (map label_of (xs ++ ys)) ≡ map (step_for bytes) (map label_of xs) ++ map (step_for bytes) (map label_of ys)
spelled-append bytes xs ys = ap (map (step_for bytes)) (map-append label_of xs ys) ∙ map-append (step_for bytes) (map label_of xs) (map label_of ys)

-- a progress by its parts
abbrev pub at : List (List ℕ) → List (List ℕ) → Progress
at stack results = record { stack = stack; results = results }

after_more : (p : Progress) (x : Plain) (xs : List Plain) → after_trees (after_tree p x) xs ≡ after_trees p (x ∷ xs)
after_more p x xs =
    ap (λ s. at s ((p.results ++ map entry_of (steps_of x)) ++ map entry_of (flat_map steps_of xs))) (append_assoc p.stack (entry_of x ∷ []) (map entry_of xs))
    ∙ ap (at (p.stack ++ map entry_of (x ∷ xs))) (append_assoc p.results (map entry_of (steps_of x)) (map entry_of (flat_map steps_of xs))
    ∙ ap (λ ys. p.results ++ ys) (sym (map-append entry_of (steps_of x) (flat_map steps_of xs)) ∙ ap (map entry_of) (sym (flat_map-cons steps_of x xs))))

all_run : (bytes : List ℕ) (groups : List (List ℕ)) (xs : List Plain) → Each (Runs bytes groups) xs → RunAll bytes groups xs
all_run bytes groups [] e p rest = ap (λ q. run_from bytes groups q rest) (ap (λ s. at s p.results) (sym (append-nil p.stack)) ∙ ap (at (p.stack ++ [])) (sym (append-nil p.results)))
all_run bytes groups (x ∷ xs) e p rest =
    let more : List ProofStep = map (step_for bytes) (map label_of (flat_map steps_of xs)) in
    ap (λ ys. run_from bytes groups p (map (step_for bytes) (map label_of ys) ++ rest)) (flat_map-cons steps_of x xs)
    ∙ ap (λ ss. run_from bytes groups p (ss ++ rest)) (spelled-append bytes (steps_of x) (flat_map steps_of xs))
    ∙ ap (run_from bytes groups p) (append_assoc (spelled bytes x) more rest)
    ∙ e.0 p (more ++ rest)
    ∙ all_run bytes groups xs e.1 (after_tree p x) rest
    ∙ ap (λ q. run_from bytes groups q rest) (after_more p x xs)

-- the last step of a tree
last_step : (bytes : List ℕ) (groups : List (List ℕ)) (p next : Progress) (s : ProofStep) (rest : List ProofStep) → run_step bytes groups p s.kind ≡ Ok next
    → run_from bytes groups p (s ∷ rest) ≡ run_from bytes groups next rest
unfolding run_from
last_step bytes groups p next s rest e = ap (λ r. after r (λ n. run_from bytes groups n rest)) e

-- a step of a valid and complete proof that keeps its pairs
pub record IsStep (c : Setting) (groups : List (List ℕ)) (t : List WSym) (l : ℕ) (s : Pairs) (kids : List Plain) : Type 0 where
  is : IsInstance c t l s (map target_of kids)
  source : t ≡ applied s (statement_of c.bytes l)
  pairs : All (λ p. AreParted groups (string.value_of s (Var p.0)) (string.value_of s (Var p.1))) (stated_at c.bytes l).pairs

pub settled : (bytes : List ℕ) (t : List WSym) (l : ℕ) (s : Pairs) (kids : List Plain) → IsDone bytes (known t l s kids) → t ≡ applied s (statement_of bytes l)
settled bytes t l s kids d =
    same_string t (applied s (statement_of bytes l)) (not-false (pointwise is_same t (applied s (statement_of bytes l))) (sym (is_pending-known bytes t l s kids) ∙ d.settled))

kept_pairs : (bytes : List ℕ) (groups : List (List ℕ)) (t : List WSym) (l : ℕ) (s : Pairs) (kids : List Plain) → KeepsPairs bytes groups (known t l s kids)
    → All (λ p. AreParted groups (string.value_of s (Var p.0)) (string.value_of s (Var p.1))) (stated_at bytes l).pairs
kept_pairs bytes groups t l s kids h =
    subst (λ u. All (λ p. AreParted groups (string.value_of u (Var p.0)) (string.value_of u (Var p.1))) (stated_at bytes l).pairs) (sigma_of-known t l s kids)
    (subst (λ o. All (λ p. AreParted groups (string.value_of (sigma_of (known t l s kids)) (Var p.0)) (string.value_of (sigma_of (known t l s kids)) (Var p.1))) (pairs_by bytes o)) (label_of-known t l s kids) h)

pub is_step : (c : Setting) (groups : List (List ℕ)) (t : List WSym) (l : ℕ) (s : Pairs) (kids : List Plain) → IsInstance c t l s (map target_of kids) → IsDone c.bytes (known t l s kids)
    → KeepsPairs c.bytes groups (known t l s kids) → IsStep c groups t l s kids
is_step c groups t l s kids is d h = record { is = is; source = settled c.bytes t l s kids d; pairs = kept_pairs c.bytes groups t l s kids h }

-- what a step needs
unfoldable pub premises_by : List ℕ → ℕ → Bool → List (List WSym)
premises_by bytes l b = if b then [] else map (statement_of bytes) (stated_at bytes l).mandatory

unfoldable pub variables_by : List ℕ → ℕ → Bool → List ℕ
variables_by bytes l b = if b then [] else variables_of (statements_of bytes) (stated_at bytes l).mandatory

pub premises_are : (bytes : List ℕ) (l : ℕ) (b : Bool) → is_hypothesis (stated_at bytes l).kind ≡ b → premises_of bytes l ≡ premises_by bytes l b
unfolding premises_of premises_by
premises_are bytes l b e = ap (premises_by bytes l) e

pub variables_are : (bytes : List ℕ) (l : ℕ) (b : Bool) → is_hypothesis (stated_at bytes l).kind ≡ b → variables_for bytes l ≡ variables_by bytes l b
unfolding variables_for variables_by
variables_are bytes l b e = ap (variables_by bytes l) e

twice : {A B C : Type 0} (f : B → C) (g : A → B) (xs : List A) → map f (map g xs) ≡ map (λ x. f (g x)) xs
twice f g [] = refl
twice f g (x ∷ xs) = ap (λ ys. f (g x) ∷ ys) (twice f g xs)

entries_are : (bytes : List ℕ) (s : Pairs) (ms : List ℕ) → map numbers (map (applied s) (map (statement_of bytes) ms)) ≡ map (entry_for bytes s) ms
entries_are bytes s [] = refl
entries_are bytes s (m ∷ ms) =
    ap (λ x. x ∷ map numbers (map (applied s) (map (statement_of bytes) ms))) (numbers-applied bytes s m) ∙ ap (λ xs. entry_for bytes s m ∷ xs) (entries_are bytes s ms)

module _ (c : Setting) (groups : List (List ℕ)) (t : List WSym) (l : ℕ) (s : Pairs) (kids : List Plain) (step : IsStep c groups t l s kids) where
  -- the entries of the children
  entries : (b : Bool) → is_hypothesis (stated_at c.bytes l).kind ≡ b → map (λ x. numbers (target_of x)) kids ≡ map numbers (map (applied s) (premises_by c.bytes l b))
  entries b e = sym (twice numbers target_of kids) ∙ ap (map numbers) (step.is.children ∙ ap (map (applied s)) (premises_are c.bytes l b e))

  free_of : (b : Bool) → is_hypothesis (stated_at c.bytes l).kind ≡ b → (n : ℕ) → list_any (λ v. n == v) (variables_by c.bytes l b) ≡ false → value_at s (symbol_of c.bytes n) ≡ None
  free_of b e n h = no_value c.bytes (variables_by c.bytes l b) s
      (keys_among s (variables_by c.bytes l b) (step.is.names.keys ∙ ap (map Var) (variables_are c.bytes l b e))) n (λ _. h)

  constant : (n : ℕ) → is_variable_of c.bytes n ≡ false → meaning c.bytes s n ≡ n ∷ []
  constant n off = itself c.bytes s n (no_value c.bytes (variables_for c.bytes l) s (keys_among s (variables_for c.bytes l) step.is.names.keys) n (λ on. absurd (true≢false (sym on ∙ off))))

  same_target : numbers t ≡ entry_for c.bytes s l
  same_target = ap numbers step.source ∙ numbers-applied c.bytes s l

  no_keys : is_hypothesis (stated_at c.bytes l).kind ≡ true → (x : WSym) → value_at s x ≡ None
  unfolding variables_by
  no_keys e x = none_there (value_at s x) (keys_among s [] (step.is.names.keys ∙ ap (map Var) (variables_are c.bytes l true e)) x ∙ among_none x)
    where
      among_none : (y : WSym) → is_among [] y ≡ false
      among_none (Const n) = refl
      among_none (Var n) = refl
      among_none (Work n) = refl

  pub done_by : (b : Bool) → is_hypothesis (stated_at c.bytes l).kind ≡ b → (stack results : List (List ℕ))
      → run_step c.bytes groups (at (stack ++ map entry_of kids) results) (kind_for c.bytes (Some l)) ≡ Ok (at (stack ++ numbers t ∷ []) (results ++ numbers t ∷ []))
  unfolding premises_by variables_by
  done_by true e stack results =
      ap (λ b. run_step c.bytes groups (at (stack ++ map entry_of kids) results) (if b then Hyp (record { 0 = l }) else Apply (record { 0 = l }))) e
      ∙ ap (λ es. Ok (at ((stack ++ es) ++ (stated_at c.bytes l).symbols ∷ []) (results ++ (stated_at c.bytes l).symbols ∷ []))) (entries true e)
      ∙ ap (λ xs. Ok (at (xs ++ (stated_at c.bytes l).symbols ∷ []) (results ++ (stated_at c.bytes l).symbols ∷ []))) (append-nil stack)
      ∙ ap (λ x. Ok (at (stack ++ x ∷ []) (results ++ x ∷ []))) (sym (ap numbers (step.source ∙ unchanged s (no_keys e) (statement_of c.bytes l)) ∙ numbers-statement c.bytes l))
  done_by false e stack results =
      let a : Stated = stated_at c.bytes l in
      let short : length (entry_for c.bytes s l) ≤ machine.most_symbols = omega (arith, ap length same_target, length-numbers t, step.is.target.short) in
      let free : (n : ℕ) → list_any (λ v. n == v) (variables_of (statements_of c.bytes) a.mandatory) ≡ false → meaning c.bytes s n ≡ n ∷ [] = λ n h. itself c.bytes s n (free_of false e n h) in
      let es : List (List ℕ) = map (entry_for c.bytes s) a.mandatory in
      ap (λ b. run_step c.bytes groups (at (stack ++ map entry_of kids) results) (if b then Hyp (record { 0 = l }) else Apply (record { 0 = l }))) e
      ∙ ap (λ xs. machine.applying c.bytes groups a (at (stack ++ xs) results)) (entries false e ∙ entries_are c.bytes s a.mandatory)
      ∙ ap (λ r. after r (λ q. Ok (at q (results ++ machine.conclusion_at c.bytes a (stack ++ es) ∷ []))))
      (applies c.bytes s constant groups l (stack) (length results + 1) free (none_violated c s step.is.names.values constant groups (length results + 1) a.pairs step.pairs) short)
      ∙ ap (λ x. Ok (at (stack ++ entry_for c.bytes s l ∷ []) (results ++ x ∷ []))) (concludes c.bytes s constant l stack free)
      ∙ ap (λ x. Ok (at (stack ++ x ∷ []) (results ++ x ∷ []))) (sym same_target)

  spells : spelled c.bytes (known t l s kids) ≡ map (step_for c.bytes) (map label_of (flat_map steps_of kids)) ++ step_for c.bytes (Some l) ∷ []
  spells =
      ap (λ xs. map (step_for c.bytes) (map label_of xs)) (steps_of-known t l s kids)
      ∙ spelled-append c.bytes (flat_map steps_of kids) (known t l s kids ∷ [])
      ∙ ap (λ o. map (step_for c.bytes) (map label_of (flat_map steps_of kids)) ++ step_for c.bytes o ∷ []) (label_of-known t l s kids)

  after_root : (p : Progress) → at (p.stack ++ numbers t ∷ []) ((p.results ++ map entry_of (flat_map steps_of kids)) ++ numbers t ∷ []) ≡ after_tree p (known t l s kids)
  after_root p =
      ap (at (p.stack ++ numbers t ∷ [])) (append_assoc p.results (map entry_of (flat_map steps_of kids)) (numbers t ∷ []))
      ∙ ap (λ u. at (p.stack ++ numbers u ∷ []) (p.results ++ (map entry_of (flat_map steps_of kids) ++ numbers u ∷ []))) (sym (target_of-known t l s kids))
      ∙ ap (λ ys. at (p.stack ++ entry_of (known t l s kids) ∷ []) (p.results ++ ys)) (sym (map-append entry_of (flat_map steps_of kids) (known t l s kids ∷ [])) ∙ ap (map entry_of) (sym (steps_of-known t l s kids)))

  known_runs : Each (Runs c.bytes groups) kids → Runs c.bytes groups (known t l s kids)
  known_runs e p rest =
      let more : List ProofStep = map (step_for c.bytes) (map label_of (flat_map steps_of kids)) in
      let last : ProofStep = step_for c.bytes (Some l) in
      ap (λ ss. run_from c.bytes groups p (ss ++ rest)) spells
      ∙ ap (run_from c.bytes groups p) (append_assoc more (last ∷ []) rest)
      ∙ all_run c.bytes groups kids e p (last ∷ rest)
      ∙ last_step c.bytes groups (after_trees p kids) (at (p.stack ++ numbers t ∷ []) ((p.results ++ map entry_of (flat_map steps_of kids)) ++ numbers t ∷ [])) last rest
      (done_by (is_hypothesis (stated_at c.bytes l).kind) refl p.stack (p.results ++ map entry_of (flat_map steps_of kids)))
      ∙ ap (λ q. run_from c.bytes groups q rest) (after_root p)

each_by : (A B C R : Plain → Type 0) (xs : List Plain) → Each (λ x. A x → B x → C x → R x) xs → Each A xs → Each B xs → Each C xs → Each R xs
each_by A B C R [] f a b c = tt
each_by A B C R (x ∷ xs) f a b c = (f.0 a.0 b.0 c.0, each_by A B C R xs f.1 a.1 b.1 c.1)

pub never_unknown : (bytes : List ℕ) (t : List WSym) → Each (IsDone bytes) (steps_of (unknown t)) → ⊥
never_unknown bytes t e =
    let d = (subst (Each (IsDone bytes)) (steps_of-unknown t) e).0 in
    absurd (false≢true (ap (λ o. is_some o) (sym (label_of-unknown t)) ∙ d.known))

-- each tree that is sound, complete and keeps its pairs runs
pub tree_runs : (c : Setting) (groups : List (List ℕ)) (x : Plain) → IsSound c x → IsComplete c.bytes x → IsApart c.bytes groups x → Runs c.bytes groups x
tree_runs c groups = by_trees (λ x. IsSound c x → IsComplete c.bytes x → IsApart c.bytes groups x → Runs c.bytes groups x)
    (λ t v d a. absurd (never_unknown c.bytes t d))
    (λ t l s kids h v d a.
    let vs = kids-sound c t l s kids v in
    let ds = split (IsDone c.bytes) t l s kids d in
    let ps = split (KeepsPairs c.bytes groups) t l s kids a in
    known_runs c groups t l s kids (is_step c groups t l s kids vs.1 ds.1 ps.1)
    (each_by (IsSound c) (IsComplete c.bytes) (IsApart c.bytes groups) (Runs c.bytes groups) kids h vs.0 ds.0 ps.0))

-- the run of a valid and complete proof
pub proof_runs : (bytes : List ℕ) (at : ℕ) (goal : List WSym) (p : Proof) (groups : List (List ℕ)) → IsValid bytes at goal p → IsComplete bytes p.plain → IsApart bytes groups p.plain
    → run bytes groups (spelled bytes p.plain) ≡ Ok (numbers goal ∷ [])
unfolding run_from
proof_runs bytes id goal p groups v d a =
    ap (λ r. after r (λ q. Ok q.stack)) (ap (run_from bytes groups start) (sym (append-nil (spelled bytes p.plain))) ∙ tree_runs (setting_of bytes id p) groups p.plain v.steps d a start [])
    ∙ ap (λ g. Ok (numbers g ∷ [])) v.goal_is

pub theorem_runs : (bytes : List ℕ) (at : ℕ) (p : Proof) → Proves bytes at p → run bytes (distinct_at bytes at) (spelled bytes p.plain) ≡ Ok ((stated_at bytes at).symbols ∷ [])
theorem_runs bytes id p v = proof_runs bytes id (statement_of bytes id) p (distinct_at bytes id) v.valid v.complete v.apart ∙ ap (λ x. Ok (x ∷ [])) (numbers-statement bytes id)
