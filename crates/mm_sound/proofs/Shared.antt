-- The machine on a complete proof that is written with back references.
use Rattle.std.proofs.Common.{◌≡◌, ℕ, zero, suc, ◌+◌, ◌-◌, ◌<◌, Bool, true, false, cond, List, [], ◌∷◌, ◌++◌, map, length, Option, None, Some, Result, Ok, Err, refl, sym, ap, ◌∙◌, subst, arith, append_assoc, append-nil, length-append, eqb}
use Rattle.std.proofs.lemmas.Bool.Decides.{nat_tests}
use Rattle.std.proofs.lemmas.Option.{none-some}
use Rattle.std.proofs.lemmas.List.{get_or_append_left}
use Rattle.std.proofs.Math.Seq.{get_or-append_seam}
use Rattle.mm_proof.specs.Trees.{Tree, Trees, none, more, tree, trees_of, same_tree}
use Rattle.mm_proof.specs.Compacting.{Whole, Writing, found, is_shared, earlier, named, with_whole, put, written, compact}
use Rattle.mm_proof.specs.Compacting as writing
use Rattle.mm_proof.specs.Encoding.{kind_of}
use Rattle.mm_proof.specs.Spelling.{is_named, kind_for as kind_read, steps_tagged, steps_read}
use Rattle.mm_proof.specs.Steps.{untagged}
use Rattle.mm_proof.specs.declared.step.ProofStep.{ProofStep}
use Rattle.mm_proof.specs.declared.written.Step.{Step}
use Rattle.mm_proof.specs.declared.written.Step.TheVariants.{Label, Unknown, Back}
use Rattle.mm_proof.proofs.Same.{same_tree_from}
use Rattle.mm_proof.proofs.Folds.{or_else, found-append}
use Rattle.mm_stack.specs.Entries.{result_at}
use Rattle.mm_stack.specs.Running.{Progress, start, pushing, after, run_step, run_from, run}
use Rattle.mm_stack.specs.declared.outcome.Verdict.{Verdict}
use Rattle.mm_sound.proofs.Runs.{at}

module _ (bytes : List ℕ) (groups : List (List ℕ)) where
  -- a label's step pushes an entry in place of those of its children
  abbrev pub Pushes : ℕ → List (List ℕ) → List ℕ → Type 0
  Pushes l ds e = (stack results : List (List ℕ)) → run_step bytes groups (at (stack ++ ds) results) (kind_of bytes l) ≡ Ok (at (stack ++ e ∷ []) (results ++ e ∷ []))

  -- the entries of label trees
  abbrev pub Derive : Trees → List (List ℕ) → Type 0
  Derive none [] = Unit {0}
  Derive none (e ∷ es) = ⊥
  Derive (more l cs rest) [] = ⊥
  Derive (more l cs rest) (e ∷ es) = (ds : List (List ℕ)) × (Derive cs ds × (Pushes l ds e × Derive rest es))

  progress_same : (p q : Progress) → (let r : Result Progress Verdict = Ok p in r) ≡ Ok q → p ≡ q
  progress_same p q h = cc

  entry_first : List (List ℕ) → List ℕ
  entry_first [] = []
  entry_first (e ∷ es) = e

  head_same : (d e : List ℕ) → (let r : Result Progress Verdict = Ok (at (d ∷ []) (d ∷ [])) in r) ≡ Ok (at (e ∷ []) (e ∷ [])) → d ≡ e
  unfolding entry_first
  head_same d e h = ap (λ p. entry_first p.stack) (progress_same (at (d ∷ []) (d ∷ [])) (at (e ∷ []) (e ∷ [])) h)

  -- label trees have no other entries
  same_entries : (ts : Trees) (es fs : List (List ℕ)) → Derive ts es → Derive ts fs → es ≡ fs
  same_entries none [] [] h g = refl
  same_entries none [] (f ∷ fs) h g = absurd g
  same_entries none (e ∷ es) fs h g = absurd h
  same_entries (more l cs rest) [] fs h g = absurd h
  same_entries (more l cs rest) (e ∷ es) [] h g = absurd g
  same_entries (more l cs rest) (e ∷ es) (f ∷ fs) h g =
      let same : h.0 ≡ g.0 = same_entries cs h.0 g.0 h.1.0 g.1.0 in
      let first : e ≡ f = head_same e f (sym (h.1.1.0 [] []) ∙ ap (λ ds. run_step bytes groups (at ds []) (kind_of bytes l)) same ∙ g.1.1.0 [] []) in
      ap (λ x. x ∷ es) first ∙ ap (λ xs. f ∷ xs) (same_entries rest es fs h.1.1.1 g.1.1.1)

  first_same : (d e : List ℕ) → (let xs : List (List ℕ) = d ∷ [] in xs) ≡ e ∷ [] → d ≡ e
  first_same d e h = cc

  same_entry : (t : Tree) (d e : List ℕ) → Derive (trees_of (t ∷ [])) (d ∷ []) → Derive (trees_of (t ∷ [])) (e ∷ []) → d ≡ e
  same_entry t d e h g = first_same d e (same_entries (trees_of (t ∷ [])) (d ∷ []) (e ∷ []) h g)

  -- the steps as they are read
  abbrev pub reads : List Step → List ProofStep
  reads ss = map (λ s. untagged (kind_read (kind_of bytes) s)) ss

  -- what is seen has its entry as the result at its place
  abbrev Fit : List Whole → List (List ℕ) → Type 0
  Fit seen results = (t : Tree) (k : ℕ) → found seen t ≡ Some k → (k < length results) × ((e : List ℕ) → Derive (trees_of (t ∷ [])) (e ∷ []) → result_at results k ≡ e)

  -- the machine stands behind the steps of a writing
  record Stands (w : Writing) (p : Progress) : Type 0 where
    runs : run_from bytes groups start (reads w.steps) ≡ Ok p
    many : length p.results ≡ length w.steps
    fit : Fit w.seen p.results

  more_by : (r : Result Progress Verdict) (ss : List ProofStep) (s : ProofStep)
      → ((q : Progress) → run_from bytes groups q (ss ++ s ∷ []) ≡ after (run_from bytes groups q ss) (λ u. run_step bytes groups u s.kind))
      → after r (λ q. run_from bytes groups q (ss ++ s ∷ [])) ≡ after (after r (λ q. run_from bytes groups q ss)) (λ u. run_step bytes groups u s.kind)
  more_by (Ok q) ss s h = h q
  more_by (Err v) ss s h = refl

  last_by : (r : Result Progress Verdict) → after r (λ q. run_from bytes groups q []) ≡ r
  unfolding run_from
  last_by (Ok q) = refl
  last_by (Err v) = refl

  -- one step more
  one_more : (ss : List ProofStep) (s : ProofStep) (p : Progress) → run_from bytes groups p (ss ++ s ∷ []) ≡ after (run_from bytes groups p ss) (λ u. run_step bytes groups u s.kind)
  unfolding run_from
  one_more [] s p = last_by (run_step bytes groups p s.kind)
  one_more (x ∷ ss) s p = more_by (run_step bytes groups p x.kind) ss s (one_more ss s)

  reads-more : (ss : List Step) (s : Step) → reads (ss ++ s ∷ []) ≡ reads ss ++ untagged (kind_read (kind_of bytes) s) ∷ []
  reads-more [] s = refl
  reads-more (x ∷ ss) s = ap (λ ys. untagged (kind_read (kind_of bytes) x) ∷ ys) (reads-more ss s)

  goes_on : (ss : List Step) (s : Step) (p next : Progress) → run_from bytes groups start (reads ss) ≡ Ok p → run_step bytes groups p (kind_read (kind_of bytes) s) ≡ Ok next
      → run_from bytes groups start (reads (ss ++ s ∷ [])) ≡ Ok next
  goes_on ss s p next h e =
      ap (run_from bytes groups start) (reads-more ss s)
      ∙ one_more (reads ss) (untagged (kind_read (kind_of bytes) s)) start
      ∙ ap (λ r. after r (λ u. run_step bytes groups u (kind_read (kind_of bytes) s))) h
      ∙ e

  many_more : (rs : List (List ℕ)) (ss : List Step) (e : List ℕ) (s : Step) → length rs ≡ length ss → length (rs ++ e ∷ []) ≡ length (ss ++ s ∷ [])
  many_more rs ss e s h = omega (arith, length-append rs (e ∷ []), length-append ss (s ∷ []))

  fit_more : (seen : List Whole) (results : List (List ℕ)) (e : List ℕ) → Fit seen results → Fit seen (results ++ e ∷ [])
  fit_more seen results e h t k at_k =
      let w = h t k at_k in
      (omega (arith, w.0, length-append results (e ∷ [])), λ d g. get_or_append_left results (e ∷ []) [] k w.0 ∙ w.1 d g)

  fit_by : (o : Option ℕ) (b : Bool) (place k : ℕ) (P : Type 0) → or_else o (cond b (Some place) None) ≡ Some k → (o ≡ Some k → P) → (b ≡ true → place ≡ k → P) → P
  fit_by None true place k P h one other = other refl cc
  fit_by None false place k P h one other = absurd (none-some k h)
  fit_by (Some j) b place k P h one other = one h

  -- a tree that is written whole, as the next step
  fit_whole : (b : Bool) (seen : List Whole) (results : List (List ℕ)) (t : Tree) (place : ℕ) (e : List ℕ) → length results ≡ place → Derive (trees_of (t ∷ [])) (e ∷ [])
      → Fit seen results → Fit (cond b (seen ++ record { tree = t; place = place } ∷ []) seen) (results ++ e ∷ [])
  fit_whole false seen results t place e is derived h u k at_k = fit_more seen results e h u k at_k
  fit_whole true seen results t place e is derived h u k at_k =
      fit_by (found seen u) (same_tree t u) place k ((k < length (results ++ e ∷ [])) × ((d : List ℕ) → Derive (trees_of (u ∷ [])) (d ∷ []) → result_at (results ++ e ∷ []) k ≡ d))
      (sym (found-append seen (record { tree = t; place = place }) u) ∙ at_k)
      (λ one. fit_more seen results e h u k one)
      (λ same there. (
        omega (arith, is, there, length-append results (e ∷ [])),
        λ d g. ap (result_at (results ++ e ∷ [])) (sym (is ∙ there)) ∙ get_or-append_seam results e [] [] ∙ same_entry t e d derived (let P : Tree → Type 0 = λ x. Derive (trees_of (x ∷ [])) (d ∷ []) in subst P (sym (same_tree_from t u same)) g),
      ))

  -- a back reference
  stands_back : (w : Writing) (p : Progress) (t : Tree) (k : ℕ) (e : List ℕ) → Stands w p → found w.seen t ≡ Some k → Derive (trees_of (t ∷ [])) (e ∷ [])
      → Stands (record { steps = w.steps ++ Back k ∷ []; seen = w.seen }) (pushing p e)
  stands_back w p t k e s at_k derived = record {
    runs = goes_on w.steps (Back k) p (pushing p e) s.runs (ap (λ n. Ok (pushing p (result_at p.results n))) (let one : k + 1 - 1 ≡ k = omega arith in one) ∙ ap (λ x. Ok (pushing p x)) ((s.fit t k at_k).1 e derived));
    many = many_more p.results w.steps e (Back k) s.many;
    fit = fit_more w.seen p.results e s.fit;
  }

  -- what is named is the label's step
  kind_named : (l : ℕ) → kind_read (kind_of bytes) (named l) ≡ kind_of bytes l
  unfolding kind_of
  kind_named zero = refl
  kind_named (suc n) = ap (λ b. kind_read (kind_of bytes) (cond b Unknown (Label (suc n)))) (none_zero n)
    where
      none_zero : (m : ℕ) → eqb (suc m) 0 ≡ false
      none_zero m = grind (arith, nat_tests)

  -- a tree's own step
  stands_whole : (walked : Writing) (base ds results : List (List ℕ)) (l : ℕ) (cs : Trees) (e : List ℕ) → Derive cs ds → Pushes l ds e → Stands walked (at (base ++ ds) results)
      → Stands (record { steps = walked.steps ++ named l ∷ []; seen = with_whole walked.seen (tree l cs) (length walked.steps) }) (at (base ++ e ∷ []) (results ++ e ∷ []))
  stands_whole walked base ds results l cs e derived pushes s = record {
    runs = goes_on walked.steps (named l) (at (base ++ ds) results) (at (base ++ e ∷ []) (results ++ e ∷ [])) s.runs
        (ap (run_step bytes groups (at (base ++ ds) results)) (kind_named l) ∙ pushes base results);
    many = many_more results walked.steps e (named l) s.many;
    fit = fit_whole (is_shared (tree l cs)) walked.seen results (tree l cs) (length walked.steps) e s.many (ds, (derived, (pushes, tt))) s.fit;
  }

  earlier_by : (b : Bool) (o : Option ℕ) (k : ℕ) → cond b o None ≡ Some k → o ≡ Some k
  earlier_by true o k h = h
  earlier_by false o k h = absurd (none-some k h)

  put_by : (o : Option ℕ) (w walked : Writing) (p : Progress) (ds results : List (List ℕ)) (l : ℕ) (cs : Trees) (e : List ℕ) → Derive cs ds → Pushes l ds e
      → ((k : ℕ) → o ≡ Some k → found w.seen (tree l cs) ≡ Some k) → Stands w p → Stands walked (at (p.stack ++ ds) results)
      → (rs : List (List ℕ)) × Stands (put o (tree l cs) w walked) (at (p.stack ++ e ∷ []) rs)
  put_by None w walked p ds results l cs e derived pushes at_k s v = (results ++ e ∷ [], stands_whole walked p.stack ds results l cs e derived pushes v)
  put_by (Some k) w walked p ds results l cs e derived pushes at_k s v = (p.results ++ e ∷ [], stands_back w p (tree l cs) k e s (at_k k refl) (ds, (derived, (pushes, tt))))

  stands_at : (w : Writing) (results x y : List (List ℕ)) → x ≡ y → Stands w (at x results) → Stands w (at y results)
  stands_at w results x y e s = subst (λ z. Stands w (at z results)) e s

  -- the steps that are written for trees run to their entries
  written_stands : (ts : Trees) (es : List (List ℕ)) (w : Writing) (p : Progress) → Derive ts es → Stands w p → (rs : List (List ℕ)) × Stands (written w ts) (at (p.stack ++ es) rs)
  unfolding written
  written_stands none [] w p d s = (p.results, stands_at w p.results p.stack (p.stack ++ []) (sym (append-nil p.stack)) s)
  written_stands none (e ∷ es) w p d s = absurd d
  written_stands (more l cs rest) [] w p d s = absurd d
  written_stands (more l cs rest) (e ∷ es) w p d s =
      let o : Option ℕ = earlier w.seen (tree l cs) in
      let one = written_stands cs d.0 w p d.1.0 s in
      let two = put_by o w (written w cs) p d.0 one.0 l cs e d.1.0 d.1.1.0 (λ k. earlier_by (is_shared (tree l cs)) (found w.seen (tree l cs)) k) s one.1 in
      let three = written_stands rest es (put o (tree l cs) w (written w cs)) (at (p.stack ++ e ∷ []) two.0) d.1.1.1 two.1 in
      (three.0, stands_at (written w (more l cs rest)) three.0 _ _ (append_assoc p.stack (e ∷ []) es) three.1)

  stands_first : Stands writing.start start
  unfolding run_from
  stands_first = record { runs = refl; many = refl; fit = λ t k e. absurd (none-some k e) }

  -- a tag changes nothing
  untag : (tagged : ℕ → Bool) (i : ℕ) (ss : List Step) (p : Progress) → run_from bytes groups p (steps_tagged (kind_of bytes) tagged i ss) ≡ run_from bytes groups p (reads ss)
  unfolding run_from
  untag tagged i [] p = refl
  untag tagged i (s ∷ ss) p = by (run_step bytes groups p (kind_read (kind_of bytes) s)) (λ n. untag tagged (i + 1) ss n)
    where
      by : (r : Result Progress Verdict) → ((n : Progress) → run_from bytes groups n (steps_tagged (kind_of bytes) tagged (i + 1) ss) ≡ run_from bytes groups n (reads ss))
          → after r (λ n. run_from bytes groups n (steps_tagged (kind_of bytes) tagged (i + 1) ss)) ≡ after r (λ n. run_from bytes groups n (reads ss))
      by (Ok n) later = later n
      by (Err v) later = refl

  -- a tree that is written with back references runs to its entry
  pub compact_runs : (t : Tree) (e : List ℕ) → Derive (trees_of (t ∷ [])) (e ∷ []) → run bytes groups (steps_read (kind_of bytes) (compact t)) ≡ Ok (e ∷ [])
  compact_runs t e d =
      let s = written_stands (trees_of (t ∷ [])) (e ∷ []) writing.start start d stands_first in
      ap (λ r. after r (λ p. Ok p.stack)) (untag (is_named (compact t)) 0 (compact t) start ∙ s.1.runs)
