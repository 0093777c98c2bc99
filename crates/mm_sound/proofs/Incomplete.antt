-- The machine on a proof with unknown steps.
use Rattle.std.proofs.Common.{◌≡◌, ◌<◌, ℕ, true, false, ◌||◌, List, [], ◌∷◌, ◌++◌, map, length, Option, None, Some, is_some, is_none, Ok, Err, refl, sym, ap, ◌∙◌, subst, append_assoc, append-nil, ◌⊎◌, inl, inr}
use Rattle.std.proofs.lemmas.Bool.{false≢true}
use Rattle.std.proofs.lemmas.List.Concat.{flat_map-cons}
use Rattle.std.specs.List.{flat_map, list_any}
use Rattle.mm_scope.specs.Contents.{labels_of, stated_at, distinct_at}
use Rattle.mm_subst.specs.Statements.{statement_of}
use Rattle.mm_subst.specs.Substitutions.{Pairs}
use Rattle.mm_subst.specs.declared.symbol.WSym.{WSym}
use Rattle.mm_plain.specs.declared.plain.Plain.{Plain}
use Rattle.mm_plain.specs.Shape.{Each, Proof, known, unknown, steps_of}
use Rattle.mm_plain.specs.Sources.{label_of, is_pending}
use Rattle.mm_plain.specs.Valid.{Setting, setting_of, IsSound, IsValid}
use Rattle.mm_plain.proofs.Equations.{by_trees, steps_of-known, steps_of-unknown}
use Rattle.mm_plain.proofs.Kept.{kids-sound}
use Rattle.mm_plain.proofs.Read.{label_of-known, label_of-unknown}
use Rattle.mm_stack.specs.Accepting.{verdict_after, verdict_of}
use Rattle.mm_stack.specs.Accepting as judge
use Rattle.mm_proof.specs.Decoding.{proof_of}
use Rattle.mm_stack.specs.Running.{Progress, after, start, run_from, run}
use Rattle.mm_stack.specs.declared.outcome.Verdict.TheVariants.{Incomplete}
use Rattle.mm_proof.specs.declared.step.ProofStep.{ProofStep}
use Rattle.mm_sound.specs.Apart.{KeepsPairs, IsApart}
use Rattle.mm_sound.specs.Complete.{IsDone, IsComplete, IsSettled, has_unknown, step_for, spelled}
use Rattle.mm_sound.specs.Written.{texts_in, written}
use Rattle.mm_sound.proofs.NoWork.{each-append, from_kids}
use Rattle.mm_sound.proofs.Runs.{Runs, after_tree, split, spelled-append, tree_runs}
use Rattle.mm_sound.proofs.Spelled.{written_spells}

-- the run ends in the tree, at an unknown step
abbrev Stops : List ℕ → List (List ℕ) → List Plain → Type 0
Stops bytes groups xs = (p : Progress) (rest : List ProofStep) → run_from bytes groups p (map (step_for bytes) (map label_of xs) ++ rest) ≡ Err Incomplete

unknown_stops : (bytes : List ℕ) (groups : List (List ℕ)) (t : List WSym) → Stops bytes groups (steps_of (unknown t))
unfolding run_from
unknown_stops bytes groups t p rest =
    ap (λ xs. run_from bytes groups p (map (step_for bytes) (map label_of xs) ++ rest)) (steps_of-unknown t)
    ∙ ap (λ o. run_from bytes groups p (step_for bytes o ∷ rest)) (label_of-unknown t)

-- steps that stop, with more before or after them
stops_then : (bytes : List ℕ) (groups : List (List ℕ)) (xs ys : List Plain) → Stops bytes groups xs → Stops bytes groups (xs ++ ys)
stops_then bytes groups xs ys h p rest =
    let more : List ProofStep = map (step_for bytes) (map label_of ys) in
    ap (λ ss. run_from bytes groups p (ss ++ rest)) (spelled-append bytes xs ys)
    ∙ ap (run_from bytes groups p) (append_assoc (map (step_for bytes) (map label_of xs)) more rest)
    ∙ h p (more ++ rest)

then_stops : (bytes : List ℕ) (groups : List (List ℕ)) (x : Plain) (ys : List Plain) → Runs bytes groups x → Stops bytes groups ys → Stops bytes groups (steps_of x ++ ys)
then_stops bytes groups x ys run h p rest =
    let more : List ProofStep = map (step_for bytes) (map label_of ys) in
    ap (λ ss. run_from bytes groups p (ss ++ rest)) (spelled-append bytes (steps_of x) ys)
    ∙ ap (run_from bytes groups p) (append_assoc (spelled bytes x) more rest)
    ∙ run p (more ++ rest)
    ∙ h (after_tree p x) rest

-- a tree is complete, or the run stops in it
abbrev Ends : Setting → List (List ℕ) → Plain → Type 0
Ends c groups x = IsSound c x → IsSettled c.bytes x → IsApart c.bytes groups x → IsComplete c.bytes x ⊎ Stops c.bytes groups (steps_of x)

kids_end : (c : Setting) (groups : List (List ℕ)) (kids : List Plain) → Each (Ends c groups) kids → Each (IsSound c) kids → Each (IsSettled c.bytes) kids → Each (IsApart c.bytes groups) kids
    → Each (IsComplete c.bytes) kids ⊎ Stops c.bytes groups (flat_map steps_of kids)
kids_end c groups [] h v d a = inl tt
kids_end c groups (x ∷ xs) h v d a = by (h.0 v.0 d.0 a.0) (kids_end c groups xs h.1 v.1 d.1 a.1)
  where
    by : IsComplete c.bytes x ⊎ Stops c.bytes groups (steps_of x) → Each (IsComplete c.bytes) xs ⊎ Stops c.bytes groups (flat_map steps_of xs)
        → Each (IsComplete c.bytes) (x ∷ xs) ⊎ Stops c.bytes groups (flat_map steps_of (x ∷ xs))
    by (inr stops) later = inr (subst (Stops c.bytes groups) (sym (flat_map-cons steps_of x xs)) (stops_then c.bytes groups (steps_of x) (flat_map steps_of xs) stops))
    by (inl done) (inl all) = inl (done, all)
    by (inl done) (inr stops) = inr (subst (Stops c.bytes groups) (sym (flat_map-cons steps_of x xs)) (then_stops c.bytes groups x (flat_map steps_of xs) (tree_runs c groups x v.0 done a.0) stops))

root_done : (bytes : List ℕ) (t : List WSym) (l : ℕ) (s : Pairs) (kids : List Plain) → is_pending bytes (known t l s kids) ≡ false → IsDone bytes (known t l s kids)
root_done bytes t l s kids h = record { known = ap (λ o. is_some o) (label_of-known t l s kids); settled = h }

tree_ends : (c : Setting) (groups : List (List ℕ)) (x : Plain) → Ends c groups x
tree_ends c groups = by_trees (Ends c groups)
    (λ t v d a. inr (unknown_stops c.bytes groups t))
    (λ t l s kids h v d a.
    let ds = split (λ x. is_pending c.bytes x ≡ false) t l s kids d in
    let ps = split (KeepsPairs c.bytes groups) t l s kids a in
    by t l s kids ds.1 (kids_end c groups kids h (kids-sound c t l s kids v).0 ds.0 ps.0))
  where
    by : (t : List WSym) (l : ℕ) (s : Pairs) (kids : List Plain) → is_pending c.bytes (known t l s kids) ≡ false → Each (IsComplete c.bytes) kids ⊎ Stops c.bytes groups (flat_map steps_of kids)
        → IsComplete c.bytes (known t l s kids) ⊎ Stops c.bytes groups (steps_of (known t l s kids))
    by t l s kids last (inl all) = inl (subst (Each (IsDone c.bytes)) (sym (steps_of-known t l s kids))
        (each-append (IsDone c.bytes) (flat_map steps_of kids) (known t l s kids ∷ []) (from_kids (IsDone c.bytes) kids all) (root_done c.bytes t l s kids last, tt)))
    by t l s kids last (inr stops) = inr (subst (Stops c.bytes groups) (sym (steps_of-known t l s kids)) (stops_then c.bytes groups (flat_map steps_of kids) (known t l s kids ∷ []) stops))

none_unknown : (bytes : List ℕ) (xs : List Plain) → Each (IsDone bytes) xs → list_any (λ o. is_none o) (map label_of xs) ≡ false
none_unknown bytes [] e = refl
none_unknown bytes (x ∷ xs) e = ap (λ b. b || list_any (λ o. is_none o) (map label_of xs)) (by (label_of x) e.0.known) ∙ none_unknown bytes xs e.1
  where
    by : (o : Option ℕ) → is_some o ≡ true → is_none o ≡ false
    by (Some l) h = refl
    by None h = absurd (false≢true h)

-- a valid proof with an unknown step, where none is pending
pub proof_stops : (bytes : List ℕ) (at : ℕ) (goal : List WSym) (p : Proof) (groups : List (List ℕ)) → IsValid bytes at goal p → IsSettled bytes p.plain → IsApart bytes groups p.plain
    → has_unknown p.plain ≡ true → run bytes groups (spelled bytes p.plain) ≡ Err Incomplete
proof_stops bytes at goal p groups v d a some = by (tree_ends (setting_of bytes at p) groups p.plain v.steps d a)
  where
    by : IsComplete bytes p.plain ⊎ Stops bytes groups (steps_of p.plain) → run bytes groups (spelled bytes p.plain) ≡ Err Incomplete
    by (inl done) = absurd (false≢true (sym (none_unknown bytes (steps_of p.plain) done) ∙ some))
    by (inr stops) = ap (λ r. after r (λ q. Ok q.stack)) (ap (run_from bytes groups start) (sym (append-nil (spelled bytes p.plain))) ∙ stops start [])

-- where the theorem's text is what is written for it
pub written_incomplete : (bytes : List ℕ) (at : ℕ) (p : Proof) → at < length (labels_of bytes) → IsValid bytes at (statement_of bytes at) p → IsSettled bytes p.plain → IsApart bytes (distinct_at bytes at) p.plain
    → has_unknown p.plain ≡ true → texts_in (proof_of bytes at) ≡ written bytes p.plain → verdict_of bytes at ≡ Incomplete
unfolding verdict_of
written_incomplete bytes at p own v d a some e =
    ap (judge.verdict_by bytes at) (written_spells bytes at (statement_of bytes at) p own v e)
    ∙ ap (verdict_after (stated_at bytes at).symbols) (proof_stops bytes at (statement_of bytes at) p (distinct_at bytes at) v d a some)
