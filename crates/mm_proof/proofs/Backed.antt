-- A back reference that is written names an earlier label.
use Rattle.std.proofs.Common.{◌≡◌, ℕ, Bool, true, false, cond, not, eqb, List, [], ◌∷◌, ◌++◌, length, slice_get, Option, None, Some, refl, sym, ap, ◌∙◌, subst, append_assoc}
use Rattle.std.proofs.lemmas.List.{append-nil}
use Rattle.std.proofs.lemmas.Option.{none-some}
use Rattle.mm_proof.specs.Trees.{Tree, Trees, none, more, tree, trees_of, same_tree, is_some_tree, has_unknown}
use Rattle.mm_proof.specs.Compacting.{Whole, Writing, start, found, is_shared, earlier, named, put, written, compact}
use Rattle.mm_proof.specs.Backs.{IsBack, AreBacks}
use Rattle.mm_proof.specs.declared.written.Step.{Step}
use Rattle.mm_proof.specs.declared.written.Step.TheVariants.{Label, Unknown, Back}
use Rattle.mm_proof.proofs.Folds.{or_else, found-append, slice_get-append, slice_get-last}
use Rattle.mm_proof.proofs.Writings.{no_unknown_parts, not_true, shared_known}

IsBack_at : (xs ys : List Step) (s : Step) → xs ≡ ys → IsBack xs s → IsBack ys s
IsBack_at xs ys s e h = let P : List Step → Type 0 = λ x. IsBack x s in subst P e h

backs_more : (done xs : List Step) (s : Step) → AreBacks done xs → IsBack (done ++ xs) s → AreBacks done (xs ++ s ∷ [])
backs_more done [] s h i = (IsBack_at (done ++ []) done s (append-nil done) i, tt)
backs_more done (x ∷ xs) s h i = (h.0, backs_more (done ++ x ∷ []) xs s h.1 (IsBack_at (done ++ x ∷ xs) ((done ++ x ∷ []) ++ xs) s (sym (append_assoc done (x ∷ []) xs)) i))

-- what is seen stands at its place as a label
abbrev Labelled : List Whole → List Step → Type 0
Labelled seen steps = (t : Tree) (k : ℕ) → found seen t ≡ Some k → (l : ℕ) × (slice_get steps k ≡ Some (Label l))

pub record Backed (w : Writing) : Type 0 where
  pub backs : AreBacks [] w.steps
  pub labelled : (t : Tree) (k : ℕ) → found w.seen t ≡ Some k → (l : ℕ) × (slice_get w.steps k ≡ Some (Label l))

is_named_label : (l : ℕ) → eqb l 0 ≡ false → named l ≡ Label l
is_named_label l h = ap (λ b. cond b Unknown (Label l)) h

seen_by : (o : Option ℕ) (b : Bool) (place k : ℕ) (P : Type 0) → or_else o (cond b (Some place) None) ≡ Some k → (o ≡ Some k → P) → (place ≡ k → P) → P
seen_by None true place k P h old new = new cc
seen_by None false place k P h old new = absurd (none-some k h)
seen_by (Some j) b place k P h old new = old h

labelled_with : (b : Bool) (seen : List Whole) (t : Tree) (steps : List Step) (s : Step) → (b ≡ true → s ≡ Label t.label) → Labelled seen steps
    → Labelled (cond b (seen ++ record { tree = t; place = length steps } ∷ []) seen) (steps ++ s ∷ [])
labelled_with false seen t steps s i h u k e = let r = h u k e in (r.0, slice_get-append steps (s ∷ []) k (Label r.0) r.1)
labelled_with true seen t steps s i h u k e =
    seen_by (found seen u) (same_tree t u) (length steps) k ((l : ℕ) × (slice_get (steps ++ s ∷ []) k ≡ Some (Label l))) (sym (found-append seen (record { tree = t; place = length steps }) u) ∙ e)
    (λ old. let r = h u k old in (r.0, slice_get-append steps (s ∷ []) k (Label r.0) r.1))
    (λ is. (t.label, ap (slice_get (steps ++ s ∷ [])) (sym is) ∙ slice_get-last steps s ∙ ap (λ x. Some x) (i refl)))

earlier_by : (b : Bool) (o : Option ℕ) (k : ℕ) → cond b o None ≡ Some k → o ≡ Some k
earlier_by true o k h = h
earlier_by false o k h = absurd (none-some k h)

named_back : (b : Bool) (done : List Step) (l : ℕ) → IsBack done (cond b Unknown (Label l))
named_back true done l = tt
named_back false done l = tt

put_backed : (o : Option ℕ) (t : Tree) (w walked : Writing) → ((k : ℕ) → o ≡ Some k → found w.seen t ≡ Some k) → Backed w → Backed walked → Backed (put o t w walked)
put_backed (Some k) t w walked f h g = record {
  backs = backs_more [] w.steps (Back k) h.backs (h.labelled t k (f k refl));
  labelled = λ u j e. let r = h.labelled u j e in (r.0, slice_get-append w.steps (Back k ∷ []) j (Label r.0) r.1);
}
put_backed None t w walked f h g = record {
  backs = backs_more [] walked.steps (named t.label) g.backs (named_back (eqb t.label 0) walked.steps t.label);
  labelled = labelled_with (is_shared t) walked.seen t walked.steps (named t.label)
      (λ e. is_named_label t.label (no_unknown_parts (eqb t.label 0) (has_unknown t.children) false (not_true (has_unknown (more t.label t.children none)) (shared_known (is_some_tree t.children) (not (has_unknown (more t.label t.children none))) e))).2)
      g.labelled;
}

pub written_backed : (ts : Trees) (w : Writing) → Backed w → Backed (written w ts)
unfolding written
written_backed none w h = h
written_backed (more l cs rest) w h =
    written_backed rest (put (earlier w.seen (tree l cs)) (tree l cs) w (written w cs))
    (put_backed (earlier w.seen (tree l cs)) (tree l cs) w (written w cs) (λ k. earlier_by (is_shared (tree l cs)) (found w.seen (tree l cs)) k) h (written_backed cs w h))

pub compact_backs : (t : Tree) → AreBacks [] (compact t)
compact_backs t = let h = written_backed (trees_of (t ∷ [])) start (record { backs = tt; labelled = λ u k e. absurd (none-some k e) }) in h.backs
