-- Another order of the list.
use Rattle.std.proofs.Common.{◌≡◌, ℕ, eqb, ◌||◌, List, [], ◌∷◌, ◌++◌, map, Ok, refl, sym, ap, ◌∙◌}
use Rattle.std.specs.List.{list_any}
use Rattle.std.specs.List.Sorted.{IsPermutation}
use Rattle.std.proofs.lemmas.List.Sorted.{IsPermutation-append_right, list_any-IsPermutation}
use Rattle.mm_proof.specs.Backs.{AreBacks}
use Rattle.mm_proof.specs.declared.written.Step.{Step}
use Rattle.mm_proof.specs.declared.written.Step.TheVariants.{Label, Unknown, Back}
use Rattle.mm_proof.specs.Reading.{placed, read}
use Rattle.mm_proof.specs.declared.step.StepKind.{StepKind}
use Rattle.mm_proof.specs.Spelling.{is_among, letters, HasLabels, steps_read}
use Rattle.mm_proof.proofs.Whole.{read-any}

among_any : (ms : List ℕ) (n : ℕ) → is_among ms n ≡ list_any (λ m. eqb m n) ms
among_any [] n = refl
among_any (m ∷ ms) n = ap (λ b. eqb m n || b) (among_any ms n)

among_order : (xs ys : List ℕ) (n : ℕ) → IsPermutation xs ys → is_among xs n ≡ is_among ys n
among_order xs ys n h = among_any xs n ∙ list_any-IsPermutation (λ m. eqb m n) xs ys h ∙ sym (among_any ys n)

labels_order : (xs ys : List ℕ) (ss : List Step) → IsPermutation xs ys → HasLabels xs ss → HasLabels ys ss
labels_order xs ys [] p h = tt
labels_order xs ys (Label l ∷ ss) p h = (sym (among_order xs ys l p) ∙ h.0, labels_order xs ys ss p h.1)
labels_order xs ys (Unknown ∷ ss) p h = labels_order xs ys ss p h
labels_order xs ys (Back k ∷ ss) p h = labels_order xs ys ss p h

pub read-other : (f : ℕ → StepKind) (own list other : List ℕ) (steps : List Step) (p : ℕ) → IsPermutation list other → (steps ≡ [] → ⊥) → AreBacks [] steps → HasLabels (own ++ list) steps
    → read (map f (own ++ other)) (placed p (letters (own ++ other) steps)) ≡ Ok (steps_read f steps)
read-other f own list other steps p perm some b h = read-any f (own ++ other) steps p some b (labels_order (own ++ list) (own ++ other) steps (IsPermutation-append_right own list other perm) h)
