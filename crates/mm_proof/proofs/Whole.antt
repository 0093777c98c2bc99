-- Which steps have a tag, and which labels a list.
use Rattle.std.proofs.Common.{◌≡◌, ◌≢◌, ℕ, ◌+◌, Bool, true, false, cond, eqb, ◌||◌, List, [], ◌∷◌, ◌++◌, length, map, slice_get, Option, None, Some, Ok, refl, sym, ap, ◌∙◌, subst, arith, append_assoc, length-append, eq-eqb}
use Rattle.std.proofs.lemmas.Option.{slice_get_within, same_Some}
use Rattle.std.proofs.lemmas.Bool.Decides.{Decides-eqb}
use Rattle.mm_proof.specs.declared.written.Step.{Step}
use Rattle.mm_proof.specs.declared.written.Step.TheVariants.{Label, Unknown, Back}
use Rattle.std.specs.List.{flat_map}
use Rattle.mm_proof.specs.Trees.{Tree}
use Rattle.mm_proof.specs.Compacting.{Writing, start, earlier, named, put, written, compact}
use Rattle.mm_proof.proofs.Backed.{compact_backs}
use Rattle.mm_proof.specs.Backs.{AreBacks}
use Rattle.mm_proof.proofs.Folds.{slice_get-append, slice_get-last}
use Rattle.mm_proof.specs.Reading.{placed, unless_empty, read}
use Rattle.mm_proof.specs.declared.step.StepKind.{StepKind}
use Rattle.mm_proof.specs.Spelling.{is_among, is_named, letters, used, line_of, names_len, IsSpellable, AreSpellable, HasLabels, steps_tagged, steps_read}
use Rattle.mm_proof.proofs.Returns.{IsTagged, AreTagged, read_back}

get_longer : (done : List Step) (s : Step) (ss : List Step) (k : ℕ) (t : Step) → slice_get ((done ++ s ∷ []) ++ ss) k ≡ Some t → slice_get (done ++ s ∷ ss) k ≡ Some t
get_longer done s ss k t h = ap (λ x. slice_get x k) (sym (append_assoc done (s ∷ []) ss)) ∙ h

-- a step that is named is not unknown
named_known : (labels : List ℕ) (ss done : List Step) (k : ℕ) → AreSpellable labels done ss → is_named ss k ≡ true → (s : Step) × (slice_get (done ++ ss) k ≡ Some s) × (s ≢ Unknown)
named_known labels [] done k h n = cc
named_known labels (Label l ∷ ss) done k h n = let r = named_known labels ss (done ++ Label l ∷ []) k h.1 n in (r.0, get_longer done (Label l) ss k r.0 r.1, r.2)
named_known labels (Unknown ∷ ss) done k h n = let r = named_known labels ss (done ++ Unknown ∷ []) k h.1 n in (r.0, get_longer done Unknown ss k r.0 r.1, r.2)
named_known labels (Back j ∷ ss) done k h n = by (eqb j k) refl n (λ m. named_known labels ss (done ++ Back j ∷ []) k h.1 m)
  where
    by : (b : Bool) → eqb j k ≡ b → (b || is_named ss k) ≡ true → (is_named ss k ≡ true → (s : Step) × (slice_get ((done ++ Back j ∷ []) ++ ss) k ≡ Some s) × (s ≢ Unknown))
        → (s : Step) × (slice_get (done ++ Back j ∷ ss) k ≡ Some s) × (s ≢ Unknown)
    by true e m f = let r = h.0 in let i = (Decides-eqb j k).0 e in (r.0, ap (slice_get (done ++ Back j ∷ ss)) (sym i) ∙ slice_get-append done (Back j ∷ ss) j r.0 r.1, r.2)
    by false e m f = let r = f m in (r.0, get_longer done (Back j) ss k r.0 r.1, r.2)

pub named_there : (done : List Step) (k : ℕ) (ss : List Step) → is_named (done ++ Back k ∷ ss) k ≡ true
named_there [] k ss = ap (λ b. b || is_named ss k) (eq-eqb k k refl)
named_there (Label l ∷ done) k ss = named_there done k ss
named_there (Unknown ∷ done) k ss = named_there done k ss
named_there (Back j ∷ done) k ss = by (eqb j k) (named_there done k ss)
  where
    by : (b : Bool) → is_named (done ++ Back k ∷ ss) k ≡ true → (b || is_named (done ++ Back k ∷ ss) k) ≡ true
    by true e = refl
    by false e = e

is_false : (b : Bool) → (b ≡ true → ⊥) → b ≡ false
is_false true h = absurd (h refl)
is_false false h = refl

get_middle : (done : List Step) (s : Step) (ss : List Step) → slice_get (done ++ s ∷ ss) (length done) ≡ Some s
get_middle done s ss = ap (λ x. slice_get x (length done)) (sym (append_assoc done (s ∷ []) ss)) ∙ slice_get-append (done ++ s ∷ []) ss (length done) s (slice_get-last done s)

-- the steps of which all are spellable have their tags
tagged_from : (labels : List ℕ) (whole ss done : List Step) → whole ≡ done ++ ss → AreSpellable labels [] whole → AreSpellable labels done ss → AreTagged (is_named whole) (length done) ss
tagged_from labels whole [] done e all h = tt
tagged_from labels whole (s ∷ ss) done e all h = (
  one s h.0 e,
  (let P : ℕ → Type 0 = λ n. AreTagged (is_named whole) n ss in
      subst P (let f : length (done ++ s ∷ []) ≡ length done + 1 = omega (arith, length-append done (s ∷ [])) in f)
      (tagged_from labels whole ss (done ++ s ∷ []) (e ∙ sym (append_assoc done (s ∷ []) ss)) all h.1)),
)
  where
    one : (t : Step) → IsSpellable labels done t → whole ≡ done ++ t ∷ ss → IsTagged (is_named whole) (length done) t
    one (Label l) i f = tt
    one (Back k) i f = (slice_get_within done k i.0 i.1, ap (λ x. is_named x k) f ∙ named_there done k ss)
    one Unknown i f = is_false (is_named whole (length done)) (λ n.
        let r = named_known labels whole [] (length done) all n in
        r.2 (same_Some r.0 Unknown (sym r.1 ∙ ap (λ x. slice_get x (length done)) f ∙ get_middle done Unknown ss)))

-- letters spell their steps
pub read-letters : (f : ℕ → StepKind) (labels : List ℕ) (steps : List Step) (p : ℕ) → AreSpellable labels [] steps → HasLabels labels steps
    → read (map f labels) (placed p (letters labels steps)) ≡ unless_empty (steps_read f steps)
read-letters f labels steps p h has =
    read_back f labels (is_named steps) steps 0 [] [] p false refl has (tagged_from labels steps steps [] refl h h) (λ k lt t. absurd (omega arith))

-- what is among own labels and a list stays so
among_append : (xs ys : List ℕ) (n : ℕ) → is_among xs n ≡ true → is_among (xs ++ ys) n ≡ true
among_append [] ys n h = cc
among_append (x ∷ xs) ys n h = by (eqb x n) h (among_append xs ys n)
  where
    by : (b : Bool) → (b || is_among xs n) ≡ true → (is_among xs n ≡ true → is_among (xs ++ ys) n ≡ true) → (b || is_among (xs ++ ys) n) ≡ true
    by true e f = refl
    by false e f = f e

among_end : (xs : List ℕ) (n : ℕ) → is_among (xs ++ n ∷ []) n ≡ true
among_end [] n = ap (λ b. b || false) (eq-eqb n n refl)
among_end (x ∷ xs) n = by (eqb x n) (among_end xs n)
  where
    by : (b : Bool) → is_among (xs ++ n ∷ []) n ≡ true → (b || is_among (xs ++ n ∷ []) n) ≡ true
    by true e = refl
    by false e = e

pub used_keeps : (own so_far : List ℕ) (ss : List Step) (n : ℕ) → is_among (own ++ so_far) n ≡ true → is_among (own ++ used own so_far ss) n ≡ true
used_keeps own so_far [] n h = h
used_keeps own so_far (Label l ∷ ss) n h = by (is_among (own ++ so_far) l) (used_keeps own so_far ss n h)
    (used_keeps own (so_far ++ l ∷ []) ss n (ap (λ x. is_among x n) (sym (append_assoc own so_far (l ∷ []))) ∙ among_append (own ++ so_far) (l ∷ []) n h))
  where
    by : (b : Bool) → is_among (own ++ used own so_far ss) n ≡ true → is_among (own ++ used own (so_far ++ l ∷ []) ss) n ≡ true
        → is_among (own ++ cond b (used own so_far ss) (used own (so_far ++ l ∷ []) ss)) n ≡ true
    by true e f = e
    by false e f = f
used_keeps own so_far (Unknown ∷ ss) n h = used_keeps own so_far ss n h
used_keeps own so_far (Back k ∷ ss) n h = used_keeps own so_far ss n h

pub used_has : (own so_far : List ℕ) (ss : List Step) → HasLabels (own ++ used own so_far ss) ss
used_has own so_far [] = tt
used_has own so_far (Label l ∷ ss) = by (is_among (own ++ so_far) l) refl (used_has own so_far ss) (used_has own (so_far ++ l ∷ []) ss)
  where
    by : (b : Bool) → is_among (own ++ so_far) l ≡ b → HasLabels (own ++ used own so_far ss) ss → HasLabels (own ++ used own (so_far ++ l ∷ []) ss) ss
        → (is_among (own ++ cond b (used own so_far ss) (used own (so_far ++ l ∷ []) ss)) l ≡ true) × HasLabels (own ++ cond b (used own so_far ss) (used own (so_far ++ l ∷ []) ss)) ss
    by true e f g = (used_keeps own so_far ss l e, f)
    by false e f g = (used_keeps own (so_far ++ l ∷ []) ss l (ap (λ x. is_among x l) (sym (append_assoc own so_far (l ∷ []))) ∙ among_end (own ++ so_far) l), g)
used_has own so_far (Unknown ∷ ss) = used_has own so_far ss
used_has own so_far (Back k ∷ ss) = used_has own so_far ss

pub spellable : (labels : List ℕ) (ss done : List Step) → HasLabels labels ss → AreBacks done ss → AreSpellable labels done ss
spellable labels [] done h b = tt
spellable labels (Label l ∷ ss) done h b = (h.0, spellable labels ss (done ++ Label l ∷ []) h.1 b.1)
spellable labels (Unknown ∷ ss) done h b = (tt, spellable labels ss (done ++ Unknown ∷ []) h b.1)
spellable labels (Back k ∷ ss) done h b =
    let r = b.0 in
    let apart : Label r.0 ≢ Unknown = λ e. cc in
    ((Label r.0, r.1, apart), spellable labels ss (done ++ Back k ∷ []) h b.1)

some_read : (f : ℕ → StepKind) (tagged : ℕ → Bool) (i : ℕ) (steps : List Step) → (steps ≡ [] → ⊥) → unless_empty (steps_tagged f tagged i steps) ≡ Ok (steps_tagged f tagged i steps)
some_read f tagged i [] h = absurd (h refl)
some_read f tagged i (s ∷ ss) h = refl

-- whatever the order of the labels
pub read-any : (f : ℕ → StepKind) (labels : List ℕ) (steps : List Step) (p : ℕ) → (steps ≡ [] → ⊥) → AreBacks [] steps → HasLabels labels steps → read (map f labels) (placed p (letters labels steps)) ≡ Ok (steps_read f steps)
read-any f labels steps p some b h = read-letters f labels steps p (spellable labels steps [] h b) h ∙ some_read f (is_named steps) 0 steps some

some_last : (xs : List Step) (s : Step) → xs ++ s ∷ [] ≡ [] → ⊥
some_last [] s e = cc
some_last (x ∷ xs) s e = cc

some_put : (o : Option ℕ) (t : Tree) (w walked : Writing) → (put o t w walked).steps ≡ [] → ⊥
some_put (Some k) t w walked e = some_last w.steps (Back k) e
some_put None t w walked e = some_last walked.steps (named t.label) e

compact_some : (t : Tree) → compact t ≡ [] → ⊥
unfolding written
compact_some t e = some_put (earlier start.seen t) t start (written start t.children) e

pub read-compact : (f : ℕ → StepKind) (own : List ℕ) (t : Tree) (p : ℕ) → read (map f (own ++ used own [] (compact t))) (placed p (letters (own ++ used own [] (compact t)) (compact t))) ≡ Ok (steps_read f (compact t))
read-compact f own t p = read-any f (own ++ used own [] (compact t)) (compact t) p (compact_some t) (compact_backs t) (used_has own [] (compact t))

-- the line's length
spaced : (name : ℕ → List ℕ) (list : List ℕ) → length (flat_map (λ l. name l ++ 32 ∷ []) list) ≡ names_len name list
spaced name [] = refl
spaced name (l ∷ list) =
    length-append (name l ++ 32 ∷ []) (flat_map (λ m. name m ++ 32 ∷ []) list)
    ∙ ap (λ n. n + length (flat_map (λ m. name m ++ 32 ∷ []) list)) (length-append (name l) (32 ∷ []))
    ∙ ap (λ n. length (name l) + 1 + n) (spaced name list)

pub length-line : (name : ℕ → List ℕ) (list ls : List ℕ) → length (line_of name list ls) ≡ 4 + names_len name list + length ls
length-line name list ls =
    let e = spaced name list in
    let f = length-append (flat_map (λ l. name l ++ 32 ∷ []) list) (41 ∷ 32 ∷ ls) in
    omega arith
