-- The letters of steps spell these steps.
use Rattle.std.proofs.Common.{◌≡◌, ℕ, suc, ◌+◌, ◌-◌, ◌*◌, ◌<◌, Bool, true, false, cond, not, eqb, ◌||◌, List, [], ◌∷◌, ◌++◌, length, map, slice_get, option_map, Some, refl, sym, ap, ◌∙◌, arith, append_assoc, length-append, eq-eqb}
use Rattle.std.proofs.lemmas.List.{append-nil, length-map, map_push}
use Rattle.std.proofs.lemmas.Option.{slice_get_past, slice_get-map}
use Rattle.std.proofs.lemmas.Bool.Decides.{nat_tests, Decides-eqb}
use Rattle.mm_proof.specs.declared.step.ProofStep.{ProofStep}
use Rattle.mm_proof.specs.declared.step.StepKind.{StepKind}
use Rattle.mm_proof.specs.declared.step.StepKind.TheVariants as kind
use Rattle.mm_proof.specs.declared.written.Step.{Step}
use Rattle.mm_proof.specs.declared.written.Step.TheVariants.{Label, Unknown, Back}
use Rattle.mm_proof.specs.Faults.{after}
use Rattle.mm_proof.specs.Numbers.{letters_of, Spells, last_letter, lead_letter, letter_of}
use Rattle.mm_proof.specs.Reading.{placed, Reading, tag_last, tagged_step, step_by, step_numbered, with_step, read_letter, unless_empty, read_from}
use Rattle.mm_proof.specs.Spelling.{place_in, is_among, spelled, with_tag, tags_then, letters_from, steps_tagged, HasLabels}
use Rattle.mm_proof.specs.Steps.{untagged}
use Rattle.mm_proof.proofs.Digits.{letters_spell}

abbrev pub at : ℕ → Bool → List ℕ → List ProofStep → Reading
at number complete tags steps = record { number = number; complete = complete; tags = tags; steps = steps }

abbrev pub numbers_for : List ℕ → List ℕ
numbers_for tags = map (λ k. k + 1) tags

abbrev pub step_at : StepKind → Bool → ProofStep
step_at k b = record { kind = k; tagged = b }

-- a number is read whole
read_number : (kinds : List StepKind) (acc : ℕ) (ls : List ℕ) (n : ℕ) → Spells acc ls n → (p : ℕ) (c : Bool) (tags : List ℕ) (steps : List ProofStep) (s : StepKind) (rest : List ℕ)
    → step_numbered kinds tags (n - 1) ≡ Some s → read_from kinds (at acc c tags steps) (placed p (ls ++ rest)) ≡ read_from kinds (at 0 true tags (steps ++ untagged s ∷ [])) (placed (p + length ls) rest)
unfolding read_from
read_number kinds _ _ _ (last_letter acc b d e) p c tags steps s rest h =
    ap (λ x. after (read_letter kinds p (at acc c tags steps) x) (λ next. read_from kinds next (placed (p + 1) rest))) e
    ∙ ap (λ o. after (with_step p (at acc c tags steps) o) (λ next. read_from kinds next (placed (p + 1) rest))) h
read_number kinds _ _ _ (lead_letter acc b d n bs e g) p c tags steps s rest h =
    ap (λ x. after (read_letter kinds p (at acc c tags steps) x) (λ next. read_from kinds next (placed (p + 1) (bs ++ rest)))) e
    ∙ read_number kinds (5 * acc + d) bs n g (p + 1) false tags steps s rest h
    ∙ ap (λ x. read_from kinds (at 0 true tags (steps ++ untagged s ∷ [])) (placed x rest)) (let y : p + 1 + length bs ≡ p + length (b ∷ bs) = omega arith in y)

spelled_number : (n : ℕ) → 0 < n → spelled n ≡ letters_of n
spelled_number n h = let e : eqb n 0 ≡ false = grind (arith, nat_tests) in ap (λ b. cond b (63 ∷ []) (letters_of n)) e

read_spelled : (kinds : List StepKind) (n : ℕ) → 0 < n → (p : ℕ) (c : Bool) (tags : List ℕ) (steps : List ProofStep) (s : StepKind) (rest : List ℕ)
    → step_numbered kinds tags (n - 1) ≡ Some s → read_from kinds (at 0 c tags steps) (placed p (spelled n ++ rest)) ≡ read_from kinds (at 0 true tags (steps ++ untagged s ∷ [])) (placed (p + length (spelled n)) rest)
read_spelled kinds n some p c tags steps s rest h =
    ap (λ x. read_from kinds (at 0 c tags steps) (placed p (x ++ rest))) (spelled_number n some)
    ∙ read_number kinds 0 (letters_of n) n (letters_spell n some) p c tags steps s rest h
    ∙ ap (λ x. read_from kinds (at 0 true tags (steps ++ untagged s ∷ [])) (placed (p + length x) rest)) (sym (spelled_number n some))

read_unknown : (kinds : List StepKind) (p : ℕ) (c : Bool) (tags : List ℕ) (steps : List ProofStep) (rest : List ℕ)
    → read_from kinds (at 0 c tags steps) (placed p (63 ∷ rest)) ≡ read_from kinds (at 0 false tags (steps ++ untagged kind.Unknown ∷ [])) (placed (p + 1) rest)
unfolding read_from letter_of
read_unknown kinds p c tags steps rest = refl

tagged_end : (done : List ProofStep) (k : StepKind) → tag_last (done ++ untagged k ∷ []) ≡ done ++ step_at k true ∷ []
tagged_end [] k = refl
tagged_end (s ∷ []) k = refl
tagged_end (s ∷ t ∷ done) k = ap (λ x. s ∷ x) (tagged_end (t ∷ done) k)

numbers_then : (b : Bool) (tags : List ℕ) (n : ℕ) → tags_then b (numbers_for tags) (n + 1) ≡ numbers_for (tags_then b tags n)
numbers_then true tags n = sym (map_push (λ k. k + 1) tags n)
numbers_then false tags n = refl

read_tag : (kinds : List StepKind) (b : Bool) (p n : ℕ) (tags : List ℕ) (done : List ProofStep) (k : StepKind) (rest : List ℕ) → length done ≡ n
    → read_from kinds (at 0 true (numbers_for tags) (done ++ untagged k ∷ [])) (placed p (with_tag b ++ rest))
    ≡ read_from kinds (at 0 (not b) (numbers_for (tags_then b tags n)) (done ++ step_at k b ∷ [])) (placed (p + length (with_tag b)) rest)
unfolding read_from letter_of
read_tag kinds true p n tags done k rest h =
    let e : length (done ++ untagged k ∷ []) ≡ n + 1 = omega (arith, length-append done (untagged k ∷ [])) in
    ap (λ m. read_from kinds (at 0 false (numbers_for tags ++ m ∷ []) (tag_last (done ++ untagged k ∷ []))) (placed (p + 1) rest)) e
    ∙ ap (λ x. read_from kinds (at 0 false x (tag_last (done ++ untagged k ∷ []))) (placed (p + 1) rest)) (numbers_then true tags n)
    ∙ ap (λ x. read_from kinds (at 0 false (numbers_for (tags ++ n ∷ [])) x) (placed (p + 1) rest)) (tagged_end done k)
read_tag kinds false p n tags done k rest h = ap (λ x. read_from kinds (at 0 true (numbers_for tags) (done ++ untagged k ∷ [])) (placed x rest)) (let e : p ≡ p + 0 = omega arith in e)

-- what stands in a list stands at its place
pub place_at : (ms : List ℕ) (n : ℕ) → is_among ms n ≡ true → slice_get ms (place_in ms n) ≡ Some n
place_at [] n h = cc
place_at (m ∷ ms) n h = by (eqb m n) refl (place_at ms n)
  where
    by : (b : Bool) → eqb m n ≡ b → (is_among ms n ≡ true → slice_get ms (place_in ms n) ≡ Some n) → slice_get (m ∷ ms) (cond b 0 (1 + place_in ms n)) ≡ Some n
    by true e f = ap (λ x. Some x) ((Decides-eqb m n).0 e)
    by false e f = ap (λ x. slice_get (m ∷ ms) x) (let g : 1 + place_in ms n ≡ suc (place_in ms n) = omega arith in g) ∙ f (sym (ap (λ b. b || is_among ms n) e) ∙ h)

label_numbered : (f : ℕ → StepKind) (labels tags : List ℕ) (l : ℕ) → is_among labels l ≡ true → step_numbered (map f labels) tags (place_in labels l + 1 - 1) ≡ Some (f l)
label_numbered f labels tags l h =
    let e : place_in labels l + 1 - 1 ≡ place_in labels l = omega arith in
    ap (step_numbered (map f labels) tags) e
    ∙ ap (λ o. step_by o (slice_get tags (place_in labels l - length (map f labels)))) (slice_get-map f labels (place_in labels l) ∙ ap (option_map f) (place_at labels l h))

back_numbered : (f : ℕ → StepKind) (labels tags : List ℕ) (k : ℕ) → is_among tags k ≡ true → step_numbered (map f labels) (numbers_for tags) (length labels + place_in tags k + 1 - 1) ≡ Some (kind.Back (k + 1))
back_numbered f labels tags k h =
    let c : length (map f labels) ≡ length labels = length-map labels f in
    let e : length labels + place_in tags k + 1 - 1 ≡ length labels + place_in tags k = omega arith in
    let g : length labels + place_in tags k - length (map f labels) ≡ place_in tags k = omega arith in
    ap (step_numbered (map f labels) (numbers_for tags)) e
    ∙ ap (λ o. step_by o (slice_get (numbers_for tags) (length labels + place_in tags k - length (map f labels)))) (slice_get_past (map f labels) (length labels + place_in tags k) (omega arith))
    ∙ ap (λ x. tagged_step (slice_get (numbers_for tags) x)) g
    ∙ ap tagged_step (slice_get-map (λ k. k + 1) tags (place_in tags k) ∙ ap (option_map (λ k. k + 1)) (place_at tags k h))

-- a back reference names a step with a tag, and an unknown step has none
abbrev pub IsTagged : (ℕ → Bool) → ℕ → Step → Type 0
IsTagged tagged i (Label l) = Unit {0}
IsTagged tagged i Unknown = tagged i ≡ false
IsTagged tagged i (Back k) = (k < i) × (tagged k ≡ true)

abbrev pub AreTagged : (ℕ → Bool) → ℕ → List Step → Type 0
AreTagged tagged i [] = Unit {0}
AreTagged tagged i (s ∷ ss) = IsTagged tagged i s × AreTagged tagged (i + 1) ss

-- the places below i with a tag stand in a list
abbrev pub HasTags : (ℕ → Bool) → ℕ → List ℕ → Type 0
HasTags tagged i tags = (k : ℕ) → k < i → tagged k ≡ true → is_among tags k ≡ true

pub among_more : (ms : List ℕ) (m n : ℕ) → is_among ms n ≡ true → is_among (ms ++ m ∷ []) n ≡ true
among_more [] m n h = cc
among_more (x ∷ ms) m n h = by (eqb x n) h (among_more ms m n)
  where
    by : (b : Bool) → (b || is_among ms n) ≡ true → (is_among ms n ≡ true → is_among (ms ++ m ∷ []) n ≡ true) → (b || is_among (ms ++ m ∷ []) n) ≡ true
    by true e f = refl
    by false e f = f e

pub among_last : (ms : List ℕ) (m : ℕ) → is_among (ms ++ m ∷ []) m ≡ true
among_last [] m = ap (λ b. b || false) (eq-eqb m m refl)
among_last (x ∷ ms) m = by (eqb x m) (among_last ms m)
  where
    by : (b : Bool) → is_among (ms ++ m ∷ []) m ≡ true → (b || is_among (ms ++ m ∷ []) m) ≡ true
    by true e = refl
    by false e = e

tags_more : (tagged : ℕ → Bool) (i : ℕ) (tags : List ℕ) (b : Bool) → tagged i ≡ b → HasTags tagged i tags → HasTags tagged (i + 1) (tags_then b tags i)
tags_more tagged i tags b e h k lt t = by (eqb k i) refl b e
  where
    by : (x : Bool) → eqb k i ≡ x → (b : Bool) → tagged i ≡ b → is_among (tags_then b tags i) k ≡ true
    by true f true e = let g : k ≡ i = (Decides-eqb k i).0 f in ap (is_among (tags ++ i ∷ [])) g ∙ among_last tags i
    by true f false e = let g : k ≡ i = (Decides-eqb k i).0 f in let j = sym t ∙ ap tagged g ∙ e in cc
    by false f true e = among_more tags i k (h k (grind (arith, nat_tests)) t)
    by false f false e = h k (grind (arith, nat_tests)) t

more_steps : (done : List ProofStep) (s : ProofStep) (ss : List ProofStep) → unless_empty ((done ++ s ∷ []) ++ ss) ≡ unless_empty (done ++ s ∷ ss)
more_steps done s ss = ap unless_empty (append_assoc done (s ∷ []) ss)

-- a step with its number and tag, then the rest
read_step : (f : ℕ → StepKind) (labels : List ℕ) (b : Bool) (tags : List ℕ) (done : List ProofStep) (k : StepKind) (later : List ℕ) (whole : List ProofStep) (n m p : ℕ) (c : Bool) → 0 < m
    → step_numbered (map f labels) (numbers_for tags) (m - 1) ≡ Some k → length done ≡ n
    → ((p : ℕ) (c : Bool) → read_from (map f labels) (at 0 c (numbers_for (tags_then b tags n)) (done ++ step_at k b ∷ [])) (placed p later) ≡ unless_empty ((done ++ step_at k b ∷ []) ++ whole))
    → read_from (map f labels) (at 0 c (numbers_for tags) done) (placed p (spelled m ++ (with_tag b ++ later))) ≡ unless_empty (done ++ step_at k b ∷ whole)
read_step f labels b tags done k later whole n m p c some h count next =
    let q = p + length (spelled m) in
    read_spelled (map f labels) m some p c (numbers_for tags) done k (with_tag b ++ later) h
    ∙ read_tag (map f labels) b q n tags done k later count
    ∙ next (q + length (with_tag b)) (not b)
    ∙ more_steps done (step_at k b) whole

read_query : (f : ℕ → StepKind) (labels : List ℕ) (b : Bool) (tags : List ℕ) (done : List ProofStep) (later : List ℕ) (whole : List ProofStep) (n p : ℕ) (c : Bool) → b ≡ false
    → ((p : ℕ) (c : Bool) → read_from (map f labels) (at 0 c (numbers_for (tags_then b tags n)) (done ++ step_at kind.Unknown b ∷ [])) (placed p later) ≡ unless_empty ((done ++ step_at kind.Unknown b ∷ []) ++ whole))
    → read_from (map f labels) (at 0 c (numbers_for tags) done) (placed p (63 ∷ (with_tag b ++ later))) ≡ unless_empty (done ++ step_at kind.Unknown b ∷ whole)
read_query f labels true tags done later whole n p c t next = cc
read_query f labels false tags done later whole n p c t next =
    read_unknown (map f labels) p c (numbers_for tags) done later
    ∙ next (p + 1) false
    ∙ more_steps done (step_at kind.Unknown false) whole

pub read_back : (f : ℕ → StepKind) (labels : List ℕ) (tagged : ℕ → Bool) (ss : List Step) (n : ℕ) (done : List ProofStep) (tags : List ℕ) (p : ℕ) (c : Bool)
    → length done ≡ n → HasLabels labels ss → AreTagged tagged n ss → HasTags tagged n tags
    → read_from (map f labels) (at 0 c (numbers_for tags) done) (placed p (letters_from labels tagged n tags ss)) ≡ unless_empty (done ++ steps_tagged f tagged n ss)
unfolding letters_from read_from
read_back f labels tagged [] n done tags p c e h t k = ap unless_empty (sym (append-nil done))
read_back f labels tagged (Label l ∷ ss) n done tags p c e h t k =
    read_step f labels (tagged n) tags done (f l) (letters_from labels tagged (n + 1) (tags_then (tagged n) tags n) ss) (steps_tagged f tagged (n + 1) ss) n (place_in labels l + 1) p c (omega arith) (label_numbered f labels (numbers_for tags) l h.0) e
    (λ q d. read_back f labels tagged ss (n + 1) (done ++ step_at (f l) (tagged n) ∷ []) (tags_then (tagged n) tags n) q d (omega (arith, length-append done (step_at (f l) (tagged n) ∷ []))) h.1 t.1 (tags_more tagged n tags (tagged n) refl k))
read_back f labels tagged (Back j ∷ ss) n done tags p c e h t k =
    read_step f labels (tagged n) tags done (kind.Back (j + 1)) (letters_from labels tagged (n + 1) (tags_then (tagged n) tags n) ss) (steps_tagged f tagged (n + 1) ss) n (length labels + place_in tags j + 1) p c (omega arith) (back_numbered f labels tags j (k j t.0.0 t.0.1)) e
    (λ q d. read_back f labels tagged ss (n + 1) (done ++ step_at (kind.Back (j + 1)) (tagged n) ∷ []) (tags_then (tagged n) tags n) q d (omega (arith, length-append done (step_at (kind.Back (j + 1)) (tagged n) ∷ []))) h t.1 (tags_more tagged n tags (tagged n) refl k))
read_back f labels tagged (Unknown ∷ ss) n done tags p c e h t k =
    read_query f labels (tagged n) tags done (letters_from labels tagged (n + 1) (tags_then (tagged n) tags n) ss) (steps_tagged f tagged (n + 1) ss) n p c t.0
    (λ q d. read_back f labels tagged ss (n + 1) (done ++ step_at kind.Unknown (tagged n) ∷ []) (tags_then (tagged n) tags n) q d (omega (arith, length-append done (step_at kind.Unknown (tagged n) ∷ []))) h t.1 (tags_more tagged n tags (tagged n) refl k))
