-- Loading gives the built proof.
use Rattle.std.proofs.Common.{◌≡◌, ℕ, ◌+◌, ◌≤◌, nat_lt, true, false, ◌||◌, List, [], ◌∷◌, ◌++◌, map, Option, None, Some, refl, sym, ap, ◌∙◌, subst, arith}
use Rattle.std.specs.Prelude.{Result, Ok}
use Rattle.std.specs.List.{flat_map, list_any, AllByRecursion as ByRecursion}
use Rattle.std.proofs.lemmas.Bool.Decides.{nat_tests}
use Rattle.std.proofs.lemmas.List.Concat.{flat_map-cons}
use Rattle.std.proofs.lemmas.List.Elements.{recursion_from_All, All-from_recursion}
use Rattle.mm_proof.specs.Trees.{Tree}
use Rattle.mm_scope.specs.Contents.{stated_at, statements_of}
use Rattle.mm_scope.specs.Laws.{AllDiffer}
use Rattle.mm_stated.specs.Mandatory.{variables_of}
use Rattle.mm_subst.specs.declared.symbol.WSym.{WSym}
use Rattle.mm_subst.specs.Statements.{statement_of}
use Rattle.mm_subst.specs.Symbols.{is_work, has_work}
use Rattle.mm_subst.specs.Substitutions.{Pairs}
use Rattle.mm_tree.proofs.FreshVariables.{variables-differ}
use Rattle.mm_tree.specs.Labelled.{draws_all}
use Rattle.mm_unify.specs.declared.listing.Settings.{Settings}
use Rattle.mm_plain.specs.declared.plain.Plain.{Plain}
use Rattle.mm_plain.specs.Binding.{bound, bound_in, HasWorkKeys, works_at, has_works}
use Rattle.mm_plain.specs.Drawing.{draws_of}
use Rattle.mm_plain.specs.Instances.{values_at, values_in, numbered}
use Rattle.mm_plain.specs.LabelTrees.{fresh_by, fresh_proof, fresh_proof_of}
use Rattle.mm_plain.specs.Lengths.{is_long_step, first_long}
use Rattle.mm_plain.specs.Numbers.{labels_in}
use Rattle.mm_plain.specs.Shape.{Each, Proof, steps_of, target_of}
use Rattle.mm_plain.specs.Sources.{sigma_of, label_of}
use Rattle.mm_plain.specs.Valid.{IsGood, IsSound, IsValid, first_setting, most_works, setting_of}
use Rattle.mm_plain.proofs.Binding.{steps_of-bound}
use Rattle.mm_plain.proofs.Bounds.{sound_short}
use Rattle.mm_plain.proofs.Drawing.{labels_in-with_fresh, sound-fitting, target_of-with_fresh}
use Rattle.mm_plain.proofs.Equations.{by_trees}
use Rattle.mm_plain.proofs.Forms.{string_of_statement}
use Rattle.mm_plain.proofs.Instances.{valid_becomes}
use Rattle.mm_plain.proofs.LabelTrees.{fresh_proof_of-labels_in, sigmas_in-with_fresh, valid-fresh_proof}
use Rattle.mm_plain.proofs.Read.{sigma_of-known}
use Rattle.mm_plain.proofs.Works.{neither, statement_plain}
use Rattle.mm_edit.specs.Built.{IsBuiltProof, IsOwnStep, is_surely_found}
use Rattle.mm_edit.specs.Labelling.{label_tree_at, labels_for}
use Rattle.mm_edit.specs.Loading.{all_visited, loading, may_label, measured, or_too_long}
use Rattle.mm_edit.specs.declared.edit_fault.EditFault.{EditFault}
use Rattle.mm_edit.proofs.LoadedLemmas.{loading-so}
use Rattle.mm_edit.proofs.BuiltFinds.{Surely, surely, finds_parts}
use Rattle.mm_edit.proofs.BuiltFold.{IsReadyStep, visits_settle}
use Rattle.mm_edit.proofs.BuiltReady.{each_fresh, own-known, own-unknown, steps_ready}
use Rattle.mm_edit.proofs.PartialBinding.{IsGround, IsPart}
use Rattle.mm_edit.proofs.PartialLengths.{HasNoEmpty, part_short}

-- the values of a built proof

append_all : {A : Type 0} (P : A → Type 0) (s t : List A) → ByRecursion P s → ByRecursion P t → ByRecursion P (s ++ t)
append_all P [] t a b = b
append_all P (x ∷ xs) t a b = (a.0, append_all P xs t a.1 b)

pairs_values : (P : List WSym → Type 0) (s : Pairs) → ByRecursion (λ p. P p.1) s → ByRecursion P (map (λ p. p.1) s)
pairs_values P [] a = tt
pairs_values P (p ∷ ps) a = (a.0, pairs_values P ps a.1)

sure_pairs : (bytes : List ℕ) (set : Settings) (s : Pairs) → ByRecursion (λ p. is_surely_found bytes set p.1 ≡ true) s → ByRecursion (λ p. Surely bytes set p.1) s
sure_pairs bytes set [] a = tt
sure_pairs bytes set (p ∷ ps) a = (surely bytes set p.1 a.0, sure_pairs bytes set ps a.1)

own_sure : (bytes : List ℕ) (set : Settings) (y : Plain) → IsOwnStep bytes set y → ByRecursion (Surely bytes set) (values_at y)
own_sure bytes set = by_trees (λ y. IsOwnStep bytes set y → ByRecursion (Surely bytes set) (values_at y))
    (λ t o. absurd (own-unknown bytes set t o))
    (λ t l s kids e o.
    let own = own-known bytes set t l s kids o in
    subst (λ r. ByRecursion (Surely bytes set) (map (λ p. p.1) r)) (sym (sigma_of-known t l s kids))
    (pairs_values (Surely bytes set) s (sure_pairs bytes set s (recursion_from_All (λ (p : WSym × List WSym). is_surely_found bytes set p.1 ≡ true) s own.values))))

all_sure : (bytes : List ℕ) (set : Settings) (ys : List Plain) → Each (IsOwnStep bytes set) ys → ByRecursion (Surely bytes set) (flat_map values_at ys)
all_sure bytes set [] e = tt
all_sure bytes set (y ∷ ys) e =
    subst (ByRecursion (Surely bytes set)) (sym (flat_map-cons values_at y ys)) (append_all (Surely bytes set) (values_at y) (flat_map values_at ys) (own_sure bytes set y e.0) (all_sure bytes set ys e.1))

ground_pairs : (s : Pairs) → list_any (λ p. has_work p.1) s ≡ false → ByRecursion (λ v. has_work v ≡ false) (map (λ p. p.1) s)
ground_pairs [] h = tt
ground_pairs (p ∷ ps) h = let e = neither (has_work p.1) (list_any (λ q. has_work q.1) ps) h in (e.0, ground_pairs ps e.1)

all_ground : (ys : List Plain) → list_any works_at ys ≡ false → ByRecursion (λ v. has_work v ≡ false) (flat_map values_at ys)
all_ground [] h = tt
all_ground (y ∷ ys) h =
    let e = neither (works_at y) (list_any works_at ys) h in
    subst (ByRecursion (λ v. has_work v ≡ false)) (sym (flat_map-cons values_at y ys))
    (append_all (λ v. has_work v ≡ false) (values_at y) (flat_map values_at ys) (ground_pairs (sigma_of y) (neither (has_work (target_of y)) (list_any (λ p. has_work p.1) (sigma_of y)) e.0).1) (all_ground ys e.1))

numbered_all : (P : List WSym → Type 0) (n : ℕ) (vs : List (List WSym)) → ByRecursion P vs → ByRecursion (λ p. P p.1) (numbered n vs)
numbered_all P n [] a = tt
numbered_all P n (v ∷ vs) a = (a.0, numbered_all P (n + 1) vs a.1)

numbered_works : (n : ℕ) (vs : List (List WSym)) → ByRecursion (λ p. is_work p.0 ≡ true) (numbered n vs)
numbered_works n [] = tt
numbered_works n (v ∷ vs) = (refl, numbered_works (n + 1) vs)

not_empty : (bytes : List ℕ) (set : Settings) (ps : Pairs) → ByRecursion (λ p. Surely bytes set p.1) ps → HasNoEmpty ps
not_empty bytes set [] a = tt
not_empty bytes set (p ∷ ps) a = (a.0.some, not_empty bytes set ps a.1)

pub none_works : (s : List WSym) → ByRecursion (λ x. is_work x ≡ false) s → has_work s ≡ false
none_works [] h = refl
none_works (x ∷ xs) h = ap (λ b. b || has_work xs) h.0 ∙ none_works xs h.1

goal_fixed : (bytes : List ℕ) (at : ℕ) → has_work (statement_of bytes at) ≡ false
goal_fixed bytes at = none_works (statement_of bytes at) (recursion_from_All (λ x. is_work x ≡ false) (statement_of bytes at) (statement_plain (λ x. is_work x ≡ false) (λ x e. e) bytes at))

draws_are : (bytes : List ℕ) (x : Plain) → draws_of bytes x ≡ draws_all bytes (labels_in x)
unfolding draws_of
draws_are bytes x = refl

works_are : (x : Plain) → has_works x ≡ false → list_any works_at (steps_of x) ≡ false
unfolding has_works
works_are x h = h

sound_steps : (bytes : List ℕ) (at next : ℕ) (x : Plain) → IsSound (record { bytes = bytes; at = at; next = next }) x → Each (IsGood (record { bytes = bytes; at = at; next = next })) (steps_of x)
unfolding IsSound
sound_steps bytes at next x h = h

abbrev pub HaveDistinct : List ℕ → Type 0
HaveDistinct bytes = (id : ℕ) → AllDiffer (variables_of (statements_of bytes) (stated_at bytes id).mandatory)

built_visited : (bytes : List ℕ) (at : ℕ) (set : Settings) (labels : List (Option ℕ)) (p : Proof) → HaveDistinct bytes → IsBuiltProof bytes at set labels p
    → (fresh_proof_of bytes (statement_of bytes at) labels ≡ Some (fresh_proof bytes (statement_of bytes at) p.plain)) × (all_visited bytes set (fresh_proof bytes (statement_of bytes at) p.plain) ≡ Ok p)
built_visited bytes at set labels p differ b =
    let goal : List WSym = statement_of bytes at in
    let x : Plain = p.plain in
    let q : Proof = fresh_proof bytes goal x in
    let vs : List (List WSym) = values_in x in
    let gamma : Pairs = numbered 1 vs in
    let plain = goal_fixed bytes at in
    let fits = sound-fitting (setting_of bytes at p) x b.valid.steps in
    let begun : fresh_proof_of bytes goal labels ≡ Some q = ap (fresh_proof_of bytes goal) (sym b.labels_are) ∙ fresh_proof_of-labels_in bytes at goal x fits in
    let becomes : bound gamma q.plain ≡ x = valid_becomes bytes at goal p b.valid plain in
    let steps : steps_of x ≡ map (bound gamma) (steps_of q.plain) = ap steps_of (sym becomes) ∙ steps_of-bound gamma q.plain in
    let works : HasWorkKeys gamma = All-from_recursion (λ (r : WSym × List WSym). is_work r.0 ≡ true) gamma (numbered_works 1 vs) in
    let sure : ByRecursion (λ r. Surely bytes set r.1) gamma = numbered_all (Surely bytes set) 1 vs (all_sure bytes set (steps_of x) b.steps) in
    let ground : IsGround gamma = numbered_all (λ v. has_work v ≡ false) 1 vs (all_ground (steps_of x) (works_are x b.fixed)) in
    let next : q.next ≡ p.next = ap (λ n. 1 + n) (draws_are bytes x ∙ ap (draws_all bytes) b.labels_are) ∙ sym b.drawn in
    let few : draws_of bytes x ≤ most_works = omega (arith, next, b.valid.counter.1) in
    let valid : IsValid bytes at goal q = valid-fresh_proof bytes at goal x fits (string_of_statement (first_setting bytes at) at) b.valid.few b.valid.low few in
    let sigmas : map sigma_of (steps_of q.plain) ≡ fresh_by bytes 1 (map label_of (steps_of q.plain)) = sigmas_in-with_fresh bytes x 1 goal ∙ ap (fresh_by bytes 1) (sym (labels_in-with_fresh bytes x 1 goal)) in
    let ready : Each (IsReadyStep bytes gamma) (steps_of q.plain) =
    steps_ready bytes set (λ l. variables-differ bytes l (differ l)) at q.next gamma works (steps_of q.plain) (sound_steps bytes at q.next q.plain valid.steps) (each_fresh bytes (steps_of q.plain) 1 sigmas)
    (subst (Each (IsOwnStep bytes set)) steps b.steps) (ap (list_any works_at) (sym steps) ∙ works_are x b.fixed) in
    let short : (beta : Pairs) → IsPart gamma beta → first_long bytes (bound beta q.plain) ≡ None =
    λ beta part. part_short gamma works (not_empty bytes set gamma sure) beta part bytes q.plain
    (subst (λ z. ByRecursion (λ y. is_long_step bytes y ≡ false) (steps_of z)) (sym becomes) (sound_short (setting_of bytes at p) x b.valid.steps)) in
    let visits : all_visited bytes set q ≡ Ok (bound_in gamma q) =
    visits_settle bytes set gamma works ground (finds_parts bytes set gamma works ground sure) q short ready (ap has_work (target_of-with_fresh bytes x 1 goal) ∙ plain) in (
      begun,
      visits
          ∙ ap (λ z. let r : Result Proof EditFault = Ok (record { plain = z; next = q.next }) in r) becomes
          ∙ ap (λ n. let r : Result Proof EditFault = Ok (record { plain = x; next = n }) in r) next,
    )

-- the visits of the tree that the labels of a built proof begin give this proof
pub built_loads : (bytes : List ℕ) (at : ℕ) (set : Settings) (labels : List (Option ℕ)) (p q : Proof) → HaveDistinct bytes → IsBuiltProof bytes at set labels p
    → fresh_proof_of bytes (statement_of bytes at) labels ≡ Some q → all_visited bytes set q ≡ Ok p
built_loads bytes at set labels p q differ b h =
    let w = built_visited bytes at set labels p differ b in
    let same : fresh_proof bytes (statement_of bytes at) p.plain ≡ q = let e = sym w.0 ∙ h in cc in
    ap (all_visited bytes set) (sym same) ∙ w.1

within : (m n : ℕ) → n ≤ m → nat_lt m n ≡ false
within m n h = grind (arith, nat_tests)

-- loading gives a built proof of the labels, where each of them may stand in the proof
pub loading_built : (bytes : List ℕ) (at : ℕ) (set : Settings) (t : Tree) (p : Proof) → HaveDistinct bytes → measured (label_tree_at bytes at) ≡ Ok t → may_label bytes at t ≡ true
    → IsBuiltProof bytes at set (labels_for t) p → loading bytes at set ≡ Ok p
loading_built bytes at set t p differ m may b =
    let w = built_visited bytes at set (labels_for t) p differ b in
    let few : draws_all bytes (labels_for t) ≤ most_works = omega (arith, b.drawn, b.valid.counter.1) in
    loading-so bytes at set t (fresh_proof bytes (statement_of bytes at) p.plain) m may (within most_works (draws_all bytes (labels_for t)) few) w.0
    ∙ ap or_too_long w.1
