-- A proof that is loaded is valid.
use Rattle.std.proofs.Common.{◌≡◌, ◌≢◌, ◌≤◌, ◌<◌, ◌+◌, ℕ, Bool, true, false, not, ◌||◌, nat_lt, List, [], ◌∷◌, map, length, cond, Option, None, Some, refl, sym, ◌∙◌, ap, subst, arith}
use Rattle.std.specs.Prelude.{Result, Ok, Err, IfOk, IfSome, All}
use Rattle.std.specs.List.{list_all}
use Rattle.std.specs.Option.{option_map}
use Rattle.std.proofs.lemmas.Bool.Decides.{nat_tests}
use Rattle.mm_base.specs.Refusals.{unless, given, found_or}
use Rattle.mm_proof.specs.Trees.{Tree}
use Rattle.mm_scope.specs.Contents.{is_variable_of, stated_at}
use Rattle.mm_subst.specs.Statements.{statement_of, symbol_of}
use Rattle.mm_subst.specs.Symbols.{has_work, is_work}
use Rattle.mm_subst.specs.declared.symbol.WSym.{WSym}
use Rattle.mm_subst.specs.declared.symbol.WSym.TheVariants.{Const, Var}
use Rattle.mm_unify.specs.declared.listing.Settings.{Settings}
use Rattle.mm_plain.specs.LabelTrees.{MayStand, fresh_proof, fresh_proof_of}
use Rattle.mm_plain.specs.Shape.{Proof, target_of}
use Rattle.mm_plain.specs.Valid.{IsValid, first_setting, most_steps, most_works}
use Rattle.mm_plain.proofs.Forms.{string_of_statement}
use Rattle.mm_plain.proofs.LabelTrees.{height-begun, next-begun, valid-begun}
use Rattle.mm_tree.specs.Labelled.{FoldLow, IsBegun, draws_all}
use Rattle.mm_tree.specs.Trees.{State}
use Rattle.mm_tree.specs.declared.labelled.OfLabelsFault.{OfLabelsFault}
use Rattle.mm_tree.specs.declared.labelled.OfLabelsFault.TheVariants as begin
use Rattle.mm_edit.specs.Built.{IsBuiltProof}
use Rattle.mm_edit.specs.Keeping.{IsProofOf}
use Rattle.mm_edit.specs.Labelling.{label_tree_at, labels_for}
use Rattle.mm_edit.specs.Loading.{AreLabelsOf, IsCost, IsLoaded, IsRead, all_visited, fault_of_labels, fault_of_visit, has_many_works, loading, may_label, measured, or_too_long, stands_at}
use Rattle.mm_edit.specs.declared.edit_fault.EditFault.{EditFault}
use Rattle.mm_edit.specs.declared.edit_fault.EditFault.TheVariants as edit
use Rattle.mm_edit.specs.declared.loading.LoadFault.{LoadFault}
use Rattle.mm_edit.specs.declared.loading.LoadFault.TheVariants.{NoTree, WorkSpent, Memory}
use Rattle.mm_edit.proofs.BuiltLaw.{HaveDistinct, loading_built}
use Rattle.mm_edit.proofs.LoadLemmas.{all_visits_stay}
use Rattle.mm_edit.proofs.LoadedLemmas.{all-stand, count-labels, few-labels, folds-low, loading-so, loading-spent, loading-stray}

is_fixed : (bytes : List ℕ) (n : ℕ) → is_work (symbol_of bytes n) ≡ false
is_fixed bytes n = by (is_variable_of bytes n) where
  by : (b : Bool) → is_work (cond b (Var n) (Const n)) ≡ false
  by true = refl
  by false = refl

are_fixed : (bytes : List ℕ) (ns : List ℕ) → has_work (map (symbol_of bytes) ns) ≡ false
are_fixed bytes [] = refl
are_fixed bytes (n ∷ ns) = ap (λ (b : Bool). b || has_work (map (symbol_of bytes) ns)) (is_fixed bytes n) ∙ are_fixed bytes ns

statement_fixed : (bytes : List ℕ) (id : ℕ) → has_work (statement_of bytes id) ≡ false
unfolding statement_of
statement_fixed bytes id = are_fixed bytes (stated_at bytes id).symbols

no_more : (m n : ℕ) → nat_lt m n ≡ false → n ≤ m
no_more m n h = grind arith

ok_same : (p q : Proof) → (let r : Result Proof LoadFault = Ok p in r) ≡ Ok q → p ≡ q
ok_same p q e = cc

ok_short : (r : Result Proof EditFault) (q : Proof) → or_too_long r ≡ Ok q → r ≡ Ok q
ok_short (Ok p) q h = ap (λ (x : Proof). let r : Result Proof EditFault = Ok x in r) (ok_same p q h)
ok_short (Err f) q h = cc

begun_valid : (bytes : List ℕ) (at : ℕ) (t : Tree) (p : Proof) → measured (label_tree_at bytes at) ≡ Ok t → may_label bytes at t ≡ true → has_many_works bytes t ≡ false
    → fresh_proof_of bytes (statement_of bytes at) (labels_for t) ≡ Some p → IsValid bytes at (statement_of bytes at) p
begun_valid bytes at t p m may works fresh =
    let low = folds-low bytes at t (labels_for t) m refl in
    let drawn : draws_all bytes (labels_for t) ≤ most_works = no_more most_works (draws_all bytes (labels_for t)) works in
    valid-begun bytes at (statement_of bytes at) (labels_for t) p fresh (all-stand bytes at (labels_for t) may) (string_of_statement (first_setting bytes at) at) (few-labels bytes at t (labels_for t) m refl)
    (omega (arith, low.2, height-begun bytes (statement_of bytes at) (labels_for t) low.0 p low.1 fresh))
    (omega (arith, drawn, next-begun bytes (statement_of bytes at) (labels_for t) p fresh))

pub loading_valid : (bytes : List ℕ) (at : ℕ) (set : Settings) (q : Proof) → loading bytes at set ≡ Ok q → IsValid bytes at (statement_of bytes at) q
unfolding loading given unless
loading_valid bytes at set q e = by (measured (label_tree_at bytes at)) refl e where
  visits : (t : Tree) → Result Proof LoadFault
  visits t = given (found_or (fresh_proof_of bytes (statement_of bytes at) (labels_for t)) NoTree) (λ p. or_too_long (all_visited bytes set p))

  begun : (t : Tree) → measured (label_tree_at bytes at) ≡ Ok t → may_label bytes at t ≡ true → has_many_works bytes t ≡ false → (o : Option Proof) → fresh_proof_of bytes (statement_of bytes at) (labels_for t) ≡ o
      → given (found_or o NoTree) (λ p. or_too_long (all_visited bytes set p)) ≡ Ok q → IsValid bytes at (statement_of bytes at) q
  begun t m may works None fresh h = cc
  begun t m may works (Some p) fresh h =
      (all_visits_stay bytes at set (statement_of bytes at) p q (record { valid = begun_valid bytes at t p m may works fresh; fixed = statement_fixed bytes at }) (ok_short (all_visited bytes set p) q h)).valid

  rows : (t : Tree) → measured (label_tree_at bytes at) ≡ Ok t → (b : Bool) → may_label bytes at t ≡ b → (w : Bool) → has_many_works bytes t ≡ w
      → unless ((not b, NoTree) ∷ (w, WorkSpent) ∷ []) (visits t) ≡ Ok q → IsValid bytes at (statement_of bytes at) q
  rows t m false may w works h = cc
  rows t m true may true works h = cc
  rows t m true may false works h = begun t m may works (fresh_proof_of bytes (statement_of bytes at) (labels_for t)) refl h

  by : (r : Result Tree LoadFault) → measured (label_tree_at bytes at) ≡ r
      → given r (λ t. unless ((not (may_label bytes at t), NoTree) ∷ (has_many_works bytes t, WorkSpent) ∷ []) (visits t)) ≡ Ok q → IsValid bytes at (statement_of bytes at) q
  by (Err f) m h = cc
  by (Ok t) m h = rows t m (may_label bytes at t) refl (has_many_works bytes t) refl h

-- ## What `load` answers

pub begun_proof : (bytes : List ℕ) (at : ℕ) (p : Proof) → IsValid bytes at (statement_of bytes at) p → IsProofOf bytes at (target_of p.plain) p
begun_proof bytes at p valid = subst (λ (goal : List WSym). IsProofOf bytes at goal p) (sym valid.goal_is) (record { valid = valid; fixed = statement_fixed bytes at })

-- the proof with which its tree begins
abbrev first_proof : (bytes : List ℕ) (at : ℕ) (labels : List (Option ℕ)) → IsRead bytes at labels → Proof
first_proof bytes at labels r = fresh_proof bytes (statement_of bytes at) (folds-low bytes at r.tree labels r.measures r.labels_are).0

begins_so : (bytes : List ℕ) (at : ℕ) (labels : List (Option ℕ)) → (r : IsRead bytes at labels) → fresh_proof_of bytes (statement_of bytes at) labels ≡ Some (first_proof bytes at labels r)
begins_so bytes at labels r = ap (option_map (fresh_proof bytes (statement_of bytes at))) (folds-low bytes at r.tree labels r.measures r.labels_are).1

drawn_so : (bytes : List ℕ) (at : ℕ) (labels : List (Option ℕ)) → (r : IsRead bytes at labels) → (first_proof bytes at labels r).next ≡ 1 + draws_all bytes labels
drawn_so bytes at labels r = next-begun bytes (statement_of bytes at) labels (first_proof bytes at labels r) (begins_so bytes at labels r)

over : (m n : ℕ) → m < n → nat_lt m n ≡ true
over m n h = grind (arith, nat_tests)

within : (m n : ℕ) → n ≤ m → nat_lt m n ≡ false
within m n h = grind (arith, nat_tests)

abbrev Begins : List ℕ → ℕ → List (Option ℕ) → Result State OfLabelsFault → Type 0
Begins bytes at labels result = (p : Proof) → fresh_proof_of bytes (statement_of bytes at) labels ≡ Some p → IsBegun result p

pub spent_so : (bytes : List ℕ) (at : ℕ) (set : Settings) (labels : List (Option ℕ)) (f : OfLabelsFault) → IsRead bytes at labels → Begins bytes at labels (Err f) → fault_of_labels f ≢ Memory → loading bytes at set ≡ Err (fault_of_labels f)
spent_so bytes at set labels begin.WorkSpent r begins other =
    loading-spent bytes at set r.tree r.measures (subst (λ (os : List (Option ℕ)). list_all (stands_at bytes at) os ≡ true) r.labels_are r.stand)
    (over most_works (draws_all bytes (labels_for r.tree)) (omega (arith, begins (first_proof bytes at labels r) (begins_so bytes at labels r), drawn_so bytes at labels r, ap (draws_all bytes) r.labels_are)))
spent_so bytes at set labels begin.Memory r begins other = absurd (other refl)

-- loading is the visits of the steps of the tree that begins
visits_so : (bytes : List ℕ) (at : ℕ) (set : Settings) (labels : List (Option ℕ)) (t : State) → IsRead bytes at labels → Begins bytes at labels (Ok t) → loading bytes at set ≡ or_too_long (all_visited bytes set t.proof)
visits_so bytes at set labels t r begins =
    let p : Proof = first_proof bytes at labels r in
    let b = begins p (begins_so bytes at labels r) in
    loading-so bytes at set r.tree p r.measures (subst (λ (os : List (Option ℕ)). list_all (stands_at bytes at) os ≡ true) r.labels_are r.stand)
    (within most_works (draws_all bytes (labels_for r.tree)) (omega (arith, b.1, drawn_so bytes at labels r, ap (draws_all bytes) r.labels_are)))
    (subst (λ (os : List (Option ℕ)). fresh_proof_of bytes (statement_of bytes at) os ≡ Some p) r.labels_are (begins_so bytes at labels r))
    ∙ ap (λ (x : Proof). or_too_long (all_visited bytes set x)) (sym b.0)

pub loaded_so : (bytes : List ℕ) (at : ℕ) (set : Settings) (labels : List (Option ℕ)) (t : State) (q : Proof) → IsRead bytes at labels → Begins bytes at labels (Ok t) → all_visited bytes set t.proof ≡ Ok q → loading bytes at set ≡ Ok q
loaded_so bytes at set labels t q r begins visited = visits_so bytes at set labels t r begins ∙ ap or_too_long visited

visit_err : (r : Result Proof EditFault) (f : EditFault) → (f ≢ edit.Memory → r ≡ Err f) → fault_of_visit f ≢ Memory → or_too_long r ≡ Err (fault_of_visit f)
visit_err r edit.Memory h other = absurd (other refl)
visit_err r f h other = ap or_too_long (h (λ e. other (ap fault_of_visit e)))

pub refused_so : (bytes : List ℕ) (at : ℕ) (set : Settings) (labels : List (Option ℕ)) (t : State) (f : EditFault) → IsRead bytes at labels → Begins bytes at labels (Ok t) → (f ≢ edit.Memory → all_visited bytes set t.proof ≡ Err f)
    → fault_of_visit f ≢ Memory → loading bytes at set ≡ Err (fault_of_visit f)
refused_so bytes at set labels t f r begins visited other = visits_so bytes at set labels t r begins ∙ visit_err (all_visited bytes set t.proof) f visited other

pub cost_so : (bytes : List ℕ) (at : ℕ) (labels : List (Option ℕ)) (old now : ℕ) → IsRead bytes at labels → now ≤ old + length labels → IsCost (measured (label_tree_at bytes at)) old now
cost_so bytes at labels old now r h = subst (λ (m : Result Tree LoadFault). IsCost m old now) (sym r.measures) (omega (arith, h, count-labels r.tree labels r.labels_are))

pub read_so : (bytes : List ℕ) (at : ℕ) (labels xs ys : List (Option ℕ)) → AreLabelsOf (label_tree_at bytes at) labels → xs ≡ labels → ys ≡ labels → list_all (stands_at bytes at) xs ≡ true → IsRead bytes at ys
read_so bytes at labels xs ys l e f h =
    record { tree = l.0; measures = l.1; labels_are = f ∙ l.2; stand = subst (λ (os : List (Option ℕ)). list_all (stands_at bytes at) os ≡ true) (e ∙ sym f) h }

pub loaded_valid : (bytes : List ℕ) (at : ℕ) (set : Settings) (r : Result State LoadFault) → IsLoaded (loading bytes at set) r → IfOk r (λ t. IsValid bytes at (statement_of bytes at) t.proof)
loaded_valid bytes at set (Ok t) h = loading_valid bytes at set t.proof h
loaded_valid bytes at set (Err f) h = tt

-- a built proof of these labels is what loading gives
pub built_so : (bytes : List ℕ) (at : ℕ) (set : Settings) (labels : List (Option ℕ)) (o : Option State) (t : State) → HaveDistinct bytes → IsRead bytes at labels → IfSome o (λ u. IsBuiltProof bytes at set labels u.proof)
    → o ≡ Some t → loading bytes at set ≡ Ok t.proof
built_so bytes at set labels o t differ r b e =
    let built : IsBuiltProof bytes at set labels t.proof = subst (λ (x : Option State). IfSome x (λ u. IsBuiltProof bytes at set labels u.proof)) e b in
    loading_built bytes at set r.tree t.proof differ r.measures (subst (λ (os : List (Option ℕ)). list_all (stands_at bytes at) os ≡ true) r.labels_are r.stand)
    (subst (λ (os : List (Option ℕ)). IsBuiltProof bytes at set os t.proof) r.labels_are built)

pub read_few : (bytes : List ℕ) (at : ℕ) (labels : List (Option ℕ)) → IsRead bytes at labels → length labels ≤ most_steps
read_few bytes at labels r = few-labels bytes at r.tree labels r.measures r.labels_are

pub read_low : (bytes : List ℕ) (at : ℕ) (labels : List (Option ℕ)) → IsRead bytes at labels → FoldLow bytes labels
read_low bytes at labels r = folds-low bytes at r.tree labels r.measures r.labels_are

pub read_stand : (bytes : List ℕ) (at : ℕ) (labels : List (Option ℕ)) → IsRead bytes at labels → All (MayStand bytes at) labels
read_stand bytes at labels r = all-stand bytes at labels r.stand

pub stray_so : (bytes : List ℕ) (at : ℕ) (set : Settings) (labels xs : List (Option ℕ)) → AreLabelsOf (label_tree_at bytes at) labels → xs ≡ labels → list_all (stands_at bytes at) xs ≡ false → loading bytes at set ≡ Err NoTree
stray_so bytes at set labels xs l e h = loading-stray bytes at set l.0 l.1 (subst (λ (os : List (Option ℕ)). list_all (stands_at bytes at) os ≡ false) (e ∙ l.2) h)
