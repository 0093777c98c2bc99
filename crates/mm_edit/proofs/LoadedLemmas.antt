-- What loading comes to, from what its parts answer.
use Rattle.std.proofs.Common.{◌≡◌, ◌≢◌, ℕ, ◌+◌, ◌≤◌, ◌<◌, Bool, true, false, ◌&&◌, nat_lt, if◌then◌else◌, List, [], ◌∷◌, length, Option, None, Some, refl, sym, ◌∙◌, ap, subst, arith}
use Rattle.std.specs.Prelude.{Result, Ok, Err, IsErr}
use Rattle.std.specs.List.{list_all, All, AllByRecursion as ByRecursion}
use Rattle.std.proofs.lemmas.Bool.{false≢true}
use Rattle.std.proofs.lemmas.Bool.Decides.{nat_tests}
use Rattle.std.proofs.lemmas.List.Elements.{All-from_recursion}
use Rattle.std.proofs.lemmas.Option.{none-some, same_Some}
use Rattle.mm_base.specs.Refusals.{unless, given}
use Rattle.mm_proof.specs.Compacting.{alone}
use Rattle.mm_proof.specs.Decoding.{decoded}
use Rattle.mm_proof.specs.Folding.{onward}
use Rattle.mm_proof.specs.Forests.{arity_of, plain_steps, trees_in}
use Rattle.mm_proof.specs.Shapes.{height_in, shape_by, shape_of, steps_in}
use Rattle.mm_proof.specs.Trees.{Tree}
use Rattle.mm_proof.specs.declared.extent.Shape.{Shape}
use Rattle.mm_proof.specs.declared.fault.ProofFault.{ProofFault}
use Rattle.mm_proof.specs.declared.step.ProofStep.{ProofStep}
use Rattle.mm_proof.proofs.Wholes.{fold_whole}
use Rattle.mm_subst.specs.Statements.{statement_of}
use Rattle.mm_unify.specs.declared.listing.Settings.{Settings}
use Rattle.mm_plain.specs.LabelTrees.{MayStand, fresh_proof_of}
use Rattle.mm_plain.specs.Shape.{Proof}
use Rattle.mm_plain.specs.Valid.{most_levels, most_steps}
use Rattle.mm_tree.specs.Labelled.{FoldLow}
use Rattle.mm_edit.specs.Labelling.{AreLabels, label_tree_at, labels_for, tree_read}
use Rattle.mm_edit.specs.Loading.{AreLabelsOf, HasNone, all_visited, has_many_levels, has_many_steps, has_many_works, loading, may_label, measured, or_too_long, stands_at}
use Rattle.mm_edit.specs.declared.loading.LoadFault.{LoadFault}
use Rattle.mm_edit.specs.declared.loading.LoadFault.TheVariants.{NoTree, TooManySteps, TooDeep, WorkSpent, Memory}
use Rattle.mm_edit.proofs.LabelTreeLemmas.{fold_low, length-labels}

-- a tree that is measured

few : (n m : ℕ) → n ≤ m → nat_lt m n ≡ false
few n m h = grind (arith, nat_tests)

many : (m n : ℕ) → m < n → nat_lt m n ≡ true
many m n h = grind (arith, nat_tests)

at-most : (m n : ℕ) → nat_lt m n ≡ false → n ≤ m
at-most m n h = grind arith

one-measured : (t : Tree) (s : Shape) → shape_of t ≡ s → s.steps ≤ most_steps → s.height ≤ most_levels → measured (Some t) ≡ Ok t
one-measured t s is a b =
    let steps : 1 + steps_in t.children ≤ most_steps = omega (arith, ap (λ (x : Shape). x.steps) is, a) in
    let levels : 1 + height_in t.children ≤ most_levels = omega (arith, ap (λ (x : Shape). x.height) is, b) in
    ap (λ (c : Bool). if c then Err TooManySteps else (if has_many_levels t then Err TooDeep else Ok t)) (few (1 + steps_in t.children) most_steps steps)
    ∙ ap (λ (c : Bool). if c then Err TooDeep else Ok t) (few (1 + height_in t.children) most_levels levels)

pub measured-ok : (o : Option (List Tree)) (s : Shape) → shape_by o ≡ Some s → s.steps ≤ most_steps → s.height ≤ most_levels → (t : Tree) × (measured (onward o alone) ≡ Ok t)
measured-ok None s e a b = absurd (none-some s e)
measured-ok (Some []) s e a b = absurd (none-some s e)
measured-ok (Some (t ∷ [])) s e a b = (t, one-measured t s (same_Some (shape_of t) s e) a b)
measured-ok (Some (t ∷ u ∷ ts)) s e a b = absurd (none-some s e)

pub record IsFit (t : Tree) (x : Tree) : Type 0 where
  pub same : t ≡ x
  pub steps : has_many_steps t ≡ false
  pub levels : has_many_levels t ≡ false

fit : (t x : Tree) → measured (Some t) ≡ Ok x → IsFit t x
fit t x h = go (has_many_steps t) (has_many_levels t) refl refl h
  where
    go : (a b : Bool) → has_many_steps t ≡ a → has_many_levels t ≡ b → (if a then Err TooManySteps else (if b then Err TooDeep else Ok t)) ≡ Ok x → IsFit t x
    go true b e f h = cc
    go false true e f h = cc
    go false false e f h = record { same = cc; steps = e; levels = f }

-- the tree that is found is the one that steps fold to

pub record IsFound (bytes : List ℕ) (at : ℕ) (t : Tree) : Type 0 where
  pub steps : List ProofStep
  pub folds : trees_in bytes steps ≡ Some (t ∷ [])
  pub few : has_many_steps t ≡ false
  pub low : has_many_levels t ≡ false

pub folds-one : (o : Option (List Tree)) (t : Tree) → measured (onward o alone) ≡ Ok t → (o ≡ Some (t ∷ [])) × (has_many_steps t ≡ false) × (has_many_levels t ≡ false)
folds-one None t h = cc
folds-one (Some []) t h = cc
folds-one (Some (x ∷ [])) t h =
    let f = fit x t h in
    (ap (λ (y : Tree). Some (y ∷ [])) f.same, subst (λ (y : Tree). has_many_steps y ≡ false) f.same f.steps, subst (λ (y : Tree). has_many_levels y ≡ false) f.same f.levels)
folds-one (Some (x ∷ y ∷ ys)) t h = cc

found-by : (bytes : List ℕ) (at : ℕ) (t : Tree) (read : Result (List ProofStep) ProofFault) → measured (tree_read bytes read) ≡ Ok t → IsFound bytes at t
found-by bytes at t (Ok steps) h = let f = folds-one (trees_in bytes steps) t h in record { steps = steps; folds = f.0; few = f.1; low = f.2 }
found-by bytes at t (Err f) h = cc

pub found : (bytes : List ℕ) (at : ℕ) (t : Tree) → measured (label_tree_at bytes at) ≡ Ok t → IsFound bytes at t
found bytes at t h = found-by bytes at t (decoded bytes at) h

-- the labels

read-so : (bytes : List ℕ) (at : ℕ) (steps : List ProofStep) → decoded bytes at ≡ Ok steps → label_tree_at bytes at ≡ onward (trees_in bytes steps) alone
read-so bytes at steps e = ap (tree_read bytes) e

pub labels-so : (bytes : List ℕ) (at : ℕ) (steps : List ProofStep) (labels : List (Option ℕ)) → decoded bytes at ≡ Ok steps → (t : Tree) → measured (onward (trees_in bytes steps) alone) ≡ Ok t → AreLabels bytes steps labels
    → AreLabelsOf (label_tree_at bytes at) labels
labels-so bytes at steps labels e t m are = (t, ap measured (read-so bytes at steps e) ∙ m, are t (folds-one (trees_in bytes steps) t m).0)

pub none-so : (bytes : List ℕ) (at : ℕ) (steps : List ProofStep) (f : LoadFault) → decoded bytes at ≡ Ok steps → HasNone (onward (trees_in bytes steps) alone) f → HasNone (label_tree_at bytes at) f
none-so bytes at steps f e h = λ other. ap measured (read-so bytes at steps e) ∙ h other

unread-by : (bytes : List ℕ) (f : LoadFault) (read : Result (List ProofStep) ProofFault) → f ≡ NoTree → IsErr read → measured (tree_read bytes read) ≡ Err f
unread-by bytes f (Ok steps) e h = absurd (false≢true h)
unread-by bytes f (Err g) e h = ap Err (sym e)

pub unread : (bytes : List ℕ) (at : ℕ) (f : LoadFault) → (f ≢ Memory → (f ≡ NoTree) × IsErr (decoded bytes at)) → HasNone (label_tree_at bytes at) f
unread bytes at f h = λ other. unread-by bytes f (decoded bytes at) (h other).0 (h other).1

-- what a tree of labels needs

arity-none : (bytes : List ℕ) → arity_of bytes 0 ≡ 0
unfolding arity_of
arity-none bytes = refl

pub folds-low : (bytes : List ℕ) (at : ℕ) (t : Tree) (labels : List (Option ℕ)) → measured (label_tree_at bytes at) ≡ Ok t → labels ≡ labels_for t → FoldLow bytes labels
folds-low bytes at t labels m e =
    let f = found bytes at t m in
    subst (FoldLow bytes) (sym e) (fold_low bytes t (fold_whole (arity_of bytes) (plain_steps f.steps) (t ∷ []) (arity-none bytes) f.folds) f.low)

pub few-labels : (bytes : List ℕ) (at : ℕ) (t : Tree) (labels : List (Option ℕ)) → measured (label_tree_at bytes at) ≡ Ok t → labels ≡ labels_for t → length labels ≤ most_steps
few-labels bytes at t labels m e =
    let f = found bytes at t m in
    let few = f.few in
    omega (arith, ap length e, length-labels t, at-most most_steps (1 + steps_in t.children) few)

pub count-labels : (t : Tree) (labels : List (Option ℕ)) → labels ≡ labels_for t → length labels ≡ 1 + steps_in t.children
count-labels t labels e = ap length e ∙ length-labels t

stand-one : (bytes : List ℕ) (at : ℕ) (o : Option ℕ) → stands_at bytes at o ≡ true → MayStand bytes at o
stand-one bytes at None h = tt
stand-one bytes at (Some id) h = h

both : (a b : Bool) → (a && b) ≡ true → (a ≡ true) × (b ≡ true)
both true b h = (refl, h)
both false b h = absurd (false≢true h)

stand-by : (bytes : List ℕ) (at : ℕ) (os : List (Option ℕ)) → list_all (stands_at bytes at) os ≡ true → ByRecursion (MayStand bytes at) os
stand-by bytes at [] h = tt
stand-by bytes at (o ∷ os) h = let w = both (stands_at bytes at o) (list_all (stands_at bytes at) os) h in (stand-one bytes at o w.0, stand-by bytes at os w.1)

pub all-stand : (bytes : List ℕ) (at : ℕ) (os : List (Option ℕ)) → list_all (stands_at bytes at) os ≡ true → All (MayStand bytes at) os
all-stand bytes at os h = All-from_recursion (MayStand bytes at) os (stand-by bytes at os h)

-- what loading comes to

pub loading-none : (bytes : List ℕ) (at : ℕ) (set : Settings) (f : LoadFault) → measured (label_tree_at bytes at) ≡ Err f → loading bytes at set ≡ Err f
unfolding loading given
loading-none bytes at set f e = rw e refl

pub loading-stray : (bytes : List ℕ) (at : ℕ) (set : Settings) (t : Tree) → measured (label_tree_at bytes at) ≡ Ok t → may_label bytes at t ≡ false → loading bytes at set ≡ Err NoTree
unfolding loading given unless
loading-stray bytes at set t e h = rw (e, h) refl

pub loading-spent : (bytes : List ℕ) (at : ℕ) (set : Settings) (t : Tree) → measured (label_tree_at bytes at) ≡ Ok t → may_label bytes at t ≡ true → has_many_works bytes t ≡ true → loading bytes at set ≡ Err WorkSpent
unfolding loading given unless
loading-spent bytes at set t e h w = rw (e, h, w) refl

pub loading-so : (bytes : List ℕ) (at : ℕ) (set : Settings) (t : Tree) (p : Proof) → measured (label_tree_at bytes at) ≡ Ok t → may_label bytes at t ≡ true → has_many_works bytes t ≡ false
    → fresh_proof_of bytes (statement_of bytes at) (labels_for t) ≡ Some p → loading bytes at set ≡ or_too_long (all_visited bytes set p)
unfolding loading given unless
loading-so bytes at set t p e h w f = rw (e, h, w, f) refl
