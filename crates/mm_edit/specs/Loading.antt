-- Loading: the proof that comes of a theorem's text.
use Rattle.std.specs.Prelude.{◌≡◌, ◌≢◌, ℕ, ◌+◌, ◌≤◌, Bool, true, not, List, [], ◌∷◌, nat_lt, Option, None, Some, Result, Ok, Err, IsErr, if◌then◌else◌}
use Rattle.std.specs.List.{list_all, range_with_len}
use Rattle.mm_base.specs.Refusals.{unless, given, found_or}
use Rattle.mm_proof.specs.Shapes.{height_in, steps_in}
use Rattle.mm_proof.specs.Trees.{Tree}
use Rattle.mm_proof.specs.declared.fault.ProofFault.{ProofFault}
use Rattle.mm_proof.specs.declared.fault.ProofFault.TheVariants as text
use Rattle.mm_proof.specs.declared.step.ProofStep.{ProofStep}
use Rattle.mm_subst.specs.Statements.{statement_of}
use Rattle.mm_unify.specs.declared.listing.Settings.{Settings}
use Rattle.mm_plain.specs.LabelTrees.{fresh_proof_of}
use Rattle.mm_plain.specs.Premises.{may_stand}
use Rattle.mm_plain.specs.Shape.{Proof, size_of, step_at}
use Rattle.mm_plain.specs.Valid.{most_levels, most_steps, most_works}
use Rattle.mm_tree.specs.Labelled.{draws_all}
use Rattle.mm_tree.specs.Trees.{State}
use Rattle.mm_tree.specs.declared.labelled.OfLabelsFault.{OfLabelsFault}
use Rattle.mm_tree.specs.declared.labelled.OfLabelsFault.TheVariants as begin
use Rattle.mm_edit.specs.Applying.{applying}
use Rattle.mm_edit.specs.Labelling.{label_tree_at, labels_for}
use Rattle.mm_edit.specs.Unifying.{going_on, unifier_at}
use Rattle.mm_edit.specs.declared.edit_fault.EditFault.{EditFault}
use Rattle.mm_edit.specs.declared.edit_fault.EditFault.TheVariants as edit
use Rattle.mm_edit.specs.declared.loading.LoadFault.{LoadFault}
use Rattle.mm_edit.specs.declared.loading.LoadFault.TheVariants.{NoTree, TooManySteps, TooDeep, WorkSpent, TooLong, Memory}

-- the proof after a step is visited: where it is pending and has an only unifier, this is applied to the whole
abbrev pub visited_at : List ℕ → Settings → Proof → ℕ → Result Proof EditFault
visited_at bytes set p k = going_on (unifier_at bytes set (step_at p.plain k)) p (λ theta. applying bytes theta p)

-- after several are visited, one after the other
abbrev pub visited : List ℕ → Settings → Proof → List ℕ → Result Proof EditFault
visited bytes set p [] = Ok p
visited bytes set p (k ∷ ks) = given (visited_at bytes set p k) (λ q. visited bytes set q ks)

-- and after each is, in postorder
abbrev pub all_visited : List ℕ → Settings → Proof → Result Proof EditFault
all_visited bytes set p = visited bytes set p (range_with_len 1 (size_of p.plain))

abbrev pub stands_at : List ℕ → ℕ → Option ℕ → Bool
stands_at bytes at None = true
stands_at bytes at (Some id) = may_stand bytes at id

-- whether each label of a tree may stand in the proof of a theorem
abbrev pub may_label : List ℕ → ℕ → Tree → Bool
may_label bytes at t = list_all (stands_at bytes at) (labels_for t)

abbrev pub has_many_steps : Tree → Bool
has_many_steps t = nat_lt most_steps (1 + steps_in t.children)

abbrev pub has_many_levels : Tree → Bool
has_many_levels t = nat_lt most_levels (1 + height_in t.children)

abbrev pub has_many_works : List ℕ → Tree → Bool
has_many_works bytes t = nat_lt most_works (draws_all bytes (labels_for t))

-- a string that gets too long refuses the whole
abbrev pub or_too_long : Result Proof EditFault → Result Proof LoadFault
or_too_long (Ok p) = Ok p
or_too_long (Err f) = Err TooLong

-- the label tree, unless there is none, or it is too large
abbrev pub measured : Option Tree → Result Tree LoadFault
measured None = Err NoTree
measured (Some t) = if has_many_steps t then Err TooManySteps else (if has_many_levels t then Err TooDeep else Ok t)

-- The proof that comes of a theorem's text: the tree that its labels fold to, with fresh work variables, after each step of it
-- is visited once.
unfoldable pub loading : List ℕ → ℕ → Settings → Result Proof LoadFault
loading bytes at set =
    given (measured (label_tree_at bytes at)) (λ t.
    unless ((not (may_label bytes at t), NoTree) ∷ (has_many_works bytes t, WorkSpent) ∷ [])
    (given (found_or (fresh_proof_of bytes (statement_of bytes at) (labels_for t)) NoTree) (λ p. or_too_long (all_visited bytes set p))))

-- The tree has the proof that comes of the text; or that is refused, or memory ran out.
abbrev pub IsLoaded : Result Proof LoadFault → Result State LoadFault → Type 0
IsLoaded meaning (Ok t) = meaning ≡ Ok t.proof
IsLoaded meaning (Err f) = f ≢ Memory → meaning ≡ Err f

-- a text's fault means that there is no tree
abbrev pub fault_of_text : ProofFault → LoadFault
fault_of_text text.Memory = Memory
fault_of_text f = NoTree

-- the steps that a text spells, or that it spells none
abbrev pub HasSteps : Result (List ProofStep) LoadFault → Result (List ProofStep) ProofFault → Type 0
HasSteps (Ok steps) read = read ≡ Ok steps
HasSteps (Err f) read = f ≢ Memory → (f ≡ NoTree) × IsErr read

-- there is a label tree that is not too large; or why there is none
abbrev pub IsMeasured : Result Unit LoadFault → Option Tree → Type 0
IsMeasured (Ok u) found = (t : Tree) × (measured found ≡ Ok t)
IsMeasured (Err f) found = f ≢ Memory → measured found ≡ Err f

-- these are the labels of the label tree
abbrev pub AreLabelsOf : Option Tree → List (Option ℕ) → Type 0
AreLabelsOf found labels = (t : Tree) × (measured found ≡ Ok t) × (labels ≡ labels_for t)

-- there is no such tree
abbrev pub HasNone : Option Tree → LoadFault → Type 0
HasNone found f = f ≢ Memory → measured found ≡ Err f

-- no node is counted where there is no tree, else at most one a step
abbrev pub IsCost : Result Tree LoadFault → ℕ → ℕ → Type 0
IsCost (Ok t) old now = now ≤ old + (1 + steps_in t.children)
IsCost (Err f) old now = now ≡ old

-- a fault of a tree's beginning, as one of loading
abbrev pub fault_of_labels : OfLabelsFault → LoadFault
fault_of_labels begin.WorkSpent = WorkSpent
fault_of_labels begin.Memory = Memory

-- a visit that is refused has a string that is too long
abbrev pub fault_of_visit : EditFault → LoadFault
fault_of_visit edit.Memory = Memory
fault_of_visit f = TooLong

-- these are the labels of the label tree, which is not too large, and each may stand in the proof
pub record IsRead (bytes : List ℕ) (at : ℕ) (labels : List (Option ℕ)) : Type 0 where
  pub tree : Tree
  pub measures : measured (label_tree_at bytes at) ≡ Ok tree
  pub labels_are : labels ≡ labels_for tree
  pub stand : list_all (stands_at bytes at) labels ≡ true
