-- An accepted proof is loaded.
use Rattle.std.proofs.Common.{◌≡◌, ◌≤◌, ◌+◌, ◌&&◌, ℕ, Bool, true, false, nat_lt, List, [], ◌∷◌, map, Option, None, Some, Result, Ok, Err, All, refl, sym, ap, ◌∙◌, subst, arith, if◌then◌else◌}
use Rattle.std.proofs.lemmas.Bool.Decides.{nat_tests}
use Rattle.std.specs.List.{list_all, AllByRecursion as ByRecursion}
use Rattle.mm_subst.specs.Substitutions.{Pairs}
use Rattle.mm_subst.specs.declared.symbol.WSym.{WSym}
use Rattle.mm_unify.specs.declared.listing.Settings.{Settings}
use Rattle.mm_plain.specs.Binding.{has_works}
use Rattle.mm_plain.specs.Shape.{Each, Proof, known, unknown, steps_of}
use Rattle.mm_plain.specs.Sources.{sigma_of}
use Rattle.mm_plain.specs.Valid.{setting_of, most_levels, most_steps}
use Rattle.mm_plain.specs.declared.plain.Plain.{Plain}
use Rattle.mm_plain.specs.declared.plain.Plain.TheOpen as P
use Rattle.mm_plain.specs.declared.plain.Plain.TheViews as V
use Rattle.mm_plain.proofs.Equations.{by_trees, steps_of-unknown}
use Rattle.mm_plain.proofs.Read.{sigma_of-known}
use Rattle.mm_proof.specs.Compacting.{alone}
use Rattle.mm_proof.specs.Decoding.{decoded}
use Rattle.mm_proof.specs.Folding.{onward}
use Rattle.mm_proof.specs.Forests.{trees_in}
use Rattle.mm_proof.specs.Shapes.{height_in, steps_in}
use Rattle.mm_proof.specs.Trees.{Tree, postorder, trees_of}
use Rattle.mm_proof.specs.declared.fault.ProofFault.{ProofFault}
use Rattle.mm_proof.specs.declared.step.ProofStep.{ProofStep}
use Rattle.mm_tree.specs.Labelled.{draws_all}
use Rattle.mm_edit.specs.Built.{HasOwnStrings, IsBuiltProof, IsOwnStep, is_surely_found, own_layer}
use Rattle.mm_edit.specs.Labelling.{label_for, label_tree_at, labels_for, tree_read}
use Rattle.mm_edit.specs.Loading.{has_many_levels, loading, may_label, measured, stands_at}
use Rattle.mm_edit.specs.declared.loading.LoadFault.TheVariants.{TooManySteps, TooDeep}
use Rattle.mm_sound.specs.Complete.{IsDone, labels_in}
use Rattle.mm_sound.specs.LabelTrees.{label_tree}
use Rattle.mm_sound.specs.Proves.{Proves}
use Rattle.mm_sound.specs.Pushed.{IsSmall, Spells, pushed_proof, pushed_tree}
use Rattle.mm_sound.specs.Substituted.{HasValues}
use Rattle.mm_sound.proofs.Labelled.{number_for, is_postorder}
use Rattle.mm_sound.proofs.Runs.{never_unknown, settled}
use Rattle.mm_sound.proofs.Spelled.{MayStand, labels_stand}
use Rattle.mm_loaded.specs.Loads.{IsLight, Loads, proof_for}

-- ## The label tree of a text

pub tree_found : (bytes : List ℕ) (at : ℕ) (t : Tree) → Spells bytes at t → label_tree_at bytes at ≡ Some t
tree_found bytes at t s = ap (tree_read bytes) s.spelled ∙ ap (λ o. onward o alone) s.folds

lone : (o : Option (List Tree)) (t : Tree) → onward o alone ≡ Some t → o ≡ Some (t ∷ [])
lone None t h = absurd (cc)
lone (Some []) t h = absurd (cc)
lone (Some (u ∷ [])) t h = ap (λ x. Some (x ∷ [])) (let e : u ≡ t = cc in e)
lone (Some (u ∷ v ∷ ts)) t h = absurd (cc)

spells_by : (bytes : List ℕ) (at : ℕ) (t : Tree) (r : Result (List ProofStep) ProofFault) → decoded bytes at ≡ r → tree_read bytes r ≡ Some t → Spells bytes at t
spells_by bytes at t (Ok steps) is h = record { steps = steps; spelled = is; folds = lone (trees_in bytes steps) t h }
spells_by bytes at t (Err f) is h = absurd (cc)

pub tree_spells : (bytes : List ℕ) (at : ℕ) (t : Tree) → label_tree_at bytes at ≡ Some t → Spells bytes at t
tree_spells bytes at t h = spells_by bytes at t (decoded bytes at) refl h

-- ## Its labels

labels_back : (os : List (Option ℕ)) → map label_for (map number_for os) ≡ os
labels_back [] = refl
labels_back (None ∷ os) = ap (λ ls. None ∷ ls) (labels_back os)
labels_back (Some l ∷ os) = ap (λ ls. Some l ∷ ls) (labels_back os)

labels_are : (x : Plain) (t : Tree) → trees_of (label_tree x ∷ []) ≡ trees_of (t ∷ []) → labels_in x ≡ labels_for t
labels_are x t h = sym (labels_back (labels_in x)) ∙ ap (map label_for) (sym (is_postorder x)) ∙ ap (λ ts. map label_for (postorder ts)) h

stands_by : (bytes : List ℕ) (at : ℕ) (o : Option ℕ) → MayStand bytes at o → stands_at bytes at o ≡ true
stands_by bytes at None h = refl
stands_by bytes at (Some l) h = h

all_stand : (bytes : List ℕ) (at : ℕ) (os : List (Option ℕ)) → ByRecursion (MayStand bytes at) os → list_all (stands_at bytes at) os ≡ true
all_stand bytes at [] h = refl
all_stand bytes at (o ∷ os) h = ap (λ b. b && list_all (stands_at bytes at) os) (stands_by bytes at o h.0) ∙ all_stand bytes at os h.1

within : (m n : ℕ) → n ≤ m → nat_lt m n ≡ false
within m n h = grind (arith, nat_tests)

measured_is : (t : Tree) → 1 + steps_in t.children ≤ most_steps → 1 + height_in t.children ≤ most_levels → measured (Some t) ≡ Ok t
measured_is t few low =
    ap (λ (b : Bool). if b then Err TooManySteps else (if has_many_levels t then Err TooDeep else Ok t)) (within most_steps (1 + steps_in t.children) few)
    ∙ ap (λ (b : Bool). if b then Err TooDeep else Ok t) (within most_levels (1 + height_in t.children) low)

-- ## Its steps

abbrev AreSure : List ℕ → Settings → Plain → Type 0
AreSure bytes set y = All (λ p. is_surely_found bytes set p.1 ≡ true) (sigma_of y)

own_known : (bytes : List ℕ) (set : Settings) (t : List WSym) (l : ℕ) (s : Pairs) (kids : List Plain) → HasOwnStrings bytes set t l s → IsOwnStep bytes set (known t l s kids)
unfolding IsOwnStep
own_known bytes set t l s kids h = subst (own_layer bytes set) (sym (V.out-roll-Plain (P.Known t l s kids))) h

unknown_undone : (bytes : List ℕ) (t : List WSym) → IsDone bytes (unknown t) → ⊥
unknown_undone bytes t d = never_unknown bytes t (subst (Each (IsDone bytes)) (sym (steps_of-unknown t)) (d, tt))

step_own : (bytes : List ℕ) (set : Settings) (y : Plain) → IsDone bytes y → AreSure bytes set y → IsOwnStep bytes set y
step_own bytes set = by_trees (λ y. IsDone bytes y → AreSure bytes set y → IsOwnStep bytes set y)
    (λ t d a. absurd (unknown_undone bytes t d))
    (λ t l s kids h d a. own_known bytes set t l s kids (record {
      target = settled bytes t l s kids d;
      values = subst (λ q. All (λ p. is_surely_found bytes set p.1 ≡ true) q) (sigma_of-known t l s kids) a;
    }))

steps_own : (bytes : List ℕ) (set : Settings) (ys : List Plain) → Each (IsDone bytes) ys → Each (AreSure bytes set) ys → Each (IsOwnStep bytes set) ys
steps_own bytes set [] d a = tt
steps_own bytes set (y ∷ ys) d a = (step_own bytes set y d.0 a.0, steps_own bytes set ys d.1 a.1)

-- ## The law

abbrev BuiltLoads : List ℕ → Type 0
BuiltLoads bytes = (at : ℕ) (set : Settings) (t : Tree) (p : Proof) → measured (label_tree_at bytes at) ≡ Ok t → may_label bytes at t ≡ true → IsBuiltProof bytes at set (labels_for t) p → loading bytes at set ≡ Ok p

module _ (bytes : List ℕ) (built : BuiltLoads bytes) (at : ℕ) (set : Settings) (t : Tree) where
  -- what is accepted with this label tree is loaded
  pub tree_loads : ((next : ℕ) → IsSmall t next → Proves bytes at (pushed_proof bytes t next)) → label_tree (pushed_tree bytes t) ≡ t → has_works (pushed_tree bytes t) ≡ false
      → label_tree_at bytes at ≡ Some t → IsLight bytes t → HasValues (is_surely_found bytes set) (pushed_tree bytes t) → Loads bytes at set t
  tree_loads proves labels plain found light sure =
      let p : Proof = proof_for bytes t in
      let w = proves (1 + draws_all bytes (labels_for t)) (record { few = light.few; low = light.low; counter = (omega arith, omega (arith, light.drawn)) }) in
      let same : labels_in p.plain ≡ labels_for t = labels_are p.plain t (ap (λ u. trees_of (u ∷ [])) labels) in
      let may : may_label bytes at t ≡ true =
      ap (list_all (stands_at bytes at)) (sym same) ∙ all_stand bytes at (labels_in p.plain) (labels_stand (setting_of bytes at p) p.plain w.valid.steps) in
      record {
        loaded = built at set t p (ap measured found ∙ measured_is t light.few light.low) may (record {
          valid = w.valid;
          labels_are = same;
          drawn = refl;
          fixed = plain;
          steps = steps_own bytes set (steps_of p.plain) w.complete sure;
        });
        proves = w;
        labels = labels;
      }
