-- The tree of a label tree has its labels and its shape.
use Rattle.std.proofs.Common.{◌≡◌, ◌+◌, max, ℕ, zero, suc, List, [], ◌∷◌, map, length, refl, sym, ap, ◌∙◌, arith, length-append}
use Rattle.std.proofs.lemmas.List.{length-map}
use Rattle.mm_plain.specs.declared.plain.Plain.{Plain}
use Rattle.mm_plain.specs.Premises.{premise_ids}
use Rattle.mm_plain.specs.Shape.{Each, greatest, height_of, size_of, steps_of, target_of}
use Rattle.mm_plain.specs.Sources.{label_of}
use Rattle.mm_plain.proofs.Equations.{height_of-known, length-steps_of}
use Rattle.mm_proof.specs.Shapes.{height_in, steps_in}
use Rattle.mm_proof.specs.Trees.{Tree, Trees, none, more, tree, trees_of, postorder}
use Rattle.mm_subst.specs.Statements.{statement_of}
use Rattle.mm_subst.specs.Substitutions.{Pairs, applied}
use Rattle.mm_sound.specs.Complete.{IsDone, IsComplete, labels_in}
use Rattle.mm_sound.specs.LabelTrees.{label_tree}
use Rattle.mm_sound.specs.Pushed.{values_by, pushed_over, pushed_trees, pushed_tree}
use Rattle.mm_sound.proofs.Labelled.{number_for, is_postorder, label_tree-known}
use Rattle.mm_sound.proofs.Runs.{split, never_unknown}

module _ (bytes : List ℕ) where
  -- the trees below a step are complete too
  kids_complete : (l : ℕ) (kids : List Plain) → IsComplete bytes (pushed_over bytes (suc l) kids) → Each (IsComplete bytes) kids
  kids_complete l kids d =
      let s : Pairs = values_by bytes (premise_ids bytes l) (map target_of kids) in
      (split (IsDone bytes) (applied s (statement_of bytes l)) l s kids d).0

  over_labelled : (l : ℕ) (kids : List Plain) → label_tree (pushed_over bytes (suc l) kids) ≡ tree (suc l) (trees_of (map label_tree kids))
  over_labelled l kids =
      let s : Pairs = values_by bytes (premise_ids bytes l) (map target_of kids) in
      label_tree-known (applied s (statement_of bytes l)) l s kids

  over_high : (l : ℕ) (kids : List Plain) → height_of (pushed_over bytes (suc l) kids) ≡ greatest (map height_of kids) + 1
  over_high l kids =
      let s : Pairs = values_by bytes (premise_ids bytes l) (map target_of kids) in
      height_of-known (applied s (statement_of bytes l)) l s kids

  -- complete trees of label trees have these as theirs
  labelled_all : (ts : Trees) → Each (IsComplete bytes) (pushed_trees bytes ts) → trees_of (map label_tree (pushed_trees bytes ts)) ≡ ts
  unfolding pushed_trees
  labelled_all none d = refl
  labelled_all (more zero cs rest) d = absurd (never_unknown bytes [] d.0)
  labelled_all (more (suc l) cs rest) d =
      ap (λ (t : Tree). more t.label t.children (trees_of (map label_tree (pushed_trees bytes rest)))) (over_labelled l (pushed_trees bytes cs))
      ∙ ap (λ xs. more (suc l) xs (trees_of (map label_tree (pushed_trees bytes rest)))) (labelled_all cs (kids_complete l (pushed_trees bytes cs) d.0))
      ∙ ap (more (suc l) cs) (labelled_all rest d.1)

  one_of : (t : Tree) → pushed_trees bytes (trees_of (t ∷ [])) ≡ pushed_tree bytes t ∷ []
  unfolding pushed_trees pushed_tree
  one_of t = refl

  pub labelled : (t : Tree) → IsComplete bytes (pushed_tree bytes t) → trees_of (label_tree (pushed_tree bytes t) ∷ []) ≡ trees_of (t ∷ [])
  unfolding pushed_trees pushed_tree
  labelled t d = labelled_all (trees_of (t ∷ [])) (d, tt)

  pub labels_are : (t : Tree) → IsComplete bytes (pushed_tree bytes t) → postorder (trees_of (t ∷ [])) ≡ map number_for (labels_in (pushed_tree bytes t))
  labels_are t d = ap postorder (sym (labelled t d)) ∙ is_postorder (pushed_tree bytes t)

  length-postorder : (ts : Trees) → length (postorder ts) ≡ steps_in ts
  length-postorder none = refl
  length-postorder (more l cs rest) = omega (arith, length-append (postorder cs) (l ∷ postorder rest), length-postorder cs, length-postorder rest)

  pub size_is : (t : Tree) → IsComplete bytes (pushed_tree bytes t) → size_of (pushed_tree bytes t) ≡ 1 + steps_in t.children
  size_is t d =
      let x : Plain = pushed_tree bytes t in
      omega (arith, length-steps_of x, length-map (steps_of x) label_of, length-map (labels_in x) number_for, ap (λ (ls : List ℕ). length ls) (labels_are t d), length-postorder (trees_of (t ∷ [])))

  -- and its levels
  high_all : (ts : Trees) → Each (IsComplete bytes) (pushed_trees bytes ts) → greatest (map height_of (pushed_trees bytes ts)) ≡ height_in ts
  unfolding pushed_trees
  high_all none d = refl
  high_all (more zero cs rest) d = absurd (never_unknown bytes [] d.0)
  high_all (more (suc l) cs rest) d =
      ap (λ n. max n (greatest (map height_of (pushed_trees bytes rest)))) (over_high l (pushed_trees bytes cs) ∙ one_more (greatest (map height_of (pushed_trees bytes cs))) (height_in cs) (high_all cs (kids_complete l (pushed_trees bytes cs) d.0)))
      ∙ ap (max (1 + height_in cs)) (high_all rest d.1)
    where
      one_more : (m n : ℕ) → m ≡ n → m + 1 ≡ 1 + n
      one_more m n e = omega (arith, e)

  pub height_is : (t : Tree) → IsComplete bytes (pushed_tree bytes t) → height_of (pushed_tree bytes t) ≡ 1 + height_in t.children
  unfolding pushed_trees pushed_tree
  height_is t d = omega (arith, high_all (trees_of (t ∷ [])) (d, tt))
