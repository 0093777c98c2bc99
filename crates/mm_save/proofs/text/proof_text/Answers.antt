use Rattle.std.proofs.Common.{◌≡◌, ℕ, List, All, map, sym, ap, ◌∙◌, subst}
use Rattle.std.proofs.lemmas.Result.{IfOk-weaker}
use Rattle.mm_subst.specs.Statements.{statement_of}
use Rattle.mm_plain.specs.declared.plain.Plain.{Plain}
use Rattle.mm_plain.specs.Numbers.{IsOwnLabel}
use Rattle.mm_plain.proofs.Owned.{own-valid}
use Rattle.mm_sound.specs.Complete.{spelled, step_for}
use Rattle.mm_sound.specs.LabelTrees.{label_tree}
use Rattle.mm_proof.specs.Forests.{trees_in}
use Rattle.mm_sound.proofs.Labelled.{spelled_folds}
use Rattle.mm_save.specs.Saving.{saved_text}
use Rattle.mm_save.proofs.Texts.{all_own}
use Rattle.mm_save.proofs.text.proof_text.Goals as goal

pub normal_text-requires : goal.normal_text-requires
normal_text-requires c =
    let bytes : List ℕ = c.args.db.now in
    let x : Plain = c.args.tree.now.proof.plain in
    subst (All (IsOwnLabel bytes)) (sym (c.as_slice.ensures.value ∙ c.in_ok-labels.ensures))
    (all_own bytes x (own-valid bytes c.args.at.0 (statement_of bytes c.args.at.0) c.args.tree.now.proof c.requires.own c.requires.valid))

pub compressed_text-requires-clause-labels : goal.compressed_text-requires-clause-labels
compressed_text-requires-clause-labels c =
    let bytes : List ℕ = c.args.db.now in
    let x : Plain = c.args.tree.now.proof.plain in
    subst (All (IsOwnLabel bytes)) (sym (c.as_slice-in-Compressed.ensures.value ∙ c.in_ok-labels.ensures))
    (all_own bytes x (own-valid bytes c.args.at.0 (statement_of bytes c.args.at.0) c.args.tree.now.proof c.requires.own c.requires.valid))

pub returns : goal.returns
returns c =
    let bytes : List ℕ = c.args.db.now in
    let at : ℕ = c.args.at.0 in
    let x : Plain = c.args.tree.now.proof.plain in
    let is : map (step_for bytes) c.as_slice-in-Compressed.result.now ≡ spelled bytes x = ap (map (step_for bytes)) (c.as_slice-in-Compressed.ensures.value ∙ c.in_ok-labels.ensures) in
    IfOk-weaker c.compressed_text.result _ _
    (λ v made. made (label_tree x) (ap (trees_in bytes) is ∙ spelled_folds bytes at (statement_of bytes at) c.args.tree.now.proof c.requires.own c.requires.valid) ∙ ap (λ form. saved_text bytes at form x) (sym c.in-Compressed.is))
    c.compressed_text.ensures
