-- A saved proof is read as its label tree.
use Rattle.std.proofs.Common.{◌≡◌, ◌<◌, ◌≤◌, ℕ, true, List, [], ◌∷◌, map, length, Option, None, Some, refl, sym, ap, ◌∙◌}
use Rattle.std.proofs.lemmas.List.{get_or_default}
use Rattle.std.proofs.lemmas.List.Elements.{recursion_from_All}
use Rattle.std.specs.List.{AllByRecursion as ByRecursion}
use Rattle.mm_scope.specs.Contents.{is_read, labels_of, stated_at}
use Rattle.mm_scope.specs.Judged.{most_bytes}
use Rattle.mm_stated.specs.declared.statement.Kind.TheVariants.{Theorem}
use Rattle.mm_layout.specs.Normal.{normal_text}
use Rattle.mm_subst.specs.Statements.{statement_of}
use Rattle.mm_plain.specs.declared.plain.Plain.{Plain}
use Rattle.mm_plain.specs.Numbers.{IsOwnLabel, HasOwnLabels}
use Rattle.mm_plain.specs.Shape.{Proof}
use Rattle.mm_plain.specs.Valid.{IsValid}
use Rattle.mm_plain.proofs.Owned.{own-valid}
use Rattle.mm_proof.specs.Compacting.{compact}
use Rattle.mm_proof.specs.Decoding.{spelled}
use Rattle.mm_proof.specs.Encoding.{word_of, kind_of, normal_proof}
use Rattle.mm_proof.specs.Spelling.{steps_read}
use Rattle.mm_proof.specs.Standing.{MayProve, normal_steps}
use Rattle.mm_proof.specs.Trees.{Tree}
use Rattle.mm_proof.proofs.Reread.{normal_reads, normal_folds}
use Rattle.mm_proof.proofs.Refolded.{trees_read}
use Rattle.mm_sound.specs.Complete.{labels_in}
use Rattle.mm_sound.specs.LabelTrees.{label_tree}
use Rattle.mm_sound.specs.Written.{word_for, written}
use Rattle.mm_sound.proofs.Labelled.{number_for, is_postorder, may_prove, compressed_spells}
use Rattle.mm_save.specs.ReadBack.{SpellsTree}
use Rattle.mm_save.specs.Saving.{saved, saved_text}
use Rattle.mm_save.specs.declared.form.Form.{Form}
use Rattle.mm_save.specs.declared.form.Form.TheVariants.{Normal, Compressed}
use Rattle.mm_save.proofs.Saves.{saved_judges}
use Rattle.mm_save.proofs.Texts.{all_own}

-- what is written for a label is what is written for its number
word_same : (bytes : List ℕ) (o : Option ℕ) → IsOwnLabel bytes o → word_for bytes o ≡ word_of bytes (number_for o)
unfolding word_of
word_same bytes None h = refl
word_same bytes (Some l) h = get_or_default (labels_of bytes) l [] (63 ∷ []) h

words_same : (bytes : List ℕ) (os : List (Option ℕ)) → ByRecursion (IsOwnLabel bytes) os → map (word_for bytes) os ≡ map (word_of bytes) (map number_for os)
words_same bytes [] h = refl
words_same bytes (o ∷ os) h = ap (λ w. w ∷ map (word_for bytes) os) (word_same bytes o h.0) ∙ ap (λ ws. word_of bytes (number_for o) ∷ ws) (words_same bytes os h.1)

-- the text in the normal form is that of the label tree
normal_same : (bytes : List ℕ) (x : Plain) → HasOwnLabels bytes x → normal_text (written bytes x) ≡ normal_proof bytes (label_tree x)
normal_same bytes x own =
    ap normal_text (words_same bytes (labels_in x) (recursion_from_All (IsOwnLabel bytes) (labels_in x) (all_own bytes x own)) ∙ ap (map (word_of bytes)) (sym (is_postorder x)))

module _ (bytes : List ℕ) (at : ℕ) (read : is_read bytes ≡ true) (theorem : (stated_at bytes at).kind ≡ Theorem) (small : at < length (labels_of bytes)) (p : Proof) (valid : IsValid bytes at (statement_of bytes at) p) where
  own : HasOwnLabels bytes p.plain
  own = own-valid bytes at (statement_of bytes at) p small valid

  may : MayProve bytes at (label_tree p.plain)
  may = may_prove bytes at (statement_of bytes at) p small valid

  -- so it is in both forms
  pub spells_tree : (form : Form) → length (saved bytes at form p.plain) ≤ most_bytes → SpellsTree bytes (saved bytes at form p.plain) at (label_tree p.plain)
  spells_tree Normal room = record {
    steps = normal_steps bytes (label_tree p.plain);
    spelled = (saved_judges bytes at read theorem Normal p.plain own room).own_decoded
        ∙ ap (spelled bytes at (stated_at bytes at).from) (normal_same bytes p.plain own)
        ∙ normal_reads bytes at (stated_at bytes at).from (label_tree p.plain) may;
    folds = normal_folds bytes at (label_tree p.plain) may;
  }
  spells_tree Compressed room = record {
    steps = steps_read (kind_of bytes) (compact (label_tree p.plain));
    spelled = (saved_judges bytes at read theorem Compressed p.plain own room).own_decoded
        ∙ compressed_spells bytes at (stated_at bytes at).from (statement_of bytes at) p small valid;
    folds = trees_read bytes (label_tree p.plain) may.whole;
  }
