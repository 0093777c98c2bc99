-- Databases that say the same of symbols and statements.
use Rattle.std.proofs.Common.{◌≡◌, ℕ, zero, suc, ◌+◌, List, [], ◌∷◌, ◌++◌, map, nat_lt, nat_eq, slice_index_or, Option, None, Some, if◌then◌else◌, refl, ap, ◌∙◌}
use Rattle.std.specs.List.{filter_map, cons_option, list_any}
use Rattle.mm_scope.specs.Contents.{labels_of, symbols_of, statements_of, stated_at, active_at, distinct_at, is_variable_of}
use Rattle.mm_stated.specs.Mandatory.{variables_of}
use Rattle.mm_stated.specs.Stated.{floated_by, is_hypothesis, variable_of}
use Rattle.mm_subst.specs.Statements.{statement_of, symbol_of}
use Rattle.mm_subst.specs.Substitutions.{applied}
use Rattle.mm_subst.specs.declared.symbol.WSym.{WSym}
use Rattle.mm_subst.specs.declared.symbol.WSym.TheVariants.{Const, Var}
use Rattle.mm_plain.specs.declared.plain.Plain.{Plain}
use Rattle.mm_plain.specs.declared.plain.Plain.TheOpen.{Plain-F}
use Rattle.mm_plain.specs.declared.plain.Plain.TheOpen as P
use Rattle.mm_plain.specs.Premises.{premises_of, variables_for, may_stand}
use Rattle.mm_plain.specs.Sources.{source_layer, source_of, differs_from, is_pending}
use Rattle.mm_plain.specs.Shape.{target_of}
use Rattle.mm_plain.specs.declared.plain.Plain.TheViews as V
use Rattle.mm_plain.specs.Labels.{label_at}
use Rattle.mm_sound.specs.Apart.{pairs_by}
use Rattle.mm_layout.specs.Normal.{lines_of, behind_feeds, normal_text}
use Rattle.mm_proof.specs.Compacting.{compact}
use Rattle.mm_proof.specs.Encoding.{word_of, own_labels, listed_labels, laid_letters, compressed_proof}
use Rattle.mm_proof.specs.Spelling.{letters, used}
use Rattle.mm_proof.specs.Trees.{Tree}
use Rattle.mm_proof.specs.declared.written.Step.{Step}
use Rattle.mm_sound.specs.Complete.{labels_in}
use Rattle.mm_sound.specs.LabelTrees.{label_tree}
use Rattle.mm_sound.specs.Written.{word_for, written}
use Rattle.mm_splice.specs.Keeping.{KeepsTheRest}
use Rattle.mm_splice.specs.Splicing.{spliced}
use Rattle.mm_save.specs.Saving.{saved_text}
use Rattle.mm_save.specs.declared.form.Form.{Form}
use Rattle.mm_save.specs.declared.form.Form.TheVariants.{Normal, Compressed}

-- one database says of symbols and statements what another does
pub record Agree (old new : List ℕ) : Type 0 where
  pub labels : labels_of new ≡ labels_of old
  pub symbols : symbols_of new ≡ symbols_of old
  pub kinds : (j : ℕ) → (stated_at new j).kind ≡ (stated_at old j).kind
  pub strings : (j : ℕ) → (stated_at new j).symbols ≡ (stated_at old j).symbols
  pub mandatory : (j : ℕ) → (stated_at new j).mandatory ≡ (stated_at old j).mandatory
  pub pairs : (j : ℕ) → (stated_at new j).pairs ≡ (stated_at old j).pairs
  pub hypotheses : (j : ℕ) → active_at new j ≡ active_at old j
  pub groups : (j : ℕ) → distinct_at new j ≡ distinct_at old j
  pub variables : (s : ℕ) → is_variable_of new s ≡ is_variable_of old s

-- so it is where the proof of a theorem is replaced
pub replaced_agrees : (bytes : List ℕ) (id : ℕ) (text : List ℕ) → KeepsTheRest bytes id text → Agree bytes (spliced bytes id text)
replaced_agrees bytes id text keeps = record {
  labels = keeps.labels_kept;
  symbols = keeps.symbols_kept;
  kinds = λ j. ap (λ s. s.kind) (keeps.stated_kept j);
  strings = λ j. ap (λ s. s.symbols) (keeps.stated_kept j);
  mandatory = λ j. ap (λ s. s.mandatory) (keeps.stated_kept j);
  pairs = λ j. ap (λ s. s.pairs) (keeps.stated_kept j);
  hypotheses = keeps.hypotheses_kept;
  groups = keeps.distinct_kept;
  variables = keeps.constants_kept;
}

map_same : {A B : Type 0} (f g : A → B) → ((x : A) → f x ≡ g x) → (xs : List A) → map f xs ≡ map g xs
map_same f g h [] = refl
map_same f g h (x ∷ xs) = ap (λ y. y ∷ map f xs) (h x) ∙ ap (λ ys. g x ∷ ys) (map_same f g h xs)

filter_map_same : {A B : Type 0} (f g : A → Option B) → ((x : A) → f x ≡ g x) → (xs : List A) → filter_map f xs ≡ filter_map g xs
filter_map_same f g h [] = refl
filter_map_same f g h (x ∷ xs) = ap (λ o. cons_option o (filter_map f xs)) (h x) ∙ ap (cons_option (g x)) (filter_map_same f g h xs)

module _ (old new : List ℕ) (same : Agree old new) where
  symbol_same : (n : ℕ) → symbol_of new n ≡ symbol_of old n
  symbol_same n = ap (λ b. if b then Var n else Const n) (same.variables n)

  -- the strings of statements
  pub statement_same : (id : ℕ) → statement_of new id ≡ statement_of old id
  unfolding statement_of
  statement_same id = ap (map (symbol_of new)) (same.strings id) ∙ map_same (symbol_of new) (symbol_of old) symbol_same (stated_at old id).symbols

  statements_same : (ids : List ℕ) → map (statement_of new) ids ≡ map (statement_of old) ids
  statements_same = map_same (statement_of new) (statement_of old) statement_same

  pub premises_same : (id : ℕ) → premises_of new id ≡ premises_of old id
  unfolding premises_of
  premises_same id =
      ap (λ k. if is_hypothesis k then [] else map (statement_of new) (stated_at new id).mandatory) (same.kinds id)
      ∙ ap (λ ms. if is_hypothesis (stated_at old id).kind then [] else map (statement_of new) ms) (same.mandatory id)
      ∙ ap (λ (hs : List (List WSym)). if is_hypothesis (stated_at old id).kind then [] else hs) (statements_same (stated_at old id).mandatory)

  variable_same : (m : ℕ) → variable_of (stated_at new m) ≡ variable_of (stated_at old m)
  variable_same m = ap (λ k. floated_by k (stated_at new m).symbols 1) (same.kinds m) ∙ ap (λ ss. floated_by (stated_at old m).kind ss 1) (same.strings m)

  among_same : (ids : List ℕ) → variables_of (statements_of new) ids ≡ variables_of (statements_of old) ids
  unfolding variables_of
  among_same = filter_map_same (λ m. variable_of (stated_at new m)) (λ m. variable_of (stated_at old m)) variable_same

  pub variables_same : (id : ℕ) → variables_for new id ≡ variables_for old id
  unfolding variables_for
  variables_same id =
      ap (λ k. if is_hypothesis k then [] else variables_of (statements_of new) (stated_at new id).mandatory) (same.kinds id)
      ∙ ap (λ ms. if is_hypothesis (stated_at old id).kind then [] else variables_of (statements_of new) ms) (same.mandatory id)
      ∙ ap (λ (vs : List ℕ). if is_hypothesis (stated_at old id).kind then [] else vs) (among_same (stated_at old id).mandatory)

  pub stands_same : (at id : ℕ) → may_stand new at id ≡ may_stand old at id
  unfolding may_stand
  stands_same at id =
      ap (λ k. if is_hypothesis k then list_any (λ n. nat_eq id n) (active_at new at) else nat_lt id at) (same.kinds id)
      ∙ ap (λ ns. if is_hypothesis (stated_at old id).kind then list_any (λ n. nat_eq id n) ns else nat_lt id at) (same.hypotheses at)

  source_layer_same : (y : Plain-F Plain) → source_layer new y ≡ source_layer old y
  source_layer_same (P.Unknown t) = refl
  source_layer_same (P.Known t l s kids) = ap (λ h. Some (applied s h)) (statement_same l)

  -- which steps are pending
  pub pending_same : (x : Plain) → is_pending new x ≡ is_pending old x
  unfolding is_pending source_of
  pending_same x = ap (λ o. differs_from o (target_of x)) (source_layer_same (V.out-Plain x))

  pub pairs_same : (o : Option ℕ) → pairs_by new o ≡ pairs_by old o
  pairs_same None = refl
  pairs_same (Some l) = same.pairs l

  -- labels, and what is written for a proof
  pub label_same : (l : ℕ) → label_at new l ≡ label_at old l
  label_same l = ap (λ ls. slice_index_or ls l []) same.labels

  word_same : (o : Option ℕ) → word_for new o ≡ word_for old o
  word_same None = refl
  word_same (Some l) = label_same l

  pub written_same : (x : Plain) → written new x ≡ written old x
  written_same x = map_same (word_for new) (word_for old) word_same (labels_in x)

  number_same : (l : ℕ) → word_of new l ≡ word_of old l
  unfolding word_of
  number_same zero = refl
  number_same (suc n) = ap (λ ls. slice_index_or ls n (63 ∷ [])) same.labels

  -- the text of a compressed proof with these mandatory hypotheses and words
  abbrev text_with : List Step → List ℕ → List (List ℕ) → List ℕ
  text_with ss own ws = behind_feeds (lines_of ((40 ∷ []) ∷ ws ++ (41 ∷ []) ∷ [])) ++ (laid_letters 0 (letters (own ++ used own [] ss) ss) ++ 32 ∷ [])

  compressed_same : (at : ℕ) (t : Tree) → compressed_proof new at t ≡ compressed_proof old at t
  compressed_same at t =
      ap (λ own. text_with (compact t) own (map (word_of new) (used own [] (compact t)))) (ap (map (λ n. n + 1)) (same.mandatory at))
      ∙ ap (text_with (compact t) (own_labels old at)) (map_same (word_of new) (word_of old) number_same (listed_labels old at t))

  -- the text of a saved proof
  pub text_same : (at : ℕ) (form : Form) (x : Plain) → saved_text new at form x ≡ saved_text old at form x
  text_same at Normal x = ap normal_text (written_same x)
  text_same at Compressed x = compressed_same at (label_tree x)
