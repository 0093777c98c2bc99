-- A database after saves is the file, overlaid with the last text of each theorem.
use Rattle.std.proofs.Common.{◌≡◌, ◌≢◌, ℕ, Bool, true, false, cond, List, [], ◌∷◌, ◌++◌, Option, None, Some, Ok, nat_eq, position, unwrap_or, refl, sym, ap, ◌∙◌, subst}
use Rattle.std.proofs.Math.Path.{fun_ext}
use Rattle.std.proofs.lemmas.Bool.{true≢false, eqb-true, eq-eqb}
use Rattle.std.proofs.lemmas.List.Sums.{fold-append}
use Rattle.std.specs.List.{fold}
use Rattle.std.specs.Str.{bytes_eq}
use Rattle.mm_scope.specs.Contents.{is_read, find_label, stated_at}
use Rattle.mm_stated.specs.declared.statement.Kind.TheVariants as kind
use Rattle.mm_stack.specs.Accepting.{Accepts, verdict_by, verdict_of}
use Rattle.mm_proof.specs.Decoding.{decoded, spelled}
use Rattle.mm_proof.specs.declared.step.ProofStep.{ProofStep}
use Rattle.mm_splice.specs.Agreeing.{AgreesWith, JudgesAs, CanBeMade, CanAllBeMade, after_save, after_saves}
use Rattle.mm_splice.specs.Keeping.{KeepsTheRest, proof_at}
use Rattle.mm_splice.specs.Overlay.{Save, saved_with, last_text, with_proofs, overlay}
use Rattle.mm_splice.proofs.Keeping.{keeps_the_rest}
use Rattle.mm_splice.proofs.Overlaying.{own_proofs, outside_same}
use Rattle.mm_splice.proofs.Places.{steps_free}
use Rattle.mm_splice.proofs.Verdicts.{decoded_where, spelled_stays, comes_stays}

none_some : {A : Type 0} (x : A) → None ≡ Some x → ⊥
none_some x e = cc

some_none : {A : Type 0} (x : A) → Some x ≡ None → ⊥
some_none x e = cc

some_same : {A : Type 0} (x y : A) → Some x ≡ Some y → x ≡ y
some_same x y e = cc

-- the file itself, of which nothing was saved
pub agrees_at_first : (file : List ℕ) → is_read file ≡ true → AgreesWith file (λ _. None) file
unfolding overlay
agrees_at_first file read = record {
  is = sym (own_proofs file read);
  read = read;
  outside_kept = λ texts. refl;
  proofs_kept = λ j none. refl;
  proofs_saved = λ j text e. absurd (none_some text e);
  labels_kept = refl;
  symbols_kept = refl;
  kinds_kept = λ j. refl;
  strings_kept = λ j. refl;
  mandatory_kept = λ j. refl;
  pairs_kept = λ j. refl;
  hypotheses_kept = λ j. refl;
  variables_kept = λ j. refl;
  distinct_kept = λ j. refl;
  constants_kept = λ s. refl;
  active_symbols_kept = λ j t. refl;
  active_kept = λ j. refl;
  active_pairs_kept = λ j. refl;
  typecodes_kept = λ s. refl;
  descriptions_kept = λ j. refl;
  usage_kept = λ j. refl;
  change_kept = λ j. refl;
  spelled_kept = λ j from text. refl;
  comes_kept = λ j steps. refl;
}

-- one save more
module _ (file : List ℕ) (saved : ℕ → Option (List ℕ)) (now : List ℕ) (save : Save) (agrees : AgreesWith file saved now) (can : CanBeMade file now save) where
  abbrev new : List ℕ
  new = after_save now save

  abbrev saved_now : ℕ → Option (List ℕ)
  saved_now j = saved_with (saved j) save j

  theorem : (stated_at now save.theorem).kind ≡ kind.Theorem
  theorem = agrees.kinds_kept save.theorem ∙ can.theorem

  keeps : KeepsTheRest now save.theorem save.text
  keeps = keeps_the_rest now save.theorem save.text agrees.read theorem can.text can.room

  other : (j : ℕ) → nat_eq save.theorem j ≡ false → j ≢ save.theorem
  other j e = λ same. true≢false (sym (eq-eqb save.theorem j (sym same)) ∙ e)

  stays : (j : ℕ) (b : Bool) → nat_eq save.theorem j ≡ b → cond b (Some save.text) (saved j) ≡ None → proof_at new j ≡ proof_at file j
  stays j true e none = absurd (some_none save.text none)
  stays j false e none = keeps.proofs_kept j (other j e) ∙ agrees.proofs_kept j none

  becomes : (j : ℕ) (text : List ℕ) (b : Bool) → nat_eq save.theorem j ≡ b → cond b (Some save.text) (saved j) ≡ Some text → proof_at new j ≡ text
  becomes j text true e some = ap (proof_at new) (sym (eqb-true save.theorem j e)) ∙ keeps.proof_is ∙ some_same save.text text some
  becomes j text false e some = keeps.proofs_kept j (other j e) ∙ agrees.proofs_saved j text some

  proof_by : (j : ℕ) (o : Option (List ℕ)) → saved_now j ≡ o → proof_at new j ≡ unwrap_or o (proof_at file j)
  proof_by j None e = stays j (nat_eq save.theorem j) refl e
  proof_by j (Some text) e = becomes j text (nat_eq save.theorem j) refl e

  outside : (texts : ℕ → List ℕ) → with_proofs new texts ≡ with_proofs now texts
  outside texts = outside_same now save.theorem save.text agrees.read theorem can.text keeps texts

  is_overlay : new ≡ overlay file saved_now
  unfolding overlay
  is_overlay =
      sym (own_proofs new keeps.read)
      ∙ outside (proof_at new)
      ∙ agrees.outside_kept (proof_at new)
      ∙ ap (with_proofs file) (fun_ext (λ j. proof_by j (saved_now j) refl))

  pub agrees_then : AgreesWith file saved_now new
  agrees_then = record {
    is = is_overlay;
    read = keeps.read;
    outside_kept = λ texts. outside texts ∙ agrees.outside_kept texts;
    proofs_kept = λ j none. stays j (nat_eq save.theorem j) refl none;
    proofs_saved = λ j text some. becomes j text (nat_eq save.theorem j) refl some;
    labels_kept = keeps.labels_kept ∙ agrees.labels_kept;
    symbols_kept = keeps.symbols_kept ∙ agrees.symbols_kept;
    kinds_kept = λ j. ap (λ s. s.kind) (keeps.stated_kept j) ∙ agrees.kinds_kept j;
    strings_kept = λ j. ap (λ s. s.symbols) (keeps.stated_kept j) ∙ agrees.strings_kept j;
    mandatory_kept = λ j. ap (λ s. s.mandatory) (keeps.stated_kept j) ∙ agrees.mandatory_kept j;
    pairs_kept = λ j. ap (λ s. s.pairs) (keeps.stated_kept j) ∙ agrees.pairs_kept j;
    hypotheses_kept = λ j. keeps.hypotheses_kept j ∙ agrees.hypotheses_kept j;
    variables_kept = λ j. keeps.variables_kept j ∙ agrees.variables_kept j;
    distinct_kept = λ j. keeps.distinct_kept j ∙ agrees.distinct_kept j;
    constants_kept = λ s. keeps.constants_kept s ∙ agrees.constants_kept s;
    active_symbols_kept = λ j t. keeps.active_symbols_kept j t ∙ agrees.active_symbols_kept j t;
    active_kept = λ j. keeps.active_kept j ∙ agrees.active_kept j;
    active_pairs_kept = λ j. keeps.active_pairs_kept j ∙ agrees.active_pairs_kept j;
    typecodes_kept = λ s. keeps.typecodes_kept s ∙ agrees.typecodes_kept s;
    descriptions_kept = λ j. keeps.descriptions_kept j ∙ agrees.descriptions_kept j;
    usage_kept = λ j. keeps.usage_kept j ∙ agrees.usage_kept j;
    change_kept = λ j. keeps.change_kept j ∙ agrees.change_kept j;
    spelled_kept = λ j from text. spelled_stays now save.theorem save.text agrees.read keeps j from text ∙ agrees.spelled_kept j from text;
    comes_kept = λ j steps. comes_stays now save.theorem save.text agrees.read keeps j steps ∙ agrees.comes_kept j steps;
  }

pub agrees_at_begin : (file : List ℕ) → is_read file ≡ true → AgreesWith file (last_text []) file
unfolding last_text
agrees_at_begin file read = agrees_at_first file read

-- what was saved last, where there is one save more
last_more : (saves : List Save) (save : Save) (j : ℕ) → last_text (saves ++ save ∷ []) j ≡ saved_with (last_text saves j) save j
unfolding last_text
last_more saves save j = fold-append (λ before s. saved_with before s j) None saves (save ∷ [])

pub agrees_with_more : (file : List ℕ) (saves : List Save) (now : List ℕ) (save : Save) → AgreesWith file (last_text saves) now → CanBeMade file now save
    → AgreesWith file (last_text (saves ++ save ∷ [])) (after_save now save)
agrees_with_more file saves now save agrees can =
    subst (λ saved. AgreesWith file saved (after_save now save)) (sym (fun_ext (last_more saves save))) (agrees_then file (last_text saves) now save agrees can)

pub after_more : (file : List ℕ) (saves : List Save) (save : Save) → after_saves file (saves ++ save ∷ []) ≡ after_save (after_saves file saves) save
unfolding after_saves
after_more file saves save = fold-append after_save file saves (save ∷ [])

can_from : (file now : List ℕ) (saves : List Save) (save : Save) → CanAllBeMade file now saves → CanBeMade file (fold after_save now saves) save → CanAllBeMade file now (saves ++ save ∷ [])
can_from file now [] save can more = (more, tt)
can_from file now (first ∷ saves) save can more = (can.0, can_from file (after_save now first) saves save can.1 more)

pub can_more : (file : List ℕ) (saves : List Save) (save : Save) → CanAllBeMade file file saves → CanBeMade file (after_saves file saves) save → CanAllBeMade file file (saves ++ save ∷ [])
unfolding after_saves
can_more file saves save can more = can_from file file saves save can more

-- all saves
agrees_from : (file : List ℕ) (saves : List Save) (saved : ℕ → Option (List ℕ)) (now : List ℕ) → AgreesWith file saved now → CanAllBeMade file now saves
    → AgreesWith file (λ j. fold (λ before s. saved_with before s j) (saved j) saves) (fold after_save now saves)
agrees_from file [] saved now agrees can = agrees
agrees_from file (save ∷ saves) saved now agrees can =
    agrees_from file saves (λ j. saved_with (saved j) save j) (after_save now save) (agrees_then file saved now save agrees can.0) can.1

pub agrees_after : (file : List ℕ) (saves : List Save) → is_read file ≡ true → CanAllBeMade file file saves → AgreesWith file (last_text saves) (after_saves file saves)
unfolding last_text after_saves
agrees_after file saves read can = agrees_from file saves (λ _. None) file (agrees_at_first file read) can

-- and what is judged of proofs
module _ (file : List ℕ) (saved : ℕ → Option (List ℕ)) (now : List ℕ) (read : is_read file ≡ true) (agrees : AgreesWith file saved now) where
  -- what a proof spells that is the same bytes
  decodes : (j : ℕ) (text : List ℕ) → proof_at now j ≡ text → decoded now j ≡ spelled file j (stated_at now j).from text
  unfolding decoded
  decodes j text e = ap (spelled now j (stated_at now j).from) e ∙ agrees.spelled_kept j (stated_at now j).from text

  comes : (j : ℕ) (text : List ℕ) → proof_at now j ≡ text → verdict_of now j ≡ verdict_by file j (spelled file j (stated_at now j).from text)
  unfolding verdict_of
  comes j text e = ap (verdict_by now j) (decodes j text e) ∙ agrees.comes_kept j (spelled file j (stated_at now j).from text)

  steps_stay : (j : ℕ) (steps : List ProofStep) → saved j ≡ None → decoded file j ≡ Ok steps → decoded now j ≡ Ok steps
  unfolding decoded
  steps_stay j steps none e =
      decodes j (proof_at file j) (agrees.proofs_kept j none) ∙ steps_free file j (stated_at file j).from (stated_at now j).from (proof_at file j) steps e

  steps_come_back : (j : ℕ) (steps : List ProofStep) → saved j ≡ None → decoded now j ≡ Ok steps → decoded file j ≡ Ok steps
  unfolding decoded
  steps_come_back j steps none e =
      steps_free file j (stated_at now j).from (stated_at file j).from (proof_at file j) steps (sym (decodes j (proof_at file j) (agrees.proofs_kept j none)) ∙ e)

  same_comes : (j : ℕ) (steps : List ProofStep) → saved j ≡ None → decoded file j ≡ Ok steps → verdict_of now j ≡ verdict_of file j
  unfolding verdict_of
  same_comes j steps none e = ap (verdict_by now j) (steps_stay j steps none e) ∙ agrees.comes_kept j (Ok steps) ∙ ap (verdict_by file j) (sym e)

  found : (label : List ℕ) → find_label now label ≡ find_label file label
  found label = ap (position (bytes_eq label)) agrees.labels_kept

  accepts : (label : List ℕ) (j : ℕ) → find_label file label ≡ Some j → saved j ≡ None → Accepts file label → Accepts now label
  accepts label j there none a =
      let unsaved : saved a.id ≡ None = ap saved (some_same a.id j (sym a.found ∙ there)) ∙ none in
      record {
        id = a.id;
        read = agrees.read;
        found = found label ∙ a.found;
        theorem = agrees.kinds_kept a.id ∙ a.theorem;
        accepted = let d = decoded_where file a.id a.accepted in same_comes a.id d.0 unsaved d.1 ∙ a.accepted;
      }

  accepts_back : (label : List ℕ) (j : ℕ) → find_label file label ≡ Some j → saved j ≡ None → Accepts now label → Accepts file label
  accepts_back label j there none a =
      let here : find_label file label ≡ Some a.id = sym (found label) ∙ a.found in
      let unsaved : saved a.id ≡ None = ap saved (some_same a.id j (sym here ∙ there)) ∙ none in
      record {
        id = a.id;
        read = read;
        found = here;
        theorem = sym (agrees.kinds_kept a.id) ∙ a.theorem;
        accepted = let d = decoded_where now a.id a.accepted in sym (same_comes a.id d.0 unsaved (steps_come_back a.id d.0 unsaved d.1)) ∙ a.accepted;
      }

  pub judges_as : JudgesAs file saved now
  judges_as = record {
    decoded_kept = λ j none. decodes j (proof_at file j) (agrees.proofs_kept j none);
    steps_kept = steps_stay;
    verdicts_kept = λ j none. comes j (proof_at file j) (agrees.proofs_kept j none);
    same_verdicts = same_comes;
    accepts_kept = accepts;
    accepts_back = accepts_back;
    decoded_saved = λ j text some. decodes j text (agrees.proofs_saved j text some);
    verdicts_saved = λ j text some. comes j text (agrees.proofs_saved j text some);
  }

-- the last texts alone count
pub same_last : (file : List ℕ) (saves others : List Save) → is_read file ≡ true → CanAllBeMade file file saves → CanAllBeMade file file others
    → ((j : ℕ) → last_text saves j ≡ last_text others j) → after_saves file saves ≡ after_saves file others
same_last file saves others read can may same =
    (agrees_after file saves read can).is ∙ ap (overlay file) (fun_ext same) ∙ sym (agrees_after file others read may).is

two_last : (a b : Save) (j : ℕ) (p q : Bool) → nat_eq a.theorem j ≡ p → nat_eq b.theorem j ≡ q → a.theorem ≢ b.theorem
    → cond q (Some b.text) (cond p (Some a.text) None) ≡ cond p (Some a.text) (cond q (Some b.text) None)
two_last a b j true true e h ne = absurd (ne (eqb-true a.theorem j e ∙ sym (eqb-true b.theorem j h)))
two_last a b j true false e h ne = refl
two_last a b j false q e h ne = refl

-- so of two theorems either may be saved first
pub either_first : (file : List ℕ) (a b : Save) → is_read file ≡ true → CanAllBeMade file file (a ∷ b ∷ []) → CanAllBeMade file file (b ∷ a ∷ []) → a.theorem ≢ b.theorem
    → after_saves file (a ∷ b ∷ []) ≡ after_saves file (b ∷ a ∷ [])
unfolding last_text
either_first file a b read can may ne = same_last file (a ∷ b ∷ []) (b ∷ a ∷ []) read can may (λ j. two_last a b j (nat_eq a.theorem j) (nat_eq b.theorem j) refl refl ne)

again_last : (a b : Save) (j : ℕ) (p q : Bool) → nat_eq a.theorem j ≡ p → nat_eq b.theorem j ≡ q → a.theorem ≡ b.theorem
    → cond q (Some b.text) (cond p (Some a.text) None) ≡ cond q (Some b.text) None
again_last a b j p true e h same = refl
again_last a b j false false e h same = refl
again_last a b j true false e h same = absurd (true≢false (sym e ∙ ap (λ id. nat_eq id j) same ∙ h))

-- and of two saves of one theorem the first leaves nothing
pub again : (file : List ℕ) (a b : Save) → is_read file ≡ true → CanAllBeMade file file (a ∷ b ∷ []) → CanBeMade file file b → a.theorem ≡ b.theorem
    → after_saves file (a ∷ b ∷ []) ≡ after_saves file (b ∷ [])
unfolding last_text
again file a b read can may same = same_last file (a ∷ b ∷ []) (b ∷ []) read can (may, tt) (λ j. again_last a b j (nat_eq a.theorem j) (nat_eq b.theorem j) refl refl same)
