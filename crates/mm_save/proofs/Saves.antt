-- What holds of a database after a proof is saved.
use Rattle.std.proofs.Common.{◌≡◌, ◌≢◌, ◌+◌, ◌<◌, ◌≤◌, ℕ, true, List, [], ◌∷◌, ◌++◌, length, take, drop, position, Option, None, Some, slice_range, get_or, refl, sym, ap, ◌∙◌, subst}
use Rattle.std.proofs.lemmas.List.Quantifiers.{position-Some}
use Rattle.std.proofs.lemmas.Slice.Eq.{bytes_eq-Decides}
use Rattle.std.specs.Str.{bytes_eq}
use Rattle.mm_scope.specs.Contents.{is_read, labels_of, stated_at, find_label, distinct_at}
use Rattle.mm_scope.specs.Judged.{most_bytes}
use Rattle.mm_stated.specs.declared.statement.Kind.TheVariants.{Theorem}
use Rattle.mm_subst.specs.Statements.{statement_of}
use Rattle.mm_plain.specs.declared.plain.Plain.{Plain}
use Rattle.mm_plain.specs.Numbers.{IsOwnLabel, HasOwnLabels}
use Rattle.mm_plain.specs.Shape.{Each, Proof, steps_of}
use Rattle.mm_plain.specs.Sources.{label_of}
use Rattle.mm_plain.specs.Valid.{IsValid}
use Rattle.mm_stack.specs.Accepting.{Accepts, verdict_by, verdict_of}
use Rattle.mm_proof.specs.Decoding.{proof_of, spelled}
use Rattle.mm_proof.specs.Encoding.{compressed_proof}
use Rattle.mm_stack.specs.declared.outcome.Verdict.TheVariants.{Incomplete}
use Rattle.mm_plain.specs.Labels.{label_at}
use Rattle.mm_plain.proofs.Labels.{has_label}
use Rattle.mm_sound.specs.Apart.{IsApart}
use Rattle.mm_sound.specs.LabelTrees.{label_tree}
use Rattle.mm_sound.specs.Complete.{IsSettled, has_unknown}
use Rattle.mm_sound.specs.Proves.{Proves}
use Rattle.mm_sound.specs.Written.{texts_in, written}
use Rattle.mm_sound.proofs.Accepted.{written_accepts}
use Rattle.mm_sound.proofs.Incomplete.{written_incomplete}
use Rattle.mm_sound.proofs.Labelled.{text_accepted}
use Rattle.mm_splice.specs.Judging.{JudgesTheRest}
use Rattle.mm_splice.specs.Keeping.{KeepsTheRest}
use Rattle.mm_splice.proofs.Keeping.{keeps_the_rest}
use Rattle.mm_splice.proofs.Verdicts.{judges_the_rest}
use Rattle.mm_save.specs.Saving.{saved, saved_text}
use Rattle.mm_save.specs.declared.form.Form.{Form}
use Rattle.mm_save.specs.declared.form.Form.TheVariants.{Normal, Compressed}
use Rattle.mm_save.specs.Outside.{KeepsOutside, HaveRoom, saved_in_turn}
use Rattle.mm_save.proofs.Agreeing.{Agree, replaced_agrees, statement_same, label_same, written_same, text_same}
use Rattle.mm_save.proofs.Moving.{proves_moved, valid_moved, settled_moved, apart_moved}
use Rattle.mm_save.proofs.Places.{rises, within, front_stays, back_stays}
use Rattle.mm_save.proofs.Texts.{text_fine, text_tokens, text_some}

-- a label that is not a statement's finds another one
other_found : (bytes label : List ℕ) (at : ℕ) → label ≢ label_at bytes at → find_label bytes label ≢ Some at
other_found bytes label at other e =
    let found = position-Some (bytes_eq label) (labels_of bytes) at [] e in
    other ((bytes_eq-Decides label (get_or (labels_of bytes) at [])).0 found.1)

module _ (bytes : List ℕ) (at : ℕ) (read : is_read bytes ≡ true) (theorem : (stated_at bytes at).kind ≡ Theorem)
    (form : Form) (x : Plain) (own : HasOwnLabels bytes x) (room : length (saved bytes at form x) ≤ most_bytes) where
  abbrev new : List ℕ
  new = saved bytes at form x

  abbrev text : List ℕ
  text = saved_text bytes at form x

  pub saved_keeps : KeepsTheRest bytes at (saved_text bytes at form x)
  saved_keeps = keeps_the_rest bytes at text read theorem (text_fine bytes at form x own) room

  pub saved_judges : JudgesTheRest bytes at (saved_text bytes at form x)
  saved_judges = judges_the_rest bytes at text read saved_keeps

  pub saved_agrees : Agree bytes (saved bytes at form x)
  saved_agrees = replaced_agrees bytes at text saved_keeps

  pub own_new : at < length (labels_of bytes) → at < length (labels_of (saved bytes at form x))
  own_new small = subst (λ (ls : List (List ℕ)). at < length ls) (sym saved_agrees.labels) small

  pub others_kept : (label : List ℕ) → label ≢ label_at bytes at → Accepts bytes label → Accepts (saved bytes at form x) label
  others_kept label other = saved_judges.accepts_kept label (other_found bytes label at other)

  pub others_back : (label : List ℕ) → label ≢ label_at bytes at → Accepts (saved bytes at form x) label → Accepts bytes label
  others_back label other = saved_judges.accepts_back label (other_found bytes label at other)

  abbrev from : ℕ
  from = (stated_at bytes at).from

  abbrev to : ℕ
  to = (stated_at bytes at).to

  less : from < to
  less =
      rises from to (length text) (sym (ap (λ s. s.to) (saved_keeps.stated_kept at)) ∙ saved_keeps.to_moved) (text_some bytes at form x)

  inside : from ≤ length bytes
  inside =
      within bytes text from to (ap (λ a. slice_range new a (from + length text)) (sym saved_keeps.from_kept) ∙ ap (slice_range new (stated_at new at).from) (sym saved_keeps.to_moved) ∙ saved_keeps.proof_is)
      (text_some bytes at form x) less

  -- the bytes outside the proof
  pub outside : KeepsOutside bytes at (saved bytes at form x)
  outside = record {
    from = saved_keeps.from_kept;
    before = ap (λ n. take n new) saved_keeps.from_kept ∙ front_stays bytes text from to inside;
    behind = ap (λ n. drop n new) saved_keeps.to_moved ∙ back_stays bytes text from to inside;
  }

  -- a later save of the same theorem is as if there had been none before
  pub saved_again : (other : Form) (y : Plain) → saved (saved bytes at form x) at other y ≡ saved bytes at other y
  saved_again other y =
      ap (λ (t : List ℕ). take (stated_at new at).from new ++ t ++ drop (stated_at new at).to new) (text_same bytes new saved_agrees at other y)
      ∙ ap (λ (a : List ℕ). a ++ saved_text bytes at other y ++ drop (stated_at new at).to new) outside.before
      ∙ ap (λ (b : List ℕ). take from bytes ++ saved_text bytes at other y ++ b) outside.behind

  own_moved : (o : Option ℕ) → IsOwnLabel bytes o → IsOwnLabel new o
  own_moved None h = tt
  own_moved (Some l) h = subst (λ (ls : List (List ℕ)). l < length ls) (sym saved_agrees.labels) h

  each_moved : (ys : List Plain) → Each (λ y. IsOwnLabel bytes (label_of y)) ys → Each (λ y. IsOwnLabel new (label_of y)) ys
  each_moved [] e = tt
  each_moved (y ∷ ys) e = (own_moved (label_of y) e.0, each_moved ys e.1)

  pub own_again : (y : Plain) → HasOwnLabels bytes y → HasOwnLabels (saved bytes at form x) y
  unfolding HasOwnLabels
  own_again y h = each_moved (steps_of y) h

  pub room_again : (ys : List (Form × Plain)) → HaveRoom bytes at ys → HaveRoom (saved bytes at form x) at ys
  room_again [] h = tt
  room_again (y ∷ ys) h = (record { own = own_again y.1 h.0.own; room = subst (λ (b : List ℕ). length b ≤ most_bytes) (sym (saved_again y.0 y.1)) h.0.room }, room_again ys h.1)

  pub kind_again : (stated_at (saved bytes at form x) at).kind ≡ Theorem
  kind_again = saved_agrees.kinds at ∙ theorem

outside_nothing : (bytes : List ℕ) (at : ℕ) → KeepsOutside bytes at bytes
outside_nothing bytes at = record { from = refl; before = refl; behind = refl }

outside_twice : (bytes : List ℕ) (at : ℕ) (mid newer : List ℕ) → KeepsOutside bytes at mid → KeepsOutside mid at newer → KeepsOutside bytes at newer
outside_twice bytes at mid newer h g = record { from = g.from ∙ h.from; before = g.before ∙ h.before; behind = g.behind ∙ h.behind }

pub outside_in_turn : (bytes : List ℕ) (at : ℕ) (xs : List (Form × Plain)) → is_read bytes ≡ true → (stated_at bytes at).kind ≡ Theorem → HaveRoom bytes at xs → KeepsOutside bytes at (saved_in_turn bytes at xs)
outside_in_turn bytes at [] read theorem h = outside_nothing bytes at
outside_in_turn bytes at (x ∷ xs) read theorem h =
    outside_twice bytes at (saved bytes at x.0 x.1) (saved_in_turn (saved bytes at x.0 x.1) at xs) (outside bytes at read theorem x.0 x.1 h.0.own h.0.room)
    (outside_in_turn (saved bytes at x.0 x.1) at xs (saved_keeps bytes at read theorem x.0 x.1 h.0.own h.0.room).read (kind_again bytes at read theorem x.0 x.1 h.0.own h.0.room)
    (room_again bytes at read theorem x.0 x.1 h.0.own h.0.room xs h.1))

module _ (bytes : List ℕ) (at : ℕ) (read : is_read bytes ≡ true) (theorem : (stated_at bytes at).kind ≡ Theorem) (x : Plain) (own : HasOwnLabels bytes x) where
  -- in the normal form the tokens are those of the proof
  module _ (room : length (saved bytes at Normal x) ≤ most_bytes) where
    abbrev normal : List ℕ
    normal = saved bytes at Normal x

    keeps : KeepsTheRest bytes at (saved_text bytes at Normal x)
    keeps = saved_keeps bytes at read theorem Normal x own room

    agrees : Agree bytes (saved bytes at Normal x)
    agrees = saved_agrees bytes at read theorem Normal x own room

    tokens : texts_in (proof_of normal at) ≡ written normal x
    tokens = ap texts_in keeps.proof_is ∙ text_tokens bytes x own ∙ sym (written_same bytes normal agrees x)

    accepted_normal : (p : Proof) → p.plain ≡ x → at < length (labels_of bytes) → Proves bytes at p → Accepts (saved bytes at Normal x) (label_at bytes at)
    accepted_normal p e small proves =
        subst (Accepts normal) (label_same bytes normal agrees at)
        (written_accepts normal at p keeps.read (own_new bytes at read theorem Normal x own room small) (agrees.kinds at ∙ theorem) (proves_moved bytes normal agrees at p proves) (tokens ∙ ap (written normal) (sym e)))

    pub incomplete_by : (p : Proof) → p.plain ≡ x → at < length (labels_of bytes) → IsValid bytes at (statement_of bytes at) p → IsSettled bytes p.plain
        → IsApart bytes (distinct_at bytes at) p.plain → has_unknown p.plain ≡ true → verdict_of (saved bytes at Normal x) at ≡ Incomplete
    incomplete_by p e small valid settled apart some =
        written_incomplete normal at p (own_new bytes at read theorem Normal x own room small)
        (subst (λ goal. IsValid normal at goal p) (sym (statement_same bytes normal agrees at)) (valid_moved bytes normal agrees at (statement_of bytes at) p valid))
        (settled_moved bytes normal agrees p.plain settled) (apart_moved bytes normal agrees at p.plain apart) some (tokens ∙ ap (written normal) (sym e))

  -- in the compressed form the text is accepted wherever it stands
  accepted_compressed : length (saved bytes at Compressed x) ≤ most_bytes → (p : Proof) → p.plain ≡ x → at < length (labels_of bytes) → Proves bytes at p → Accepts (saved bytes at Compressed x) (label_at bytes at)
  accepted_compressed room p e small proves =
      let from : ℕ = (stated_at bytes at).from in
      let agrees : Agree bytes (saved bytes at Compressed x) = saved_agrees bytes at read theorem Compressed x own room in
      record {
        id = at;
        read = (saved_keeps bytes at read theorem Compressed x own room).read;
        found = ap (λ (ls : List (List ℕ)). position (bytes_eq (label_at bytes at)) ls) agrees.labels ∙ (has_label bytes at small).found;
        theorem = agrees.kinds at ∙ theorem;
        accepted = (saved_judges bytes at read theorem Compressed x own room).own_verdict
            ∙ ap (λ y. verdict_by bytes at (spelled bytes at from (compressed_proof bytes at (label_tree y)))) (sym e)
            ∙ text_accepted bytes at from p small proves;
      }

  -- a proof that proves its theorem is accepted in both forms
  pub accepted_by : (form : Form) → length (saved bytes at form x) ≤ most_bytes → (p : Proof) → p.plain ≡ x → at < length (labels_of bytes) → Proves bytes at p → Accepts (saved bytes at form x) (label_at bytes at)
  accepted_by Normal room = accepted_normal room
  accepted_by Compressed room = accepted_compressed room
