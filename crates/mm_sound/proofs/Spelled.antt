-- The steps that a written proof spells.
use Rattle.std.proofs.Common.{◌≡◌, ◌<◌, ◌+◌, ℕ, Bool, true, false, nat_lt, ◌==◌, List, [], ◌∷◌, map, drop, length, Option, None, Some, Ok, Err, slice_range, refl, sym, ap, ◌∙◌, subst, arith, if◌then◌else◌, inl, inr}
use Rattle.std.proofs.lemmas.Bool.{true≢false, false≢true, cases_lt}
use Rattle.std.proofs.lemmas.List.{length-map}
use Rattle.std.proofs.lemmas.Slice.Eq.{bytes_eq-Decides}
use Rattle.std.specs.List.{list_any, AllByRecursion as ByRecursion}
use Rattle.std.specs.Str.{bytes_eq}
use Rattle.mm_tokens.specs.Pieces.{pieces_of, tokens_in}
use Rattle.mm_tokens.specs.declared.pieces.Token.{Token}
use Rattle.mm_tokens.specs.Words.{is_bad_label}
use Rattle.mm_scope.specs.Contents.{stated_at, labels_of, find_label, active_at}
use Rattle.mm_stated.specs.Stated.{is_hypothesis}
use Rattle.mm_stated.specs.declared.statement.Kind.{Kind}
use Rattle.mm_stated.specs.declared.statement.Kind.TheVariants as kind
use Rattle.mm_subst.specs.declared.symbol.WSym.{WSym}
use Rattle.mm_plain.specs.declared.plain.Plain.{Plain}
use Rattle.mm_plain.specs.Premises.{may_stand}
use Rattle.mm_plain.specs.Shape.{Each, Proof, steps_of, size_of}
use Rattle.mm_plain.specs.Sources.{label_of}
use Rattle.mm_plain.specs.Valid.{Setting, setting_of, IsGood, IsSound, IsValid}
use Rattle.mm_plain.proofs.Equations.{by_trees, length-steps_of, size_of-pos}
use Rattle.mm_plain.proofs.Kept.{known-good}
use Rattle.mm_plain.proofs.Read.{label_of-known, label_of-unknown}
use Rattle.mm_proof.specs.Decoding.{steps_from, normal, compressed, begins_list, proof_of, decoded}
use Rattle.mm_proof.specs.Decoding as text
use Rattle.mm_proof.specs.Faults.{after}
use Rattle.mm_proof.specs.Labels.{step_by, labelled, named_of, step_of}
use Rattle.mm_proof.specs.Reading.{unless_empty}
use Rattle.mm_proof.specs.Steps.{untagged}
use Rattle.mm_proof.specs.declared.fault.ProofFault.TheVariants.{HypothesisNotActive, NotEarlier}
use Rattle.mm_proof.specs.declared.step.ProofStep.{ProofStep}
use Rattle.mm_proof.specs.declared.step.StepKind.TheVariants.{Hyp, Apply, Unknown}
use Rattle.mm_plain.specs.Labels.{label_at}
use Rattle.mm_plain.proofs.Forms.{no_other}
use Rattle.mm_plain.proofs.Labels.{has_label}
use Rattle.mm_sound.specs.Complete.{labels_in, kind_for, step_for, spelled}
use Rattle.mm_sound.specs.Written.{texts_in, word_for, written}

-- a step with this label may stand in the proof of a theorem
abbrev pub MayStand : List ℕ → ℕ → Option ℕ → Type 0
MayStand bytes at None = Unit {0}
MayStand bytes at (Some l) = may_stand bytes at l ≡ true

one_stands : (c : Setting) (x : Plain) → IsGood c x → MayStand c.bytes c.at (label_of x)
one_stands c = by_trees (λ x. IsGood c x → MayStand c.bytes c.at (label_of x))
    (λ t g. subst (MayStand c.bytes c.at) (sym (label_of-unknown t)) tt)
    (λ t l s kids h g. subst (MayStand c.bytes c.at) (sym (label_of-known t l s kids)) (known-good c t l s kids g).names.stands)

all_stand : (c : Setting) (xs : List Plain) → Each (IsGood c) xs → ByRecursion (MayStand c.bytes c.at) (map label_of xs)
all_stand c [] e = tt
all_stand c (x ∷ xs) e = (one_stands c x e.0, all_stand c xs e.1)

pub labels_stand : (c : Setting) (x : Plain) → IsSound c x → ByRecursion (MayStand c.bytes c.at) (labels_in x)
unfolding IsSound
labels_stand c x e = all_stand c (steps_of x) e

-- what may stand is a statement of the database
hypothesis_own : (bytes : List ℕ) (l : ℕ) → is_hypothesis (stated_at bytes l).kind ≡ true → l < length (labels_of bytes)
hypothesis_own bytes l h = elim (cases_lt l (length (labels_of bytes))) [
  | inl own ↦ own
  | inr other ↦ absurd (false≢true (ap (λ s. is_hypothesis s.kind) (sym (no_other bytes l other)) ∙ h))
]

from_less : (a b : ℕ) → nat_lt a b ≡ true → a < b
from_less a b h = grind arith

stands_by : List ℕ → ℕ → ℕ → Bool → Bool
stands_by bytes at l b = if b then list_any (λ n. l == n) (active_at bytes at) else nat_lt l at

stands_as : (bytes : List ℕ) (at l : ℕ) (b : Bool) → is_hypothesis (stated_at bytes l).kind ≡ b → may_stand bytes at l ≡ true → stands_by bytes at l b ≡ true
unfolding may_stand stands_by
stands_as bytes at l b e h = sym (ap (stands_by bytes at l) e) ∙ h

own_by : (bytes : List ℕ) (at l : ℕ) (b : Bool) → is_hypothesis (stated_at bytes l).kind ≡ b → at < length (labels_of bytes) → may_stand bytes at l ≡ true → l < length (labels_of bytes)
unfolding stands_by
own_by bytes at l true e own h = hypothesis_own bytes l e
own_by bytes at l false e own h = omega (arith, own, from_less l at (stands_as bytes at l false e h))

pub own_label : (bytes : List ℕ) (at l : ℕ) → at < length (labels_of bytes) → may_stand bytes at l ≡ true → l < length (labels_of bytes)
own_label bytes at l own h = own_by bytes at l (is_hypothesis (stated_at bytes l).kind) refl own h

-- a statement that may stand is the step for it
step_by_kind : (bytes : List ℕ) (at k l : ℕ) (kd : Kind) → stands_by bytes at l (is_hypothesis kd) ≡ true
    → step_by bytes at k l kd ≡ Ok (if is_hypothesis kd then Hyp (record { 0 = l }) else Apply (record { 0 = l }))
unfolding stands_by
step_by_kind bytes at k l kind.Float h = ap (λ b. if b then Ok (Hyp (record { 0 = l })) else Err (HypothesisNotActive k)) h
step_by_kind bytes at k l kind.Essential h = ap (λ b. if b then Ok (Hyp (record { 0 = l })) else Err (HypothesisNotActive k)) h
step_by_kind bytes at k l kind.Axiom h = ap (λ b. if b then Ok (Apply (record { 0 = l })) else Err (NotEarlier k)) h
step_by_kind bytes at k l kind.Theorem h = ap (λ b. if b then Ok (Apply (record { 0 = l })) else Err (NotEarlier k)) h

-- no label is `?`
bad_mark : is_bad_label (63 ∷ []) ≡ true
unfolding is_bad_label
bad_mark = refl

not_mark_by : (text : List ℕ) (b : Bool) → bytes_eq text (63 ∷ []) ≡ b → is_bad_label text ≡ false → b ≡ false
not_mark_by text true e fit = absurd (true≢false (sym bad_mark ∙ sym (ap is_bad_label ((bytes_eq-Decides text (63 ∷ [])).0 e)) ∙ fit))
not_mark_by text false e fit = refl

not_mark : (text : List ℕ) → is_bad_label text ≡ false → bytes_eq text (63 ∷ []) ≡ false
not_mark text fit = not_mark_by text (bytes_eq text (63 ∷ [])) refl fit

-- what is written for a step spells it
spells_step : (bytes : List ℕ) (at k : ℕ) (o : Option ℕ) → at < length (labels_of bytes) → MayStand bytes at o → step_of bytes at k (word_for bytes o) ≡ Ok (kind_for bytes o)
unfolding step_of named_of
spells_step bytes at k None own h = refl
spells_step bytes at k (Some l) own h =
    let named = has_label bytes l (own_label bytes at l own h) in
    ap (λ b. if b then Ok Unknown else labelled bytes at k (find_label bytes (label_at bytes l))) (not_mark (label_at bytes l) named.fit)
    ∙ ap (labelled bytes at k) named.found
    ∙ step_by_kind bytes at k l (stated_at bytes l).kind (stands_as bytes at l (is_hypothesis (stated_at bytes l).kind) refl h)

-- the texts of tokens
abbrev pub texts_of : List ℕ → List Token → List (List ℕ)
texts_of proof ts = map (λ t. slice_range proof t.start t.end) ts

tail : List (List ℕ) → List (List ℕ)
tail [] = []
tail (x ∷ xs) = xs

unfoldable head : List (List ℕ) → List ℕ
head [] = []
head (x ∷ xs) = x

-- what is written for a proof is no compressed proof
bad_bracket : is_bad_label (40 ∷ []) ≡ true
unfolding is_bad_label
bad_bracket = refl

not_bracket_by : (text : List ℕ) (b : Bool) → bytes_eq text (40 ∷ []) ≡ b → is_bad_label text ≡ false → b ≡ false
not_bracket_by text true e fit = absurd (true≢false (sym bad_bracket ∙ sym (ap is_bad_label ((bytes_eq-Decides text (40 ∷ [])).0 e)) ∙ fit))
not_bracket_by text false e fit = refl

not_bracket : (bytes : List ℕ) (at : ℕ) (o : Option ℕ) → at < length (labels_of bytes) → MayStand bytes at o → bytes_eq (word_for bytes o) (40 ∷ []) ≡ false
not_bracket bytes at None own h = refl
not_bracket bytes at (Some l) own h = not_bracket_by (label_at bytes l) (bytes_eq (label_at bytes l) (40 ∷ [])) refl (has_label bytes l (own_label bytes at l own h)).fit

first_word : (bytes : List ℕ) (at : ℕ) (proof : List ℕ) (ts : List Token) (os : List (Option ℕ)) → at < length (labels_of bytes) → ByRecursion (MayStand bytes at) os
    → texts_of proof ts ≡ map (word_for bytes) os → begins_list proof ts ≡ false
unfolding head
first_word bytes at proof [] os own h e = refl
first_word bytes at proof (t ∷ ts) [] own h e = absurd (omega (arith, ap length e))
first_word bytes at proof (t ∷ ts) (o ∷ os) own h e = ap (λ text. bytes_eq text (40 ∷ [])) (ap head e) ∙ not_bracket bytes at o own h.0

spells_tokens : (bytes : List ℕ) (at : ℕ) (proof : List ℕ) (k : ℕ) (ts : List Token) (os : List (Option ℕ)) → at < length (labels_of bytes) → ByRecursion (MayStand bytes at) os
    → texts_of proof ts ≡ map (word_for bytes) os → steps_from bytes at proof k ts ≡ Ok (map (step_for bytes) os)
unfolding steps_from head tail
spells_tokens bytes at proof k [] [] own h e = refl
spells_tokens bytes at proof k [] (o ∷ os) own h e = absurd (omega (arith, ap length e))
spells_tokens bytes at proof k (t ∷ ts) [] own h e = absurd (omega (arith, ap length e))
spells_tokens bytes at proof k (t ∷ ts) (o ∷ os) own h e =
    ap (λ r. after r (λ s. after (steps_from bytes at proof (k + 1) ts) (λ ss. Ok (untagged s ∷ ss)))) (ap (step_of bytes at k) (ap head e) ∙ spells_step bytes at k o own h.0)
    ∙ ap (λ r. after r (λ ss. Ok (step_for bytes o ∷ ss))) (spells_tokens bytes at proof (k + 1) ts os own h.1 (ap tail e))

some_step : (ss : List ProofStep) → 0 < length ss → unless_empty ss ≡ Ok ss
some_step [] h = absurd (omega (arith, h))
some_step (s ∷ ss) h = refl

-- the steps of a valid proof that is written
pub written_spells : (bytes : List ℕ) (at : ℕ) (goal : List WSym) (p : Proof) → at < length (labels_of bytes) → IsValid bytes at goal p → texts_in (proof_of bytes at) ≡ written bytes p.plain
    → decoded bytes at ≡ Ok (spelled bytes p.plain)
unfolding decoded text.spelled
written_spells bytes at goal p own v e =
    let proof : List ℕ = proof_of bytes at in
    let from : ℕ = (stated_at bytes at).from in
    let tokens : List Token = tokens_in (pieces_of proof) in
    let plain : begins_list proof tokens ≡ false = first_word bytes at proof tokens (labels_in p.plain) own (labels_stand (setting_of bytes at p) p.plain v.steps) e in
    let many : length (spelled bytes p.plain) ≡ size_of p.plain = length-map (labels_in p.plain) (step_for bytes) ∙ length-map (steps_of p.plain) label_of ∙ length-steps_of p.plain in
    ap (λ b. if b then compressed bytes at from proof (drop 1 tokens) else normal bytes at proof tokens) plain
    ∙ ap (λ r. after r unless_empty) (spells_tokens bytes at proof 1 tokens (labels_in p.plain) own (labels_stand (setting_of bytes at p) p.plain v.steps) e)
    ∙ some_step (spelled bytes p.plain) (omega (arith, many, size_of-pos p.plain))
