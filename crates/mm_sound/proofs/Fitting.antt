-- The steps that a theorem's text spells name what may stand in its proof, and refer back to steps before them.
use Rattle.std.proofs.Common.{◌≡◌, ◌≤◌, ◌+◌, ◌-◌, ◌*◌, eqb, nat_lt, ℕ, zero, suc, Bool, true, false, cond, if◌then◌else◌, List, [], ◌∷◌, ◌++◌, length, length-append, drop, map, slice_get, Option, None, Some, Result, Ok, Err, refl, sym, ap, ◌∙◌, subst, arith}
use Rattle.std.specs.List.{AllByRecursion as ByRecursion}
use Rattle.std.specs.Str.{bytes_eq}
use Rattle.mm_tokens.specs.Pieces.{pieces_of, tokens_in}
use Rattle.mm_tokens.specs.declared.pieces.Token.{Token}
use Rattle.mm_scope.specs.Contents.{find_label, stated_at}
use Rattle.mm_stated.specs.Stated.{is_hypothesis}
use Rattle.mm_stated.specs.declared.statement.Kind.{Kind}
use Rattle.mm_stated.specs.declared.statement.Kind.TheVariants as kind
use Rattle.mm_plain.specs.Premises.{may_stand}
use Rattle.mm_proof.specs.Faults.{after}
use Rattle.mm_proof.specs.Labels.{text_of, is_active, is_mandatory, hypothesis, assertion, step_by, labelled, named_of, step_of, unless_mandatory, listed_of, Numbered, listed_from, numbered}
use Rattle.mm_proof.specs.Numbers.{letter_of}
use Rattle.mm_proof.specs.Reading.{Placed, Reading, start, tag_last, step_by as numbered_by, step_numbered, with_step, read_letter, unless_empty, read_from, read, letters_in}
use Rattle.mm_proof.specs.Steps.{untagged}
use Rattle.mm_proof.specs.Decoding.{steps_from, normal, compressed, begins_list, spelled}
use Rattle.mm_proof.specs.declared.fault.ProofFault.{ProofFault}
use Rattle.mm_proof.specs.declared.fault.ProofFault.TheVariants.{NotEarlier, HypothesisNotActive, MandatoryListed, BadLetter, TagMisplaced, NumberOpen}
use Rattle.mm_proof.specs.declared.letter.Letter.{Letter}
use Rattle.mm_proof.specs.declared.letter.Letter.TheVariants.{Last, Lead, Tag, Query, Other}
use Rattle.mm_proof.specs.declared.step.ProofStep.{ProofStep}
use Rattle.mm_proof.specs.declared.step.StepKind.{StepKind}
use Rattle.mm_proof.specs.declared.step.StepKind.TheVariants.{Hyp, Apply, Back, Unknown}
use Rattle.mm_proof.proofs.Linked.{length-tag_last}
use Rattle.mm_sound.proofs.Active.{mandatory_active}
use Rattle.mm_sound.proofs.Mandatory.{mandatory_hypotheses}
use Rattle.std.proofs.lemmas.List.Elements.{recursion_from_All}

module _ (bytes : List ℕ) (id : ℕ) where
  -- what a step names may stand in the proof, as what it is
  abbrev pub Fits : StepKind → Type 0
  Fits (Hyp s) = (is_hypothesis (stated_at bytes s.0).kind ≡ true) × (may_stand bytes id s.0 ≡ true)
  Fits (Apply s) = (is_hypothesis (stated_at bytes s.0).kind ≡ false) × (may_stand bytes id s.0 ≡ true)
  Fits (Back k) = Unit {0}
  Fits Unknown = Unit {0}

  -- and it refers back to one of the n steps before it
  abbrev pub Points : ℕ → StepKind → Type 0
  Points n (Hyp s) = Unit {0}
  Points n (Apply s) = Unit {0}
  Points n (Back k) = (1 ≤ k) × (k ≤ n)
  Points n Unknown = Unit {0}

  abbrev pub AllFit : ℕ → List ProofStep → Type 0
  AllFit n [] = Unit {0}
  AllFit n (s ∷ ss) = (Fits s.kind × Points n s.kind) × AllFit (suc n) ss

  -- a label, or `?`
  abbrev Names : StepKind → Type 0
  Names s = Fits s × ((n : ℕ) → Points n s)

  -- ## Labels

  hypothesis_names : (n : ℕ) → is_hypothesis (stated_at bytes n).kind ≡ true → is_active bytes id n ≡ true → Names (hypothesis n)
  unfolding may_stand
  hypothesis_names n is active = ((is, ap (λ b. if b then is_active bytes id n else nat_lt n id) is ∙ active), λ k. tt)

  assertion_names : (n : ℕ) → is_hypothesis (stated_at bytes n).kind ≡ false → nat_lt n id ≡ true → Names (assertion n)
  unfolding may_stand
  assertion_names n is less = ((is, ap (λ b. if b then is_active bytes id n else nat_lt n id) is ∙ less), λ k. tt)

  active_by : (k n : ℕ) (s : StepKind) → is_hypothesis (stated_at bytes n).kind ≡ true → (b : Bool) → is_active bytes id n ≡ b → (if b then Ok (hypothesis n) else Err (HypothesisNotActive k)) ≡ Ok s → Names s
  active_by k n s is true active e = subst Names (let f : hypothesis n ≡ s = cc in f) (hypothesis_names n is active)
  active_by k n s is false active e = absurd (cc)

  earlier_by : (k n : ℕ) (s : StepKind) → is_hypothesis (stated_at bytes n).kind ≡ false → (b : Bool) → nat_lt n id ≡ b → (if b then Ok (assertion n) else Err (NotEarlier k)) ≡ Ok s → Names s
  earlier_by k n s is true less e = subst Names (let f : assertion n ≡ s = cc in f) (assertion_names n is less)
  earlier_by k n s is false less e = absurd (cc)

  step_names : (k n : ℕ) (what : Kind) (s : StepKind) → (stated_at bytes n).kind ≡ what → step_by bytes id k n what ≡ Ok s → Names s
  step_names k n kind.Float s is e = active_by k n s (ap (λ q. is_hypothesis q) is) (is_active bytes id n) refl e
  step_names k n kind.Essential s is e = active_by k n s (ap (λ q. is_hypothesis q) is) (is_active bytes id n) refl e
  step_names k n kind.Axiom s is e = earlier_by k n s (ap (λ q. is_hypothesis q) is) (nat_lt n id) refl e
  step_names k n kind.Theorem s is e = earlier_by k n s (ap (λ q. is_hypothesis q) is) (nat_lt n id) refl e

  named_names : (k : ℕ) (text : List ℕ) (s : StepKind) → named_of bytes id k text ≡ Ok s → Names s
  unfolding named_of
  named_names k text s e = at (find_label bytes text) e
    where
      at : (o : Option ℕ) → labelled bytes id k o ≡ Ok s → Names s
      at None e = absurd (cc)
      at (Some n) e = step_names k n (stated_at bytes n).kind s refl e

  unknown_names : Names Unknown
  unknown_names = (tt, λ n. tt)

  written_names : (k : ℕ) (text : List ℕ) (s : StepKind) → step_of bytes id k text ≡ Ok s → Names s
  unfolding step_of
  written_names k text s e = at (bytes_eq text (63 ∷ [])) e
    where
      at : (b : Bool) → (if b then Ok Unknown else named_of bytes id k text) ≡ Ok s → Names s
      at true e = subst Names (let f : Unknown ≡ s = cc in f) unknown_names
      at false e = named_names k text s e

  unless_names : (k : ℕ) (s t : StepKind) → Names s → unless_mandatory bytes id k s ≡ Ok t → Names t
  unless_names k (Hyp s) t h e = at (is_mandatory bytes id s.0) e
    where
      at : (b : Bool) → (if b then Err (MandatoryListed k) else Ok (Hyp s)) ≡ Ok t → Names t
      at true e = absurd (cc)
      at false e = subst Names (let f : Hyp s ≡ t = cc in f) h
  unless_names k (Apply s) t h e = subst Names (let f : Apply s ≡ t = cc in f) h
  unless_names k (Back n) t h e = subst Names (let f : Back n ≡ t = cc in f) h
  unless_names k Unknown t h e = subst Names (let f : Unknown ≡ t = cc in f) h

  listed_names : (k : ℕ) (text : List ℕ) (s : StepKind) → listed_of bytes id k text ≡ Ok s → Names s
  unfolding listed_of
  listed_names k text s e = at (named_of bytes id k text) refl e
    where
      at : (r : Result StepKind ProofFault) → named_of bytes id k text ≡ r → after r (unless_mandatory bytes id k) ≡ Ok s → Names s
      at (Ok t) is e = unless_names k t s (named_names k text t is) e
      at (Err f) is e = absurd (cc)

  -- ## Normal proofs

  steps_fit : (proof : List ℕ) (k n : ℕ) (ts : List Token) (steps : List ProofStep) → steps_from bytes id proof k ts ≡ Ok steps → AllFit n steps
  unfolding steps_from
  steps_fit proof k n [] steps e = subst (AllFit n) (let f : [] ≡ steps = cc in f) tt
  steps_fit proof k n (t ∷ ts) steps e =
      at (step_of bytes id k (text_of proof t)) (λ s is. written_names k (text_of proof t) s is) (steps_from bytes id proof (k + 1) ts) (λ ss is. steps_fit proof (k + 1) (suc n) ts ss is) e
    where
      at : (r : Result StepKind ProofFault) → ((s : StepKind) → r ≡ Ok s → Names s) → (q : Result (List ProofStep) ProofFault) → ((ss : List ProofStep) → q ≡ Ok ss → AllFit (suc n) ss)
          → after r (λ s. after q (λ ss. Ok (untagged s ∷ ss))) ≡ Ok steps → AllFit n steps
      at (Ok s) one (Ok ss) more e = let w = one s refl in subst (AllFit n) (let f : untagged s ∷ ss ≡ steps = cc in f) ((w.0, w.1 n), more ss refl)
      at (Ok s) one (Err f) more e = absurd (cc)
      at (Err f) one q more e = absurd (cc)

  whole_fit : (ss steps : List ProofStep) → AllFit 0 ss → unless_empty ss ≡ Ok steps → AllFit 0 steps
  whole_fit [] steps h e = absurd (cc)
  whole_fit (s ∷ ss) steps h e = subst (AllFit 0) (let f : s ∷ ss ≡ steps = cc in f) h

  normal_fit : (proof : List ℕ) (ts : List Token) (steps : List ProofStep) → normal bytes id proof ts ≡ Ok steps → AllFit 0 steps
  normal_fit proof ts steps e = at (steps_from bytes id proof 1 ts) refl e
    where
      at : (r : Result (List ProofStep) ProofFault) → steps_from bytes id proof 1 ts ≡ r → after r unless_empty ≡ Ok steps → AllFit 0 steps
      at (Ok ss) is e = whole_fit ss steps (steps_fit proof 1 0 ts ss is) e
      at (Err f) is e = absurd (cc)

  -- ## Compressed proofs

  kinds_more : (kinds : List StepKind) (s : StepKind) → ByRecursion Names kinds → Names s → ByRecursion Names (kinds ++ s ∷ [])
  kinds_more [] s h b = (b, tt)
  kinds_more (k ∷ kinds) s h b = (h.0, kinds_more kinds s h.1 b)

  mandatory_names : (ms : List ℕ) → ByRecursion (λ m. is_hypothesis (stated_at bytes m).kind ≡ true) ms → ByRecursion (λ m. is_active bytes id m ≡ true) ms → ByRecursion Names (map hypothesis ms)
  mandatory_names [] h a = tt
  mandatory_names (m ∷ ms) h a = (hypothesis_names m h.0 a.0, mandatory_names ms h.1 a.1)

  list_names : (proof : List ℕ) (k : ℕ) (kinds : List StepKind) (ts : List Token) (n : Numbered) → ByRecursion Names kinds → listed_from bytes id proof k kinds ts ≡ Ok n → ByRecursion Names n.kinds
  unfolding listed_from
  list_names proof k kinds [] n h e = absurd (cc)
  list_names proof k kinds (t ∷ ts) n h e =
      at (bytes_eq (text_of proof t) (41 ∷ [])) (listed_of bytes id k (text_of proof t)) (λ s is. listed_names k (text_of proof t) s is) (λ s b is. list_names proof (k + 1) (kinds ++ s ∷ []) ts n (kinds_more kinds s h b) is) e
    where
      at : (b : Bool) (r : Result StepKind ProofFault) → ((s : StepKind) → r ≡ Ok s → Names s)
          → ((s : StepKind) → Names s → listed_from bytes id proof (k + 1) (kinds ++ s ∷ []) ts ≡ Ok n → ByRecursion Names n.kinds)
          → (if b then Ok (record { kinds = kinds; rest = ts }) else after r (λ s. listed_from bytes id proof (k + 1) (kinds ++ s ∷ []) ts)) ≡ Ok n → ByRecursion Names n.kinds
      at true r one more e = subst (λ (m : Numbered). ByRecursion Names m.kinds) (let f : record { kinds = kinds; rest = ts } ≡ n = cc in f) h
      at false (Ok s) one more e = more s (one s refl) e
      at false (Err f) one more e = absurd (cc)

  fit_more : (n : ℕ) (ss : List ProofStep) (s : StepKind) → AllFit n ss → Fits s → Points (n + length ss) s → AllFit n (ss ++ untagged s ∷ [])
  fit_more n [] s h f p = let same : n + 0 ≡ n = omega arith in ((f, subst (λ m. Points m s) same p), tt)
  fit_more n (t ∷ ts) s h f p =
      let same : n + suc (length ts) ≡ suc n + length ts = omega arith in
      (h.0, fit_more (suc n) ts s h.1 f (subst (λ m. Points m s) same p))

  fit_tagged : (n : ℕ) (ss : List ProofStep) → AllFit n ss → AllFit n (tag_last ss)
  fit_tagged n [] h = tt
  fit_tagged n (s ∷ []) h = h
  fit_tagged n (s ∷ t ∷ ss) h = (h.0, fit_tagged (suc n) (t ∷ ss) h.1)

  abbrev AreTags : ℕ → List ℕ → Type 0
  AreTags n tags = ByRecursion (λ k. (1 ≤ k) × (k ≤ n)) tags

  tags_kept : (n m : ℕ) (tags : List ℕ) → n ≤ m → AreTags n tags → AreTags m tags
  tags_kept n m [] h a = tt
  tags_kept n m (k ∷ ks) h a = ((a.0.0, omega (arith, h, a.0.1)), tags_kept n m ks h a.1)

  tags_more : (n : ℕ) (tags : List ℕ) (k : ℕ) → AreTags n tags → 1 ≤ k → k ≤ n → AreTags n (tags ++ k ∷ [])
  tags_more n [] k a h g = ((h, g), tt)
  tags_more n (t ∷ ts) k a h g = (a.0, tags_more n ts k a.1 h g)

  -- what holds while letters are read
  record Holds (r : Reading) : Type 0 where
    fit : AllFit 0 r.steps
    tags : AreTags (length r.steps) r.tags
    last : r.complete ≡ true → 1 ≤ length r.steps

  holds_step : (r : Reading) (b : Bool) (s : StepKind) → Holds r → Fits s → Points (length r.steps) s → Holds (record { number = 0; complete = b; tags = r.tags; steps = r.steps ++ untagged s ∷ [] })
  holds_step r b s h f p =
      let more : length (r.steps ++ untagged s ∷ []) ≡ length r.steps + 1 = length-append r.steps (untagged s ∷ []) in
      record { fit = fit_more 0 r.steps s h.fit f (let same : length r.steps ≡ 0 + length r.steps = omega arith in subst (λ n. Points n s) same p); tags = tags_kept (length r.steps) (length (r.steps ++ untagged s ∷ [])) r.tags (omega (arith, more)) h.tags; last = λ e. omega (arith, more) }

  holds_tag : (r : Reading) → Holds r → r.complete ≡ true → Holds (record { number = r.number; complete = false; tags = r.tags ++ length r.steps ∷ []; steps = tag_last r.steps })
  holds_tag r h e = record {
    fit = fit_tagged 0 r.steps h.fit;
    tags = subst (λ n. AreTags n (r.tags ++ length r.steps ∷ [])) (sym (length-tag_last r.steps)) (tags_more (length r.steps) r.tags (length r.steps) h.tags (h.last e) (omega arith));
    last = λ f. absurd (cc);
  }

  kind_at : (kinds : List StepKind) (n : ℕ) (s : StepKind) → ByRecursion Names kinds → slice_get kinds n ≡ Some s → Names s
  kind_at [] n s h e = absurd (cc)
  kind_at (k ∷ kinds) zero s h e = subst Names (let f : k ≡ s = cc in f) h.0
  kind_at (k ∷ kinds) (suc n) s h e = kind_at kinds n s h.1 e

  tag_at : (m : ℕ) (tags : List ℕ) (n k : ℕ) → AreTags m tags → slice_get tags n ≡ Some k → (1 ≤ k) × (k ≤ m)
  tag_at m [] n k h e = absurd (cc)
  tag_at m (t ∷ tags) zero k h e = subst (λ (j : ℕ). (1 ≤ j) × (j ≤ m)) (let f : t ≡ k = cc in f) h.0
  tag_at m (t ∷ tags) (suc n) k h e = tag_at m tags n k h.1 e

  numbered_fits : (m : ℕ) (o : Option StepKind) (p : Option ℕ) (s : StepKind) → ((k : StepKind) → o ≡ Some k → Names k) → ((k : ℕ) → p ≡ Some k → (1 ≤ k) × (k ≤ m)) → numbered_by o p ≡ Some s → Fits s × Points m s
  numbered_fits m (Some k) p s f g e = let w = f s e in (w.0, w.1 m)
  numbered_fits m None (Some k) s f g e = subst (λ x. Fits x × Points m x) (let i : Back k ≡ s = cc in i) (tt, g k refl)
  numbered_fits m None None s f g e = absurd (cc)

  letter_holds : (kinds : List StepKind) (place : ℕ) (r next : Reading) (l : Letter) → ByRecursion Names kinds → Holds r → read_letter kinds place r l ≡ Ok next → Holds next
  letter_holds kinds place r next (Last d) own h e =
      at (step_numbered kinds r.tags (20 * r.number + d - 1)) (λ s is.
      numbered_fits (length r.steps) (slice_get kinds (20 * r.number + d - 1)) (slice_get r.tags (20 * r.number + d - 1 - length kinds)) s
      (λ k g. kind_at kinds (20 * r.number + d - 1) k own g) (λ k g. tag_at (length r.steps) r.tags (20 * r.number + d - 1 - length kinds) k h.tags g) is) e
    where
      at : (o : Option StepKind) → ((s : StepKind) → o ≡ Some s → Fits s × Points (length r.steps) s) → with_step place r o ≡ Ok next → Holds next
      at None f g = absurd (cc)
      at (Some s) f g =
          let w = f s refl in
          subst Holds (let i : record { number = 0; complete = true; tags = r.tags; steps = r.steps ++ untagged s ∷ [] } ≡ next = cc in i) (holds_step r true s h w.0 w.1)
  letter_holds kinds place r next (Lead d) own h e =
      subst Holds (let i : record { number = 5 * r.number + d; complete = false; tags = r.tags; steps = r.steps } ≡ next = cc in i) (record { fit = h.fit; tags = h.tags; last = λ g. absurd (cc) })
  letter_holds kinds place r next Tag own h e = at r.complete refl e
    where
      at : (b : Bool) → r.complete ≡ b → cond b (Ok (record { number = r.number; complete = false; tags = r.tags ++ length r.steps ∷ []; steps = tag_last r.steps })) (Err (TagMisplaced place)) ≡ Ok next → Holds next
      at true f g = subst Holds (let i : record { number = r.number; complete = false; tags = r.tags ++ length r.steps ∷ []; steps = tag_last r.steps } ≡ next = cc in i) (holds_tag r h f)
      at false f g = absurd (cc)
  letter_holds kinds place r next Query own h e = at (eqb r.number 0) e
    where
      at : (b : Bool) → cond b (Ok (record { number = 0; complete = false; tags = r.tags; steps = r.steps ++ untagged Unknown ∷ [] })) (Err (BadLetter place)) ≡ Ok next → Holds next
      at true g = subst Holds (let i : record { number = 0; complete = false; tags = r.tags; steps = r.steps ++ untagged Unknown ∷ [] } ≡ next = cc in i) (holds_step r false Unknown h tt tt)
      at false g = absurd (cc)
  letter_holds kinds place r next Other own h e = absurd (cc)

  end_fits : (ss steps : List ProofStep) (b : Bool) → AllFit 0 ss → cond b (unless_empty ss) (Err NumberOpen) ≡ Ok steps → AllFit 0 steps
  end_fits ss steps true h e = whole_fit ss steps h e
  end_fits ss steps false h e = absurd (cc)

  read_fits : (kinds : List StepKind) → ByRecursion Names kinds → (ls : List Placed) (r : Reading) (steps : List ProofStep) → Holds r → read_from kinds r ls ≡ Ok steps → AllFit 0 steps
  unfolding read_from
  read_fits kinds own [] r steps h e = end_fits r.steps steps (eqb r.number 0) h.fit e
  read_fits kinds own (l ∷ ls) r steps h e =
      at (read_letter kinds l.place r (letter_of l.byte)) (λ next is. letter_holds kinds l.place r next (letter_of l.byte) own h is) (λ next i is. read_fits kinds own ls next steps i is) e
    where
      at : (o : Result Reading ProofFault) → ((next : Reading) → o ≡ Ok next → Holds next) → ((next : Reading) → Holds next → read_from kinds next ls ≡ Ok steps → AllFit 0 steps)
          → after o (λ next. read_from kinds next ls) ≡ Ok steps → AllFit 0 steps
      at (Ok next) f g i = g next (f next refl) i
      at (Err x) f g i = absurd (cc)

  compressed_fit : (from : ℕ) (proof : List ℕ) (ts : List Token) (steps : List ProofStep) → compressed bytes id from proof ts ≡ Ok steps → AllFit 0 steps
  compressed_fit from proof ts steps e = at (numbered bytes id proof ts) refl e
    where
      at : (r : Result Numbered ProofFault) → numbered bytes id proof ts ≡ r → after r (λ n. read n.kinds (letters_in from proof n.rest)) ≡ Ok steps → AllFit 0 steps
      at (Ok n) is e =
          let ms : List ℕ = (stated_at bytes id).mandatory in
          let own = mandatory_names ms (recursion_from_All (λ m. is_hypothesis (stated_at bytes m).kind ≡ true) ms (mandatory_hypotheses bytes id)) (mandatory_active bytes id) in
          read_fits n.kinds (list_names proof 2 (map hypothesis ms) ts n own is) (letters_in from proof n.rest) start steps (record { fit = tt; tags = tt; last = λ f. absurd (cc) }) e
      at (Err f) is e = absurd (cc)

  -- the steps that the bytes of a proof spell
  pub spelled_fit : (from : ℕ) (proof : List ℕ) (steps : List ProofStep) → spelled bytes id from proof ≡ Ok steps → AllFit 0 steps
  unfolding spelled
  spelled_fit from proof steps e = at (begins_list proof (tokens_in (pieces_of proof))) e
    where
      at : (b : Bool) → (if b then compressed bytes id from proof (drop 1 (tokens_in (pieces_of proof))) else normal bytes id proof (tokens_in (pieces_of proof))) ≡ Ok steps → AllFit 0 steps
      at true e = compressed_fit from proof (drop 1 (tokens_in (pieces_of proof))) steps e
      at false e = normal_fit proof (tokens_in (pieces_of proof)) steps e
