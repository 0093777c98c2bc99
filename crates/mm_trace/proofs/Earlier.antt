-- A theorem's proof applies earlier assertions alone.
use Rattle.std.proofs.Common.{◌≡◌, ◌<◌, ◌+◌, ◌-◌, ◌*◌, ◌==◌, nat_lt, eqb, eqb-true, inl, inr, ℕ, zero, suc, Bool, true, false, cond, if◌then◌else◌, List, [], ◌∷◌, ◌++◌, length, drop, map, slice_get, Option, None, Some, Result, Ok, Err, refl, sym, subst, arith, true≢false}
use Rattle.std.specs.List.{AllByRecursion, list_any}
use Rattle.std.specs.Str.{bytes_eq}
use Rattle.std.proofs.lemmas.Bool.Decides.{nat_tests}
use Rattle.mm_tokens.specs.Pieces.{pieces_of, tokens_in}
use Rattle.mm_tokens.specs.declared.pieces.Token.{Token}
use Rattle.mm_scope.specs.Contents.{find_label, stated_at}
use Rattle.mm_stated.specs.Stated.{is_same_kind}
use Rattle.mm_stated.specs.declared.statement.Kind.{Kind}
use Rattle.mm_stated.specs.declared.statement.Kind.TheVariants as kind
use Rattle.mm_proof.specs.Faults.{after}
use Rattle.mm_proof.specs.Labels.{text_of, is_active, is_mandatory, hypothesis, assertion, step_by, labelled, named_of, step_of, unless_mandatory, listed_of, Numbered, listed_from, numbered}
use Rattle.mm_proof.specs.Numbers.{letter_of}
use Rattle.mm_proof.specs.Reading.{Placed, Reading, start, tag_last, step_by as numbered_by, step_numbered, with_step, read_letter, unless_empty, read_from, read, letters_in}
use Rattle.mm_proof.specs.Steps.{untagged}
use Rattle.mm_proof.specs.Decoding.{steps_from, normal, compressed, begins_list, spelled, decoded, proof_of}
use Rattle.mm_proof.specs.declared.fault.ProofFault.{ProofFault}
use Rattle.mm_proof.specs.declared.fault.ProofFault.TheVariants.{NotEarlier, HypothesisNotActive, MandatoryListed, BadLetter, TagMisplaced, NumberOpen}
use Rattle.mm_proof.specs.declared.letter.Letter.{Letter}
use Rattle.mm_proof.specs.declared.letter.Letter.TheVariants.{Last, Lead, Tag, Query, Other}
use Rattle.mm_proof.specs.declared.step.ProofStep.{ProofStep}
use Rattle.mm_proof.specs.declared.step.StepKind.{StepKind}
use Rattle.mm_proof.specs.declared.step.StepKind.TheVariants.{Hyp, Apply, Back, Unknown}
use Rattle.mm_trace.specs.Uses.{assertion_of, applied_by, applied_in, applied, uses}
use Rattle.mm_trace.specs.Marks.{IsEarlier}
use Rattle.mm_trace.proofs.SegmentLemmas.{one_of}

-- a step applies no statement from a place on
abbrev Before : ℕ → StepKind → Type 0
Before id (Hyp s) = Unit {0}
Before id (Apply s) = s.0 < id
Before id (Back k) = Unit {0}
Before id Unknown = Unit {0}

abbrev AllBefore : ℕ → List ProofStep → Type 0
AllBefore id steps = AllByRecursion (λ s. Before id s.kind) steps

-- ## Labels

step_before : (bytes : List ℕ) (id k n : ℕ) (what : Kind) (s : StepKind) → step_by bytes id k n what ≡ Ok s → Before id s
step_before bytes id k n kind.Float s e = at (is_active bytes id n) e where
  at : (b : Bool) → (if b then Ok (hypothesis n) else Err (HypothesisNotActive k)) ≡ Ok s → Before id s
  at true e = subst (Before id) (let f : hypothesis n ≡ s = cc in f) tt
  at false e = cc
step_before bytes id k n kind.Essential s e = at (is_active bytes id n) e where
  at : (b : Bool) → (if b then Ok (hypothesis n) else Err (HypothesisNotActive k)) ≡ Ok s → Before id s
  at true e = subst (Before id) (let f : hypothesis n ≡ s = cc in f) tt
  at false e = cc
step_before bytes id k n kind.Axiom s e = at (nat_lt n id) refl e where
  at : (b : Bool) → nat_lt n id ≡ b → (if b then Ok (assertion n) else Err (NotEarlier k)) ≡ Ok s → Before id s
  at true is e = (let small : n < id = grind (arith, nat_tests) in subst (Before id) (let f : assertion n ≡ s = cc in f) small)
  at false is e = cc
step_before bytes id k n kind.Theorem s e = at (nat_lt n id) refl e where
  at : (b : Bool) → nat_lt n id ≡ b → (if b then Ok (assertion n) else Err (NotEarlier k)) ≡ Ok s → Before id s
  at true is e = (let small : n < id = grind (arith, nat_tests) in subst (Before id) (let f : assertion n ≡ s = cc in f) small)
  at false is e = cc

named_before : (bytes : List ℕ) (id k : ℕ) (text : List ℕ) (s : StepKind) → named_of bytes id k text ≡ Ok s → Before id s
unfolding named_of
named_before bytes id k text s e = at (find_label bytes text) e where
  at : (o : Option ℕ) → labelled bytes id k o ≡ Ok s → Before id s
  at None e = cc
  at (Some n) e = step_before bytes id k n (stated_at bytes n).kind s e

written_before : (bytes : List ℕ) (id k : ℕ) (text : List ℕ) (s : StepKind) → step_of bytes id k text ≡ Ok s → Before id s
unfolding step_of
written_before bytes id k text s e = at (bytes_eq text (63 ∷ [])) e where
  at : (b : Bool) → (if b then Ok Unknown else named_of bytes id k text) ≡ Ok s → Before id s
  at true e = subst (Before id) (let f : Unknown ≡ s = cc in f) tt
  at false e = named_before bytes id k text s e

unless_before : (bytes : List ℕ) (id k : ℕ) (s t : StepKind) → Before id s → unless_mandatory bytes id k s ≡ Ok t → Before id t
unless_before bytes id k (Hyp s) t h e = at (is_mandatory bytes id s.0) e where
  at : (b : Bool) → (if b then Err (MandatoryListed k) else Ok (Hyp s)) ≡ Ok t → Before id t
  at true e = cc
  at false e = subst (Before id) (let f : Hyp s ≡ t = cc in f) tt
unless_before bytes id k (Apply s) t h e = subst (Before id) (let f : Apply s ≡ t = cc in f) h
unless_before bytes id k (Back n) t h e = subst (Before id) (let f : Back n ≡ t = cc in f) tt
unless_before bytes id k Unknown t h e = subst (Before id) (let f : Unknown ≡ t = cc in f) tt

listed_before : (bytes : List ℕ) (id k : ℕ) (text : List ℕ) (s : StepKind) → listed_of bytes id k text ≡ Ok s → Before id s
unfolding listed_of
listed_before bytes id k text s e = at (named_of bytes id k text) refl e where
  at : (r : Result StepKind ProofFault) → named_of bytes id k text ≡ r → after r (unless_mandatory bytes id k) ≡ Ok s → Before id s
  at (Ok t) is e = unless_before bytes id k t s (named_before bytes id k text t is) e
  at (Err f) is e = cc

-- ## Normal proofs

steps_before : (bytes : List ℕ) (id : ℕ) (proof : List ℕ) (k : ℕ) (ts : List Token) (steps : List ProofStep) → steps_from bytes id proof k ts ≡ Ok steps → AllBefore id steps
unfolding steps_from
steps_before bytes id proof k [] steps e = subst (AllBefore id) (let f : [] ≡ steps = cc in f) tt
steps_before bytes id proof k (t ∷ ts) steps e =
    at (step_of bytes id k (text_of proof t)) refl (steps_from bytes id proof (k + 1) ts) (λ ss is. steps_before bytes id proof (k + 1) ts ss is) e
  where
    at : (r : Result StepKind ProofFault) → step_of bytes id k (text_of proof t) ≡ r → (q : Result (List ProofStep) ProofFault) → ((ss : List ProofStep) → q ≡ Ok ss → AllBefore id ss)
        → after r (λ s. after q (λ ss. Ok (untagged s ∷ ss))) ≡ Ok steps → AllBefore id steps
    at (Ok s) is (Ok ss) more e = subst (AllBefore id) (let f : untagged s ∷ ss ≡ steps = cc in f) (written_before bytes id k (text_of proof t) s is, more ss refl)
    at (Ok s) is (Err f) more e = cc
    at (Err f) is q more e = cc

whole_before : (id : ℕ) (ss steps : List ProofStep) → AllBefore id ss → unless_empty ss ≡ Ok steps → AllBefore id steps
whole_before id [] steps h e = cc
whole_before id (s ∷ ss) steps h e = subst (AllBefore id) (let f : s ∷ ss ≡ steps = cc in f) h

normal_before : (bytes : List ℕ) (id : ℕ) (proof : List ℕ) (ts : List Token) (steps : List ProofStep) → normal bytes id proof ts ≡ Ok steps → AllBefore id steps
normal_before bytes id proof ts steps e = at (steps_from bytes id proof 1 ts) refl e where
  at : (r : Result (List ProofStep) ProofFault) → steps_from bytes id proof 1 ts ≡ r → after r unless_empty ≡ Ok steps → AllBefore id steps
  at (Ok ss) is e = whole_before id ss steps (steps_before bytes id proof 1 ts ss is) e
  at (Err f) is e = cc

-- ## Compressed proofs

kinds_more : (id : ℕ) (kinds : List StepKind) (s : StepKind) → AllByRecursion (Before id) kinds → Before id s → AllByRecursion (Before id) (kinds ++ s ∷ [])
kinds_more id [] s h b = (b, tt)
kinds_more id (k ∷ kinds) s h b = (h.0, kinds_more id kinds s h.1 b)

hypotheses_before : (id : ℕ) (ns : List ℕ) → AllByRecursion (Before id) (map hypothesis ns)
hypotheses_before id [] = tt
hypotheses_before id (n ∷ ns) = (tt, hypotheses_before id ns)

list_before : (bytes : List ℕ) (id : ℕ) (proof : List ℕ) (k : ℕ) (kinds : List StepKind) (ts : List Token) (n : Numbered) → AllByRecursion (Before id) kinds
    → listed_from bytes id proof k kinds ts ≡ Ok n → AllByRecursion (Before id) n.kinds
unfolding listed_from
list_before bytes id proof k kinds [] n h e = cc
list_before bytes id proof k kinds (t ∷ ts) n h e =
    at (bytes_eq (text_of proof t) (41 ∷ [])) (listed_of bytes id k (text_of proof t)) refl (λ s b is. list_before bytes id proof (k + 1) (kinds ++ s ∷ []) ts n (kinds_more id kinds s h b) is) e
  where
    at : (b : Bool) (r : Result StepKind ProofFault) → listed_of bytes id k (text_of proof t) ≡ r
        → ((s : StepKind) → Before id s → listed_from bytes id proof (k + 1) (kinds ++ s ∷ []) ts ≡ Ok n → AllByRecursion (Before id) n.kinds)
        → (if b then Ok (record { kinds = kinds; rest = ts }) else after r (λ s. listed_from bytes id proof (k + 1) (kinds ++ s ∷ []) ts)) ≡ Ok n → AllByRecursion (Before id) n.kinds
    at true r is more e = subst (λ (m : Numbered). AllByRecursion (Before id) m.kinds) (let f : record { kinds = kinds; rest = ts } ≡ n = cc in f) h
    at false (Ok s) is more e = more s (listed_before bytes id k (text_of proof t) s is) e
    at false (Err f) is more e = cc

steps_more : (id : ℕ) (steps : List ProofStep) (s : StepKind) → AllBefore id steps → Before id s → AllBefore id (steps ++ untagged s ∷ [])
steps_more id [] s h b = (b, tt)
steps_more id (t ∷ steps) s h b = (h.0, steps_more id steps s h.1 b)

tagged_before : (id : ℕ) (steps : List ProofStep) → AllBefore id steps → AllBefore id (tag_last steps)
tagged_before id [] h = tt
tagged_before id (s ∷ []) h = h
tagged_before id (s ∷ t ∷ ss) h = (h.0, tagged_before id (t ∷ ss) h.1)

kind_before : (id : ℕ) (kinds : List StepKind) (n : ℕ) (s : StepKind) → AllByRecursion (Before id) kinds → slice_get kinds n ≡ Some s → Before id s
kind_before id [] n s h e = cc
kind_before id (k ∷ kinds) zero s h e = subst (Before id) (let f : k ≡ s = cc in f) h.0
kind_before id (k ∷ kinds) (suc n) s h e = kind_before id kinds n s h.1 e

numbered_before : (id : ℕ) (o : Option StepKind) (p : Option ℕ) (s : StepKind) → ((k : StepKind) → o ≡ Some k → Before id k) → numbered_by o p ≡ Some s → Before id s
numbered_before id (Some k) p s f e = f s e
numbered_before id None (Some k) s f e = subst (Before id) (let g : Back k ≡ s = cc in g) tt
numbered_before id None None s f e = cc

letter_before : (id : ℕ) (kinds : List StepKind) (place : ℕ) (r next : Reading) (l : Letter) → AllByRecursion (Before id) kinds → AllBefore id r.steps → read_letter kinds place r l ≡ Ok next → AllBefore id next.steps
letter_before id kinds place r next (Last d) own h e =
    at (step_numbered kinds r.tags (20 * r.number + d - 1)) (λ s is.
    numbered_before id (slice_get kinds (20 * r.number + d - 1)) (slice_get r.tags (20 * r.number + d - 1 - length kinds)) s (λ k g. kind_before id kinds (20 * r.number + d - 1) k own g) is) e
  where
    at : (o : Option StepKind) → ((s : StepKind) → o ≡ Some s → Before id s) → with_step place r o ≡ Ok next → AllBefore id next.steps
    at None f g = cc
    at (Some s) f g = subst (λ (q : Reading). AllBefore id q.steps) (let i : record { number = 0; complete = true; tags = r.tags; steps = r.steps ++ untagged s ∷ [] } ≡ next = cc in i) (steps_more id r.steps s h (f s refl))
letter_before id kinds place r next (Lead d) own h e =
    subst (λ (q : Reading). AllBefore id q.steps) (let i : record { number = 5 * r.number + d; complete = false; tags = r.tags; steps = r.steps } ≡ next = cc in i) h
letter_before id kinds place r next Tag own h e = at r.complete e where
  at : (b : Bool) → cond b (Ok (record { number = r.number; complete = false; tags = r.tags ++ length r.steps ∷ []; steps = tag_last r.steps })) (Err (TagMisplaced place)) ≡ Ok next → AllBefore id next.steps
  at true g = subst (λ (q : Reading). AllBefore id q.steps) (let i : record { number = r.number; complete = false; tags = r.tags ++ length r.steps ∷ []; steps = tag_last r.steps } ≡ next = cc in i) (tagged_before id r.steps h)
  at false g = cc
letter_before id kinds place r next Query own h e = at (eqb r.number 0) e where
  at : (b : Bool) → cond b (Ok (record { number = 0; complete = false; tags = r.tags; steps = r.steps ++ untagged Unknown ∷ [] })) (Err (BadLetter place)) ≡ Ok next → AllBefore id next.steps
  at true g = subst (λ (q : Reading). AllBefore id q.steps) (let i : record { number = 0; complete = false; tags = r.tags; steps = r.steps ++ untagged Unknown ∷ [] } ≡ next = cc in i) (steps_more id r.steps Unknown h tt)
  at false g = cc
letter_before id kinds place r next Other own h e = cc

end_before : (id : ℕ) (ss steps : List ProofStep) (b : Bool) → AllBefore id ss → cond b (unless_empty ss) (Err NumberOpen) ≡ Ok steps → AllBefore id steps
end_before id ss steps true h e = whole_before id ss steps h e
end_before id ss steps false h e = cc

read_before : (id : ℕ) (kinds : List StepKind) → AllByRecursion (Before id) kinds → (ls : List Placed) (r : Reading) (steps : List ProofStep) → AllBefore id r.steps → read_from kinds r ls ≡ Ok steps → AllBefore id steps
unfolding read_from
read_before id kinds own [] r steps h e = end_before id r.steps steps (eqb r.number 0) h e
read_before id kinds own (l ∷ ls) r steps h e =
    at (read_letter kinds l.place r (letter_of l.byte)) (λ next is. letter_before id kinds l.place r next (letter_of l.byte) own h is) (λ next i is. read_before id kinds own ls next steps i is) e
  where
    at : (o : Result Reading ProofFault) → ((next : Reading) → o ≡ Ok next → AllBefore id next.steps) → ((next : Reading) → AllBefore id next.steps → read_from kinds next ls ≡ Ok steps → AllBefore id steps)
        → after o (λ next. read_from kinds next ls) ≡ Ok steps → AllBefore id steps
    at (Ok next) f g i = g next (f next refl) i
    at (Err x) f g i = cc

compressed_before : (bytes : List ℕ) (id from : ℕ) (proof : List ℕ) (ts : List Token) (steps : List ProofStep) → compressed bytes id from proof ts ≡ Ok steps → AllBefore id steps
compressed_before bytes id from proof ts steps e = at (numbered bytes id proof ts) refl e where
  at : (r : Result Numbered ProofFault) → numbered bytes id proof ts ≡ r → after r (λ n. read n.kinds (letters_in from proof n.rest)) ≡ Ok steps → AllBefore id steps
  at (Ok n) is e =
      read_before id n.kinds (list_before bytes id proof 2 (map hypothesis (stated_at bytes id).mandatory) ts n (hypotheses_before id (stated_at bytes id).mandatory) is)
      (letters_in from proof n.rest) start steps tt e
  at (Err f) is e = cc

-- ## Of a database

decoded_before : (bytes : List ℕ) (id : ℕ) (steps : List ProofStep) → decoded bytes id ≡ Ok steps → AllBefore id steps
unfolding decoded spelled
decoded_before bytes id steps e = at (begins_list (proof_of bytes id) (tokens_in (pieces_of (proof_of bytes id)))) e where
  at : (b : Bool)
      → (if b then compressed bytes id (stated_at bytes id).from (proof_of bytes id) (drop 1 (tokens_in (pieces_of (proof_of bytes id)))) else normal bytes id (proof_of bytes id) (tokens_in (pieces_of (proof_of bytes id)))) ≡ Ok steps
      → AllBefore id steps
  at true e = compressed_before bytes id (stated_at bytes id).from (proof_of bytes id) (drop 1 (tokens_in (pieces_of (proof_of bytes id)))) steps e
  at false e = normal_before bytes id (proof_of bytes id) (tokens_in (pieces_of (proof_of bytes id))) steps e

applied_before : (id on : ℕ) (steps : List ProofStep) → AllBefore id steps → list_any (λ m. m == on) (applied_by steps) ≡ true → on < id
applied_before id on [] h e = absurd (true≢false (sym e))
applied_before id on (s ∷ steps) h e = at s.kind h.0 (λ f. applied_before id on steps h.1 f) e where
  at : (k : StepKind) → Before id k → (list_any (λ m. m == on) (applied_by steps) ≡ true → on < id) → list_any (λ m. m == on) (assertion_of k ++ applied_by steps) ≡ true → on < id
  at (Hyp a) b more e = more e
  at (Apply a) b more e = elim (one_of (a.0 == on) (list_any (λ m. m == on) (applied_by steps)) e) [
    | inl same ↦ subst (λ (k : ℕ). k < id) (eqb-true a.0 on same) b
    | inr later ↦ more later
  ]
  at (Back k) b more e = more e
  at Unknown b more e = more e

pub uses_earlier : (bytes : List ℕ) → IsEarlier (uses bytes)
unfolding applied
uses_earlier bytes id on e = at (is_same_kind kind.Theorem (stated_at bytes id).kind) (decoded bytes id) refl e where
  at : (b : Bool) (r : Result (List ProofStep) ProofFault) → decoded bytes id ≡ r → list_any (λ m. m == on) (if b then applied_in r else []) ≡ true → on < id
  at true (Ok steps) is e = applied_before id on steps (decoded_before bytes id steps is) e
  at true (Err f) is e = absurd (true≢false (sym e))
  at false r is e = absurd (true≢false (sym e))
