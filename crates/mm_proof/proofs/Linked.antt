-- Steps that refer back, and steps with a tag.
use Rattle.std.proofs.Common.{◌≡◌, ◌+◌, ◌-◌, ◌*◌, ◌<◌, ℕ, zero, suc, true, false, Bool, List, [], ◌∷◌, ◌++◌, length, set, get_or, slice_get, Option, None, Some, Result, Ok, Err, Vec, IfOk, cond, eqb, refl, ap, sym, ◌∙◌, subst, append_assoc, arith, length-append, All}
use Rattle.std.specs.Global.{Global}
use Rattle.std.specs.List.{AllByRecursion}
use Rattle.std.proofs.lemmas.List.{append-nil}
use Rattle.std.proofs.lemmas.List.Elements.{recursion_from_All}
use Rattle.std.proofs.lemmas.Option.{none-some, same_Some}
use Rattle.mm_proof.specs.Faults.{after}
use Rattle.mm_proof.specs.Numbers.{letter_of}
use Rattle.mm_proof.specs.Steps.{has_tag, is_tagged, IsLinked, AreLinked, IsOwn, AreSound, untagged}
use Rattle.mm_proof.specs.Reading.{Placed, Reading, start, tag_last, step_by, step_numbered, with_step, read_letter, unless_empty, read_from, read}
use Rattle.mm_proof.specs.Readers.{IsLabel, IsStep, GivesSteps}
use Rattle.mm_proof.specs.declared.fault.ProofFault.{ProofFault}
use Rattle.mm_proof.specs.declared.fault.ProofFault.TheVariants.{BadLetter, TagMisplaced, NumberOpen}
use Rattle.mm_proof.specs.declared.letter.Letter.{Letter}
use Rattle.mm_proof.specs.declared.letter.Letter.TheVariants.{Last, Lead, Tag, Query, Other}
use Rattle.mm_proof.specs.declared.step.StepKind.{StepKind}
use Rattle.mm_proof.specs.declared.step.StepKind.TheVariants.{Hyp, Apply, Back, Unknown}
use Rattle.mm_proof.specs.declared.step.ProofStep.{ProofStep}

-- one step more
pub linked_more : (done ss : List ProofStep) (s : ProofStep) → AreLinked done ss → IsLinked (done ++ ss) s.kind → AreLinked done (ss ++ s ∷ [])
linked_more done [] s h i = (let P : List ProofStep → Type 0 = λ x. IsLinked x s.kind in (subst P (append-nil done) i, tt))
linked_more done (t ∷ ss) s h i =
    let P : List ProofStep → Type 0 = λ x. IsLinked x s.kind in
    (h.0, linked_more (done ++ t ∷ []) ss s h.1 (subst P (sym (append_assoc done (t ∷ []) ss)) i))

pub length-tag_last : (ss : List ProofStep) → length (tag_last ss) ≡ length ss
length-tag_last [] = refl
length-tag_last (s ∷ []) = refl
length-tag_last (s ∷ t ∷ ss) = ap (λ n. suc n) (length-tag_last (t ∷ ss))

-- the tag of the last step is written at its place
pub tag_at : (ss : List ProofStep) (n : ℕ) (s : ProofStep) → suc n ≡ length ss → s ≡ get_or ss n s → set ss n (record { kind = s.kind; tagged = true }) ≡ tag_last ss
tag_at [] n s h is = absurd (omega arith)
tag_at (t ∷ []) zero s h is = ap (λ (x : ProofStep). record { kind = x.kind; tagged = true } ∷ []) is
tag_at (t ∷ []) (suc n) s h is = absurd (omega arith)
tag_at (t ∷ u ∷ ss) zero s h is = absurd (let e : 1 ≡ suc (suc (length ss)) = h in omega arith)
tag_at (t ∷ u ∷ ss) (suc n) s h is = ap (λ x. t ∷ x) (tag_at (u ∷ ss) n s (omega arith) is)

linked_tag : (done ss : List ProofStep) → AreLinked done ss → AreLinked done (tag_last ss)
linked_tag done [] h = tt
linked_tag done (s ∷ []) h = (h.0, tt)
linked_tag done (s ∷ t ∷ ss) h = (h.0, linked_tag (done ++ s ∷ []) (t ∷ ss) h.1)

own_tag : (bytes : List ℕ) (ss : List ProofStep) → AllByRecursion (λ s. IsOwn bytes s.kind) ss → AllByRecursion (λ s. IsOwn bytes s.kind) (tag_last ss)
own_tag bytes [] h = tt
own_tag bytes (s ∷ []) h = (h.0, tt)
own_tag bytes (s ∷ t ∷ ss) h = (h.0, own_tag bytes (t ∷ ss) h.1)

own_more : (bytes : List ℕ) (ss : List ProofStep) (s : ProofStep) → AllByRecursion (λ s. IsOwn bytes s.kind) ss → IsOwn bytes s.kind → AllByRecursion (λ s. IsOwn bytes s.kind) (ss ++ s ∷ [])
own_more bytes [] s h i = (i, tt)
own_more bytes (t ∷ ss) s h i = (h.0, own_more bytes ss s h.1 i)

has_more : (ss : List ProofStep) (s : ProofStep) (k : ℕ) → has_tag (slice_get ss k) ≡ true → has_tag (slice_get (ss ++ s ∷ []) k) ≡ true
has_more [] s k h = cc
has_more (t ∷ ss) s zero h = h
has_more (t ∷ ss) s (suc k) h = has_more ss s k h

has_kept : (ss : List ProofStep) (k : ℕ) → has_tag (slice_get ss k) ≡ true → has_tag (slice_get (tag_last ss) k) ≡ true
has_kept [] k h = cc
has_kept (s ∷ []) zero h = refl
has_kept (s ∷ []) (suc k) h = cc
has_kept (s ∷ t ∷ ss) zero h = h
has_kept (s ∷ t ∷ ss) (suc k) h = has_kept (t ∷ ss) k h

has_last : (ss : List ProofStep) (n : ℕ) → suc n ≡ length ss → has_tag (slice_get (tag_last ss) n) ≡ true
has_last [] n h = absurd (omega arith)
has_last (s ∷ []) zero h = refl
has_last (s ∷ []) (suc n) h = absurd (omega arith)
has_last (s ∷ t ∷ ss) zero h = absurd (let e : 1 ≡ suc (suc (length ss)) = h in omega arith)
has_last (s ∷ t ∷ ss) (suc n) h = has_last (t ∷ ss) n (omega arith)

tagged_more : (ss : List ProofStep) (s : ProofStep) (k : ℕ) → is_tagged ss k ≡ true → is_tagged (ss ++ s ∷ []) k ≡ true
tagged_more ss s zero h = h
tagged_more ss s (suc k) h = has_more ss s k h

tagged_kept : (ss : List ProofStep) (k : ℕ) → is_tagged ss k ≡ true → is_tagged (tag_last ss) k ≡ true
tagged_kept ss zero h = h
tagged_kept ss (suc k) h = has_kept ss k h

tagged_last : (ss : List ProofStep) (n : ℕ) → 0 < n → n ≡ length ss → is_tagged (tag_last ss) n ≡ true
tagged_last ss zero h e = absurd (omega arith)
tagged_last ss (suc n) h e = has_last ss n e

abbrev pub AreTags : List ProofStep → List ℕ → Type 0
AreTags steps tags = AllByRecursion (λ k. is_tagged steps k ≡ true) tags

tags_kept : (f : (k : ℕ) → Bool) (g : (k : ℕ) → Bool) → ((k : ℕ) → f k ≡ true → g k ≡ true) → (tags : List ℕ) → AllByRecursion (λ k. f k ≡ true) tags → AllByRecursion (λ k. g k ≡ true) tags
tags_kept f g i [] h = tt
tags_kept f g i (k ∷ tags) h = (i k h.0, tags_kept f g i tags h.1)

tags_more : (f : ℕ → Bool) (tags : List ℕ) (n : ℕ) → AllByRecursion (λ k. f k ≡ true) tags → f n ≡ true → AllByRecursion (λ k. f k ≡ true) (tags ++ n ∷ [])
tags_more f [] n h i = (i, tt)
tags_more f (k ∷ tags) n h i = (h.0, tags_more f tags n h.1 i)

-- what holds while letters are read
pub record Holds (bytes : List ℕ) (r : Reading) : Type 0 where
  pub sound : AreSound bytes r.steps
  pub tags : AreTags r.steps r.tags
  pub last : r.complete ≡ true → 0 < length r.steps

holds_step : (bytes : List ℕ) (r : Reading) (b : Bool) (s : StepKind) → Holds bytes r → IsLinked r.steps s → IsOwn bytes s
    → Holds bytes (record { number = 0; complete = b; tags = r.tags; steps = r.steps ++ untagged s ∷ [] })
holds_step bytes r b s h i j = record {
  sound = record { linked = linked_more [] r.steps (untagged s) h.sound.linked i; own = own_more bytes r.steps (untagged s) h.sound.own j };
  tags = tags_kept (is_tagged r.steps) (is_tagged (r.steps ++ untagged s ∷ [])) (λ k e. tagged_more r.steps (untagged s) k e) r.tags h.tags;
  last = λ e. omega (arith, length-append r.steps (untagged s ∷ []));
}

holds_tag : (bytes : List ℕ) (r : Reading) → Holds bytes r → r.complete ≡ true
    → Holds bytes (record { number = r.number; complete = false; tags = r.tags ++ length r.steps ∷ []; steps = tag_last r.steps })
holds_tag bytes r h e = record {
  sound = record { linked = linked_tag [] r.steps h.sound.linked; own = own_tag bytes r.steps h.sound.own };
  tags =
      tags_more (is_tagged (tag_last r.steps)) r.tags (length r.steps)
      (tags_kept (is_tagged r.steps) (is_tagged (tag_last r.steps)) (λ k e. tagged_kept r.steps k e) r.tags h.tags)
      (tagged_last r.steps (length r.steps) (h.last e) refl);
  last = λ f. cc;
}

label_fits : (bytes : List ℕ) (steps : List ProofStep) (s : StepKind) → IsLabel bytes s → IsLinked steps s × IsOwn bytes s
label_fits bytes steps (Hyp s) h = (tt, h)
label_fits bytes steps (Apply s) h = (tt, h)
label_fits bytes steps (Back k) h = absurd h
label_fits bytes steps Unknown h = absurd h

kind_at : (bytes : List ℕ) (kinds : List StepKind) (n : ℕ) (s : StepKind) → AllByRecursion (IsLabel bytes) kinds → slice_get kinds n ≡ Some s → IsLabel bytes s
kind_at bytes [] n s h e = absurd (none-some s e)
kind_at bytes (k ∷ kinds) zero s h e = subst (IsLabel bytes) (same_Some k s e) h.0
kind_at bytes (k ∷ kinds) (suc n) s h e = kind_at bytes kinds n s h.1 e

tag_at_place : (steps : List ProofStep) (tags : List ℕ) (n k : ℕ) → AreTags steps tags → slice_get tags n ≡ Some k → is_tagged steps k ≡ true
tag_at_place steps [] n k h e = absurd (none-some k e)
tag_at_place steps (t ∷ tags) zero k h e = ap (is_tagged steps) (sym (same_Some t k e)) ∙ h.0
tag_at_place steps (t ∷ tags) (suc n) k h e = tag_at_place steps tags n k h.1 e

numbered_fits : (bytes : List ℕ) (r : Reading) (o : Option StepKind) (p : Option ℕ) (s : StepKind)
    → ((k : StepKind) → o ≡ Some k → IsLabel bytes k) → ((k : ℕ) → p ≡ Some k → is_tagged r.steps k ≡ true) → step_by o p ≡ Some s → IsLinked r.steps s × IsOwn bytes s
numbered_fits bytes r (Some k) p s f g e = label_fits bytes r.steps s (f s e)
numbered_fits bytes r None (Some k) s f g e =
    let P : StepKind → Type 0 = λ x. IsLinked r.steps x × IsOwn bytes x in
    subst P (same_Some (Back k) s e) (g k refl, tt)
numbered_fits bytes r None None s f g e = absurd (none-some s e)

holds_letter : (bytes : List ℕ) (kinds : List StepKind) (place : ℕ) (r next : Reading) (l : Letter) → AllByRecursion (IsLabel bytes) kinds → Holds bytes r → read_letter kinds place r l ≡ Ok next → Holds bytes next
holds_letter bytes kinds place r next (Last d) own h e = by (step_numbered kinds r.tags (20 * r.number + d - 1)) (λ s f.
    numbered_fits bytes r (slice_get kinds (20 * r.number + d - 1)) (slice_get r.tags (20 * r.number + d - 1 - length kinds)) s
    (λ k g. kind_at bytes kinds (20 * r.number + d - 1) k own g) (λ k g. tag_at_place r.steps r.tags (20 * r.number + d - 1 - length kinds) k h.tags g) f) e
  where
    by : (o : Option StepKind) → ((s : StepKind) → o ≡ Some s → IsLinked r.steps s × IsOwn bytes s) → with_step place r o ≡ Ok next → Holds bytes next
    by None f g = cc
    by (Some s) f g =
        let p = f s refl in
        let e : record { number = 0; complete = true; tags = r.tags; steps = r.steps ++ untagged s ∷ [] } ≡ next = cc in
        subst (Holds bytes) e (holds_step bytes r true s h p.0 p.1)
holds_letter bytes kinds place r next (Lead d) own h e =
    let f : record { number = 5 * r.number + d; complete = false; tags = r.tags; steps = r.steps } ≡ next = cc in
    subst (Holds bytes) f (record { sound = h.sound; tags = h.tags; last = λ g. cc })
holds_letter bytes kinds place r next Tag own h e = by r.complete refl e
  where
    by : (b : Bool) → r.complete ≡ b
        → cond b (Ok (record { number = r.number; complete = false; tags = r.tags ++ length r.steps ∷ []; steps = tag_last r.steps })) (Err (TagMisplaced place)) ≡ Ok next → Holds bytes next
    by true f g =
        let i : record { number = r.number; complete = false; tags = r.tags ++ length r.steps ∷ []; steps = tag_last r.steps } ≡ next = cc in
        subst (Holds bytes) i (holds_tag bytes r h f)
    by false f g = cc
holds_letter bytes kinds place r next Query own h e = by (eqb r.number 0) e
  where
    by : (b : Bool) → cond b (Ok (record { number = 0; complete = false; tags = r.tags; steps = r.steps ++ untagged Unknown ∷ [] })) (Err (BadLetter place)) ≡ Ok next → Holds bytes next
    by true g =
        let i : record { number = 0; complete = false; tags = r.tags; steps = r.steps ++ untagged Unknown ∷ [] } ≡ next = cc in
        subst (Holds bytes) i (holds_step bytes r false Unknown h tt tt)
    by false g = cc
holds_letter bytes kinds place r next Other own h e = cc

ended_sound : (bytes : List ℕ) (ss steps : List ProofStep) (b : Bool) → AreSound bytes ss → cond b (unless_empty ss) (Err NumberOpen) ≡ Ok steps → AreSound bytes steps
ended_sound bytes ss steps false h e = cc
ended_sound bytes [] steps true h e = cc
ended_sound bytes (s ∷ ss) steps true h e = let f : s ∷ ss ≡ steps = cc in subst (AreSound bytes) f h

holds_read : (bytes : List ℕ) (kinds : List StepKind) → AllByRecursion (IsLabel bytes) kinds → (ls : List Placed) (r : Reading) (steps : List ProofStep) → Holds bytes r → read_from kinds r ls ≡ Ok steps → AreSound bytes steps
unfolding read_from
holds_read bytes kinds own [] r steps h e = ended_sound bytes r.steps steps (eqb r.number 0) h.sound e
holds_read bytes kinds own (l ∷ ls) r steps h e =
    by (read_letter kinds l.place r (letter_of l.byte)) (λ next f. holds_letter bytes kinds l.place r next (letter_of l.byte) own h f) (λ next i f. holds_read bytes kinds own ls next steps i f) e
  where
    by : (o : Result Reading ProofFault) → ((next : Reading) → o ≡ Ok next → Holds bytes next) → ((next : Reading) → Holds bytes next → read_from kinds next ls ≡ Ok steps → AreSound bytes steps)
        → after o (λ next. read_from kinds next ls) ≡ Ok steps → AreSound bytes steps
    by (Ok next) f g i = g next (f next refl) i
    by (Err x) f g i = cc

-- the steps that letters spell are sound
pub read_sound : (bytes : List ℕ) (kinds : List StepKind) (ls : List Placed) (steps : List ProofStep) → All (IsLabel bytes) kinds → read kinds ls ≡ Ok steps → AreSound bytes steps
read_sound bytes kinds ls steps own e =
    holds_read bytes kinds (recursion_from_All (IsLabel bytes) kinds own) ls start steps (record { sound = record { linked = tt; own = tt }; tags = tt; last = λ f. cc }) e

step_fits : (bytes : List ℕ) (steps : List ProofStep) (s : StepKind) → IsStep bytes s → IsLinked steps s × IsOwn bytes s
step_fits bytes steps (Hyp s) h = (tt, h)
step_fits bytes steps (Apply s) h = (tt, h)
step_fits bytes steps (Back k) h = absurd h
step_fits bytes steps Unknown h = (tt, tt)

-- a step of a normal proof more
pub sound_more : (bytes : List ℕ) (steps : List ProofStep) (s : StepKind) → AreSound bytes steps → IsStep bytes s → AreSound bytes (steps ++ untagged s ∷ [])
sound_more bytes steps s h i =
    let p = step_fits bytes steps s i in
    record { linked = linked_more [] steps (untagged s) h.linked p.0; own = own_more bytes steps (untagged s) h.own p.1 }

pub read_gives : (bytes : List ℕ) (kinds : List StepKind) (ls : List Placed) (r : Result (Vec ProofStep Global) ProofFault) → All (IsLabel bytes) kinds → GivesSteps r (read kinds ls)
    → IfOk r (λ v. AreSound bytes v.items)
read_gives bytes kinds ls (Ok v) own h = read_sound bytes kinds ls v.items own h
read_gives bytes kinds ls (Err e) own h = tt
