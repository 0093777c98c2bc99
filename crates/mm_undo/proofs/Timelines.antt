-- Many steps back and forward at once.
use Rattle.std.proofs.Common.{◌≡◌, ℕ, ◌+◌, ◌-◌, ◌≤◌, ◌<◌, true, List, [], ◌∷◌, ◌++◌, take, drop, length, get_or, refl, sym, ap, ◌∙◌, arith, length-append, length-drop, length-take-le}
use Rattle.std.proofs.lemmas.List.{append_assoc, take_at, drop_at, drop_more, take-append-drop, get_or_at, get_or_append_left, get_or_default}
use Rattle.mm_plain.specs.Shape.{Proof}
use Rattle.mm_undo.specs.Histories.{Lists, IsUndone, IsRedone}
use Rattle.mm_undo.specs.Undos.{Timeline, timeline_of, all_of, moved_to, undone, redone, newest}

abbrev timeline-by : List Proof → Proof → List Proof → Timeline
timeline-by past p future = record { past = past; proof = p; future = future }

timeline-same : {a a' b b' : List Proof} {p p' : Proof} → a ≡ a' → p ≡ p' → b ≡ b' → timeline-by a p b ≡ timeline-by a' p' b'
timeline-same x y z = λ i. timeline-by (x i) (y i) (z i)

long : (c : Timeline) → length (all_of c) ≡ length c.past + 1 + length c.future
long c = omega (arith, length-append c.past (c.proof ∷ c.future))

-- where one stands
at-place : (c : Timeline) (n : ℕ) → length c.past ≡ n → moved_to n c ≡ c
at-place c n e = timeline-same (take_at c.past (c.proof ∷ c.future) n e) (get_or_at c.past c.proof c.future c.proof n e)
    (ap (drop (n + 1)) (sym (append_assoc c.past (c.proof ∷ []) c.future)) ∙ drop_at (c.past ++ c.proof ∷ []) c.future (n + 1) (omega (arith, e, length-append c.past (c.proof ∷ []))))

-- moving changes none of the proofs
all-moved : (c : Timeline) (n : ℕ) → n < length (all_of c) → all_of (moved_to n c) ≡ all_of c
all-moved c n h = ap (λ l. take n (all_of c) ++ l) (sym (drop_more (all_of c) n c.proof h)) ∙ take-append-drop n (all_of c)

-- moving by what the timeline is alone
by-all : (c d : Timeline) (n : ℕ) → all_of c ≡ all_of d → n < length (all_of d) → moved_to n c ≡ moved_to n d
by-all c d n e h = timeline-same (ap (take n) e) (ap (λ l. get_or l n c.proof) e ∙ get_or_default (all_of d) n c.proof d.proof h) (ap (drop (n + 1)) e)

pub past-moved : (c : Timeline) (n : ℕ) → n < length (all_of c) → length (moved_to n c).past ≡ n
past-moved c n h = length-take-le n (all_of c) (omega arith)

-- a timeline with the same proofs is where as many are before it
pub same-all : (c d : Timeline) (n : ℕ) → all_of c ≡ all_of d → length c.past ≡ n → c ≡ moved_to n d
same-all c d n e l = sym (at-place c n l) ∙ by-all c d n e (omega (arith, l, long c, ap length e))

all-undone : (old new : Lists) (p q : Proof) → IsUndone true old new p q → all_of (timeline_of new q) ≡ all_of (timeline_of old p)
all-undone old new p q u = ap (λ l. new.past ++ q ∷ l) u.1 ∙ sym (append_assoc new.past (q ∷ []) (p ∷ old.future)) ∙ ap (λ l. l ++ p ∷ old.future) (sym u.0)

all-redone : (old new : Lists) (p q : Proof) → IsRedone true old new p q → all_of (timeline_of new q) ≡ all_of (timeline_of old p)
all-redone old new p q u = ap (λ l. l ++ q ∷ new.future) u.1 ∙ append_assoc old.past (p ∷ []) (q ∷ new.future) ∙ ap (λ l. old.past ++ p ∷ l) (sym u.0)

pub none-undone : (p : Proof) (l : Lists) → undone 0 (timeline_of l p) ≡ timeline_of l p
none-undone p l = at-place (timeline_of l p) (length l.past - 0) (omega arith)

pub none-redone : (p : Proof) (l : Lists) → redone 0 (timeline_of l p) ≡ timeline_of l p
none-redone p l = at-place (timeline_of l p) (length l.past + 0) (omega arith)

pub undone-more : (k : ℕ) (c : Timeline) (p q : Proof) (old new : Lists) → k + 1 ≤ length c.past → timeline_of old p ≡ undone k c → IsUndone true old new p q → timeline_of new q ≡ undone (k + 1) c
undone-more k c p q old new h e u =
    same-all (timeline_of new q) c (length c.past - (k + 1))
    (all-undone old new p q u ∙ ap all_of e ∙ all-moved c (length c.past - k) (omega (arith, h, long c)))
    (omega (arith, h, ap (λ (d : Timeline). length d.past) e, past-moved c (length c.past - k) (omega (arith, h, long c)), ap length u.0, length-append new.past (q ∷ [])))

pub redone-more : (k : ℕ) (c : Timeline) (p q : Proof) (old new : Lists) → k + 1 ≤ length c.future → timeline_of old p ≡ redone k c → IsRedone true old new p q → timeline_of new q ≡ redone (k + 1) c
redone-more k c p q old new h e u =
    same-all (timeline_of new q) c (length c.past + (k + 1))
    (all-redone old new p q u ∙ ap all_of e ∙ all-moved c (length c.past + k) (omega (arith, h, long c)))
    (omega (arith, h, ap (λ (d : Timeline). length d.past) e, past-moved c (length c.past + k) (omega (arith, h, long c)), ap length u.1, length-append old.past (p ∷ [])))

pub left-undone : (k : ℕ) (c : Timeline) → k ≤ length c.past → length (undone k c).past + k ≡ length c.past
left-undone k c h = omega (arith, h, past-moved c (length c.past - k) (omega (arith, h, long c)))

pub left-redone : (k : ℕ) (c : Timeline) → k ≤ length c.future → length (redone k c).future + k ≡ length c.future
left-redone k c h = omega (arith, h, long c, length-drop (length c.past + k + 1) (all_of c))

pub newest-undone : (k : ℕ) (c : Timeline) (other : Proof) → 1 ≤ k → k ≤ length c.past → (undone k c).proof ≡ newest k c.past other
newest-undone k c other h g = get_or_append_left c.past (c.proof ∷ c.future) c.proof (length c.past - k) (omega arith) ∙ get_or_default c.past (length c.past - k) c.proof other (omega arith)

pub redone-undone : (k : ℕ) (c : Timeline) → k ≤ length c.past → redone k (undone k c) ≡ c
redone-undone k c h =
    let n = length c.past - k in
    let lt : n < length (all_of c) = omega (arith, h, long c) in
    let z : length (undone k c).past + k ≡ length c.past = left-undone k c h in
    ap (λ (m : ℕ). moved_to m (undone k c)) z ∙ by-all (undone k c) c (length c.past) (all-moved c n lt) (omega (arith, long c)) ∙ at-place c (length c.past) refl

pub ahead-undone : (k : ℕ) (c : Timeline) → k ≤ length c.past → length (undone k c).future ≡ length c.future + k
ahead-undone k c h = omega (arith, h, long c, length-drop (length c.past - k + 1) (all_of c))
