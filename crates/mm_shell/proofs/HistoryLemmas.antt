-- Steps back and forward of the open proof.
use Rattle.std.proofs.Common.{◌≡◌, ◌-◌, ◌+◌, ◌<◌, ℕ, Bool, true, false, List, [], ◌∷◌, ◌++◌, length, take, drop, slice_get, Option, None, Some, refl, sym, ◌∙◌, ap, subst, arith, length-append, take_all}
use Rattle.std.specs.List.{All}
use Rattle.std.proofs.lemmas.List.{take_at}
use Rattle.std.proofs.lemmas.Grind.{take_at_read}
use Rattle.std.proofs.lemmas.List.Elements.{All-append, All-drop, All-take, All-nil, All-from_recursion}
use Rattle.std.proofs.lemmas.Option.{get_or_from_slice_get, slice_get_within}
use Rattle.circular_buffer.specs.Buffer.{last_item, keep_last}
use Rattle.circular_buffer.proofs.Places.{slice_get-last}
use Rattle.mm_plain.specs.Shape.{Proof}
use Rattle.mm_tree.specs.Trees as trees
use Rattle.mm_tree.specs.Versions.{named}
use Rattle.mm_undo.proofs.Orders.{map-newest}
use Rattle.mm_undo.specs.Histories.{IsRedone, IsUndone, Lists, Marks, lists_of}
use Rattle.mm_shell.specs.OpenProofs.{ProofState, after_edit, after_redo, after_undo, lists_in, redone_to, seen_as, undone_to, with_depth}
use Rattle.mm_shell.specs.Changes.{proof_after}
use Rattle.mm_shell.specs.Sound.{IsProofOf, IsOpenIn, AreSound}

-- ## A valid proof stays valid

one : (P : Proof → Type 0) (q : Proof) → P q → All P (q ∷ [])
one P q h = All-from_recursion P (q ∷ []) (h, tt)

-- an element of a list of which something holds
among : (P : Proof → Type 0) (ps : List Proof) (k : ℕ) (q : Proof) → All P ps → slice_get ps k ≡ Some q → P q
among P ps k q all e = subst P (get_or_from_slice_get ps k q q e) (all k q (slice_get_within ps k q e))

undone_open : (bytes : List ℕ) (p : ProofState) → IsOpenIn bytes p → IsOpenIn bytes (after_undo p)
undone_open bytes p h = at (last_item p.past) refl where
  at : (o : Option Proof) → last_item p.past ≡ o → IsOpenIn bytes (undone_to o p)
  at None e = h
  at (Some q) e = record {
    own = h.own;
    theorem = h.theorem;
    valid = among (IsProofOf bytes p.theorem) p.past (length p.past - 1) q h.past e;
    past = All-take (IsProofOf bytes p.theorem) (length p.past - 1) p.past h.past;
    future = All-append (IsProofOf bytes p.theorem) (p.proof ∷ []) p.future (one (IsProofOf bytes p.theorem) p.proof h.valid) h.future;
  }

redone_open : (bytes : List ℕ) (p : ProofState) → IsOpenIn bytes p → IsOpenIn bytes (after_redo p)
redone_open bytes p h = at (slice_get p.future 0) refl where
  at : (o : Option Proof) → slice_get p.future 0 ≡ o → IsOpenIn bytes (redone_to o p)
  at None e = h
  at (Some q) e = record {
    own = h.own;
    theorem = h.theorem;
    valid = among (IsProofOf bytes p.theorem) p.future 0 q h.future e;
    past = All-append (IsProofOf bytes p.theorem) p.past (p.proof ∷ []) h.past (one (IsProofOf bytes p.theorem) p.proof h.valid);
    future = All-drop (IsProofOf bytes p.theorem) 1 p.future h.future;
  }

depth_open : (n : ℕ) (bytes : List ℕ) (p : ProofState) → IsOpenIn bytes p → IsOpenIn bytes (with_depth n p)
depth_open n bytes p h = record {
  own = h.own;
  theorem = h.theorem;
  valid = h.valid;
  past = All-drop (IsProofOf bytes p.theorem) (length p.past - n) p.past h.past;
  future = All-nil (IsProofOf bytes p.theorem);
}

-- an edit to a valid proof
pub edited_open : (bytes : List ℕ) (p : ProofState) (q : Proof) → IsOpenIn bytes p → IsProofOf bytes p.theorem q → IsOpenIn bytes (after_edit p q)
edited_open bytes p q h valid =
    let P : Proof → Type 0 = IsProofOf bytes p.theorem in
    let all : List Proof = p.past ++ p.proof ∷ [] in
    record {
      own = h.own;
      theorem = h.theorem;
      valid = valid;
      past = All-drop P (length all - p.depth) all (All-append P p.past (p.proof ∷ []) h.past (one P p.proof h.valid));
      future = All-nil P;
    }

steps_sound : (f : ProofState → ProofState) → ((bytes : List ℕ) (p : ProofState) → IsOpenIn bytes p → IsOpenIn bytes (f p)) → (database : Option (List ℕ)) (o : Option ProofState) → AreSound database o → AreSound database (proof_after f o)
steps_sound f keeps None None h = h
steps_sound f keeps None (Some p) h = h
steps_sound f keeps (Some bytes) None h = h
steps_sound f keeps (Some bytes) (Some p) h = (h.0, keeps bytes p h.1)

pub undoes_sound : (database : Option (List ℕ)) (o : Option ProofState) → AreSound database o → AreSound database (proof_after after_undo o)
undoes_sound = steps_sound after_undo undone_open

pub redoes_sound : (database : Option (List ℕ)) (o : Option ProofState) → AreSound database o → AreSound database (proof_after after_redo o)
redoes_sound = steps_sound after_redo redone_open

pub sets_undo_sound : (n : ℕ) (database : Option (List ℕ)) (o : Option ProofState) → AreSound database o → AreSound database (proof_after (with_depth n) o)
sets_undo_sound n = steps_sound (with_depth n) (depth_open n)

-- ## The calls of a history are these steps

last_of : (xs : List Proof) (q : Proof) → last_item (xs ++ q ∷ []) ≡ Some q
last_of xs q = slice_get-last xs q (length (xs ++ q ∷ []) - 1) (omega (arith, length-append xs (q ∷ [])))

others_of : (xs : List Proof) (q : Proof) → take (length (xs ++ q ∷ []) - 1) (xs ++ q ∷ []) ≡ xs
others_of xs q = take_at xs (q ∷ []) (length (xs ++ q ∷ []) - 1) (omega (arith, length-append xs (q ∷ [])))

-- a record of the open proof with these lists
abbrev open_by : ℕ → Proof → List Proof → List Proof → ℕ → ProofState
open_by theorem q past future depth = record { theorem = theorem; proof = q; past = past; future = future; depth = depth; changed = true }

open_same : (theorem : ℕ) (q : Proof) {past past' future future' : List Proof} {depth depth' : ℕ} → past ≡ past' → future ≡ future' → depth ≡ depth' → open_by theorem q past future depth ≡ open_by theorem q past' future' depth'
open_same theorem q x y z = λ i. open_by theorem q (x i) (y i) (z i)

pub undone_so : (theorem : ℕ) (t t' : trees.State) (h h' : Marks) (changed : Bool) → IsUndone true (lists_of t.versions h) (lists_of t'.versions h') t.proof t'.proof → seen_as theorem t' h' true ≡ after_undo (seen_as theorem t h changed)
undone_so theorem t t' h h' changed u =
    let p : ProofState = seen_as theorem t h changed in
    let past : List Proof = (lists_of t'.versions h').past in
    let last : last_item p.past ≡ Some t'.proof = ap (λ (l : List Proof). last_item l) u.0 ∙ last_of past t'.proof in
    let others : take (length p.past - 1) p.past ≡ past = ap (λ (l : List Proof). take (length l - 1) l) u.0 ∙ others_of past t'.proof in
    open_same theorem t'.proof (sym others) u.1 u.2 ∙ sym (ap (λ (o : Option Proof). undone_to o p) last)

pub not_undone : (p : ProofState) → p.past ≡ [] → after_undo p ≡ p
not_undone p e = ap (λ (l : List Proof). undone_to (last_item l) p) e

pub redone_so : (theorem : ℕ) (t t' : trees.State) (h h' : Marks) (changed : Bool) → IsRedone true (lists_of t.versions h) (lists_of t'.versions h') t.proof t'.proof → seen_as theorem t' h' true ≡ after_redo (seen_as theorem t h changed)
redone_so theorem t t' h h' changed u =
    let p : ProofState = seen_as theorem t h changed in
    let first : slice_get p.future 0 ≡ Some t'.proof = ap (λ (l : List Proof). slice_get l 0) u.0 in
    let others : drop 1 p.future ≡ (lists_of t'.versions h').future = ap (λ (l : List Proof). drop 1 l) u.0 in
    open_same theorem t'.proof u.1 (sym others) u.2 ∙ sym (ap (λ (o : Option Proof). redone_to o p) first)

pub not_redone : (p : ProofState) → p.future ≡ [] → after_redo p ≡ p
not_redone p e = ap (λ (l : List Proof). redone_to (slice_get l 0) p) e

-- ## What they come to

-- the last of a list is behind the others
split_last : (xs : List Proof) (q : Proof) → last_item xs ≡ Some q → xs ≡ take (length xs - 1) xs ++ q ∷ []
split_last xs q e =
    let k : ℕ = length xs - 1 in
    let within : k < length xs = slice_get_within xs k q e in
    sym (take_all (k + 1) xs (omega arith)) ∙ (take_at_read xs k q within).1 ∙ ap (λ (x : Proof). take k xs ++ x ∷ []) (get_or_from_slice_get xs k q q e)

split_first : (xs : List Proof) (q : Proof) → slice_get xs 0 ≡ Some q → xs ≡ q ∷ drop 1 xs
split_first [] q e = cc
split_first (x ∷ xs) q e = ap (λ (y : Proof). y ∷ xs) (let same : x ≡ q = cc in same)

pub undo_leads_back : (p : ProofState) (q : Proof) → last_item p.past ≡ Some q → IsUndone true (lists_in p) (lists_in (after_undo p)) p.proof (after_undo p).proof × ((after_undo p).proof ≡ q)
undo_leads_back p q e = subst (λ (o : Option Proof). IsUndone true (lists_in p) (lists_in (undone_to o p)) p.proof (undone_to o p).proof × ((undone_to o p).proof ≡ q)) (sym e) ((split_last p.past q e, refl, refl), refl)

pub redo_leads_forward : (p : ProofState) (q : Proof) → slice_get p.future 0 ≡ Some q → IsRedone true (lists_in p) (lists_in (after_redo p)) p.proof (after_redo p).proof × ((after_redo p).proof ≡ q)
redo_leads_forward p q e = subst (λ (o : Option Proof). IsRedone true (lists_in p) (lists_in (redone_to o p)) p.proof (redone_to o p).proof × ((redone_to o p).proof ≡ q)) (sym e) ((split_first p.future q e, refl, refl), refl)

pub depth_so : (theorem : ℕ) (t : trees.State) (h h' : Marks) (changed : Bool) (n : ℕ) → h' ≡ record { past = keep_last n h.past; future = []; depth = n } → seen_as theorem t h' changed ≡ with_depth n (seen_as theorem t h changed)
depth_so theorem t h h' changed n e = ap (λ (m : Marks). seen_as theorem t m changed) e ∙ (λ i. record { theorem = theorem; proof = t.proof; past = map-newest (named t.versions) n h.past i; future = []; depth = n; changed = changed })
