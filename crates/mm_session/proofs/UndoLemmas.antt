-- What UNDO and REDO come to in a session.
use Rattle.std.proofs.Common.{◌≡◌, ◌≤◌, ◌+◌, ◌-◌, ◌&&◌, not, ℕ, zero, suc, Bool, true, false, is_some, if◌then◌else◌, List, [], ◌∷◌, ◌++◌, length, get_or, Option, None, Some, refl, sym, ◌∙◌, ap, subst, arith, true≢false, length-append}
use Rattle.std.proofs.lemmas.List.{append_assoc, get_or-drop, get_or_append_left, get_or_default, length-drop}
use Rattle.std.proofs.lemmas.List.{get_or_at}
use Rattle.mm_plain.specs.Shape.{Proof}
use Rattle.mm_command.specs.Meanings.{Meaning, Undo, Redo, SetUndo}
use Rattle.mm_undo.specs.Undos.{Timeline, undone, redone}
use Rattle.mm_undo.proofs.Timelines.{none-undone, none-redone, undone-more, redone-more, left-undone, left-redone}
use Rattle.mm_shell.specs.OpenProofs.{ProofState, lists_in}
use Rattle.mm_shell.specs.declared.state.State.{State}
use Rattle.mm_step.specs.Asked.{Asked, TooLong, Wrong, Asks, asked_of}
use Rattle.mm_step.specs.Effects.{Effect, Outcome, Fine, Starved, Faulted, asked_effect, step_of}
use Rattle.mm_step.specs.Groups.{group_of}
use Rattle.mm_step.specs.Histories.{IsAppended, IsMoved, IsMovedIn, IsUntouched, StaysOpen}
use Rattle.mm_step.specs.Laws.{effect_on}
use Rattle.mm_step.specs.declared.group.Group.{Group}
use Rattle.mm_step.specs.declared.group.Group.TheVariants as group
use Rattle.mm_step.proofs.HistoryLemmas as history
use Rattle.mm_session.specs.Calls.{HasCause}
use Rattle.mm_session.specs.Session.{Script, Machine, Turn, session, turn, done, effect_of}
use Rattle.mm_session.specs.Undos.{InHand, timeline_in, StandsAt, IsCarriedOut, AreCarriedOut, is_edits, asks_edit, is_edit, edits_since, asks_history, StaysInHand, UndosAreAccepted, RedosAreAccepted, UndosLeadBack, RedosLeadForward, EditsAreUndone}
use Rattle.mm_session.proofs.RefusedLemmas.{refused_changes_nothing}
use Rattle.mm_session.proofs.SessionLemmas.{session_suc}

-- ## One command

-- the session after a command is what the command did
state_suc : (s : Script) (n : ℕ) → (session s (suc n)).state ≡ (done (turn s n)).state
state_suc s n = ap (λ (m : Machine). m.state) (session_suc s n)

-- what the command did, by what it asks
done_is : (t : Turn) (asked : Asked) → asked_of t.line ≡ asked → done t ≡ effect_on asked t.machine.state t.map t.outcome
unfolding step_of
done_is t asked e = ap (λ (x : Asked). effect_on x t.machine.state t.map t.outcome) e

in_hand_next : (s : Script) (n : ℕ) (m : Meaning) (q : ProofState) → asked_of (turn s n).line ≡ Asks m → (effect_on (Asks m) (turn s n).machine.state (turn s n).map (turn s n).outcome).state.open_proof ≡ Some q → InHand s (suc n) q
in_hand_next s n m q asked is = ap (λ (x : State). x.open_proof) (state_suc s n) ∙ ap (λ (e : Effect). e.state.open_proof) (done_is (turn s n) (Asks m) asked) ∙ is

accepted_is : (s : Script) (n : ℕ) (m : Meaning) → IsCarriedOut (turn s n) m → (effect_on (Asks m) (turn s n).machine.state (turn s n).map (turn s n).outcome).refused ≡ false
accepted_is s n m c = sym (ap (λ (e : Effect). e.refused) (done_is (turn s n) (Asks m) c.asked)) ∙ c.accepted

-- ## Steps back and forward

-- one more step, where a proof stands at some steps already
record Stood (s : Script) (n k many : ℕ) (t : Timeline) : Type 0 where
  few : k ≤ many
  stands : StandsAt s (n + k) t

undo_more : (s : Script) (n k : ℕ) (t : Timeline) → Stood s n k (length t.past) (undone k t) → IsCarriedOut (turn s (n + k)) Undo → Stood s n (suc k) (length t.past) (undone (suc k) t)
undo_more s n k t h c =
    let o : ProofState = h.stands.held in
    let u : turn s (n + k) ≡ turn s (n + k) = refl in
    let b : StaysOpen Undo o (effect_on (Asks Undo) (turn s (n + k)).machine.state (turn s (n + k)).map (turn s (n + k)).outcome) =
    history.undos_lead_back (turn s (n + k)).machine.state (turn s (n + k)).map (turn s (n + k)).outcome o h.stands.is (accepted_is s (n + k) Undo c) in
    let more : k + 1 ≤ length t.past = omega (arith, h.few, left-undone k t h.few, ap (λ (x : Timeline). length x.past) h.stands.timeline, ap length b.moved.0, length-append b.now.past (b.now.proof ∷ [])) in
    record {
      few = omega (arith, more);
      stands = record {
        held = b.now;
        is = subst (λ (i : ℕ). InHand s i b.now) (omega arith) (in_hand_next s (n + k) Undo b.now c.asked b.is);
        timeline = subst (λ (i : ℕ). timeline_in b.now ≡ undone i t) (omega arith) (undone-more k t o.proof b.now.proof (lists_in o) (lists_in b.now) more h.stands.timeline b.moved);
      };
    }

undos_stand : (s : Script) (n k : ℕ) (p : ProofState) → InHand s n p → AreCarriedOut s n k Undo → Stood s n k (length p.past) (undone k (timeline_in p))
undos_stand s n zero p here c = record { few = omega arith; stands = record { held = p; is = subst (λ (i : ℕ). InHand s i p) (omega arith) here; timeline = sym (none-undone p.proof (lists_in p)) } }
undos_stand s n (suc k) p here c = undo_more s n k (timeline_in p) (undos_stand s n k p here (λ i lt. c i (omega (arith, lt)))) (c k (omega arith))

pub undos_lead_back : UndosLeadBack
undos_lead_back s n k p here c = (undos_stand s n k p here c).stands

redo_more : (s : Script) (n k : ℕ) (t : Timeline) → Stood s n k (length t.future) (redone k t) → IsCarriedOut (turn s (n + k)) Redo → Stood s n (suc k) (length t.future) (redone (suc k) t)
redo_more s n k t h c =
    let o : ProofState = h.stands.held in
    let b : StaysOpen Redo o (effect_on (Asks Redo) (turn s (n + k)).machine.state (turn s (n + k)).map (turn s (n + k)).outcome) =
    history.redos_lead_forward (turn s (n + k)).machine.state (turn s (n + k)).map (turn s (n + k)).outcome o h.stands.is (accepted_is s (n + k) Redo c) in
    let more : k + 1 ≤ length t.future = omega (arith, h.few, left-redone k t h.few, ap (λ (x : Timeline). length x.future) h.stands.timeline, ap length b.moved.0) in
    record {
      few = omega (arith, more);
      stands = record {
        held = b.now;
        is = subst (λ (i : ℕ). InHand s i b.now) (omega arith) (in_hand_next s (n + k) Redo b.now c.asked b.is);
        timeline = subst (λ (i : ℕ). timeline_in b.now ≡ redone i t) (omega arith) (redone-more k t o.proof b.now.proof (lists_in o) (lists_in b.now) more h.stands.timeline b.moved);
      };
    }

redos_stand : (s : Script) (n k : ℕ) (p : ProofState) → InHand s n p → AreCarriedOut s n k Redo → Stood s n k (length p.future) (redone k (timeline_in p))
redos_stand s n zero p here c = record { few = omega arith; stands = record { held = p; is = subst (λ (i : ℕ). InHand s i p) (omega arith) here; timeline = sym (none-redone p.proof (lists_in p)) } }
redos_stand s n (suc k) p here c = redo_more s n k (timeline_in p) (redos_stand s n k p here (λ i lt. c i (omega (arith, lt)))) (c k (omega arith))

pub redos_lead_forward : RedosLeadForward
redos_lead_forward s n k p here c = (redos_stand s n k p here c).stands

-- ## They are accepted

-- what takes no memory and reaches no file ends as it should
ends_fine : (t : Turn) → HasCause t → (effect_of t).free ≡ true → (effect_of t).reaches_files ≡ false → t.outcome ≡ Fine
ends_fine t cause free apart = at t.outcome refl where
  at : (o : Outcome) → t.outcome ≡ o → t.outcome ≡ Fine
  at Fine e = e
  at Starved e = absurd (true≢false (sym free ∙ cause.memory e))
  at Faulted e = absurd (true≢false (sym (cause.files e) ∙ apart))

effect_is : (t : Turn) (asked : Asked) → asked_of t.line ≡ asked → effect_of t ≡ asked_effect asked t.machine.state t.map
unfolding step_of
effect_is t asked e = ap (λ (x : Asked). asked_effect x t.machine.state t.map) e

fine_accepted : (t : Turn) (m : Meaning) → HasCause t → asked_of t.line ≡ Asks m → (asked_effect (Asks m) t.machine.state t.map).free ≡ true → (asked_effect (Asks m) t.machine.state t.map).reaches_files ≡ false
    → (effect_on (Asks m) t.machine.state t.map Fine).refused ≡ false → (done t).refused ≡ false
fine_accepted t m cause asked free apart accepted =
    let e = effect_is t (Asks m) asked in
    let fine : t.outcome ≡ Fine = ends_fine t cause (ap (λ (x : Effect). x.free) e ∙ free) (ap (λ (x : Effect). x.reaches_files) e ∙ apart) in
    ap (λ (x : Effect). x.refused) (done_is t (Asks m) asked) ∙ ap (λ (o : Outcome). (effect_on (Asks m) t.machine.state t.map o).refused) fine ∙ accepted

pub undos_are_accepted : UndosAreAccepted
undos_are_accepted s n p cause here some asked =
    let t : Turn = turn s n in
    let free = history.undos_are_free t.machine.state t.map in
    fine_accepted t Undo cause asked free.0 free.1 (history.undos_are_accepted t.machine.state t.map p here some).accepted

pub redos_are_accepted : RedosAreAccepted
redos_are_accepted s n p cause here some asked =
    let t : Turn = turn s n in
    let free = history.redos_are_free t.machine.state t.map in
    fine_accepted t Redo cause asked free.0 free.1 (history.redos_are_accepted t.machine.state t.map p here some).accepted

-- ## Edits

-- a command that is no UNDO, REDO or SET UNDO moves the history as its group does
moved_in : (m : Meaning) (p q : ProofState) → asks_history (Asks m) ≡ false → IsMoved m p q → IsMovedIn (group_of m) p q
moved_in Undo p q e h = absurd (true≢false e)
moved_in Redo p q e h = absurd (true≢false e)
moved_in (SetUndo n) p q e h = absurd (true≢false e)
moved_in m p q e h = h

-- one edit, or none
abbrev Advances : Bool → ProofState → ProofState → Type 0
Advances true p q = IsAppended p q
Advances false p q = IsUntouched p q

group_advances : (g : Group) (p q : ProofState) → IsMovedIn g p q → Advances (is_edits g) p q
group_advances group.Edits p q h = h
group_advances group.Database p q h = h
group_advances group.Settings p q h = h
group_advances group.Session p q h = h

same_open : (o : Option ProofState) (p q : ProofState) → o ≡ Some p → o ≡ Some q → p ≡ q
same_open None p q e f = cc
same_open (Some x) p q e f = cc

untouched : (p q : ProofState) → p ≡ q → IsUntouched p q
untouched p q e = record { proof = ap (λ (x : ProofState). x.proof) (sym e); lists = ap (λ (x : ProofState). lists_in x) (sym e) }

and_false : (b : Bool) → (b && false) ≡ false
and_false true = refl
and_false false = refl

and_true : (b : Bool) → (b && true) ≡ b
and_true true = refl
and_true false = refl

-- what a command makes of the proof in hand, by whether it is an edit that is accepted
advances : (s : Script) (n : ℕ) (p q : ProofState) → InHand s n p → InHand s (suc n) q → asks_history (asked_of (turn s n).line) ≡ false → Advances (is_edit (turn s n)) p q
advances s n p q here next plain = at (done (turn s n)).refused refl where
  t : Turn
  t = turn s n

  by : (asked : Asked) → asked_of t.line ≡ asked → (done t).refused ≡ false → Advances (asks_edit asked) p q
  by TooLong e fine = absurd (true≢false (refuses t.outcome (ap (λ (x : Effect). x.refused) (sym (done_is t TooLong e)) ∙ fine))) where
    refuses : (o : Outcome) → (effect_on TooLong t.machine.state t.map o).refused ≡ false → true ≡ false
    refuses Fine h = h
    refuses Starved h = h
    refuses Faulted h = h
  by (Wrong fault) e fine = absurd (true≢false (refuses t.outcome (ap (λ (x : Effect). x.refused) (sym (done_is t (Wrong fault) e)) ∙ fine))) where
    refuses : (o : Outcome) → (effect_on (Wrong fault) t.machine.state t.map o).refused ≡ false → true ≡ false
    refuses Fine h = h
    refuses Starved h = h
    refuses Faulted h = h
  by (Asks m) e fine =
      let d = done_is t (Asks m) e in
      group_advances (group_of m) p q (moved_in m p q (sym (ap asks_history e) ∙ plain)
      (history.histories_move m t.machine.state t.map t.outcome p q here (sym (ap (λ (x : Effect). x.refused) d) ∙ fine)
      (sym (ap (λ (x : Effect). x.state.open_proof) d) ∙ sym (ap (λ (x : State). x.open_proof) (state_suc s n)) ∙ next)))

  at : (b : Bool) → (done t).refused ≡ b → Advances (is_edit t) p q
  at true e = subst (λ (b : Bool). Advances b p q) (sym (ap (λ (b : Bool). asks_edit (asked_of t.line) && not b) e ∙ and_false (asks_edit (asked_of t.line))))
      (untouched p q (same_open (session s n).state.open_proof p q here (sym (ap (λ (x : State). x.open_proof) (refused_changes_nothing s n e).0) ∙ next)))
  at false e = subst (λ (b : Bool). Advances b p q) (sym (ap (λ (b : Bool). asks_edit (asked_of t.line) && not b) e ∙ and_true (asks_edit (asked_of t.line)))) (by (asked_of t.line) refl e)

-- the proof before the last k edits, the oldest first
abbrev before : ℕ → ProofState → Proof
before k q = get_or (q.past ++ q.proof ∷ []) (length q.past - k) q.proof

-- a proof is in hand whose k-th version before is this one
record Keeps (depth k : ℕ) (proof : Proof) (q : ProofState) : Type 0 where
  deep : q.depth ≡ depth
  many : k ≤ length q.past
  first : before k q ≡ proof

kept_none : (p : ProofState) → Keeps p.depth 0 p.proof p
kept_none p = record { deep = refl; many = omega arith; first = get_or_at p.past p.proof [] p.proof (length p.past - 0) (omega arith) }

kept_still : (depth k : ℕ) (proof : Proof) (p q : ProofState) → IsUntouched p q → Keeps depth k proof p → Keeps depth k proof q
kept_still depth k proof p q u h = record {
  deep = ap (λ l. l.depth) u.lists ∙ h.deep;
  many = subst (λ l. k ≤ length l) (sym (ap (λ l. l.past) u.lists)) h.many;
  first = (λ i. get_or ((u.lists i).past ++ u.proof i ∷ []) (length (u.lists i).past - k) (u.proof i)) ∙ h.first;
}

kept_more : (depth k : ℕ) (proof : Proof) (p q : ProofState) → suc k ≤ depth → IsAppended p q → Keeps depth k proof p → Keeps depth (suc k) proof q
kept_more depth k proof p q few a h =
    let all : List Proof = p.past ++ p.proof ∷ [] in
    let gone : ℕ = length all - p.depth in
    let long : length all ≡ length p.past + 1 = length-append p.past (p.proof ∷ []) in
    let left : length q.past ≡ length all - gone = ap length a.past ∙ length-drop gone all in
    let enough : suc k ≤ length q.past = omega (arith, few, long, left, h.deep, h.many) in
    let place : gone + (length q.past - suc k) ≡ length p.past - k = omega (arith, few, long, left, h.deep, h.many) in
    record {
      deep = a.depth ∙ h.deep;
      many = enough;
      first =
          get_or_append_left q.past (q.proof ∷ []) q.proof (length q.past - suc k) (omega (arith, enough))
          ∙ ap (λ l. get_or l (length q.past - suc k) q.proof) a.past
          ∙ get_or-drop gone all (length q.past - suc k) q.proof
          ∙ ap (λ (i : ℕ). get_or all i q.proof) place
          ∙ get_or_default all (length p.past - k) q.proof p.proof (omega (arith, long))
          ∙ h.first;
    }

kept_on : (depth k : ℕ) (proof : Proof) (edited : Bool) (p q : ProofState) → (if edited then suc k else k) ≤ depth → Advances edited p q → Keeps depth k proof p → Keeps depth (if edited then suc k else k) proof q
kept_on depth k proof true p q few a h = kept_more depth k proof p q few a h
kept_on depth k proof false p q few a h = kept_still depth k proof p q a h

record KeepsInHand (s : Script) (n depth k : ℕ) (proof : Proof) : Type 0 where
  held : ProofState
  is : InHand s n held
  keeps : Keeps depth k proof held

some_open : (o : Option ProofState) → is_some o ≡ true → (p : ProofState) × (o ≡ Some p)
some_open None e = absurd (true≢false (sym e))
some_open (Some p) e = (p, refl)

fewer : (edited : Bool) (k : ℕ) → k ≤ (if edited then suc k else k)
fewer true k = omega arith
fewer false k = omega arith

edits_keep : (s : Script) (n m : ℕ) (p : ProofState) → InHand s n p → StaysInHand s n m → edits_since s n m ≤ p.depth → KeepsInHand s (n + m) p.depth (edits_since s n m) p.proof
unfolding edits_since
edits_keep s n zero p here stays few = record { held = p; is = subst (λ (i : ℕ). InHand s i p) (omega arith) here; keeps = kept_none p }
edits_keep s n (suc m) p here stays few =
    let k : ℕ = edits_since s n m in
    let edited : Bool = is_edit (turn s (n + m)) in
    let before = edits_keep s n m p here (record { stays = λ i le. stays.stays i (omega (arith, le)); plain = λ i lt. stays.plain i (omega (arith, lt)) }) (omega (arith, few, fewer edited k)) in
    let next = some_open (session s (n + suc m)).state.open_proof (stays.stays (suc m) (omega arith)) in
    let place : n + suc m ≡ suc (n + m) = omega arith in
    record {
      held = next.0;
      is = next.1;
      keeps = kept_on p.depth k p.proof edited before.held next.0 few (advances s (n + m) before.held next.0 before.is (subst (λ (i : ℕ). InHand s i next.0) place next.1) (stays.plain m (omega arith))) before.keeps;
    }

-- the proof in hand so many steps back
undone_proof : (k : ℕ) (q : ProofState) → (undone k (timeline_in q)).proof ≡ before k q
undone_proof k q =
    ap (λ l. get_or l (length q.past - k) q.proof) (sym (append_assoc q.past (q.proof ∷ []) q.future))
    ∙ get_or_append_left (q.past ++ q.proof ∷ []) q.future q.proof (length q.past - k) (omega (arith, length-append q.past (q.proof ∷ [])))

pub edits_are_undone : EditsAreUndone
edits_are_undone s n m p here stays few c =
    let k : ℕ = edits_since s n m in
    let kept = edits_keep s n m p here stays few in
    let back = undos_lead_back s (n + m) k kept.held kept.is c in
    record { held = back.held; is = back.is; same = ap (λ (t : Timeline). t.proof) back.timeline ∙ undone_proof k kept.held ∙ kept.keeps.first }
