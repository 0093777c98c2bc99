-- Going back where an edit of several calls is refused.
use Rattle.std.proofs.Common.{◌≡◌, ℕ, ◌+◌, Bool, true, false, List, [], length, refl, sym, ◌∙◌, ap, subst, arith}
use Rattle.std.specs.Prelude.{Result, Ok, Err, MatchResult, OnErr}
use Rattle.std.proofs.lemmas.Bool.{true≢false, false≢true}
use Rattle.mm_plain.specs.Shape.{Proof}
use Rattle.mm_tree.specs.Trees.{State}
use Rattle.mm_tree.specs.Versions.{Versions, BeginsAlike, HasNoDrafts, IsAlive, IsKept, KeepsMarks, StandsAt, is_draft, named}
use Rattle.mm_tree.specs.declared.tree.Mark.{Mark}
use Rattle.mm_edit.specs.Edited.{IsDone, IsTried, KeepsSettled}
use Rattle.mm_edit.specs.Trying.{IsBack}
use Rattle.mm_edit.specs.declared.edit_fault.EditFault.{EditFault}

-- the mark of the version in hand
pub record IsTaken (s : State) (m : Mark) : Type 0 where
  pub alive : IsAlive s.versions m
  pub names : named s.versions m ≡ s.proof
  pub hand : StandsAt s.versions m.root m.length
  pub settled : HasNoDrafts s.versions → is_draft m ≡ false

-- what an edit left, where it was gone back on if it was refused
abbrev pub IsLeft : {A : Type 0} → Mark → Result A EditFault → State → State → Type 0
IsLeft m r tried now = MatchResult r (λ u. now ≡ tried) (λ f. IsBack m tried now)

pub done-by : (meaning : Result Proof EditFault) (m : Mark) (old tried now : State) (r : Result Unit EditFault) → IsTaken old m → KeepsMarks old.versions tried.versions → IsTried meaning r tried.proof
    → IsLeft m r tried now → IsDone meaning r old.proof now.proof
done-by meaning m old tried now (Ok u) t k h left = h ∙ ap (λ (s : State). let x : Result Proof EditFault = Ok s.proof in x) (sym left)
done-by meaning m old tried now (Err f) t k h left = (h, left.proof ∙ (k m t.alive).same ∙ t.names)

settled-draft : (m : Mark) → is_draft m ≡ false → {A : Type 0} → is_draft m ≡ true → A
settled-draft m e f = absurd (false≢true (sym e ∙ f))

pub marks-by : {A : Type 0} (m : Mark) (old tried now : State) (r : Result A EditFault) → KeepsMarks old.versions tried.versions → IsLeft m r tried now → KeepsSettled old.versions now.versions
marks-by m old tried now (Ok u) k left n s a = let e : tried.versions ≡ now.versions = ap (λ (x : State). x.versions) (sym left) in kept-along old.versions tried.versions now.versions n e (k n a)
  where
    kept-along : (v w x : Versions) (n : Mark) → w ≡ x → IsKept v w n → IsKept v x n
    kept-along v w x n e h = subst (λ (y : Versions). IsKept v y n) e h
marks-by m old tried now (Err f) k left n s a =
    let first = k n a in
    let second = left.marks n (λ d. settled-draft n s d) first.alive in
    record { alive = second.alive; same = second.same ∙ first.same }

no-drafts : (v : Versions) → HasNoDrafts v → (length v.draft_roots ≡ 0) × (length v.draft_bindings ≡ 0)
no-drafts v h = (ap length h.no_roots, ap length h.no_bindings)

pub begun-by : {A : Type 0} (m : Mark) (old tried now : State) (r : Result A EditFault) → IsTaken old m → BeginsAlike old.versions tried.versions → IsLeft m r tried now → HasNoDrafts old.versions → BeginsAlike old.versions now.versions
begun-by m old tried now (Ok u) t b left none = subst (λ (s : State). BeginsAlike old.versions s.versions) (sym left) b
begun-by m old tried now (Err f) t b left none =
    let still = left.settled (t.settled none) in
    let x = no-drafts old.versions none in
    let y = no-drafts now.versions still in
    let there = t.hand in
    let here = left.hand in
    (omega (arith, x.0, y.0, there.0, here.0), omega (arith, x.1, y.1, there.1, here.1))

pub drafts-by : {A : Type 0} (m : Mark) (old tried now : State) (r : Result A EditFault) → IsTaken old m → IsLeft m r tried now → HasNoDrafts old.versions → OnErr r (HasNoDrafts now.versions)
drafts-by m old tried now (Ok u) t left none = tt
drafts-by m old tried now (Err f) t left none = left.settled (t.settled none)

pub tried-along : (other meaning : Result Proof EditFault) (r s : Result Unit EditFault) (now : Proof) → meaning ≡ other → s ≡ r → IsTried other r now → IsTried meaning s now
tried-along other meaning r s now e f h =
    subst (λ (x : Result Unit EditFault). IsTried meaning x now) (sym f) (subst (λ (m : Result Proof EditFault). IsTried m r now) (sym e) h)
