-- The visits of the steps of a proof that is loaded.
use Rattle.std.proofs.Common.{zero, suc, ◌≡◌, ℕ, ◌+◌, ◌-◌, ◌≤◌, ◌<◌, List, [], ◌∷◌, Option, None, Some, refl, sym, ◌∙◌, ap, subst, arith}
use Rattle.std.specs.Prelude.{Result, Ok, Err}
use Rattle.std.specs.List.{range_with_len}
use Rattle.mm_base.specs.Refusals.{given}
use Rattle.mm_subst.specs.declared.symbol.WSym.{WSym}
use Rattle.mm_subst.specs.Substitutions.{Pairs}
use Rattle.mm_unify.specs.declared.listing.Settings.{Settings}
use Rattle.mm_plain.specs.Shape.{Proof, size_of, step_at}
use Rattle.mm_plain.specs.Valid.{setting_of}
use Rattle.mm_plain.proofs.Binding.{size_of-bound}
use Rattle.mm_plain.proofs.Kept.{step-good}
use Rattle.mm_edit.specs.Applying.{applying}
use Rattle.mm_edit.specs.Keeping.{IsProofOf}
use Rattle.mm_edit.specs.Loading.{all_visited, visited, visited_at}
use Rattle.mm_edit.specs.Unifying.{going_on, unifier_at}
use Rattle.mm_edit.specs.declared.edit_fault.EditFault.{EditFault}
use Rattle.mm_edit.proofs.Applied.{applying-ok, kept-applying}
use Rattle.mm_edit.proofs.Unifying.{at-step, binding-good}

-- a visit keeps the proof valid, and its size

pub record Stays (bytes : List ℕ) (at : ℕ) (goal : List WSym) (p q : Proof) : Type 0 where
  pub proof : IsProofOf bytes at goal q
  pub size : size_of q.plain ≡ size_of p.plain

pub visit_stays : (bytes : List ℕ) (at : ℕ) (set : Settings) (goal : List WSym) (p q : Proof) (k : ℕ) → IsProofOf bytes at goal p → 1 ≤ k → k ≤ size_of p.plain → visited_at bytes set p k ≡ Ok q → Stays bytes at goal p q
visit_stays bytes at set goal p q k v first last h = go (unifier_at bytes set (step_at p.plain k)) refl h
  where
    go : (o : Option Pairs) → unifier_at bytes set (step_at p.plain k) ≡ o → going_on o p (λ theta. applying bytes theta p) ≡ Ok q → Stays bytes at goal p q
    go None e h = let z : p ≡ q = cc in subst (Stays bytes at goal p) z (record { proof = v; size = refl })
    go (Some u) e h =
        let w = at-step bytes set (step_at p.plain k) u e in
        let kept = kept-applying bytes at goal u p q v (binding-good bytes at set p (step_at p.plain k) None u (step-good (setting_of bytes at p) p.plain k first last v.valid.steps) w.pending w.only) h in
        record {
          proof = record { valid = kept.valid; fixed = v.fixed };
          size = ap (λ (r : Proof). size_of r.plain) (sym (applying-ok bytes u p q h).1) ∙ size_of-bound u p.plain;
        }

-- the steps that are left

pub visited-start : (bytes : List ℕ) (set : Settings) (p : Proof) (last step : ℕ) → step ≡ 1 → last ≡ size_of p.plain → visited bytes set p (range_with_len step (last + 1 - step)) ≡ all_visited bytes set p
visited-start bytes set p last step one is =
    let n : last + 1 - step ≡ size_of p.plain = omega arith in
    ap (λ (k : ℕ). visited bytes set p (range_with_len k (last + 1 - step))) one ∙ ap (λ (m : ℕ). visited bytes set p (range_with_len 1 m)) n

visited-so : (bytes : List ℕ) (set : Settings) (p : Proof) (k : ℕ) (ks : List ℕ) (r : Result Proof EditFault) → visited_at bytes set p k ≡ r → visited bytes set p (k ∷ ks) ≡ given r (λ q. visited bytes set q ks)
visited-so bytes set p k ks r e = ap (λ (x : Result Proof EditFault). given x (λ q. visited bytes set q ks)) e

pub visited-more : (bytes : List ℕ) (set : Settings) (p q : Proof) (last step : ℕ) → step ≤ last → visited_at bytes set p step ≡ Ok q
    → visited bytes set p (range_with_len step (last + 1 - step)) ≡ visited bytes set q (range_with_len (step + 1) (last + 1 - (step + 1)))
unfolding given
visited-more bytes set p q last step h e =
    let n : last + 1 - step ≡ suc (last + 1 - (step + 1)) = omega arith in
    ap (λ (m : ℕ). visited bytes set p (range_with_len step m)) n ∙ visited-so bytes set p step (range_with_len (step + 1) (last + 1 - (step + 1))) (Ok q) e

pub visited-err : (bytes : List ℕ) (set : Settings) (p : Proof) (f : EditFault) (last step : ℕ) → step ≤ last → visited_at bytes set p step ≡ Err f → visited bytes set p (range_with_len step (last + 1 - step)) ≡ Err f
unfolding given
visited-err bytes set p f last step h e =
    let n : last + 1 - step ≡ suc (last + 1 - (step + 1)) = omega arith in
    ap (λ (m : ℕ). visited bytes set p (range_with_len step m)) n ∙ visited-so bytes set p step (range_with_len (step + 1) (last + 1 - (step + 1))) (Err f) e

pub visited-end : (bytes : List ℕ) (set : Settings) (p : Proof) (last step : ℕ) → last < step → visited bytes set p (range_with_len step (last + 1 - step)) ≡ Ok p
visited-end bytes set p last step h =
    let n : last + 1 - step ≡ 0 = omega arith in
    ap (λ (m : ℕ). visited bytes set p (range_with_len step m)) n

-- all visits keep the proof valid

pub visits_stay : (bytes : List ℕ) (at : ℕ) (set : Settings) (goal : List WSym) (n k : ℕ) (p q : Proof) → IsProofOf bytes at goal p → 1 ≤ k → k + n ≤ size_of p.plain + 1 → visited bytes set p (range_with_len k n) ≡ Ok q → IsProofOf bytes at goal q
unfolding given
visits_stay bytes at set goal zero k p q v first last h = let same : p ≡ q = cc in subst (IsProofOf bytes at goal) same v
visits_stay bytes at set goal (suc n) k p q v first last h =
    go (visited_at bytes set p k) refl h (λ p'. visits_stay bytes at set goal n (k + 1) p' q)
  where
    go : (r : Result Proof EditFault) → visited_at bytes set p k ≡ r → given r (λ p'. visited bytes set p' (range_with_len (k + 1) n)) ≡ Ok q
        → ((p' : Proof) → IsProofOf bytes at goal p' → 1 ≤ k + 1 → k + 1 + n ≤ size_of p'.plain + 1 → visited bytes set p' (range_with_len (k + 1) n) ≡ Ok q → IsProofOf bytes at goal q) → IsProofOf bytes at goal q
    go (Err f) e h rest = cc
    go (Ok p') e h rest =
        let w = visit_stays bytes at set goal p p' k v first (omega (arith, last)) e in
        rest p' w.proof (omega arith) (omega (arith, last, w.size)) h

pub all_visits_stay : (bytes : List ℕ) (at : ℕ) (set : Settings) (goal : List WSym) (p q : Proof) → IsProofOf bytes at goal p → all_visited bytes set p ≡ Ok q → IsProofOf bytes at goal q
all_visits_stay bytes at set goal p q v h = visits_stay bytes at set goal (size_of p.plain) 1 p q v (omega arith) (omega arith) h
