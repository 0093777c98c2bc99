-- An accepted IMPROVE keeps a proof valid.
use Rattle.std.proofs.Common.{◌≡◌, ℕ, zero, suc, ◌+◌, ◌-◌, ◌≤◌, ◌<◌, Bool, true, false, not, ◌&&◌, List, [], ◌∷◌, Option, None, Some, if◌then◌else◌, refl, sym, ◌∙◌, ap, subst, arith}
use Rattle.std.specs.Prelude.{Result, Ok, Err, is_none}
use Rattle.std.specs.List.{AllByRecursion as ByRecursion, range_with_len}
use Rattle.mm_base.specs.Refusals.{unless, given, found_or}
use Rattle.mm_base.proofs.Refusing.{unless-ok, unless-end, given-ok}
use Rattle.mm_subst.specs.declared.symbol.WSym.{WSym}
use Rattle.mm_plain.specs.declared.plain.Plain.{Plain}
use Rattle.mm_subst.specs.declared.symbol.WSym.TheVariants.{Const, Var, Work}
use Rattle.mm_subst.specs.Symbols.{has_work, is_work}
use Rattle.mm_plain.specs.Grafts.{IsBelow, grafted_in}
use Rattle.mm_plain.specs.Sources.{label_of}
use Rattle.mm_plain.proofs.Equations.{size_of-pos}
use Rattle.mm_plain.proofs.Read.{unlabelled-one}
use Rattle.mm_plain.proofs.Sizes.{size-put}
use Rattle.mm_plain.proofs.Works.{neither}
use Rattle.std.proofs.lemmas.Bool.{true≢false}
use Rattle.std.proofs.lemmas.List.Elements.{All-from_recursion}
use Rattle.mm_plain.specs.Shape.{Proof, put, size_of, step_at, target_of}
use Rattle.mm_plain.specs.Valid.{IsString, IsValid, setting_of, first_setting}
use Rattle.mm_plain.proofs.Grafts.{valid-grafted}
use Rattle.mm_plain.proofs.Moved.{sound-below, moved-string}
use Rattle.mm_improve.specs.Proofs.{IsProofFor}
use Rattle.mm_edit.specs.Improving.{ProofMap, MapsToProofs, all_filled, all_improved, filled_at, filled_by, filled_in_turn, filled_with, improved, is_goal, number_after, proof_for}
use Rattle.mm_edit.specs.Keeping.{IsKept, IsProofOf}
use Rattle.mm_edit.specs.declared.edit_fault.EditFault.{EditFault}
use Rattle.mm_edit.proofs.Applied.{stands-there, target-string}
use Rattle.mm_edit.proofs.Assigning.{not-above}

-- a tree is put in the place of a step
pub kept-with : (bytes : List ℕ) (at : ℕ) (goal : List WSym) (p q : Proof) (k : ℕ) (x : Plain) → IsValid bytes at goal p → 1 ≤ k → k ≤ size_of p.plain
    → IsProofFor bytes at (target_of (step_at p.plain k)) x → filled_with p k x ≡ Ok q → IsKept bytes at goal p q
kept-with bytes at goal p q k x v low high is h =
    let a = unless-ok _ _ _ _ q h in
    let b = unless-ok _ _ _ _ q a.1 in
    let c = unless-ok _ _ _ _ q b.1 in
    let d = unless-ok _ _ _ _ q c.1 in
    let part : Proof = record { plain = x; next = 1 } in
    let e : Ok (grafted_in p k x) ≡ Ok q = sym (unless-end _) ∙ d.1 in
    let z : grafted_in p k x ≡ q = cc in
    let alone : IsValid bytes at (target_of (step_at p.plain k)) part = record {
      goal_is = is.goal_is;
      steps = is.sound;
      counter = (omega arith, omega arith);
      few = not-above _ _ a.0;
      low = not-above _ _ b.0;
    } in
    subst (IsKept bytes at goal p) z (record {
      valid = valid-grafted bytes at goal p part k v low high alone (sound-below (first_setting bytes at) p.next v.counter.0 x is.sound) (not-above _ _ c.0) (not-above _ _ d.0);
      drawn = omega arith;
    })

-- a string without work variables is one before any is drawn

below-one : (x : WSym) → is_work x ≡ false → IsBelow 1 x
below-one (Const n) e = tt
below-one (Var n) e = tt
below-one (Work n) e = absurd (true≢false e)

all-below-one : (s : List WSym) → has_work s ≡ false → ByRecursion (IsBelow 1) s
all-below-one [] e = tt
all-below-one (x ∷ xs) e = let w = neither (is_work x) (has_work xs) e in (below-one x w.0, all-below-one xs w.1)

pub fixed-string : (bytes : List ℕ) (at : ℕ) (p : Proof) (s : List WSym) → IsString (setting_of bytes at p) s → has_work s ≡ false → IsString (first_setting bytes at) s
fixed-string bytes at p s h e = moved-string (setting_of bytes at p) 1 s h (All-from_recursion _ s (all-below-one s e))

pub target-fixed : (bytes : List ℕ) (at : ℕ) (goal : List WSym) (p : Proof) (k : ℕ) → IsValid bytes at goal p → 1 ≤ k → k ≤ size_of p.plain → has_work (target_of (step_at p.plain k)) ≡ false
    → IsString (first_setting bytes at) (target_of (step_at p.plain k))
target-fixed bytes at goal p k v low high e = fixed-string bytes at p (target_of (step_at p.plain k)) (target-string bytes at goal p k v low high) e

found : {A E : Type 0} (o : Option A) (e : E) (a : A) → found_or o e ≡ Ok a → o ≡ Some a
found (Some b) e a h = let z : b ≡ a = cc in ap Some z
found None e a h = cc

pub kept-improved : (bytes : List ℕ) (at : ℕ) (prove : ProofMap) (goal : List WSym) (p q : Proof) (k : ℕ) → MapsToProofs bytes at prove → IsProofOf bytes at goal p → improved prove p k ≡ Ok q → IsKept bytes at goal p q
unfolding improved
kept-improved bytes at prove goal p q k proves v h =
    let a = unless-ok _ _ _ _ q h in
    let b = unless-ok _ _ _ _ q a.1 in
    let c = unless-ok _ _ _ _ q b.1 in
    let there = stands-there p.plain k a.0 in
    let t = target_of (step_at p.plain k) in
    let w = given-ok _ _ q (sym (unless-end _) ∙ c.1) in
    let fixed = target-fixed bytes at goal p k v.valid there.0 there.1 c.0 in
    kept-with bytes at goal p q k w.0 v.valid there.0 there.1 (proves t w.0 fixed (found (prove t) _ w.0 w.1)) w.2

-- ## All steps

-- what a step needs to get a proof
pub record Gets (prove : ProofMap) (y x : Plain) : Type 0 where
  pub unknown : label_of y ≡ None
  pub fixed : has_work (target_of y) ≡ false
  pub proof : prove (target_of y) ≡ Some x

pub gets : (prove : ProofMap) (y x : Plain) → proof_for prove y ≡ Some x → Gets prove y x
gets prove y x = go (label_of y) refl (has_work (target_of y)) refl
  where
    go : (l : Option ℕ) → label_of y ≡ l → (b : Bool) → has_work (target_of y) ≡ b → (if is_none l && not b then prove (target_of y) else None) ≡ Some x → Gets prove y x
    go None e false f h = record { unknown = e; fixed = f; proof = h }
    go None e true f h = cc
    go (Some n) e b f h = cc

-- a tree in the place of a step without children makes the whole no smaller
grown : (x new : Plain) (k : ℕ) → 1 ≤ k → k ≤ size_of x → label_of (step_at x k) ≡ None → size_of x ≤ size_of (put x k new)
grown x new k low high e = let some = size_of-pos new in omega (arith, size-put new x k low high, unlabelled-one (step_at x k) e)

pub with-is : (p q : Proof) (k : ℕ) (x : Plain) → filled_with p k x ≡ Ok q → q ≡ grafted_in p k x
with-is p q k x h =
    let a = unless-ok _ _ _ _ q h in
    let b = unless-ok _ _ _ _ q a.1 in
    let c = unless-ok _ _ _ _ q b.1 in
    let d = unless-ok _ _ _ _ q c.1 in
    let e : Ok (grafted_in p k x) ≡ Ok q = sym (unless-end _) ∙ d.1 in
    let z : grafted_in p k x ≡ q = cc in
    sym z

pub record Grows (bytes : List ℕ) (at : ℕ) (goal : List WSym) (p q : Proof) : Type 0 where
  pub kept : IsKept bytes at goal p q
  pub size : size_of p.plain ≤ size_of q.plain

pub grows-at : (bytes : List ℕ) (at : ℕ) (prove : ProofMap) (goal : List WSym) (p q : Proof) (k : ℕ) → MapsToProofs bytes at prove → IsValid bytes at goal p → 1 ≤ k → k ≤ size_of p.plain → filled_at prove p k ≡ Ok q → Grows bytes at goal p q
grows-at bytes at prove goal p q k proves v low high = go (proof_for prove (step_at p.plain k)) refl
  where
    go : (o : Option Plain) → proof_for prove (step_at p.plain k) ≡ o → filled_by o p k ≡ Ok q → Grows bytes at goal p q
    go None e h = let z : p ≡ q = cc in subst (Grows bytes at goal p) z (record { kept = record { valid = v; drawn = omega arith }; size = omega arith })
    go (Some x) e h =
        let w = gets prove (step_at p.plain k) x e in
        record {
          kept = kept-with bytes at goal p q k x v low high (proves _ x (target-fixed bytes at goal p k v low high w.fixed) w.proof) h;
          size = subst (λ r. size_of p.plain ≤ size_of r.plain) (sym (with-is p q k x h)) (grown p.plain x k low high w.unknown);
        }

in-turn : (bytes : List ℕ) (at : ℕ) (prove : ProofMap) (goal : List WSym) (x : Plain) (n k : ℕ) (p q : Proof) → MapsToProofs bytes at prove → IsValid bytes at goal p → 1 ≤ k → k + n ≤ size_of x + 1 → size_of x ≤ size_of p.plain
    → filled_in_turn prove x p (range_with_len k n) ≡ Ok q → IsKept bytes at goal p q
unfolding given
in-turn bytes at prove goal x zero k p q proves v low within more h = let z : p ≡ q = cc in subst (IsKept bytes at goal p) z (record { valid = v; drawn = omega arith })
in-turn bytes at prove goal x (suc n) k p q proves v low within more h =
    go (filled_at prove p (number_after x p.plain k)) refl h (λ r. in-turn bytes at prove goal x n (k + 1) r q proves)
  where
    go : (r : Result Proof EditFault) → filled_at prove p (number_after x p.plain k) ≡ r → given r (λ r'. filled_in_turn prove x r' (range_with_len (k + 1) n)) ≡ Ok q
        → ((r' : Proof) → IsValid bytes at goal r' → 1 ≤ k + 1 → k + 1 + n ≤ size_of x + 1 → size_of x ≤ size_of r'.plain → filled_in_turn prove x r' (range_with_len (k + 1) n) ≡ Ok q → IsKept bytes at goal r' q) → IsKept bytes at goal p q
    go (Err f) e h rest = cc
    go (Ok r) e h rest =
        let w = grows-at bytes at prove goal p r (number_after x p.plain k) proves v (omega arith) (omega (arith, within)) e in
        let end = rest r w.kept.valid (omega arith) (omega (arith, within)) (let size = w.size in omega arith) h in
        record { valid = end.valid; drawn = let a = w.kept.drawn in let b = end.drawn in omega arith }

pub kept-all_filled : (bytes : List ℕ) (at : ℕ) (prove : ProofMap) (goal : List WSym) (p q : Proof) → MapsToProofs bytes at prove → IsProofOf bytes at goal p → all_filled prove p ≡ Ok q → IsKept bytes at goal p q
unfolding all_filled
kept-all_filled bytes at prove goal p q proves v h = in-turn bytes at prove goal p.plain (size_of p.plain) 1 p q proves v.valid (omega arith) (omega arith) (omega arith) h

pub kept-all_improved : (bytes : List ℕ) (at : ℕ) (prove : ProofMap) (goal : List WSym) (p q : Proof) → MapsToProofs bytes at prove → IsProofOf bytes at goal p → all_improved prove p ≡ Ok q → IsKept bytes at goal p q
unfolding all_improved
kept-all_improved bytes at prove goal p q proves v h =
    let a = unless-ok _ _ _ _ q h in
    kept-all_filled bytes at prove goal p q proves v (sym (unless-end _) ∙ a.1)
