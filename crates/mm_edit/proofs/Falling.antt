-- Each only unifier that is applied leaves fewer steps pending; after UNIFY ALL no pending step has one.
use Rattle.std.proofs.Common.{zero, suc, ◌≡◌, ℕ, ◌+◌, ◌≤◌, ◌<◌, Bool, true, false, List, [], ◌∷◌, map, length, count_by, is_none, Option, None, Some, refl, sym, ◌∙◌, ap, subst, arith, not, ◌&&◌, if◌then◌else◌, inl, inr, ◌⊎◌}
use Rattle.std.specs.Prelude.{Result, Ok, Err}
use Rattle.std.specs.Option.{option_map}
use Rattle.std.specs.List.{All, AllByRecursion as ByRecursion}
use Rattle.std.specs.Cmp.Lexicographic.{pointwise}
use Rattle.std.proofs.lemmas.Bool.{true≢false, false≢true}
use Rattle.std.proofs.lemmas.List.Elements.{recursion_from_All}
use Rattle.std.proofs.lemmas.List.Sums.{sum_by-cons}
use Rattle.std.proofs.lemmas.Option.{none-some}
use Rattle.mm_base.specs.Refusals.{unless, given}
use Rattle.mm_base.proofs.Refusing.{unless-ok, unless-end, given-ok}
use Rattle.mm_subst.specs.declared.symbol.WSym.{WSym}
use Rattle.mm_subst.specs.Substitutions.{Pairs, applied}
use Rattle.mm_subst.specs.Symbols.{is_same}
use Rattle.mm_subst.proofs.Keys.{is_same-true, is_same-itself}
use Rattle.mm_unify.specs.declared.listing.Settings.{Settings}
use Rattle.mm_unify.specs.Forbidden.{forbidden}
use Rattle.mm_unify.proofs.Theorems.{answer_sound}
use Rattle.mm_plain.specs.declared.plain.Plain.{Plain}
use Rattle.mm_plain.specs.Binding.{bound, bound_in, HasWorkKeys}
use Rattle.mm_plain.specs.Shape.{Proof, steps_of, target_of}
use Rattle.mm_plain.specs.Sources.{source_of, differs_from, is_pending}
use Rattle.mm_plain.proofs.Binding.{target_of-bound, steps_of-bound}
use Rattle.mm_plain.proofs.Works.{source_of-bound}
use Rattle.mm_edit.specs.Applying.{applying}
use Rattle.mm_edit.specs.Counts.{pending_count}
use Rattle.mm_edit.specs.Keeping.{IsProofOf}
use Rattle.mm_edit.specs.Listed.{listed, listed_with, listed_at, only_unifier}
use Rattle.mm_edit.specs.Unifying.{unifier_in, unifier_at, or_next, first_unifier, going_on, unified_in, all_unified}
use Rattle.mm_edit.specs.declared.edit_fault.EditFault.{EditFault}
use Rattle.mm_edit.proofs.Applied.{applying-ok, only-among, kept-applying}
use Rattle.mm_edit.proofs.Unifying.{IsUnifierAt, at-step, binding-first}

same-itself : (s : List WSym) → pointwise is_same s s ≡ true
same-itself [] = refl
same-itself (x ∷ s) = ap (λ b. b && pointwise is_same s s) (is_same-itself x) ∙ same-itself s

both-true : (a b : Bool) → (a && b) ≡ true → (a ≡ true) × (b ≡ true)
both-true true b h = (refl, h)
both-true false b h = absurd (false≢true h)

pub same-string : (s t : List WSym) → pointwise is_same s t ≡ true → s ≡ t
same-string [] [] h = refl
same-string [] (y ∷ t) h = absurd (false≢true h)
same-string (x ∷ s) [] h = absurd (false≢true h)
same-string (x ∷ s) (y ∷ t) h =
    let w = both-true (is_same x y) (pointwise is_same s t) h in
    ap (λ z. z ∷ s) (is_same-true x y w.0) ∙ ap (λ z. y ∷ z) (same-string s t w.1)

-- the strings of a step under theta

differs-none : (s t : List WSym) → t ≡ s → differs_from (Some s) t ≡ false
differs-none s t e = subst (λ u. differs_from (Some u) t ≡ false) e (ap not (same-itself t))

not-false : (b : Bool) → not b ≡ false → b ≡ true
not-false true h = refl
not-false false h = absurd (true≢false h)

differs-under : (theta : Pairs) (o : Option (List WSym)) (t : List WSym) → differs_from o t ≡ false → differs_from (option_map (applied theta) o) (applied theta t) ≡ false
differs-under theta None t h = refl
differs-under theta (Some s) t h = differs-none (applied theta s) (applied theta t) (ap (applied theta) (same-string t s (not-false _ h)))

pending-bound : (bytes : List ℕ) (theta : Pairs) (y : Plain) → HasWorkKeys theta → is_pending bytes (bound theta y) ≡ differs_from (option_map (applied theta) (source_of bytes y)) (applied theta (target_of y))
unfolding is_pending
pending-bound bytes theta y h = ap (λ o. differs_from o (target_of (bound theta y))) (source_of-bound bytes theta h y) ∙ ap (differs_from (option_map (applied theta) (source_of bytes y))) (target_of-bound theta y)

-- a step that is not pending stays so
settled-bound : (bytes : List ℕ) (theta : Pairs) (y : Plain) → HasWorkKeys theta → is_pending bytes y ≡ false → is_pending bytes (bound theta y) ≡ false
unfolding is_pending
settled-bound bytes theta y h e = pending-bound bytes theta y h ∙ differs-under theta (source_of bytes y) (target_of y) e

equal-only : (bytes : List ℕ) (set : Settings) (a b : List WSym) (u : Pairs) → only_unifier (listed bytes set a b) ≡ Ok u → applied u a ≡ applied u b
equal-only bytes set a b u e =
    only-among (λ w. applied w a ≡ applied w b) (listed bytes set a b).ended (listed bytes set a b).found u
    (recursion_from_All _ _ (answer_sound (forbidden bytes set.rule) (Some set.trials) a b)) e

-- and the step whose unifier is applied becomes so
unified-bound : (bytes : List ℕ) (set : Settings) (u : Pairs) (y : Plain) → HasWorkKeys u → IsUnifierAt bytes set y u → is_pending bytes (bound u y) ≡ false
unified-bound bytes set u y h w = pending-bound bytes u y h ∙ go (source_of bytes y) w.only
  where
    go : (o : Option (List WSym)) → only_unifier (listed_with bytes set (target_of y) o) ≡ Ok u → differs_from (option_map (applied u) o) (applied u (target_of y)) ≡ false
    go None e = refl
    go (Some s) e = differs-none (applied u s) (applied u (target_of y)) (equal-only bytes set (target_of y) s u e)

-- how many are pending

count-more : {A : Type 0} (p : A → Bool) (x : A) (xs : List A) → count_by p (x ∷ xs) ≡ (if p x then 1 else 0) + count_by p xs
count-more p x xs = sum_by-cons (λ y. if p y then 1 else 0) x xs

count-no-more : (bytes : List ℕ) (u : Pairs) → HasWorkKeys u → (ys : List Plain) → count_by (is_pending bytes) (map (bound u) ys) ≤ count_by (is_pending bytes) ys
count-no-more bytes u h [] = omega arith
count-no-more bytes u h (y ∷ ys) = go (is_pending bytes y) (is_pending bytes (bound u y)) (settled-bound bytes u y h) (count-more (is_pending bytes) (bound u y) (map (bound u) ys)) (count-more (is_pending bytes) y ys) (count-no-more bytes u h ys)
  where
    go : {m n k l : ℕ} (b c : Bool) → (b ≡ false → c ≡ false) → m ≡ (if c then 1 else 0) + k → n ≡ (if b then 1 else 0) + l → k ≤ l → m ≤ n
    go true true f d e i = omega arith
    go true false f d e i = omega arith
    go false true f d e i = absurd (true≢false (f refl))
    go false false f d e i = omega arith

count-less : (bytes : List ℕ) (set : Settings) (u : Pairs) → HasWorkKeys u → (ys : List Plain) → first_unifier bytes set ys ≡ Some u
    → count_by (is_pending bytes) (map (bound u) ys) < count_by (is_pending bytes) ys
count-less bytes set u h [] e = absurd (none-some u e)
count-less bytes set u h (y ∷ ys) e =
    go (unifier_at bytes set y) refl e (count-less bytes set u h ys)
  where
    now : IsUnifierAt bytes set y u → count_by (is_pending bytes) (map (bound u) (y ∷ ys)) < count_by (is_pending bytes) (y ∷ ys)
    now w =
        let a = count-more (is_pending bytes) (bound u y) (map (bound u) ys) ∙ ap (λ b. (if b then 1 else 0) + count_by (is_pending bytes) (map (bound u) ys)) (unified-bound bytes set u y h w) in
        let b = count-more (is_pending bytes) y ys ∙ ap (λ c. (if c then 1 else 0) + count_by (is_pending bytes) ys) w.pending in
        let c = count-no-more bytes u h ys in
        omega arith

    after : count_by (is_pending bytes) (map (bound u) ys) < count_by (is_pending bytes) ys → count_by (is_pending bytes) (map (bound u) (y ∷ ys)) < count_by (is_pending bytes) (y ∷ ys)
    after c = step (is_pending bytes y) (is_pending bytes (bound u y)) (settled-bound bytes u y h) (count-more (is_pending bytes) (bound u y) (map (bound u) ys)) (count-more (is_pending bytes) y ys) c
      where
        step : {m n k l : ℕ} (b c : Bool) → (b ≡ false → c ≡ false) → m ≡ (if c then 1 else 0) + k → n ≡ (if b then 1 else 0) + l → k < l → m < n
        step true true f d e i = omega arith
        step true false f d e i = omega arith
        step false true f d e i = absurd (true≢false (f refl))
        step false false f d e i = omega arith

    go : (o : Option Pairs) → unifier_at bytes set y ≡ o → or_next o (first_unifier bytes set ys) ≡ Some u
        → (first_unifier bytes set ys ≡ Some u → count_by (is_pending bytes) (map (bound u) ys) < count_by (is_pending bytes) ys)
        → count_by (is_pending bytes) (map (bound u) (y ∷ ys)) < count_by (is_pending bytes) (y ∷ ys)
    go (Some w) f e later = now (at-step bytes set y u (f ∙ e))
    go None f e later = after (later e)

pub fewer-pending : (bytes : List ℕ) (set : Settings) (u : Pairs) (x : Plain) → HasWorkKeys u → first_unifier bytes set (steps_of x) ≡ Some u → pending_count bytes (bound u x) < pending_count bytes x
unfolding pending_count
fewer-pending bytes set u x h e = subst (λ ys. count_by (is_pending bytes) ys < count_by (is_pending bytes) (steps_of x)) (sym (steps_of-bound u x)) (count-less bytes set u h (steps_of x) e)

-- where no step is pending, none has an only unifier

none-first : (bytes : List ℕ) (set : Settings) (ys : List Plain) → count_by (is_pending bytes) ys ≡ 0 → first_unifier bytes set ys ≡ None
none-first bytes set [] e = refl
none-first bytes set (y ∷ ys) e = go (is_pending bytes y) refl (count-more (is_pending bytes) y ys) (none-first bytes set ys)
  where
    go : (b : Bool) → is_pending bytes y ≡ b → count_by (is_pending bytes) (y ∷ ys) ≡ (if is_pending bytes y then 1 else 0) + count_by (is_pending bytes) ys
        → (count_by (is_pending bytes) ys ≡ 0 → first_unifier bytes set ys ≡ None) → first_unifier bytes set (y ∷ ys) ≡ None
    go true f c later = let d : count_by (is_pending bytes) (y ∷ ys) ≡ 1 + count_by (is_pending bytes) ys = c ∙ ap (λ b. (if b then 1 else 0) + count_by (is_pending bytes) ys) f in absurd (omega arith)
    go false f c later =
        let d : count_by (is_pending bytes) (y ∷ ys) ≡ 0 + count_by (is_pending bytes) ys = c ∙ ap (λ b. (if b then 1 else 0) + count_by (is_pending bytes) ys) f in
        let z : count_by (is_pending bytes) ys ≡ 0 = omega arith in
        ap (λ b. or_next (if b then unifier_in (only_unifier (listed_at bytes set y)) else None) (first_unifier bytes set ys)) f ∙ later z

-- no unifier is left
pub none-left : (n : ℕ) (bytes : List ℕ) (at : ℕ) (set : Settings) (goal : List WSym) (p q : Proof) → IsProofOf bytes at goal p → pending_count bytes p.plain ≤ n → unified_in n bytes set p ≡ Ok q → first_unifier bytes set (steps_of q.plain) ≡ None
unfolding unified_in pending_count
none-left zero bytes at set goal p q v few h =
    let z : p ≡ q = cc in
    subst (λ (r : Proof). first_unifier bytes set (steps_of r.plain) ≡ None) z (none-first bytes set (steps_of p.plain) (omega arith))
none-left (suc n) bytes at set goal p q v few h = go (first_unifier bytes set (steps_of p.plain)) refl h (λ r. none-left n bytes at set goal r q)
  where
    go : (o : Option Pairs) → first_unifier bytes set (steps_of p.plain) ≡ o → going_on o p (λ theta. given (applying bytes theta p) (unified_in n bytes set)) ≡ Ok q
        → ((r : Proof) → IsProofOf bytes at goal r → pending_count bytes r.plain ≤ n → unified_in n bytes set r ≡ Ok q → first_unifier bytes set (steps_of q.plain) ≡ None)
        → first_unifier bytes set (steps_of q.plain) ≡ None
    go None e h later = let z : p ≡ q = cc in subst (λ (r : Proof). first_unifier bytes set (steps_of r.plain) ≡ None) z e
    go (Some u) e h later =
        let g = given-ok (applying bytes u p) (unified_in n bytes set) q h in
        let b = binding-first bytes at set goal p u v.valid e in
        let w = kept-applying bytes at goal u p g.0 v b g.1 in
        let z : bound_in u p ≡ g.0 = (applying-ok bytes u p g.0 g.1).1 in
        let less = fewer-pending bytes set u p.plain b.keys e in
        let fewer : pending_count bytes g.0.plain ≤ n = subst (λ (r : Proof). pending_count bytes r.plain ≤ n) z (omega arith) in
        later g.0 (record { valid = w.valid; fixed = v.fixed }) fewer g.2

pub none-left-all : (bytes : List ℕ) (at : ℕ) (set : Settings) (goal : List WSym) (p q : Proof) → IsProofOf bytes at goal p → all_unified bytes set p ≡ Ok q → first_unifier bytes set (steps_of q.plain) ≡ None
unfolding all_unified
none-left-all bytes at set goal p q v h =
    let a = unless-ok _ _ _ _ q h in
    none-left (pending_count bytes p.plain) bytes at set goal p q v (omega arith) (sym (unless-end _) ∙ a.1)
