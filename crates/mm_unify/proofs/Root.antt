-- The search from its first node, in the words of the theorem.
use Rattle.std.proofs.Common.{ℕ, ◌≡◌, List, [], ◌∷◌, ◌++◌, cond, eqb, ltb, refl, sym, ap, ◌∙◌, subst, inl, inr, ◌⊎◌}
use Rattle.std.specs.List.{AllByRecursion}
use Rattle.std.proofs.lemmas.Bool.{cond_both, eqb-true}
use Rattle.mm_subst.specs.declared.symbol.WSym.{WSym}
use Rattle.mm_subst.specs.declared.symbol.WSym.TheVariants.{Const, Var, Work}
use Rattle.mm_subst.specs.Substitutions.{Pairs, value_of}
use Rattle.mm_unify.specs.Unifying.{Unifies}
use Rattle.mm_unify.specs.Search.{explore, root, selves}
use Rattle.mm_unify.specs.Forbidden.{Forbidden}
use Rattle.mm_unify.specs.Variables.{numbers, with_number}
use Rattle.mm_unify.specs.declared.listing.Ended.TheVariants.{Whole}
use Rattle.mm_subst.proofs.Replaced.{applied-one}
use Rattle.mm_unify.proofs.Proper.{Good, good, value_plain}
use Rattle.mm_unify.proofs.Lists.{OneOf}
use Rattle.mm_unify.proofs.Cover.{Agrees, Covers, Alike, AlikeOn, Determined}
use Rattle.mm_unify.proofs.Explored.{Lists, explored}
use Rattle.mm_unify.proofs.Opened.{IsOff}

-- membership in the list of numbers
abbrev pub Has : ℕ → List ℕ → Type 0
Has n [] = ⊥
Has n (m ∷ ms) = (n ≡ m) ⊎ Has n ms

Has-with_own : (n : ℕ) (ms : List ℕ) → Has n (with_number n ms)
Has-with_own n [] = inl refl
Has-with_own n (m ∷ ms) =
    cond_both (ltb n m) (n ∷ m ∷ ms) (cond (eqb n m) (m ∷ ms) (m ∷ with_number n ms)) (Has n) (λ e. inl refl)
    (λ e. cond_both (eqb n m) (m ∷ ms) (m ∷ with_number n ms) (Has n) (λ f. inl (eqb-true n m f)) (λ f. inr (Has-with_own n ms)))

Has-with_other : (k n : ℕ) (ms : List ℕ) → Has k ms → Has k (with_number n ms)
Has-with_other k n [] h = absurd h
Has-with_other k n (m ∷ ms) h =
    cond_both (ltb n m) (n ∷ m ∷ ms) (cond (eqb n m) (m ∷ ms) (m ∷ with_number n ms)) (Has k) (λ e. inr h)
    (λ e. cond_both (eqb n m) (m ∷ ms) (m ∷ with_number n ms) (Has k) (λ f. h)
    (λ f. elim h [ inl i ↦ inl i | inr j ↦ inr (Has-with_other k n ms j) ]))

-- every work variable of the string is among its numbers
abbrev pub Numbered : List ℕ → List WSym → Type 0
Numbered ms s = AllByRecursion (λ c. (n : ℕ) → c ≡ Work n → Has n ms) s

numbered_more : (ms : List ℕ) (n : ℕ) (s : List WSym) → Numbered ms s → Numbered (with_number n ms) s
numbered_more ms n [] h = tt
numbered_more ms n (c ∷ s) h = ((λ k e. Has-with_other k n ms (h.0 k e)), numbered_more ms n s h.1)

pub numbered : (s : List WSym) → Numbered (numbers s) s
numbered [] = tt
numbered (Work n ∷ s) = ((λ k e. let f : n ≡ k = cc in subst (λ (i : ℕ). Has i (with_number n (numbers s))) f (Has-with_own n (numbers s))), numbered_more (numbers s) n s (numbered s))
numbered (Const n ∷ s) = ((λ k e. absurd cc), numbered s)
numbered (Var n ∷ s) = ((λ k e. absurd cc), numbered s)

pub numbered_left : (ms : List ℕ) (s t : List WSym) → Numbered ms (s ++ t) → Numbered ms s
numbered_left ms [] t h = tt
numbered_left ms (c ∷ s) t h = (h.0, numbered_left ms s t h.1)

pub numbered_right : (ms : List ℕ) (s t : List WSym) → Numbered ms (s ++ t) → Numbered ms t
numbered_right ms [] t h = h
numbered_right ms (c ∷ s) t h = numbered_right ms s t h.1

alike_at : (phi psi : Pairs) (ms : List ℕ) → AlikeOn phi psi (selves ms) → (n : ℕ) → Has n ms → value_of phi (Work n) ≡ value_of psi (Work n)
alike_at phi psi [] h n k = absurd k
alike_at phi psi (m ∷ ms) h n (inl e) = let f = ap Work e in let g = applied-one phi (Work m) in let i = applied-one psi (Work m) in let j = h.0 in cc
alike_at phi psi (m ∷ ms) h n (inr k) = alike_at phi psi ms h.1 n k

alike_symbol : (phi psi : Pairs) (ms : List ℕ) → Good phi → Good psi → AlikeOn phi psi (selves ms) → (c : WSym) → ((n : ℕ) → c ≡ Work n → Has n ms) → value_of phi c ≡ value_of psi c
alike_symbol phi psi ms g g' h (Work n) k = alike_at phi psi ms h n (k n refl)
alike_symbol phi psi ms g g' h (Const n) k = value_plain phi (Const n) g refl ∙ sym (value_plain psi (Const n) g' refl)
alike_symbol phi psi ms g g' h (Var n) k = value_plain phi (Var n) g refl ∙ sym (value_plain psi (Var n) g' refl)

alike_string : (phi psi : Pairs) (ms : List ℕ) → Good phi → Good psi → AlikeOn phi psi (selves ms) → (s : List WSym) → Numbered ms s → Alike phi psi s
alike_string phi psi ms g g' h [] k = tt
alike_string phi psi ms g g' h (c ∷ s) k = (alike_symbol phi psi ms g g' h c k.0, alike_string phi psi ms g g' h s k.1)

pub determined_root : (a b : List WSym) → Determined (root a b)
determined_root a b phi psi g g' h =
    let n = numbered (a ++ b) in
    (alike_string phi psi (numbers (a ++ b)) g g' h a (numbered_left (numbers (a ++ b)) a b n), alike_string phi psi (numbers (a ++ b)) g g' h b (numbered_right (numbers (a ++ b)) a b n))

agrees_selves : (theta : Pairs) (ms : List ℕ) → Agrees theta theta (selves ms)
agrees_selves theta [] = tt
agrees_selves theta (n ∷ ms) = (sym (applied-one theta (Work n)), agrees_selves theta ms)

pub covers_root : (theta : Pairs) (a b : List WSym) → Unifies theta a b → Covers theta (root a b)
covers_root theta a b h = record { phi = theta; good = good theta h.proper; equal = h.equal; agrees = agrees_selves theta (numbers (a ++ b)) }

pub listed_once : (rule : Forbidden) → IsOff rule → (theta : Pairs) (a b : List WSym) (n : ℕ) → (explore rule n (root a b ∷ [])).ended ≡ Whole →
    Unifies theta a b → OneOf (Lists theta) (explore rule n (root a b ∷ [])).found
listed_once rule off theta a b n e h = (explored rule off theta n (root a b ∷ []) (determined_root a b, tt) e).0 (inl (covers_root theta a b h, tt))
