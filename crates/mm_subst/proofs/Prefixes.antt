-- Prefixes that left before they close.
use Rattle.std.proofs.Common.{◌≡◌, ℕ, zero, suc, ◌+◌, ◌≤◌, ◌<◌, Bool, true, false, ◌&&◌, ◌==◌, List, take, length, get_or, nat_le, refl, sym, ◌∙◌, ap, inl, inr, arith, le-leb}
use Rattle.std.specs.List.{list_all, range_with_len}
use Rattle.std.proofs.lemmas.Bool.{cases_lt}
use Rattle.std.proofs.lemmas.List.Sums.{count_by_more_yes, count_by_more_no}
use Rattle.mm_subst.specs.Brackets.{has_number, openings, closings, is_opened_first, is_balanced_by}
use Rattle.mm_subst.specs.declared.symbol.WSym.{WSym}
use Rattle.mm_subst.specs.declared.brackets.Bracket.{Bracket}

all_true : (p : ℕ → Bool) (a n : ℕ) → ((k : ℕ) → k < a + n → p k ≡ true) → list_all p (range_with_len a n) ≡ true
all_true p a zero h = refl
all_true p a (suc n) h =
    ap (λ b. b && list_all p (range_with_len (a + 1) n)) (h a (omega arith)) ∙ all_true p (a + 1) n (λ k l. h k (omega arith))

and_false : (b : Bool) → (b && false) ≡ false
and_false true = refl
and_false false = refl

some_false : (p : ℕ → Bool) (a n k : ℕ) → a ≤ k → k < a + n → p k ≡ false → list_all p (range_with_len a n) ≡ false
some_false p a zero k h l e = absurd (omega arith)
some_false p a (suc n) k h l e = elim (cases_lt a k) [
  | inl later ↦ ap (λ b. p a && b) (some_false p (a + 1) n k (omega arith) (omega arith) e) ∙ and_false (p a)
  | inr here ↦ let z : a ≡ k = omega arith in ap (λ b. b && list_all p (range_with_len (a + 1) n)) (ap p z ∙ e)
]

-- each prefix opens as often as it closes, or more often
pub opened_first : (b : Bracket) (s : List WSym) → ((k : ℕ) → k ≤ length s → closings b (take k s) ≤ openings b (take k s)) → is_opened_first b s ≡ true
unfolding is_opened_first
opened_first b s h = all_true (λ k. nat_le (closings b (take k s)) (openings b (take k s))) 0 (length s + 1) (λ k l. le-leb _ _ (h k (omega arith)))

-- some prefix closes more often
pub not_opened_first : (b : Bracket) (s : List WSym) (k : ℕ) → k ≤ length s → openings b (take k s) < closings b (take k s) → is_opened_first b s ≡ false
unfolding is_opened_first
not_opened_first b s k l h = some_false (λ i. nat_le (closings b (take i s)) (openings b (take i s))) 0 (length s + 1) k (omega arith) (omega arith) (grind arith)

unbalanced : (b : Bracket) (s : List WSym) → is_opened_first b s ≡ false → is_balanced_by b s ≡ false
unbalanced b s h = ap (λ t. t && openings b s == closings b s) h

-- a symbol closes what is not open
pub closes_first : (b : Bracket) (s : List WSym) (i : ℕ) (d : WSym) → i < length s → closings b (take i s) ≡ openings b (take i s)
    → has_number b.opening (get_or s i d) ≡ false → has_number b.closing (get_or s i d) ≡ true → is_balanced_by b s ≡ false
closes_first b s i d h e o c =
    let more : closings b (take (i + 1) s) ≡ closings b (take i s) + 1 = count_by_more_yes (has_number b.closing) s i d h c in
    let same : openings b (take (i + 1) s) ≡ openings b (take i s) = count_by_more_no (has_number b.opening) s i d h o in
    unbalanced b s (not_opened_first b s (i + 1) (omega arith) (omega arith))

equal_where : (left o c : ℕ) → left + c ≡ o → left == 0 ≡ o == c
equal_where left o c e = grind arith

-- at the end what is still left tells
pub balance_told : (b : Bracket) (s : List WSym) (left : ℕ) → left + closings b s ≡ openings b s
    → ((k : ℕ) → k ≤ length s → closings b (take k s) ≤ openings b (take k s)) → left == 0 ≡ is_balanced_by b s
balance_told b s left e h =
    equal_where left (openings b s) (closings b s) e ∙ sym (ap (λ t. t && openings b s == closings b s) (opened_first b s h))
