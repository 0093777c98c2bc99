-- What brackets forbid: a value whose beginning is forbidden is forbidden, and a work variable behind it changes nothing.
use Rattle.std.proofs.Common.{ℕ, ◌+◌, ◌≡◌, ◌<◌, ◌≤◌, List, [], ◌∷◌, ◌++◌, Bool, true, false, ◌&&◌, ◌==◌, not, take, get_or, length, Option, Some, None, cond, refl, sym, ap, ◌∙◌, subst, inl, inr, arith, length-append}
use Rattle.std.specs.Prelude.{count_by}
use Rattle.std.proofs.lemmas.List.{take-append-le, take_all}
use Rattle.std.proofs.lemmas.List.Sums.{sum_by_push, count_by_more_yes, count_by_more_no}
use Rattle.std.specs.List.{list_any}
use Rattle.mm_subst.specs.Substitutions.{Pairs}
use Rattle.std.proofs.lemmas.Bool.{and_parts, cases_lt}
use Rattle.mm_subst.specs.Symbols.{is_work}
use Rattle.mm_subst.specs.Brackets.{has_number, openings, closings, is_opened_first, is_balanced_by, are_balanced}
use Rattle.mm_subst.specs.declared.symbol.WSym.{WSym}
use Rattle.mm_subst.specs.declared.symbol.WSym.TheVariants.{Const, Var, Work}
use Rattle.mm_subst.specs.declared.brackets.Bracket.{Bracket}
use Rattle.mm_subst.specs.declared.brackets.Brackets.{Brackets}
use Rattle.mm_subst.proofs.Prefixes.{opened_first, not_opened_first}
use Rattle.mm_unify.specs.Forbidden.{Forbidden, forbidden_by, are_opened_first}

-- what the proofs use of what is forbidden
pub record IsFair (f : Forbidden) : Type 0 where
  pub front : (s t : List WSym) → f.so_far (s ++ t) ≡ false → f.so_far s ≡ false
  pub neutral : (s : List WSym) (c : WSym) → is_work c ≡ true → f.so_far s ≡ false → f.so_far (s ++ c ∷ []) ≡ false
  pub fair : (s : List WSym) → f.at_end s ≡ false → f.so_far s ≡ false

-- where nothing is
pub record IsOff (f : Forbidden) : Type 0 where
  pub so_far : (s : List WSym) → f.so_far s ≡ false
  pub at_end : (s : List WSym) → f.at_end s ≡ false

pub both_true : (p q : Bool) → p ≡ true → q ≡ true → (p && q) ≡ true
both_true p q e f = ap (λ (b : Bool). b && q) e ∙ f

pub from_not : (b : Bool) → not b ≡ false → b ≡ true
from_not true e = refl
from_not false e = sym e

pub to_not : (b : Bool) → b ≡ true → not b ≡ false
to_not b e = ap not e

-- each prefix opens as often as it closes, or more often
pub opened_at : (b : Bracket) (s : List WSym) → is_opened_first b s ≡ true → (k : ℕ) → k ≤ length s → closings b (take k s) ≤ openings b (take k s)
opened_at b s h k l = elim (cases_lt (openings b (take k s)) (closings b (take k s))) [
  | inl m ↦ absurd (let e = not_opened_first b s k l m in cc)
  | inr m ↦ m
]

-- one symbol that is no bracket
no_bracket : (o : Option ℕ) (c : WSym) → is_work c ≡ true → has_number o c ≡ false
no_bracket None c h = refl
no_bracket (Some n) (Work m) h = refl
no_bracket (Some n) (Const m) h = cc
no_bracket (Some n) (Var m) h = cc

count_one : (p : WSym → Bool) (s : List WSym) (c : WSym) → p c ≡ false → count_by p (s ++ c ∷ []) ≡ count_by p s
count_one p s c h =
    let e : count_by p (s ++ c ∷ []) ≡ count_by p s + cond {A = ℕ} (p c) 1 0 = sum_by_push (λ d. cond {A = ℕ} (p d) 1 0) s c in
    let z : cond {A = ℕ} (p c) 1 0 ≡ 0 = ap (λ (b : Bool). cond {A = ℕ} b 1 0) h in
    omega arith

first_front : (b : Bracket) (s t : List WSym) → is_opened_first b (s ++ t) ≡ true → is_opened_first b s ≡ true
first_front b s t h = opened_first b s (λ k l.
    let at = opened_at b (s ++ t) h k (omega (arith, length-append s t)) in
    let e = take-append-le k s t l in
    let P = λ (r : List WSym). closings b r ≤ openings b r in
    subst P e at)

first_neutral : (b : Bracket) (s : List WSym) (c : WSym) → is_work c ≡ true → is_opened_first b s ≡ true → is_opened_first b (s ++ c ∷ []) ≡ true
first_neutral b s c w h = opened_first b (s ++ c ∷ []) (λ k l. elim (cases_lt (length s) k) [
  | inl m ↦
      let e : take k (s ++ c ∷ []) ≡ s ++ c ∷ [] = take_all k (s ++ c ∷ []) (omega (arith, length-append s (c ∷ []))) in
      let at = opened_at b s h (length s) (omega arith) in
      let f : take (length s) s ≡ s = take_all (length s) s (omega arith) in
      let i : closings b s ≤ openings b s = subst (λ (r : List WSym). closings b r ≤ openings b r) f at in
      let o = count_one (has_number b.opening) s c (no_bracket b.opening c w) in
      let q = count_one (has_number b.closing) s c (no_bracket b.closing c w) in
      subst (λ (r : List WSym). closings b r ≤ openings b r) (sym e) (omega arith)
  | inr m ↦
      let at = opened_at b s h k m in
      let e = take-append-le k s (c ∷ []) m in
      subst (λ (r : List WSym). closings b r ≤ openings b r) (sym e) at
])

-- in all three pairs
three : (bs : Brackets) (s : List WSym) → are_opened_first bs s ≡ true →
    (is_opened_first bs.round s ≡ true) × (is_opened_first bs.curly s ≡ true) × (is_opened_first bs.square s ≡ true)
three bs s h =
    let a = and_parts (is_opened_first bs.round s && is_opened_first bs.curly s) (is_opened_first bs.square s) h in
    let b = and_parts (is_opened_first bs.round s) (is_opened_first bs.curly s) a.0 in
    (b.0, b.1, a.1)

pub from_three : (bs : Brackets) (s : List WSym) → is_opened_first bs.round s ≡ true → is_opened_first bs.curly s ≡ true → is_opened_first bs.square s ≡ true → are_opened_first bs s ≡ true
from_three bs s r c q =
    both_true (is_opened_first bs.round s && is_opened_first bs.curly s) (is_opened_first bs.square s) (both_true (is_opened_first bs.round s) (is_opened_first bs.curly s) r c) q

pub balanced_opened : (bs : Brackets) (s : List WSym) → are_balanced bs s ≡ true → are_opened_first bs s ≡ true
balanced_opened bs s h =
    let a = and_parts (is_balanced_by bs.round s && is_balanced_by bs.curly s) (is_balanced_by bs.square s) h in
    let b = and_parts (is_balanced_by bs.round s) (is_balanced_by bs.curly s) a.0 in
    from_three bs s
    (and_parts (is_opened_first bs.round s) (openings bs.round s == closings bs.round s) b.0).0
    (and_parts (is_opened_first bs.curly s) (openings bs.curly s == closings bs.curly s) b.1).0
    (and_parts (is_opened_first bs.square s) (openings bs.square s == closings bs.square s) a.1).0

pub fair_by : (o : Option Brackets) → IsFair (forbidden_by o)
fair_by None = record { front = λ s t h. refl; neutral = λ s c e h. refl; fair = λ s h. refl }
fair_by (Some bs) = record {
  front = λ s t h.
      let w = from_not (are_opened_first bs (s ++ t)) h in
      let p = three bs (s ++ t) w in
      to_not (are_opened_first bs s) (from_three bs s (first_front bs.round s t p.0) (first_front bs.curly s t p.1) (first_front bs.square s t p.2));
  neutral = λ s c e h.
      let p = three bs s (from_not (are_opened_first bs s) h) in
      to_not (are_opened_first bs (s ++ c ∷ [])) (from_three bs (s ++ c ∷ []) (first_neutral bs.round s c e p.0) (first_neutral bs.curly s c e p.1) (first_neutral bs.square s c e p.2));
  fair = λ s h. to_not (are_opened_first bs s) (balanced_opened bs s (from_not (are_balanced bs s) h));
}

pub off_by : (o : Option Brackets) → o ≡ None → IsOff (forbidden_by o)
off_by o e = subst (λ (p : Option Brackets). IsOff (forbidden_by p)) (sym e) (record { so_far = λ s. refl; at_end = λ s. refl })

-- a symbol closes what is not open
pub closes_early : (b : Bracket) (s : List WSym) (i : ℕ) (d : WSym) → i < length s → closings b (take i s) ≡ openings b (take i s)
    → has_number b.opening (get_or s i d) ≡ false → has_number b.closing (get_or s i d) ≡ true → is_opened_first b s ≡ false
closes_early b s i d h e o c =
    let more : closings b (take (i + 1) s) ≡ closings b (take i s) + 1 = count_by_more_yes (has_number b.closing) s i d h c in
    let same : openings b (take (i + 1) s) ≡ openings b (take i s) = count_by_more_no (has_number b.opening) s i d h o in
    not_opened_first b s (i + 1) (omega arith) (omega arith)

-- where nothing is forbidden
pub none_so_far : (o : Option Brackets) (values : Pairs) → o ≡ None → list_any (λ q. (forbidden_by o).so_far q.1) values ≡ false
none_so_far o values e = rw e (all_false values)
  where
    all_false : (qs : Pairs) → list_any (λ (q : WSym × List WSym). false) qs ≡ false
    all_false [] = refl
    all_false (q ∷ qs) = all_false qs

pub none_at_end : (o : Option Brackets) (values : Pairs) → o ≡ None → list_any (λ q. (forbidden_by o).at_end q.1) values ≡ false
none_at_end o values e = rw e (all_false values)
  where
    all_false : (qs : Pairs) → list_any (λ (q : WSym × List WSym). false) qs ≡ false
    all_false [] = refl
    all_false (q ∷ qs) = all_false qs
