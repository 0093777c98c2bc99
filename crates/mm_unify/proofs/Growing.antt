-- A visit where a variable is open: the two nodes in which its value is longer by a symbol, or none.
use Rattle.std.proofs.Common.{ℕ, ◌+◌, ◌-◌, ◌≡◌, ◌<◌, ◌≤◌, List, [], ◌∷◌, ◌++◌, Bool, true, false, cond, ◌||◌, ◌&&◌, not, map, take, drop, length, reverse, None, refl, sym, ap, ◌∙◌, subst, inl, inr, ◌⊎◌, arith, append_assoc, length-append, length-take, length-drop}
use Rattle.std.specs.Prelude.{nat_le, nat_lt}
use Rattle.std.specs.List.{list_any, list_all}
use Rattle.std.proofs.lemmas.List.{append-nil, drop_all}
use Rattle.std.proofs.lemmas.List.Sums.{sum_by-append, sum_by-cons}
use Rattle.std.proofs.lemmas.Bool.{cases_lt, or_parts, or_from}
use Rattle.mm_subst.specs.declared.symbol.WSym.{WSym}
use Rattle.mm_subst.specs.declared.symbol.WSym.TheVariants.{Work}
use Rattle.mm_subst.specs.Symbols.{is_same, is_work}
use Rattle.mm_subst.specs.Applied.{most_symbols}
use Rattle.mm_subst.specs.Substitutions.{Pairs, value_at, value_of, applied, with_values}
use Rattle.mm_subst.proofs.Keys.{is_same-itself}
use Rattle.mm_subst.proofs.Replaced.{applied-append}
use Rattle.mm_unify.specs.declared.bound.Bound.{Bound}
use Rattle.mm_unify.specs.declared.advance.Open.{Open}
use Rattle.mm_unify.specs.declared.frame.Frame.{Frame}
use Rattle.mm_unify.specs.declared.frame.Kind.{Kind}
use Rattle.mm_unify.specs.declared.frame.Kind.TheVariants.{First, Whole, Longer}
use Rattle.mm_unify.specs.Unifying.{restricted}
use Rattle.mm_unify.specs.Variables.{numbers}
use Rattle.mm_unify.specs.Forbidden.{Forbidden}
use Rattle.mm_unify.specs.Search.{Node, dead_end, cut, count, plain_count, falls_short, steps, child, visit, visit_cut}
use Rattle.mm_unify.specs.Parts.{IsPlain, part, parts_of, Opens}
use Rattle.mm_unify.specs.Frames.{node_of, with_value, open_value, some_early, some_long, theta_by, length_by, StepFits, Fits, MayGrow, Adds}
use Rattle.mm_unify.proofs.Mapping.{is_same-false, cases_same, applied-applied}
use Rattle.mm_unify.proofs.Opened.{IsFair}
use Rattle.mm_unify.proofs.Lengths.{count-cons}
use Rattle.mm_unify.proofs.Balanced.{plain_apply, step_plain}
use Rattle.mm_unify.proofs.Root.{Has, numbered, numbered_left, numbered_right, Numbered}
use Rattle.mm_unify.proofs.Along.{last_own, last_other, step_value, restricted_step, visit_further, drop_front, open_rest, plain_take, plain_drop, plain_part, more_part}

-- counts in strings without work variables
count_plain : (n : ℕ) (s : List WSym) → IsPlain s → count (Work n) s ≡ 0
count_plain n [] h = refl
count_plain n (c ∷ s) h =
    let e : is_same (Work n) c ≡ false = is_same-false (Work n) c (λ k. let g = ap is_work k in let z = h.0 in cc) in
    let z : cond {A = ℕ} (is_same (Work n) c) 1 0 ≡ 0 = ap (λ (b : Bool). cond {A = ℕ} b 1 0) e in
    let i = count_plain n s h.1 in
    let k = count-cons (Work n) c s in
    omega arith

pub plain_cons : (c : WSym) (s : List WSym) → plain_count (c ∷ s) ≡ cond {A = ℕ} (not (is_work c)) 1 0 + plain_count s
plain_cons c s = sum_by-cons (λ d. cond {A = ℕ} (not (is_work d)) 1 0) c s

pub plain_join : (s t : List WSym) → plain_count (s ++ t) ≡ plain_count s + plain_count t
plain_join s t = sum_by-append (λ d. cond {A = ℕ} (not (is_work d)) 1 0) s t

pub plain_length : (s : List WSym) → IsPlain s → plain_count s ≡ length s
plain_length [] h = refl
plain_length (c ∷ s) h =
    let z : cond {A = ℕ} (not (is_work c)) 1 0 ≡ 1 = ap (λ (b : Bool). cond {A = ℕ} (not b) 1 0) h.0 in
    let i = plain_length s h.1 in
    let k = plain_cons c s in
    omega arith

all_plain : (q : WSym → Bool) (s : List WSym) → IsPlain s → list_all (λ c. not (is_work c) || q c) s ≡ true
all_plain q [] h = refl
all_plain q (c ∷ s) h = ap (λ (b : Bool). (not b || q c) && list_all (λ c. not (is_work c) || q c) s) h.0 ∙ all_plain q s h.1

-- the side with the variable doesn't fall short
more_than_none : (j k : ℕ) → 0 < j → k ≡ 0 → nat_le j k ≡ false
more_than_none j k h e = grind arith

left_stands : (n : ℕ) (rest s : List WSym) → IsPlain s → falls_short (Work n ∷ rest) s ≡ false
left_stands n rest s h =
    let z : cond {A = ℕ} (is_same (Work n) (Work n)) 1 0 ≡ 1 = ap (λ (b : Bool). cond {A = ℕ} b 1 0) (is_same-itself (Work n)) in
    let k = count-cons (Work n) (Work n) rest in
    let l = more_than_none (count (Work n) (Work n ∷ rest)) (count (Work n) s) (omega arith) (count_plain n s h) in
    ap (λ (b : Bool). (b && list_all (λ c. not (is_work c) || nat_le (count c (Work n ∷ rest)) (count c s)) rest) && nat_lt (plain_count (Work n ∷ rest)) (plain_count s)) l

lt_shift : (m p q k l : ℕ) → k ≡ m + p → l ≡ m + q → nat_lt p q ≡ nat_lt k l
lt_shift m p q k l e f = elim (cases_lt p q) [
  | inl h ↦ let x : nat_lt p q ≡ true = grind arith in let y : nat_lt k l ≡ true = grind arith in x ∙ sym y
  | inr h ↦ let x : nat_lt p q ≡ false = grind arith in let y : nat_lt k l ≡ false = grind arith in x ∙ sym y
]

right_falls : (s t : List WSym) (m k l : ℕ) → IsPlain s → k ≡ m + length s → l ≡ m + plain_count t → falls_short s t ≡ nat_lt k l
right_falls s t m k l h e f =
    ap (λ (b : Bool). b && nat_lt (plain_count s) (plain_count t)) (all_plain (λ c. nat_le (count c s) (count c t)) s h)
    ∙ ap (λ (i : ℕ). nat_lt i (plain_count t)) (plain_length s h)
    ∙ lt_shift m (length s) (plain_count t) k l e f

has_at : (a b : List WSym) (k n : ℕ) → a ≡ take k a ++ Work n ∷ drop (k + 1) a → Has n (numbers (a ++ b))
has_at a b k n e =
    let all = numbered_left (numbers (a ++ b)) a b (numbered (a ++ b)) in
    let m = numbered_right (numbers (a ++ b)) (take k a) (Work n ∷ drop (k + 1) a) (subst (Numbered (numbers (a ++ b))) e all) in
    m.0 n refl

-- a step at the open variable
module _ (rule : Forbidden) (fair : IsFair rule) (a b : List WSym) (path : List Bound) (o : Open) (plain : IsPlain b) (opens : Opens a b path o) where
  abbrev x : WSym
  x = Work o.number

  abbrev v : List WSym
  v = part b o.from o.to

  abbrev theta : List WSym → Pairs
  theta w = with_value b path o.number (v ++ w)

  abbrev rest : List WSym
  rest = applied (theta (x ∷ [])) (drop (o.at + 1) a)

  stepped : (w : List WSym) (c : WSym) → applied ((x, w) ∷ []) (value_of (theta (x ∷ [])) c) ≡ value_of (theta w) c
  stepped w c = step_value b plain path o.number v w (plain_part b o.from o.to plain) opens.free c

  child_open : (w : List WSym) → child (x ∷ rest) (drop o.to b) (restricted (theta (x ∷ [])) (numbers (a ++ b))) (x, w) ≡ node_of a b (theta w) o.to
  child_open w =
      let p = (x, w) ∷ [] in
      let whole : applied (theta w) a ≡ take o.to b ++ applied p (x ∷ rest) =
      sym (applied-applied p (theta (x ∷ [])) (theta w) (stepped w) a)
      ∙ ap (applied p) (open_rest a b plain path o opens)
      ∙ applied-append p (take o.to b) (x ∷ rest)
      ∙ ap (λ s. s ++ applied p (x ∷ rest)) (plain_apply p (take o.to b) (step_plain (x, w) refl) (plain_take o.to b plain)) in
      let left : applied p (x ∷ rest) ≡ drop o.to (applied (theta w) a) = sym (drop_front b (applied p (x ∷ rest)) o.to opens.within) ∙ ap (drop o.to) (sym whole) in
      let right : applied p (drop o.to b) ≡ drop o.to b = plain_apply p (drop o.to b) (step_plain (x, w) refl) (plain_drop o.to b plain) in
      let values : with_values p (restricted (theta (x ∷ [])) (numbers (a ++ b))) ≡ restricted (theta w) (numbers (a ++ b)) = restricted_step (x, w) (theta (x ∷ [])) (theta w) (stepped w) (numbers (a ++ b)) in
      ap (λ s. record { left = s; right = applied p (drop o.to b); values = with_values p (restricted (theta (x ∷ [])) (numbers (a ++ b))) }) left
      ∙ ap (λ s. record { left = drop o.to (applied (theta w) a); right = s; values = with_values p (restricted (theta (x ∷ [])) (numbers (a ++ b))) }) right
      ∙ ap (λ vs. record { left = drop o.to (applied (theta w) a); right = drop o.to b; values = vs }) values

  -- at the target's end
  visit_end : drop o.to b ≡ [] → visit rule (node_of a b (theta (x ∷ [])) o.to) ≡ dead_end
  visit_end e =
      visit_further rule a b (theta (x ∷ [])) o.to o.to (x ∷ rest) (omega arith) opens.within (open_rest a b plain path o opens)
      ∙ ap (λ t. visit_cut rule (restricted (theta (x ∷ [])) (numbers (a ++ b))) (cut (x ∷ rest) t).0 (cut (x ∷ rest) t).1) e

  visit_open : (y : WSym) (r : List WSym) → drop o.to b ≡ y ∷ r → (total : ℕ) → total ≡ plain_count (applied (theta (x ∷ [])) a) →
      visit rule (node_of a b (theta (x ∷ [])) o.to) ≡ cond (nat_lt (length b) total || some_early rule a b (theta (x ∷ []))) dead_end (record { found = []; children = node_of a b (theta (y ∷ [])) o.to ∷ node_of a b (theta (y ∷ x ∷ [])) o.to ∷ [] })
  visit_open y r e total t =
      let ms = numbers (a ++ b) in
      let values = restricted (theta (x ∷ [])) ms in
      let p : IsPlain (y ∷ r) = subst IsPlain e (plain_drop o.to b plain) in
      let differ : is_same x y ≡ false = is_same-false x y (λ k. let g = ap is_work k in let z = p.0 in cc) in
      let c : cut (x ∷ rest) (drop o.to b) ≡ (x ∷ rest, y ∷ r) = ap (cut (x ∷ rest)) e ∙ ap (λ q. cond q (cut rest r) (x ∷ rest, y ∷ r)) differ in
      let long : length b ≡ o.to + length (y ∷ r) = let k = ap length e in let i = opens.within in omega (arith, length-drop o.to b) in
      let front : plain_count (take o.to b) ≡ o.to = plain_length (take o.to b) (plain_take o.to b plain) ∙ (let i = opens.within in omega (arith, length-take o.to b)) in
      let all : total ≡ o.to + plain_count (x ∷ rest) = let k = ap plain_count (open_rest a b plain path o opens) in let j = plain_join (take o.to b) (x ∷ rest) in omega arith in
      let l = left_stands o.number rest (y ∷ r) p in
      let f = right_falls (y ∷ r) (x ∷ rest) o.to (length b) total p long all in
      let s : steps x y ≡ (x, y ∷ []) ∷ (x, y ∷ x ∷ []) ∷ [] = rw p.0 refl in
      let one : child (x ∷ rest) (y ∷ r) values (x, y ∷ []) ≡ node_of a b (theta (y ∷ [])) o.to = ap (λ u. child (x ∷ rest) u values (x, y ∷ [])) (sym e) ∙ child_open (y ∷ []) in
      let two : child (x ∷ rest) (y ∷ r) values (x, y ∷ x ∷ []) ≡ node_of a b (theta (y ∷ x ∷ [])) o.to = ap (λ u. child (x ∷ rest) u values (x, y ∷ x ∷ [])) (sym e) ∙ child_open (y ∷ x ∷ []) in
      visit_further rule a b (theta (x ∷ [])) o.to o.to (x ∷ rest) (omega arith) opens.within (open_rest a b plain path o opens)
      ∙ ap (λ u. visit_cut rule values u.0 u.1) c
      ∙ ap (λ q. cond (q || falls_short (y ∷ r) (x ∷ rest) || some_early rule a b (theta (x ∷ []))) dead_end (record { found = []; children = map (child (x ∷ rest) (y ∷ r) values) (steps x y) })) l
      ∙ ap (λ q. cond (q || some_early rule a b (theta (x ∷ []))) dead_end (record { found = []; children = map (child (x ∷ rest) (y ∷ r) values) (steps x y) })) f
      ∙ ap (λ ps. cond (nat_lt (length b) total || some_early rule a b (theta (x ∷ []))) dead_end (record { found = []; children = map (child (x ∷ rest) (y ∷ r) values) ps })) s
      ∙ ap (λ n. cond (nat_lt (length b) total || some_early rule a b (theta (x ∷ []))) dead_end (record { found = []; children = n ∷ child (x ∷ rest) (y ∷ r) values (x, y ∷ x ∷ []) ∷ [] })) one
      ∙ ap (λ n. cond (nat_lt (length b) total || some_early rule a b (theta (x ∷ []))) dead_end (record { found = []; children = node_of a b (theta (y ∷ [])) o.to ∷ n ∷ [] })) two

  -- how many symbols are no work variables after the step
  total_step : (w : List WSym) → plain_count w ≡ 1 → (s : List WSym) → plain_count (applied (theta w) s) ≡ plain_count (applied (theta (x ∷ [])) s) + count x s
  unfolding applied
  total_step w h [] = refl
  total_step w h (c ∷ s) =
      let ih = total_step w h s in
      let k = plain_join (value_of (theta w) c) (applied (theta w) s) in
      let l = plain_join (value_of (theta (x ∷ [])) c) (applied (theta (x ∷ [])) s) in
      let m = count-cons x c s in
      elim (cases_same x c) [
        | inl e ↦
            let z : cond {A = ℕ} (is_same x c) 1 0 ≡ 1 = ap (λ (b : Bool). cond {A = ℕ} b 1 0) (subst (λ (d : WSym). is_same x d ≡ true) e (is_same-itself x)) in
            let i : plain_count (value_of (theta w) c) ≡ plain_count (v ++ w) = ap plain_count (subst (λ (d : WSym). value_of (theta w) d ≡ v ++ w) e (last_own (parts_of b path) x (v ++ w) opens.free)) in
            let j : plain_count (value_of (theta (x ∷ [])) c) ≡ plain_count (v ++ x ∷ []) = ap plain_count (subst (λ (d : WSym). value_of (theta (x ∷ [])) d ≡ v ++ x ∷ []) e (last_own (parts_of b path) x (v ++ x ∷ []) opens.free)) in
            let p = plain_join v w in
            let q = plain_join v (x ∷ []) in
            let r : plain_count (x ∷ []) ≡ 0 = refl in
            omega arith
        | inr e ↦
            let z : cond {A = ℕ} (is_same x c) 1 0 ≡ 0 = ap (λ (b : Bool). cond {A = ℕ} b 1 0) e in
            let i = ap plain_count (last_other (parts_of b path) x (v ++ w) c e) in
            let j = ap plain_count (last_other (parts_of b path) x (v ++ x ∷ []) c e) in
            omega arith
      ]

  has_open : Has o.number (numbers (a ++ b))
  has_open = has_at a b o.at o.number opens.parts

-- a test of the values, one of which is new
module _ (p : List WSym → Bool) (theta : Pairs) (n : ℕ) (w : List WSym) (free : value_at theta (Work n) ≡ None) where
  abbrev test : WSym × List WSym → Bool
  test q = p q.1

  any_true : p w ≡ true → (ms : List ℕ) → Has n ms → list_any test (restricted (theta ++ (Work n, w) ∷ []) ms) ≡ true
  any_true t [] h = absurd h
  any_true t (m ∷ ms) (inl e) =
      let own : value_of (theta ++ (Work n, w) ∷ []) (Work m) ≡ w = subst (λ (i : ℕ). value_of (theta ++ (Work n, w) ∷ []) (Work i) ≡ w) e (last_own theta (Work n) w free) in
      ap (λ s. p s || list_any test (restricted (theta ++ (Work n, w) ∷ []) ms)) own ∙ ap (λ b. b || list_any test (restricted (theta ++ (Work n, w) ∷ []) ms)) t
  any_true t (m ∷ ms) (inr h) = or_right (p (value_of (theta ++ (Work n, w) ∷ []) (Work m))) (list_any test (restricted (theta ++ (Work n, w) ∷ []) ms)) (any_true t ms h)
    where
      or_right : (b c : Bool) → c ≡ true → (b || c) ≡ true
      or_right true c e = refl
      or_right false c e = e

  any_false : p w ≡ false → (ms : List ℕ) → list_any test (restricted theta ms) ≡ false → list_any test (restricted (theta ++ (Work n, w) ∷ []) ms) ≡ false
  any_false t [] h = refl
  any_false t (m ∷ ms) h =
      let parts = or_parts (p (value_of theta (Work m))) (list_any test (restricted theta ms)) h in
      let ih = any_false t ms parts.1 in
      let here : p (value_of (theta ++ (Work n, w) ∷ []) (Work m)) ≡ false = elim (cases_same (Work n) (Work m)) [
        | inl e ↦ subst (λ (d : WSym). p (value_of (theta ++ (Work n, w) ∷ []) d) ≡ false) e (ap p (last_own theta (Work n) w free) ∙ t)
        | inr e ↦ ap p (last_other theta (Work n) w (Work m) e) ∙ parts.0
      ] in
      or_from (p (value_of (theta ++ (Work n, w) ∷ []) (Work m))) (list_any test (restricted (theta ++ (Work n, w) ∷ []) ms)) here ih

  pub any_is : (ms : List ℕ) → Has n ms → list_any test (restricted theta ms) ≡ false → list_any test (restricted (theta ++ (Work n, w) ∷ []) ms) ≡ p w
  any_is ms h f = go (p w) refl
    where
      go : (b : Bool) → p w ≡ b → list_any test (restricted (theta ++ (Work n, w) ∷ []) ms) ≡ b
      go true e = any_true e ms h
      go false e = any_false e ms f

-- a work variable behind a value changes nothing
neutral_same : (rule : Forbidden) → IsFair rule → (u : List WSym) (n : ℕ) → rule.so_far (u ++ Work n ∷ []) ≡ rule.so_far u
neutral_same rule fair u n = go (rule.so_far u) refl
  where
    up : (b : Bool) → rule.so_far (u ++ Work n ∷ []) ≡ b → rule.so_far u ≡ true → b ≡ true
    up true e f = refl
    up false e f = let k = fair.front u (Work n ∷ []) e in cc

    go : (b : Bool) → rule.so_far u ≡ b → rule.so_far (u ++ Work n ∷ []) ≡ b
    go true e = up (rule.so_far (u ++ Work n ∷ [])) refl e
    go false e = fair.neutral u (Work n) refl e

pub length-part : (b : List WSym) (i j : ℕ) → i ≤ j → j ≤ length b → length (part b i j) ≡ j - i
length-part b i j h l = omega (arith, length-take (j - i) (drop i b), length-drop i b)

drop_next : (b : List WSym) (j : ℕ) → j < length b → (y : WSym) × (r : List WSym) × (drop j b ≡ y ∷ r)
drop_next b j h = go (drop j b) refl
  where
    go : (s : List WSym) → drop j b ≡ s → (y : WSym) × (r : List WSym) × (drop j b ≡ y ∷ r)
    go [] e = absurd (let k = ap length e in omega (arith, length-drop j b))
    go (y ∷ r) e = (y, r, e)

-- the frames of such a visit
abbrev pub frame_with : Kind → List Bound → Open → ℕ → Bool → Frame
frame_with k path o total early = record { kind = k; depth = length path; at = o.at; number = o.number; from = o.from; to = o.to; total = total; early = early }

module _ (rule : Forbidden) (fair : IsFair rule) (a b : List WSym) (path : List Bound) (o : Open) (plain : IsPlain b) (total : ℕ) (early : Bool) (h : MayGrow rule a b path o total early) where
  abbrev here : Node
  here = node_of a b (with_value b path o.number (open_value b o)) o.to

  dead_where : (nat_lt (length b) total || early) ≡ true → visit rule here ≡ dead_end
  dead_where t = go (drop o.to b) refl
    where
      go : (s : List WSym) → drop o.to b ≡ s → visit rule here ≡ dead_end
      go [] e = visit_end rule fair a b path o plain h.opens e
      go (y ∷ r) e =
          visit_open rule fair a b path o plain h.opens y r e total h.total_is
          ∙ ap (λ q. cond (nat_lt (length b) total || q) dead_end (record { found = []; children = node_of a b (with_value b path o.number (part b o.from o.to ++ y ∷ [])) o.to ∷ node_of a b (with_value b path o.number (part b o.from o.to ++ y ∷ Work o.number ∷ [])) o.to ∷ [] })) (sym h.early_is)
          ∙ ap (λ q. cond q dead_end (record { found = []; children = node_of a b (with_value b path o.number (part b o.from o.to ++ y ∷ [])) o.to ∷ node_of a b (with_value b path o.number (part b o.from o.to ++ y ∷ Work o.number ∷ [])) o.to ∷ [] })) t

  or_true : (p q : Bool) → q ≡ true → (p || q) ≡ true
  or_true true q e = refl
  or_true false q e = e

  pub is_dead : (o.to ≡ length b) ⊎ ((length b < total) ⊎ (early ≡ true)) → visit rule here ≡ dead_end
  is_dead (inl e) = visit_end rule fair a b path o plain h.opens (drop_all o.to b (omega arith))
  is_dead (inr (inl l)) = dead_where (ap (λ q. q || early) (let k : nat_lt (length b) total ≡ true = grind arith in k))
  is_dead (inr (inr e)) = dead_where (or_true (nat_lt (length b) total) early e)

  pub no_found : (visit rule here).found ≡ []
  no_found = go (drop o.to b) refl
    where
      none : (q : Bool) (ns : List Node) → (cond q dead_end (record { found = []; children = ns })).found ≡ []
      none true ns = refl
      none false ns = refl

      go : (s : List WSym) → drop o.to b ≡ s → (visit rule here).found ≡ []
      go [] e = ap (λ v. v.found) (visit_end rule fair a b path o plain h.opens e)
      go (y ∷ r) e =
          ap (λ v. v.found) (visit_open rule fair a b path o plain h.opens y r e total h.total_is)
          ∙ none (nat_lt (length b) total || some_early rule a b (with_value b path o.number (open_value b o))) (node_of a b (with_value b path o.number (part b o.from o.to ++ y ∷ [])) o.to ∷ node_of a b (with_value b path o.number (part b o.from o.to ++ y ∷ Work o.number ∷ [])) o.to ∷ [])

  pub stays : (before now : List Frame) → (o.to ≡ length b) ⊎ ((length b < total) ⊎ (early ≡ true)) → now ≡ before → Adds rule a b path here before now
  stays before now d e = record { fresh = []; now_is = e ∙ sym (append-nil before); nodes = ap (λ v. reverse v.children) (sym (is_dead d)); fit = tt }

  module _ (inside : o.to < length b) (enough : total ≤ length b) (fine : early ≡ false) (more : Bool) (more_is : more ≡ rule.so_far (part b o.from (o.to + 1))) (y : WSym) (r : List WSym) (e : drop o.to b ≡ y ∷ r) where
    abbrev x' : WSym
    x' = Work o.number

    abbrev v' : List WSym
    v' = part b o.from o.to

    whole_part : v' ++ y ∷ [] ≡ part b o.from (o.to + 1)
    whole_part = sym (more_part b o.from o.to y r h.opens.ordered e)

    longer_part : v' ++ y ∷ x' ∷ [] ≡ part b o.from (o.to + 1) ++ x' ∷ []
    longer_part = sym (append_assoc v' (y ∷ []) (x' ∷ [])) ∙ ap (λ t. t ++ x' ∷ []) whole_part

    plain_y : is_work y ≡ false
    plain_y = let p = subst IsPlain e (plain_drop o.to b plain) in p.0

    children_are : visit rule here ≡ record { found = []; children = node_of a b (with_value b path o.number (part b o.from (o.to + 1))) o.to ∷ node_of a b (with_value b path o.number (part b o.from (o.to + 1) ++ x' ∷ [])) o.to ∷ [] }
    children_are =
        let l : nat_lt (length b) total ≡ false = grind arith in
        visit_open rule fair a b path o plain h.opens y r e total h.total_is
        ∙ ap (λ q. cond (nat_lt (length b) total || q) dead_end (record { found = []; children = node_of a b (with_value b path o.number (v' ++ y ∷ [])) o.to ∷ node_of a b (with_value b path o.number (v' ++ y ∷ x' ∷ [])) o.to ∷ [] })) (sym h.early_is ∙ fine)
        ∙ ap (λ q. cond (q || false) dead_end (record { found = []; children = node_of a b (with_value b path o.number (v' ++ y ∷ [])) o.to ∷ node_of a b (with_value b path o.number (v' ++ y ∷ x' ∷ [])) o.to ∷ [] })) l
        ∙ ap (λ w. record { found = []; children = node_of a b (with_value b path o.number w) o.to ∷ node_of a b (with_value b path o.number (v' ++ y ∷ x' ∷ [])) o.to ∷ [] }) whole_part
        ∙ ap (λ w. record { found = []; children = node_of a b (with_value b path o.number (part b o.from (o.to + 1))) o.to ∷ node_of a b (with_value b path o.number w) o.to ∷ [] }) longer_part

    one_more : (w : List WSym) → plain_count w ≡ 1 → total + count x' a ≡ plain_count (applied (with_value b path o.number (v' ++ w)) a)
    one_more w k = let t = total_step rule fair a b path o plain h.opens w k a in let i = h.total_is in omega arith

    early_with : (w : List WSym) → some_early rule a b (with_value b path o.number w) ≡ rule.so_far w
    early_with w = any_is rule.so_far (parts_of b path) o.number w h.opens.free (numbers (a ++ b)) (has_open rule fair a b path o plain h.opens) (h.fine fine)

    one_plain : cond {A = ℕ} (not (is_work y)) 1 0 ≡ 1
    one_plain = ap (λ (q : Bool). cond {A = ℕ} (not q) 1 0) plain_y

    fits_whole : Fits rule a b path (frame_with Whole path o (total + count x' a) more)
    fits_whole = record {
      step = (h.opens, inside, h.fine fine);
      within = h.within;
      short = h.short;
      total = one_more (y ∷ []) (let k = plain_cons y [] in let z = one_plain in omega arith) ∙ ap (λ w. plain_count (applied (with_value b path o.number w) a)) whole_part;
      early = more_is ∙ sym (early_with (part b o.from (o.to + 1)));
    }

    fits_longer : Fits rule a b path (frame_with Longer path o (total + count x' a) more)
    fits_longer = record {
      step = (h.opens, inside, h.fine fine);
      within = h.within;
      short = h.short;
      total = one_more (y ∷ x' ∷ []) (let k = plain_cons y (x' ∷ []) in let z = one_plain in let q : plain_count (x' ∷ []) ≡ 0 = refl in omega arith) ∙ ap (λ w. plain_count (applied (with_value b path o.number w) a)) longer_part;
      early = more_is ∙ sym (neutral_same rule fair (part b o.from (o.to + 1)) o.number) ∙ sym (early_with (part b o.from (o.to + 1) ++ x' ∷ []));
    }

    grows_at : (before now : List Frame) → now ≡ (before ++ frame_with Longer path o (total + count x' a) more ∷ []) ++ frame_with Whole path o (total + count x' a) more ∷ [] → Adds rule a b path here before now
    grows_at before now n = record {
      fresh = frame_with Longer path o (total + count x' a) more ∷ frame_with Whole path o (total + count x' a) more ∷ [];
      now_is = n ∙ append_assoc before (frame_with Longer path o (total + count x' a) more ∷ []) (frame_with Whole path o (total + count x' a) more ∷ []);
      nodes = ap (λ w. reverse w.children) (sym children_are);
      fit = ((refl, fits_longer), ((refl, fits_whole), tt));
    }

  pub grows : o.to < length b → total ≤ length b → early ≡ false → (more : Bool) → more ≡ rule.so_far (part b o.from (o.to + 1)) → (before now : List Frame) →
      now ≡ (before ++ frame_with Longer path o (total + count (Work o.number) a) more ∷ []) ++ frame_with Whole path o (total + count (Work o.number) a) more ∷ [] → Adds rule a b path here before now
  grows inside enough fine more more_is before now n =
      let y = drop_next b o.to inside in grows_at inside enough fine more more_is y.0 y.1 y.2 before now n

-- the lengths of the values of a frame
pub long_is : (rule : Forbidden) (a b : List WSym) → IsPlain b → (path : List Bound) (f : Frame) → Fits rule a b path f → some_long a b (theta_by f.kind b path f.number f.from f.to) ≡ nat_lt most_symbols (length_by f.kind f.from f.to)
long_is rule a b plain path f h = go f.kind h.step
  where
    go : (k : Kind) → StepFits k rule a b path f → some_long a b (theta_by k b path f.number f.from f.to) ≡ nat_lt most_symbols (length_by k f.from f.to)
    go First s = h.short
    go Whole s =
        let i = s.0.ordered in let j = s.1 in
        any_is (λ w. nat_lt most_symbols (length w)) (parts_of b path) f.number (part b f.from (f.to + 1)) s.0.free (numbers (a ++ b)) (has_at a b f.at f.number s.0.parts) h.short
        ∙ ap (nat_lt most_symbols) (length-part b f.from (f.to + 1) (omega arith) (omega arith))
    go Longer s =
        let i = s.0.ordered in let j = s.1 in
        let l = length-part b f.from (f.to + 1) (omega arith) (omega arith) in
        any_is (λ w. nat_lt most_symbols (length w)) (parts_of b path) f.number (part b f.from (f.to + 1) ++ Work f.number ∷ []) s.0.free (numbers (a ++ b)) (has_at a b f.at f.number s.0.parts) h.short
        ∙ ap (nat_lt most_symbols) (let k : length (part b f.from (f.to + 1) ++ Work f.number ∷ []) ≡ (f.to + 2) - f.from = omega (arith, length-append (part b f.from (f.to + 1)) (Work f.number ∷ [])) in k)
