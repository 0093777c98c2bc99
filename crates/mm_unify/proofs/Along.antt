-- A substitution of parts of a string without work variables, with one value more.
use Rattle.std.proofs.Common.{ℕ, ◌+◌, ◌-◌, ◌≡◌, ◌≤◌, List, [], ◌∷◌, ◌++◌, Bool, true, false, if◌then◌else◌, take, drop, length, Some, None, refl, sym, ap, ◌∙◌, subst, inl, inr, ◌⊎◌, arith, append_assoc, length-take, drop-drop}
use Rattle.std.specs.List.{AllByRecursion}
use Rattle.std.proofs.lemmas.List.{drop-append-le, take-append-drop}
use Rattle.std.proofs.Math.Seq.{drop-append_seam, take-add}
use Rattle.mm_subst.specs.declared.symbol.WSym.{WSym}
use Rattle.mm_subst.specs.declared.symbol.WSym.TheVariants.{Work}
use Rattle.mm_subst.specs.Symbols.{is_same}
use Rattle.mm_subst.specs.Substitutions.{Pairs, value_at, or_itself, value_of, applied, with_values}
use Rattle.mm_subst.proofs.Keys.{is_same-itself}
use Rattle.mm_subst.proofs.Replaced.{applied-append, applied-one, applied-cons}
use Rattle.mm_unify.specs.declared.bound.Bound.{Bound}
use Rattle.mm_unify.specs.declared.advance.Open.{Open}
use Rattle.mm_unify.specs.Unifying.{restricted}
use Rattle.mm_unify.specs.Forbidden.{Forbidden}
use Rattle.mm_unify.specs.Search.{cut, visit, visit_cut}
use Rattle.mm_unify.specs.Parts.{IsPlain, part, parts_of, Opens}
use Rattle.mm_unify.specs.Frames.{node_of, with_value, open_value}
use Rattle.mm_unify.specs.Variables.{numbers}
use Rattle.mm_unify.proofs.Mapping.{cases_same, value_first, value_later, applied_everywhere}
use Rattle.mm_unify.proofs.Alone.{cut-same}
use Rattle.mm_unify.proofs.Balanced.{plain_left, plain_right, plain_apply, step_plain}

-- one more pair at the end
pub last_own : (theta : Pairs) (x : WSym) (w : List WSym) → value_at theta x ≡ None → value_of (theta ++ (x, w) ∷ []) x ≡ w
last_own [] x w h = value_first (x, w) [] x (is_same-itself x)
last_own (q ∷ theta) x w h = go (is_same q.0 x) h (last_own theta x w)
  where
    go : (b : Bool) → (if b then Some q.1 else value_at theta x) ≡ None → (value_at theta x ≡ None → value_of (theta ++ (x, w) ∷ []) x ≡ w) →
        or_itself x (if b then Some q.1 else value_at (theta ++ (x, w) ∷ []) x) ≡ w
    go true e ih = cc
    go false e ih = ih e

pub last_other : (theta : Pairs) (x : WSym) (w : List WSym) (c : WSym) → is_same x c ≡ false → value_of (theta ++ (x, w) ∷ []) c ≡ value_of theta c
last_other [] x w c h = value_later (x, w) [] c h
last_other (q ∷ theta) x w c h = go (is_same q.0 c) (last_other theta x w c h)
  where
    go : (b : Bool) → value_of (theta ++ (x, w) ∷ []) c ≡ value_of theta c →
        or_itself c (if b then Some q.1 else value_at (theta ++ (x, w) ∷ []) c) ≡ or_itself c (if b then Some q.1 else value_at theta c)
    go true e = refl
    go false e = e

-- a variable that is not bound, with itself as its value
pub last_self : (theta : Pairs) (x : WSym) → value_at theta x ≡ None → (c : WSym) → value_of (theta ++ (x, x ∷ []) ∷ []) c ≡ value_of theta c
last_self theta x h c = elim (cases_same x c) [
  | inl e ↦
      let own = last_own theta x (x ∷ []) h in
      let none : value_of theta x ≡ x ∷ [] = ap (or_itself x) h in
      subst (λ (d : WSym). value_of (theta ++ (x, x ∷ []) ∷ []) d ≡ value_of theta d) e (own ∙ sym none)
  | inr e ↦ last_other theta x (x ∷ []) c e
]

-- parts of a plain string are plain
pub plain_take : (n : ℕ) (s : List WSym) → IsPlain s → IsPlain (take n s)
plain_take n s h = plain_left (take n s) (drop n s) (subst IsPlain (sym (take-append-drop n s)) h)

pub plain_drop : (n : ℕ) (s : List WSym) → IsPlain s → IsPlain (drop n s)
plain_drop n s h = plain_right (take n s) (drop n s) (subst IsPlain (sym (take-append-drop n s)) h)

pub plain_part : (b : List WSym) (i j : ℕ) → IsPlain b → IsPlain (part b i j)
plain_part b i j h = plain_take (j - i) (drop i b) (plain_drop i b h)

-- a value is plain, or it is the symbol itself
pub bound_plain : (b : List WSym) → IsPlain b → (path : List Bound) (c : WSym) → IsPlain (value_of (parts_of b path) c) ⊎ (value_of (parts_of b path) c ≡ c ∷ [])
bound_plain b p [] c = inr refl
bound_plain b p (q ∷ path) c = go (is_same (Work q.number) c) (bound_plain b p path c)
  where
    go : (t : Bool) → IsPlain (value_of (parts_of b path) c) ⊎ (value_of (parts_of b path) c ≡ c ∷ []) →
        IsPlain (or_itself c (if t then Some (part b q.from q.to) else value_at (parts_of b path) c)) ⊎ (or_itself c (if t then Some (part b q.from q.to) else value_at (parts_of b path) c) ≡ c ∷ [])
    go true ih = inl (plain_part b q.from q.to p)
    go false ih = ih

-- a step x := w at a value v x
pub step_value : (b : List WSym) → IsPlain b → (path : List Bound) (n : ℕ) (v w : List WSym) → IsPlain v → value_at (parts_of b path) (Work n) ≡ None →
    (c : WSym) → applied ((Work n, w) ∷ []) (value_of (with_value b path n (v ++ Work n ∷ [])) c) ≡ value_of (with_value b path n (v ++ w)) c
step_value b p path n v w pv h c = elim (cases_same (Work n) c) [
  | inl e ↦
      let old = last_own (parts_of b path) (Work n) (v ++ Work n ∷ []) h in
      let new = last_own (parts_of b path) (Work n) (v ++ w) h in
      let kept = plain_apply ((Work n, w) ∷ []) v (step_plain (Work n, w) refl) pv in
      let own = applied-one ((Work n, w) ∷ []) (Work n) ∙ value_first (Work n, w) [] (Work n) (is_same-itself (Work n)) in
      subst (λ (d : WSym). applied ((Work n, w) ∷ []) (value_of (with_value b path n (v ++ Work n ∷ [])) d) ≡ value_of (with_value b path n (v ++ w)) d) e
      (ap (applied ((Work n, w) ∷ [])) old
      ∙ applied-append ((Work n, w) ∷ []) v (Work n ∷ [])
      ∙ ap (λ t. t ++ applied ((Work n, w) ∷ []) (Work n ∷ [])) kept
      ∙ ap (λ t. v ++ t) own
      ∙ sym new)
  | inr e ↦
      let old = last_other (parts_of b path) (Work n) (v ++ Work n ∷ []) c e in
      let new = last_other (parts_of b path) (Work n) (v ++ w) c e in
      ap (applied ((Work n, w) ∷ [])) old ∙ same e (bound_plain b p path c) ∙ sym new
]
  where
    same : is_same (Work n) c ≡ false → IsPlain (value_of (parts_of b path) c) ⊎ (value_of (parts_of b path) c ≡ c ∷ []) → applied ((Work n, w) ∷ []) (value_of (parts_of b path) c) ≡ value_of (parts_of b path) c
    same e (inl pl) = plain_apply ((Work n, w) ∷ []) (value_of (parts_of b path) c) (step_plain (Work n, w) refl) pl
    same e (inr it) = ap (applied ((Work n, w) ∷ [])) it ∙ applied-one ((Work n, w) ∷ []) c ∙ value_later (Work n, w) [] c e ∙ sym it

-- the same values everywhere make the same node
pub restricted_same : (theta tau : Pairs) → ((c : WSym) → value_of theta c ≡ value_of tau c) → (ms : List ℕ) → restricted theta ms ≡ restricted tau ms
restricted_same theta tau h [] = refl
restricted_same theta tau h (m ∷ ms) =
    let keyed : List WSym → WSym × List WSym = λ v. (Work m, v) in
    ap (λ v. keyed v ∷ restricted theta ms) (h (Work m)) ∙ ap (λ t. (Work m, value_of tau (Work m)) ∷ t) (restricted_same theta tau h ms)

pub node_same : (a b : List WSym) (theta tau : Pairs) (j : ℕ) → ((c : WSym) → value_of theta c ≡ value_of tau c) → node_of a b theta j ≡ node_of a b tau j
node_same a b theta tau j h =
    ap (λ s. record { left = drop j s; right = drop j b; values = restricted theta (numbers (a ++ b)) }) (applied_everywhere theta tau a h)
    ∙ ap (λ vs. record { left = drop j (applied tau a); right = drop j b; values = vs }) (restricted_same theta tau h (numbers (a ++ b)))

pub restricted_step : (p : WSym × List WSym) (theta tau : Pairs) → ((c : WSym) → applied (p ∷ []) (value_of theta c) ≡ value_of tau c) → (ms : List ℕ) → with_values (p ∷ []) (restricted theta ms) ≡ restricted tau ms
restricted_step p theta tau h [] = refl
restricted_step p theta tau h (m ∷ ms) =
    let keyed : List WSym → WSym × List WSym = λ v. (Work m, v) in
    ap (λ v. keyed v ∷ with_values (p ∷ []) (restricted theta ms)) (h (Work m)) ∙ ap (λ t. (Work m, value_of tau (Work m)) ∷ t) (restricted_step p theta tau h ms)

length-front : (b : List WSym) (j : ℕ) → j ≤ length b → length (take j b) ≡ j
length-front b j h = omega (arith, length-take j b)

pub drop_front : (b s : List WSym) (j : ℕ) → j ≤ length b → drop j (take j b ++ s) ≡ s
drop_front b s j h = ap (λ (k : ℕ). drop k (take j b ++ s)) (sym (length-front b j h)) ∙ drop-append_seam (take j b) s

-- equal heads further on
pub visit_further : (rule : Forbidden) (a b : List WSym) (theta : Pairs) (j i : ℕ) (rest : List WSym) → j ≤ i → i ≤ length b → applied theta a ≡ take i b ++ rest →
    visit rule (node_of a b theta j) ≡ visit_cut rule (restricted theta (numbers (a ++ b))) (cut rest (drop i b)).0 (cut rest (drop i b)).1
unfolding visit
visit_further rule a b theta j i rest l m e =
    let front : j ≤ length (take i b) = omega (arith, length-front b i m) in
    let left : drop j (applied theta a) ≡ drop j (take i b) ++ rest = ap (drop j) e ∙ drop-append-le j (take i b) rest front in
    let right : drop j b ≡ drop j (take i b) ++ drop i b = ap (drop j) (sym (take-append-drop i b)) ∙ drop-append-le j (take i b) (drop i b) front in
    let c : cut (drop j (applied theta a)) (drop j b) ≡ cut rest (drop i b) = rw (left, right) (cut-same (drop j (take i b)) rest (drop i b)) in
    ap (λ t. visit_cut rule (restricted theta (numbers (a ++ b))) t.0 t.1) c

-- a string that becomes plain has no variable that is not bound
pub not_met : (theta : Pairs) (n : ℕ) (s : List WSym) → value_at theta (Work n) ≡ None → IsPlain (applied theta s) → AllByRecursion (λ c. is_same (Work n) c ≡ false) s
unfolding applied
not_met theta n [] h p = tt
not_met theta n (c ∷ s) h p =
    let rest = not_met theta n s h (plain_right (value_of theta c) (applied theta s) p) in
    let first = plain_left (value_of theta c) (applied theta s) p in (
      elim (cases_same (Work n) c) [
        | inl e ↦ absurd (itself (subst (λ (d : WSym). IsPlain (value_of theta d)) (sym e) first))
        | inr e ↦ e
      ],
      rest,
    )
  where
    itself : IsPlain (value_of theta (Work n)) → ⊥
    itself q = let k : value_of theta (Work n) ≡ Work n ∷ [] = ap (or_itself (Work n)) h in let r = subst IsPlain k q in let z = r.0 in cc

pub applied_last : (theta : Pairs) (x : WSym) (w s : List WSym) → AllByRecursion (λ c. is_same x c ≡ false) s → applied (theta ++ (x, w) ∷ []) s ≡ applied theta s
unfolding applied
applied_last theta x w [] h = refl
applied_last theta x w (c ∷ s) h = let e = last_other theta x w c h.0 in let f = applied_last theta x w s h.1 in cc (e, f)

-- a part and what comes before it
pub front_part : (b : List WSym) (i j : ℕ) → i ≤ j → take i b ++ part b i j ≡ take j b
front_part b i j h = let e : i + (j - i) ≡ j = omega arith in sym (take-add i (j - i) b) ∙ ap (λ (k : ℕ). take k b) e

pub more_part : (b : List WSym) (i j : ℕ) (y : WSym) (r : List WSym) → i ≤ j → drop j b ≡ y ∷ r → part b i (j + 1) ≡ part b i j ++ y ∷ []
more_part b i j y r h e =
    let k : (j + 1) - i ≡ (j - i) + 1 = omega arith in
    let m : drop (j - i) (drop i b) ≡ drop j b = drop-drop (j - i) i b ∙ ap (λ (k : ℕ). drop k b) (let n : i + (j - i) ≡ j = omega arith in n) in
    ap (λ (n : ℕ). take n (drop i b)) k ∙ take-add (j - i) 1 (drop i b) ∙ ap (λ t. part b i j ++ take 1 t) (m ∙ e)

-- the whole pattern where a variable is open: the target's front, the variable and a rest
pub open_whole : (a b : List WSym) → IsPlain b → (path : List Bound) (o : Open) → Opens a b path o → (w : List WSym) →
    applied (with_value b path o.number w) a ≡ take o.from b ++ (w ++ applied (with_value b path o.number w) (drop (o.at + 1) a))
open_whole a b p path o h w =
    let theta = with_value b path o.number w in
    let front = not_met (parts_of b path) o.number (take o.at a) h.free (subst IsPlain (sym h.come) (plain_take o.from b p)) in
    ap (applied theta) h.parts
    ∙ applied-append theta (take o.at a) (Work o.number ∷ drop (o.at + 1) a)
    ∙ ap (λ s. s ++ applied theta (Work o.number ∷ drop (o.at + 1) a)) (applied_last (parts_of b path) (Work o.number) w (take o.at a) front ∙ h.come)
    ∙ ap (λ s. take o.from b ++ s) (applied-cons theta (Work o.number) (drop (o.at + 1) a) ∙ ap (λ v. v ++ applied theta (drop (o.at + 1) a)) (last_own (parts_of b path) (Work o.number) w h.free))

-- at the variable
pub open_rest : (a b : List WSym) → IsPlain b → (path : List Bound) (o : Open) → Opens a b path o →
    applied (with_value b path o.number (open_value b o)) a ≡ take o.to b ++ (Work o.number ∷ applied (with_value b path o.number (open_value b o)) (drop (o.at + 1) a))
open_rest a b p path o h =
    let rest = applied (with_value b path o.number (open_value b o)) (drop (o.at + 1) a) in
    open_whole a b p path o h (open_value b o)
    ∙ ap (λ s. take o.from b ++ s) (append_assoc (part b o.from o.to) (Work o.number ∷ []) rest)
    ∙ sym (append_assoc (take o.from b) (part b o.from o.to) (Work o.number ∷ rest))
    ∙ ap (λ s. s ++ (Work o.number ∷ rest)) (front_part b o.from o.to h.ordered)
