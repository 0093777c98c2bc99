-- Between the listed pairs and the values at each work variable; the theorem of exactly one.
use Rattle.std.proofs.Common.{ℕ, zero, suc, ◌≡◌, ◌<◌, List, [], ◌∷◌, ◌++◌, false, cond, eqb, ltb, map, length, get_or, refl, sym, ap, ◌∙◌, subst, inl, inr, arith}
use Rattle.std.specs.List.{AllByRecursion}
use Rattle.std.proofs.lemmas.Bool.{cond_both, ltb-true, ltb-false, eqb-false}
use Rattle.std.proofs.lemmas.List.Elements.{recursion_from_All, All-from_recursion}
use Rattle.mm_subst.specs.declared.symbol.WSym.{WSym}
use Rattle.mm_subst.specs.declared.symbol.WSym.TheVariants.{Const, Var, Work}
use Rattle.mm_subst.specs.Symbols.{is_same}
use Rattle.mm_subst.specs.Substitutions.{Pairs, value_of, applied}
use Rattle.mm_unify.specs.Unifying.{Unifies}
use Rattle.mm_unify.specs.Search.{explore, root}
use Rattle.mm_unify.specs.Forbidden.{Forbidden}
use Rattle.mm_unify.specs.Variables.{numbers, with_number}
use Rattle.mm_unify.specs.Unifying.{IsInstance, ExactlyOne}
use Rattle.mm_unify.specs.declared.listing.Ended.TheVariants.{Whole}
use Rattle.mm_subst.proofs.Keys.{is_same-true, is_same-itself}
use Rattle.mm_unify.proofs.Mapping.{is_same-false, value_cases, value_first, value_later}
use Rattle.mm_unify.proofs.Proper.{good, proper}
use Rattle.mm_unify.proofs.Lists.{NoneOf, OneOf}
use Rattle.mm_unify.proofs.Root.{Has, listed_once}
use Rattle.mm_unify.proofs.Explored.{Lists}
use Rattle.mm_unify.proofs.Opened.{IsOff}
use Rattle.mm_unify.proofs.Sound.{keys, Solves, sound}

-- rising numbers
abbrev pub Rising : List ℕ → Type 0
Rising [] = Unit {0}
Rising (m ∷ ms) = AllByRecursion (λ k. m < k) ms × Rising ms

above_more : (m n : ℕ) (ms : List ℕ) → m < n → AllByRecursion (λ k. m < k) ms → AllByRecursion (λ k. m < k) (with_number n ms)
above_more m n [] h a = (h, tt)
above_more m n (k ∷ ms) h a =
    cond_both (ltb n k) (n ∷ k ∷ ms) (cond (eqb n k) (k ∷ ms) (k ∷ with_number n ms)) (λ t. AllByRecursion (λ k. m < k) t) (λ e. (h, a))
    (λ e. cond_both (eqb n k) (k ∷ ms) (k ∷ with_number n ms) (λ t. AllByRecursion (λ k. m < k) t) (λ f. a) (λ f. (a.0, above_more m n ms h a.1)))

above_further : (m n : ℕ) (ms : List ℕ) → n < m → AllByRecursion (λ k. m < k) ms → AllByRecursion (λ k. n < k) ms
above_further m n [] h a = tt
above_further m n (k ∷ ms) h a = (let f = a.0 in omega arith, above_further m n ms h a.1)

rising_more : (n : ℕ) (ms : List ℕ) → Rising ms → Rising (with_number n ms)
rising_more n [] h = (tt, tt)
rising_more n (m ∷ ms) h =
    cond_both (ltb n m) (n ∷ m ∷ ms) (cond (eqb n m) (m ∷ ms) (m ∷ with_number n ms)) Rising
    (λ e. ((ltb-true n m e, above_further m n ms (ltb-true n m e) h.0), h))
    (λ e. cond_both (eqb n m) (m ∷ ms) (m ∷ with_number n ms) Rising (λ f. h)
    (λ f. let a = ltb-false n m e in let b = eqb-false n m f in (above_more m n ms (omega arith) h.0, rising_more n ms h.1)))

pub rising_numbers : (s : List WSym) → Rising (numbers s)
rising_numbers [] = tt
rising_numbers (Work n ∷ s) = rising_more n (numbers s) (rising_numbers s)
rising_numbers (Const n ∷ s) = rising_numbers s
rising_numbers (Var n ∷ s) = rising_numbers s

pub not_here : (m n : ℕ) → m < n → is_same (Work m) (Work n) ≡ false
not_here m n h = is_same-false (Work m) (Work n) (λ e. let f : m ≡ n = cc in omega arith)

pub above_has : (m n : ℕ) (ms : List ℕ) → AllByRecursion (λ k. m < k) ms → Has n ms → m < n
above_has m n [] a h = absurd h
above_has m n (k ∷ ms) a (inl e) = let f = a.0 in omega arith
above_has m n (k ∷ ms) a (inr h) = above_has m n ms a.1 h

-- a fact of each pair is one of each number's value
pub at_numbers : (P : WSym → List WSym → Type 0) (u : Pairs) (ms : List ℕ) → keys u ≡ map Work ms → AllByRecursion (λ q. P q.0 q.1) u → (n : ℕ) → Has n ms → P (Work n) (value_of u (Work n))
at_numbers P u [] e h n k = absurd k
at_numbers P [] (m ∷ ms) e h n k = cc
at_numbers P (q ∷ u) (m ∷ ms) e h n k =
    let a : q.0 ≡ Work m = cc in
    let b : keys u ≡ map Work ms = cc in
    value_cases q u (Work n) (P (Work n))
    (λ s. subst (λ (c : WSym). P c q.1) (is_same-true q.0 (Work n) s) h.0)
    (λ s. elim k [
      | inl i ↦ absurd (let f : q.0 ≡ Work n = a ∙ ap Work (sym i) in let g = ap (is_same q.0) f in let o = is_same-itself q.0 in cc)
      | inr j ↦ at_numbers P u ms b h.1 n j
    ])

-- and back, where the numbers rise
pub at_pairs : (P : WSym → List WSym → Type 0) (u : Pairs) (ms : List ℕ) → keys u ≡ map Work ms → Rising ms → ((n : ℕ) → Has n ms → P (Work n) (value_of u (Work n))) → AllByRecursion (λ q. P q.0 q.1) u
at_pairs P [] ms e r h = tt
at_pairs P (q ∷ u) [] e r h = cc
at_pairs P (q ∷ u) (m ∷ ms) e r h =
    let a : q.0 ≡ Work m = cc in
    let b : keys u ≡ map Work ms = cc in
    let own : value_of (q ∷ u) (Work m) ≡ q.1 = value_first q u (Work m) (ap (λ (c : WSym). is_same c (Work m)) a ∙ is_same-itself (Work m)) in (
      subst (λ (c : WSym). P c q.1) (sym a) (subst (P (Work m)) own (h m (inl refl))),
      at_pairs P u ms b r.1 (λ n k.
          let o : value_of (q ∷ u) (Work n) ≡ value_of u (Work n) = value_later q u (Work n) (ap (λ (c : WSym). is_same c (Work n)) a ∙ not_here m n (above_has m n ms r.0 k)) in
          subst (P (Work n)) o (h n (inr k))),
    )

-- for each of the numbers, by place or by membership
pub all_has : (P : ℕ → Type 0) (ms : List ℕ) → ((n : ℕ) → Has n ms → P n) → AllByRecursion P ms
all_has P [] h = tt
all_has P (m ∷ ms) h = (h m (inl refl), all_has P ms (λ n k. h n (inr k)))

pub has_all : (P : ℕ → Type 0) (ms : List ℕ) → AllByRecursion P ms → (n : ℕ) → Has n ms → P n
has_all P [] h n k = absurd k
has_all P (m ∷ ms) h n (inl e) = subst P (sym e) h.0
has_all P (m ∷ ms) h n (inr k) = has_all P ms h.1 n k

pub instance : (theta u : Pairs) (ms : List ℕ) → keys u ≡ map Work ms → Lists theta u → IsInstance theta u ms
instance theta u ms e h = (
  h.rho,
  proper h.rho h.good,
  All-from_recursion (λ n. value_of theta (Work n) ≡ applied h.rho (value_of u (Work n))) ms
      (all_has (λ n. value_of theta (Work n) ≡ applied h.rho (value_of u (Work n))) ms (at_numbers (λ c w. value_of theta c ≡ applied h.rho w) u ms e h.agrees)),
)

pub listed : (theta u : Pairs) (ms : List ℕ) → keys u ≡ map Work ms → Rising ms → IsInstance theta u ms → Lists theta u
listed theta u ms e r h = record {
  rho = h.0;
  good = good h.0 h.1;
  agrees = at_pairs (λ c w. value_of theta c ≡ applied h.0 w) u ms e r
      (has_all (λ n. value_of theta (Work n) ≡ applied h.0 (value_of u (Work n))) ms (recursion_from_All (λ n. value_of theta (Work n) ≡ applied h.0 (value_of u (Work n))) ms h.2));
}

none_at : {X : Type 0} (P : X → Type 0) (xs : List X) → NoneOf P xs → (j : ℕ) (d : X) → j < length xs → P (get_or xs j d) → ⊥
none_at P [] h j d l p = omega arith
none_at P (x ∷ xs) h zero d l p = h.0 p
none_at P (x ∷ xs) h (suc j) d l p = none_at P xs h.1 j d (omega arith) p

pub exactly_one : {X : Type 0} (P Q : X → Type 0) (xs : List X) → AllByRecursion (λ x. (P x → Q x) × (Q x → P x)) xs → OneOf P xs → ExactlyOne Q xs
exactly_one P Q [] e h = absurd h
exactly_one {X} P Q (x ∷ xs) e (inl h) = (0, omega arith, ((λ d. e.0.0 h.0)), only)
  where
    none : (ys : List X) → AllByRecursion (λ x. (P x → Q x) × (Q x → P x)) ys → NoneOf P ys → NoneOf Q ys
    none [] f n = tt
    none (y ∷ ys) f n = ((λ q. n.0 (f.0.1 q)), none ys f.1 n.1)

    only : (j : ℕ) (d : X) → j < suc (length xs) → Q (get_or (x ∷ xs) j d) → j ≡ 0
    only zero d l p = refl
    only (suc j) d l p = absurd (none_at Q xs (none xs e.1 h.1) j d (omega arith) p)
exactly_one {X} P Q (x ∷ xs) e (inr h) = later (exactly_one P Q xs e.1 h.1)
  where
    later : ExactlyOne Q xs → ExactlyOne Q (x ∷ xs)
    later r = (suc r.0, (let l = r.1 in omega arith), r.2, only)
      where
        only : (j : ℕ) (d : X) → j < suc (length xs) → Q (get_or (x ∷ xs) j d) → j ≡ suc r.0
        only zero d l p = absurd (h.0 (e.0.1 p))
        only (suc j) d l p = ap suc (r.3 j d (omega arith) p)

-- with no brackets and a whole listing, theta is an instance of exactly one listed unifier
pub complete : (rule : Forbidden) → IsOff rule → (theta : Pairs) (a b : List WSym) (n : ℕ) → (explore rule n (root a b ∷ [])).ended ≡ Whole →
    Unifies theta a b → ExactlyOne (λ u. IsInstance theta u (numbers (a ++ b))) (explore rule n (root a b ∷ [])).found
complete rule off theta a b n e h =
    exactly_one (Lists theta) (λ u. IsInstance theta u (numbers (a ++ b))) (explore rule n (root a b ∷ [])).found
    (each (explore rule n (root a b ∷ [])).found (sound rule a b n)) (listed_once rule off theta a b n e h)
  where
    each : (us : List Pairs) → AllByRecursion (Solves a b) us → AllByRecursion (λ u. (Lists theta u → IsInstance theta u (numbers (a ++ b))) × (IsInstance theta u (numbers (a ++ b)) → Lists theta u)) us
    each [] s = tt
    each (u ∷ us) s = ((instance theta u (numbers (a ++ b)) s.0.keys_are, listed theta u (numbers (a ++ b)) s.0.keys_are (rising_numbers (a ++ b))), each us s.1)
