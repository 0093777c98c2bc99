-- Pairs of variables that must differ.
use Rattle.std.proofs.Common.{◌≡◌, ◌≢◌, ◌<◌, ℕ, zero, suc, ◌+◌, Bool, true, false, cond, not, ◌||◌, ◌&&◌, nat_eq, List, [], ◌∷◌, ◌++◌, length, map, filter, drop, get_or, All, refl, ap, sym, ◌∙◌, arith}
use Rattle.std.specs.List.{Contains, AllPairs, list_any}
use Rattle.std.proofs.lemmas.List.{at_drop_more}
use Rattle.std.proofs.lemmas.List.Elements.{All-append, All-map, All-weaker, All-filter, All-contains, All-contains_itself, filter_passes, Contains-append_left, Contains-append_right}
use Rattle.std.proofs.lemmas.List.Kept.{AllPairs-cons, AllPairs-filter}
use Rattle.std.proofs.Math.Bool.{and-false}
use Rattle.mm_tables.specs.Distinct.{is_held, holds_both, are_distinct, pairs_with, pairs_among, StandsBefore}

Listed : List (List ℕ) → List ℕ → ℕ × ℕ → Type 0
Listed groups vs q = StandsBefore vs q.0 q.1 × (are_distinct groups q.0 q.1 ≡ true)

stands_later : (w : ℕ) (vs : List ℕ) (u v : ℕ) → StandsBefore vs u v → StandsBefore (w ∷ vs) u v
stands_later w vs u v s = record { earlier = w ∷ s.earlier; later = s.later; whole = ap (λ xs. w ∷ xs) s.whole; follows = s.follows }

-- what is listed stands in order and must differ
pub listed : (groups : List (List ℕ)) (vs : List ℕ) → All (λ q. StandsBefore vs q.0 q.1 × (are_distinct groups q.0 q.1 ≡ true)) (pairs_among groups vs)
unfolding pairs_among
listed groups [] = λ k d h. absurd (omega (arith, h))
listed groups (w ∷ vs) =
    let test : ℕ → Bool = λ v. are_distinct groups w v in
    let P : ℕ × ℕ → Type 0 = λ q. StandsBefore (w ∷ vs) q.0 q.1 × (are_distinct groups q.0 q.1 ≡ true) in
    let Q : ℕ × ℕ → Type 0 = λ q. StandsBefore vs q.0 q.1 × (are_distinct groups q.0 q.1 ≡ true) in
    All-append P (pairs_with groups w vs) (pairs_among groups vs)
    (All-map P (λ v. (w, v)) (filter test vs) (λ k d h. (
      record { earlier = []; later = vs; whole = refl; follows = All-filter test (Contains vs) vs (All-contains_itself vs) k d h },
      filter_passes test vs k d h,
    )))
    (All-weaker Q P (λ q g. (stands_later w vs q.0 q.1 g.0, g.1)) (pairs_among groups vs) (listed groups vs))

kept_tail : (u x : ℕ) (ys : List ℕ) (q : ℕ × ℕ) (b : Bool) → Contains (map (λ v. (u, v)) ys) q → Contains (map (λ v. (u, v)) (cond b (x ∷ ys) ys)) q
kept_tail u x ys q true h = Contains-append_right ((u, x) ∷ []) (map (λ v. (u, v)) ys) q h
kept_tail u x ys q false h = h

has_with : (p : ℕ → Bool) (u v : ℕ) (vs : List ℕ) (k : ℕ) → k < length vs → get_or vs k v ≡ v → p v ≡ true
    → Contains {X = ℕ × ℕ} (map (λ v. (u, v)) (filter p vs)) (u, v)
has_with p u v [] k lt e h = absurd (omega (arith, lt))
has_with p u v (x ∷ vs) zero lt e h =
    let passes : p x ≡ true = ap p e ∙ h in
    let first : Contains {X = ℕ × ℕ} (map (λ v. (u, v)) (x ∷ filter p vs)) (u, v) = (0, omega arith, ap (λ y. (u, y)) e) in
    rw passes first
has_with p u v (x ∷ vs) (suc k) lt e h = kept_tail u x (filter p vs) (u, v) (p x) (has_with p u v vs k (omega (arith, lt)) e h)

has_pair : (groups : List (List ℕ)) (earlier : List ℕ) (u v : ℕ) (later : List ℕ) → Contains later v → are_distinct groups u v ≡ true
    → Contains (pairs_among groups (earlier ++ u ∷ later)) (u, v)
unfolding pairs_among
has_pair groups [] u v later c h =
    Contains-append_left (pairs_with groups u later) (pairs_among groups later) (u, v) (has_with (λ x. are_distinct groups u x) u v later c.0 c.1 c.2 h)
has_pair groups (w ∷ ws) u v later c h =
    Contains-append_right (pairs_with groups w (ws ++ u ∷ later)) (pairs_among groups (ws ++ u ∷ later)) (u, v) (has_pair groups ws u v later c h)

-- what stands in order and must differ is listed
pub has : (groups : List (List ℕ)) (vs : List ℕ) (u v : ℕ) → StandsBefore vs u v → are_distinct groups u v ≡ true → Contains (pairs_among groups vs) (u, v)
has groups vs u v s h = rw s.whole (has_pair groups s.earlier u v s.later s.follows h)

-- the pairs of one variable, and those of others
prefixed : (w : ℕ) (zs : List ℕ) (rest : List (ℕ × ℕ)) → AllPairs (λ u v. u ≢ v) zs → All (λ q. w ≢ q.0) rest → AllPairs (λ p q. p ≢ q) rest
    → AllPairs (λ p q. p ≢ q) (map (λ v. (w, v)) zs ++ rest)
prefixed w [] rest h away r = r
prefixed w (z ∷ zs) rest h away r =
    let P : ℕ × ℕ → Type 0 = λ q. (w, z) ≢ q in
    let N : ℕ × ℕ → Type 0 = λ q. w ≢ q.0 in
    AllPairs-cons (λ p q. p ≢ q) (w, z) (map (λ v. (w, v)) zs ++ rest)
    (All-append P (map (λ v. (w, v)) zs) rest
    (All-map P (λ v. (w, v)) zs (λ k d lt e. h 0 (suc k) d (omega arith) (omega (arith, lt)) (ap (λ (q : ℕ × ℕ). q.1) e)))
    (All-weaker N P (λ q n e. n (ap (λ (q : ℕ × ℕ). q.0) e)) rest away))
    (prefixed w zs rest (λ i j d lt small. h (suc i) (suc j) d (omega (arith, lt)) (omega (arith, small))) away r)

-- no pair is listed twice where no variable is
pub differ : (groups : List (List ℕ)) (vs : List ℕ) → AllPairs (λ u v. u ≢ v) vs → AllPairs (λ p q. p ≢ q) (pairs_among groups vs)
unfolding pairs_among
differ groups [] h = λ i j d lt small. absurd (omega (arith, small))
differ groups (w ∷ vs) h =
    let test : ℕ → Bool = λ v. are_distinct groups w v in
    let others : All (λ x. w ≢ x) vs = λ k d lt. h 0 (suc k) d (omega arith) (omega (arith, lt)) in
    let rest : AllPairs (λ u v. u ≢ v) vs = λ i j d lt small. h (suc i) (suc j) d (omega (arith, lt)) (omega (arith, small)) in
    let Q : ℕ × ℕ → Type 0 = λ q. StandsBefore vs q.0 q.1 × (are_distinct groups q.0 q.1 ≡ true) in
    let N : ℕ × ℕ → Type 0 = λ q. w ≢ q.0 in
    prefixed w (filter test vs) (pairs_among groups vs) (AllPairs-filter (λ u v. u ≢ v) test vs rest)
    (All-weaker Q N (λ q g. All-contains (λ x. w ≢ x) vs q.0 others (contained vs q.0 q.1 g.0)) (pairs_among groups vs) (listed groups vs))
    (differ groups vs rest)
  where
    contained : (vs : List ℕ) (u v : ℕ) → StandsBefore vs u v → Contains vs u
    contained vs u v s = let c : Contains (s.earlier ++ u ∷ s.later) u = Contains-append_right s.earlier (u ∷ s.later) u (0, omega arith, refl) in rw s.whole c

-- a loop's step: the pairs of one variable, and of those after it
pub among_step : (groups : List (List ℕ)) (vs : List ℕ) (i d : ℕ) → i < length vs
    → pairs_with groups (get_or vs i d) (drop (i + 1) vs) ++ pairs_among groups (drop (i + 1) vs) ≡ pairs_among groups (drop i vs)
unfolding pairs_among
among_step groups vs i d h = sym (at_drop_more (λ xs. pairs_among groups xs) vs i d h)

one_less : (a x r b : Bool) → (a || r) ≡ false → (r ≡ false → b ≡ false) → ((a && x) || b) ≡ false
one_less true x r b h f = cc
one_less false x r b h f = f h

-- a variable that no group holds stands in no pair
none_both : (groups : List (List ℕ)) (u v : ℕ) → list_any (λ g. is_held g u) groups ≡ false → list_any (holds_both u v) groups ≡ false
none_both [] u v h = refl
none_both (g ∷ gs) u v h = one_less (is_held g u) (is_held g v) (list_any (λ g. is_held g u) gs) (list_any (holds_both u v) gs) h (none_both gs u v)

none_differ : (groups : List (List ℕ)) (u v : ℕ) → list_any (λ g. is_held g u) groups ≡ false → are_distinct groups u v ≡ false
unfolding are_distinct
none_differ groups u v h = ap (λ b. not (nat_eq u v) && b) (none_both groups u v h) ∙ and-false (not (nat_eq u v))

pub none_with : (groups : List (List ℕ)) (u : ℕ) (vs : List ℕ) → list_any (λ g. is_held g u) groups ≡ false → pairs_with groups u vs ≡ []
none_with groups u [] h = refl
none_with groups u (v ∷ vs) h = rw (none_differ groups u v h) (none_with groups u vs h)

pub none_among : (vs : List ℕ) → pairs_among [] vs ≡ []
unfolding pairs_among
none_among [] = refl
none_among (v ∷ vs) = rw (none_with [] v vs refl) (none_among vs)
