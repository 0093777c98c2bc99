-- No rank is greater than the number of the parts of the goal, for each typecode.
use Rattle.std.proofs.Common.{◌≡◌, ◌≤◌, ◌<◌, ◌+◌, ◌-◌, ◌*◌, ℕ, zero, suc, Bool, true, false, cond, ◌||◌, List, [], ◌∷◌, ◌++◌, Option, None, Some, length, map, take, drop, eqb, refl, sym, ◌∙◌, ap, arith, inl, inr, ◌⊎◌, subst}
use Rattle.std.specs.Prelude.{◌/◌, ◌%◌}
use Rattle.std.specs.List.{list_all, list_any, flat_map, IsDistinct, AllByRecursion}
use Rattle.std.proofs.lemmas.Bool.{cases_Bool, cases_eq, cases_lt, and_cases, and_parts, false≢true, true≢false, ne_eqb, le-leb, lt-leb}
use Rattle.std.proofs.lemmas.List.{take_all}
use Rattle.std.proofs.lemmas.Map.Keys.{IsDistinct-cons}
use Rattle.std.proofs.lemmas.Map.Steps.{length-le_from_distinct_below}
use Rattle.std.proofs.Math.Nat.{mul_assoc}
use Rattle.std.proofs.lemmas.Nat.{div-mul-add, mod-mul-add}
use Rattle.mm_subst.specs.declared.symbol.WSym.{WSym}
use Rattle.mm_subst.specs.declared.symbol.WSym.TheVariants.{Const}
use Rattle.mm_subst.specs.Symbols.{is_same}
use Rattle.mm_unify.specs.Matching.{behind, onward}
use Rattle.mm_unify.specs.Parts.{part}
use Rattle.mm_unify.proofs.Sorted.{Among, among_mapped, among_some_length, among_either}
use Rattle.mm_unify.proofs.Matched.{behind-some}
use Rattle.mm_chart.specs.declared.grammar.Item.{Item}
use Rattle.mm_chart.specs.declared.grammar.Item.TheVariants.{Fixed, Again, New}
use Rattle.mm_chart.specs.Options.{is_there, or_else, on, first}
use Rattle.mm_chart.specs.Items.{Goal, Assertion, Grammar, Use, Chosen, by_use, chosen, serves, fits, uses, uses_of, matches, value, IsAnswer}
use Rattle.mm_chart.proofs.Parts.{length-part, take-part, drop-part}
use Rattle.mm_chart.proofs.Ranks.{chosen-suc, chosen_next}
use Rattle.mm_chart.proofs.Symbols.{same-true}

-- ## Goals by numbers

-- a part of the text
record IsPart (t w : List WSym) : Type 0 where
  from : ℕ
  to : ℕ
  ordered : from ≤ to
  within : to ≤ length t
  is : w ≡ part t from to

-- one of so many constants, and a part of the text
record IsPlace (count : ℕ) (t : List WSym) (g : Goal) : Type 0 where
  number : ℕ
  small : number < count
  code : g.0 ≡ Const number
  text : IsPart t g.1

abbrev pub places : List WSym → ℕ
places t = length t + 1

goal_at : List WSym → ℕ → Goal
goal_at t q = (Const (q / places t / places t), part t (q / places t % places t) (q % places t))

number_of : (count : ℕ) (t : List WSym) (g : Goal) → IsPlace count t g → ℕ
number_of count t g p = (p.number * places t + p.text.from) * places t + p.text.to

goal_number : (count : ℕ) (t : List WSym) (g : Goal) (p : IsPlace count t g) → goal_at t (number_of count t g p) ≡ g
unfolding goal_at number_of
goal_number count t g p =
    let L = length t + 1 in
    let a = p.number * L + p.text.from in
    let from : p.text.from < L = let x = p.text.ordered in let y = p.text.within in omega arith in
    let to : p.text.to < L = let y = p.text.within in omega arith in
    let d : (a * L + p.text.to) / L ≡ a = div-mul-add a L p.text.to to in
    let m : (a * L + p.text.to) % L ≡ p.text.to = mod-mul-add a L p.text.to to in
    let e : a / L ≡ p.number = div-mul-add p.number L p.text.from from in
    let f : a % L ≡ p.text.from = mod-mul-add p.number L p.text.from from in
    ap (λ (q : ℕ). (Const (q / L), part t (q % L) ((a * L + p.text.to) % L))) d
    ∙ ap (λ (q : ℕ). (Const (a / L), part t (a % L) q)) m
    ∙ ap (λ (q : ℕ). (Const q, part t (a % L) p.text.to)) e
    ∙ ap (λ (q : ℕ). (Const p.number, part t q p.text.to)) f
    ∙ ap (λ (w : List WSym). (Const p.number, w)) (sym p.text.is)
    ∙ ap (λ (x : WSym). (x, g.1)) (sym p.code)

less_times : (a b L : ℕ) → a < b → a * L + L ≤ b * L
less_times a zero L h = absurd (omega arith)
less_times a (suc b) L h = elim (cases_lt a b) [
  | inl m ↦ let i = less_times a b L m in omega arith
  | inr m ↦ let e : a ≡ b = omega arith in subst (λ k. k * L + L ≤ suc b * L) (sym e) (omega arith)
]

number_below : (count : ℕ) (t : List WSym) (g : Goal) (p : IsPlace count t g) → number_of count t g p < count * (places t * places t)
unfolding number_of
number_below count t g p =
    let L = length t + 1 in
    let from : p.text.from < L = let x = p.text.ordered in let y = p.text.within in omega arith in
    let to : p.text.to < L = let y = p.text.within in omega arith in
    let one : p.number * L + L ≤ count * L = less_times p.number count L p.small in
    let a = p.number * L + p.text.from in
    let less : a < count * L = omega (arith, one, from) in
    let two : a * L + L ≤ count * L * L = less_times a (count * L) L less in
    let same : count * L * L ≡ count * (L * L) = mul_assoc count L L in
    omega (arith, two, to, same)

-- ## What a match takes

-- the typecodes of the variables of a conclusion
abbrev pub HasOwnCodes : ℕ → List Item → Type 0
HasOwnCodes count [] = Unit {0}
HasOwnCodes count (Fixed x ∷ items) = HasOwnCodes count items
HasOwnCodes count (Again k ∷ items) = HasOwnCodes count items
HasOwnCodes count (New code ∷ items) = ((n : ℕ) × (n < count) × (code ≡ Const n)) × HasOwnCodes count items

part-taken : (t w : List WSym) (n : ℕ) → n ≤ length w → IsPart t w → IsPart t (take n w)
part-taken t w n l p =
    let i = p.from in
    let j = p.to in
    let o = p.ordered in
    let h = p.within in
    let size : length w ≡ j - i = ap length p.is ∙ length-part t i j o h in
    record {
      from = i;
      to = i + n;
      ordered = omega arith;
      within = omega arith;
      is = ap (take n) p.is ∙ ap (λ (k : ℕ). take k (part t i j)) (let e : n ≡ (i + n) - i = omega arith in e) ∙ take-part t i (i + n) j (omega arith) (omega arith);
    }

part-dropped : (t w : List WSym) (n : ℕ) → n ≤ length w → IsPart t w → IsPart t (drop n w)
part-dropped t w n l p =
    let i = p.from in
    let j = p.to in
    let o = p.ordered in
    let h = p.within in
    let size : length w ≡ j - i = ap length p.is ∙ length-part t i j o h in
    record {
      from = i + n;
      to = j;
      ordered = omega arith;
      within = h;
      is = ap (drop n) p.is ∙ ap (λ (k : ℕ). drop k (part t i j)) (let e : n ≡ (i + n) - i = omega arith in e) ∙ drop-part t i (i + n) j (omega arith) (omega arith);
    }

drop-front : (w s : List WSym) → drop (length w) (w ++ s) ≡ s
drop-front [] s = refl
drop-front (c ∷ w) s = drop-front w s

front-short : (w s : List WSym) → length w ≤ length (w ++ s)
front-short [] s = omega arith
front-short (c ∷ w) s = let i = front-short w s in omega arith

part-behind : (t w s r : List WSym) → IsPart t s → behind w s ≡ Some r → IsPart t r
part-behind t w s r p e =
    let q = behind-some w s r e in
    subst (IsPart t) (ap (drop (length w)) q ∙ drop-front w r) (part-dropped t s (length w) (subst (λ x. length w ≤ length x) (sym q) (front-short w r)) p)

module _ (count : ℕ) (t : List WSym) where
  abbrev ArePlaces : List Goal → Type 0
  ArePlaces v = AllByRecursion (IsPlace count t) v

  push : (v : List Goal) (g : Goal) → ArePlaces v → IsPlace count t g → ArePlaces (v ++ g ∷ [])
  push [] g h k = (k, tt)
  push (x ∷ v) g h k = (h.0, push v g h.1 k)

  -- the values of a match are parts of the text
  values-placed : (ok : List Goal → Bool) (is : List Item) (v : List Goal) (s : List WSym) (m : List Goal) → ArePlaces v → IsPart t s → HasOwnCodes count is → Among m (matches ok is v s) → ArePlaces m
  values-placed ok [] v [] m a p o h = ended (ok v) h
    where
      ended : (b : Bool) → Among m (cond b (v ∷ []) []) → ArePlaces m
      ended true (inl e) = subst ArePlaces (sym e) a
      ended true (inr k) = absurd k
      ended false k = absurd k
  values-placed ok [] v (c ∷ s) m a p o h = absurd h
  values-placed ok (Fixed c ∷ is) v s m a p o h = fixed (behind (c ∷ []) s) refl h (λ r k x. values-placed ok is v r m a x o k)
    where
      fixed : (x : Option (List WSym)) → behind (c ∷ []) s ≡ x → Among m (onward (matches ok is v) x) → ((r : List WSym) → Among m (matches ok is v r) → IsPart t r → ArePlaces m) → ArePlaces m
      fixed None e k ih = absurd k
      fixed (Some r) e k ih = ih r k (part-behind t (c ∷ []) s r p e)
  values-placed ok (Again i ∷ is) v s m a p o h = again (behind (value v i) s) refl h (λ r k x. values-placed ok is v r m a x o k)
    where
      again : (x : Option (List WSym)) → behind (value v i) s ≡ x → Among m (onward (matches ok is v) x) → ((r : List WSym) → Among m (matches ok is v r) → IsPart t r → ArePlaces m) → ArePlaces m
      again None e k ih = absurd k
      again (Some r) e k ih = ih r k (part-behind t (value v i) s r p e)
  values-placed ok (New code ∷ is) v s m a p o h =
      let r = among_some_length (λ n. matches ok is (v ++ (code, take n s) ∷ []) (drop n s)) (length s) m h in
      let g : IsPlace count t (code, take r.0 s) = record { number = o.0.0; small = o.0.1; code = o.0.2; text = part-taken t s r.0 r.2 p } in
      values-placed ok is (v ++ (code, take r.0 s) ∷ []) (drop r.0 s) m (push v (code, take r.0 s) a g) (part-dropped t s r.0 r.2 p) o.1 r.3

-- ## Ranks

abbrev pub IsOwnCode : ℕ → WSym → Type 0
IsOwnCode count x = (n : ℕ) × (n < count) × (x ≡ Const n)

-- all typecodes of a grammar are among so many constants
abbrev pub HasCodes : ℕ → Grammar → Type 0
HasCodes count G = (a : Assertion) → Among a G.assertions → IsOwnCode count a.code × HasOwnCodes count a.items

among_flat : {X Y : Type 0} (f : X → List Y) (xs : List X) (y : Y) → Among y (flat_map f xs) → (x : X) × Among x xs × Among y (f x)
among_flat f [] y h = absurd h
among_flat f (x ∷ xs) y h = elim (among_either y (f x) (flat_map f xs) h) [
  | inl a ↦ (x, inl refl, a)
  | inr b ↦ let r = among_flat f xs y b in (r.0, inr r.1, r.2)
]

pub first_among : {X : Type 0} (p : X → Bool) (xs : List X) (x : X) → first p xs ≡ Some x → Among x xs × (p x ≡ true)
first_among p [] x h = absurd (cc)
first_among p (y ∷ xs) x h = elim (cases_Bool (p y)) [
  | inl e ↦ let s : Some y ≡ Some x = sym (ap (λ (b : Bool). cond b (Some y) (first p xs)) e) ∙ h in let q : y ≡ x = cc in (inl (sym q), ap p (sym q) ∙ e)
  | inr e ↦ let r = first_among p xs x (sym (ap (λ (b : Bool). cond b (Some y) (first p xs)) e) ∙ h) in (inr r.0, r.1)
]

first_there : {X : Type 0} (p : X → Bool) (xs : List X) (x : X) → Among x xs → p x ≡ true → first p xs ≡ None → ⊥
first_there p [] x a e n = a
first_there p (y ∷ xs) x a e n = elim (cases_Bool (p y)) [
  | inl f ↦ let s : Some y ≡ None = sym (ap (λ (b : Bool). cond b (Some y) (first p xs)) f) ∙ n in absurd (cc)
  | inr f ↦ later a f (λ b. first_there p xs x b e (sym (ap (λ (b : Bool). cond b (Some y) (first p xs)) f) ∙ n))
]
  where
    later : (x ≡ y) ⊎ Among x xs → p y ≡ false → (Among x xs → ⊥) → ⊥
    later (inl q) f z = true≢false (sym e ∙ ap p q ∙ f)
    later (inr b) f z = z b

there : {A : Type 0} (o : Option A) → is_there o ≡ true → (a : A) × (o ≡ Some a)
there None h = absurd (false≢true h)
there (Some a) h = (a, refl)

not_there : {A : Type 0} (o : Option A) → is_there o ≡ false → o ≡ None
not_there None h = refl
not_there (Some a) h = absurd (true≢false h)

module _ (G : Grammar) (count : ℕ) (own : HasCodes count G) (t : List WSym) where
  abbrev pub limit : ℕ
  limit = count * (places t * places t)

  -- the rank of a goal is one greater
  abbrev pub HasRank : ℕ → Goal → Type 0
  HasRank r g = (is_there (chosen G (suc r) g) ≡ true) × (chosen G r g ≡ None)

  used : (g : Goal) (u : Use) → Among u (uses G g) → (a : Assertion) × Among a G.assertions × (is_same a.code g.0 ≡ true) × Among u.1 (matches (fits G a.apart) a.items [] g.1)
  used g u h =
      let r = among_flat (uses_of G g) G.assertions u h in
      let a = r.0 in
      by a r.1 (is_same a.code g.0) refl r.2
    where
      by : (a : Assertion) → Among a G.assertions → (b : Bool) → is_same a.code g.0 ≡ b → Among u (cond b (map (λ v. (a.id, v)) (matches (fits G a.apart) a.items [] g.1)) [])
          → (a : Assertion) × Among a G.assertions × (is_same a.code g.0 ≡ true) × Among u.1 (matches (fits G a.apart) a.items [] g.1)
      by a k false e m = absurd m
      by a k true e m =
          let q = among_mapped (λ v. (a.id, v)) u (matches (fits G a.apart) a.items [] g.1) m in
          (a, k, e, subst (λ (x : Use). Among x.1 (matches (fits G a.apart) a.items [] g.1)) (sym q.2) q.1)

  parts_placed : (g : Goal) → IsPart t g.1 → (u : Use) → Among u (uses G g) → ArePlaces count t u.1
  parts_placed g p u h =
      let r = used g u h in
      values-placed count t (fits G r.0.apart) r.0.items [] g.1 u.1 tt p (own r.0 r.1).1 r.3

  -- the last step of a goal with a rank
  last : (r : ℕ) (g : Goal) → HasRank r g → (u : Use) × Among u (uses G g) × (serves (chosen G r) u ≡ true)
  last r g h =
      let us = uses G g in
      let e : chosen G (suc r) g ≡ on (by_use (suc r)) (first (serves (chosen G r)) us) = chosen-suc G r g ∙ ap (λ (o : Option Chosen). or_else o (on (by_use (suc r)) (first (serves (chosen G r)) us))) h.1 in
      by (first (serves (chosen G r)) us) refl (sym (ap is_there e) ∙ h.0)
    where
      by : (o : Option Use) → first (serves (chosen G r)) (uses G g) ≡ o → is_there (on (by_use (suc r)) o) ≡ true → (u : Use) × Among u (uses G g) × (serves (chosen G r) u ≡ true)
      by None e k = absurd (false≢true k)
      by (Some u) e k = let f = first_among (serves (chosen G r)) (uses G g) u e in (u, f.0, f.1)

  missing : (p q : Goal → Bool) (v : List Goal) → ArePlaces count t v → list_all p v ≡ true → list_all q v ≡ false → (h : Goal) × IsPlace count t h × (p h ≡ true) × (q h ≡ false)
  missing p q [] a h k = absurd (true≢false k)
  missing p q (g ∷ v) a h k =
      let b = and_parts (p g) (list_all p v) h in
      elim (and_cases (q g) (list_all q v) k) [
        | inl e ↦ (g, a.0, b.0, e)
        | inr e ↦ missing p q v a.1 b.1 e
      ]

  unserved : (r : ℕ) (g : Goal) (u : Use) → chosen G (suc r) g ≡ None → Among u (uses G g) → serves (chosen G r) u ≡ true → ⊥
  unserved r g u n a s =
      first_there (serves (chosen G r)) (uses G g) u a s (nothing (chosen G r g) (first (serves (chosen G r)) (uses G g)) (sym (chosen-suc G r g) ∙ n))
    where
      nothing : (o : Option Chosen) (f : Option Use) → or_else o (on (by_use (suc r)) f) ≡ None → f ≡ None
      nothing None None h = refl
      nothing None (Some u) h = absurd (cc)
      nothing (Some x) f h = absurd (cc)

  -- some part has a rank that is one less
  down : (r : ℕ) (g : Goal) → IsPart t g.1 → HasRank (suc r) g → (h : Goal) × IsPlace count t h × HasRank r h
  down r g p h =
      let l = last (suc r) g h in
      let u = l.0 in
      elim (cases_Bool (serves (chosen G r) u)) [
        | inl e ↦ absurd (unserved r g u h.1 l.1 e)
        | inr e ↦
            let m = missing (λ x. is_there (chosen G (suc r) x)) (λ x. is_there (chosen G r x)) u.1 (parts_placed g p u l.1) l.2 e in
            (m.0, m.1, (m.2, not_there (chosen G r m.0) m.3))
      ]

  -- numbers of goals of all ranks up to one
  record IsChain (r : ℕ) (ns : List ℕ) : Type 0 where
    distinct : IsDistinct eqb ns
    long : length ns ≡ suc r
    each : AllByRecursion (λ n. (n < limit) × (is_there (chosen G (suc r) (goal_at t n)) ≡ true)) ns

  raised : (r : ℕ) (g : Goal) → is_there (chosen G r g) ≡ true → is_there (chosen G (suc r) g) ≡ true
  raised r g h = let x = there (chosen G r g) h in ap is_there (chosen_next G r g x.0 x.1)

  all_raised : (r : ℕ) (ns : List ℕ) → AllByRecursion (λ n. (n < limit) × (is_there (chosen G (suc r) (goal_at t n)) ≡ true)) ns → AllByRecursion (λ n. (n < limit) × (is_there (chosen G (suc (suc r)) (goal_at t n)) ≡ true)) ns
  all_raised r [] h = tt
  all_raised r (n ∷ ns) h = ((h.0.0, raised (suc r) (goal_at t n) h.0.1), all_raised r ns h.1)

  apart : (r n : ℕ) (ns : List ℕ) → chosen G (suc r) (goal_at t n) ≡ None → AllByRecursion (λ n. (n < limit) × (is_there (chosen G (suc r) (goal_at t n)) ≡ true)) ns → AllByRecursion (λ m. eqb n m ≡ false) ns
  apart r n [] e h = tt
  apart r n (m ∷ ns) e h = (ne_eqb n m (λ q. true≢false (sym h.0.1 ∙ ap (λ k. is_there (chosen G (suc r) (goal_at t k))) (sym q) ∙ ap is_there e)), apart r n ns e h.1)

  none : IsDistinct eqb []
  unfolding IsDistinct
  none = tt

  chain : (r : ℕ) (g : Goal) → IsPlace count t g → HasRank r g → (ns : List ℕ) × IsChain r ns
  chain zero g p h =
      let n = number_of count t g p in
      (n ∷ [], record { distinct = IsDistinct-cons eqb n [] tt none; long = refl; each = ((number_below count t g p, ap (λ x. is_there (chosen G 1 x)) (goal_number count t g p) ∙ h.0), tt) })
  chain (suc r) g p h =
      let d = down r g p.text h in
      let c = chain r d.0 d.1 d.2 in
      let n = number_of count t g p in
      let same = goal_number count t g p in (
        n ∷ c.0,
        record {
          distinct = IsDistinct-cons eqb n c.0 (apart r n c.0 (ap (chosen G (suc r)) same ∙ h.1) c.1.each) c.1.distinct;
          long = ap suc c.1.long;
          each = ((number_below count t g p, ap (λ x. is_there (chosen G (suc (suc r)) x)) same ∙ h.0), all_raised r c.0 c.1.each);
        },
      )

  below : (ns : List ℕ) (r q : ℕ) → AllByRecursion (λ n. (n < limit) × (is_there (chosen G (suc r) (goal_at t n)) ≡ true)) ns → list_any (eqb q) ns ≡ true → q < limit
  below [] r q h e = absurd (false≢true e)
  below (n ∷ ns) r q h e = elim (cases_eq q n) [
    | inl f ↦ subst (λ k. k < limit) (sym f) h.0.0
    | inr f ↦ below ns r q h.1 (sym (ap (λ (b : Bool). b || list_any (eqb q) ns) (ne_eqb q n f)) ∙ e)
  ]

  whole : IsPart t t
  whole = record { from = 0; to = length t; ordered = omega arith; within = omega arith; is = sym (take_all (length t - 0) t (omega arith)) }

  place_of : (code : WSym) (r : ℕ) → HasRank r (code, t) → IsPlace count t (code, t)
  place_of code r h =
      let l = last r (code, t) h in
      let u = used (code, t) l.0 l.1 in
      let c = (own u.0 u.1).0 in
      record { number = c.0; small = c.1; code = sym (same-true u.0.code code u.2) ∙ c.2; text = whole }

  -- no rank is greater than the limit
  pub ranks_below : (code : WSym) (r : ℕ) → HasRank r (code, t) → suc r ≤ limit
  ranks_below code r h =
      let c = chain r (code, t) (place_of code r h) h in
      let l = length-le_from_distinct_below c.0 limit c.1.distinct (λ q. below c.0 r q c.1.each) in
      omega (arith, l, c.1.long)

  -- so the answer is known there
  pub known_at_limit : (code : WSym) (o : Option Chosen) → IsAnswer G (code, t) o → chosen G limit (code, t) ≡ o
  known_at_limit code None h = h limit
  known_at_limit code (Some x) h = h limit ∙ ap (λ (b : Bool). cond b (Some x) None) (le-leb x.rank limit (by x.rank refl))
    where
      by : (k : ℕ) → x.rank ≡ k → x.rank ≤ limit
      by zero e = omega (arith, e)
      by (suc r) e =
          let here : chosen G (suc r) (code, t) ≡ Some x = h (suc r) ∙ ap (λ (b : Bool). cond b (Some x) None) (le-leb x.rank (suc r) (omega (arith, e))) in
          let before : chosen G r (code, t) ≡ None = h r ∙ ap (λ (b : Bool). cond b (Some x) None) (lt-leb x.rank r (omega (arith, e))) in
          let l = ranks_below code r (ap is_there here, before) in
          omega (arith, e, l)
