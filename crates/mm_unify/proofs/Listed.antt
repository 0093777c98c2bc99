-- The list of unifiers of a string without work variables and a pattern is the list of its matches.
use Rattle.std.proofs.Common.{ℕ, ◌≡◌, ◌≤◌, ◌<◌, List, [], ◌∷◌, ◌++◌, Bool, true, false, not, Option, None, Some, map, length, refl, sym, ap, ◌∙◌, subst, if◌then◌else◌, cond, inl, inr, ◌⊎◌, arith}
use Rattle.std.specs.List.{AllByRecursion, All, Contains, list_all, filter}
use Rattle.std.proofs.lemmas.Bool.{and_parts, and_from}
use Rattle.std.proofs.lemmas.List.Elements.{All-from_recursion, recursion_from_All}
use Rattle.mm_subst.specs.declared.symbol.WSym.{WSym}
use Rattle.mm_subst.specs.declared.symbol.WSym.TheVariants.{Const, Var, Work}
use Rattle.mm_subst.specs.declared.brackets.Brackets.{Brackets}
use Rattle.mm_subst.specs.Applied.{most_symbols}
use Rattle.mm_subst.specs.Symbols.{is_same, is_work, has_work}
use Rattle.mm_subst.specs.Substitutions.{Pairs, value_at, value_of, or_itself, applied}
use Rattle.mm_subst.proofs.Keys.{is_same-itself, is_same-true}
use Rattle.mm_unify.specs.declared.listing.Ended.{Ended}
use Rattle.mm_unify.specs.declared.listing.Ended.TheVariants.{Whole, Trials, Length}
use Rattle.mm_unify.specs.Variables.{numbers}
use Rattle.mm_unify.specs.Unifying.{Unifies, restricted}
use Rattle.mm_unify.specs.Forbidden.{Forbidden, forbidden_by}
use Rattle.mm_unify.specs.Search.{roots}
use Rattle.mm_unify.specs.Listings.{answer, limit}
use Rattle.mm_unify.specs.Ordering.{IsBefore}
use Rattle.mm_unify.specs.Matching.{matches, are_allowed, ListsMatches}
use Rattle.mm_unify.proofs.Mapping.{is_same-false, cases_same, value_first, value_later}
use Rattle.mm_unify.proofs.Proper.{Good, proper, value_plain}
use Rattle.mm_unify.proofs.Balanced.{Plain, SameOn, plain_apply, number_occurs, Occurs}
use Rattle.mm_unify.proofs.Root.{Has, Numbered, numbered, numbered_right}
use Rattle.mm_unify.proofs.Sound.{keys, Solves, sound}
use Rattle.mm_unify.proofs.Once.{at_numbers, rising_numbers, all_has}
use Rattle.mm_unify.proofs.Weight.{plain_from_test}
use Rattle.mm_unify.proofs.Ordered.{lists_in_order}
use Rattle.mm_unify.proofs.Theorems.{answer_balanced, answer_unlimited, same_restricted}
use Rattle.mm_unify.proofs.Ending.{runs, IsFine}
use Rattle.mm_unify.proofs.Sorted.{Among, Sorted, same_sorted, sorted_pairs, sorted_map, sorted_filter, among_contains, among_all, among_map, among_mapped, among_filter, among_filtered}
use Rattle.mm_unify.proofs.Matched.{Fit, AreNamed, Covered, AreFull, Agrees, Made, made, found, agrees_at, in_order, before_one_way}

-- the value of a number among those of a restricted substitution
pub restricted_value : (theta : Pairs) (ms : List ℕ) (n : ℕ) → Has n ms → value_of (restricted theta ms) (Work n) ≡ value_of theta (Work n)
restricted_value theta [] n h = absurd h
restricted_value theta (m ∷ ms) n h = elim (cases_same (Work m) (Work n)) [
  | inl e ↦
      let k : is_same (Work m) (Work n) ≡ true = ap (is_same (Work m)) (sym e) ∙ is_same-itself (Work m) in
      value_first (Work m, value_of theta (Work m)) (restricted theta ms) (Work n) k ∙ ap (value_of theta) e
  | inr e ↦ elim h [
    | inl i ↦ absurd (let z = is_same-itself (Work m) in let q = ap (λ (k : ℕ). is_same (Work m) (Work k)) i in cc)
    | inr j ↦ value_later (Work m, value_of theta (Work m)) (restricted theta ms) (Work n) e ∙ restricted_value theta ms n j
  ]
]

restricted_plain : (theta : Pairs) (ms : List ℕ) (c : WSym) → is_work c ≡ false → value_of (restricted theta ms) c ≡ c ∷ []
restricted_plain theta [] c e = refl
restricted_plain theta (m ∷ ms) c e =
    value_later (Work m, value_of theta (Work m)) (restricted theta ms) c (is_same-false (Work m) c (λ q. let z = ap is_work q in cc)) ∙ restricted_plain theta ms c e

good_keys : (f : Forbidden) (u : Pairs) (ms : List ℕ) → keys u ≡ map Work ms → IsFine f u → Good u
good_keys f [] ms e h = tt
good_keys f (q ∷ u) [] e h = cc
good_keys f (q ∷ u) (m ∷ ms) e h =
    let a : q.0 ≡ Work m = cc in
    let b : keys u ≡ map Work ms = cc in
    ((ap is_work a, h.0.0), good_keys f u ms b h.1)

allowed_true : (b : Bool) → not b ≡ true → b ≡ false
allowed_true true h = absurd (cc)
allowed_true false h = refl

allowed_step : (f : Forbidden) (q : WSym × List WSym) (b : Bool) (o : Option (List WSym)) (w : List WSym) → not (f.at_end q.1) ≡ true → (o ≡ Some w → f.at_end w ≡ false) → cond b (Some q.1) o ≡ Some w → f.at_end w ≡ false
allowed_step f q true o w a ih k = let z : q.1 ≡ w = cc in subst (λ (t : List WSym). f.at_end t ≡ false) z (allowed_true (f.at_end q.1) a)
allowed_step f q false o w a ih k = ih k

-- a value of a match in which none is forbidden
allowed_at : (f : Forbidden) (m : Pairs) (c : WSym) (w : List WSym) → are_allowed f m ≡ true → value_at m c ≡ Some w → f.at_end w ≡ false
allowed_at f [] c w h e = absurd (cc)
allowed_at f (q ∷ m) c w h e =
    let parts = and_parts (not (f.at_end q.1)) (are_allowed f m) h in
    allowed_step f q (is_same q.0 c) (value_at m c) w parts.0 (λ k. allowed_at f m c w parts.1 k) e

-- where each value is that of a substitution with none forbidden
all_allowed : (f : Forbidden) (u m : Pairs) → Agrees u m → AllByRecursion (λ q. f.at_end (value_of u q.0) ≡ false) m → are_allowed f m ≡ true
all_allowed f u [] a h = refl
all_allowed f u (q ∷ m) a h =
    and_from (not (f.at_end q.1)) (are_allowed f m) (ap not (ap f.at_end (sym a.0) ∙ h.0)) (all_allowed f u m a.1 h.1)

occurs_right : (s t : List WSym) (n : ℕ) → Plain s → Occurs n (s ++ t) → Occurs n t
occurs_right [] t n p h = h
occurs_right (c ∷ s) t n p (inl e) = absurd (let z = ap is_work e in let y = p.0 in cc)
occurs_right (c ∷ s) t n p (inr h) = occurs_right s t n p.1 h

covered_at : (m : Pairs) (t : List WSym) (n : ℕ) → Covered m t → Occurs n t → (w : List WSym) × (value_at m (Work n) ≡ Some w)
covered_at m [] n c h = absurd h
covered_at m (x ∷ t) n c (inl e) = subst (λ (y : WSym). (w : List WSym) × (value_at m y ≡ Some w)) e (c.0 (ap is_work e))
covered_at m (x ∷ t) n c (inr h) = covered_at m t n c.1 h

numbers_fit : (f : Forbidden) (u : Pairs) (ms : List ℕ) → keys u ≡ map Work ms → IsFine f u → (t : List WSym) → Numbered ms t → AreFull u t
numbers_fit f u ms k h [] n = tt
numbers_fit f u ms k h (Work m ∷ t) n =
    let r = at_numbers (λ c w. (0 < length w) × (f.at_end w ≡ false)) u ms k h m (n.0 m refl) in
    ((λ e. r.0), numbers_fit f u ms k h t n.1)
numbers_fit f u ms k h (Const m ∷ t) n = ((λ e. absurd (cc)), numbers_fit f u ms k h t n.1)
numbers_fit f u ms k h (Var m ∷ t) n = ((λ e. absurd (cc)), numbers_fit f u ms k h t n.1)

keys_allowed : (f : Forbidden) (u : Pairs) (ms : List ℕ) → keys u ≡ map Work ms → IsFine f u → (m : Pairs) → Fit m → AreNamed ms m → AllByRecursion (λ q. f.at_end (value_of u q.0) ≡ false) m
keys_allowed f u ms k h [] g n = tt
keys_allowed f u ms k h (q ∷ m) g n = (one q.0 g.0.0 n.0, keys_allowed f u ms k h m g.1 n.1)
  where
    one : (c : WSym) → is_work c ≡ true → ((i : ℕ) → c ≡ Work i → Has i ms) → f.at_end (value_of u c) ≡ false
    one (Work i) e a = (at_numbers (λ c w. (0 < length w) × (f.at_end w ≡ false)) u ms k h i (a i refl)).1
    one (Const i) e a = absurd (cc)
    one (Var i) e a = absurd (cc)

before_restricted : (ms : List ℕ) (x y : Pairs) → Good x → Good y → (t : List WSym) → Numbered ms t → IsBefore t x y → IsBefore t (restricted x ms) (restricted y ms)
before_restricted ms x y g h [] n b = b
before_restricted ms x y g h (c ∷ t) n b = elim b [
  | inl l ↦ inl (subst (λ (w : List WSym). length w < length (value_of (restricted y ms) c)) (sym (same x g c n.0)) (subst (λ (w : List WSym). length (value_of x c) < length w) (sym (same y h c n.0)) l))
  | inr r ↦ inr (same x g c n.0 ∙ r.0 ∙ sym (same y h c n.0), before_restricted ms x y g h t n.1 r.1)
]
  where
    same : (z : Pairs) → Good z → (c : WSym) → ((k : ℕ) → c ≡ Work k → Has k ms) → value_of (restricted z ms) c ≡ value_of z c
    same z q (Work k) a = restricted_value z ms k (a k refl)
    same z q (Const k) a = restricted_plain z ms (Const k) refl ∙ sym (value_plain z (Const k) q refl)
    same z q (Var k) a = restricted_plain z ms (Var k) refl ∙ sym (value_plain z (Var k) q refl)

module _ (o : Option Brackets) (s : List WSym) (d : WSym) (b : List WSym) (p : has_work s ≡ false) (short : length s ≤ most_symbols) (e : is_work d ≡ false) where
  abbrev f : Forbidden
  f = forbidden_by o

  abbrev ms : List ℕ
  ms = numbers (s ++ d ∷ b)

  abbrev us : List Pairs
  us = (answer (forbidden_by o) None s (d ∷ b)).found

  abbrev ts : List Pairs
  ts = matches (d ∷ b) [] s

  abbrev fine_ts : List Pairs
  fine_ts = filter (are_allowed (forbidden_by o)) (matches (d ∷ b) [] s)

  plain : Plain s
  plain = plain_from_test s p

  ended : (answer (forbidden_by o) None s (d ∷ b)).ended ≡ Whole
  ended = go (answer (forbidden_by o) None s (d ∷ b)).ended refl
    where
      go : (x : Ended) → (answer (forbidden_by o) None s (d ∷ b)).ended ≡ x → (answer (forbidden_by o) None s (d ∷ b)).ended ≡ Whole
      go Whole h = h
      go Trials h = absurd (answer_unlimited (forbidden_by o) s (d ∷ b) (inl p) h)
      go Length h = absurd ((runs (forbidden_by o) s d b (limit None s (d ∷ b)) plain e short).0 h)

  named : Numbered ms (d ∷ b)
  named = numbered_right ms s (d ∷ b) (numbered (s ++ d ∷ b))

  fine : (u : Pairs) → Among u us → IsFine f u
  fine u h = among_all (IsFine f) us (runs f s d b (limit None s (d ∷ b)) plain e short).1 u h

  solves : (u : Pairs) → Among u us → Solves s (d ∷ b) u
  solves u h = among_all (Solves s (d ∷ b)) us (sound f s (d ∷ b) (limit None s (d ∷ b))) u h

  in_pattern : (n : ℕ) → Has n ms → Occurs n (d ∷ b)
  in_pattern n h = occurs_right s (d ∷ b) n plain (number_occurs (s ++ d ∷ b) n h)

  matched : (m : Pairs) → Among m ts → Made (d ∷ b) [] s m
  matched m h = made (d ∷ b) [] s m tt h

  listed : (u : Pairs) → Among u us → Among u (map (λ v. restricted v ms) fine_ts)
  listed u h =
      let k = (solves u h).keys_are in
      let g = good_keys f u ms k (fine u h) in
      let r = found u (λ c w. value_plain u c g w) (d ∷ b) [] s tt (numbers_fit f u ms k (fine u h) (d ∷ b) named) (sym (solves u h).equal ∙ plain_apply u s (λ c w. value_plain u c g w) plain) in
      let i = matched r.0 r.1 in
      let same : u ≡ restricted r.0 ms = same_restricted r.0 u ms k (rising_numbers (s ++ d ∷ b)) (λ n q.
      let c = covered_at r.0 (d ∷ b) n i.covered (in_pattern n q) in
      agrees_at u r.0 (Work n) c.0 r.2 c.1 ∙ sym (ap (or_itself (Work n)) c.1)) in
      let a = all_allowed f u r.0 r.2 (keys_allowed f u ms k (fine u h) r.0 i.fit (subst (AreNamed ms) (sym i.whole) (i.named ms named))) in
      subst (λ (x : Pairs). Among x (map (λ v. restricted v ms) fine_ts)) (sym same) (among_map (λ v. restricted v ms) r.0 fine_ts (among_filter (are_allowed f) r.0 ts r.1 a))

  back : (u : Pairs) → Among u (map (λ v. restricted v ms) fine_ts) → Among u us
  back u h =
      let r = among_mapped (λ v. restricted v ms) u fine_ts h in
      let a = among_filtered (are_allowed f) r.0 ts r.1 in
      let i = matched r.0 a.0 in
      let g = i.fit in
      subst (λ (x : Pairs). Among x us) (sym r.2)
      (among_contains (restricted r.0 ms) us (answer_balanced o None s (d ∷ b) ended (inl p) r.0
      (record { proper = proper r.0 g; equal = plain_apply r.0 s (λ c w. value_plain r.0 c g w) plain ∙ sym i.equal })
      (All-from_recursion (λ n. f.at_end (value_of r.0 (Work n)) ≡ false) ms (all_has (λ n. f.at_end (value_of r.0 (Work n)) ≡ false) ms (λ n k.
      let c = covered_at r.0 (d ∷ b) n i.covered (in_pattern n k) in
      subst (λ (t : List WSym). f.at_end t ≡ false) (sym (ap (or_itself (Work n)) c.1)) (allowed_at f r.0 (Work n) c.0 a.1 c.1))))))

  same_list : us ≡ map (λ v. restricted v ms) fine_ts
  same_list =
      same_sorted (IsBefore (d ∷ b)) (before_one_way (d ∷ b)) us (map (λ v. restricted v ms) fine_ts)
      (sorted_pairs (IsBefore (d ∷ b)) us (lists_in_order o (limit None s (d ∷ b)) (d ∷ b) s p).1)
      (sorted_map (IsBefore (d ∷ b)) (IsBefore (d ∷ b)) (λ v. restricted v ms) fine_ts
      (λ x y a c k. before_restricted ms x y (matched x (among_filtered (are_allowed f) x ts a).0).fit (matched y (among_filtered (are_allowed f) y ts c).0).fit (d ∷ b) named k)
      (sorted_filter (IsBefore (d ∷ b)) (are_allowed f) ts (in_order (d ∷ b) [] s tt)))
      listed back

pub lists_matches : ListsMatches
lists_matches o s d b p short e = (ended o s d b p short e, same_list o s d b p short e)
