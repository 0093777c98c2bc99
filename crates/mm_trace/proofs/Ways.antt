-- Ways of uses from statement to statement.
use Rattle.std.proofs.Common.{◌≡◌, ◌≤◌, ◌<◌, ◌+◌, ◌==◌, ◌&&◌, ◌||◌, ◌⊎◌, ℕ, zero, suc, Bool, true, false, List, [], ◌∷◌, ◌++◌, length, get_or, eqb-true, eq-eqb, inl, inr, refl, sym, ◌∙◌, ap, subst, arith, true≢false}
use Rattle.std.specs.List.{list_any, range_with_len}
use Rattle.std.proofs.lemmas.Bool.{cases_lt}
use Rattle.std.proofs.lemmas.List.Folds.{list_any_at}
use Rattle.std.proofs.lemmas.List.FromFn.{get_or-range_with_len, length-range_with_len}
use Rattle.mm_trace.specs.Uses.{IsWay, Depends, some_below, depends_within, depends_by}
use Rattle.mm_trace.specs.Marks.{IsEarlier, PassesOn, Spreads}
use Rattle.mm_trace.proofs.SegmentLemmas.{both, one_of, or_true, same_by}

pub or_left : (a b : Bool) → a ≡ true → (a || b) ≡ true
or_left true b h = refl
or_left false b h = absurd (true≢false (sym h))

-- ## Members of lists

-- a member of a list that passes a test
pub record Member (xs : List ℕ) (test : ℕ → Bool) : Type 0 where
  pub number : ℕ
  pub among : list_any (λ x. x == number) xs ≡ true
  pub passes : test number ≡ true

pub some_member : (test : ℕ → Bool) (xs : List ℕ) → list_any test xs ≡ true → Member xs test
some_member test [] h = absurd (true≢false (sym h))
some_member test (x ∷ xs) h = elim (one_of (test x) (list_any test xs) h) [
  | inl here ↦ record { number = x; among = or_left (x == x) (list_any (λ y. y == x) xs) (eq-eqb x x refl); passes = here }
  | inr there ↦ (let m = some_member test xs there in record { number = m.number; among = or_true (x == m.number) (list_any (λ y. y == m.number) xs) m.among; passes = m.passes })
]

pub member_passes : (test : ℕ → Bool) (xs : List ℕ) (m : ℕ) → list_any (λ x. x == m) xs ≡ true → test m ≡ true → list_any test xs ≡ true
member_passes test [] m h i = h
member_passes test (x ∷ xs) m h i = elim (one_of (x == m) (list_any (λ y. y == m) xs) h) [
  | inl here ↦ or_left (test x) (list_any test xs) (ap test (eqb-true x m here) ∙ i)
  | inr there ↦ or_true (test x) (list_any test xs) (member_passes test xs m there i)
]

pub below_passes : (n : ℕ) (test : ℕ → Bool) (m : ℕ) → m < n → test m ≡ true → some_below n test ≡ true
below_passes n test m small is =
    let within : m < length (range_with_len 0 n) = subst (λ (k : ℕ). m < k) (sym (length-range_with_len 0 n)) small in
    let none : 0 + m ≡ m = omega arith in
    let at : get_or (range_with_len 0 n) m 0 ≡ m = get_or-range_with_len 0 n m 0 small ∙ none in
    list_any_at test (range_with_len 0 n) m 0 within (ap test at ∙ is)

-- ## Ways

module _ (applies : ℕ → ℕ → Bool) where
  pub preceded : (id m on : ℕ) → applies id m ≡ true → Depends applies m on → Depends applies id on
  preceded id m on h d = record { way = m ∷ d.way; is = (h, d.is) }

  way_on : (id : ℕ) (way : List ℕ) (j n : ℕ) → IsWay applies id way j → applies j n ≡ true → IsWay applies id (way ++ j ∷ []) n
  way_on id [] j n h u = (h, u)
  way_on id (m ∷ way) j n h u = (h.0, way_on m way j n h.1 u)

  pub followed : (id j n : ℕ) → Depends applies id j → applies j n ≡ true → Depends applies id n
  followed id j n d u = record { way = d.way ++ j ∷ []; is = way_on id d.way j n d.is u }

  pub used_depends : (id n : ℕ) → applies id n ≡ true → Depends applies id n
  used_depends id n h = record { way = []; is = h }

  within_depends : (n id on : ℕ) → depends_within applies n id on ≡ true → Depends applies id on
  unfolding depends_within
  within_depends zero id on h = absurd (true≢false (sym h))
  within_depends (suc n) id on h = elim (one_of (applies id on) (some_below id (λ m. applies id m && depends_within applies n m on)) h) [
    | inl here ↦ used_depends id on here
    | inr there ↦ (
        let m = some_member (λ m. applies id m && depends_within applies n m on) (range_with_len 0 id) there in
        let b = both (applies id m.number) (depends_within applies n m.number on) m.passes in
        preceded id m.number on b.0 (within_depends n m.number on b.1))
  ]

  pub true_depends : (id on : ℕ) → depends_by applies id on ≡ true → Depends applies id on
  true_depends id on h = within_depends id id on h

module _ (applies : ℕ → ℕ → Bool) (earlier : IsEarlier applies) where
  way_within : (n id on : ℕ) (way : List ℕ) → id ≤ n → IsWay applies id way on → depends_within applies n id on ≡ true
  unfolding depends_within
  way_within zero id on [] le h = absurd (omega (arith, le, earlier id on h))
  way_within zero id on (m ∷ way) le h = absurd (omega (arith, le, earlier id m h.0))
  way_within (suc n) id on [] le h = or_left (applies id on) (some_below id (λ m. applies id m && depends_within applies n m on)) h
  way_within (suc n) id on (m ∷ way) le h =
      let small : m < id = earlier id m h.0 in
      let more : depends_within applies n m on ≡ true = way_within n m on way (omega (arith, le, small)) h.1 in
      or_true (applies id on) (some_below id (λ m. applies id m && depends_within applies n m on))
      (below_passes id (λ m. applies id m && depends_within applies n m on) m small (rw h.0 more))

  pub depends_true : (id on : ℕ) → Depends applies id on → depends_by applies id on ≡ true
  depends_true id on d = way_within id id on d.way (omega arith) d.is

  way_earlier : (id on : ℕ) (way : List ℕ) → IsWay applies id way on → on < id
  way_earlier id on [] h = earlier id on h
  way_earlier id on (m ∷ way) h = omega (arith, earlier id m h.0, way_earlier m on way h.1)

  pub depends_earlier : (id on : ℕ) → Depends applies id on → on < id
  depends_earlier id on d = way_earlier id on d.way d.is

  -- ## One statement after the other, upwards

  pub depends_next : (id on : ℕ) (used : List ℕ) (marks : List Bool) → ((m : ℕ) → list_any (λ x. x == m) used ≡ applies id m)
      → ((m : ℕ) → m < id → get_or marks m false ≡ depends_by applies m on) → list_any (λ m. m == on || get_or marks m false) used ≡ depends_by applies id on
  depends_next id on used marks members known = same_by (list_any test used) (depends_by applies id on) forth back where
    test : ℕ → Bool
    test = λ m. m == on || get_or marks m false

    forth : list_any test used ≡ true → depends_by applies id on ≡ true
    forth h =
        let m = some_member test used h in
        let u : applies id m.number ≡ true = sym (members m.number) ∙ m.among in
        elim (one_of (m.number == on) (get_or marks m.number false) m.passes) [
          | inl same ↦ depends_true id on (used_depends applies id on (subst (λ (k : ℕ). applies id k ≡ true) (eqb-true m.number on same) u))
          | inr marked ↦ depends_true id on (preceded applies id m.number on u (true_depends applies m.number on (sym (known m.number (earlier id m.number u)) ∙ marked)))
        ]

    by_way : (way : List ℕ) → IsWay applies id way on → list_any test used ≡ true
    by_way [] h = member_passes test used on (members on ∙ h) (or_left (on == on) (get_or marks on false) (eq-eqb on on refl))
    by_way (m ∷ way) h =
        member_passes test used m (members m ∙ h.0) (or_true (m == on) (get_or marks m false)
        (known m (earlier id m h.0) ∙ depends_true m on (record { way = way; is = h.1 })))

    back : depends_by applies id on ≡ true → list_any test used ≡ true
    back h = let d = true_depends applies id on h in by_way d.way d.is

  -- ## Downwards

  pub spread_first : (id : ℕ) (marks : List Bool) → ((n : ℕ) → n < length marks → get_or marks n false ≡ applies id n) → Spreads applies id id marks
  spread_first id marks is = record {
    sound = λ n small h. used_depends applies id n (sym (is n small) ∙ h);
    first = λ n small h. is n small ∙ h;
    closed = λ j n from within small h u. absurd (omega (arith, from, earlier id j (sym (is j within) ∙ h)));
  }

  pub spread_next : (id j : ℕ) (old new : List Bool) → j < length old → Spreads applies id (suc j) old → PassesOn applies j old new → Spreads applies id j new
  spread_next id j old new inside h p = record {
    sound = λ n small is. sound n (omega (arith, small, p.count)) (one_of (get_or old n false) (get_or old j false && applies j n) (sym (p.each n (omega (arith, small, p.count))) ∙ is));
    first = λ n small u. (let within : n < length old = omega (arith, small, p.count) in p.each n within ∙ or_left (get_or old n false) (get_or old j false && applies j n) (h.first n within u));
    closed = λ i n from within small is u. (let a : i < length old = omega (arith, within, p.count) in let b : n < length old = omega (arith, small, p.count) in
        p.each n b ∙ closed i n from a b (one_of (get_or old i false) (get_or old j false && applies j i) (sym (p.each i a) ∙ is)) u);
  } where
    sound : (n : ℕ) → n < length old → (get_or old n false ≡ true) ⊎ ((get_or old j false && applies j n) ≡ true) → Depends applies id n
    sound n small (inl before) = h.sound n small before
    sound n small (inr now) = let b = both (get_or old j false) (applies j n) now in followed applies id j n (h.sound j inside b.0) b.1

    marked_closed : (i n : ℕ) → j ≤ i → i < length old → n < length old → get_or old i false ≡ true → applies i n ≡ true → (get_or old n false || (get_or old j false && applies j n)) ≡ true
    marked_closed i n from a b is u = elim (cases_lt j i) [
      | inl above ↦ or_left (get_or old n false) (get_or old j false && applies j n) (h.closed i n (omega (arith, above)) a b is u)
      | inr under ↦ (let same : i ≡ j = omega (arith, from, under) in
          or_true (get_or old n false) (get_or old j false && applies j n) (rw (subst (λ (k : ℕ). get_or old k false ≡ true) same is) (subst (λ (k : ℕ). applies k n ≡ true) same u)))
    ]

    closed : (i n : ℕ) → j ≤ i → i < length old → n < length old → (get_or old i false ≡ true) ⊎ ((get_or old j false && applies j i) ≡ true) → applies i n ≡ true
        → (get_or old n false || (get_or old j false && applies j n)) ≡ true
    closed i n from a b (inl before) u = marked_closed i n from a b before u
    closed i n from a b (inr now) u = let c = both (get_or old j false) (applies j i) now in absurd (omega (arith, from, earlier j i c.1))

  pub spread_whole : (id : ℕ) (marks : List Bool) → id ≤ length marks → Spreads applies id 0 marks → (n : ℕ) → n < length marks → get_or marks n false ≡ depends_by applies id n
  spread_whole id marks inside h n small = same_by (get_or marks n false) (depends_by applies id n) (λ is. depends_true id n (h.sound n small is)) back where
    reached : (m : ℕ) (way : List ℕ) → m < length marks → get_or marks m false ≡ true → IsWay applies m way n → get_or marks n false ≡ true
    reached m [] within is u = h.closed m n (omega arith) within small is u
    reached m (p ∷ way) within is u =
        let below : p < length marks = omega (arith, within, earlier m p u.0) in
        reached p way below (h.closed m p (omega arith) within below is u.0) u.1

    by_way : (way : List ℕ) → IsWay applies id way n → get_or marks n false ≡ true
    by_way [] u = h.first n small u
    by_way (m ∷ way) u = let below : m < length marks = omega (arith, inside, earlier id m u.0) in reached m way below (h.first m below u.0) u.1

    back : depends_by applies id n ≡ true → get_or marks n false ≡ true
    back is = let d = true_depends applies id n is in by_way d.way d.is
