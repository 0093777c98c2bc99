-- Marks that are spread by the uses of a trace.
use Rattle.std.proofs.Common.{◌≡◌, ◌≤◌, ◌<◌, ◌+◌, ◌==◌, ◌&&◌, ◌||◌, ℕ, zero, suc, Bool, true, false, List, [], ◌∷◌, ◌++◌, length, get_or, eqb-true, eq-eqb, inl, inr, refl, sym, ◌∙◌, ap, subst, arith, true≢false}
use Rattle.std.specs.Prelude.{slice_index_or, nat_lt}
use Rattle.std.specs.List.{list_any, range_with_len}
use Rattle.std.proofs.lemmas.Bool.{cases_lt}
use Rattle.std.proofs.lemmas.Bool.Decides.{nat_tests}
use Rattle.std.proofs.lemmas.List.FromFn.{get_or-range_with_len, length-range_with_len, length-map-range_with_len}
use Rattle.mm_scope.specs.Contents.{labels_of}
use Rattle.mm_trace.specs.Marks.{AreMarks, IsEarlier, PassesOn, Spreads}
use Rattle.mm_trace.specs.Traces.{bears_marked, depends_in, rests_on_marked, trace_of, used, uses_in}
use Rattle.mm_trace.specs.Uses.{IsWay, Depends, some_below, depends, depends_by, depends_within, uses}
use Rattle.mm_trace.proofs.Earlier.{uses_earlier}
use Rattle.mm_trace.proofs.Listing.{more_marks}
use Rattle.mm_trace.proofs.TraceLemmas.{trace_tells}
use Rattle.mm_trace.proofs.SegmentLemmas.{both, one_of, or_true, same_by}
use Rattle.mm_trace.proofs.Ways.{or_left, some_member, member_passes, below_passes, preceded, used_depends, true_depends, depends_true, depends_earlier, depends_next, spread_first, spread_next, spread_whole}

or_nothing : (a : Bool) → (a || false) ≡ a
or_nothing true = refl
or_nothing false = refl

among_range : (n m : ℕ) → list_any (λ x. x == m) (range_with_len 0 n) ≡ true → m < n
among_range n m h = below_of n (range_with_len 0 n) (λ i small. omega (arith, get_or-range_with_len 0 n i 0 (omega (arith, small, length-range_with_len 0 n)), small, length-range_with_len 0 n)) h where
  below_of : (n : ℕ) (xs : List ℕ) → ((i : ℕ) → i < length xs → get_or xs i 0 < n) → list_any (λ x. x == m) xs ≡ true → m < n
  below_of n [] f h = absurd (true≢false (sym h))
  below_of n (x ∷ xs) f h = elim (one_of (x == m) (list_any (λ y. y == m) xs) h) [
    | inl here ↦ subst (λ (k : ℕ). k < n) (eqb-true x m here) (f 0 (omega arith))
    | inr there ↦ below_of n xs (λ i small. f (suc i) (omega (arith, small))) there
  ]

module _ (trace : List (List ℕ)) (earlier : IsEarlier (uses_in trace)) where
  abbrev applies : ℕ → ℕ → Bool
  applies = uses_in trace

  -- ## What depends on one statement

  pub depends_at : (id on : ℕ) (marks : List Bool) → AreMarks (λ n. depends_in trace n on) id marks → list_any (λ m. m == on || get_or marks m false) (slice_index_or trace id []) ≡ depends_in trace id on
  depends_at id on marks h = depends_next applies earlier id on (slice_index_or trace id []) marks (λ m. refl) h.each

  -- ## What rests on marked statements

  rests_next : (marked marks : List Bool) (id : ℕ) → AreMarks (rests_on_marked trace marked) id marks
      → (get_or marked id false || list_any (λ m. get_or marks m false) (slice_index_or trace id [])) ≡ rests_on_marked trace marked id
  rests_next marked marks id h = same_by (get_or marked id false || list_any test used) (rests_on_marked trace marked id) forth back where
    used : List ℕ
    used = slice_index_or trace id []

    test : ℕ → Bool
    test = λ m. get_or marks m false

    below : ℕ → ℕ → Bool
    below k m = get_or marked m false && depends_in trace k m

    upwards : (m : ℕ) → applies id m ≡ true → rests_on_marked trace marked m ≡ true → some_below id (below id) ≡ true
    upwards m u rests = elim (one_of (get_or marked m false) (some_below m (below m)) rests) [
      | inl here ↦ below_passes id (below id) m (earlier id m u) (rw (here, depends_true applies earlier id m (used_depends applies id m u)) refl)
      | inr there ↦ (
          let j = some_member (below m) (range_with_len 0 m) there in
          let b = both (get_or marked j.number false) (depends_in trace m j.number) j.passes in
          let d : Depends applies id j.number = preceded applies id m j.number u (true_depends applies m j.number b.1) in
          below_passes id (below id) j.number (depends_earlier applies earlier id j.number d) (rw (b.0, depends_true applies earlier id j.number d) refl))
    ]

    forth : (get_or marked id false || list_any test used) ≡ true → rests_on_marked trace marked id ≡ true
    forth is = elim (one_of (get_or marked id false) (list_any test used) is) [
      | inl here ↦ or_left (get_or marked id false) (some_below id (below id)) here
      | inr there ↦ (
          let m = some_member test used there in
          or_true (get_or marked id false) (some_below id (below id))
          (upwards m.number m.among (sym (h.each m.number (earlier id m.number m.among)) ∙ m.passes)))
    ]

    by_way : (j : ℕ) (way : List ℕ) → get_or marked j false ≡ true → IsWay applies id way j → list_any test used ≡ true
    by_way j [] is u = member_passes test used j u (h.each j (earlier id j u) ∙ or_left (get_or marked j false) (some_below j (below j)) is)
    by_way j (m ∷ way) is u =
        let d : Depends applies m j = record { way = way; is = u.1 } in
        member_passes test used m u.0
        (h.each m (earlier id m u.0)
        ∙ or_true (get_or marked m false) (some_below m (below m))
        (below_passes m (below m) j (depends_earlier applies earlier m j d) (rw (is, depends_true applies earlier m j d) refl)))

    back : rests_on_marked trace marked id ≡ true → (get_or marked id false || list_any test used) ≡ true
    back is = elim (one_of (get_or marked id false) (some_below id (below id)) is) [
      | inl here ↦ or_left (get_or marked id false) (list_any test used) here
      | inr there ↦ (
          let j = some_member (below id) (range_with_len 0 id) there in
          let b = both (get_or marked j.number false) (depends_in trace id j.number) j.passes in
          let d = true_depends applies id j.number b.1 in
          or_true (get_or marked id false) (list_any test used) (by_way j.number d.way b.0 d.is))
    ]

  pub rests_more : (marked marks slice new : List Bool) (used : List ℕ) (id : ℕ) (flag b : Bool) → AreMarks (rests_on_marked trace marked) id marks → used ≡ slice_index_or trace id [] → slice ≡ marks
      → flag ≡ get_or marked id false → b ≡ (flag || list_any (λ m. get_or slice m false) used) → new ≡ marks ++ b ∷ [] → AreMarks (rests_on_marked trace marked) (id + 1) new
  rests_more marked marks slice new used id flag b h these same own is made =
      let by : b ≡ (get_or marked id false || list_any (λ m. get_or marks m false) (slice_index_or trace id [])) =
      is
      ∙ (ap (λ (a : Bool). a || list_any (λ m. get_or slice m false) used) own
      ∙ (ap (λ (v : List Bool). get_or marked id false || list_any (λ m. get_or v m false) used) same ∙ ap (λ (v : List ℕ). get_or marked id false || list_any (λ m. get_or marks m false) v) these)) in
      subst (λ (v : List Bool). AreMarks (rests_on_marked trace marked) (id + 1) v) (sym made) (more_marks (rests_on_marked trace marked) id marks b h (by ∙ rests_next marked marks id h))

  pub depends_by_marks : (id on : ℕ) (marks slice : List Bool) (used : List ℕ) (b : Bool) → AreMarks (λ n. depends_in trace n on) id marks → used ≡ slice_index_or trace id [] → slice ≡ marks
      → b ≡ list_any (λ m. m == on || get_or slice m false) used → b ≡ depends_in trace id on
  depends_by_marks id on marks slice used b h these same is =
      is
      ∙ (ap (λ (v : List Bool). list_any (λ m. m == on || get_or v m false) used) same
      ∙ (ap (λ (v : List ℕ). list_any (λ m. m == on || get_or marks m false) v) these ∙ depends_at id on marks h))

  pub depends_more : (id on : ℕ) (marks slice new : List Bool) (used : List ℕ) (b : Bool) → AreMarks (λ n. depends_in trace n on) id marks → used ≡ slice_index_or trace id [] → slice ≡ marks
      → b ≡ list_any (λ m. m == on || get_or slice m false) used → new ≡ marks ++ b ∷ [] → AreMarks (λ n. depends_in trace n on) (id + 1) new
  depends_more id on marks slice new used b h these same is made =
      subst (λ (v : List Bool). AreMarks (λ n. depends_in trace n on) (id + 1) v) (sym made)
      (more_marks (λ n. depends_in trace n on) id marks b h (depends_by_marks id on marks slice used b h these same is))

pub own_more : (marked marks new : List Bool) (id : ℕ) (b : Bool) → AreMarks (λ n. get_or marked n false) id marks → b ≡ get_or marked id false → new ≡ marks ++ b ∷ [] → AreMarks (λ n. get_or marked n false) (id + 1) new
own_more marked marks new id b h is made = subst (λ (v : List Bool). AreMarks (λ n. get_or marked n false) (id + 1) v) (sym made) (more_marks (λ n. get_or marked n false) id marks b h is)

-- ## What marked statements rest on

-- the uses of a trace, and one statement more, which uses the marked ones
abbrev pub with_marked : List (List ℕ) → List Bool → ℕ → ℕ → Bool
with_marked trace marked k m = uses_in trace k m || (k == length trace && (nat_lt m (length trace) && get_or marked m false))

no_more_uses : (trace : List (List ℕ)) (k m : ℕ) → length trace ≤ k → uses_in trace k m ≡ false
no_more_uses [] k m h = refl
no_more_uses (used ∷ trace) zero m h = absurd (omega (arith, h))
no_more_uses (used ∷ trace) (suc k) m h = no_more_uses trace k m (omega (arith, h))

module _ (trace : List (List ℕ)) (marked : List Bool) (earlier : IsEarlier (uses_in trace)) where
  -- how many statements there are
  abbrev n : ℕ
  n = length trace

  abbrev widened : ℕ → ℕ → Bool
  widened = with_marked trace marked

  widened_earlier : IsEarlier widened
  widened_earlier k m u = elim (one_of (uses_in trace k m) (k == n && (nat_lt m n && get_or marked m false)) u) [
    | inl here ↦ earlier k m here
    | inr there ↦ (
        let b = both (k == n) (nat_lt m n && get_or marked m false) there in
        let c = both (nat_lt m n) (get_or marked m false) b.1 in
        let small : m < n = (let t : nat_lt m n ≡ true = c.0 in grind (arith, nat_tests)) in
        let same : k ≡ n = eqb-true k n b.0 in
        omega (arith, small, same))
  ]

  widened_below : (k m : ℕ) → k < n → widened k m ≡ uses_in trace k m
  widened_below k m small = at (k == n) refl where
    at : (b : Bool) → (k == n) ≡ b → (uses_in trace k m || (b && (nat_lt m n && get_or marked m false))) ≡ uses_in trace k m
    at true is = absurd (let same : k ≡ n = eqb-true k n is in omega (arith, small, same))
    at false is = or_nothing (uses_in trace k m)

  widened_at : (m : ℕ) → m < n → widened n m ≡ get_or marked m false
  widened_at m small = rw (no_more_uses trace n m (omega arith), eq-eqb n n refl) (let t : nat_lt m n ≡ true = grind (arith, nat_tests) in rw t refl)

  -- a way from a statement of the trace is the same by both
  way_widened : (id on : ℕ) (way : List ℕ) → id < n → IsWay (uses_in trace) id way on → IsWay widened id way on
  way_widened id on [] small u = widened_below id on small ∙ u
  way_widened id on (m ∷ way) small u = (widened_below id m small ∙ u.0, way_widened m on way (omega (arith, small, earlier id m u.0)) u.1)

  way_narrowed : (id on : ℕ) (way : List ℕ) → id < n → IsWay widened id way on → IsWay (uses_in trace) id way on
  way_narrowed id on [] small u = sym (widened_below id on small) ∙ u
  way_narrowed id on (m ∷ way) small u = (sym (widened_below id m small) ∙ u.0, way_narrowed m on way (omega (arith, small, widened_earlier id m u.0)) u.1)

  abbrev above : ℕ → ℕ → Bool
  above on m = get_or marked m false && depends_in trace m on

  borne : (on : ℕ) → on < n → depends_by widened n on ≡ bears_marked trace marked on
  borne on small = same_by (depends_by widened n on) (bears_marked trace marked on) forth back where
    by_way : (way : List ℕ) → IsWay widened n way on → bears_marked trace marked on ≡ true
    by_way [] u = or_left (get_or marked on false) (some_below n (above on)) (sym (widened_at on small) ∙ u)
    by_way (m ∷ way) u =
        let within : m < n = widened_earlier n m u.0 in
        let d : depends_in trace m on ≡ true = depends_true (uses_in trace) earlier m on (record { way = way; is = way_narrowed m on way within u.1 }) in
        or_true (get_or marked on false) (some_below n (above on)) (below_passes n (above on) m within (rw (sym (widened_at m within) ∙ u.0, d) refl))

    forth : depends_by widened n on ≡ true → bears_marked trace marked on ≡ true
    forth is = let d = true_depends widened n on is in by_way d.way d.is

    back : bears_marked trace marked on ≡ true → depends_by widened n on ≡ true
    back is = elim (one_of (get_or marked on false) (some_below n (above on)) is) [
      | inl here ↦ depends_true widened widened_earlier n on (used_depends widened n on (widened_at on small ∙ here))
      | inr there ↦ (
          let m = some_member (above on) (range_with_len 0 n) there in
          let within : m.number < n = among_range n m.number m.among in
          let b = both (get_or marked m.number false) (depends_in trace m.number on) m.passes in
          let d = true_depends (uses_in trace) m.number on b.1 in
          depends_true widened widened_earlier n on
          (preceded widened n m.number on (widened_at m.number within ∙ b.0) (record { way = d.way; is = way_widened m.number on d.way within d.is })))
    ]

  pub grounds_begun : (marks : List Bool) → AreMarks (λ k. get_or marked k false) n marks → Spreads widened n n marks
  grounds_begun marks h = spread_first widened widened_earlier n marks (λ k small. h.each k (omega (arith, small, h.count)) ∙ sym (widened_at k (omega (arith, small, h.count))))

  pub grounds_down : (left next : ℕ) (old new : List Bool) → suc next ≡ left → next < n → length old ≡ n → Spreads widened n left old → PassesOn (uses_in trace) next old new → Spreads widened n next new
  grounds_down left next old new e inside count h p =
      spread_next widened widened_earlier n next old new (omega (arith, inside, count)) (subst (λ (k : ℕ). Spreads widened n k old) (sym e) h)
      (record { count = p.count; each = λ k small. p.each k small ∙ ap (λ (b : Bool). get_or old k false || (get_or old next false && b)) (sym (widened_below next k inside)) })

  pub grounds_done : (left : ℕ) (marks : List Bool) → left ≡ 0 → length marks ≡ n → Spreads widened n left marks → AreMarks (bears_marked trace marked) n marks
  grounds_done left marks none count h = record {
    count = count;
    each = λ k small. spread_whole widened widened_earlier n marks (omega (arith, count)) (subst (λ (i : ℕ). Spreads widened n i marks) none h) k (omega (arith, small, count)) ∙ borne k small;
  }

-- ## The trace of a database

pub same_any : (p q : ℕ → Bool) (n : ℕ) → ((k : ℕ) → k < n → p k ≡ q k) → some_below n p ≡ some_below n q
same_any p q n h = same_by (some_below n p) (some_below n q)
    (λ is. let m = some_member p (range_with_len 0 n) is in let s = among_range n m.number m.among in below_passes n q m.number s (sym (h m.number s) ∙ m.passes))
    (λ is. let m = some_member q (range_with_len 0 n) is in let s = among_range n m.number m.among in below_passes n p m.number s (h m.number s ∙ m.passes))

within_same : (p q : ℕ → ℕ → Bool) (count : ℕ) → ((k m : ℕ) → k < count → p k m ≡ q k m) → (n id on : ℕ) → id < count → depends_within p n id on ≡ depends_within q n id on
unfolding depends_within
within_same p q count h zero id on small = refl
within_same p q count h (suc n) id on small =
    ap (λ (b : Bool). b || some_below id (λ m. p id m && depends_within p n m on)) (h id on small)
    ∙ ap (λ (b : Bool). q id on || b)
    (same_any (λ m. p id m && depends_within p n m on) (λ m. q id m && depends_within q n m on) id
    (λ m below. ap (λ (b : Bool). b && depends_within p n m on) (h id m small) ∙ ap (λ (b : Bool). q id m && b) (within_same p q count h n m on (omega (arith, below, small)))))

pub trace_depends : (bytes : List ℕ) (id on : ℕ) → id < length (labels_of bytes) → depends_in (trace_of bytes) id on ≡ depends bytes id on
unfolding depends
trace_depends bytes id on small = within_same (uses_in (trace_of bytes)) (uses bytes) (length (labels_of bytes)) (λ k m s. trace_tells bytes k m s) id id on small

pub trace_count : (bytes : List ℕ) → length (trace_of bytes) ≡ length (labels_of bytes)
unfolding trace_of
trace_count bytes = length-map-range_with_len (used bytes) 0 (length (labels_of bytes))

pub trace_earlier : (bytes : List ℕ) → IsEarlier (uses_in (trace_of bytes))
trace_earlier bytes id on is = elim (cases_lt id (length (labels_of bytes))) [
  | inl small ↦ uses_earlier bytes id on (sym (trace_tells bytes id on small) ∙ is)
  | inr large ↦ absurd (true≢false (sym is ∙ no_more_uses (trace_of bytes) id on (omega (arith, large, trace_count bytes))))
]
