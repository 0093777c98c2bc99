-- Lists of the statements that pass a test.
use Rattle.std.proofs.Common.{◌≡◌, ◌<◌, ◌+◌, ◌==◌, ◌||◌, ℕ, zero, suc, Bool, false, cond, List, [], ◌∷◌, ◌++◌, filter, get_or, length, length-append, map, inl, inr, refl, sym, ◌∙◌, ap, subst, arith}
use Rattle.std.specs.List.{list_any, range_with_len}
use Rattle.std.proofs.Math.ListN.{get_or-append}
use Rattle.std.proofs.Math.Seq.{get_or-append_seam}
use Rattle.std.proofs.lemmas.Bool.{cases_lt}
use Rattle.std.proofs.lemmas.List.FromFn.{filter_of_map_range_with_len_more}
use Rattle.mm_trace.specs.Marks.{AreMarks, PassesOn, Spreads}
use Rattle.mm_trace.specs.Uses.{applied, depends, depends_by, uses}
use Rattle.mm_trace.proofs.Earlier.{uses_earlier}
use Rattle.mm_trace.proofs.Ways.{depends_next, spread_first, spread_next, spread_whole}

map_self : (xs : List ℕ) → map (λ k. k) xs ≡ xs
map_self [] = refl
map_self (x ∷ xs) = ap (λ (ys : List ℕ). x ∷ ys) (map_self xs)

pub one_more : (p : ℕ → Bool) (n : ℕ) → filter p (range_with_len 0 (n + 1)) ≡ filter p (range_with_len 0 n) ++ cond (p n) (n ∷ []) []
one_more p n =
    ap (λ (xs : List ℕ). filter p xs) (sym (map_self (range_with_len 0 (n + 1))))
    ∙ (filter_of_map_range_with_len_more p (λ k. k) 0 n n (omega arith)
    ∙ ap (λ (xs : List ℕ). filter p xs ++ cond (p n) (n ∷ []) []) (map_self (range_with_len 0 n)))

-- tests that agree below a place keep the same numbers
pub same_kept : (p q : ℕ → Bool) (n : ℕ) → ((k : ℕ) → k < n → p k ≡ q k) → filter p (range_with_len 0 n) ≡ filter q (range_with_len 0 n)
same_kept p q zero h = refl
same_kept p q (suc n) h =
    let e : suc n ≡ n + 1 = omega arith in
    subst (λ (k : ℕ). filter p (range_with_len 0 k) ≡ filter q (range_with_len 0 k)) (sym e)
    (one_more p n
    ∙ (ap (λ (xs : List ℕ). xs ++ cond (p n) (n ∷ []) []) (same_kept p q n (λ k small. h k (omega (arith, small))))
    ∙ (ap (λ (b : Bool). filter q (range_with_len 0 n) ++ cond b (n ∷ []) []) (h n (omega arith)) ∙ sym (one_more q n))))

-- the marked ones are those that pass a test, where the marks are its answers
pub marked_are : (marks : List Bool) (test : ℕ → Bool) (n : ℕ) (ids : List ℕ) → AreMarks test n marks → ids ≡ filter (λ k. get_or marks k false) (range_with_len 0 n) → ids ≡ filter test (range_with_len 0 n)
marked_are marks test n ids h are = are ∙ same_kept (λ k. get_or marks k false) test n h.each

pub more_marks : (test : ℕ → Bool) (n : ℕ) (marks : List Bool) (b : Bool) → AreMarks test n marks → b ≡ test n → AreMarks test (n + 1) (marks ++ b ∷ [])
more_marks test n marks b h is = record {
  count = length-append marks (b ∷ []) ∙ omega (arith, h.count);
  each = λ k small. elim (cases_lt k n) [
    | inl below ↦ get_or-append marks (b ∷ []) false k (omega (arith, h.count, below)) ∙ h.each k below
    | inr above ↦ (let same : k ≡ n = omega (arith, small, above) in at k same)
  ];
} where
  at : (k : ℕ) → k ≡ n → get_or (marks ++ b ∷ []) k false ≡ test k
  at k same =
      let place : k ≡ length marks = same ∙ sym h.count in
      ap (λ (i : ℕ). get_or (marks ++ b ∷ []) i false) place ∙ (get_or-append_seam marks b [] false ∙ (is ∙ ap test (sym same)))

-- one statement more, by what it uses
pub next_mark : (bytes : List ℕ) (id on : ℕ) (used : List ℕ) (marks slice new : List Bool) (b : Bool) → used ≡ applied bytes id → slice ≡ marks → AreMarks (λ n. depends bytes n on) id marks
    → b ≡ list_any (λ m. m == on || get_or slice m false) used → new ≡ marks ++ b ∷ [] → AreMarks (λ n. depends bytes n on) (id + 1) new
unfolding depends
next_mark bytes id on used marks slice new b is same h rests made =
    let members : (m : ℕ) → list_any (λ x. x == m) used ≡ uses bytes id m = λ m. ap (λ (xs : List ℕ). list_any (λ x. x == m) xs) is in
    let by : b ≡ depends_by (uses bytes) id on = rests ∙ (ap (λ (v : List Bool). list_any (λ m. m == on || get_or v m false) used) same ∙ depends_next (uses bytes) (uses_earlier bytes) id on used marks members h.each) in
    subst (λ (v : List Bool). AreMarks (λ n. depends_by (uses bytes) n on) (id + 1) v) (sym made) (more_marks (λ n. depends_by (uses bytes) n on) id marks b h by)

-- one statement less is left, downwards
pub spread_down : (bytes : List ℕ) (id left next : ℕ) (old new : List Bool) → suc next ≡ left → next < length old → Spreads (uses bytes) id left old → PassesOn (uses bytes) next old new → Spreads (uses bytes) id next new
spread_down bytes id left next old new e inside h p =
    spread_next (uses bytes) (uses_earlier bytes) id next old new inside (subst (λ (k : ℕ). Spreads (uses bytes) id k old) (sym e) h) p

pub spread_begun : (bytes : List ℕ) (id : ℕ) (marks : List Bool) → ((n : ℕ) → n < length marks → get_or marks n false ≡ uses bytes id n) → Spreads (uses bytes) id id marks
spread_begun bytes id marks is = spread_first (uses bytes) (uses_earlier bytes) id marks is

pub spread_done : (bytes : List ℕ) (id left count : ℕ) (marks : List Bool) → left ≡ 0 → id < count → length marks ≡ count → Spreads (uses bytes) id left marks → AreMarks (depends bytes id) count marks
unfolding depends
spread_done bytes id left count marks none inside e h = record {
  count = e;
  each = λ k small. spread_whole (uses bytes) (uses_earlier bytes) id marks (omega (arith, inside, e)) (subst (λ (n : ℕ). Spreads (uses bytes) id n marks) none h) k (omega (arith, small, e));
}
