-- Where runs start and end.
use Rattle.std.proofs.Common.{◌≡◌, ℕ, zero, suc, ◌+◌, ◌-◌, ◌<◌, ◌≤◌, Bool, true, false, not, List, [], ◌∷◌, length, take, drop, get_or, refl, sym, ◌∙◌, ap, arith, ◌⊎◌, inl, inr, add-zero, length-drop, nat_eq}
use Rattle.std.proofs.lemmas.List.{get_or-drop, get_or_past}
use Rattle.std.proofs.lemmas.List.Sums.{position_or_len_is, passes_at_first}
use Rattle.std.proofs.lemmas.Grind.{common_steps}
use Rattle.std.proofs.lemmas.Bool.{false_from_ne_true}
use Rattle.std.specs.List.{position_or_len}
use Rattle.memchr.specs.Find.{Nowhere, Passes, is_byte}
use Rattle.mm_tokens.specs.Bytes.{is_graphic}
use Rattle.mm_tokens.specs.Runs.{IsBoundary, is_start, is_closing, run_end, runs_from, runs_after}

-- what fixes the end of a run
pub run_end_is : (bytes : List ℕ) (s e : ℕ) → s ≤ e → e ≤ length bytes
    → ((k : ℕ) → s ≤ k → k < e → is_graphic (get_or bytes k 0) ≡ true) → is_graphic (get_or bytes e 0) ≡ false
    → run_end bytes s ≡ e
run_end_is bytes s e low high all stops =
    let len : length (drop s bytes) + s ≡ length bytes = omega (arith, length-drop s bytes) in
    let before : (k : ℕ) → k < e - s → not (is_graphic (get_or (drop s bytes) k 0)) ≡ false
    = λ k h. rw (get_or-drop s bytes k 0) (ap not (all (s + k) (omega arith) (omega arith))) in
    let there : e - s < length (drop s bytes) → not (is_graphic (get_or (drop s bytes) (e - s) 0)) ≡ true
    = λ h. let same : s + (e - s) ≡ e = omega arith in rw (get_or-drop s bytes (e - s) 0, same) (ap not stops) in
    let first : position_or_len (λ b. not (is_graphic b)) (drop s bytes) ≡ e - s
    = position_or_len_is (λ b. not (is_graphic b)) (drop s bytes) (e - s) 0 (omega arith) before there in
    omega (arith, first)

pub not_true : (b : Bool) → not b ≡ true → b ≡ false
not_true true h = cc
not_true false h = refl

pub run_end_stops : (bytes : List ℕ) (s : ℕ) → is_graphic (get_or bytes (run_end bytes s) 0) ≡ false
run_end_stops bytes s =
    let q : ℕ → Bool = λ b. not (is_graphic b) in
    let m : ℕ = position_or_len q (drop s bytes) in
    let which : (m < length (drop s bytes)) ⊎ (length (drop s bytes) ≤ m) = grind arith in
    let there : get_or (drop s bytes) m 0 ≡ get_or bytes (s + m) 0 = get_or-drop s bytes m 0 in
    rw (← there) (elim which [
      | inl h ↦ not_true _ (passes_at_first q (drop s bytes) 0 h)
      | inr h ↦ rw (get_or_past (drop s bytes) m 0 h) refl
    ])

-- a test that fails below k, and at k, fails below k + 1
pub fails_more : (test : ℕ → Bool) (from k : ℕ) → ((j : ℕ) → from ≤ j → j < k → test j ≡ false) → test k ≡ false
    → (j : ℕ) → from ≤ j → j < k + 1 → test j ≡ false
fails_more test from k below here j low high =
    let which : (j < k) ⊎ (j ≡ k) = grind arith in
    elim which [ inl h ↦ below j low h | inr e ↦ rw e here ]

-- a test that fails below `at`, and from there below k, fails below k
pub fails_further : (test : ℕ → Bool) (from at k : ℕ) → ((j : ℕ) → from ≤ j → j < at → test j ≡ false)
    → ((j : ℕ) → at ≤ j → j < k → test j ≡ false) → (j : ℕ) → from ≤ j → j < k → test j ≡ false
fails_further test from at k below later j low high =
    let which : (j < at) ⊎ (at ≤ j) = grind arith in
    elim which [ inl h ↦ below j low h | inr h ↦ later j h high ]

-- no `$)` starts where no `$` stands
no_dollar : (bytes : List ℕ) (k : ℕ) → nat_eq (get_or bytes k 0) 36 ≡ false → is_closing bytes k ≡ false
no_dollar bytes k other = grind (arith, common_steps, other)

-- the slice from `from` on
pub rest_slice : (bytes : List ℕ) (from : ℕ) → take (length bytes - from) (drop from bytes) ≡ drop from bytes
rest_slice bytes from = grind (arith, common_steps)

-- no `$` stands at the `skip` places from `from` on
pub no_closing : (bytes : List ℕ) (from skip : ℕ) → Nowhere (Passes (is_byte 36) (drop from bytes)) 0 skip
    → (k : ℕ) → from ≤ k → k < from + skip → is_closing bytes k ≡ false
no_closing bytes from skip nowhere k low high =
    let there : from + (k - from) ≡ k = omega arith in
    no_dollar bytes k (false_from_ne_true _ (λ is. nowhere (k - from) (omega arith) (omega arith) (rw (get_or-drop from bytes (k - from) 0, there) is)))

-- the same up to the end
pub no_closing_after : (bytes : List ℕ) (from : ℕ) → Nowhere (Passes (is_byte 36) (drop from bytes)) 0 (length (drop from bytes))
    → (k : ℕ) → from ≤ k → k < length bytes → is_closing bytes k ≡ false
no_closing_after bytes from nowhere k low high =
    no_closing bytes from (length (drop from bytes)) nowhere k low (omega (arith, length-drop from bytes))

pub runs_end : (bytes : List ℕ) (p : ℕ) → length bytes ≤ p → runs_after bytes p ≡ []
unfolding runs_from
runs_end bytes p h = let none : length bytes - p ≡ 0 = omega arith in rw none

pub runs_start : (bytes : List ℕ) (p : ℕ) → p < length bytes → is_start bytes p ≡ true
    → runs_after bytes p ≡ record { start = p; end = run_end bytes p } ∷ runs_after bytes (p + 1)
unfolding runs_from
runs_start bytes p h start =
    let more : length bytes - p ≡ suc (length bytes - (p + 1)) = omega arith in rw (more, start)

pub runs_step : (bytes : List ℕ) (p : ℕ) → p < length bytes → is_start bytes p ≡ false → runs_after bytes p ≡ runs_after bytes (p + 1)
unfolding runs_from
runs_step bytes p h start =
    let more : length bytes - p ≡ suc (length bytes - (p + 1)) = omega arith in rw (more, start)

-- no run starts from p up to p + d
pub runs_skip : (bytes : List ℕ) (p d : ℕ) → p + d ≤ length bytes → ((k : ℕ) → p ≤ k → k < p + d → is_start bytes k ≡ false)
    → runs_after bytes p ≡ runs_after bytes (p + d)
runs_skip bytes p zero h none = rw add-zero
runs_skip bytes p (suc d) h none =
    let same : p + suc d ≡ p + 1 + d = omega arith in
    runs_step bytes p (omega arith) (none p (omega arith) (omega arith))
    ∙ runs_skip bytes (p + 1) d (omega arith) (λ k low high. none k (omega arith) (omega arith))
    ∙ ap (runs_after bytes) (sym same)

-- the same up to a place q
pub runs_skip_to : (bytes : List ℕ) (p q : ℕ) → p ≤ q → q ≤ length bytes → ((k : ℕ) → p ≤ k → k < q → is_start bytes k ≡ false)
    → runs_after bytes p ≡ runs_after bytes q
runs_skip_to bytes p q low high none =
    let same : p + (q - p) ≡ q = omega arith in
    runs_skip bytes p (q - p) (omega arith) (λ k a b. none k a (omega arith)) ∙ ap (runs_after bytes) same

-- what is known of the run that starts at p
pub record RunAt (bytes : List ℕ) (p e : ℕ) : Type 0 where
  pub start : is_start bytes p ≡ true
  pub some : p < e
  pub within : e ≤ length bytes
  pub at : run_end bytes p ≡ e
  pub all : (k : ℕ) → p ≤ k → k < e → is_graphic (get_or bytes k 0) ≡ true
  pub stops : is_graphic (get_or bytes e 0) ≡ false

-- the run at p, and the runs after its end
pub runs_run : (bytes : List ℕ) (p e : ℕ) → RunAt bytes p e → runs_after bytes p ≡ record { start = p; end = e } ∷ runs_after bytes e
runs_run bytes p e run =
    let some : p < e = run.some in
    let within : e ≤ length bytes = run.within in
    let inner : (k : ℕ) → p + 1 ≤ k → k < e → is_start bytes k ≡ false
    = λ k a b. (let before : is_graphic (get_or bytes (k - 1) 0) ≡ true = run.all (k - 1) (omega arith) (omega arith) in
    let here : nat_eq k 0 ≡ false = grind (arith, common_steps) in
    grind (arith, common_steps, before, here)) in
    runs_start bytes p (omega arith) run.start
    ∙ ap (λ q. record { start = p; end = q } ∷ runs_after bytes (p + 1)) run.at
    ∙ ap (λ r. record { start = p; end = e } ∷ r) (runs_skip_to bytes (p + 1) e (omega arith) within inner)

pub boundary_first : (bytes : List ℕ) → IsBoundary bytes 0
boundary_first bytes = grind (arith, common_steps)

pub boundary_at : (bytes : List ℕ) (p : ℕ) → is_graphic (get_or bytes p 0) ≡ false → IsBoundary bytes p
boundary_at bytes p stops = grind (arith, common_steps, stops)

pub no_start : (bytes : List ℕ) (p : ℕ) → is_graphic (get_or bytes p 0) ≡ false → is_start bytes p ≡ false
no_start bytes p stops = grind (arith, common_steps, stops)

-- the first token byte from a boundary on starts a run
pub start_first : (bytes : List ℕ) (p q : ℕ) → IsBoundary bytes p → p ≤ q → ((k : ℕ) → p ≤ k → k < q → is_graphic (get_or bytes k 0) ≡ false)
    → is_graphic (get_or bytes q 0) ≡ true → is_start bytes q ≡ true
start_first bytes p q boundary low none here =
    let which : (q ≡ p) ⊎ (p < q) = grind arith in
    elim which [
      | inl e ↦ rw e (boundary ∙ rw e at here)
      | inr h ↦ (let before : is_graphic (get_or bytes (q - 1) 0) ≡ false = none (q - 1) (omega arith) (omega arith) in
          grind (arith, common_steps, before, here))
    ]

-- a test has one value
pub not_both : (b : Bool) → b ≡ false → b ≡ true → ⊥
not_both b off on = cc

-- the run at the first token byte from a boundary on
pub first_run : (bytes : List ℕ) (at p e : ℕ) → IsBoundary bytes at → at ≤ p → ((k : ℕ) → at ≤ k → k < p → is_graphic (get_or bytes k 0) ≡ false)
    → is_graphic (get_or bytes p 0) ≡ true → p ≤ e → e ≤ length bytes → run_end bytes p ≡ e
    → ((k : ℕ) → p ≤ k → k < e → is_graphic (get_or bytes k 0) ≡ true) → is_graphic (get_or bytes e 0) ≡ false → RunAt bytes p e
first_run bytes at p e boundary low none here some within ends all stops =
    let longer : (p ≡ e → ⊥) → p < e = λ other. omega arith in
    record {
      start = start_first bytes at p boundary low none here;
      some = longer (λ same. not_both _ stops (rw same at here));
      within = within;
      at = ends;
      all = all;
      stops = stops;
    }
