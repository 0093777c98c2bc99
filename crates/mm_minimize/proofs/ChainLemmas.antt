-- Proofs that are made shorter, as chains of replacements.
use Rattle.std.proofs.Common.{◌≡◌, ◌+◌, ◌≤◌, ◌<◌, ◌&&◌, ◌||◌, not, ℕ, zero, suc, Bool, true, false, if◌then◌else◌, List, [], ◌∷◌, length, Option, None, Some, Result, Ok, Err, refl, sym, ◌∙◌, subst, arith, true≢false, inl, inr}
use Rattle.std.specs.Prelude.{All, filter_map, nat_lt, slice_get, option_and_then}
use Rattle.std.specs.List.{AllByRecursion, cons_option, range_with_len}
use Rattle.std.proofs.lemmas.List.Elements.{All-from_recursion}
use Rattle.std.proofs.lemmas.Bool.Decides.{nat_tests}
use Rattle.std.proofs.lemmas.Bool.{cases_lt}
use Rattle.mm_scope.specs.Contents.{stated_at}
use Rattle.mm_scope.specs.Description.{is_usage_guarded}
use Rattle.mm_stated.specs.Stated.{is_hypothesis}
use Rattle.mm_proof.specs.Trees.{same_tree}
use Rattle.mm_sound.specs.LabelTrees.{label_tree}
use Rattle.mm_trace.specs.Uses.{depends, is_axiom, some_below, uses}
use Rattle.mm_trace.proofs.Earlier.{uses_earlier}
use Rattle.mm_trace.proofs.SegmentLemmas.{both}
use Rattle.mm_trace.proofs.Ways.{below_passes, depends_earlier, true_depends}
use Rattle.mm_subst.specs.declared.symbol.WSym.{WSym}
use Rattle.mm_plain.specs.declared.plain.Plain.{Plain}
use Rattle.mm_plain.specs.Shape.{put, size_of, height_of}
use Rattle.mm_plain.specs.Valid.{most_steps, most_levels}
use Rattle.mm_improve.specs.Assertions as improve
use Rattle.mm_minimize.specs.Candidates.{Terms, has_base, is_candidate, is_eligible, is_named, is_new_axiom, is_proved, rests_on}
use Rattle.mm_minimize.specs.Chains.{Becomes, BringsNoAxiom, IsAllowed, IsChain, IsShorter, UsesAllowed}
use Rattle.mm_minimize.specs.Combinations.{replacement}
use Rattle.mm_minimize.specs.Minimising.{Minimised, bytes_of, if_changed, is_complete, is_taken, minimised, minimised_by, onward, taken_at, taken_by, tried, with_used}
use Rattle.mm_minimize.specs.declared.fault.MinimizeFault.{MinimizeFault}
use Rattle.mm_minimize.specs.declared.fault.MinimizeFault.TheVariants.{NothingChanged, NotComplete, TooManySteps, TooDeep}

-- ## The pass

module _ (c : improve.Terms) (t : Terms) (prove : List WSym → Option Plain) where
  abbrev step : Plain → ℕ → Option Plain
  step = tried c t prove

  with_used_chain : (x z : Plain) (id : ℕ) (r : Result Minimised MinimizeFault) (m : Minimised) → step x id ≡ Some z → ((n : Minimised) → r ≡ Ok n → Becomes step z n.used n.plain) → with_used id r ≡ Ok m → Becomes step x m.used m.plain
  with_used_chain x z id (Ok n) m is more e =
      subst (λ (k : Minimised). Becomes step x k.used k.plain) (let f : record { plain = n.plain; used = id ∷ n.used } ≡ m = cc in f) (z, (is, more n refl))
  with_used_chain x z id (Err f) m is more e = cc

  onward_chain : (rest : Plain → Result Minimised MinimizeFault) (x : Plain) (id : ℕ) (o : Option Plain) (m : Minimised) → step x id ≡ o → ((y : Plain) (n : Minimised) → rest y ≡ Ok n → Becomes step y n.used n.plain)
      → onward rest x id o ≡ Ok m → Becomes step x m.used m.plain
  onward_chain rest x id None m is more e = more x m e
  onward_chain rest x id (Some y) m is more e = at (nat_lt most_steps (size_of y)) (nat_lt most_levels (height_of y)) e where
    at : (a b : Bool) → (if a then Err TooManySteps else if b then Err TooDeep else with_used id (rest y)) ≡ Ok m → Becomes step x m.used m.plain
    at true b e = cc
    at false true e = cc
    at false false e = with_used_chain x y id (rest y) m is (λ n r. more y n r) e

  pass_chain : (ids : List ℕ) (x : Plain) (m : Minimised) → minimised_by c t prove ids x ≡ Ok m → Becomes step x m.used m.plain
  unfolding minimised_by
  pass_chain [] x m e = subst (λ (k : Minimised). Becomes step x k.used k.plain) (let f : record { plain = x; used = [] } ≡ m = cc in f) refl
  pass_chain (id ∷ ids) x m e = onward_chain (λ y. minimised_by c t prove ids y) x id (step x id) m refl (λ y n r. pass_chain ids y n r) e

  changed_chain : (x : Plain) (r : Result Minimised MinimizeFault) (m : Minimised) → ((n : Minimised) → r ≡ Ok n → Becomes step x n.used n.plain) → if_changed r ≡ Ok m → Becomes step x m.used m.plain × (0 < length m.used)
  changed_chain x (Ok n) m more e = at (nat_lt 0 (length n.used)) refl e where
    at : (b : Bool) → nat_lt 0 (length n.used) ≡ b → (if b then Ok n else Err NothingChanged) ≡ Ok m → Becomes step x m.used m.plain × (0 < length m.used)
    at true is e =
        subst (λ (k : Minimised). Becomes step x k.used k.plain × (0 < length k.used)) (let f : n ≡ m = cc in f)
        (more n refl, (let some : 0 < length n.used = grind (arith, nat_tests) in some))
    at false is e = cc
  changed_chain x (Err f) m more e = cc

pub is_chain : IsChain
unfolding minimised
is_chain c t prove x m e = at (is_complete c.bytes x) e where
  at : (b : Bool) → (if b then if_changed (minimised_by c t prove (range_with_len 0 c.at) x) else Err NotComplete) ≡ Ok m → Becomes (tried c t prove) x m.used m.plain × (0 < length m.used)
  at true e = changed_chain c t prove x (minimised_by c t prove (range_with_len 0 c.at) x) m (λ n r. pass_chain c t prove (range_with_len 0 c.at) x n r) e
  at false e = cc

-- ## One replacement

-- what a partial function gives of some item with a property
pub record Given {A B : Type 0} (P : A → Type 0) (f : A → Option B) (b : B) : Type 0 where
  pub from : A
  pub has : P from
  pub is : f from ≡ Some b

pub first_given : {A B : Type 0} (P : A → Type 0) (f : A → Option B) (xs : List A) (b : B) → AllByRecursion P xs → slice_get (filter_map f xs) 0 ≡ Some b → Given P f b
first_given {A} {B} P f [] b h e = cc
first_given {A} {B} P f (x ∷ xs) b h e = at (f x) refl (λ g. first_given P f xs b h.1 g) e where
  at : (o : Option B) → f x ≡ o → (slice_get (filter_map f xs) 0 ≡ Some b → Given P f b) → slice_get (cons_option o (filter_map f xs)) 0 ≡ Some b → Given P f b
  at None is more g = more g
  at (Some y) is more g = record { from = x; has = h.0; is = is ∙ g }

pub numbers_within : (a n : ℕ) → AllByRecursion (λ k. (a ≤ k) × (k < a + n)) (range_with_len a n)
numbers_within a zero = tt
numbers_within a (suc n) = ((omega arith, omega arith), wider (range_with_len (a + 1) n) (numbers_within (a + 1) n)) where
  wider : (xs : List ℕ) → AllByRecursion (λ k. (a + 1 ≤ k) × (k < a + 1 + n)) xs → AllByRecursion (λ k. (a ≤ k) × (k < a + suc n)) xs
  wider [] h = tt
  wider (x ∷ xs) h = ((omega (arith, h.0.0), omega (arith, h.0.1)), wider xs h.1)

-- A replacement that is taken: the assertion is a candidate, some step has the replacement by it, and the proof with it is
-- taken.
pub record Taken (c : improve.Terms) (t : Terms) (prove : List WSym → Option Plain) (x : Plain) (id : ℕ) (y : Plain) : Type 0 where
  pub candidate : is_candidate c.bytes t x id ≡ true
  pub number : ℕ
  pub some : 1 ≤ number
  pub within : number ≤ size_of x
  pub tree : Plain
  pub by : replacement c prove x number id ≡ Some tree
  pub taken : is_taken c t x y ≡ true
  pub put_is : y ≡ put x number tree

taken_of : (c : improve.Terms) (t : Terms) (prove : List WSym → Option Plain) (x y : Plain) (id s : ℕ) → is_candidate c.bytes t x id ≡ true → 1 ≤ s → s ≤ size_of x → taken_at c t prove x id s ≡ Some y → Taken c t prove x id y
taken_of c t prove x y id s candidate some within e = at (replacement c prove x s id) refl e where
  at : (o : Option Plain) → replacement c prove x s id ≡ o → option_and_then (λ (z : Plain). if is_taken c t x (put x s z) then Some (put x s z) else None) o ≡ Some y → Taken c t prove x id y
  at None is g = cc
  at (Some z) is g = under (is_taken c t x (put x s z)) refl g where
    under : (b : Bool) → is_taken c t x (put x s z) ≡ b → (if b then Some (put x s z) else None) ≡ Some y → Taken c t prove x id y
    under true taken g =
        let same : put x s z ≡ y = cc in
        record {
          candidate = candidate;
          number = s;
          some = some;
          within = within;
          tree = z;
          by = is;
          taken = subst (λ (w : Plain). is_taken c t x w ≡ true) same taken;
          put_is = sym same;
        }
    under false taken g = cc

pub tried_taken : (c : improve.Terms) (t : Terms) (prove : List WSym → Option Plain) (x y : Plain) (id : ℕ) → tried c t prove x id ≡ Some y → Taken c t prove x id y
unfolding tried
tried_taken c t prove x y id e = at (is_candidate c.bytes t x id) refl e where
  at : (b : Bool) → is_candidate c.bytes t x id ≡ b → (if b then taken_by c t prove x id else None) ≡ Some y → Taken c t prove x id y
  at true is g =
      let s = first_given (λ k. (1 ≤ k) × (k < 1 + size_of x)) (taken_at c t prove x id) (range_with_len 1 (size_of x)) y (numbers_within 1 (size_of x)) g in
      taken_of c t prove x y id s.from is s.has.0 (let h : s.from < 1 + size_of x = s.has.1 in omega (arith, h)) s.is
  at false is g = cc

-- ## Lengths

taken_shorter : (c : improve.Terms) (t : Terms) (x y : Plain) → t.may_grow ≡ false → is_taken c t x y ≡ true → bytes_of c.bytes c.at y < bytes_of c.bytes c.at x
taken_shorter c t x y short e = at t.may_grow short e where
  less : (m n : ℕ) → nat_lt m n ≡ true → m < n
  less m n g = grind (arith, nat_tests)

  at : (b : Bool) → b ≡ false → (if b then not (same_tree (label_tree x) (label_tree y)) else nat_lt (bytes_of c.bytes c.at y) (bytes_of c.bytes c.at x)) ≡ true → bytes_of c.bytes c.at y < bytes_of c.bytes c.at x
  at true short g = absurd (true≢false short)
  at false short g = less (bytes_of c.bytes c.at y) (bytes_of c.bytes c.at x) g

module _ (c : improve.Terms) (t : Terms) (prove : List WSym → Option Plain) (short : t.may_grow ≡ false) where
  chain_shorter : (x : Plain) (used : List ℕ) (y : Plain) → Becomes (tried c t prove) x used y → bytes_of c.bytes c.at y ≤ bytes_of c.bytes c.at x
  chain_shorter x [] y h = subst (λ (z : Plain). bytes_of c.bytes c.at z ≤ bytes_of c.bytes c.at x) h (omega arith)
  chain_shorter x (id ∷ used) y h =
      let one : bytes_of c.bytes c.at h.0 < bytes_of c.bytes c.at x = taken_shorter c t x h.0 short (tried_taken c t prove x h.0 id h.1.0).taken in
      omega (arith, one, chain_shorter h.0 used y h.1.1)

  chain_shorter_by_one : (x : Plain) (used : List ℕ) (y : Plain) → 0 < length used → Becomes (tried c t prove) x used y → bytes_of c.bytes c.at y < bytes_of c.bytes c.at x
  chain_shorter_by_one x [] y some h = absurd (omega (arith, some))
  chain_shorter_by_one x (id ∷ used) y some h =
      let one : bytes_of c.bytes c.at h.0 < bytes_of c.bytes c.at x = taken_shorter c t x h.0 short (tried_taken c t prove x h.0 id h.1.0).taken in
      omega (arith, one, chain_shorter h.0 used y h.1.1)

pub is_shorter : IsShorter
is_shorter c t prove x m short e = let h = is_chain c t prove x m e in chain_shorter_by_one c t prove short x m.used m.plain h.1 h.0

-- ## The used statements

not_true : (b : Bool) → not b ≡ true → b ≡ false
not_true true h = absurd (true≢false (sym h))
not_true false h = refl

or_false : (a b : Bool) → (a || b) ≡ false → (a ≡ false) × (b ≡ false)
or_false true b h = absurd (true≢false h)
or_false false b h = (refl, h)

not_both : (a b : Bool) → (a && b) ≡ false → a ≡ true → b ≡ false
not_both true b h is = h
not_both false b h is = absurd (true≢false (sym is))

none_below : (n : ℕ) (test : ℕ → Bool) (m : ℕ) → some_below n test ≡ false → m < n → test m ≡ false
none_below n test m none small = at (test m) refl where
  at : (b : Bool) → test m ≡ b → test m ≡ false
  at true is = absurd (true≢false (sym (below_passes n test m small is) ∙ none))
  at false is = is

-- what rests on no statement of a kind depends on none of them
free_of : (bytes : List ℕ) (test : ℕ → Bool) (id m : ℕ) → rests_on bytes test id ≡ false → test m ≡ true → depends bytes id m ≡ false
unfolding depends
free_of bytes test id m free is = elim (cases_lt m id) [
  | inl small ↦ not_both (test m) (depends bytes id m) (none_below id (λ k. test k && depends bytes id k) m (or_false (test id) (some_below id (λ k. test k && depends bytes id k)) free).1 small) is
  | inr large ↦ at (depends bytes id m) refl large
] where
  at : (b : Bool) → depends bytes id m ≡ b → id ≤ m → depends bytes id m ≡ false
  at true d large = absurd (omega (arith, large, depends_earlier (uses bytes) (uses_earlier bytes) id m (true_depends (uses bytes) id m d)))
  at false d large = d

none_new : (is_a named based : Bool) → (is_a && named && not based) ≡ false → is_a ≡ true → named ≡ true → based ≡ true
none_new true true true h a n = refl
none_new true true false h a n = absurd (true≢false h)
none_new true false based h a n = absurd (true≢false (sym n))
none_new false named based h a n = absurd (true≢false (sym a))

-- a test that holds of no statement on which another rests
free_itself : (bytes : List ℕ) (test : ℕ → Bool) (id : ℕ) → rests_on bytes test id ≡ false → test id ≡ false
free_itself bytes test id free = (or_false (test id) (some_below id (λ m. test m && depends bytes id m)) free).0

contraposed : (bytes : List ℕ) (test : ℕ → Bool) (id m : ℕ) → rests_on bytes test id ≡ false → depends bytes id m ≡ true → test m ≡ false
contraposed bytes test id m free d = at (test m) refl where
  at : (b : Bool) → test m ≡ b → test m ≡ false
  at true is = absurd (true≢false (sym d ∙ free_of bytes test id m free is))
  at false is = is

pub brings_no_axiom : BringsNoAxiom
brings_no_axiom c t prove x y id e =
    let taken = tried_taken c t prove x y id e in
    let free : rests_on c.bytes (is_new_axiom c.bytes t x) id ≡ false = not_true (rests_on c.bytes (is_new_axiom c.bytes t x) id) (both (is_eligible c.bytes t id) (not (rests_on c.bytes (is_new_axiom c.bytes t x) id)) taken.candidate).1 in
    record {
      itself = λ a n. none_new (is_axiom c.bytes id) (is_named c.bytes t.no_new_axioms id) (has_base c.bytes x id) (free_itself c.bytes (is_new_axiom c.bytes t x) id free) a n;
      below = λ m a n d. none_new (is_axiom c.bytes m) (is_named c.bytes t.no_new_axioms m) (has_base c.bytes x m) (contraposed c.bytes (is_new_axiom c.bytes t x) id m free d) a n;
    }

fifth : (a b d e f g : Bool) → (a && b && d && e && f && g) ≡ true → f ≡ true
fifth a b d e f g h = (both (a && b && d && e) f (both (a && b && d && e && f) g h).0).1

eligible_allowed : (bytes : List ℕ) (t : Terms) (id : ℕ) → is_eligible bytes t id ≡ true → IsAllowed bytes t id
unfolding is_eligible
eligible_allowed bytes t id e =
    let free : rests_on bytes (is_named bytes t.forbid) id ≡ false =
    not_true (rests_on bytes (is_named bytes t.forbid) id)
    (fifth (not (is_hypothesis (stated_at bytes id).kind)) (is_named bytes t.pattern id) (not (is_named bytes t.except id)) (t.guarded_too || not (is_usage_guarded bytes id))
    (not (rests_on bytes (is_named bytes t.forbid) id)) (is_proved bytes id) e) in
    record {
      itself = free_itself bytes (is_named bytes t.forbid) id free;
      below = λ m is. free_of bytes (is_named bytes t.forbid) id m free is;
    }

chain_allowed : (c : improve.Terms) (t : Terms) (prove : List WSym → Option Plain) (x : Plain) (used : List ℕ) (y : Plain) → Becomes (tried c t prove) x used y → All (IsAllowed c.bytes t) used
chain_allowed c t prove x used y h = All-from_recursion (IsAllowed c.bytes t) used (along x used h) where
  along : (x : Plain) (used : List ℕ) → Becomes (tried c t prove) x used y → AllByRecursion (IsAllowed c.bytes t) used
  along x [] h = tt
  along x (id ∷ used) h =
      (eligible_allowed c.bytes t id (both (is_eligible c.bytes t id) (not (rests_on c.bytes (is_new_axiom c.bytes t x) id)) (tried_taken c t prove x h.0 id h.1.0).candidate).0, along h.0 used h.1.1)

pub uses_allowed : UsesAllowed
uses_allowed c t prove x m e = chain_allowed c t prove x m.used m.plain (is_chain c t prove x m e).0
