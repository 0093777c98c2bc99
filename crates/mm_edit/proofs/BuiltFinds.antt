-- What a search finds of a substitution whose values are surely found.
use Rattle.std.proofs.Common.{◌≡◌, ◌≢◌, ℕ, zero, suc, ◌+◌, ◌*◌, ◌<◌, ◌≤◌, ◌==◌, Bool, true, false, not, ◌&&◌, List, [], ◌∷◌, ◌++◌, length, nat_le, nat_lt, Option, None, Some, refl, sym, ap, ◌∙◌, subst, ◌⊎◌, inl, inr, arith, if◌then◌else◌}
use Rattle.std.proofs.lemmas.Bool.{true≢false, false≢true}
use Rattle.std.proofs.lemmas.List.Elements.{All-from_recursion}
use Rattle.std.proofs.lemmas.List.Folds.{list_any-append}
use Rattle.std.specs.List.{All, Contains, AllByRecursion as ByRecursion}
use Rattle.mm_subst.specs.declared.symbol.WSym.{WSym}
use Rattle.mm_subst.specs.declared.symbol.WSym.TheVariants.{Const, Var, Work}
use Rattle.mm_subst.specs.Applied.{most_symbols}
use Rattle.mm_subst.specs.Symbols.{is_same, is_work, has_work}
use Rattle.mm_subst.specs.Substitutions.{Pairs, value_at, value_of, or_itself, applied}
use Rattle.mm_subst.proofs.Replaced.{applied-cons, value_of-some, value_of-none}
use Rattle.mm_subst.proofs.Keys.{is_same-true}
use Rattle.mm_unify.specs.declared.listing.Ended.{Ended}
use Rattle.mm_unify.specs.declared.listing.Ended.TheVariants.{Whole, Trials, Length}
use Rattle.mm_unify.specs.declared.listing.Settings.{Settings}
use Rattle.mm_unify.specs.Forbidden.{forbidden, heeded}
use Rattle.mm_unify.specs.Search.{Answer}
use Rattle.mm_unify.specs.Unifying.{restricted}
use Rattle.mm_unify.specs.Variables.{numbers, with_number}
use Rattle.mm_unify.proofs.OneValue.{finds_value}
use Rattle.mm_unify.proofs.Theorems.{answer_balanced}
use Rattle.mm_plain.specs.Binding.{HasWorkKeys}
use Rattle.mm_plain.proofs.Works.{neither, applied-plain}
use Rattle.mm_edit.specs.Built.{is_surely_found}
use Rattle.mm_edit.specs.Listed.{listed, only_among, only_unifier}
use Rattle.mm_edit.specs.Unifying.{unifier_in}
use Rattle.mm_edit.proofs.BuiltParts.{FindsParts}
use Rattle.mm_edit.proofs.BuiltFold.{found_for}
use Rattle.mm_edit.proofs.PartialBinding.{IsPart, IsGround}

pub record Surely (bytes : List ℕ) (set : Settings) (v : List WSym) : Type 0 where
  pub some : 1 ≤ length v
  pub short : length v < most_symbols
  pub trials : 1 + 2 * length v ≤ set.trials
  pub allowed : (forbidden bytes set.rule).at_end v ≡ false

both : (a b : Bool) → (a && b) ≡ true → (a ≡ true) × (b ≡ true)
both true b h = (refl, h)
both false b h = absurd (false≢true h)

below : (m n : ℕ) → nat_lt m n ≡ true → m < n
below m n h = grind arith

at_most : (m n : ℕ) → nat_le m n ≡ true → m ≤ n
at_most m n h = grind arith

not_so : (b : Bool) → not b ≡ true → b ≡ false
not_so true h = absurd (false≢true h)
not_so false h = refl

pub surely : (bytes : List ℕ) (set : Settings) (v : List WSym) → is_surely_found bytes set v ≡ true → Surely bytes set v
surely bytes set v h =
    let c = both (nat_lt 0 (length v) && nat_lt (length v) most_symbols && nat_le (1 + 2 * length v) set.trials) (not ((forbidden bytes set.rule).at_end v)) h in
    let b = both (nat_lt 0 (length v) && nat_lt (length v) most_symbols) (nat_le (1 + 2 * length v) set.trials) c.0 in
    let a = both (nat_lt 0 (length v)) (nat_lt (length v) most_symbols) b.0 in
    let some : 0 < length v = below 0 (length v) a.0 in
    record { some = omega (arith, some); short = below (length v) most_symbols a.1; trials = at_most (1 + 2 * length v) set.trials b.1; allowed = not_so ((forbidden bytes set.rule).at_end v) c.1 }

-- the numbers of a string

number_more : (P : ℕ → Type 0) (n : ℕ) (ms : List ℕ) → P n → ByRecursion P ms → ByRecursion P (with_number n ms)
number_more P n [] p h = (p, tt)
number_more P n (m ∷ ms) p h = go (nat_lt n m) (n == m) (number_more P n ms p h.1)
  where
    go : (a b : Bool) → ByRecursion P (with_number n ms) → ByRecursion P (if a then n ∷ m ∷ ms else if b then m ∷ ms else m ∷ with_number n ms)
    go true b later = (p, h)
    go false true later = h
    go false false later = (h.0, later)

each_number : (P : ℕ → Type 0) (s : List WSym) → ByRecursion (λ x. (n : ℕ) → x ≡ Work n → P n) s → ByRecursion P (numbers s)
each_number P [] h = tt
each_number P (Const n ∷ s) h = each_number P s h.1
each_number P (Var n ∷ s) h = each_number P s h.1
each_number P (Work n ∷ s) h = number_more P n (numbers s) (h.0 n refl) (each_number P s h.1)

append_all : {A : Type 0} (P : A → Type 0) (s t : List A) → ByRecursion P s → ByRecursion P t → ByRecursion P (s ++ t)
append_all P [] t a b = b
append_all P (x ∷ xs) t a b = (a.0, append_all P xs t a.1 b)

-- a substitution on some work variables is a part of it
restricted_each : (gamma : Pairs) (ms : List ℕ) (x : WSym) → (value_of (restricted gamma ms) x ≡ x ∷ []) ⊎ (value_of (restricted gamma ms) x ≡ value_of gamma x)
restricted_each gamma [] x = inl refl
restricted_each gamma (m ∷ ms) x = go (is_same (Work m) x) refl (restricted_each gamma ms x)
  where
    go : (b : Bool) → is_same (Work m) x ≡ b → (value_of (restricted gamma ms) x ≡ x ∷ []) ⊎ (value_of (restricted gamma ms) x ≡ value_of gamma x)
        → (or_itself x (if b then Some (value_of gamma (Work m)) else value_at (restricted gamma ms) x) ≡ x ∷ []) ⊎ (or_itself x (if b then Some (value_of gamma (Work m)) else value_at (restricted gamma ms) x) ≡ value_of gamma x)
    go true e later = inr (ap (value_of gamma) (is_same-true (Work m) x e))
    go false e later = later

restricted_works : (gamma : Pairs) (ms : List ℕ) → ByRecursion (λ p. is_work p.0 ≡ true) (restricted gamma ms)
restricted_works gamma [] = tt
restricted_works gamma (m ∷ ms) = (refl, restricted_works gamma ms)

restricted_part : (gamma : Pairs) (ms : List ℕ) → IsPart gamma (restricted gamma ms)
restricted_part gamma ms = record { works = All-from_recursion _ (restricted gamma ms) (restricted_works gamma ms); each = restricted_each gamma ms }

-- the only one of a whole listing

record IsOnly (l : Answer) (theta : Pairs) : Type 0 where
  whole : l.ended ≡ Whole
  found : l.found ≡ theta ∷ []

only_by : (e : Ended) (found : List Pairs) (theta : Pairs) → unifier_in (only_among e found) ≡ Some theta → (e ≡ Whole) × (found ≡ theta ∷ [])
only_by Trials found theta h = cc
only_by Length found theta h = cc
only_by Whole [] theta h = cc
only_by Whole (u ∷ []) theta h = let z : u ≡ theta = cc in (refl, ap (λ w. w ∷ []) z)
only_by Whole (u ∷ v ∷ found) theta h = cc

is_only : (l : Answer) (theta : Pairs) → unifier_in (only_unifier l) ≡ Some theta → IsOnly l theta
is_only l theta h = let b = only_by l.ended l.found theta h in record { whole = b.0; found = b.1 }

one_of_one : (theta r : Pairs) → Contains (theta ∷ []) r → theta ≡ r
one_of_one theta r (zero, less, e) = e
one_of_one theta r (suc k, less, e) = absurd (omega (arith, less))

module _ (bytes : List ℕ) (set : Settings) (gamma : Pairs) (works : HasWorkKeys gamma) (ground : IsGround gamma) (sure : ByRecursion (λ p. Surely bytes set p.1) gamma) where
  sure_at : (ps : Pairs) → ByRecursion (λ p. Surely bytes set p.1) ps → (x : WSym) (v : List WSym) → value_at ps x ≡ Some v → Surely bytes set v
  sure_at [] a x v e = cc
  sure_at (p ∷ ps) a x v e = go (is_same p.0 x) e (sure_at ps a.1 x v)
    where
      go : (b : Bool) → (if b then Some p.1 else value_at ps x) ≡ Some v → (value_at ps x ≡ Some v → Surely bytes set v) → Surely bytes set v
      go true h later = let same : p.1 ≡ v = cc in subst (Surely bytes set) same a.0
      go false h later = later h

  ground_at : (ps : Pairs) → IsGround ps → (x : WSym) (v : List WSym) → value_at ps x ≡ Some v → has_work v ≡ false
  ground_at [] a x v e = cc
  ground_at (p ∷ ps) a x v e = go (is_same p.0 x) e (ground_at ps a.1 x v)
    where
      go : (b : Bool) → (if b then Some p.1 else value_at ps x) ≡ Some v → (value_at ps x ≡ Some v → has_work v ≡ false) → has_work v ≡ false
      go true h later = let same : p.1 ≡ v = cc in subst (λ w. has_work w ≡ false) same a.0
      go false h later = later h

  full : (ps : Pairs) → ByRecursion (λ p. Surely bytes set p.1) ps → ByRecursion (λ p. p.1 ≢ []) ps
  full [] a = tt
  full (p ∷ ps) a = ((λ e. let n = ap length e in absurd (omega (arith, a.0.some, n))), full ps a.1)

  abbrev Allowed : ℕ → Type 0
  Allowed n = (forbidden bytes set.rule).at_end (value_of gamma (Work n)) ≡ false

  allowed_by : (n : ℕ) (o : Option (List WSym)) → value_at gamma (Work n) ≡ o → has_work (value_of gamma (Work n)) ≡ false → Allowed n
  allowed_by n None e h = absurd (true≢false (sym (ap has_work (value_of-none gamma (Work n) e)) ∙ h))
  allowed_by n (Some v) e h = ap ((forbidden bytes set.rule).at_end) (value_of-some gamma (Work n) v e) ∙ (sure_at gamma sure (Work n) v e).allowed

  allowed_in : (t : List WSym) → has_work (applied gamma t) ≡ false → ByRecursion (λ x. (n : ℕ) → x ≡ Work n → Allowed n) t
  allowed_in [] h = tt
  allowed_in (x ∷ xs) h =
      let parts = neither (has_work (value_of gamma x)) (has_work (applied gamma xs)) (sym (list_any-append is_work (value_of gamma x) (applied gamma xs)) ∙ ap has_work (sym (applied-cons gamma x xs)) ∙ h) in
      ((λ n e. allowed_by n (value_at gamma (Work n)) refl (ap (λ y. has_work (value_of gamma y)) (sym e) ∙ parts.0)), allowed_in xs parts.1)

  none_there : (s : List WSym) → has_work s ≡ false → ByRecursion (λ x. (n : ℕ) → x ≡ Work n → Allowed n) s
  none_there [] h = tt
  none_there (x ∷ xs) h = let parts = neither (is_work x) (has_work xs) h in ((λ n e. absurd (true≢false (sym (ap is_work e) ∙ parts.0))), none_there xs parts.1)

  finds_part : (t s : List WSym) (theta : Pairs) → has_work s ≡ false → applied gamma t ≡ s → found_for bytes set t s ≡ Some theta → IsPart gamma theta
  finds_part t s theta plain makes h =
      let l = listed bytes set t s in
      let only = is_only l theta h in
      let ms : List ℕ = numbers (t ++ s) in
      let allowed : All Allowed ms = All-from_recursion Allowed ms (each_number Allowed (t ++ s) (append_all _ t s (allowed_in t (ap has_work makes ∙ plain)) (none_there s plain))) in
      let has : Contains l.found (restricted gamma ms) =
      answer_balanced (heeded bytes set.rule) (Some set.trials) t s only.whole (inr plain) gamma
      (record { proper = record { work = works; full = All-from_recursion _ gamma (full gamma sure) }; equal = makes ∙ sym (applied-plain gamma works s plain) }) allowed in
      let same : theta ≡ restricted gamma ms = one_of_one theta (restricted gamma ms) (subst (λ us. Contains us (restricted gamma ms)) only.found has) in
      subst (IsPart gamma) (sym same) (restricted_part gamma ms)

  finds_single : (c n : ℕ) (v : List WSym) → value_at gamma (Work n) ≡ Some v → found_for bytes set (Const c ∷ Work n ∷ []) (Const c ∷ v) ≡ Some ((Work n, v) ∷ [])
  finds_single c n v e =
      let s = sure_at gamma sure (Work n) v e in
      ap (λ l. unifier_in (only_unifier l))
      (finds_value (heeded bytes set.rule) (Const c) n v set.trials
      (record { fixed = refl; plain = ground_at gamma ground (Work n) v e; full = (λ z. let k = ap length z in absurd (omega (arith, s.some, k))); short = s.short; allowed = s.allowed }) s.trials).0

  pub finds_parts : FindsParts gamma (found_for bytes set)
  finds_parts = record { part = finds_part; single = finds_single }
