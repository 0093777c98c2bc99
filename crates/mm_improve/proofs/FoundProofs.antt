-- The proof of a goal at a depth, by the first use that serves.
use Rattle.std.proofs.Common.{◌≡◌, ◌≤◌, ◌<◌, ◌-◌, ℕ, zero, suc, Bool, true, false, ◌&&◌, cond, List, [], ◌∷◌, Option, None, Some, map, length, get_or, nat_lt, refl, sym, ◌∙◌, ap, subst, arith, if◌then◌else◌}
use Rattle.std.specs.List.{list_all}
use Rattle.std.specs.Option.{is_some}
use Rattle.std.proofs.lemmas.Bool.{false≢true, true≢false, le-ltb, lt-ltb}
use Rattle.mm_scope.specs.Contents.{stated_at}
use Rattle.mm_stated.specs.Stated.{is_essential}
use Rattle.mm_subst.specs.declared.symbol.WSym.{WSym}
use Rattle.mm_subst.specs.Applied.{most_symbols}
use Rattle.mm_subst.specs.Substitutions.{Pairs, applied}
use Rattle.mm_subst.specs.Statements.{statement_of}
use Rattle.mm_plain.specs.declared.plain.Plain.{Plain}
use Rattle.mm_plain.specs.Lengths.{is_long}
use Rattle.mm_plain.specs.Premises.{premise_ids}
use Rattle.mm_plain.specs.Shape.{known}
use Rattle.mm_plain.specs.Valid.{IsString, first_setting}
use Rattle.mm_improve.specs.Assertions.{Terms}
use Rattle.mm_improve.specs.Finding.{premise_proofs, serves_at, or_none, kids_at}
use Rattle.mm_chart.specs.Options.{is_there, or_else, on, first, first_there, all_there}
use Rattle.mm_improve.specs.Proving.{chosen_tree, essential_uses, premise_proof, proof_by, proof_of, rank_limit}
use Rattle.mm_improve.specs.Ranks.{Use, Chosen, at_rank, chosen, hypothesis, serves, tree, unless_long, uses}

-- ## Options

pub not_there : {A : Type 0} (o : Option A) → is_there o ≡ false → o ≡ None
not_there None h = refl
not_there (Some a) h = absurd (true≢false h)

pub there-on : {A B : Type 0} (f : A → B) (o : Option A) → is_there (on f o) ≡ is_there o
there-on f None = refl
there-on f (Some a) = refl

pub all_there-all : {X A : Type 0} (f : X → Option A) (xs : List X) → is_there (all_there (map f xs)) ≡ list_all (λ x. is_there (f x)) xs
all_there-all f [] = refl
all_there-all {X} {A} f (x ∷ xs) = by (f x) (all_there-all f xs)
  where
    by : (o : Option A) → is_there (all_there (map f xs)) ≡ list_all (λ x. is_there (f x)) xs → is_there (all_there (o ∷ map f xs)) ≡ (is_there o && list_all (λ x. is_there (f x)) xs)
    by None h = refl
    by (Some a) h = there-on (λ ys. a ∷ ys) (all_there (map f xs)) ∙ h

pub some-there : {A : Type 0} (o : Option A) → is_some o ≡ is_there o
some-there None = refl
some-there (Some a) = refl

-- the first of a list whose option is there, by the first that passes
chained : {X A : Type 0} → (X → Option A) → Option X → Option A
chained f None = None
chained f (Some x) = f x

first_there-first : {X A : Type 0} (f : X → Option A) (xs : List X) → first_there (map f xs) ≡ chained f (first (λ x. is_there (f x)) xs)
unfolding chained
first_there-first f [] = refl
first_there-first {X} {A} f (x ∷ xs) = by (f x) refl (first_there-first f xs)
  where
    by : (o : Option A) → f x ≡ o → first_there (map f xs) ≡ chained f (first (λ x. is_there (f x)) xs) → or_else o (first_there (map f xs)) ≡ chained f (cond (is_there o) (Some x) (first (λ x. is_there (f x)) xs))
    by None e h = h
    by (Some a) e h = sym e

pub first-passes : {X : Type 0} (p : X → Bool) (xs : List X) (x : X) → first p xs ≡ Some x → p x ≡ true
first-passes p [] x e = absurd (cc)
first-passes p (y ∷ xs) x e = by (p y) refl e (λ z. first-passes p xs x z)
  where
    by : (b : Bool) → p y ≡ b → cond b (Some y) (first p xs) ≡ Some x → (first p xs ≡ Some x → p x ≡ true) → p x ≡ true
    by true q e f = ap p (let z : x ≡ y = cc in z) ∙ q
    by false q e f = f e

-- ## Goals that are too long

module _ (c : Terms) where
  at-zero : (g : List WSym) → chosen c 0 g ≡ unless_long g (on (at_rank 0) (hypothesis c g))
  unfolding chosen
  at-zero g = refl

  at-suc : (r : ℕ) (g : List WSym) → chosen c (suc r) g ≡ unless_long g (or_else (chosen c r g) (on (at_rank (suc r)) (first (serves c (chosen c r)) (uses c g))))
  unfolding chosen
  at-suc r g = refl

  is_none : (g : List WSym) (o : Option Chosen) → is_long g ≡ true → unless_long g o ≡ None
  is_none g o e = ap (λ (b : Bool). if b then None else o) e

  long_unchosen : (r : ℕ) (g : List WSym) → is_long g ≡ true → chosen c r g ≡ None
  long_unchosen zero g e = at-zero g ∙ is_none g _ e
  long_unchosen (suc r) g e = at-suc r g ∙ is_none g _ e

  pub long_chosen : (g : List WSym) → is_long g ≡ true → chosen_tree c g ≡ None
  long_chosen g e = ap (on (λ (x : Chosen). tree c (rank_limit c.bytes g) g)) (long_unchosen (rank_limit c.bytes g) g e)

  pub found-zero : (g : List WSym) → proof_of c 0 g ≡ chosen_tree c g
  unfolding proof_of
  found-zero g = refl

  found-suc : (d : ℕ) (g : List WSym) → proof_of c (suc d) g ≡ (if is_long g then None else or_else (chosen_tree c g) (first_there (map (proof_by c (proof_of c d) g) (essential_uses c g))))
  unfolding proof_of
  found-suc d g = refl

  pub long_found : (d : ℕ) (g : List WSym) → is_long g ≡ true → proof_of c d g ≡ None
  long_found zero g e = found-zero g ∙ long_chosen g e
  long_found (suc d) g e = found-suc d g ∙ ap (λ (b : Bool). if b then None else or_else (chosen_tree c g) (first_there (map (proof_by c (proof_of c d) g) (essential_uses c g)))) e

  found-short : (d : ℕ) (g : List WSym) → is_long g ≡ false → proof_of c (suc d) g ≡ or_else (chosen_tree c g) (first_there (map (proof_by c (proof_of c d) g) (essential_uses c g)))
  found-short d g e = found-suc d g ∙ ap (λ (b : Bool). if b then None else or_else (chosen_tree c g) (first_there (map (proof_by c (proof_of c d) g) (essential_uses c g)))) e

  -- ## Goals

  pub string_short : (at : ℕ) (g : List WSym) → IsString (first_setting c.bytes at) g → is_long g ≡ false
  string_short at g h = le-ltb most_symbols (length g) h.short

  -- a goal that has a chosen proof has this one
  pub found_chosen : (d : ℕ) (g : List WSym) → is_long g ≡ false → is_there (chosen_tree c g) ≡ true → proof_of c d g ≡ chosen_tree c g
  found_chosen zero g s h = found-zero g
  found_chosen (suc d) g s h = found-short d g s ∙ by (chosen_tree c g) h
    where
      by : (o : Option Plain) → is_there o ≡ true → or_else o (first_there (map (proof_by c (proof_of c d) g) (essential_uses c g))) ≡ o
      by None h = absurd (false≢true h)
      by (Some x) h = refl

  pub found_at_zero : (d : ℕ) (g : List WSym) → d ≡ 0 → proof_of c d g ≡ chosen_tree c g
  found_at_zero d g e = ap (λ (n : ℕ). proof_of c n g) e ∙ found-zero g

  -- the proof by a use, where there is one
  abbrev pub by_use : ℕ → List WSym → Option Use → Option Plain
  by_use d g None = None
  by_use d g (Some u) = proof_by c (proof_of c d) g u

  pub serves-by : (d : ℕ) (g : List WSym) (u : Use) → is_there (proof_by c (proof_of c d) g u) ≡ serves_at c d u
  serves-by d g u = there-on (known g u.id u.sigma) (all_there (premise_proofs c d u))

  same_first : (d : ℕ) (g : List WSym) (us : List Use) → first (λ u. is_there (proof_by c (proof_of c d) g u)) us ≡ first (serves_at c d) us
  same_first d g [] = refl
  same_first d g (u ∷ us) = ap (λ (b : Bool). cond b (Some u) (first (λ u. is_there (proof_by c (proof_of c d) g u)) us)) (serves-by d g u) ∙ ap (cond (serves_at c d u) (Some u)) (same_first d g us)

  chained-use : (d : ℕ) (g : List WSym) (o : Option Use) → chained (proof_by c (proof_of c d) g) o ≡ by_use d g o
  unfolding chained
  chained-use d g None = refl
  chained-use d g (Some u) = refl

  by_first : (d : ℕ) (g : List WSym) → first_there (map (proof_by c (proof_of c d) g) (essential_uses c g)) ≡ by_use d g (first (serves_at c d) (essential_uses c g))
  by_first d g =
      first_there-first (proof_by c (proof_of c d) g) (essential_uses c g)
      ∙ ap (chained (proof_by c (proof_of c d) g)) (same_first d g (essential_uses c g))
      ∙ chained-use d g (first (serves_at c d) (essential_uses c g))

  -- another one has the proof by the first use that serves
  pub found_by : (d : ℕ) (g : List WSym) (o : Option Use) → 0 < d → is_long g ≡ false → chosen_tree c g ≡ None → o ≡ first (serves_at c (d - 1)) (essential_uses c g) → proof_of c d g ≡ by_use (d - 1) g o
  found_by d g o l s n e =
      let next : d ≡ suc (d - 1) = omega arith in
      ap (λ (k : ℕ). proof_of c k g) next ∙ found-short (d - 1) g s
      ∙ ap (λ (a : Option Plain). or_else a (first_there (map (proof_by c (proof_of c (d - 1)) g) (essential_uses c g)))) n
      ∙ by_first (d - 1) g ∙ ap (by_use (d - 1) g) (sym e)

  pub there_by : (d : ℕ) (g : List WSym) (o : Option Use) → o ≡ first (serves_at c d) (essential_uses c g) → is_there (by_use d g o) ≡ is_there o
  there_by d g None e = refl
  there_by d g (Some u) e = serves-by d g u ∙ first-passes (serves_at c d) (essential_uses c g) u (sym e)

  pub used_serves : (d : ℕ) (g : List WSym) (o : Option Use) (u : Use) → o ≡ first (serves_at c d) (essential_uses c g) → o ≡ Some u → serves_at c d u ≡ true
  used_serves d g o u e is = first-passes (serves_at c d) (essential_uses c g) u (sym e ∙ is)

  -- ## Hypotheses

  pub premise_essential : (d : ℕ) (sigma : Pairs) (m : ℕ) → is_essential (stated_at c.bytes m).kind ≡ true → premise_proof c (proof_of c d) sigma m ≡ proof_of c d (applied sigma (statement_of c.bytes m))
  premise_essential d sigma m e = ap (λ (b : Bool). if b then proof_of c d (applied sigma (statement_of c.bytes m)) else chosen_tree c (applied sigma (statement_of c.bytes m))) e

  pub premise_floated : (d : ℕ) (sigma : Pairs) (m : ℕ) → is_essential (stated_at c.bytes m).kind ≡ false → premise_proof c (proof_of c d) sigma m ≡ chosen_tree c (applied sigma (statement_of c.bytes m))
  premise_floated d sigma m e = ap (λ (b : Bool). if b then proof_of c d (applied sigma (statement_of c.bytes m)) else chosen_tree c (applied sigma (statement_of c.bytes m))) e

  pub premise_long : (d : ℕ) (sigma : Pairs) (m : ℕ) → is_long (applied sigma (statement_of c.bytes m)) ≡ true → premise_proof c (proof_of c d) sigma m ≡ None
  premise_long d sigma m e = by (is_essential (stated_at c.bytes m).kind) refl
    where
      by : (b : Bool) → is_essential (stated_at c.bytes m).kind ≡ b → premise_proof c (proof_of c d) sigma m ≡ None
      by true k = premise_essential d sigma m k ∙ long_found d (applied sigma (statement_of c.bytes m)) e
      by false k = premise_floated d sigma m k ∙ long_chosen (applied sigma (statement_of c.bytes m)) e

  pub serves-all : (d : ℕ) (u : Use) → serves_at c d u ≡ list_all (λ m. is_there (premise_proof c (proof_of c d) u.sigma m)) (premise_ids c.bytes u.id)
  serves-all d u = all_there-all (premise_proof c (proof_of c d) u.sigma) (premise_ids c.bytes u.id)
