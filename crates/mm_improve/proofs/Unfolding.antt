-- The tree of a chosen proof is a step over the trees of its parts.
use Rattle.std.proofs.Common.{◌≡◌, ℕ, zero, suc, Bool, true, false, cond, List, [], ◌∷◌, Option, None, Some, map, refl, sym, ◌∙◌, ap, subst, if◌then◌else◌}
use Rattle.std.specs.List.{list_all, AllByRecursion}
use Rattle.std.specs.Cmp.Lexicographic.{pointwise}
use Rattle.std.proofs.lemmas.Bool.{and_parts, false≢true}
use Rattle.mm_scope.specs.Contents.{stated_at, active_at}
use Rattle.mm_stated.specs.Stated.{is_hypothesis}
use Rattle.mm_subst.specs.declared.symbol.WSym.{WSym}
use Rattle.mm_subst.specs.Substitutions.{applied}
use Rattle.mm_subst.specs.Statements.{statement_of}
use Rattle.mm_subst.specs.Symbols.{is_same}
use Rattle.mm_plain.specs.Lengths.{is_long}
use Rattle.mm_plain.specs.Premises.{premises_of}
use Rattle.mm_plain.specs.Shape.{known, unknown}
use Rattle.mm_chart.specs.Options.{is_there, or_else, on, first}
use Rattle.mm_improve.specs.Assertions.{Terms, parts}
use Rattle.mm_improve.specs.Ranks.{Use, Chosen, at_rank, hypothesis, uses, serves, unless_long, chosen, grown, tree}
use Rattle.mm_improve.proofs.ActiveKinds.{active_are_hypotheses}

premises_none : (bytes : List ℕ) (id : ℕ) → is_hypothesis (stated_at bytes id).kind ≡ true → premises_of bytes id ≡ []
unfolding premises_of
premises_none bytes id h = ap (λ (b : Bool). if b then [] else map (statement_of bytes) (stated_at bytes id).mandatory) h

first_holds : (P : ℕ → Type 0) (p : ℕ → Bool) (xs : List ℕ) (x : ℕ) → AllByRecursion P xs → first p xs ≡ Some x → P x
first_holds P p [] x h e = absurd (cc)
first_holds P p (y ∷ xs) x h e = by (p y) e (λ z. first_holds P p xs x h.1 z)
  where
    by : (b : Bool) → cond b (Some y) (first p xs) ≡ Some x → (first p xs ≡ Some x → P x) → P x
    by true e f = subst P (let q : y ≡ x = cc in q) h.0
    by false e f = f e

first_passes : {X : Type 0} (p : X → Bool) (xs : List X) (x : X) → first p xs ≡ Some x → p x ≡ true
first_passes p [] x e = absurd (cc)
first_passes p (y ∷ xs) x e = by (p y) refl e (λ z. first_passes p xs x z)
  where
    by : (b : Bool) → p y ≡ b → cond b (Some y) (first p xs) ≡ Some x → (first p xs ≡ Some x → p x ≡ true) → p x ≡ true
    by true q e f = ap p (let z : x ≡ y = cc in z) ∙ q
    by false q e f = f e

pub all_true : {X : Type 0} (p : X → Bool) (xs : List X) → list_all p xs ≡ true → AllByRecursion (λ x. p x ≡ true) xs
all_true p [] h = tt
all_true p (x ∷ xs) h = let w = and_parts (p x) (list_all p xs) h in (w.0, all_true p xs w.1)

pub same_on : {X Y : Type 0} (f g : X → Y) (P : X → Type 0) → ((x : X) → P x → f x ≡ g x) → (xs : List X) → AllByRecursion P xs → map f xs ≡ map g xs
same_on f g P e [] h = refl
same_on f g P e (x ∷ xs) h = ap (λ y. y ∷ map f xs) (e x h.0) ∙ ap (λ ys. g x ∷ ys) (same_on f g P e xs h.1)

pub all_weaker : {X : Type 0} (P Q : X → Type 0) → ((x : X) → P x → Q x) → (xs : List X) → AllByRecursion P xs → AllByRecursion Q xs
all_weaker P Q f [] h = tt
all_weaker P Q f (x ∷ xs) h = (f x h.0, all_weaker P Q f xs h.1)

pub some_there : {A : Type 0} (o : Option A) → is_there o ≡ true → (a : A) × (o ≡ Some a)
some_there None h = absurd (false≢true h)
some_there (Some a) h = (a, refl)

module _ (c : Terms) where
  pub at-zero : (g : List WSym) → chosen c 0 g ≡ unless_long g (on (at_rank 0) (hypothesis c g))
  unfolding chosen
  at-zero g = refl

  pub at-suc : (r : ℕ) (g : List WSym) → chosen c (suc r) g ≡ unless_long g (or_else (chosen c r g) (on (at_rank (suc r)) (first (serves c (chosen c r)) (uses c g))))
  unfolding chosen
  at-suc r g = refl

  tree-zero : (g : List WSym) → tree c 0 g ≡ grown c.bytes unknown g (chosen c 0 g)
  unfolding tree
  tree-zero g = refl

  tree-suc : (r : ℕ) (g : List WSym) → tree c (suc r) g ≡ grown c.bytes (tree c r) g (chosen c (suc r) g)
  unfolding tree
  tree-suc r g = refl

  pub short_of : (g : List WSym) (o : Option Chosen) (x : Chosen) → unless_long g o ≡ Some x → (is_long g ≡ false) × (o ≡ Some x)
  short_of g o x h = by (is_long g) refl h
    where
      by : (b : Bool) → is_long g ≡ b → (if b then None else o) ≡ Some x → (is_long g ≡ false) × (o ≡ Some x)
      by true e k = absurd (cc)
      by false e k = (e, k)

  not_long : (g : List WSym) (o : Option Chosen) → is_long g ≡ false → unless_long g o ≡ o
  not_long g o e = ap (λ (b : Bool). if b then None else o) e

  pub is_short : (r : ℕ) (g : List WSym) (x : Chosen) → chosen c r g ≡ Some x → is_long g ≡ false
  is_short zero g x h = (short_of g _ x (sym (at-zero g) ∙ h)).0
  is_short (suc r) g x h = (short_of g _ x (sym (at-suc r g) ∙ h)).0

  -- a chosen proof stays
  pub stays : (r : ℕ) (g : List WSym) (x : Chosen) → chosen c r g ≡ Some x → chosen c (suc r) g ≡ Some x
  stays r g x h =
      let next = on (at_rank (suc r)) (first (serves c (chosen c r)) (uses c g)) in
      at-suc r g ∙ not_long g (or_else (chosen c r g) next) (is_short r g x h) ∙ ap (λ (o : Option Chosen). or_else o next) h

  there_stays : (r : ℕ) (g : List WSym) → is_there (chosen c r g) ≡ true → is_there (chosen c (suc r) g) ≡ true
  there_stays r g h = let x = some_there (chosen c r g) h in ap is_there (stays r g x.0 x.1)

  abbrev pub parts_of : Chosen → List (List WSym)
  parts_of x = parts c.bytes x.use_.id x.use_.sigma

  -- a hypothesis has no parts
  pub no_parts : (g : List WSym) (x : Chosen) → chosen c 0 g ≡ Some x → parts_of x ≡ []
  no_parts g x h = by (first (λ id. pointwise is_same g (statement_of c.bytes id)) (active_at c.bytes c.at)) refl (short_of g _ x (sym (at-zero g) ∙ h)).1
    where
      by : (o : Option ℕ) → first (λ id. pointwise is_same g (statement_of c.bytes id)) (active_at c.bytes c.at) ≡ o → on (at_rank 0) (on (λ id. record { id = id; sigma = [] }) o) ≡ Some x → parts_of x ≡ []
      by None e k = absurd (cc)
      by (Some id) e k =
          let q : at_rank 0 (record { id = id; sigma = [] }) ≡ x = cc in
          let is = first_holds (λ m. is_hypothesis (stated_at c.bytes m).kind ≡ true) (λ id. pointwise is_same g (statement_of c.bytes id)) (active_at c.bytes c.at) id (active_are_hypotheses c.bytes c.at) e in
          subst (λ y. parts_of y ≡ []) q (ap (map (applied [])) (premises_none c.bytes id is))

  abbrev pub AllThere : ℕ → List (List WSym) → Type 0
  AllThere r gs = AllByRecursion (λ g. is_there (chosen c r g) ≡ true) gs

  use_parts : (r : ℕ) (g : List WSym) (x : Chosen) (o : Option Use) → first (serves c (chosen c r)) (uses c g) ≡ o → on (at_rank (suc r)) o ≡ Some x → AllThere r (parts_of x)
  use_parts r g x None e k = absurd (cc)
  use_parts r g x (Some u) e k =
      let q : at_rank (suc r) u ≡ x = cc in
      let s : serves c (chosen c r) u ≡ true = first_passes (serves c (chosen c r)) (uses c g) u e in
      subst (λ y. AllThere r (parts_of y)) q (all_true (λ g. is_there (chosen c r g)) (parts c.bytes u.id u.sigma) s)

  -- the parts of a chosen proof have one at the rank before
  served-by : (r : ℕ) (g : List WSym) (x : Chosen) (o : Option Chosen) → chosen c r g ≡ o → or_else o (on (at_rank (suc r)) (first (serves c (chosen c r)) (uses c g))) ≡ Some x → (chosen c r g ≡ Some x → AllThere r (parts_of x)) → AllThere r (parts_of x)
  served-by r g x (Some y) e k f = f (e ∙ k)
  served-by r g x None e k f = use_parts r g x (first (serves c (chosen c r)) (uses c g)) refl k

  pub served : (r : ℕ) (g : List WSym) (x : Chosen) → chosen c (suc r) g ≡ Some x → AllThere r (parts_of x)
  served zero g x h = served-by zero g x (chosen c 0 g) refl (short_of g _ x (sym (at-suc 0 g) ∙ h)).1 (λ k. subst (AllThere zero) (sym (no_parts g x k)) tt)
  served (suc q) g x h =
      served-by (suc q) g x (chosen c (suc q) g) refl (short_of g _ x (sym (at-suc (suc q) g) ∙ h)).1
      (λ k. all_weaker (λ p. is_there (chosen c q p) ≡ true) (λ p. is_there (chosen c (suc q) p) ≡ true) (there_stays q) (parts_of x) (served q g x k))

  pub parts_there : (r : ℕ) (g : List WSym) (x : Chosen) → chosen c r g ≡ Some x → AllThere r (parts_of x)
  parts_there zero g x h = subst (AllThere zero) (sym (no_parts g x h)) tt
  parts_there (suc r) g x h = all_weaker (λ p. is_there (chosen c r p) ≡ true) (λ p. is_there (chosen c (suc r) p) ≡ true) (there_stays r) (parts_of x) (served r g x h)

  pub tree-at-zero : (g : List WSym) (x : Chosen) → chosen c 0 g ≡ Some x → tree c 0 g ≡ known g x.use_.id x.use_.sigma []
  tree-at-zero g x h = tree-zero g ∙ ap (grown c.bytes unknown g) h ∙ ap (λ ps. known g x.use_.id x.use_.sigma (map unknown ps)) (no_parts g x h)

  pub tree-at-suc : (r : ℕ) (g : List WSym) (x : Chosen) → chosen c (suc r) g ≡ Some x → tree c (suc r) g ≡ known g x.use_.id x.use_.sigma (map (tree c r) (parts_of x))
  tree-at-suc r g x h = tree-suc r g ∙ ap (grown c.bytes (tree c r) g) h

  -- the tree of a goal that has a rank is the same from then on
  same_next : (r : ℕ) (g : List WSym) (x : Chosen) → chosen c r g ≡ Some x → tree c r g ≡ tree c (suc r) g
  same_next zero g x h = tree-at-zero g x h ∙ sym (tree-at-suc 0 g x (stays 0 g x h) ∙ ap (λ ps. known g x.use_.id x.use_.sigma (map (tree c 0) ps)) (no_parts g x h))
  same_next (suc r) g x h =
      tree-at-suc r g x h
      ∙ ap (known g x.use_.id x.use_.sigma) (same_on (tree c r) (tree c (suc r)) (λ p. is_there (chosen c r p) ≡ true) (λ p t. let y = some_there (chosen c r p) t in same_next r p y.0 y.1) (parts_of x) (served r g x h))
      ∙ sym (tree-at-suc (suc r) g x (stays (suc r) g x h))

  -- it is a step over the trees of its parts
  pub unfolds : (r : ℕ) (g : List WSym) (x : Chosen) → chosen c r g ≡ Some x → tree c r g ≡ known g x.use_.id x.use_.sigma (map (tree c r) (parts_of x))
  unfolds zero g x h = tree-at-zero g x h ∙ sym (ap (λ ps. known g x.use_.id x.use_.sigma (map (tree c 0) ps)) (no_parts g x h))
  unfolds (suc r) g x h =
      tree-at-suc r g x h
      ∙ ap (known g x.use_.id x.use_.sigma) (same_on (tree c r) (tree c (suc r)) (λ p. is_there (chosen c r p) ≡ true) (λ p t. let y = some_there (chosen c r p) t in same_next r p y.0 y.1) (parts_of x) (served r g x h))
