-- The steps of a tree with fresh work variables, under the substitution of a built proof.
use Rattle.std.proofs.Common.{◌≡◌, ℕ, ◌+◌, ◌==◌, Bool, true, false, List, [], ◌∷◌, ◌++◌, map, length, slice_get, slice_index, Option, None, Some, refl, sym, ap, ◌∙◌, subst, ◌⊎◌, inl, inr, arith, if◌then◌else◌}
use Rattle.std.proofs.lemmas.Bool.{cases_lt}
use Rattle.std.specs.List.{list_any, cons_option, AllByRecursion as ByRecursion}
use Rattle.mm_scope.specs.Contents.{labels_of, stated_at, statements_of, is_variable_of}
use Rattle.mm_scope.specs.Laws.{AllDiffer}
use Rattle.mm_stated.specs.Mandatory.{variables_of}
use Rattle.mm_stated.specs.Stated.{floated_by, variable_of, is_hypothesis}
use Rattle.mm_stated.specs.declared.statement.Kind.{Kind}
use Rattle.mm_stated.specs.declared.statement.Kind.TheVariants as kind
use Rattle.mm_subst.specs.declared.symbol.WSym.{WSym}
use Rattle.mm_subst.specs.declared.symbol.WSym.TheVariants.{Const, Var, Work}
use Rattle.mm_subst.specs.Statements.{symbol_of, statement_of}
use Rattle.mm_subst.specs.Symbols.{has_work}
use Rattle.mm_subst.specs.Substitutions.{Pairs, value_at, value_of, or_itself, applied, with_values}
use Rattle.mm_subst.proofs.Replaced.{applied-cons, applied-one, value_of-none}
use Rattle.mm_unify.specs.declared.listing.Settings.{Settings}
use Rattle.mm_plain.specs.declared.plain.Plain.{Plain}
use Rattle.mm_plain.specs.declared.plain.Plain.TheOpen as P
use Rattle.mm_plain.specs.declared.plain.Plain.TheViews as V
use Rattle.mm_plain.specs.Binding.{bound, HasWorkKeys, works_at}
use Rattle.mm_plain.specs.Drawing.{fresh_from, fresh_for}
use Rattle.mm_plain.specs.LabelTrees.{fresh_by}
use Rattle.mm_plain.specs.Premises.{premises_of, variables_for}
use Rattle.mm_plain.specs.Shape.{Each, known, unknown, target_of}
use Rattle.mm_plain.specs.Sources.{label_of, sigma_of}
use Rattle.mm_plain.specs.Valid.{Setting, IsGood}
use Rattle.mm_plain.proofs.Binding.{bound-unknown, bound-known, target_of-bound}
use Rattle.mm_plain.proofs.Equations.{by_trees, target_of-known}
use Rattle.mm_plain.proofs.Forms.{formed, no_other}
use Rattle.mm_plain.proofs.Kept.{known-good}
use Rattle.mm_plain.proofs.Read.{label_of-known, sigma_of-known}
use Rattle.mm_plain.proofs.Works.{neither, statement-with_values}
use Rattle.mm_edit.specs.Built.{HasOwnStrings, own_layer, IsOwnStep}
use Rattle.mm_edit.proofs.BuiltFold.{HasFloat, IsShown, IsReadyStep, known-ready}

-- ## Each mandatory variable has a `$f`

-- one of the premises is a typecode and the variable
abbrev pub HasPremise : List (List WSym) → ℕ → Type 0
HasPremise [] v = ⊥
HasPremise (h ∷ hs) v = ((c : ℕ) × (h ≡ Const c ∷ Var v ∷ [])) ⊎ HasPremise hs v

two_symbols : (bytes : List ℕ) (ss : List ℕ) (v : ℕ) → length ss ≡ 2 → is_variable_of bytes (slice_index ss 0) ≡ false → is_variable_of bytes (slice_index ss 1) ≡ true → slice_get ss 1 ≡ Some v
    → (c : ℕ) × (map (symbol_of bytes) ss ≡ Const c ∷ Var v ∷ [])
two_symbols bytes [] v h t w e = absurd (omega (arith, h))
two_symbols bytes (x ∷ []) v h t w e = absurd (omega (arith, h))
two_symbols bytes (x ∷ y ∷ []) v h t w e =
    let same : y ≡ v = cc in
    (x, ap (λ b. (if b then Var x else Const x) ∷ symbol_of bytes y ∷ []) t ∙ ap (λ b. Const x ∷ (if b then Var y else Const y) ∷ []) w ∙ ap (λ z. Const x ∷ Var z ∷ []) same)
two_symbols bytes (x ∷ y ∷ z ∷ zs) v h t w e = absurd (omega (arith, h))

float_string : (bytes : List ℕ) (m v : ℕ) (k : Kind) → (stated_at bytes m).kind ≡ k → floated_by k (stated_at bytes m).symbols 1 ≡ Some v → (c : ℕ) × (statement_of bytes m ≡ Const c ∷ Var v ∷ [])
unfolding statement_of
float_string bytes m v kind.Float e h = elim (cases_lt m (length (labels_of bytes))) [
  | inl own ↦ let f = formed bytes m own in two_symbols bytes (stated_at bytes m).symbols v (f.pair e) f.typecode (f.variable e) h
  | inr other ↦ let z = ap (λ s. slice_get s.symbols 1) (sym (no_other bytes m other)) ∙ h in cc
]
float_string bytes m v kind.Essential e h = cc
float_string bytes m v kind.Axiom e h = cc
float_string bytes m v kind.Theorem e h = cc

more_premises : (h : List WSym) (hs : List (List WSym)) (vs : List ℕ) → ByRecursion (HasPremise hs) vs → ByRecursion (HasPremise (h ∷ hs)) vs
more_premises h hs [] a = tt
more_premises h hs (v ∷ vs) a = (inr a.0, more_premises h hs vs a.1)

floats_among : (bytes : List ℕ) (ms : List ℕ) → ByRecursion (HasPremise (map (statement_of bytes) ms)) (variables_of (statements_of bytes) ms)
unfolding variables_of
floats_among bytes [] = tt
floats_among bytes (m ∷ ms) = go (variable_of (stated_at bytes m)) refl (more_premises (statement_of bytes m) (map (statement_of bytes) ms) (variables_of (statements_of bytes) ms) (floats_among bytes ms))
  where
    go : (o : Option ℕ) → variable_of (stated_at bytes m) ≡ o → ByRecursion (HasPremise (map (statement_of bytes) (m ∷ ms))) (variables_of (statements_of bytes) ms)
        → ByRecursion (HasPremise (map (statement_of bytes) (m ∷ ms))) (cons_option o (variables_of (statements_of bytes) ms))
    go None e later = later
    go (Some v) e later = (inl (float_string bytes m v (stated_at bytes m).kind refl e), later)

floats_by : (bytes : List ℕ) (b : Bool) (ms : List ℕ) → ByRecursion (HasPremise (if b then [] else map (statement_of bytes) ms)) (if b then [] else variables_of (statements_of bytes) ms)
floats_by bytes true ms = tt
floats_by bytes false ms = floats_among bytes ms

have_floats : (bytes : List ℕ) (l : ℕ) → ByRecursion (HasPremise (premises_of bytes l)) (variables_for bytes l)
unfolding premises_of variables_for
have_floats bytes l = floats_by bytes (is_hypothesis (stated_at bytes l).kind) (stated_at bytes l).mandatory

-- ## So each fresh work variable has a child

constant_itself : (k : ℕ) (vs : List ℕ) (c : ℕ) → value_at (fresh_from k vs) (Const c) ≡ None
constant_itself k [] c = refl
constant_itself k (v ∷ vs) c = constant_itself (k + 1) vs c

float_there : (hs : List (List WSym)) (sigma : Pairs) (v n : ℕ) → ((c : ℕ) → value_at sigma (Const c) ≡ None) → HasPremise hs v → value_of sigma (Var v) ≡ Work n ∷ [] → HasFloat n (map (applied sigma) hs)
float_there [] sigma v n none h e = absurd h
float_there (h ∷ hs) sigma v n none (inl p) e =
    inl (p.0, ap (applied sigma) p.1 ∙ applied-cons sigma (Const p.0) (Var v ∷ []) ∙ ap (λ w. w ++ applied sigma (Var v ∷ [])) (value_of-none sigma (Const p.0) (none p.0)) ∙ ap (λ w. Const p.0 ∷ w) (applied-one sigma (Var v) ∙ e))
float_there (h ∷ hs) sigma v n none (inr p) e = inr (float_there hs sigma v n none p e)

shown_from : (hs : List (List WSym)) (sigma : Pairs) → ((c : ℕ) → value_at sigma (Const c) ≡ None) → (k : ℕ) (vs : List ℕ) → ByRecursion (HasPremise hs) vs → ByRecursion (λ p. value_of sigma p.0 ≡ p.1) (fresh_from k vs)
    → ByRecursion (IsShown (map (applied sigma) hs)) (fresh_from k vs)
shown_from hs sigma none k [] h a = tt
shown_from hs sigma none k (v ∷ vs) h a = ((k, refl, float_there hs sigma v k none h.0 a.0), shown_from hs sigma none (k + 1) vs h.1 a.1)

behind_other : (v : ℕ) (w : List WSym) (r : Pairs) (k : ℕ) (vs : List ℕ) → list_any (λ m. v == m) vs ≡ false → ByRecursion (λ p. value_of r p.0 ≡ p.1) (fresh_from k vs) → ByRecursion (λ p. value_of ((Var v, w) ∷ r) p.0 ≡ p.1) (fresh_from k vs)
behind_other v w r k [] h a = tt
behind_other v w r k (u ∷ vs) h a =
    let e = neither (v == u) (list_any (λ m. v == m) vs) h in
    (ap (λ b. or_itself (Var u) (if b then Some w else value_at r (Var u))) e.0 ∙ a.0, behind_other v w r (k + 1) vs e.1 a.1)

same_number : (n : ℕ) → n == n ≡ true
same_number n = grind arith

own_values : (k : ℕ) (vs : List ℕ) → AllDiffer vs → ByRecursion (λ p. value_of (fresh_from k vs) p.0 ≡ p.1) (fresh_from k vs)
own_values k [] d = tt
own_values k (v ∷ vs) d = (
  ap (λ b. or_itself (Var v) (if b then Some (Work k ∷ []) else value_at (fresh_from (k + 1) vs) (Var v))) (same_number v),
  behind_other v (Work k ∷ []) (fresh_from (k + 1) vs) (k + 1) vs d.0 (own_values (k + 1) vs d.1),
)

fresh_shown : (bytes : List ℕ) (k l : ℕ) → AllDiffer (variables_for bytes l) → ByRecursion (IsShown (map (applied (fresh_for bytes k l)) (premises_of bytes l))) (fresh_for bytes k l)
fresh_shown bytes k l d = shown_from (premises_of bytes l) (fresh_for bytes k l) (constant_itself k (variables_for bytes l)) k (variables_for bytes l) (have_floats bytes l) (own_values k (variables_for bytes l) d)

-- ## Each step

-- the substitution of a step has fresh work variables
abbrev pub IsFreshAt : List ℕ → Option ℕ → Pairs → Type 0
IsFreshAt bytes None s = Unit {0}
IsFreshAt bytes (Some l) s = (m : ℕ) × (s ≡ fresh_for bytes m l)

pub each_fresh : (bytes : List ℕ) (ys : List Plain) (n : ℕ) → map sigma_of ys ≡ fresh_by bytes n (map label_of ys) → Each (λ y. IsFreshAt bytes (label_of y) (sigma_of y)) ys
each_fresh bytes [] n e = tt
each_fresh bytes (y ∷ ys) n e = go (label_of y) e (each_fresh bytes ys)
  where
    go : (o : Option ℕ) → map sigma_of (y ∷ ys) ≡ fresh_by bytes n (o ∷ map label_of ys) → ((k : ℕ) → map sigma_of ys ≡ fresh_by bytes k (map label_of ys) → Each (λ z. IsFreshAt bytes (label_of z) (sigma_of z)) ys)
        → IsFreshAt bytes o (sigma_of y) × Each (λ z. IsFreshAt bytes (label_of z) (sigma_of z)) ys
    go None e later = let rest : map sigma_of ys ≡ fresh_by bytes n (map label_of ys) = cc in (tt, later n rest)
    go (Some l) e later =
        let first : sigma_of y ≡ fresh_for bytes n l = cc in
        let rest : map sigma_of ys ≡ fresh_by bytes (n + length (variables_for bytes l)) (map label_of ys) = cc in
        ((n, first), later (n + length (variables_for bytes l)) rest)

pub own-unknown : (bytes : List ℕ) (set : Settings) (t : List WSym) → IsOwnStep bytes set (unknown t) → ⊥
unfolding IsOwnStep
own-unknown bytes set t h = subst (own_layer bytes set) (V.out-roll-Plain (P.Unknown t)) h

pub own-known : (bytes : List ℕ) (set : Settings) (t : List WSym) (l : ℕ) (s : Pairs) (kids : List Plain) → IsOwnStep bytes set (known t l s kids) → HasOwnStrings bytes set t l s
unfolding IsOwnStep
own-known bytes set t l s kids h = subst (own_layer bytes set) (V.out-roll-Plain (P.Known t l s kids)) h

module _ (bytes : List ℕ) (set : Settings) (differ : (l : ℕ) → AllDiffer (variables_for bytes l)) (at next : ℕ) (gamma : Pairs) (works : HasWorkKeys gamma) where
  abbrev c : Setting
  c = record { bytes = bytes; at = at; next = next }

  abbrev StepReady : Plain → Type 0
  StepReady y = IsGood c y → IsFreshAt bytes (label_of y) (sigma_of y) → IsOwnStep bytes set (bound gamma y) → works_at (bound gamma y) ≡ false → IsReadyStep bytes gamma y

  step_ready : (y : Plain) → StepReady y
  step_ready = by_trees StepReady
      (λ t g f o w. absurd (own-unknown bytes set (applied gamma t) (subst (IsOwnStep bytes set) (bound-unknown gamma t) o)))
      (λ t l s kids e g f o w.
      let i = known-good c t l s kids g in
      let fresh : (m : ℕ) × (s ≡ fresh_for bytes m l) = subst (λ r. IsFreshAt bytes (Some l) r) (sigma_of-known t l s kids) (subst (λ a. IsFreshAt bytes a (sigma_of (known t l s kids))) (label_of-known t l s kids) f) in
      let own = own-known bytes set (applied gamma t) l (with_values gamma s) (map (bound gamma) kids) (subst (IsOwnStep bytes set) (bound-known gamma t l s kids) o) in
      let equal : applied gamma t ≡ applied gamma (applied s (statement_of bytes l)) = own.target ∙ statement-with_values bytes gamma s l works in
      let target : target_of (bound gamma (known t l s kids)) ≡ applied gamma t = target_of-bound gamma (known t l s kids) ∙ ap (applied gamma) (target_of-known t l s kids) in
      let fixed : has_work (applied gamma t) ≡ false = ap has_work (sym target) ∙ (neither (has_work (target_of (bound gamma (known t l s kids)))) (list_any (λ p. has_work p.1) (sigma_of (bound gamma (known t l s kids)))) w).0 in
      let shown : ByRecursion (IsShown (map (applied s) (premises_of bytes l))) s = subst (λ r. ByRecursion (IsShown (map (applied r) (premises_of bytes l))) r) (sym fresh.1) (fresh_shown bytes fresh.0 l (differ l)) in
      known-ready bytes gamma t l s kids (record {
        equal = equal;
        fixed = ap has_work (sym equal) ∙ fixed;
        children = i.children;
        shown = subst (λ ts. ByRecursion (IsShown ts) s) (sym i.children) shown;
      }))

  pub steps_ready : (ys : List Plain) → Each (IsGood c) ys → Each (λ y. IsFreshAt bytes (label_of y) (sigma_of y)) ys → Each (IsOwnStep bytes set) (map (bound gamma) ys) → list_any works_at (map (bound gamma) ys) ≡ false
      → Each (IsReadyStep bytes gamma) ys
  steps_ready [] g f o w = tt
  steps_ready (y ∷ ys) g f o w =
      let e = neither (works_at (bound gamma y)) (list_any works_at (map (bound gamma) ys)) w in
      (step_ready y g.0 f.0 o.0 e.0, steps_ready ys g.1 f.1 o.1 e.1)
