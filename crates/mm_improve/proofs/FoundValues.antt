-- The values of a match are strings of the theorem that the goal is one of.
use Rattle.std.proofs.Common.{◌≡◌, ◌<◌, ◌≤◌, ◌+◌, ◌==◌, ℕ, zero, suc, Bool, true, false, ◌&&◌, ◌||◌, not, cond, List, [], ◌∷◌, ◌++◌, Option, None, Some, map, length, get_or, slice_get, slice_index, refl, sym, ◌∙◌, ap, arith, inl, inr, subst, if◌then◌else◌, length-append, nat_lt}
use Rattle.std.specs.List.{All, AllByRecursion, list_all, list_any, cons_option}
use Rattle.std.proofs.lemmas.Bool.{cases_Bool, cases_eq, cases_lt, eq-eqb, ne_eqb, false≢true, true≢false, ltb-false}
use Rattle.std.proofs.lemmas.List.Elements.{recursion_from_All, All-from_recursion}
use Rattle.mm_scope.specs.Contents.{labels_of, statements_of, stated_at, is_variable_of}
use Rattle.mm_scope.specs.Description.{is_usage_guarded}
use Rattle.mm_scope.specs.Laws.{AllDiffer}
use Rattle.mm_stated.specs.Mandatory.{variables_of}
use Rattle.mm_stated.specs.Stated.{Stated, is_hypothesis, floated_by, variable_of}
use Rattle.mm_stated.specs.declared.statement.Kind.{Kind}
use Rattle.mm_stated.specs.declared.statement.Kind.TheVariants as kind
use Rattle.mm_subst.specs.declared.symbol.WSym.{WSym}
use Rattle.mm_subst.specs.declared.symbol.WSym.TheVariants.{Const, Var, Work}
use Rattle.mm_subst.specs.Applied.{most_symbols}
use Rattle.mm_subst.specs.Statements.{symbol_of, statement_of}
use Rattle.mm_subst.specs.Symbols.{is_same, is_work, has_work}
use Rattle.mm_subst.specs.Substitutions.{Pairs, value_at, value_of, or_itself, applied, with_values}
use Rattle.mm_subst.proofs.Keys.{is_same-itself, is_same-true}
use Rattle.mm_subst.proofs.Replaced.{applied-cons, applied-one, applied-keyless}
use Rattle.mm_unify.specs.Variables.{numbers}
use Rattle.mm_unify.specs.Listings.{HasKeys}
use Rattle.mm_unify.proofs.Sorted.{Among, among_left, among_right}
use Rattle.mm_plain.specs.Drawing.{fresh_from, fresh_for}
use Rattle.mm_plain.specs.Lengths.{is_long}
use Rattle.mm_plain.specs.Premises.{variables_for}
use Rattle.mm_plain.specs.Valid.{Setting, IsKnownSymbol, IsString, first_setting}
use Rattle.mm_plain.proofs.Bounds.{applied-known}
use Rattle.mm_plain.proofs.Forms.{formed, no_other, string_of_statement}
use Rattle.mm_plain.proofs.Fresh.{length-applied-fresh}
use Rattle.mm_improve.specs.Assertions.{Terms, are_concluded, may_be_used, pattern}
use Rattle.mm_improve.specs.Finding.{HasStrings}

-- ## Strings without work variables

no_work : (bytes : List ℕ) (at : ℕ) (x : WSym) → IsKnownSymbol (first_setting bytes at) x → is_work x ≡ false
no_work bytes at (Const n) h = refl
no_work bytes at (Var n) h = refl
no_work bytes at (Work n) h = absurd (let a = h.0 in let b = h.1 in omega arith)

all_no_work : (bytes : List ℕ) (at : ℕ) (s : List WSym) → AllByRecursion (IsKnownSymbol (first_setting bytes at)) s → has_work s ≡ false
all_no_work bytes at [] h = refl
all_no_work bytes at (x ∷ s) h = ap (λ (b : Bool). b || has_work s) (no_work bytes at x h.0) ∙ all_no_work bytes at s h.1

pub string_no_work : (bytes : List ℕ) (at : ℕ) (s : List WSym) → IsString (first_setting bytes at) s → has_work s ≡ false
string_no_work bytes at s h = all_no_work bytes at s (recursion_from_All _ s h.symbols)

-- ## What a string under a substitution has of each symbol

abbrev HoldsIn : (WSym → Type 0) → ℕ → List WSym → Type 0
HoldsIn P n s = AllByRecursion P s × (length s ≤ n)

left_holds : (P : WSym → Type 0) (s t : List WSym) → AllByRecursion P (s ++ t) → AllByRecursion P s
left_holds P [] t h = tt
left_holds P (x ∷ s) t h = (h.0, left_holds P s t h.1)

right_holds : (P : WSym → Type 0) (s t : List WSym) → AllByRecursion P (s ++ t) → AllByRecursion P t
right_holds P [] t h = h
right_holds P (x ∷ s) t h = right_holds P s t h.1

value_holds : (P : WSym → Type 0) (n : ℕ) (theta : Pairs) (s : List WSym) (x : WSym) → Among x s → HoldsIn P n (applied theta s) → HoldsIn P n (value_of theta x)
value_holds P n theta [] x a h = absurd a
value_holds P n theta (y ∷ s) x a h =
    let q = subst (HoldsIn P n) (applied-cons theta y s) h in
    let size = length-append (value_of theta y) (applied theta s) in
    let less = q.1 in
    let right : HoldsIn P n (applied theta s) = (right_holds P (value_of theta y) (applied theta s) q.0, omega arith) in
    elim a [
      | inl e ↦ subst (λ z. HoldsIn P n (value_of theta z)) (sym e) (left_holds P (value_of theta y) (applied theta s) q.0, omega arith)
      | inr b ↦ value_holds P n theta s x b right
    ]

-- ## Fresh work variables

neither : (b c : Bool) → (b || c) ≡ false → (b ≡ false) × (c ≡ false)
neither true c h = absurd (true≢false h)
neither false c h = (refl, h)

both : (b c : Bool) → (b && c) ≡ true → (b ≡ true) × (c ≡ true)
both true c h = (refl, h)
both false c h = absurd (false≢true h)

fresh_work : (n : ℕ) (vs : List ℕ) (p : WSym × List WSym) → Among p (fresh_from n vs) → (v : ℕ) × (k : ℕ) × Among v vs × (p ≡ (Var v, Work k ∷ []))
fresh_work n [] p a = absurd a
fresh_work n (v ∷ vs) p (inl e) = (v, n, inl refl, e)
fresh_work n (v ∷ vs) p (inr a) = let r = fresh_work (n + 1) vs p a in (r.0, r.1, inr r.2, r.3)

among_differs : (v : ℕ) (vs : List ℕ) (u : ℕ) → list_any (λ n. v == n) vs ≡ false → Among u vs → (v == u) ≡ false
among_differs v [] u d a = absurd a
among_differs v (w ∷ vs) u d a =
    let h = neither (v == w) (list_any (λ n. v == n) vs) d in
    elim a [
      | inl e ↦ ap (λ (n : ℕ). v == n) e ∙ h.0
      | inr b ↦ among_differs v vs u h.1 b
    ]

-- variables that differ have their own work variables
own_work : (n : ℕ) (vs : List ℕ) → AllDiffer vs → (v k : ℕ) → Among (Var v, Work k ∷ []) (fresh_from n vs) → value_of (fresh_from n vs) (Var v) ≡ Work k ∷ []
own_work n [] d v k a = absurd a
own_work n (u ∷ vs) d v k (inl e) =
    let q : Var v ≡ Var u = ap (λ (p : WSym × List WSym). p.0) e in
    let w : Work k ∷ [] ≡ Work n ∷ [] = ap (λ (p : WSym × List WSym). p.1) e in
    let same : v ≡ u = cc in
    ap (λ (b : Bool). or_itself (Var v) (if b then Some (Work n ∷ []) else value_at (fresh_from (n + 1) vs) (Var v))) (eq-eqb u v (sym same)) ∙ sym w
own_work n (u ∷ vs) d v k (inr a) =
    let r = fresh_work (n + 1) vs (Var v, Work k ∷ []) a in
    let q : Var v ≡ Var r.0 = ap (λ (p : WSym × List WSym). p.0) r.3 in
    let same : v ≡ r.0 = cc in
    let other : (u == v) ≡ false = ap (λ (m : ℕ). u == m) same ∙ among_differs u vs r.0 d.0 r.2 in
    ap (λ (b : Bool). or_itself (Var v) (if b then Some (Work n ∷ []) else value_at (fresh_from (n + 1) vs) (Var v))) other ∙ own_work (n + 1) vs d.1 v k a

among_applied : (theta : Pairs) (s : List WSym) (x y : WSym) → Among x s → value_of theta x ≡ y ∷ [] → Among y (applied theta s)
among_applied theta [] x y a e = absurd a
among_applied theta (z ∷ s) x y a e =
    let P : List WSym → Type 0 = Among y in
    subst P (sym (applied-cons theta z s))
    (elim a [
      | inl q ↦ among_left y (value_of theta z) (applied theta s) (subst P (sym (ap (value_of theta) (sym q) ∙ e)) (inl refl))
      | inr b ↦ among_right y (value_of theta z) (applied theta s) (among_applied theta s x y b e)
    ])

-- ## The mandatory variables of an assertion

module _ (bytes : List ℕ) where
  second : (ss : List ℕ) (v : ℕ) → slice_get ss 1 ≡ Some v → slice_index ss 1 ≡ v
  second [] v h = absurd (cc)
  second (x ∷ []) v h = absurd (cc)
  second (x ∷ y ∷ ss) v h = let e : Some y ≡ Some v = h in let q : y ≡ v = cc in q

  floated_varies : (m v : ℕ) (k : Kind) → (stated_at bytes m).kind ≡ k → floated_by k (stated_at bytes m).symbols 1 ≡ Some v → is_variable_of bytes v ≡ true
  floated_varies m v kind.Float e h = elim (cases_lt m (length (labels_of bytes))) [
    | inl own ↦ subst (λ (n : ℕ). is_variable_of bytes n ≡ true) (second (stated_at bytes m).symbols v h) ((formed bytes m own).variable e)
    | inr other ↦ let q : kind.Axiom ≡ kind.Float = ap (λ (s : Stated). s.kind) (sym (no_other bytes m other)) ∙ e in absurd (cc)
  ]
  floated_varies m v kind.Essential e h = absurd (cc)
  floated_varies m v kind.Axiom e h = absurd (cc)
  floated_varies m v kind.Theorem e h = absurd (cc)

  all_vary : (ms : List ℕ) → AllByRecursion (λ v. is_variable_of bytes v ≡ true) (variables_of (statements_of bytes) ms)
  unfolding variables_of
  all_vary [] = tt
  all_vary (m ∷ ms) = by (variable_of (stated_at bytes m)) refl (all_vary ms)
    where
      by : (o : Option ℕ) → variable_of (stated_at bytes m) ≡ o → AllByRecursion (λ v. is_variable_of bytes v ≡ true) (variables_of (statements_of bytes) ms) → AllByRecursion (λ v. is_variable_of bytes v ≡ true) (cons_option o (variables_of (statements_of bytes) ms))
      by None e h = h
      by (Some v) e h = (floated_varies m v (stated_at bytes m).kind refl e, h)

  keys_vary : (id : ℕ) → AllByRecursion (λ v. is_variable_of bytes v ≡ true) (variables_for bytes id)
  unfolding variables_for
  keys_vary id = by (is_hypothesis (stated_at bytes id).kind)
    where
      by : (b : Bool) → AllByRecursion (λ v. is_variable_of bytes v ≡ true) (if b then [] else variables_of (statements_of bytes) (stated_at bytes id).mandatory)
      by true = tt
      by false = all_vary (stated_at bytes id).mandatory

  holds_at : (P : ℕ → Type 0) (vs : List ℕ) (v : ℕ) → AllByRecursion P vs → Among v vs → P v
  holds_at P [] v h a = absurd a
  holds_at P (u ∷ vs) v h (inl e) = subst P (sym e) h.0
  holds_at P (u ∷ vs) v h (inr a) = holds_at P vs v h.1 a

  passes_at : (p : ℕ → Bool) (vs : List ℕ) (v : ℕ) → list_all p vs ≡ true → Among v vs → p v ≡ true
  passes_at p [] v h a = absurd a
  passes_at p (u ∷ vs) v h a =
      let w = both (p u) (list_all p vs) h in
      elim a [
        | inl e ↦ ap p e ∙ w.0
        | inr b ↦ passes_at p vs v w.1 b
      ]

  among_symbols : (v : ℕ) (ns : List ℕ) → is_variable_of bytes v ≡ true → list_any (λ n. v == n) ns ≡ true → Among (Var v) (map (symbol_of bytes) ns)
  among_symbols v [] w h = absurd (false≢true h)
  among_symbols v (n ∷ ns) w h = elim (cases_eq v n) [
    | inl e ↦ inl (sym (ap (symbol_of bytes) (sym e) ∙ ap (λ (b : Bool). if b then Var v else Const v) w))
    | inr e ↦ inr (among_symbols v ns w (sym (ap (λ (b : Bool). b || list_any (λ m. v == m) ns) (ne_eqb v n e)) ∙ h))
  ]

  -- each is in the conclusion
  among_statement : (id v : ℕ) → are_concluded bytes id ≡ true → Among v (variables_for bytes id) → Among (Var v) (statement_of bytes id)
  unfolding statement_of
  among_statement id v h a =
      among_symbols v (stated_at bytes id).symbols (holds_at (λ v. is_variable_of bytes v ≡ true) (variables_for bytes id) v (keys_vary id) a)
      (passes_at (λ v. list_any (λ n. v == n) (stated_at bytes id).symbols) (variables_for bytes id) v h a)

  -- ## A unifier

  abbrev AreStrings : ℕ → Pairs → Type 0
  AreStrings at ps = AllByRecursion (λ p. IsString (first_setting bytes at) p.1) ps

  as_string : (at : ℕ) (s : List WSym) → HoldsIn (IsKnownSymbol (first_setting bytes at)) most_symbols s → IsString (first_setting bytes at) s
  as_string at s h = record { symbols = All-from_recursion _ s h.0; short = h.1 }

  -- what a unifier of the goal and the pattern puts for each variable
  values : (at id : ℕ) (theta : Pairs) (goal : List WSym) → AllDiffer (variables_for bytes id) → are_concluded bytes id ≡ true → IsString (first_setting bytes at) goal → goal ≡ applied theta (pattern bytes id) →
      (ps : Pairs) → ((p : WSym × List WSym) → Among p ps → Among p (fresh_for bytes 1 id)) → AreStrings at (with_values theta ps)
  values at id theta goal d h string e [] sub = tt
  values at id theta goal d h string e (p ∷ ps) sub =
      let P : WSym → Type 0 = IsKnownSymbol (first_setting bytes at) in
      let a = sub p (inl refl) in
      let r = fresh_work 1 (variables_for bytes id) p a in
      let mine : Among (Var r.0, Work r.1 ∷ []) (fresh_for bytes 1 id) = subst (λ q. Among q (fresh_for bytes 1 id)) r.3 a in
      let there : Among (Work r.1) (pattern bytes id) = among_applied (fresh_for bytes 1 id) (statement_of bytes id) (Var r.0) (Work r.1) (among_statement id r.0 h r.2) (own_work 1 (variables_for bytes id) d r.0 r.1 mine) in
      let whole : HoldsIn P most_symbols (applied theta (pattern bytes id)) = subst (HoldsIn P most_symbols) e (recursion_from_All _ goal string.symbols, string.short) in
      let one : HoldsIn P most_symbols (value_of theta (Work r.1)) = value_holds P most_symbols theta (pattern bytes id) (Work r.1) there whole in
      let is : value_of theta (Work r.1) ≡ applied theta p.1 = sym (ap (λ (q : WSym × List WSym). applied theta q.1) r.3 ∙ applied-one theta (Work r.1)) in
      (as_string at (applied theta p.1) (subst (HoldsIn P most_symbols) is one), values at id theta goal d h string e ps (λ q b. sub q (inr b)))

  -- a string without work variables stays under a unifier
  work_keys : (theta : Pairs) (ns : List ℕ) → map (λ (p : WSym × List WSym). p.0) theta ≡ map Work ns → (x : WSym) → is_work x ≡ false → value_at theta x ≡ None
  work_keys [] ns e x w = refl
  work_keys (p ∷ ps) [] e x w = absurd (cc)
  work_keys (p ∷ ps) (n ∷ ns) e x w =
      let k : p.0 ≡ Work n = cc in
      let rest : map (λ (p : WSym × List WSym). p.0) ps ≡ map Work ns = cc in
      ap (λ (b : Bool). if b then Some p.1 else value_at ps x) (ap (λ y. is_same y x) k ∙ other n x w) ∙ work_keys ps ns rest x w
    where
      other : (n : ℕ) (x : WSym) → is_work x ≡ false → is_same (Work n) x ≡ false
      other n (Const m) w = refl
      other n (Var m) w = refl
      other n (Work m) w = absurd (true≢false w)

  keyless : (theta : Pairs) (ns : List ℕ) → map (λ (p : WSym × List WSym). p.0) theta ≡ map Work ns → (s : List WSym) → has_work s ≡ false → AllByRecursion (λ x. value_at theta x ≡ None) s
  keyless theta ns e [] w = tt
  keyless theta ns e (x ∷ s) w =
      let q = neither (is_work x) (has_work s) w in
      (work_keys theta ns e x q.0, keyless theta ns e s q.1)

  stays : (theta : Pairs) (ns : List ℕ) → map (λ (p : WSym × List WSym). p.0) theta ≡ map Work ns → (s : List WSym) → has_work s ≡ false → applied theta s ≡ s
  stays theta ns e s w = applied-keyless theta s (All-from_recursion _ s (keyless theta ns e s w))

  -- so the values of a match are strings
  pub unifier_strings : (at id : ℕ) (theta : Pairs) (goal : List WSym) → AllDiffer (variables_for bytes id) → are_concluded bytes id ≡ true → IsString (first_setting bytes at) goal →
      HasKeys goal (pattern bytes id) theta → applied theta goal ≡ applied theta (pattern bytes id) → HasStrings bytes at (with_values theta (fresh_for bytes 1 id))
  unifier_strings at id theta goal d h string keys e =
      let same = sym (stays theta (numbers (goal ++ pattern bytes id)) keys goal (string_no_work bytes at goal string)) ∙ e in
      All-from_recursion _ (with_values theta (fresh_for bytes 1 id)) (values at id theta goal d h string same (fresh_for bytes 1 id) (λ p a. a))

-- ## Lengths

pub pattern_short : (bytes : List ℕ) (id : ℕ) → most_symbols < length (pattern bytes id) → ⊥
pattern_short bytes id h =
    let s = (string_of_statement (first_setting bytes 0) id).short in
    omega (arith, h, s, length-applied-fresh 1 (variables_for bytes id) (statement_of bytes id))

-- a string under values that are strings is one where it is not too long
pub applied_string : (bytes : List ℕ) (at : ℕ) (sigma : Pairs) (s : List WSym) → HasStrings bytes at sigma → IsString (first_setting bytes at) s → length (applied sigma s) ≤ most_symbols → IsString (first_setting bytes at) (applied sigma s)
applied_string bytes at sigma s h string short = record {
  symbols = applied-known (IsKnownSymbol (first_setting bytes at)) sigma (λ k d l. (h k d l).symbols) s string.symbols;
  short = short;
}

pub premise_string : (bytes : List ℕ) (at : ℕ) (sigma : Pairs) (m : ℕ) → HasStrings bytes at sigma → length (applied sigma (statement_of bytes m)) ≤ most_symbols → IsString (first_setting bytes at) (applied sigma (statement_of bytes m))
premise_string bytes at sigma m h short = applied_string bytes at sigma (statement_of bytes m) h (string_of_statement (first_setting bytes at) m) short

-- ## The unifiers that are listed

pub usable_concluded : (c : Terms) (id : ℕ) → may_be_used c id ≡ true → are_concluded c.bytes id ≡ true
usable_concluded c id h =
    let k = not (is_hypothesis (stated_at c.bytes id).kind) in
    let g = not (is_usage_guarded c.bytes id) in
    let u = both (k && are_concluded c.bytes id && g) (not (c.no_distinct && nat_lt 0 (length (stated_at c.bytes id).pairs))) h in
    let v = both (k && are_concluded c.bytes id) g u.0 in
    (both k (are_concluded c.bytes id) v.0).1

pub strings_at : (bytes : List ℕ) (at id : ℕ) (goal pat : List WSym) (fresh : Pairs) (found : List Pairs) (i : ℕ) (theta : Pairs)
    → AllDiffer (variables_for bytes id) → are_concluded bytes id ≡ true → IsString (first_setting bytes at) goal → fresh ≡ fresh_for bytes 1 id → pat ≡ pattern bytes id
    → All (λ u. applied u goal ≡ applied u pat) found → All (HasKeys goal pat) found → i < length found → theta ≡ get_or found i theta
    → HasStrings bytes at (with_values theta fresh)
strings_at bytes at id goal pat fresh found i theta differ h string f p sound keys l is =
    let e : applied theta goal ≡ applied theta pat = let P : Pairs → Type 0 = λ u. applied u goal ≡ applied u pat in subst P (sym is) (sound i theta l) in
    let k : HasKeys goal pat theta = subst (HasKeys goal pat) (sym is) (keys i theta l) in
    subst (λ s. HasStrings bytes at (with_values theta s)) (sym f)
    (unifier_strings bytes at id theta goal differ h string (subst (λ s. HasKeys goal s theta) p k) (e ∙ ap (applied theta) p))

pub lengths_at : (bytes : List ℕ) (at : ℕ) (sigma : Pairs) → HasStrings bytes at sigma → All (λ p. length p.1 ≤ most_symbols) sigma
lengths_at bytes at sigma h k d l = (h k d l).short
