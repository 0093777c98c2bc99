-- The matches of a string with an assertion: what a step by one of them names.
use Rattle.std.proofs.Common.{◌≡◌, ◌≤◌, ◌==◌, ◌||◌, ℕ, Bool, true, false, List, [], ◌∷◌, ◌++◌, All, Option, None, Some, length, map, nat_lt, ◌+◌, slice_get, get_or, refl, sym, ◌∙◌, ap, arith, inl, inr, subst, length-append, eqb-true, if◌then◌else◌}
use Rattle.std.specs.List.{list_all, list_any, cons_option, AllByRecursion}
use Rattle.std.proofs.lemmas.Bool.{cases_lt, and_parts, false≢true, true≢false, lt-ltb}
use Rattle.std.proofs.lemmas.Option.{none-some}
use Rattle.std.proofs.lemmas.List.Elements.{recursion_from_All, All-from_recursion}
use Rattle.mm_tables.specs.Distinct.{are_distinct}
use Rattle.mm_scope.specs.Contents.{labels_of, statements_of, stated_at, active_at, distinct_at, is_variable_of}
use Rattle.mm_scope.specs.Laws.{AllDiffer}
use Rattle.mm_stated.specs.Mandatory.{variables_of}
use Rattle.mm_stated.specs.Stated.{is_hypothesis, floated_by, variable_of}
use Rattle.mm_stated.specs.declared.statement.Kind.{Kind}
use Rattle.mm_stated.specs.declared.statement.Kind.TheVariants as kind
use Rattle.mm_subst.specs.declared.symbol.WSym.{WSym}
use Rattle.mm_subst.specs.declared.symbol.WSym.TheVariants.{Const, Var, Work}
use Rattle.mm_subst.specs.Statements.{symbol_of, statement_of}
use Rattle.mm_subst.specs.Substitutions.{Pairs, HasDistinctKeys, value_at, value_of, applied}
use Rattle.mm_subst.specs.Symbols.{is_same, is_work, has_work}
use Rattle.mm_subst.proofs.Keys.{is_same-true, is_same-itself, HasDistinctKeys-with_values, keys-with_values}
use Rattle.mm_subst.proofs.Replaced.{applied-cons, value_of-some}
use Rattle.mm_unify.specs.Forbidden.{forbidden}
use Rattle.mm_unify.specs.Listings.{answer, limit}
use Rattle.mm_unify.specs.Variables.{numbers}
use Rattle.mm_unify.proofs.Sorted.{Among, among_all, among_map, among_mapped, among_filtered}
use Rattle.mm_unify.proofs.Sound.{Solves, sound}
use Rattle.mm_plain.specs.Binding.{HasWorkKeys}
use Rattle.mm_plain.specs.Drawing.{fresh_from, fresh_for}
use Rattle.mm_plain.specs.Premises.{variables_for, may_stand}
use Rattle.mm_plain.specs.Valid.{Setting, first_setting, IsKnownSymbol, IsString, Names}
use Rattle.mm_plain.proofs.Forms.{formed, no_other}
use Rattle.mm_plain.proofs.Fresh.{keys-fresh}
use Rattle.mm_plain.proofs.Works.{applied-plain, statement-with_values}
use Rattle.mm_sound.specs.Apart.{variables_in, AreParted}
use Rattle.mm_improve.specs.Assertions.{Terms, are_apart, pattern, sigma_by, matches}
use Rattle.mm_chart.specs.Items.{if_variable, are_parted}
use Rattle.mm_improve.specs.Ranks.{Use}
use Rattle.mm_improve.proofs.Agreeing.{IsUsable, VariablesDiffer}
use Rattle.mm_improve.proofs.Unfolding.{all_true, all_weaker}

each_among : {X : Type 0} (P : X → Type 0) (xs : List X) → ((x : X) → Among x xs → P x) → AllByRecursion P xs
each_among P [] f = tt
each_among P (x ∷ xs) f = (f x (inl refl), each_among P xs (λ y a. f y (inr a)))

any_among : (v : ℕ) (ns : List ℕ) → list_any (λ n. v == n) ns ≡ true → Among v ns
any_among v [] h = absurd (false≢true h)
any_among v (n ∷ ns) h = by (v == n) refl h (any_among v ns)
  where
    by : (b : Bool) → v == n ≡ b → (b || list_any (λ k. v == k) ns) ≡ true → (list_any (λ k. v == k) ns ≡ true → Among v ns) → Among v (n ∷ ns)
    by true e k f = inl (eqb-true v n e)
    by false e k f = inr (f k)

-- ## Distinct pairs

test_variables : (q : ℕ → Bool) (s : List WSym) → list_all (if_variable q) s ≡ true → AllByRecursion (λ v. q v ≡ true) (variables_in s)
test_variables q [] h = tt
test_variables q (Const n ∷ s) h = test_variables q s h
test_variables q (Var n ∷ s) h = let w = and_parts (q n) (list_all (if_variable q) s) h in (w.0, test_variables q s w.1)
test_variables q (Work n ∷ s) h = test_variables q s h

parted : (groups : List (List ℕ)) (s t : List WSym) → are_parted groups s t ≡ true → AreParted groups s t
parted groups s t h =
    All-from_recursion (λ u. All (λ v. are_distinct groups u v ≡ true) (variables_in t)) (variables_in s)
    (all_weaker (λ u. list_all (if_variable (λ v. are_distinct groups u v)) t ≡ true) (λ u. All (λ v. are_distinct groups u v ≡ true) (variables_in t))
    (λ u k. All-from_recursion (λ v. are_distinct groups u v ≡ true) (variables_in t) (test_variables (λ v. are_distinct groups u v) t k)) (variables_in s)
    (test_variables (λ u. list_all (if_variable (λ v. are_distinct groups u v)) t) s h))

-- the values of the variables of each pair of an assertion are parted
abbrev pub HasPartedValues : Terms → ℕ → Pairs → Type 0
HasPartedValues c id sigma = All (λ p. AreParted (distinct_at c.bytes c.at) (value_of sigma (Var p.0)) (value_of sigma (Var p.1))) (stated_at c.bytes id).pairs

parted_values : (c : Terms) (id : ℕ) (sigma : Pairs) → are_apart c id sigma ≡ true → HasPartedValues c id sigma
parted_values c id sigma h =
    let groups = distinct_at c.bytes c.at in
    All-from_recursion _ (stated_at c.bytes id).pairs
    (all_weaker (λ p. are_parted groups (value_of sigma (Var p.0)) (value_of sigma (Var p.1)) ≡ true) (λ p. AreParted groups (value_of sigma (Var p.0)) (value_of sigma (Var p.1)))
    (λ p k. parted groups (value_of sigma (Var p.0)) (value_of sigma (Var p.1)) k) (stated_at c.bytes id).pairs
    (all_true (λ p. are_parted groups (value_of sigma (Var p.0)) (value_of sigma (Var p.1))) (stated_at c.bytes id).pairs h))

-- ## Variables

second : (ss : List ℕ) (v : ℕ) → slice_get ss 1 ≡ Some v → get_or ss 1 0 ≡ v
second [] v h = absurd (cc)
second (x ∷ []) v h = absurd (cc)
second (x ∷ y ∷ ss) v h = cc

module _ (bytes : List ℕ) where
  -- the variable of a `$f` is a variable
  floats_variable : (m v : ℕ) → variable_of (stated_at bytes m) ≡ Some v → is_variable_of bytes v ≡ true
  floats_variable m v h = by (stated_at bytes m).kind refl h
    where
      by : (k : Kind) → (stated_at bytes m).kind ≡ k → floated_by k (stated_at bytes m).symbols 1 ≡ Some v → is_variable_of bytes v ≡ true
      by kind.Float e g = elim (cases_lt m (length (labels_of bytes))) [
        | inl own ↦ ap (is_variable_of bytes) (sym (second (stated_at bytes m).symbols v g)) ∙ (formed bytes m own).variable e
        | inr other ↦ absurd (false≢true (ap (λ s. is_hypothesis s.kind) (sym (no_other bytes m other)) ∙ ap is_hypothesis e))
      ]
      by kind.Essential e g = absurd (cc)
      by kind.Axiom e g = absurd (cc)
      by kind.Theorem e g = absurd (cc)

  are_variables : (ms : List ℕ) → AllByRecursion (λ v. is_variable_of bytes v ≡ true) (variables_of (statements_of bytes) ms)
  unfolding variables_of
  are_variables [] = tt
  are_variables (m ∷ ms) = by (variable_of (stated_at bytes m)) (λ v e. floats_variable m v e) (are_variables ms)
    where
      by : (o : Option ℕ) → ((v : ℕ) → o ≡ Some v → is_variable_of bytes v ≡ true) → AllByRecursion (λ v. is_variable_of bytes v ≡ true) (variables_of (statements_of bytes) ms)
          → AllByRecursion (λ v. is_variable_of bytes v ≡ true) (cons_option o (variables_of (statements_of bytes) ms))
      by None f rest = rest
      by (Some v) f rest = (f v refl, rest)

  variables_are : (id : ℕ) → is_hypothesis (stated_at bytes id).kind ≡ false → variables_for bytes id ≡ variables_of (statements_of bytes) (stated_at bytes id).mandatory
  unfolding variables_for
  variables_are id h = ap (λ (b : Bool). if b then [] else variables_of (statements_of bytes) (stated_at bytes id).mandatory) h

  -- one that stands in a statement stands in its string
  in_statement : (id v : ℕ) → is_variable_of bytes v ≡ true → list_any (λ n. v == n) (stated_at bytes id).symbols ≡ true → Among (Var v) (statement_of bytes id)
  unfolding statement_of
  in_statement id v is h =
      let e : symbol_of bytes v ≡ Var v = ap (λ (b : Bool). if b then Var v else Const v) is in
      subst (λ (x : WSym). Among x (map (symbol_of bytes) (stated_at bytes id).symbols)) e (among_map (symbol_of bytes) v (stated_at bytes id).symbols (any_among v (stated_at bytes id).symbols h))

-- ## Values

left_of : {X : Type 0} (P : X → Type 0) (xs ys : List X) → AllByRecursion P (xs ++ ys) → AllByRecursion P xs
left_of P [] ys h = tt
left_of P (x ∷ xs) ys h = (h.0, left_of P xs ys h.1)

right_of : {X : Type 0} (P : X → Type 0) (xs ys : List X) → AllByRecursion P (xs ++ ys) → AllByRecursion P ys
right_of P [] ys h = h
right_of P (x ∷ xs) ys h = right_of P xs ys h.1

-- the value of a symbol is a piece of what a string becomes in which it stands
value_symbols : (P : WSym → Type 0) (theta : Pairs) (s : List WSym) (x : WSym) → Among x s → AllByRecursion P (applied theta s) → AllByRecursion P (value_of theta x)
value_symbols P theta [] x a h = absurd a
value_symbols P theta (y ∷ s) x (inl e) h =
    subst (λ (z : WSym). AllByRecursion P (value_of theta z)) (sym e) (left_of P (value_of theta y) (applied theta s) (subst (AllByRecursion P) (applied-cons theta y s) h))
value_symbols P theta (y ∷ s) x (inr a) h = value_symbols P theta s x a (right_of P (value_of theta y) (applied theta s) (subst (AllByRecursion P) (applied-cons theta y s) h))

value_length : (theta : Pairs) (s : List WSym) (x : WSym) → Among x s → length (value_of theta x) ≤ length (applied theta s)
value_length theta [] x a = absurd a
value_length theta (y ∷ s) x (inl e) =
    let all = ap length (applied-cons theta y s) ∙ length-append (value_of theta y) (applied theta s) in
    let one : length (value_of theta x) ≡ length (value_of theta y) = ap (λ (z : WSym). length (value_of theta z)) e in
    omega (arith, all, one)
value_length theta (y ∷ s) x (inr a) =
    let all = ap length (applied-cons theta y s) ∙ length-append (value_of theta y) (applied theta s) in
    let later = value_length theta s x a in
    omega (arith, all, later)

value_string : (c : Setting) (theta : Pairs) (s : List WSym) (x : WSym) → Among x s → IsString c (applied theta s) → IsString c (value_of theta x)
value_string c theta s x a h = record {
  symbols = All-from_recursion (IsKnownSymbol c) (value_of theta x) (value_symbols (IsKnownSymbol c) theta s x a (recursion_from_All (IsKnownSymbol c) (applied theta s) h.symbols));
  short = let l = value_length theta s x a in let m = h.short in omega (arith, l, m);
}

-- a pair has its own value where keys are distinct
own_value : (ps : Pairs) → HasDistinctKeys ps → (p : WSym × List WSym) → Among p ps → value_at ps p.0 ≡ Some p.1
own_value [] d p a = absurd a
own_value (q ∷ ps) d p (inl e) =
    ap (λ (r : WSym × List WSym). value_at (q ∷ ps) r.0) e
    ∙ ap (λ (b : Bool). if b then Some q.1 else value_at ps q.0) (is_same-itself q.0)
    ∙ ap (λ (r : WSym × List WSym). Some r.1) (sym e)
own_value (q ∷ ps) d p (inr a) = by (is_same q.0 p.0) refl (own_value ps d.1 p a)
  where
    by : (b : Bool) → is_same q.0 p.0 ≡ b → value_at ps p.0 ≡ Some p.1 → (if b then Some q.1 else value_at ps p.0) ≡ Some p.1
    by true e f = absurd (none-some p.1 (sym d.0 ∙ ap (value_at ps) (is_same-true q.0 p.0 e) ∙ f))
    by false e f = f

eqb_turned : (m k : ℕ) → m == k ≡ k == m
eqb_turned m k = grind arith

not_fresh : (n v : ℕ) (vs : List ℕ) → list_any (λ m. v == m) vs ≡ false → value_at (fresh_from n vs) (Var v) ≡ None
not_fresh n v [] h = refl
not_fresh n v (u ∷ vs) h = by (v == u) refl h (not_fresh (n + 1) v vs)
  where
    by : (b : Bool) → v == u ≡ b → (b || list_any (λ k. v == k) vs) ≡ false → (list_any (λ k. v == k) vs ≡ false → value_at (fresh_from (n + 1) vs) (Var v) ≡ None) → value_at (fresh_from n (u ∷ vs)) (Var v) ≡ None
    by true e k f = absurd (true≢false k)
    by false e k f = ap (λ (b : Bool). if b then Some (Work n ∷ []) else value_at (fresh_from (n + 1) vs) (Var v)) (eqb_turned u v ∙ e) ∙ f k

distinct_fresh : (n : ℕ) (vs : List ℕ) → AllDiffer vs → HasDistinctKeys (fresh_from n vs)
distinct_fresh n [] d = tt
distinct_fresh n (v ∷ vs) d = (not_fresh (n + 1) v vs d.0, distinct_fresh (n + 1) vs d.1)

-- ## A match

work_keys : (u : Pairs) (ms : List ℕ) → map (λ (q : WSym × List WSym). q.0) u ≡ map Work ms → AllByRecursion (λ (q : WSym × List WSym). is_work q.0 ≡ true) u
work_keys [] ms h = tt
work_keys (q ∷ u) [] h = absurd (cc)
work_keys (q ∷ u) (m ∷ ms) h =
    let first : q.0 ≡ Work m = cc in
    let rest : map (λ (q : WSym × List WSym). q.0) u ≡ map Work ms = cc in
    (ap is_work first, work_keys u ms rest)

-- a string over which no work variable is drawn has none
pub without_work : (bytes : List ℕ) (at : ℕ) (s : List WSym) → IsString (first_setting bytes at) s → has_work s ≡ false
without_work bytes at s h = each s (recursion_from_All (IsKnownSymbol (first_setting bytes at)) s h.symbols)
  where
    each : (t : List WSym) → AllByRecursion (IsKnownSymbol (first_setting bytes at)) t → has_work t ≡ false
    each [] k = refl
    each (Const n ∷ t) k = each t k.1
    each (Var n ∷ t) k = each t k.1
    each (Work n ∷ t) k = absurd (let low = k.0.0 in let high = k.0.1 in omega (arith, low, high))

-- a step by a use proves the goal, and keeps the pairs
pub record IsUse (c : Terms) (g : List WSym) (u : Use) : Type 0 where
  pub names : Names (first_setting c.bytes c.at) u.id u.sigma
  pub source : applied u.sigma (statement_of c.bytes u.id) ≡ g
  pub parted : HasPartedValues c u.id u.sigma

may_name : (c : Terms) (id : ℕ) → IsUsable c id → may_stand c.bytes c.at id ≡ true
unfolding may_stand
may_name c id u = ap (λ (b : Bool). if b then list_any (λ n. id == n) (active_at c.bytes c.at) else nat_lt id c.at) u.assertion ∙ lt-ltb id c.at u.earlier

use_by_unifier : (c : Terms) → VariablesDiffer c.bytes → (g : List WSym) (id : ℕ) (u : Pairs) → IsUsable c id → IsString (first_setting c.bytes c.at) g → Solves g (pattern c.bytes id) u → are_apart c id (sigma_by c.bytes id u) ≡ true
    → IsUse c g (record { id = id; sigma = sigma_by c.bytes id u })
use_by_unifier c differ g id u usable string solves apart =
    let S : Setting = first_setting c.bytes c.at in
    let vs : List ℕ = variables_for c.bytes id in
    let sigma : Pairs = sigma_by c.bytes id u in
    let works : HasWorkKeys u = All-from_recursion _ u (work_keys u (numbers (g ++ pattern c.bytes id)) solves.keys_are) in
    let same : vs ≡ variables_of (statements_of c.bytes) (stated_at c.bytes id).mandatory = variables_are c.bytes id usable.assertion in
    let is : applied sigma (statement_of c.bytes id) ≡ g =
    statement-with_values c.bytes u (fresh_for c.bytes 1 id) id works ∙ sym solves.equal ∙ applied-plain u works g (without_work c.bytes c.at g string) in
    let source : IsString S (applied sigma (statement_of c.bytes id)) = subst (IsString S) (sym is) string in
    let keys : map (λ (p : WSym × List WSym). p.0) sigma ≡ map Var vs = keys-with_values u (fresh_for c.bytes 1 id) ∙ keys-fresh 1 vs in
    let distinct : HasDistinctKeys sigma = HasDistinctKeys-with_values u (fresh_for c.bytes 1 id) (distinct_fresh 1 vs (subst AllDiffer (sym same) (differ id))) in
    let varies : AllByRecursion (λ v. is_variable_of c.bytes v ≡ true) vs = subst (AllByRecursion (λ v. is_variable_of c.bytes v ≡ true)) (sym same) (are_variables c.bytes (stated_at c.bytes id).mandatory) in
    let concluded = all_true (λ v. list_any (λ n. v == n) (stated_at c.bytes id).symbols) vs usable.concluded in
    record {
      names = record {
        stands = may_name c id usable;
        keys = keys;
        values = All-from_recursion (λ (p : WSym × List WSym). IsString S p.1) sigma (each_among (λ (p : WSym × List WSym). IsString S p.1) sigma (λ p a.
            let key : Among p.0 (map Var vs) = subst (Among p.0) keys (among_map (λ (q : WSym × List WSym). q.0) p sigma a) in
            let v = among_mapped Var p.0 vs key in
            let there : Among (Var v.0) (statement_of c.bytes id) = in_statement c.bytes id v.0 (among_all (λ v. is_variable_of c.bytes v ≡ true) vs varies v.0 v.1)
            (among_all (λ v. list_any (λ n. v == n) (stated_at c.bytes id).symbols ≡ true) vs concluded v.0 v.1) in
            let own : value_of sigma (Var v.0) ≡ p.1 = ap (value_of sigma) (sym v.2) ∙ value_of-some sigma p.0 p.1 (own_value sigma distinct p a) in
            subst (IsString S) own (value_string S sigma (statement_of c.bytes id) (Var v.0) there source)));
        source = source;
      };
      source = is;
      parted = parted_values c id sigma apart;
    }

-- each match of a string with an assertion that may be used is such a use
pub match_is_use : (c : Terms) → VariablesDiffer c.bytes → (g : List WSym) (id : ℕ) (sigma : Pairs) → IsUsable c id → IsString (first_setting c.bytes c.at) g → Among sigma (matches c g id) → IsUse c g (record { id = id; sigma = sigma })
match_is_use c differ g id sigma usable string a =
    let found : List Pairs = (answer (forbidden c.bytes c.rule) None g (pattern c.bytes id)).found in
    let f = among_filtered (are_apart c id) sigma (map (sigma_by c.bytes id) found) a in
    let m = among_mapped (sigma_by c.bytes id) sigma found f.0 in
    let solves : Solves g (pattern c.bytes id) m.0 =
    among_all (Solves g (pattern c.bytes id)) found (sound (forbidden c.bytes c.rule) g (pattern c.bytes id) (limit None g (pattern c.bytes id))) m.0 m.1 in
    subst (λ (s : Pairs). IsUse c g (record { id = id; sigma = s })) (sym m.2) (use_by_unifier c differ g id m.0 usable string solves (ap (are_apart c id) (sym m.2) ∙ f.1))
