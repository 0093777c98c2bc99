-- The values of the machine's substitution, as strings.
use Rattle.std.proofs.Common.{◌≡◌, ℕ, ◌==◌, ◌||◌, Bool, true, false, List, [], ◌∷◌, ◌++◌, map, length, drop, slice_get, slice_index, Some, refl, sym, ap, ◌∙◌, subst, arith, eqb-true, if◌then◌else◌}
use Rattle.std.proofs.lemmas.Bool.{true≢false, false≢true}
use Rattle.std.proofs.lemmas.List.{map-append}
use Rattle.std.specs.List.{list_any, cons_option, AllByRecursion as ByRecursion}
use Rattle.mm_scope.specs.Contents.{stated_at, statements_of, is_variable_of}
use Rattle.mm_scope.specs.Laws.{AllDiffer}
use Rattle.mm_stated.specs.Mandatory.{variables_of}
use Rattle.mm_stated.specs.Stated.{Stated, is_hypothesis, floated_by, variable_of}
use Rattle.mm_stated.specs.declared.statement.Kind.{Kind}
use Rattle.mm_stated.specs.declared.statement.Kind.TheVariants as kind
use Rattle.mm_subst.specs.declared.symbol.WSym.{WSym}
use Rattle.mm_subst.specs.declared.symbol.WSym.TheVariants.{Const, Var}
use Rattle.mm_subst.specs.Symbols.{is_same}
use Rattle.mm_subst.specs.Statements.{symbol_of, statement_of}
use Rattle.mm_subst.specs.Substitutions.{Pairs, value_at, or_itself, applied}
use Rattle.mm_subst.specs.Substitutions as string
use Rattle.mm_stack.specs.Substitution.{Binding, value_of, instance}
use Rattle.mm_stack.specs.Running.{arguments, is_float, substitution_of}
use Rattle.mm_stack.specs.Laws as laws
use Rattle.mm_plain.specs.Premises.{premise_ids, premises_of, variables_for}
use Rattle.mm_sound.specs.Pushed.{values_by}
use Rattle.mm_sound.proofs.Popped.{is_formed_float, other_varies_by}

-- the variables of the `$f` among these
abbrev pub floats : List ℕ → List ℕ → List ℕ
floats bytes ms = laws.variables_of (map (stated_at bytes) ms)

float_kind : (k : Kind) → is_float k ≡ true → k ≡ kind.Float
float_kind kind.Float h = refl
float_kind kind.Essential h = absurd (false≢true h)
float_kind kind.Axiom h = absurd (false≢true h)
float_kind kind.Theorem h = absurd (false≢true h)

float_varies : (s : Stated) → is_float s.kind ≡ true → s.symbols ≡ slice_index s.symbols 0 ∷ slice_index s.symbols 1 ∷ [] → variable_of s ≡ Some (slice_index s.symbols 1)
float_varies s is pair = ap (λ k. floated_by k s.symbols 1) (float_kind s.kind is) ∙ ap (λ (ss : List ℕ). slice_get ss 1) pair

floats_by : (bytes : List ℕ) (b : Bool) (m : ℕ) (vs : List ℕ) → is_float (stated_at bytes m).kind ≡ b
    → cons_option (variable_of (stated_at bytes m)) vs ≡ (if b then slice_index (stated_at bytes m).symbols 1 ∷ vs else vs)
floats_by bytes true m vs e = ap (λ o. cons_option o vs) (float_varies (stated_at bytes m) e (is_formed_float bytes m e).pair)
floats_by bytes false m vs e = ap (λ o. cons_option o vs) (other_varies_by (stated_at bytes m).kind (stated_at bytes m).symbols e)

floats_are : (bytes ms : List ℕ) → variables_of (statements_of bytes) ms ≡ floats bytes ms
unfolding variables_of
floats_are bytes [] = refl
floats_are bytes (m ∷ ms) =
    floats_by bytes (is_float (stated_at bytes m).kind) m (variables_of (statements_of bytes) ms) refl
    ∙ ap (λ vs. if is_float (stated_at bytes m).kind then slice_index (stated_at bytes m).symbols 1 ∷ vs else vs) (floats_are bytes ms)

variables_by : (bytes : List ℕ) (b : Bool) (ms : List ℕ) → (if b then [] else variables_of (statements_of bytes) ms) ≡ floats bytes (if b then [] else ms)
variables_by bytes true ms = refl
variables_by bytes false ms = floats_are bytes ms

pub variables_are : (bytes : List ℕ) (l : ℕ) → variables_for bytes l ≡ floats bytes (premise_ids bytes l)
unfolding variables_for premise_ids
variables_are bytes l = variables_by bytes (is_hypothesis (stated_at bytes l).kind) (stated_at bytes l).mandatory

premises_by : (bytes : List ℕ) (b : Bool) (ms : List ℕ) → (if b then [] else map (statement_of bytes) ms) ≡ map (statement_of bytes) (if b then [] else ms)
premises_by bytes true ms = refl
premises_by bytes false ms = refl

pub premises_are : (bytes : List ℕ) (l : ℕ) → premises_of bytes l ≡ map (statement_of bytes) (premise_ids bytes l)
unfolding premises_of premise_ids
premises_are bytes l = premises_by bytes (is_hypothesis (stated_at bytes l).kind) (stated_at bytes l).mandatory

-- the `$f` of an assertion are apart
not_among : (bytes : List ℕ) (c : ℕ) (vs : List ℕ) → is_variable_of bytes c ≡ false → ByRecursion (λ v. is_variable_of bytes v ≡ true) vs → list_any (λ v. c == v) vs ≡ false
not_among bytes c [] h a = refl
not_among bytes c (v ∷ vs) h a = different (c == v) refl ∙ not_among bytes c vs h a.1
  where
    different : (b : Bool) → (c == v) ≡ b → (b || list_any (λ w. c == w) vs) ≡ list_any (λ w. c == w) vs
    different true e = absurd (false≢true (sym h ∙ ap (is_variable_of bytes) (eqb-true c v e) ∙ a.0))
    different false e = refl

differ_head : (b : Bool) (v : ℕ) (vs : List ℕ) → b ≡ true → AllDiffer (if b then v ∷ vs else vs) → list_any (λ w. v == w) vs ≡ false
differ_head true v vs e o = o.0
differ_head false v vs e o = absurd (false≢true e)

differ_tail : (b : Bool) (v : ℕ) (vs : List ℕ) → AllDiffer (if b then v ∷ vs else vs) → AllDiffer vs
differ_tail true v vs o = o.1
differ_tail false v vs o = o

long_pair : (ss : List ℕ) (a b : ℕ) → ss ≡ a ∷ b ∷ [] → length ss ≡ 2
long_pair ss a b e = ap (λ (xs : List ℕ). length xs) e

apart_in : (bytes vs ms : List ℕ) → ByRecursion (λ v. is_variable_of bytes v ≡ true) vs → AllDiffer (floats bytes ms) → laws.AreApart vs (map (stated_at bytes) ms)
apart_in bytes vs [] a o = tt
apart_in bytes vs (m ∷ ms) a o = (
  (λ is. let f = is_formed_float bytes m is in record {
    pair = long_pair (stated_at bytes m).symbols _ _ f.pair;
    typecode = not_among bytes (slice_index (stated_at bytes m).symbols 0) vs f.typecode a;
    variable = differ_head (is_float (stated_at bytes m).kind) (slice_index (stated_at bytes m).symbols 1) (floats bytes ms) is o;
  }),
  apart_in bytes vs ms a (differ_tail (is_float (stated_at bytes m).kind) (slice_index (stated_at bytes m).symbols 1) (floats bytes ms) o),
)

pub float_variables : (bytes ms : List ℕ) → ByRecursion (λ v. is_variable_of bytes v ≡ true) (floats bytes ms)
float_variables bytes [] = tt
float_variables bytes (m ∷ ms) = more (is_float (stated_at bytes m).kind) refl (float_variables bytes ms)
  where
    more : (b : Bool) → is_float (stated_at bytes m).kind ≡ b → ByRecursion (λ v. is_variable_of bytes v ≡ true) (floats bytes ms)
        → ByRecursion (λ v. is_variable_of bytes v ≡ true) (if b then slice_index (stated_at bytes m).symbols 1 ∷ floats bytes ms else floats bytes ms)
    more true e a = ((is_formed_float bytes m e).variable, a)
    more false e a = a

pub apart : (bytes ms : List ℕ) → AllDiffer (variables_of (statements_of bytes) ms) → laws.AreApart (floats bytes ms) (map (stated_at bytes) ms)
apart bytes ms o = apart_in bytes (floats bytes ms) ms (float_variables bytes ms) (subst AllDiffer (floats_are bytes ms) o)

-- an entry as a string
abbrev pub text : List ℕ → List ℕ → List WSym
text bytes e = map (symbol_of bytes) e

same_test : (bytes : List ℕ) (v n : ℕ) → is_variable_of bytes v ≡ true → is_same (Var v) (symbol_of bytes n) ≡ n == v
same_test bytes v n var = by (is_variable_of bytes n) refl
  where
    turned : (a b : ℕ) → a == b ≡ b == a
    turned a b = grind arith

    other : (b : Bool) → n == v ≡ b → is_variable_of bytes n ≡ false → false ≡ b
    other true e off = absurd (true≢false (sym var ∙ ap (is_variable_of bytes) (sym (eqb-true n v e)) ∙ off))
    other false e off = refl

    by : (b : Bool) → is_variable_of bytes n ≡ b → is_same (Var v) (if b then Var n else Const n) ≡ n == v
    by true e = turned v n
    by false e = other (n == v) refl e

drop_text : (bytes e : List ℕ) → drop 1 (text bytes e) ≡ text bytes (drop 1 e)
drop_text bytes [] = refl
drop_text bytes (n ∷ ns) = refl

module _ (bytes : List ℕ) where
  -- what the machine has for a symbol
  abbrev pub value_in : List ℕ → List (List ℕ) → ℕ → List ℕ
  value_in ms es = value_of (substitution_of (arguments bytes ms es))

  -- the values for these hypotheses over entries
  abbrev pub values : List ℕ → List (List ℕ) → Pairs
  values ms es = values_by bytes ms (map (text bytes) es)

  abbrev Gives : List ℕ → List (List ℕ) → ℕ → Type 0
  Gives ms es n = string.value_of (values ms es) (symbol_of bytes n) ≡ text bytes (value_in ms es n)

  gives_by : (b : Bool) (m : ℕ) (ms : List ℕ) (e : List ℕ) (es : List (List ℕ)) (n : ℕ) → is_float (stated_at bytes m).kind ≡ b → Gives ms es n → Gives (m ∷ ms) (e ∷ es) n
  gives_by true m ms e es n is later =
      let v : ℕ = slice_index (stated_at bytes m).symbols 1 in
      let rest : Pairs = values ms es in
      let more : List Binding = substitution_of (arguments bytes ms es) in
      let y : WSym = symbol_of bytes n in
      ap (λ c. string.value_of (if c then (Var v, drop 1 (text bytes e)) ∷ rest else rest) y) is
      ∙ ap (λ w. string.value_of ((Var v, w) ∷ rest) y) (drop_text bytes e)
      ∙ ap (λ c. or_itself y (if c then Some (text bytes (drop 1 e)) else value_at rest y)) (same_test bytes v n (is_formed_float bytes m is).variable)
      ∙ pick (n == v) v rest more e later
      ∙ sym (ap (λ c. text bytes (value_of (if c then record { variable = v; value = drop 1 e } ∷ more else more) n)) is)
    where
      pick : (c : Bool) (v : ℕ) (rest : Pairs) (more : List Binding) (e : List ℕ) → string.value_of rest (symbol_of bytes n) ≡ text bytes (value_of more n)
          → or_itself (symbol_of bytes n) (if c then Some (text bytes (drop 1 e)) else value_at rest (symbol_of bytes n)) ≡ text bytes (if c then drop 1 e else value_of more n)
      pick true v rest more e h = refl
      pick false v rest more e h = h
  gives_by false m ms e es n is later =
      ap (λ c. string.value_of (if c then (Var (slice_index (stated_at bytes m).symbols 1), drop 1 (text bytes e)) ∷ values ms es else values ms es) (symbol_of bytes n)) is
      ∙ later
      ∙ sym (ap (λ c. text bytes (value_of (if c then record { variable = slice_index (stated_at bytes m).symbols 1; value = drop 1 e } ∷ substitution_of (arguments bytes ms es) else substitution_of (arguments bytes ms es)) n)) is)

  -- what the values give for a symbol is what the machine has
  pub gives : (ms : List ℕ) (es : List (List ℕ)) (n : ℕ) → Gives ms es n
  gives [] es n = refl
  gives (m ∷ ms) [] n = refl
  gives (m ∷ ms) (e ∷ es) n = gives_by (is_float (stated_at bytes m).kind) m ms e es n refl (gives ms es n)

  -- and so for strings
  pub same_text : (ms : List ℕ) (es : List (List ℕ)) (ss : List ℕ) → applied (values ms es) (text bytes ss) ≡ text bytes (instance (value_in ms es) ss)
  unfolding applied
  same_text ms es [] = refl
  same_text ms es (n ∷ ns) =
      ap (λ v. v ++ applied (values ms es) (text bytes ns)) (gives ms es n)
      ∙ ap (λ v. text bytes (value_in ms es n) ++ v) (same_text ms es ns)
      ∙ sym (map-append (symbol_of bytes) (value_in ms es n) (instance (value_in ms es) ns))

  -- and for statements
  pub statement_text : (ms : List ℕ) (es : List (List ℕ)) (l : ℕ) → applied (values ms es) (statement_of bytes l) ≡ text bytes (instance (value_in ms es) (stated_at bytes l).symbols)
  unfolding statement_of
  statement_text ms es l = same_text ms es (stated_at bytes l).symbols

  pub premise_texts : (ms : List ℕ) (es : List (List ℕ)) (ns : List ℕ)
      → map (applied (values ms es)) (map (statement_of bytes) ns) ≡ map (text bytes) (map (λ h. instance (value_in ms es) h.symbols) (map (stated_at bytes) ns))
  premise_texts ms es [] = refl
  premise_texts ms es (n ∷ ns) =
      ap (λ q. q ∷ map (applied (values ms es)) (map (statement_of bytes) ns)) (statement_text ms es n)
      ∙ ap (λ qs. text bytes (instance (value_in ms es) (stated_at bytes n).symbols) ∷ qs) (premise_texts ms es ns)

-- each value passes a test, where each that the machine substitutes does
pub values_pass : (test : List WSym → Bool) (bytes ms : List ℕ) (es : List (List ℕ)) → ByRecursion (λ v. test (text bytes v) ≡ true) (map (λ b. b.value) (substitution_of (arguments bytes ms es)))
    → ByRecursion (λ p. test p.1 ≡ true) (values bytes ms es)
values_pass test bytes [] es h = tt
values_pass test bytes (m ∷ ms) [] h = tt
values_pass test bytes (m ∷ ms) (e ∷ es) h = by (is_float (stated_at bytes m).kind) (λ g. values_pass test bytes ms es g) h
  where
    by : (b : Bool) → (ByRecursion (λ v. test (text bytes v) ≡ true) (map (λ b. b.value) (substitution_of (arguments bytes ms es))) → ByRecursion (λ p. test p.1 ≡ true) (values bytes ms es))
        → ByRecursion (λ v. test (text bytes v) ≡ true) (map (λ b. b.value) (if b then record { variable = slice_index (stated_at bytes m).symbols 1; value = drop 1 e } ∷ substitution_of (arguments bytes ms es) else substitution_of (arguments bytes ms es)))
        → ByRecursion (λ p. test p.1 ≡ true) (if b then (Var (slice_index (stated_at bytes m).symbols 1), drop 1 (text bytes e)) ∷ values bytes ms es else values bytes ms es)
    by true later h = (ap test (drop_text bytes e) ∙ h.0, later h.1)
    by false later h = later h

-- the keys are the variables of the `$f`
keys_by : (bytes : List ℕ) (b : Bool) (m : ℕ) (t : List WSym) (rest : Pairs) (vs : List ℕ) → map (λ (p : WSym × List WSym). p.0) rest ≡ map Var vs
    → map (λ (p : WSym × List WSym). p.0) (if b then (Var (slice_index (stated_at bytes m).symbols 1), drop 1 t) ∷ rest else rest) ≡ map Var (if b then slice_index (stated_at bytes m).symbols 1 ∷ vs else vs)
keys_by bytes true m t rest vs h = ap (λ ks. Var (slice_index (stated_at bytes m).symbols 1) ∷ ks) h
keys_by bytes false m t rest vs h = h

pub keys_are : (bytes ms : List ℕ) (ts : List (List WSym)) → length ms ≡ length ts → map (λ (p : WSym × List WSym). p.0) (values_by bytes ms ts) ≡ map Var (floats bytes ms)
keys_are bytes [] ts h = refl
keys_are bytes (m ∷ ms) [] h = absurd (omega (arith, h))
keys_are bytes (m ∷ ms) (t ∷ ts) h = keys_by bytes (is_float (stated_at bytes m).kind) m t (values_by bytes ms ts) (floats bytes ms) (keys_are bytes ms ts (omega (arith, h)))

-- each value is of a kind, where each string without its first symbol is
pub values_of_kind : (P : List WSym → Type 0) (bytes ms : List ℕ) (ts : List (List WSym)) → ByRecursion (λ t. P (drop 1 t)) ts → ByRecursion (λ p. P p.1) (values_by bytes ms ts)
values_of_kind P bytes [] ts h = tt
values_of_kind P bytes (m ∷ ms) [] h = tt
values_of_kind P bytes (m ∷ ms) (t ∷ ts) h = by (is_float (stated_at bytes m).kind) (values_of_kind P bytes ms ts h.1)
  where
    by : (b : Bool) → ByRecursion (λ p. P p.1) (values_by bytes ms ts) → ByRecursion (λ p. P p.1) (if b then (Var (slice_index (stated_at bytes m).symbols 1), drop 1 t) ∷ values_by bytes ms ts else values_by bytes ms ts)
    by true rest = (h.0, rest)
    by false rest = rest
