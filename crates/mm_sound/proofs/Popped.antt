-- The arguments of an assertion, where its entries are its hypotheses under a substitution.
use Rattle.std.proofs.Common.{◌≡◌, ℕ, Bool, true, false, cond, not, ◌&&◌, ◌||◌, ◌==◌, List, [], ◌∷◌, ◌++◌, map, length, drop, nat_eq, None, Some, slice_get, slice_index, refl, sym, ap, ◌∙◌, arith, append-nil, eq-eqb, inl, inr, if◌then◌else◌}
use Rattle.std.proofs.lemmas.Bool.{true≢false, false≢true, eqb-true, cases_lt}
use Rattle.std.specs.List.{list_any, list_all, cons_option}
use Rattle.std.specs.Str.{bytes_eq}
use Rattle.mm_scope.specs.Contents.{stated_at, statements_of, labels_of, is_variable_of}
use Rattle.mm_stated.specs.Mandatory.{variables_of}
use Rattle.mm_stated.specs.Stated.{Stated, floated_by, variable_of}
use Rattle.mm_stated.specs.declared.statement.Kind.{Kind}
use Rattle.mm_stated.specs.declared.statement.Kind.TheVariants as kind
use Rattle.mm_subst.specs.Substitutions.{Pairs}
use Rattle.mm_stack.specs.Substitution.{value_of, instance}
use Rattle.mm_stack.specs.Running.{Argument, arguments, is_float, begins_with, has_typecode, substitution_of, is_instance}
use Rattle.mm_plain.proofs.Forms.{formed, no_other}
use Rattle.mm_sound.proofs.Strings.{meaning}

-- a `$f` has a constant and a variable
pub record IsFloat (bytes : List ℕ) (m : ℕ) : Type 0 where
  pub pair : (stated_at bytes m).symbols ≡ slice_index (stated_at bytes m).symbols 0 ∷ slice_index (stated_at bytes m).symbols 1 ∷ []
  pub typecode : is_variable_of bytes (slice_index (stated_at bytes m).symbols 0) ≡ false
  pub variable : is_variable_of bytes (slice_index (stated_at bytes m).symbols 1) ≡ true

two : (ss : List ℕ) → length ss ≡ 2 → ss ≡ slice_index ss 0 ∷ slice_index ss 1 ∷ []
two [] h = absurd (omega arith)
two (x ∷ []) h = absurd (omega arith)
two (x ∷ y ∷ []) h = refl
two (x ∷ y ∷ z ∷ zs) h = absurd (omega arith)

float_kind : (k : Kind) → is_float k ≡ true → k ≡ kind.Float
float_kind kind.Float h = refl
float_kind kind.Essential h = absurd (false≢true h)
float_kind kind.Axiom h = absurd (false≢true h)
float_kind kind.Theorem h = absurd (false≢true h)

pub is_formed_float : (bytes : List ℕ) (m : ℕ) → is_float (stated_at bytes m).kind ≡ true → IsFloat bytes m
is_formed_float bytes m h = elim (cases_lt m (length (labels_of bytes))) [
  | inl own ↦ let f = formed bytes m own in
      record { pair = two (stated_at bytes m).symbols (f.pair (float_kind (stated_at bytes m).kind h)); typecode = f.typecode; variable = f.variable (float_kind (stated_at bytes m).kind h) }
  | inr other ↦ absurd (false≢true (ap (λ s. is_float s.kind) (sym (no_other bytes m other)) ∙ h))
]

-- a hypothesis, and the entry for it
abbrev pub argument : List ℕ → Pairs → ℕ → Argument
argument bytes sigma m = record { hypothesis = stated_at bytes m; entry = instance (meaning bytes sigma) (stated_at bytes m).symbols }

abbrev pub entry_for : List ℕ → Pairs → ℕ → List ℕ
entry_for bytes sigma m = instance (meaning bytes sigma) (stated_at bytes m).symbols

pub arguments_are : (bytes : List ℕ) (sigma : Pairs) (ms : List ℕ) → arguments bytes ms (map (entry_for bytes sigma) ms) ≡ map (argument bytes sigma) ms
arguments_are bytes sigma [] = refl
arguments_are bytes sigma (m ∷ ms) = ap (λ xs. argument bytes sigma m ∷ xs) (arguments_are bytes sigma ms)

float_binds : (a : Argument) (rest : List Argument) → is_float a.hypothesis.kind ≡ true
    → substitution_of (a ∷ rest) ≡ record { variable = slice_index a.hypothesis.symbols 1; value = drop 1 a.entry } ∷ substitution_of rest
float_binds a rest e = rw e refl

other_binds : (a : Argument) (rest : List Argument) → is_float a.hypothesis.kind ≡ false → substitution_of (a ∷ rest) ≡ substitution_of rest
other_binds a rest e = rw e refl

pub other_varies_by : (k : Kind) (ss : List ℕ) → is_float k ≡ false → floated_by k ss 1 ≡ None
other_varies_by kind.Float ss h = absurd (true≢false h)
other_varies_by kind.Essential ss h = refl
other_varies_by kind.Axiom ss h = refl
other_varies_by kind.Theorem ss h = refl

pub float_varies : (s : Stated) → is_float s.kind ≡ true → s.symbols ≡ slice_index s.symbols 0 ∷ slice_index s.symbols 1 ∷ [] → variable_of s ≡ Some (slice_index s.symbols 1)
float_varies s is pair = ap (λ k. floated_by k s.symbols 1) (float_kind s.kind is) ∙ ap (λ ss. slice_get ss 1) pair

or_right : (a b : Bool) → b ≡ true → (a || b) ≡ true
or_right true b h = refl
or_right false b h = h

pub bytes_eq-itself : (xs : List ℕ) → bytes_eq xs xs ≡ true
bytes_eq-itself [] = refl
bytes_eq-itself (x ∷ xs) = ap (λ b. b && bytes_eq xs xs) (eq-eqb x x refl) ∙ bytes_eq-itself xs

pub all_pass : (p : Argument → Bool) (f : ℕ → Argument) → ((m : ℕ) → p (f m) ≡ true) → (ms : List ℕ) → list_all p (map f ms) ≡ true
all_pass p f each [] = refl
all_pass p f each (m ∷ ms) = ap (λ b. b && list_all p (map f ms)) (each m) ∙ all_pass p f each ms

-- constants stand for themselves
module _ (bytes : List ℕ) (sigma : Pairs) (constant : (n : ℕ) → is_variable_of bytes n ≡ false → meaning bytes sigma n ≡ n ∷ []) where
  -- the entry of a `$f` is its typecode and what stands for its variable
  float_entry : (m : ℕ) → IsFloat bytes m → entry_for bytes sigma m ≡ slice_index (stated_at bytes m).symbols 0 ∷ meaning bytes sigma (slice_index (stated_at bytes m).symbols 1)
  float_entry m f =
      let t : ℕ = slice_index (stated_at bytes m).symbols 0 in
      let v : ℕ = slice_index (stated_at bytes m).symbols 1 in
      ap (instance (meaning bytes sigma)) f.pair
      ∙ ap (λ xs. xs ++ (meaning bytes sigma v ++ [])) (constant t f.typecode)
      ∙ ap (λ xs. t ∷ xs) (append-nil (meaning bytes sigma v))

  typed_by : (m : ℕ) (b : Bool) → is_float (stated_at bytes m).kind ≡ b → has_typecode (argument bytes sigma m) ≡ true
  typed_by m true e =
      let t : ℕ = slice_index (stated_at bytes m).symbols 0 in
      ap (λ b. not b || begins_with t (entry_for bytes sigma m)) e ∙ ap (begins_with t) (float_entry m (is_formed_float bytes m e)) ∙ eq-eqb t t refl
  typed_by m false e = ap (λ b. not b || begins_with (slice_index (stated_at bytes m).symbols 0) (entry_for bytes sigma m)) e

  pub typed : (m : ℕ) → has_typecode (argument bytes sigma m) ≡ true
  typed m = typed_by m (is_float (stated_at bytes m).kind) refl

  pub agrees : (value : ℕ → List ℕ) → value ≡ meaning bytes sigma → (m : ℕ) → is_instance value (argument bytes sigma m) ≡ true
  agrees value e m =
      or_right (is_float (stated_at bytes m).kind) (bytes_eq (instance value (stated_at bytes m).symbols) (entry_for bytes sigma m))
      (ap (λ v. bytes_eq (instance v (stated_at bytes m).symbols) (entry_for bytes sigma m)) e ∙ bytes_eq-itself (entry_for bytes sigma m))

  -- what stands for a symbol by the arguments
  abbrev Gives : List ℕ → ℕ → Type 0
  Gives ms n = value_of (substitution_of (map (argument bytes sigma) ms)) n
      ≡ cond (list_any (λ v. n == v) (variables_of (statements_of bytes) ms)) (meaning bytes sigma n) (n ∷ [])

  pick : (b any : Bool) (n v : ℕ) → nat_eq n v ≡ b → cond b (meaning bytes sigma v) (cond any (meaning bytes sigma n) (n ∷ [])) ≡ cond (b || any) (meaning bytes sigma n) (n ∷ [])
  pick true any n v e = ap (meaning bytes sigma) (sym (eqb-true n v e))
  pick false any n v e = refl

  gives_by : (b : Bool) (m : ℕ) (ms : List ℕ) (n : ℕ) → is_float (stated_at bytes m).kind ≡ b → Gives ms n → Gives (m ∷ ms) n
  unfolding variables_of
  gives_by true m ms n e later =
      let f : IsFloat bytes m = is_formed_float bytes m e in
      let v : ℕ = slice_index (stated_at bytes m).symbols 1 in
      let vs : List ℕ = variables_of (statements_of bytes) ms in
      ap (λ bs. value_of bs n) (float_binds (argument bytes sigma m) (map (argument bytes sigma) ms) e)
      ∙ ap (λ xs. if n == v then drop 1 xs else value_of (substitution_of (map (argument bytes sigma) ms)) n) (float_entry m f)
      ∙ ap (λ xs. if n == v then meaning bytes sigma v else xs) later
      ∙ pick (n == v) (list_any (λ w. n == w) vs) n v refl
      ∙ sym (ap (λ o. cond (list_any (λ w. n == w) (cons_option o vs)) (meaning bytes sigma n) (n ∷ [])) (float_varies (stated_at bytes m) e f.pair))
  gives_by false m ms n e later =
      let vs : List ℕ = variables_of (statements_of bytes) ms in
      ap (λ bs. value_of bs n) (other_binds (argument bytes sigma m) (map (argument bytes sigma) ms) e)
      ∙ later
      ∙ sym (ap (λ o. cond (list_any (λ w. n == w) (cons_option o vs)) (meaning bytes sigma n) (n ∷ [])) (other_varies_by (stated_at bytes m).kind (stated_at bytes m).symbols e))

  pub gives : (ms : List ℕ) (n : ℕ) → Gives ms n
  unfolding variables_of
  gives [] n = refl
  gives (m ∷ ms) n = gives_by (is_float (stated_at bytes m).kind) m ms n refl (gives ms n)
