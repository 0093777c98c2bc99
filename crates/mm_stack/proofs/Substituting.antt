-- The law of substitution.
use Rattle.std.proofs.Common.{◌≡◌, ◌≤◌, ℕ, Bool, true, false, not, ◌&&◌, ◌||◌, ◌==◌, List, [], ◌∷◌, ◌++◌, length, take, drop, map, nat_lt, Ok, Err, Result, if◌then◌else◌, refl, ap, sym, subst, ◌∙◌, arith, length-drop, eq-eqb}
use Rattle.std.specs.Prelude.{slice_index}
use Rattle.std.specs.List.{list_any, list_all}
use Rattle.std.specs.Str.{bytes_eq}
use Rattle.std.proofs.lemmas.List.{append-nil, take-append-drop}
use Rattle.std.proofs.lemmas.Bool.{true≢false, false≢true, eqb-true, eqb-false, ne_eqb, and_parts, or_parts}
use Rattle.std.proofs.lemmas.Slice.Eq.{bytes_eq-Decides}
use Rattle.mm_stated.specs.Stated.{Stated}
use Rattle.mm_scope.specs.Contents.{stated_at}
use Rattle.mm_stack.specs.Substitution.{Binding, value_of, instance}
use Rattle.mm_stack.specs.Running.{Argument, arguments, is_float, begins_with, has_typecode, substitution_of, is_instance}
use Rattle.mm_stack.specs.Running.{unless, applied, popped, values_at, kept, conclusion_at, most_symbols, violations_at}
use Rattle.mm_stack.specs.declared.outcome.StackFault.{StackFault}
use Rattle.mm_stack.proofs.Kept.{pairs_kept}
use Rattle.mm_stack.specs.Laws.{variables_of, IsApart, AreApart, hypotheses_of, Substitutes}
use Rattle.mm_stack.specs.declared.outcome.Verdict.{Verdict}

abbrev pub hypotheses_in : List Argument → List Stated
hypotheses_in args = map (λ a. a.hypothesis) args

abbrev pub entries_in : List Argument → List (List ℕ)
entries_in args = map (λ a. a.entry) args

abbrev pub typecode_of : Argument → ℕ
typecode_of a = slice_index a.hypothesis.symbols 0

abbrev pub variable_of : Argument → ℕ
variable_of a = slice_index a.hypothesis.symbols 1

-- the first argument is a `$f`, or another hypothesis
float_binds : (a : Argument) (rest : List Argument) → is_float a.hypothesis.kind ≡ true → substitution_of (a ∷ rest) ≡ record { variable = variable_of a; value = drop 1 a.entry } ∷ substitution_of rest
float_binds a rest e = rw e refl

float_varies : (a : Argument) (rest : List Argument) → is_float a.hypothesis.kind ≡ true → variables_of (hypotheses_in (a ∷ rest)) ≡ variable_of a ∷ variables_of (hypotheses_in rest)
float_varies a rest e = rw e refl

other_binds : (a : Argument) (rest : List Argument) → is_float a.hypothesis.kind ≡ false → substitution_of (a ∷ rest) ≡ substitution_of rest
other_binds a rest e = rw e refl

other_varies : (a : Argument) (rest : List Argument) → is_float a.hypothesis.kind ≡ false → variables_of (hypotheses_in (a ∷ rest)) ≡ variables_of (hypotheses_in rest)
other_varies a rest e = rw e refl

-- s is none of the variables
abbrev pub IsNone : ℕ → List Argument → Type 0
IsNone s args = list_any (λ v. s == v) (variables_of (hypotheses_in args)) ≡ false

none_first : (a : Argument) (rest : List Argument) (s : ℕ) → is_float a.hypothesis.kind ≡ true → IsNone s (a ∷ rest) → (s == variable_of a) ≡ false
none_first a rest s e h =
    (or_parts (s == variable_of a) (list_any (λ v. s == v) (variables_of (hypotheses_in rest))) (ap (list_any (λ v. s == v)) (sym (float_varies a rest e)) ∙ h)).0

none_rest_by : (f : Bool) (a : Argument) (rest : List Argument) (s : ℕ) → is_float a.hypothesis.kind ≡ f → IsNone s (a ∷ rest) → IsNone s rest
none_rest_by true a rest s e h =
    (or_parts (s == variable_of a) (list_any (λ v. s == v) (variables_of (hypotheses_in rest))) (ap (list_any (λ v. s == v)) (sym (float_varies a rest e)) ∙ h)).1
none_rest_by false a rest s e h = ap (list_any (λ v. s == v)) (sym (other_varies a rest e)) ∙ h

none_rest : (a : Argument) (rest : List Argument) (s : ℕ) → IsNone s (a ∷ rest) → IsNone s rest
none_rest a rest s h = none_rest_by (is_float a.hypothesis.kind) a rest s refl h

-- what is no variable of the arguments stands for itself
unbound_by : (f : Bool) (a : Argument) (rest : List Argument) (s : ℕ) → is_float a.hypothesis.kind ≡ f → value_of (substitution_of rest) s ≡ s ∷ []
    → IsNone s (a ∷ rest) → value_of (substitution_of (a ∷ rest)) s ≡ s ∷ []
unbound_by true a rest s e later h =
    ap (λ sigma. value_of sigma s) (float_binds a rest e)
    ∙ ap (λ b. if b then drop 1 a.entry else value_of (substitution_of rest) s) (none_first a rest s e h)
    ∙ later
unbound_by false a rest s e later h = ap (λ sigma. value_of sigma s) (other_binds a rest e) ∙ later

unbound : (args : List Argument) (s : ℕ) → IsNone s args → value_of (substitution_of args) s ≡ s ∷ []
unbound [] s h = refl
unbound (a ∷ rest) s h = unbound_by (is_float a.hypothesis.kind) a rest s refl (unbound rest s (none_rest a rest s h)) h

-- the values give a `$f` its typecode and what follows the entry's
record GivesFloat (value : ℕ → List ℕ) (a : Argument) : Type 0 where
  typecode : value (typecode_of a) ≡ typecode_of a ∷ []
  variable : value (variable_of a) ≡ drop 1 a.entry

abbrev GivesFloats : (ℕ → List ℕ) → List Argument → Type 0
GivesFloats value [] = Unit {0}
GivesFloats value (a ∷ rest) = (is_float a.hypothesis.kind ≡ true → GivesFloat value a) × GivesFloats value rest

turned : (a b : ℕ) → (a == b) ≡ false → (b == a) ≡ false
turned a b h = ne_eqb b a (λ e. absurd (eqb-false a b h (sym e)))

-- another variable's value changes nothing here
kept_under : (vs : List ℕ) (v : ℕ) (w : List ℕ) (value : ℕ → List ℕ) (args : List Argument) → AreApart vs (hypotheses_in args)
    → ((t : ℕ) → list_any (λ x. t == x) vs ≡ false → (t == v) ≡ false) → IsNone v args → GivesFloats value args → GivesFloats (λ s. if s == v then w else value s) args
kept_under vs v w value [] apart inside fresh g = tt
kept_under vs v w value (b ∷ rest) apart inside fresh g = (
  λ e. record {
    typecode = ap (λ c. if c then w else value (typecode_of b)) (inside (typecode_of b) (apart.0 e).typecode) ∙ (g.0 e).typecode;
    variable = ap (λ c. if c then w else value (variable_of b)) (turned v (variable_of b) (none_first b rest v e fresh)) ∙ (g.0 e).variable;
  },
  kept_under vs v w value rest apart.1 inside (none_rest b rest v fresh) g.1,
)

gives_by : (f : Bool) (vs : List ℕ) (a : Argument) (rest : List Argument) → is_float a.hypothesis.kind ≡ f → AreApart vs (hypotheses_in (a ∷ rest))
    → ((t : ℕ) → list_any (λ x. t == x) vs ≡ false → IsNone t (a ∷ rest)) → GivesFloats (value_of (substitution_of rest)) rest → GivesFloats (value_of (substitution_of (a ∷ rest))) (a ∷ rest)
gives_by true vs a rest e apart all later =
    let sigma : List Binding = record { variable = variable_of a; value = drop 1 a.entry } ∷ substitution_of rest in (
      λ _. record {
        typecode = unbound (a ∷ rest) (typecode_of a) (all (typecode_of a) (apart.0 e).typecode);
        variable = ap (λ s. value_of s (variable_of a)) (float_binds a rest e)
            ∙ ap (λ c. if c then drop 1 a.entry else value_of (substitution_of rest) (variable_of a)) (eq-eqb (variable_of a) (variable_of a) refl);
      },
      subst (λ s. GivesFloats (value_of s) rest) (sym (float_binds a rest e))
          (kept_under vs (variable_of a) (drop 1 a.entry) (value_of (substitution_of rest)) rest apart.1 (λ t h. none_first a rest t e (all t h)) (apart.0 e).variable later),
    )
gives_by false vs a rest e apart all later =
    (λ h. absurd (true≢false (sym h ∙ e)), subst (λ s. GivesFloats (value_of s) rest) (sym (other_binds a rest e)) later)

gives : (vs : List ℕ) (args : List Argument) → AreApart vs (hypotheses_in args) → ((t : ℕ) → list_any (λ x. t == x) vs ≡ false → IsNone t args)
    → GivesFloats (value_of (substitution_of args)) args
gives vs [] apart all = tt
gives vs (a ∷ rest) apart all =
    gives_by (is_float a.hypothesis.kind) vs a rest refl apart all (gives vs rest apart.1 (λ t h. none_rest a rest t (all t h)))

two : (ss : List ℕ) → length ss ≡ 2 → ss ≡ slice_index ss 0 ∷ slice_index ss 1 ∷ []
two [] h = absurd (omega arith)
two (x ∷ []) h = absurd (omega arith)
two (x ∷ y ∷ []) h = refl
two (x ∷ y ∷ z ∷ zs) h = absurd (omega arith)

begun : (t : ℕ) (entry : List ℕ) → begins_with t entry ≡ true → t ∷ drop 1 entry ≡ entry
begun t [] h = absurd (false≢true h)
begun t (x ∷ xs) h = ap (λ y. y ∷ xs) (sym (eqb-true x t h))

-- an argument's entry is the instance of its hypothesis
is_entry_by : (f : Bool) (vs : List ℕ) (hs : List Stated) (value : ℕ → List ℕ) (a : Argument) → is_float a.hypothesis.kind ≡ f
    → (is_float a.hypothesis.kind ≡ true → IsApart vs a.hypothesis hs) → (is_float a.hypothesis.kind ≡ true → GivesFloat value a)
    → has_typecode a ≡ true → is_instance value a ≡ true → instance value a.hypothesis.symbols ≡ a.entry
is_entry_by true vs hs value a e apart g typed agrees =
    ap (instance value) (two a.hypothesis.symbols (apart e).pair)
    ∙ ap (λ x. x ++ (value (variable_of a) ++ [])) (g e).typecode
    ∙ ap (λ x. typecode_of a ∷ x) (append-nil (value (variable_of a)) ∙ (g e).variable)
    ∙ begun (typecode_of a) a.entry (ap (λ b. not b || begins_with (typecode_of a) a.entry) (sym e) ∙ typed)
is_entry_by false vs hs value a e apart g typed agrees =
    (bytes_eq-Decides (instance value a.hypothesis.symbols) a.entry).0 (ap (λ b. b || bytes_eq (instance value a.hypothesis.symbols) a.entry) (sym e) ∙ agrees)

are_entries : (vs : List ℕ) (value : ℕ → List ℕ) (args : List Argument) → AreApart vs (hypotheses_in args) → GivesFloats value args
    → list_all has_typecode args ≡ true → list_all (is_instance value) args ≡ true → map (λ h. instance value h.symbols) (hypotheses_in args) ≡ entries_in args
are_entries vs value [] apart g typed agree = refl
are_entries vs value (a ∷ rest) apart g typed agree =
    let t = and_parts (has_typecode a) (list_all has_typecode rest) typed in
    let i = and_parts (is_instance value a) (list_all (is_instance value) rest) agree in
    ap (λ x. x ∷ map (λ h. instance value h.symbols) (hypotheses_in rest)) (is_entry_by (is_float a.hypothesis.kind) vs (hypotheses_in rest) value a refl apart.0 g.0 t.0 i.0)
    ∙ ap (λ xs. a.entry ∷ xs) (are_entries vs value rest apart.1 g.1 t.1 i.1)

hypotheses_are : (bytes ms : List ℕ) (es : List (List ℕ)) → length ms ≡ length es → hypotheses_in (arguments bytes ms es) ≡ map (stated_at bytes) ms
hypotheses_are bytes [] es h = refl
hypotheses_are bytes (m ∷ ms) [] h = absurd (omega arith)
hypotheses_are bytes (m ∷ ms) (e ∷ es) h = ap (λ hs. stated_at bytes m ∷ hs) (hypotheses_are bytes ms es (omega arith))

entries_are : (bytes ms : List ℕ) (es : List (List ℕ)) → length ms ≡ length es → entries_in (arguments bytes ms es) ≡ es
entries_are bytes [] [] h = refl
entries_are bytes [] (e ∷ es) h = absurd (omega arith)
entries_are bytes (m ∷ ms) [] h = absurd (omega arith)
entries_are bytes (m ∷ ms) (e ∷ es) h = ap (λ xs. e ∷ xs) (entries_are bytes ms es (omega arith))

-- a check that did not hold
unless_ok : {A : Type 0} (b : Bool) (o : Verdict) (r : Result A Verdict) (x : A) → (if b then Err o else r) ≡ Ok x → (b ≡ false) × (r ≡ Ok x)
unless_ok true o r x h = absurd (cc)
unless_ok false o r x h = (refl, h)

no_violation : {A : Type 0} (fs : List StackFault) (cs : List (Bool × StackFault)) (r : Result A Verdict) (x : A)
    → unless (map (λ g. (true, g)) fs ++ cs) r ≡ Ok x → (fs ≡ []) × (unless cs r ≡ Ok x)
no_violation [] cs r x h = (refl, h)
no_violation (g ∷ gs) cs r x h = absurd (cc)

-- the keys are the variables of the `$f`, in order
keys_by : (f : Bool) (a : Argument) (rest : List Argument) → is_float a.hypothesis.kind ≡ f → map (λ b. b.variable) (substitution_of rest) ≡ variables_of (hypotheses_in rest)
    → map (λ b. b.variable) (substitution_of (a ∷ rest)) ≡ variables_of (hypotheses_in (a ∷ rest))
keys_by true a rest e later =
    ap (map (λ b. b.variable)) (float_binds a rest e) ∙ ap (λ vs. variable_of a ∷ vs) later ∙ sym (float_varies a rest e)
keys_by false a rest e later = ap (map (λ b. b.variable)) (other_binds a rest e) ∙ later ∙ sym (other_varies a rest e)

keys_are : (args : List Argument) → map (λ b. b.variable) (substitution_of args) ≡ variables_of (hypotheses_in args)
keys_are [] = refl
keys_are (a ∷ rest) = keys_by (is_float a.hypothesis.kind) a rest refl (keys_are rest)

not_false : (b : Bool) → not b ≡ false → b ≡ true
not_false true h = refl
not_false false h = absurd (cc)

room_for : (n m : ℕ) → nat_lt n m ≡ false → m ≤ n
room_for n m h = grind arith

-- where an assertion pushes an entry, one substitution does all
pub applied_substitutes : (bytes : List ℕ) (groups : List (List ℕ)) (a : Stated) (stack next : List (List ℕ)) (k : ℕ) → AreApart (variables_of (hypotheses_of bytes a)) (hypotheses_of bytes a)
    → applied bytes groups a stack k ≡ Ok next → Substitutes bytes groups a stack next
unfolding applied
applied_substitutes bytes groups a stack next k apart h =
    let args = popped bytes a stack in
    let value = values_at bytes a stack in
    let first = unless_ok (nat_lt (length stack) (length a.mandatory)) _ _ next h in
    let second = unless_ok (not (list_all has_typecode args)) _ _ next first.1 in
    let third = unless_ok (not (list_all (is_instance value) args)) _ _ next second.1 in
    let apart_there = no_violation (violations_at bytes groups a stack k) _ _ next third.1 in
    let fourth = unless_ok (nat_lt most_symbols (length (conclusion_at bytes a stack))) _ _ next apart_there.1 in
    let room = room_for (length stack) (length a.mandatory) first.0 in
    let many : length a.mandatory ≡ length (drop (kept a stack) stack) = omega (arith, length-drop (kept a stack) stack) in
    let hypotheses = hypotheses_are bytes a.mandatory (drop (kept a stack) stack) many in
    let apart_in : AreApart (variables_of (hypotheses_of bytes a)) (hypotheses_in args) = subst (AreApart (variables_of (hypotheses_of bytes a))) (sym hypotheses) apart in
    let all : (t : ℕ) → list_any (λ x. t == x) (variables_of (hypotheses_of bytes a)) ≡ false → IsNone t args =
    λ t. subst (λ hs. list_any (λ x. t == x) (variables_of hs) ≡ false → IsNone t args) hypotheses (λ n. n) in
    let floats = gives (variables_of (hypotheses_of bytes a)) args apart_in all in
    let entries = are_entries (variables_of (hypotheses_of bytes a)) value args apart_in floats (not_false (list_all has_typecode args) second.0) (not_false (list_all (is_instance value) args) third.0) in
    record {
      sigma = substitution_of args;
      keys = keys_are args ∙ ap variables_of hypotheses;
      own = refl;
      left = take (kept a stack) stack;
      before = sym (take-append-drop (kept a stack) stack) ∙ ap (λ es. take (kept a stack) stack ++ es)
          (sym (entries_are bytes a.mandatory (drop (kept a stack) stack) many) ∙ sym entries ∙ ap (map (λ h. instance value h.symbols)) hypotheses);
      after = cc;
      distinct = pairs_kept bytes groups k value a.pairs apart_there.0;
    }
