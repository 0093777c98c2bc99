-- The arguments of an assertion, and its faults.
use Rattle.std.proofs.Common.{◌≡◌, ◌≤◌, ◌<◌, ◌+◌, ◌-◌, ℕ, zero, suc, Bool, true, false, not, List, [], ◌∷◌, ◌++◌, length, take, drop, get_or, map, slice_get, nat_lt, None, Some, Result, Ok, Err, refl, ap, sym, subst, ◌∙◌, arith, length-drop}
use mathlib.Core.Path.{fun_ext}
use Rattle.std.specs.List.{list_all}
use Rattle.std.specs.Prelude.{unwrap_or}
use Rattle.std.proofs.lemmas.Option.{none-some}
use Rattle.std.proofs.lemmas.List.{drop_more, drop_all, get_or-drop}
use Rattle.std.proofs.lemmas.List.Folds.{list_all_at}
use Rattle.mm_stated.specs.Stated.{Stated}
use Rattle.mm_scope.specs.Contents.{stated_at}
use Rattle.mm_stack.specs.Substitution.{value_of, instance}
use Rattle.mm_stack.specs.Differing.{violations}
use Rattle.mm_stack.specs.Running.{substitution_of, Argument, arguments, has_typecode, is_instance, unless, applied, popped, values_at, kept, conclusion_at, most_symbols, violations_at, is_too_long}
use Rattle.mm_stack.specs.declared.outcome.StackFault.{StackFault}
use Rattle.mm_stack.specs.declared.outcome.StackFault.TheVariants.{Underflow, FloatMismatch, EssentialMismatch, TooLong}
use Rattle.mm_stack.specs.declared.outcome.Verdict.{Verdict}
use Rattle.mm_stack.specs.declared.outcome.Verdict.TheVariants.{Faulty}

length_arguments : (bytes ms : List ℕ) (es : List (List ℕ)) → length ms ≡ length es → length (arguments bytes ms es) ≡ length ms
length_arguments bytes [] es h = refl
length_arguments bytes (m ∷ ms) [] h = absurd (omega arith)
length_arguments bytes (m ∷ ms) (e ∷ es) h = ap suc (length_arguments bytes ms es (omega arith))

argument_in : (bytes ms : List ℕ) (es : List (List ℕ)) (j : ℕ) (d : Argument) → j < length ms → length ms ≡ length es
    → get_or (arguments bytes ms es) j d ≡ record { hypothesis = stated_at bytes (get_or ms j 0); entry = get_or es j [] }
argument_in bytes [] es j d h g = absurd (omega arith)
argument_in bytes (m ∷ ms) [] j d h g = absurd (omega arith)
argument_in bytes (m ∷ ms) (e ∷ es) zero d h g = refl
argument_in bytes (m ∷ ms) (e ∷ es) (suc j) d h g = argument_in bytes ms es j d (omega arith) (omega arith)

-- the newest entries, one for each hypothesis
abbrev pub newest : List ℕ → List ℕ → List (List ℕ) → List Argument
newest bytes ms stack = arguments bytes ms (drop (length stack - length ms) stack)

-- where the loop over the hypotheses from the last to the first stands
pub record IsAt (ms : List ℕ) (stack : List (List ℕ)) (left number : ℕ) : Type 0 where
  pub some : 0 < left
  pub within : left ≤ length ms
  pub room : length ms ≤ length stack
  pub place : number + length ms ≡ length stack + left

as_many : (ms : List ℕ) (stack : List (List ℕ)) → length ms ≤ length stack → length ms ≡ length (drop (length stack - length ms) stack)
as_many ms stack h = omega (arith, length-drop (length stack - length ms) stack)

length_newest : (bytes ms : List ℕ) (stack : List (List ℕ)) → length ms ≤ length stack → length (newest bytes ms stack) ≡ length ms
length_newest bytes ms stack h = length_arguments bytes ms (drop (length stack - length ms) stack) (as_many ms stack h)

newest_at : (bytes ms : List ℕ) (stack : List (List ℕ)) (left number : ℕ) (d : Argument) → IsAt ms stack left number
    → get_or (newest bytes ms stack) (left - 1) d ≡ record { hypothesis = stated_at bytes (get_or ms (left - 1) 0); entry = get_or stack (number - 1) [] }
newest_at bytes ms stack left number d at =
    let same : length stack - length ms + (left - 1) ≡ number - 1 = omega (arith, at.some, at.within, at.room, at.place) in
    let entry : get_or (drop (length stack - length ms) stack) (left - 1) [] ≡ get_or stack (number - 1) [] =
    get_or-drop (length stack - length ms) stack (left - 1) [] ∙ ap (λ n. get_or stack n []) same in
    argument_in bytes ms (drop (length stack - length ms) stack) (left - 1) d (omega (arith, at.some, at.within)) (as_many ms stack at.room)
    ∙ ap (λ e. record { hypothesis = stated_at bytes (get_or ms (left - 1) 0); entry = e }) entry

pub newest_rest : (bytes ms : List ℕ) (stack : List (List ℕ)) (left number : ℕ) → IsAt ms stack left number
    → drop (left - 1) (newest bytes ms stack) ≡ record { hypothesis = stated_at bytes (get_or ms (left - 1) 0); entry = get_or stack (number - 1) [] } ∷ drop left (newest bytes ms stack)
newest_rest bytes ms stack left number at =
    let this : Argument = record { hypothesis = stated_at bytes (get_or ms (left - 1) 0); entry = get_or stack (number - 1) [] } in
    let all = newest bytes ms stack in
    let next : left - 1 + 1 ≡ left = omega (arith, at.some) in
    drop_more all (left - 1) this (omega (arith, length_newest bytes ms stack at.room, at.some, at.within))
    ∙ ap (λ a. a ∷ drop (left - 1 + 1) all) (newest_at bytes ms stack left number this at)
    ∙ ap (λ n. this ∷ drop n all) next

pub newest_end : (bytes ms : List ℕ) (stack : List (List ℕ)) → length ms ≤ length stack → drop (length ms) (newest bytes ms stack) ≡ []
newest_end bytes ms stack h = drop_all (length ms) (newest bytes ms stack) (omega (arith, length_newest bytes ms stack h))

-- one argument that fails the test
pub newest_fails : (p : Argument → Bool) (bytes ms : List ℕ) (stack : List (List ℕ)) (left number : ℕ) → IsAt ms stack left number
    → p (record { hypothesis = stated_at bytes (get_or ms (left - 1) 0); entry = get_or stack (number - 1) [] }) ≡ false → list_all p (newest bytes ms stack) ≡ false
newest_fails p bytes ms stack left number at h =
    let this : Argument = record { hypothesis = stated_at bytes (get_or ms (left - 1) 0); entry = get_or stack (number - 1) [] } in
    list_all_at p (newest bytes ms stack) (left - 1) this (omega (arith, length_newest bytes ms stack at.room, at.some, at.within))
    (ap p (newest_at bytes ms stack left number this at) ∙ h)

is_less : (a b : ℕ) → a < b → nat_lt a b ≡ true
is_less a b h = grind arith

is_no_less : (a b : ℕ) → b ≤ a → nat_lt a b ≡ false
is_no_less a b h = grind arith

underflows : (bytes : List ℕ) (groups : List (List ℕ)) (a : Stated) (stack : List (List ℕ)) (k : ℕ) → length stack < length a.mandatory
    → applied bytes groups a stack k ≡ Err (Faulty (Underflow k))
unfolding applied
underflows bytes groups a stack k h = rw (is_less (length stack) (length a.mandatory) h) refl

mismatches : (bytes : List ℕ) (groups : List (List ℕ)) (a : Stated) (stack : List (List ℕ)) (k : ℕ) → length a.mandatory ≤ length stack
    → list_all has_typecode (popped bytes a stack) ≡ false
    → applied bytes groups a stack k ≡ Err (Faulty (FloatMismatch k))
unfolding applied
mismatches bytes groups a stack k h t = rw (is_no_less (length stack) (length a.mandatory) h, t) refl

disagrees : (bytes : List ℕ) (groups : List (List ℕ)) (a : Stated) (stack : List (List ℕ)) (k : ℕ) → length a.mandatory ≤ length stack
    → list_all has_typecode (popped bytes a stack) ≡ true
    → list_all (is_instance (values_at bytes a stack)) (popped bytes a stack) ≡ false
    → applied bytes groups a stack k ≡ Err (Faulty (EssentialMismatch k))
unfolding applied
disagrees bytes groups a stack k h t e = rw (is_no_less (length stack) (length a.mandatory) h, t, e) refl

-- the first of some faults comes before what follows them
first_of : {A : Type 0} (fs : List StackFault) (cs : List (Bool × StackFault)) (r : Result A Verdict) (f : StackFault) → slice_get fs 0 ≡ Some f
    → unless (map (λ g. (true, g)) fs ++ cs) r ≡ Err (Faulty f)
first_of [] cs r f h = absurd (none-some f h)
first_of (g ∷ gs) cs r f h = ap (λ x. Err (Faulty x)) (ap (λ o. unwrap_or o g) h)

none_of : (fs : List StackFault) → slice_get fs 0 ≡ None → fs ≡ []
none_of [] h = refl
none_of (g ∷ gs) h = absurd (none-some g (sym h))

violates : (bytes : List ℕ) (groups : List (List ℕ)) (a : Stated) (stack : List (List ℕ)) (k : ℕ) (f : StackFault) → length a.mandatory ≤ length stack
    → list_all has_typecode (popped bytes a stack) ≡ true
    → list_all (is_instance (values_at bytes a stack)) (popped bytes a stack) ≡ true
    → slice_get (violations_at bytes groups a stack k) 0 ≡ Some f
    → applied bytes groups a stack k ≡ Err (Faulty f)
unfolding applied
violates bytes groups a stack k f h t e v =
    rw (is_no_less (length stack) (length a.mandatory) h, t, e)
    (first_of (violations_at bytes groups a stack k) ((is_too_long bytes a stack, TooLong k) ∷ []) (Ok (take (kept a stack) stack ++ conclusion_at bytes a stack ∷ [])) f v)

passes : (bytes : List ℕ) (groups : List (List ℕ)) (a : Stated) (stack : List (List ℕ)) (k : ℕ) → length a.mandatory ≤ length stack
    → list_all has_typecode (popped bytes a stack) ≡ true
    → list_all (is_instance (values_at bytes a stack)) (popped bytes a stack) ≡ true
    → slice_get (violations_at bytes groups a stack k) 0 ≡ None
    → nat_lt most_symbols (length (conclusion_at bytes a stack)) ≡ true
    → applied bytes groups a stack k ≡ Err (Faulty (TooLong k))
unfolding applied
passes bytes groups a stack k h t e v l = rw (is_no_less (length stack) (length a.mandatory) h, t, e, none_of (violations_at bytes groups a stack k) v, l) refl

pushes : (bytes : List ℕ) (groups : List (List ℕ)) (a : Stated) (stack : List (List ℕ)) (k : ℕ) → length a.mandatory ≤ length stack
    → list_all has_typecode (popped bytes a stack) ≡ true
    → list_all (is_instance (values_at bytes a stack)) (popped bytes a stack) ≡ true
    → slice_get (violations_at bytes groups a stack k) 0 ≡ None
    → nat_lt most_symbols (length (conclusion_at bytes a stack)) ≡ false
    → applied bytes groups a stack k ≡ Ok (take (kept a stack) stack ++ conclusion_at bytes a stack ∷ [])
unfolding applied
pushes bytes groups a stack k h t e v l = rw (is_no_less (length stack) (length a.mandatory) h, t, e, none_of (violations_at bytes groups a stack k) v, l) refl

from_no : (b : Bool) → false ≡ not b → b ≡ true
from_no true h = refl
from_no false h = cc

from_yes : (b : Bool) → true ≡ not b → b ≡ false
from_yes false h = refl
from_yes true h = cc

-- what the values are, where they are those of the substitution
same_values : (bytes : List ℕ) (a : Stated) (stack : List (List ℕ)) (value : ℕ → List ℕ) → ((s : ℕ) → value s ≡ values_at bytes a stack s) → values_at bytes a stack ≡ value
same_values bytes a stack value h = sym (fun_ext h)

-- the outcomes of an assertion with these mandatory hypotheses and symbols, under these values
module _ (bytes : List ℕ) (groups : List (List ℕ)) (a : Stated) (stack : List (List ℕ)) (k : ℕ) (ms : List ℕ) (ids : ms ≡ a.mandatory) where
  pub underflowed : length stack < length ms → applied bytes groups a stack k ≡ Err (Faulty (Underflow k))
  underflowed h = underflows bytes groups a stack k (omega (arith, ap length ids))

  pub mismatched : length ms ≤ length stack → false ≡ list_all has_typecode (newest bytes ms stack) → applied bytes groups a stack k ≡ Err (Faulty (FloatMismatch k))
  mismatched = subst (λ m. length m ≤ length stack → false ≡ list_all has_typecode (newest bytes m stack) → applied bytes groups a stack k ≡ Err (Faulty (FloatMismatch k))) (sym ids)
      (λ room t. mismatches bytes groups a stack k room (sym t))

  -- the typecodes fit, and the values are those of the substitution
  pub record Fits (value : ℕ → List ℕ) : Type 0 where
    pub room : length ms ≤ length stack
    pub typed : true ≡ list_all has_typecode (newest bytes ms stack)
    pub means : (s : ℕ) → value s ≡ value_of (substitution_of (newest bytes ms stack)) s

  typed_all : (value : ℕ → List ℕ) → Fits value → list_all has_typecode (popped bytes a stack) ≡ true
  typed_all value f = subst (λ m. list_all has_typecode (newest bytes m stack) ≡ true) ids (sym f.typed)

  means_all : (value : ℕ → List ℕ) → Fits value → values_at bytes a stack ≡ value
  means_all value f = same_values bytes a stack value (subst (λ m. (s : ℕ) → value s ≡ value_of (substitution_of (newest bytes m stack)) s) ids f.means)

  agree_all : (value : ℕ → List ℕ) (b : Bool) → Fits value → b ≡ list_all (is_instance value) (newest bytes ms stack) → list_all (is_instance (values_at bytes a stack)) (popped bytes a stack) ≡ b
  agree_all value b f e =
      ap (λ v. list_all (is_instance v) (popped bytes a stack)) (means_all value f)
      ∙ subst (λ m. list_all (is_instance value) (newest bytes m stack) ≡ b) ids (sym e)

  room_all : (value : ℕ → List ℕ) → Fits value → length a.mandatory ≤ length stack
  room_all value f = omega (arith, f.room, ap length ids)

  pub disagreed : (value : ℕ → List ℕ) → Fits value → false ≡ list_all (is_instance value) (newest bytes ms stack) → applied bytes groups a stack k ≡ Err (Faulty (EssentialMismatch k))
  disagreed value f e = disagrees bytes groups a stack k (room_all value f) (typed_all value f) (agree_all value false f e)

  pub concluded : (value : ℕ → List ℕ) (ss : List ℕ) → Fits value → ss ≡ a.symbols → conclusion_at bytes a stack ≡ instance value ss
  concluded value ss f e = ap (λ v. instance v a.symbols) (means_all value f) ∙ ap (instance value) (sym e)

  -- the violations, under the values that are found
  violations_all : (value : ℕ → List ℕ) (ps : List (ℕ × ℕ)) → Fits value → ps ≡ a.pairs → violations_at bytes groups a stack k ≡ violations bytes groups k value ps
  violations_all value ps f e = ap (λ v. violations bytes groups k v a.pairs) (means_all value f) ∙ ap (violations bytes groups k value) (sym e)

  pub violated : (value : ℕ → List ℕ) (ps : List (ℕ × ℕ)) (fault : StackFault) → Fits value → true ≡ list_all (is_instance value) (newest bytes ms stack) → ps ≡ a.pairs
      → Some fault ≡ slice_get (violations bytes groups k value ps) 0 → applied bytes groups a stack k ≡ Err (Faulty fault)
  violated value ps fault f e g v =
      violates bytes groups a stack k fault (room_all value f) (typed_all value f) (agree_all value true f e)
      (ap (λ vs. slice_get vs 0) (violations_all value ps f g) ∙ sym v)

  none_violated : (value : ℕ → List ℕ) (ps : List (ℕ × ℕ)) → Fits value → ps ≡ a.pairs → None ≡ slice_get (violations bytes groups k value ps) 0
      → slice_get (violations_at bytes groups a stack k) 0 ≡ None
  none_violated value ps f g v = ap (λ vs. slice_get vs 0) (violations_all value ps f g) ∙ sym v

  pub passed : (value : ℕ → List ℕ) (ss : List ℕ) (ps : List (ℕ × ℕ)) → Fits value → true ≡ list_all (is_instance value) (newest bytes ms stack) → ps ≡ a.pairs
      → None ≡ slice_get (violations bytes groups k value ps) 0 → ss ≡ a.symbols
      → false ≡ not (nat_lt most_symbols (length (instance value ss))) → applied bytes groups a stack k ≡ Err (Faulty (TooLong k))
  passed value ss ps f e p v g l =
      passes bytes groups a stack k (room_all value f) (typed_all value f) (agree_all value true f e) (none_violated value ps f p v)
      (ap (λ x. nat_lt most_symbols (length x)) (concluded value ss f g) ∙ from_no (nat_lt most_symbols (length (instance value ss))) l)

  pub pushed : (value : ℕ → List ℕ) (ss : List ℕ) (ps : List (ℕ × ℕ)) → Fits value → true ≡ list_all (is_instance value) (newest bytes ms stack) → ps ≡ a.pairs
      → None ≡ slice_get (violations bytes groups k value ps) 0 → ss ≡ a.symbols
      → true ≡ not (nat_lt most_symbols (length (instance value ss))) → applied bytes groups a stack k ≡ Ok (take (length stack - length ms) stack ++ instance value ss ∷ [])
  pushed value ss ps f e p v g l =
      pushes bytes groups a stack k (room_all value f) (typed_all value f) (agree_all value true f e) (none_violated value ps f p v)
      (ap (λ x. nat_lt most_symbols (length x)) (concluded value ss f g) ∙ from_yes (nat_lt most_symbols (length (instance value ss))) l)
      ∙ ap (λ n. Ok (take (length stack - n) stack ++ conclusion_at bytes a stack ∷ [])) (ap length (sym ids))
      ∙ ap (λ x. Ok (take (length stack - length ms) stack ++ x ∷ [])) (concluded value ss f g)
