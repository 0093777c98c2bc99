-- An assertion over the entries that its hypotheses become under a substitution.
use Rattle.std.proofs.Common.{◌≡◌, ◌≤◌, ℕ, Bool, true, false, cond, ◌==◌, List, [], ◌∷◌, ◌++◌, map, length, take, drop, nat_lt, Ok, refl, sym, ap, ◌∙◌, arith, length-append}
use mathlib.Core.Path.{fun_ext}
use Rattle.std.proofs.Math.Seq.{drop-append_seam, take-append_seam}
use Rattle.std.proofs.lemmas.List.{length-map}
use Rattle.std.specs.List.{list_any, list_all}
use Rattle.mm_scope.specs.Contents.{stated_at, statements_of, is_variable_of}
use Rattle.mm_stated.specs.Mandatory.{variables_of}
use Rattle.mm_stated.specs.Stated.{Stated}
use Rattle.mm_subst.specs.Substitutions.{Pairs}
use Rattle.mm_stack.specs.Differing.{violations}
use Rattle.mm_stack.specs.Substitution.{value_of, instance}
use Rattle.mm_stack.specs.Running.{arguments, has_typecode, substitution_of, is_instance, applied, popped, values_at, kept, conclusion_at, most_symbols, violations_at}
use Rattle.mm_sound.proofs.Strings.{meaning}
use Rattle.mm_sound.proofs.Popped.{argument, entry_for, arguments_are, all_pass, typed, agrees, gives}

is_no_less : (a b : ℕ) → b ≤ a → nat_lt a b ≡ false
is_no_less a b h = grind arith

pushes : (bytes : List ℕ) (groups : List (List ℕ)) (a : Stated) (stack : List (List ℕ)) (k : ℕ) → length a.mandatory ≤ length stack
    → list_all has_typecode (popped bytes a stack) ≡ true
    → list_all (is_instance (values_at bytes a stack)) (popped bytes a stack) ≡ true
    → violations_at bytes groups a stack k ≡ []
    → nat_lt most_symbols (length (conclusion_at bytes a stack)) ≡ false
    → applied bytes groups a stack k ≡ Ok (take (kept a stack) stack ++ conclusion_at bytes a stack ∷ [])
unfolding applied
pushes bytes groups a stack k h t e v l = rw (is_no_less (length stack) (length a.mandatory) h, t, e, v, l) refl

given : (any : Bool) (x y : List ℕ) → (any ≡ false → x ≡ y) → cond any x y ≡ x
given true x y h = refl
given false x y h = sym (h refl)

module _ (bytes : List ℕ) (sigma : Pairs) (constant : (n : ℕ) → is_variable_of bytes n ≡ false → meaning bytes sigma n ≡ n ∷ []) where
  -- what stands for each symbol, by the arguments and by the substitution
  same_values : (ms : List ℕ) → ((n : ℕ) → list_any (λ v. n == v) (variables_of (statements_of bytes) ms) ≡ false → meaning bytes sigma n ≡ n ∷ [])
      → value_of (substitution_of (map (argument bytes sigma) ms)) ≡ meaning bytes sigma
  same_values ms free = fun_ext (λ n. gives bytes sigma constant ms n
      ∙ given (list_any (λ v. n == v) (variables_of (statements_of bytes) ms)) (meaning bytes sigma n) (n ∷ []) (free n))

  -- the conclusion under the substitution
  pub concludes : (l : ℕ) (stack : List (List ℕ))
      → ((n : ℕ) → list_any (λ v. n == v) (variables_of (statements_of bytes) (stated_at bytes l).mandatory) ≡ false → meaning bytes sigma n ≡ n ∷ [])
      → conclusion_at bytes (stated_at bytes l) (stack ++ map (entry_for bytes sigma) (stated_at bytes l).mandatory) ≡ entry_for bytes sigma l
  concludes l stack free =
      let a : Stated = stated_at bytes l in
      let ms : List ℕ = a.mandatory in
      let es : List (List ℕ) = map (entry_for bytes sigma) ms in
      let left : kept a (stack ++ es) ≡ length stack = omega (arith, length-append stack es, length-map ms (entry_for bytes sigma)) in
      let newest : drop (kept a (stack ++ es)) (stack ++ es) ≡ es = ap (λ n. drop n (stack ++ es)) left ∙ drop-append_seam stack es in
      let args : popped bytes a (stack ++ es) ≡ map (argument bytes sigma) ms = ap (arguments bytes ms) newest ∙ arguments_are bytes sigma ms in
      ap (λ v. instance v a.symbols) (ap (λ xs. value_of (substitution_of xs)) args ∙ same_values ms free)

  -- the assertion pushes it
  pub applies : (groups : List (List ℕ)) (l : ℕ) (stack : List (List ℕ)) (k : ℕ)
      → ((n : ℕ) → list_any (λ v. n == v) (variables_of (statements_of bytes) (stated_at bytes l).mandatory) ≡ false → meaning bytes sigma n ≡ n ∷ [])
      → violations bytes groups k (meaning bytes sigma) (stated_at bytes l).pairs ≡ []
      → length (entry_for bytes sigma l) ≤ most_symbols
      → applied bytes groups (stated_at bytes l) (stack ++ map (entry_for bytes sigma) (stated_at bytes l).mandatory) k ≡ Ok (stack ++ entry_for bytes sigma l ∷ [])
  applies groups l stack k free none short =
      let a : Stated = stated_at bytes l in
      let ms : List ℕ = a.mandatory in
      let es : List (List ℕ) = map (entry_for bytes sigma) ms in
      let many : length es ≡ length ms = length-map ms (entry_for bytes sigma) in
      let left : kept a (stack ++ es) ≡ length stack = omega (arith, length-append stack es, many) in
      let newest : drop (kept a (stack ++ es)) (stack ++ es) ≡ es = ap (λ n. drop n (stack ++ es)) left ∙ drop-append_seam stack es in
      let args : popped bytes a (stack ++ es) ≡ map (argument bytes sigma) ms = ap (arguments bytes ms) newest ∙ arguments_are bytes sigma ms in
      let values : values_at bytes a (stack ++ es) ≡ meaning bytes sigma = ap (λ xs. value_of (substitution_of xs)) args ∙ same_values ms free in
      let pushed : conclusion_at bytes a (stack ++ es) ≡ entry_for bytes sigma l = ap (λ v. instance v a.symbols) values in
      pushes bytes groups a (stack ++ es) k (omega (arith, length-append stack es, many))
      (ap (list_all has_typecode) args ∙ all_pass has_typecode (argument bytes sigma) (typed bytes sigma constant) ms)
      (ap (list_all (is_instance (values_at bytes a (stack ++ es)))) args
      ∙ all_pass (is_instance (values_at bytes a (stack ++ es))) (argument bytes sigma) (agrees bytes sigma constant (values_at bytes a (stack ++ es)) values) ms)
      (ap (λ v. violations bytes groups k v a.pairs) values ∙ none)
      (ap (λ x. nat_lt most_symbols (length x)) pushed ∙ is_no_less most_symbols (length (entry_for bytes sigma l)) short)
      ∙ ap (λ n. Ok (take n (stack ++ es) ++ conclusion_at bytes a (stack ++ es) ∷ [])) left
      ∙ ap (λ xs. Ok (xs ++ conclusion_at bytes a (stack ++ es) ∷ [])) (take-append_seam stack es)
      ∙ ap (λ x. Ok (stack ++ x ∷ [])) pushed
