-- The theorems that a word means, and the checks of their proofs.
use Rattle.std.proofs.Common.{◌≡◌, ◌<◌, ◌≤◌, ◌+◌, ◌&&◌, ◌||◌, ℕ, Bool, true, false, cond, List, [], ◌∷◌, ◌++◌, length, map, filter, take, get_or, All, Result, Ok, Err, refl, sym, ◌∙◌, ap, subst, arith, true≢false, if◌then◌else◌}
use Rattle.std.specs.List.{AllByRecursion, list_any, range_with_len}
use Rattle.std.proofs.lemmas.List.Elements.{All-from_get_or, All-from_recursion, All-map, recursion_from_All}
use Rattle.std.proofs.lemmas.List.FromFn.{filter_of_map_range_with_len_more, get_or-range_with_len, length-range_with_len}
use Rattle.mm_scope.specs.Contents.{labels_of, stated_at}
use Rattle.mm_stated.specs.declared.statement.Kind.{Kind}
use Rattle.mm_stated.specs.declared.statement.Kind.TheVariants.{Theorem}
use Rattle.mm_plain.specs.Labels.{label_at}
use Rattle.mm_trace.specs.Patterns.{matches}
use Rattle.mm_shell.specs.Answers.{given}
use Rattle.mm_shell.specs.Finding.{is_theorem, theorem_named}
use Rattle.mm_shell.specs.Fitting.{IsChecked}
use Rattle.mm_shell.specs.declared.refusal.Refusal.{Refusal}
use Rattle.mm_shell.proofs.FindLemmas.{IsNamed, theorem_found}
use Rattle.mm_database_commands.specs.Commands.{IsTheorem, check_of, checked, is_meant, is_pattern, theorems_matched, theorems_meant}

-- ## The theorems that a pattern matches

map_self : (xs : List ℕ) → map (λ k. k) xs ≡ xs
map_self [] = refl
map_self (x ∷ xs) = ap (λ (ys : List ℕ). x ∷ ys) (map_self xs)

pub one_more : (p : ℕ → Bool) (n : ℕ) → filter p (range_with_len 0 (n + 1)) ≡ filter p (range_with_len 0 n) ++ cond (p n) (n ∷ []) []
one_more p n =
    ap (λ (xs : List ℕ). filter p xs) (sym (map_self (range_with_len 0 (n + 1))))
    ∙ (filter_of_map_range_with_len_more p (λ k. k) 0 n n (omega arith)
    ∙ ap (λ (xs : List ℕ). filter p xs ++ cond (p n) (n ∷ []) []) (map_self (range_with_len 0 n)))

kind_of : (k : Kind) (b : Bool) → (is_theorem k && b) ≡ true → k ≡ Theorem
kind_of Theorem b e = refl
kind_of _ b e = absurd (true≢false (sym e))

module _ (bytes pattern : List ℕ) where
  kept : (xs : List ℕ) → AllByRecursion (λ k. k < length (labels_of bytes)) xs → AllByRecursion (IsTheorem bytes) (filter (is_meant bytes pattern) xs)
  kept [] h = tt
  kept (x ∷ xs) h = at (is_meant bytes pattern x) refl (kept xs h.1) where
    at : (b : Bool) → is_meant bytes pattern x ≡ b → AllByRecursion (IsTheorem bytes) (filter (is_meant bytes pattern) xs)
        → AllByRecursion (IsTheorem bytes) (cond b (x ∷ filter (is_meant bytes pattern) xs) (filter (is_meant bytes pattern) xs))
    at true is more = (record { own = h.0; kind = kind_of (stated_at bytes x).kind (matches pattern (label_at bytes x)) is }, more)
    at false is more = more

  small : All (λ k. k < length (labels_of bytes)) (range_with_len 0 (length (labels_of bytes)))
  small =
      let n : ℕ = length (labels_of bytes) in
      All-from_get_or (λ k. k < n) (range_with_len 0 n) 0 (λ i lt.
      let within : i < n = subst (λ (m : ℕ). i < m) (length-range_with_len 0 n) lt in
      let is : get_or (range_with_len 0 n) i 0 ≡ 0 + i = get_or-range_with_len 0 n i 0 within in
      omega (arith, within, is))

  pub all_theorems : All (IsTheorem bytes) (theorems_matched bytes pattern)
  all_theorems = All-from_recursion (IsTheorem bytes) _ (kept _ (recursion_from_All (λ k. k < length (labels_of bytes)) _ small))

-- ## The theorems that a word means

ok_same : (a b : List ℕ) → (let r : Result (List ℕ) Refusal = Ok a in r) ≡ Ok b → a ≡ b
ok_same a b e = cc

alone : (bytes : List ℕ) (id : ℕ) → IsTheorem bytes id → All (IsTheorem bytes) (id ∷ [])
alone bytes id h = All-from_recursion (IsTheorem bytes) (id ∷ []) (h, tt)

one_meant : (bytes word : List ℕ) (ids : List ℕ) → (r : Result ℕ Refusal) → theorem_named bytes word ≡ r → given r (λ id. Ok (id ∷ [])) ≡ Ok ids → All (IsTheorem bytes) ids
unfolding given
one_meant bytes word ids (Ok id) is e =
    let named : IsNamed bytes word id = theorem_found bytes word id is in
    subst (λ (xs : List ℕ). All (IsTheorem bytes) xs) (ok_same (id ∷ []) ids e) (alone bytes id (record { own = named.own; kind = named.theorem }))
one_meant bytes word ids (Err r) is e = cc

pub meant_theorems : (bytes word : List ℕ) (ids : List ℕ) → Ok ids ≡ theorems_meant bytes word → All (IsTheorem bytes) ids
meant_theorems bytes word ids is = let e : theorems_meant bytes word ≡ Ok ids = sym is in at (is_pattern word) e where
  at : (b : Bool) → (if b then Ok (theorems_matched bytes word) else given (theorem_named bytes word) (λ id. Ok (id ∷ []))) ≡ Ok ids → All (IsTheorem bytes) ids
  at true e = subst (λ (xs : List ℕ). All (IsTheorem bytes) xs) (ok_same (theorems_matched bytes word) ids e) (all_theorems bytes word)
  at false e = one_meant bytes word ids (theorem_named bytes word) refl e

-- ## The checks

pub all_checked : (bytes : List ℕ) (ids : List ℕ) → All (IsTheorem bytes) ids → All (IsChecked bytes) (checked bytes ids)
all_checked bytes ids all = All-map (IsChecked bytes) (check_of bytes) ids (λ k d small. record {
  own = (all k d small).own;
  theorem = (all k d small).kind;
  is = refl;
})
