-- A statement fits with fresh work variables for its variables.
use Rattle.std.proofs.Common.{suc, ◌≡◌, ℕ, ◌+◌, ◌≤◌, ◌<◌, Bool, true, false, List, [], ◌∷◌, map, length, Option, Some, if◌then◌else◌, refl, ap, arith}
use Rattle.std.proofs.lemmas.List.Elements.{All-from_recursion, All-nil, All-cons}
use Rattle.std.specs.List.{All, AllByRecursion as ByRecursion}
use Rattle.mm_scope.specs.Contents.{stated_at}
use Rattle.mm_stated.specs.Stated.{is_hypothesis}
use Rattle.mm_subst.specs.declared.symbol.WSym.{WSym}
use Rattle.mm_subst.specs.declared.symbol.WSym.TheVariants.{Var, Work}
use Rattle.mm_subst.specs.Symbols.{is_same}
use Rattle.mm_subst.specs.Statements.{statement_of}
use Rattle.mm_subst.specs.Substitutions.{value_at, or_itself, value_of, applied}
use Rattle.mm_subst.proofs.Replaced.{applied-nil, length-applied-cons}
use Rattle.mm_plain.specs.Premises.{premises_of, variables_for, may_stand}
use Rattle.mm_plain.specs.Valid.{Setting, IsKnownSymbol, IsString, Fits}
use Rattle.mm_plain.specs.Drawing.{fresh_from, fresh_for}
use Rattle.mm_plain.proofs.Forms.{string_of_statement}
use Rattle.mm_plain.proofs.Bounds.{applied-known}

pub keys-fresh : (n : ℕ) (vs : List ℕ) → map (λ (p : WSym × List WSym). p.0) (fresh_from n vs) ≡ map Var vs
keys-fresh n [] = refl
keys-fresh n (v ∷ vs) = ap (λ xs. Var v ∷ xs) (keys-fresh (n + 1) vs)

pub length-fresh : (n : ℕ) (vs : List ℕ) → length (fresh_from n vs) ≡ length vs
length-fresh n [] = refl
length-fresh n (v ∷ vs) = ap suc (length-fresh (n + 1) vs)

one_work : (c : Setting) (n : ℕ) → 1 ≤ n → n < c.next → IsString c (Work n ∷ [])
one_work c n h g = record { symbols = All-cons (IsKnownSymbol c) (Work n) [] (h, g) (All-nil (IsKnownSymbol c)); short = omega arith }

values-fresh : (c : Setting) (n : ℕ) (vs : List ℕ) → 1 ≤ n → n + length vs ≤ c.next → ByRecursion (λ p. IsString c p.1) (fresh_from n vs)
values-fresh c n [] h g = tt
values-fresh c n (v ∷ vs) h g = (one_work c n h (omega arith), values-fresh c (n + 1) vs (omega arith) (omega arith))

one_by : (x : WSym) (b : Bool) (w : WSym) (o : Option (List WSym)) → length (or_itself x o) ≡ 1 → length (or_itself x (if b then Some (w ∷ []) else o)) ≡ 1
one_by x true w o h = refl
one_by x false w o h = h

-- one symbol stands for each
one_each : (n : ℕ) (vs : List ℕ) (x : WSym) → length (value_of (fresh_from n vs) x) ≡ 1
one_each n [] x = refl
one_each n (v ∷ vs) x = one_by x (is_same (Var v) x) (Work n) (value_at (fresh_from (n + 1) vs) x) (one_each (n + 1) vs x)

-- so a string stays as long as it is
pub length-applied-fresh : (n : ℕ) (vs : List ℕ) (s : List WSym) → length (applied (fresh_from n vs) s) ≡ length s
length-applied-fresh n vs [] = ap length (applied-nil (fresh_from n vs))
length-applied-fresh n vs (x ∷ xs) = omega (arith, length-applied-cons (fresh_from n vs) x xs, one_each n vs x, length-applied-fresh n vs xs)

statement-fresh : (c : Setting) (n : ℕ) (vs : List ℕ) (m : ℕ) → 1 ≤ n → n + length vs ≤ c.next → IsString c (applied (fresh_from n vs) (statement_of c.bytes m))
statement-fresh c n vs m h g =
    let own = string_of_statement c m in
    let values : All (λ p. IsString c p.1) (fresh_from n vs) = All-from_recursion _ _ (values-fresh c n vs h g) in
    record {
      symbols = applied-known (IsKnownSymbol c) (fresh_from n vs) (λ k d less. (values k d less).symbols) (statement_of c.bytes m) own.symbols;
      short = let short = own.short in omega (arith, length-applied-fresh n vs (statement_of c.bytes m));
    }

premises_by : (c : Setting) (n : ℕ) (vs : List ℕ) → 1 ≤ n → n + length vs ≤ c.next → (b : Bool) (ms : List ℕ)
    → ByRecursion (λ h. IsString c (applied (fresh_from n vs) h)) (if b then [] else map (statement_of c.bytes) ms)
premises_by c n vs h g true ms = tt
premises_by c n vs h g false [] = tt
premises_by c n vs h g false (m ∷ ms) = (statement-fresh c n vs m h g, premises_by c n vs h g false ms)

premises-fresh : (c : Setting) (n : ℕ) (vs : List ℕ) (id : ℕ) → 1 ≤ n → n + length vs ≤ c.next → ByRecursion (λ h. IsString c (applied (fresh_from n vs) h)) (premises_of c.bytes id)
unfolding premises_of
premises-fresh c n vs id h g = premises_by c n vs h g (is_hypothesis (stated_at c.bytes id).kind) (stated_at c.bytes id).mandatory

-- what may stand in the proof fits with fresh work variables, where they are drawn
pub fits-fresh : (c : Setting) (n id : ℕ) → may_stand c.bytes c.at id ≡ true → 1 ≤ n → n + length (variables_for c.bytes id) ≤ c.next → Fits c id (fresh_for c.bytes n id)
fits-fresh c n id stands h g =
    let vs : List ℕ = variables_for c.bytes id in
    record {
      names = record {
        stands = stands;
        keys = keys-fresh n vs;
        values = All-from_recursion _ _ (values-fresh c n vs h g);
        source = statement-fresh c n vs id h g;
      };
      premises = All-from_recursion _ _ (premises-fresh c n vs id h g);
    }
