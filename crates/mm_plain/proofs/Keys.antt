-- Substitutions whose keys are variables.
use Rattle.std.proofs.Common.{◌≡◌, ℕ, Bool, true, false, ◌||◌, ◌==◌, List, [], ◌∷◌, map, refl, ◌∙◌, ap, arith}
use Rattle.std.specs.Prelude.{is_some}
use Rattle.std.specs.List.{list_any}
use Rattle.mm_subst.specs.declared.symbol.WSym.{WSym}
use Rattle.mm_subst.specs.declared.symbol.WSym.TheVariants.{Const, Var, Work}
use Rattle.mm_subst.specs.Substitutions.{Pairs, value_at}

-- whether a symbol is a variable among these
abbrev pub is_among : List ℕ → WSym → Bool
is_among ns (Const m) = false
is_among ns (Var m) = list_any (λ n. m == n) ns
is_among ns (Work m) = false

eqb-comm : (m n : ℕ) → m == n ≡ n == m
eqb-comm m n = grind arith

key_or : (n : ℕ) (ns : List ℕ) (v : List WSym) (ps : Pairs) (x : WSym) → is_some (value_at ps x) ≡ is_among ns x → is_some (value_at ((Var n, v) ∷ ps) x) ≡ is_among (n ∷ ns) x
key_or n ns v ps (Const m) h = h
key_or n ns v ps (Work m) h = h
key_or n ns v ps (Var m) h = at (m == n) refl where
  at : (b : Bool) → m == n ≡ b → is_some (value_at ((Var n, v) ∷ ps) (Var m)) ≡ (m == n || list_any (λ k. m == k) ns)
  at true e = let f : n == m ≡ true = eqb-comm n m ∙ e in rw (e, f) refl
  at false e = let f : n == m ≡ false = eqb-comm n m ∙ e in rw (e, f) h

none_among : (x : WSym) → false ≡ is_among [] x
none_among (Const n) = refl
none_among (Var n) = refl
none_among (Work n) = refl

-- the symbols that have a value are these variables
pub keys_among : (sigma : Pairs) (ns : List ℕ) → map (λ p. p.0) sigma ≡ map Var ns → (x : WSym) → is_some (value_at sigma x) ≡ is_among ns x
keys_among [] [] h x = none_among x
keys_among [] (n ∷ ns) h x = cc
keys_among (p ∷ ps) [] h x = cc
keys_among (p ∷ ps) (n ∷ ns) h x =
    let first : p.0 ≡ Var n = cc in
    let rest : map (λ (q : WSym × List WSym). q.0) ps ≡ map Var ns = cc in
    ap (λ (y : WSym). is_some (value_at ((y, p.1) ∷ ps) x)) first ∙ key_or n ns p.1 ps x (keys_among ps ns rest x)
