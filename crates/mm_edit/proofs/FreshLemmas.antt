-- A statement has no more mandatory variables than mandatory hypotheses.
use Rattle.std.proofs.Common.{ℕ, ◌≡◌, ◌≤◌, Bool, true, false, List, [], ◌∷◌, map, length, Option, None, Some, refl, ap, suc, arith, if◌then◌else◌}
use Rattle.std.specs.List.{filter_map, cons_option}
use Rattle.mm_scope.specs.Contents.{statements_of, stated_at}
use Rattle.mm_stated.specs.Mandatory.{statement_at, variables_of}
use Rattle.mm_stated.specs.Stated.{is_hypothesis, variable_of}
use Rattle.mm_subst.specs.Statements.{statement_of}
use Rattle.mm_subst.specs.declared.symbol.WSym.{WSym}
use Rattle.mm_plain.specs.Premises.{premises_of, variables_for}

fewer : (f : ℕ → Option ℕ) (ids : List ℕ) → length (filter_map f ids) ≤ length ids
fewer f [] = omega arith
fewer f (id ∷ ids) = go (f id) (fewer f ids)
  where
    go : (o : Option ℕ) → length (filter_map f ids) ≤ length ids → length (cons_option o (filter_map f ids)) ≤ length (id ∷ ids)
    go None h = omega arith
    go (Some v) h = omega arith

length-map : (f : ℕ → List WSym) (ids : List ℕ) → length (map f ids) ≡ length ids
length-map f [] = refl
length-map f (id ∷ ids) = ap suc (length-map f ids)

pub fewer-variables : (bytes : List ℕ) (id : ℕ) → length (variables_for bytes id) ≤ length (premises_of bytes id)
unfolding variables_for premises_of variables_of
fewer-variables bytes id = go (is_hypothesis (stated_at bytes id).kind)
  where
    ids : List ℕ
    ids = (stated_at bytes id).mandatory

    go : (b : Bool) → length (if b then [] else variables_of (statements_of bytes) ids) ≤ length (if b then [] else map (statement_of bytes) ids)
    go true = omega arith
    go false = omega (arith, fewer (λ (i : ℕ). variable_of (statement_at (statements_of bytes) i)) ids, length-map (statement_of bytes) ids)
