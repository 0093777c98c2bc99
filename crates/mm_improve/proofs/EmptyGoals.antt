-- An empty goal has no chosen proof.
use Rattle.std.proofs.Common.{◌≡◌, ◌<◌, ℕ, zero, suc, Bool, true, false, cond, List, [], ◌∷◌, ◌++◌, Option, None, Some, length, map, filter, refl, sym, ◌∙◌, ap, arith, inl, inr, if◌then◌else◌}
use Rattle.std.specs.List.{flat_map}
use Rattle.std.specs.Cmp.Lexicographic.{pointwise}
use Rattle.mm_scope.specs.Contents.{labels_of, active_at}
use Rattle.mm_subst.specs.declared.symbol.WSym.{WSym}
use Rattle.mm_subst.specs.declared.symbol.WSym.TheVariants.{Const}
use Rattle.mm_subst.specs.Statements.{statement_of}
use Rattle.mm_subst.specs.Substitutions.{Pairs}
use Rattle.mm_subst.specs.Symbols.{is_same}
use Rattle.mm_unify.specs.Forbidden.{forbidden, heeded}
use Rattle.mm_unify.specs.Listings.{answer}
use Rattle.mm_unify.proofs.Listed.{lists_matches}
use Rattle.mm_unify.proofs.Sorted.{Among}
use Rattle.mm_plain.specs.Lengths.{is_long}
use Rattle.mm_chart.specs.Options.{or_else, on, first}
use Rattle.mm_improve.specs.Assertions.{Terms, are_apart, matches, plain_assertions, sigma_by}
use Rattle.mm_improve.specs.Ranks.{Use, Chosen, at_rank, hypothesis, uses, serves, unless_long, chosen, tree}
use Rattle.mm_improve.specs.Proving.{chosen_tree, rank_limit}
use Rattle.mm_improve.proofs.Agreeing.{VariablesDiffer, are_plain, are_stated}
use Rattle.mm_improve.proofs.Linking.{pattern_is, rest}
use Rattle.mm_improve.proofs.Unfolding.{at-zero, at-suc}

first_none : {X : Type 0} (p : X → Bool) (xs : List X) → ((x : X) → Among x xs → p x ≡ false) → first p xs ≡ None
first_none p [] h = refl
first_none p (x ∷ xs) h = ap (λ (b : Bool). cond b (Some x) (first p xs)) (h x (inl refl)) ∙ first_none p xs (λ y a. h y (inr a))

flat_none : {X Y : Type 0} (f : X → List Y) (xs : List X) → ((x : X) → Among x xs → f x ≡ []) → flat_map f xs ≡ []
flat_none f [] h = refl
flat_none f (x ∷ xs) h = ap (λ ys. ys ++ flat_map f xs) (h x (inl refl)) ∙ flat_none f xs (λ y a. h y (inr a))

module _ (c : Terms) (differ : VariablesDiffer c.bytes) (low : c.at < length (labels_of c.bytes)) where
  -- each assertion has a typecode
  no_match : (id : ℕ) → Among id (plain_assertions c) → matches c [] id ≡ []
  no_match id h =
      let a = are_plain c differ low id h in
      ap (λ (p : List WSym). filter (are_apart c id) (map (sigma_by c.bytes id) (answer (forbidden c.bytes c.rule) None [] p).found)) (pattern_is c id a (Const 0) [] refl (omega arith))
      ∙ ap (λ (us : List Pairs). filter (are_apart c id) (map (sigma_by c.bytes id) us)) (lists_matches (heeded c.bytes c.rule) [] (Const a.code) (rest c id a (Const 0) [] refl (omega arith)) refl (omega arith) refl).1

  no_use : uses c [] ≡ []
  no_use = flat_none (λ id. map (λ sigma. record { id = id; sigma = sigma }) (matches c [] id)) (plain_assertions c) (λ id h. ap (λ (us : List Pairs). map (λ sigma. record { id = id; sigma = sigma }) us) (no_match id h))

  -- and so has each hypothesis
  no_hypothesis : hypothesis c [] ≡ None
  no_hypothesis = ap (λ (o : Option ℕ). on (λ id. record { id = id; sigma = [] }) o) (first_none (λ id. pointwise is_same [] (statement_of c.bytes id)) (active_at c.bytes c.at) (λ id h. ap (pointwise is_same []) (are_stated c low id h).2))

  cut : (b : Bool) (o : Option Chosen) → o ≡ None → (if b then None else o) ≡ None
  cut true o h = refl
  cut false o h = h

  none : (r : ℕ) → chosen c r [] ≡ None
  none zero = at-zero c [] ∙ ap (λ (o : Option Use). unless_long [] (on (at_rank 0) o)) no_hypothesis ∙ cut (is_long []) None refl
  none (suc r) =
      at-suc c r []
      ∙ ap (λ (o : Option Chosen). unless_long [] (or_else o (on (at_rank (suc r)) (first (serves c (chosen c r)) (uses c []))))) (none r)
      ∙ ap (λ (us : List Use). unless_long [] (on (at_rank (suc r)) (first (serves c (chosen c r)) us))) no_use
      ∙ cut (is_long []) None refl

  pub empty_none : chosen_tree c [] ≡ None
  empty_none = ap (on (λ _. tree c (rank_limit c.bytes []) [])) (none (rank_limit c.bytes []))
