-- The assertions that may be used for a theorem, and the matches of a goal with one of them.
use Rattle.std.specs.Prelude.{ℕ, Bool, not, ◌&&◌, ◌==◌, List, None, true, map, filter, length, nat_lt}
use Rattle.std.specs.List.{list_all, list_any, range_with_len}
use Rattle.mm_stated.specs.Stated.{is_hypothesis, is_essential}
use Rattle.mm_scope.specs.Contents.{stated_at, distinct_at}
use Rattle.mm_scope.specs.Description.{is_usage_guarded}
use Rattle.mm_subst.specs.declared.symbol.WSym.{WSym}
use Rattle.mm_subst.specs.declared.symbol.WSym.TheVariants.{Var}
use Rattle.mm_subst.specs.Substitutions.{Pairs, value_of, applied, with_values}
use Rattle.mm_subst.specs.Statements.{statement_of}
use Rattle.mm_unify.specs.declared.listing.Rule.{Rule}
use Rattle.mm_unify.specs.Forbidden.{forbidden}
use Rattle.mm_unify.specs.Listings.{answer}
use Rattle.mm_plain.specs.Premises.{premise_ids, premises_of, variables_for}
use Rattle.mm_plain.specs.Drawing.{fresh_for}
use Rattle.mm_chart.specs.Items.{are_parted}

-- where a proof is searched for: the database, the id of the theorem, whether assertions with distinct pairs are left
-- out, and the rule for unifiers
pub record Terms : Type 0 where
  pub bytes : List ℕ
  pub at : ℕ
  pub no_distinct : Bool
  pub rule : Rule

-- whether an assertion has a `$e` hypothesis
abbrev pub has_essential : List ℕ → ℕ → Bool
has_essential bytes id = list_any (λ m. is_essential (stated_at bytes m).kind) (premise_ids bytes id)

-- whether each mandatory variable of an assertion is in its conclusion
abbrev pub are_concluded : List ℕ → ℕ → Bool
are_concluded bytes id = list_all (λ v. list_any (λ n. v == n) (stated_at bytes id).symbols) (variables_for bytes id)

-- an assertion with no variable outside its conclusion, that is not guarded against new usage, and that is not left out
-- for its distinct pairs
abbrev pub may_be_used : Terms → ℕ → Bool
may_be_used c id =
    not (is_hypothesis (stated_at c.bytes id).kind) && are_concluded c.bytes id && not (is_usage_guarded c.bytes id)
    && not (c.no_distinct && nat_lt 0 (length (stated_at c.bytes id).pairs))

-- the ids of the plain assertions before the theorem, which have no `$e` hypothesis
abbrev pub plain_assertions : Terms → List ℕ
plain_assertions c = filter (λ id. may_be_used c id && not (has_essential c.bytes id)) (range_with_len 0 c.at)

-- the conclusion of an assertion, with its variables taken as work variables
abbrev pub pattern : List ℕ → ℕ → List WSym
pattern bytes id = applied (fresh_for bytes 1 id) (statement_of bytes id)

-- what a unifier puts for each variable of an assertion
abbrev pub sigma_by : List ℕ → ℕ → Pairs → Pairs
sigma_by bytes id u = with_values u (fresh_for bytes 1 id)

-- whether the distinct pairs of an assertion hold for the theorem
abbrev pub are_apart : Terms → ℕ → Pairs → Bool
are_apart c id sigma = list_all (λ p. are_parted (distinct_at c.bytes c.at) (value_of sigma (Var p.0)) (value_of sigma (Var p.1))) (stated_at c.bytes id).pairs

-- The matches of a goal with an assertion: the unifiers of the goal, on the left, and the conclusion, for which the
-- distinct pairs hold.
abbrev pub matches : Terms → List WSym → ℕ → List Pairs
matches c g id = filter (are_apart c id) (map (sigma_by c.bytes id) (answer (forbidden c.bytes c.rule) None g (pattern c.bytes id)).found)

-- the goals of the hypotheses of an assertion under a match
abbrev pub parts : List ℕ → ℕ → Pairs → List (List WSym)
parts bytes id sigma = map (applied sigma) (premises_of bytes id)
