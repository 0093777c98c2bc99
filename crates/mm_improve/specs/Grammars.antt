-- The grammar of a theorem: its active hypotheses and the plain assertions before it, as what is searched for.
use Rattle.std.specs.Prelude.{ℕ, ◌==◌, List, [], ◌∷◌, ◌++◌, Option, None, Some, map, slice_index_or, suc, cond, if◌then◌else◌, ◌≡◌, ◌≤◌, ◌<◌, false, length}
use Rattle.mm_scope.specs.Contents.{labels_of, stated_at, active_at, distinct_at}
use Rattle.mm_subst.specs.declared.symbol.WSym.{WSym}
use Rattle.mm_subst.specs.declared.symbol.WSym.TheVariants.{Const, Var, Work}
use Rattle.mm_subst.specs.Statements.{statement_of}
use Rattle.mm_subst.specs.Applied.{most_symbols}
use Rattle.mm_subst.specs.Symbols.{has_work}
use Rattle.mm_subst.specs.Substitutions.{Pairs}
use Rattle.mm_unify.specs.Forbidden.{heeded}
use Rattle.mm_plain.specs.Premises.{premises_of, variables_for}
use Rattle.mm_chart.specs.declared.grammar.Item.{Item}
use Rattle.mm_chart.specs.declared.grammar.Item.TheVariants.{Fixed, Again, New}
use Rattle.mm_chart.specs.Options.{on}
use Rattle.mm_improve.specs.Assertions.{Terms, plain_assertions}
use Rattle.mm_improve.specs.Ranks as ranks
use Rattle.mm_chart.specs.Items.{Goal, Assertion, Hypothesis, Grammar, Use, Chosen, IsAnswer, no_goal, value}

-- a string as a typecode and what follows
abbrev pub split : List WSym → Goal
split [] = no_goal
split (c ∷ s) = (c, s)

abbrev pub joined : Goal → List WSym
joined g = g.0 ∷ g.1

-- the place of a variable among some
abbrev pub place : List ℕ → ℕ → Option ℕ
place [] n = None
place (v ∷ vs) n = cond (v == n) (Some 0) (on suc (place vs n))

abbrev pub place_or_none : Option ℕ → ℕ
place_or_none None = 0
place_or_none (Some k) = k

-- a variable that is no key stands for itself
abbrev pub variable_item : List WSym → ℕ → Option ℕ → Option ℕ → Item
variable_item codes n None j = Fixed (Var n)
variable_item codes n (Some k) None = New (slice_index_or codes k (Const 0))
variable_item codes n (Some k) (Some j) = Again j

abbrev pub item_of : List ℕ → List WSym → List ℕ → WSym → Item
item_of keys codes seen (Const n) = Fixed (Const n)
item_of keys codes seen (Var n) = variable_item codes n (place keys n) (place seen n)
item_of keys codes seen (Work n) = Fixed (Work n)

abbrev pub with_variable : List ℕ → ℕ → Option ℕ → Option ℕ → List ℕ
with_variable seen n None j = seen
with_variable seen n (Some k) None = seen ++ n ∷ []
with_variable seen n (Some k) (Some j) = seen

-- the keys that have occurred, in order, after one more symbol
abbrev pub seen_with : List ℕ → List ℕ → WSym → List ℕ
seen_with keys seen (Const n) = seen
seen_with keys seen (Var n) = with_variable seen n (place keys n) (place seen n)
seen_with keys seen (Work n) = seen

-- what stands at each place of a string, where some keys have occurred before it
abbrev pub items_of : List ℕ → List WSym → List ℕ → List WSym → List Item
items_of keys codes seen [] = []
items_of keys codes seen (x ∷ s) = item_of keys codes seen x ∷ items_of keys codes (seen_with keys seen x) s

-- the keys that occur in a string, in order of first occurrence, behind those before it
abbrev pub seen_in : List ℕ → List ℕ → List WSym → List ℕ
seen_in keys seen [] = seen
seen_in keys seen (x ∷ s) = seen_in keys (seen_with keys seen x) s

-- the typecodes of the variables of an assertion without `$e`, in order
abbrev pub codes_for : List ℕ → ℕ → List WSym
codes_for bytes id = map (λ h. (split h).0) (premises_of bytes id)

-- its variables in order of first occurrence
abbrev pub order_for : List ℕ → ℕ → List ℕ
order_for bytes id = seen_in (variables_for bytes id) [] (split (statement_of bytes id)).1

-- a plain assertion
abbrev pub assertion_of : List ℕ → ℕ → Assertion
assertion_of bytes id = record {
  id = id;
  code = (split (statement_of bytes id)).0;
  items = items_of (variables_for bytes id) (codes_for bytes id) [] (split (statement_of bytes id)).1;
  apart = map (λ p. (place_or_none (place (order_for bytes id) p.0), place_or_none (place (order_for bytes id) p.1))) (stated_at bytes id).pairs;
}

abbrev pub hypothesis_of : List ℕ → ℕ → Hypothesis
hypothesis_of bytes id = record { id = id; goal = split (statement_of bytes id) }

abbrev pub grammar_of : Terms → Grammar
grammar_of c = record {
  hypotheses = map (hypothesis_of c.bytes) (active_at c.bytes c.at);
  assertions = map (assertion_of c.bytes) (plain_assertions c);
  brackets = heeded c.bytes c.rule;
  groups = distinct_at c.bytes c.at;
}

-- the substitution of a statement that the values of its variables make, in order of first occurrence
abbrev pub sigma_of : List ℕ → ℕ → List Goal → Pairs
sigma_of bytes id v = map (λ n. (Var n, value v (place_or_none (place (order_for bytes id) n)))) (variables_for bytes id)

-- the last step of a proof, by its parts; a hypothesis has no substitution
abbrev pub use_by : List ℕ → Use → ranks.Use
use_by bytes u = record { id = u.0; sigma = sigma_of bytes u.0 u.1 }

abbrev pub chosen_by : List ℕ → Chosen → ranks.Chosen
chosen_by bytes x = record { rank = x.rank; use_ = record { id = x.id; sigma = if x.rank == 0 then [] else sigma_of bytes x.id x.parts } }

-- The chosen proof by items is the chosen proof by unifiers.
abbrev pub AnswersAgree : List ℕ → Type 0
AnswersAgree bytes = (c : Terms) → c.bytes ≡ bytes → c.at < length (labels_of bytes) → (code : WSym) (t : List WSym) → has_work (code ∷ t) ≡ false → length (code ∷ t) ≤ most_symbols →
    (o : Option Chosen) → IsAnswer (grammar_of c) (code, t) o → ranks.IsAnswer c (code ∷ t) (on (chosen_by c.bytes) o)
