-- Conclusions as what is searched for: matches with the parts of a string, and the chosen proof by them.
use Rattle.std.specs.Prelude.{ℕ, zero, suc, ◌≡◌, Bool, true, ◌&&◌, ◌||◌, not, List, [], ◌∷◌, ◌++◌, take, drop, length, map, Option, Some, None, slice_index_or, cond, nat_le}
use Rattle.std.specs.List.{flat_map, list_all, list_any}
use Rattle.std.specs.Cmp.Lexicographic.{pointwise}
use Rattle.mm_tables.specs.Distinct.{are_distinct}
use Rattle.mm_subst.specs.declared.symbol.WSym.{WSym}
use Rattle.mm_subst.specs.declared.symbol.WSym.TheVariants.{Const, Var, Work}
use Rattle.mm_subst.specs.declared.brackets.Brackets.{Brackets}
use Rattle.mm_subst.specs.Symbols.{is_same}
use Rattle.mm_unify.specs.Matching.{lengths, behind, onward}
use Rattle.mm_unify.specs.Forbidden.{forbidden_by}
use Rattle.mm_chart.specs.declared.grammar.Item.{Item}
use Rattle.mm_chart.specs.declared.grammar.Item.TheVariants.{Fixed, Again, New}
use Rattle.mm_chart.specs.Options.{is_there, or_else, on, first}

-- a typecode and a string
abbrev pub Goal : Type 0
Goal = WSym × List WSym

-- a plain assertion: its id, and its conclusion behind the typecode. The first occurrence of a variable has the variable's
-- typecode, a later one the number of variables before it, and so have the variables of the distinct pairs.
pub record Assertion : Type 0 where
  pub id : ℕ
  pub code : WSym
  pub items : List Item
  pub apart : List (ℕ × ℕ)

-- a hypothesis with its id
pub record Hypothesis : Type 0 where
  pub id : ℕ
  pub goal : Goal

-- active hypotheses and plain assertions, both in the order of the database, the brackets that are heeded, and the groups
-- of variables that must differ at the theorem
pub record Grammar : Type 0 where
  pub hypotheses : List Hypothesis
  pub assertions : List Assertion
  pub brackets : Option Brackets
  pub groups : List (List ℕ)

-- stands for a goal where there is none
abbrev pub no_goal : Goal
no_goal = (Const 0, [])

abbrev pub value : List Goal → ℕ → List WSym
value v k = (slice_index_or v k no_goal).1

-- what a test says of a variable; a symbol that is none passes
abbrev pub if_variable : (ℕ → Bool) → WSym → Bool
if_variable p (Const n) = true
if_variable p (Var n) = p n
if_variable p (Work n) = true

-- each variable of the one string must differ from each of the other at the theorem
abbrev pub are_parted : List (List ℕ) → List WSym → List WSym → Bool
are_parted groups s t = list_all (if_variable (λ u. list_all (if_variable (λ v. are_distinct groups u v)) t)) s

-- whether a match may be one: no value is forbidden, and the values of each distinct pair are parted
abbrev pub fits : Grammar → List (ℕ × ℕ) → List Goal → Bool
fits G pairs v = list_all (λ g. not ((forbidden_by G.brackets).at_end g.1)) v && list_all (λ p. are_parted G.groups (value v p.0) (value v p.1)) pairs

-- what is left is no symbol, and the match passes the test
abbrev pub whole : (List Goal → Bool) → List Goal → List WSym → List (List Goal)
whole ok v [] = cond (ok v) (v ∷ []) []
whole ok v (c ∷ s) = []

-- The matches of a conclusion with a string, the shortest value first, the leftmost variable first. A match is the list
-- of the `$f` goals in order of first occurrence; v has those so far.
abbrev pub matches : (List Goal → Bool) → List Item → List Goal → List WSym → List (List Goal)
matches ok [] v s = whole ok v s
matches ok (Fixed c ∷ items) v s = onward (matches ok items v) (behind (c ∷ []) s)
matches ok (Again k ∷ items) v s = onward (matches ok items v) (behind (value v k) s)
matches ok (New code ∷ items) v s = flat_map (λ n. matches ok items (v ++ (code, take n s) ∷ []) (drop n s)) (lengths (length s))

-- a match of an assertion, by its id
abbrev pub Use : Type 0
Use = ℕ × List Goal

abbrev pub uses_of : Grammar → Goal → Assertion → List Use
uses_of G g a = cond (is_same a.code g.0) (map (λ v. (a.id, v)) (matches (fits G a.apart) a.items [] g.1)) []

-- all matches of all assertions with a goal, in order
abbrev pub uses : Grammar → Goal → List Use
uses G g = flat_map (uses_of G g) G.assertions

-- how a goal is proved: by the hypothesis with this id where the rank is 0, and otherwise by the assertion with this id,
-- whose `$f` goals are the parts
pub record Chosen : Type 0 where
  pub rank : ℕ
  pub id : ℕ
  pub parts : List Goal

abbrev pub same_string : List WSym → List WSym → Bool
same_string s t = pointwise is_same s t

abbrev pub same_goal : Goal → Goal → Bool
same_goal g h = is_same g.0 h.0 && same_string g.1 h.1

abbrev pub by_hypothesis : Hypothesis → Chosen
by_hypothesis h = record { rank = 0; id = h.id; parts = [] }

abbrev pub by_use : ℕ → Use → Chosen
by_use rank u = record { rank = rank; id = u.0; parts = u.1 }

-- the first hypothesis that is the goal
abbrev pub hypothesis : Grammar → Goal → Option Chosen
hypothesis G g = on by_hypothesis (first (λ h. same_goal g h.goal) G.hypotheses)

-- whether all parts of a match have a proof
abbrev pub serves : (Goal → Option Chosen) → Use → Bool
serves proof u = list_all (λ g. is_there (proof g)) u.1

-- the chosen proof of a goal whose rank is at most r
unfoldable pub chosen : Grammar → ℕ → Goal → Option Chosen
chosen G zero g = hypothesis G g
chosen G (suc r) g = or_else (chosen G r g) (on (by_use (suc r)) (first (serves (chosen G r)) (uses G g)))

-- a proof as far as a rank
abbrev pub limited : ℕ → Option Chosen → Option Chosen
limited r None = None
limited r (Some c) = cond (nat_le c.rank r) (Some c) None

-- the chosen proof, which the goal has from its rank on; or the goal has none at any rank
abbrev pub IsAnswer : Grammar → Goal → Option Chosen → Type 0
IsAnswer G g answer = (r : ℕ) → chosen G r g ≡ limited r answer

-- ## Typecodes

-- the typecode of a first occurrence
abbrev pub new_codes : List Item → List WSym
new_codes [] = []
new_codes (Fixed c ∷ items) = new_codes items
new_codes (Again k ∷ items) = new_codes items
new_codes (New code ∷ items) = code ∷ new_codes items

-- those of the variables of all assertions
abbrev pub part_codes : Grammar → List WSym
part_codes G = flat_map (λ a. new_codes a.items) G.assertions

-- whether a goal on the way to one with the first typecode may have the second: it is the same, or that of a variable
abbrev pub may_lead : Grammar → WSym → WSym → Bool
may_lead G code part = is_same part code || list_any (is_same part) (part_codes G)
