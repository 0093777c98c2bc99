-- The table.
use Rattle.std.specs.Prelude.{ℕ, zero, suc, ◌≡◌, ◌≤◌, ◌<◌, ◌+◌, ◌⊎◌, List, [], ◌∷◌, map, length, Option, None, Some, Bool, true, false, cond, nat_le, nat_lt, ◌&&◌, ◌||◌, ◌==◌, slice_index_or}
use Rattle.std.specs.List.{list_all, list_any, flat_map, filter}
use Rattle.mm_chart.specs.declared.table.Part.{Part}
use Rattle.mm_chart.specs.Options.{is_there, on, first}
use Rattle.mm_chart.specs.declared.grammar.Item.{Item}
use Rattle.mm_chart.specs.declared.grammar.Item.TheVariants.{Fixed, Again, New}
use Rattle.mm_chart.specs.Items.{Goal, Hypothesis, Assertion, Grammar, Use, Chosen, by_use, hypothesis, chosen, serves, IsAnswer, matches, may_lead, uses, uses_of}
use Rattle.mm_unify.specs.Parts.{part}
use Rattle.mm_subst.specs.declared.symbol.WSym.{WSym}
use Rattle.mm_subst.specs.declared.symbol.WSym.TheVariants.{Const}
use Rattle.mm_subst.specs.Symbols.{is_same}

-- an entry in the row of a place
pub record Noted : Type 0 where
  pub code : WSym
  pub to : ℕ
  pub rank : ℕ
  pub id : ℕ
  pub parts : List Part

abbrev pub Rows : Type 0
Rows = List (List Noted)

abbrev pub goal_of : List WSym → Part → Goal
goal_of t p = (p.code, part t p.from p.to)

abbrev pub goals_of : List WSym → List Part → List Goal
goals_of t ps = map (goal_of t) ps

abbrev pub meaning : List WSym → Noted → Chosen
meaning t e = record { rank = e.rank; id = e.id; parts = goals_of t e.parts }

abbrev pub is_for : WSym → ℕ → Noted → Bool
is_for code to e = is_same e.code code && e.to == to

abbrev pub entry_in : List Noted → WSym → ℕ → Option Noted
entry_in es code to = first (is_for code to) es

abbrev pub entry_at : Rows → ℕ → WSym → ℕ → Option Noted
entry_at rows i code j = entry_in (slice_index_or rows i []) code j

abbrev pub rank_of : Option Noted → Option ℕ
rank_of o = on (λ e. e.rank) o

abbrev pub at_most : Option ℕ → ℕ → Bool
at_most None r = false
at_most (Some k) r = nat_le k r

-- a test of goals that the table's ranks up to r decide, for the parts of a range
pub record Agrees (p : Goal → Bool) (r : ℕ) (t : List WSym) (rows : Rows) (from to : ℕ) : Type 0 where
  pub each : (i j : ℕ) (code : WSym) → from ≤ i → i < j → j ≤ to → p (code, part t i j) ≡ at_most (rank_of (entry_at rows i code j)) r

-- what is found of a list where r decides: none passes below the cost found, and at that cost this is the first
abbrev pub FindsAt : {A : Type 0} → ℕ → (A → Bool) → List A → Option (ℕ × A) → Type 0
FindsAt r q xs None = first q xs ≡ None
FindsAt r q xs (Some x) = (r < x.0 → first q xs ≡ None) × (r ≡ x.0 → first q xs ≡ Some x.1)

-- the next place after one where an entry ends
pub record IsNext (es : List Noted) (code : WSym) (last to next rank : ℕ) : Type 0 where
  pub later : last < next
  pub within : next ≤ to
  pub there : rank_of (entry_in es code next) ≡ Some rank
  pub skipped : (j : ℕ) → last < j → j < next → entry_in es code j ≡ None

abbrev pub IsNextOrNone : List Noted → WSym → ℕ → ℕ → Option (ℕ × ℕ) → Type 0
IsNextOrNone es code last to None = (j : ℕ) → last < j → j ≤ to → entry_in es code j ≡ None
IsNextOrNone es code last to (Some x) = IsNext es code last to x.0 x.1

-- parts that lie in the text, none empty
pub record AreWithin (t : List WSym) (ps : List Part) : Type 0 where
  pub each : (k : ℕ) → k < length ps → (d : Part) → ((slice_index_or ps k d).from < (slice_index_or ps k d).to) × ((slice_index_or ps k d).to ≤ length t)

-- what a walk over a conclusion finds in a range
abbrev pub found_of : List WSym → Option (ℕ × List Part) → Option (ℕ × List Goal)
found_of t o = on (λ x. (x.0, goals_of t x.1)) o

-- the parts of the row and cell that are done
abbrev pub IsDone : ℕ → ℕ → ℕ → ℕ → Type 0
IsDone at to i j = (at < i) ⊎ ((i ≡ at) × (j < to))

-- the parts after the cell
abbrev pub IsLater : ℕ → ℕ → ℕ → ℕ → Type 0
IsLater at to i j = (i < at) ⊎ ((i ≡ at) × (to < j))

-- The table has the answers for all parts that are done, and right ones in the cell that is being filled.
pub record IsFilled (G : Grammar) (t : List WSym) (rows : Rows) (at to : ℕ) : Type 0 where
  pub done : (i j : ℕ) (code : WSym) → IsDone at to i j → i < j → j ≤ length t → IsAnswer G (code, part t i j) (on (meaning t) (entry_at rows i code j))
  pub blank : (i j : ℕ) (code : WSym) → IsLater at to i j → entry_at rows i code j ≡ None
  pub placed : (i j : ℕ) (code : WSym) (e : Noted) → entry_at rows i code j ≡ Some e → AreWithin t e.parts
  pub right : (code : WSym) (e : Noted) → entry_at rows at code to ≡ Some e → IsAnswer G (code, part t at to) (Some (meaning t e))

-- no proof of rank 0, and no use at r
pub record HasNone (G : Grammar) (t : List WSym) (rows : Rows) (at to r : ℕ) (code : WSym) : Type 0 where
  pub no_hypothesis : hypothesis G (code, part t at to) ≡ None
  pub no_use : Agrees (λ g. is_there (chosen G r g)) r t rows at to → first (serves (chosen G r)) (uses G (code, part t at to)) ≡ None

-- some hypothesis or assertion has the typecode
abbrev pub HasCode : Grammar → WSym → Type 0
HasCode G code = (list_any (λ h. is_same h.goal.0 code) G.hypotheses || list_any (λ a. is_same a.code code) G.assertions) ≡ true

-- the new entry of a cell, of a least rank
abbrev pub IsLeast : Grammar → List WSym → Rows → ℕ → ℕ → Noted → ℕ → Type 0
IsLeast G t rows at to e zero = hypothesis G (e.code, part t at to) ≡ Some (meaning t e)
IsLeast G t rows at to e (suc r) = (u : Use) × (meaning t e ≡ by_use (suc r) u) × (Agrees (λ g. is_there (chosen G r g)) r t rows at to → first (serves (chosen G r)) (uses G (e.code, part t at to)) ≡ Some u) × ((k : ℕ) (code : WSym) → k < r → entry_at rows at code to ≡ None → HasNone G t rows at to k code) × ((code : WSym) → entry_at rows at code to ≡ None → hypothesis G (code, part t at to) ≡ None)

pub record IsNew (G : Grammar) (t : List WSym) (rows : Rows) (at to : ℕ) (e : Noted) : Type 0 where
  pub ends : e.to ≡ to
  pub new : entry_at rows at e.code to ≡ None
  pub has_code : HasCode G e.code
  pub placed : AreWithin t e.parts
  pub least : IsLeast G t rows at to e e.rank

abbrev pub Settles : Grammar → List WSym → Rows → ℕ → ℕ → Option Noted → Type 0
Settles G t rows at to None = (r : ℕ) (code : WSym) → entry_at rows at code to ≡ None → HasNone G t rows at to r code
Settles G t rows at to (Some e) = IsNew G t rows at to e

-- the first of two findings with the lesser cost
abbrev pub less : {A : Type 0} → Option (ℕ × A) → Option (ℕ × A) → Option (ℕ × A)
less None b = b
less (Some a) None = Some a
less (Some a) (Some b) = cond (nat_lt b.0 a.0) (Some b) (Some a)

-- the parts of each entry lie in the text
abbrev pub ArePlaced : List WSym → Rows → Type 0
ArePlaced t rows = (i j : ℕ) (code : WSym) (e : Noted) → entry_at rows i code j ≡ Some e → AreWithin t e.parts

-- the whole table has the answers
abbrev pub AreAnswers : Grammar → List WSym → Rows → Type 0
AreAnswers G t rows = (i j : ℕ) (code : WSym) → i < j → j ≤ length t → IsAnswer G (code, part t i j) (on (meaning t) (entry_at rows i code j))

abbrev pub closer : Option (ℕ × ℕ) → ℕ × ℕ → Option (ℕ × ℕ)
closer None x = Some x
closer (Some y) x = cond (nat_le y.0 x.0) (Some y) (Some x)

-- the nearest end after one more entry
abbrev pub nearest : WSym → ℕ → ℕ → Option (ℕ × ℕ) → Noted → Option (ℕ × ℕ)
nearest code last to o e = cond (is_same e.code code && (nat_lt last e.to && nat_le e.to to)) (closer o (e.to, e.rank)) o

-- whether a string with this first symbol can match the conclusion
abbrev pub can_begin : WSym → List Item → Bool
can_begin c [] = false
can_begin c (Fixed x ∷ _) = is_same x c
can_begin c (Again k ∷ _) = true
can_begin c (New code ∷ _) = true

abbrev pub able_of : WSym → Grammar → List Assertion
able_of c G = filter (λ x. can_begin c x.items) G.assertions

abbrev pub no_assertion : Assertion
no_assertion = record { id = 0; code = Const 0; items = []; apart = [] }

-- stand for a symbol, a hypothesis and an assertion where there is none
abbrev pub no_symbol : WSym
no_symbol = Const 0

abbrev pub no_hypothesis : Hypothesis
no_hypothesis = record { id = 0; goal = (Const 0, []) }

abbrev pub assertion_at : Grammar → ℕ → Assertion
assertion_at G n = slice_index_or G.assertions n no_assertion

-- the assertions that can begin with a symbol, by their places
pub record AreAble (G : Grammar) (c : WSym) (able : List ℕ) : Type 0 where
  pub are : map (assertion_at G) able ≡ able_of c G
  pub within : (k : ℕ) → k < length able → slice_index_or able k 0 < length G.assertions

-- the best use among some assertions, for the codes of a cell that have no entry yet
abbrev pub FirstUse : Grammar → List WSym → Rows → ℕ → ℕ → List Assertion → ℕ → WSym → Option Use → Type 0
FirstUse G t rows at to xs r code u = Agrees (λ g. is_there (chosen G r g)) r t rows at to → first (serves (chosen G r)) (flat_map (uses_of G (code, part t at to)) xs) ≡ u

pub record IsBest (G : Grammar) (t : List WSym) (rows : Rows) (at to : ℕ) (xs : List Assertion) (e : Noted) : Type 0 where
  pub ends : e.to ≡ to
  pub new : entry_at rows at e.code to ≡ None
  pub has_code : HasCode G e.code
  pub placed : AreWithin t e.parts
  pub rank : ℕ
  pub use_ : Use
  pub is : meaning t e ≡ by_use (suc rank) use_
  pub here : FirstUse G t rows at to xs rank e.code (Some use_)
  pub below : (k : ℕ) (code : WSym) → k < rank → entry_at rows at code to ≡ None → FirstUse G t rows at to xs k code None

abbrev pub Best : Grammar → List WSym → Rows → ℕ → ℕ → List Assertion → Option Noted → Type 0
Best G t rows at to xs None = (r : ℕ) (code : WSym) → entry_at rows at code to ≡ None → FirstUse G t rows at to xs r code None
Best G t rows at to xs (Some e) = IsBest G t rows at to xs e

abbrev pub noted : WSym → ℕ → ℕ → ℕ × List Part → Noted
noted code to id f = record { code = code; to = to; rank = f.0 + 1; id = id; parts = f.1 }

-- the best one after one more assertion
abbrev pub bettered : Option Noted → WSym → ℕ → ℕ → Option (ℕ × List Part) → Option Noted
bettered o code to id None = o
bettered None code to id (Some f) = Some (noted code to id f)
bettered (Some e) code to id (Some f) = cond (nat_lt (f.0 + 1) e.rank) (Some (noted code to id f)) (Some e)

-- the hypothesis that a cell gets
pub record IsStated (G : Grammar) (t : List WSym) (rows : Rows) (at to : ℕ) (e : Noted) : Type 0 where
  pub ends : e.to ≡ to
  pub new : entry_at rows at e.code to ≡ None
  pub has_code : HasCode G e.code
  pub no_parts : e.parts ≡ []
  pub rank : e.rank ≡ 0
  pub is : hypothesis G (e.code, part t at to) ≡ Some (meaning t e)

-- no match of the conclusion with a part from this place to an end after one and before another
abbrev pub Nowhere : List WSym → Rows → List Item → ℕ → ℕ → ℕ → Type 0
Nowhere t rows items at last end = (ok : List Goal → Bool) (v : List Goal) (to : ℕ) → at ≤ to → last < to → to < end → to ≤ length t → (p : Goal → Bool) (r : ℕ) → Agrees p r t rows at to → first (list_all p) (matches ok items v (part t at to)) ≡ None

-- a string of this length from a place ends no later than one place or no earlier than another
abbrev pub EndsOutside : ℕ → ℕ → ℕ → ℕ → Type 0
EndsOutside at last end count = (at + count ≤ last) ⊎ (end ≤ at + count)

-- the cells of a row after one and before another get no entry
abbrev pub AreIdle : Grammar → List WSym → Rows → ℕ → ℕ → ℕ → Type 0
AreIdle G t rows at last end = (to : ℕ) → last < to → to < end → to ≤ length t → Settles G t rows at to None

-- the table has the answers for the goals that may lead to one with a typecode
abbrev pub AreAnswersFor : Grammar → WSym → List WSym → Rows → Type 0
AreAnswersFor G goal t rows = (i j : ℕ) (code : WSym) → may_lead G goal code ≡ true → i < j → j ≤ length t → IsAnswer G (code, part t i j) (on (meaning t) (entry_at rows i code j))
