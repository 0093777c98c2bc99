-- The hypotheses, and the assertions that can begin with a symbol, one after the other.
use Rattle.std.proofs.Common.{◌≡◌, ℕ, zero, suc, ◌+◌, ◌≤◌, ◌<◌, List, [], ◌∷◌, ◌++◌, Option, None, Some, Bool, true, false, cond, not, ◌&&◌, refl, sym, ◌∙◌, ap, arith, inl, inr, length, get_or, map, take}
use Rattle.std.specs.List.{filter}
use Rattle.std.proofs.lemmas.Bool.{cases_Bool, and_left, and_right, and_from, and_cases, and_parts, not-false, both_ways}
use Rattle.std.proofs.lemmas.List.{append-nil, take_more, map-append, take_all}
use Rattle.std.proofs.lemmas.List.Elements.{filter-append}
use Rattle.mm_subst.specs.declared.symbol.WSym.{WSym}
use Rattle.mm_subst.specs.Symbols.{is_same}
use Rattle.mm_unify.specs.Parts.{part}
use Rattle.mm_chart.specs.Options.{is_there, on, first}
use Rattle.mm_chart.specs.Items.{Goal, Hypothesis, Assertion, Grammar, hypothesis, same_goal, same_string, by_hypothesis}
use Rattle.mm_chart.specs.Charts.{Noted, Rows, entry_at, can_begin, able_of, no_assertion, assertion_at, IsStated}
use Rattle.mm_chart.proofs.Symbols.{eq-same, ne-same}
use Rattle.mm_chart.proofs.Firsts.{first-append, or_else-none}
use Rattle.mm_chart.proofs.Waiting.{code_of_hypothesis}

-- no hypothesis among the first ones
abbrev pub NoneStated : Grammar → List WSym → Rows → ℕ → ℕ → ℕ → Type 0
NoneStated G t rows at to i = (code : WSym) → entry_at rows at code to ≡ None → first (λ h. same_goal (code, part t at to) h.goal) (take i G.hypotheses) ≡ None

pub stated_more : (G : Grammar) (t : List WSym) (rows : Rows) (at to i : ℕ) (d : Hypothesis) → i < length G.hypotheses →
    ((code : WSym) → entry_at rows at code to ≡ None → same_goal (code, part t at to) (get_or G.hypotheses i d).goal ≡ false) → NoneStated G t rows at to i → NoneStated G t rows at to (i + 1)
stated_more G t rows at to i d l n h code e =
    let q = λ (x : Hypothesis). same_goal (code, part t at to) x.goal in
    ap (first q) (take_more G.hypotheses i d l) ∙ first-append q (take i G.hypotheses) (get_or G.hypotheses i d ∷ [])
    ∙ or_else-none (first q (take i G.hypotheses)) (first q (get_or G.hypotheses i d ∷ [])) (h code e)
    ∙ ap (λ (b : Bool). cond b (Some (get_or G.hypotheses i d)) None) (n code e)

pub differs : (t : List WSym) (at to : ℕ) (code : WSym) (h : Goal) → same_string (part t at to) h.1 ≡ false → same_goal (code, part t at to) h ≡ false
differs t at to code h e = and_right (is_same code h.0) (same_string (part t at to) h.1) e

pub settled_code : (t : List WSym) (rows : Rows) (at to : ℕ) (code : WSym) (h : Goal) → is_there (entry_at rows at h.0 to) ≡ true → entry_at rows at code to ≡ None → same_goal (code, part t at to) h ≡ false
settled_code t rows at to code h s e =
    and_left (is_same code h.0) (same_string (part t at to) h.1) (ne-same code h.0 (λ q. both_ways (is_there (entry_at rows at h.0 to)) (ap (λ (c : WSym). is_there (entry_at rows at c to)) (sym q) ∙ ap is_there e) s))

pub none_stated : (G : Grammar) (t : List WSym) (rows : Rows) (at to i : ℕ) → length G.hypotheses ≤ i → NoneStated G t rows at to i → (code : WSym) → entry_at rows at code to ≡ None → hypothesis G (code, part t at to) ≡ None
none_stated G t rows at to i l n code e =
    ap (on by_hypothesis) (sym (ap (first (λ (h : Hypothesis). same_goal (code, part t at to) h.goal)) (take_all i G.hypotheses l)) ∙ n code e)

pub first_here : {X : Type 0} (q : X → Bool) (xs : List X) (i : ℕ) (d : X) → i < length xs → first q (take i xs) ≡ None → q (get_or xs i d) ≡ true → first q xs ≡ Some (get_or xs i d)
first_here q [] i d l n h = absurd (omega arith)
first_here q (x ∷ xs) zero d l n h = ap (λ (b : Bool). cond b (Some x) (first q xs)) h
first_here q (x ∷ xs) (suc i) d l n h = elim (cases_Bool (q x)) [
  | inl e ↦ let z : Some x ≡ None = sym (ap (λ (b : Bool). cond b (Some x) (first q (take i xs))) e) ∙ n in absurd (cc)
  | inr e ↦ ap (λ (b : Bool). cond b (Some x) (first q xs)) e ∙ first_here q xs i d (omega arith) (sym (ap (λ (b : Bool). cond b (Some x) (first q (take i xs))) e) ∙ n) h
]

-- the first hypothesis that is the part
pub is_stated : (G : Grammar) (t : List WSym) (rows : Rows) (at to i : ℕ) (d : Hypothesis) (y : Noted) → i < length G.hypotheses → NoneStated G t rows at to i →
    y ≡ record { code = (get_or G.hypotheses i d).goal.0; to = to; rank = 0; id = (get_or G.hypotheses i d).id; parts = [] } →
    entry_at rows at (get_or G.hypotheses i d).goal.0 to ≡ None → same_string (part t at to) (get_or G.hypotheses i d).goal.1 ≡ true → IsStated G t rows at to y
is_stated G t rows at to i d y l n q new e =
    let h = get_or G.hypotheses i d in
    let g : Goal = (h.goal.0, part t at to) in
    let p = λ (x : Hypothesis). same_goal g x.goal in
    let here : p h ≡ true = and_from (is_same h.goal.0 h.goal.0) (same_string g.1 h.goal.1) (eq-same h.goal.0 h.goal.0 refl) e in
    rw q (record {
      ends = refl;
      new = new;
      has_code = code_of_hypothesis G i d l;
      no_parts = refl;
      rank = refl;
      is = ap (on by_hypothesis) (first_here p G.hypotheses i d l (n h.goal.0 new) here);
    })

-- the assertions that can begin with a symbol, among the first ones
abbrev pub AbleYet : Grammar → WSym → ℕ → List ℕ → Type 0
AbleYet G c i able = map (assertion_at G) able ≡ filter (λ x. can_begin c x.items) (take i G.assertions)

able_step : (G : Grammar) (c : WSym) (i : ℕ) → i < length G.assertions → filter (λ (x : Assertion). can_begin c x.items) (take (i + 1) G.assertions)
    ≡ filter (λ (x : Assertion). can_begin c x.items) (take i G.assertions) ++ cond (can_begin c (get_or G.assertions i no_assertion).items) (assertion_at G i ∷ []) []
able_step G c i l =
    let k = λ (x : Assertion). can_begin c x.items in
    ap (filter k) (take_more G.assertions i no_assertion l) ∙ filter-append k (take i G.assertions) (assertion_at G i ∷ [])

pub able_more : (G : Grammar) (c : WSym) (i : ℕ) (able more : List ℕ) → i < length G.assertions → can_begin c (get_or G.assertions i no_assertion).items ≡ true → more ≡ able ++ i ∷ [] → AbleYet G c i able → AbleYet G c (i + 1) more
able_more G c i able more l b m h =
    ap (map (assertion_at G)) m ∙ map-append (assertion_at G) able (i ∷ []) ∙ ap (λ (xs : List Assertion). xs ++ assertion_at G i ∷ []) h
    ∙ sym (able_step G c i l ∙ ap (λ (d : Bool). filter (λ (x : Assertion). can_begin c x.items) (take i G.assertions) ++ cond d (assertion_at G i ∷ []) []) b)

pub able_same : (G : Grammar) (c : WSym) (i : ℕ) (able : List ℕ) → i < length G.assertions → can_begin c (get_or G.assertions i no_assertion).items ≡ false → AbleYet G c i able → AbleYet G c (i + 1) able
able_same G c i able l b h =
    h ∙ sym (able_step G c i l ∙ ap (λ (d : Bool). filter (λ (x : Assertion). can_begin c x.items) (take i G.assertions) ++ cond d (assertion_at G i ∷ []) []) b ∙ append-nil _)

pub able_all : (G : Grammar) (c : WSym) (i : ℕ) (able : List ℕ) → length G.assertions ≤ i → AbleYet G c i able → map (assertion_at G) able ≡ able_of c G
able_all G c i able l h = h ∙ ap (filter (λ (x : Assertion). can_begin c x.items)) (take_all i G.assertions l)

-- what the test of a hypothesis says
pub not_stated : (t : List WSym) (rows : Rows) (at to : ℕ) (code : WSym) (h : Goal) → (same_string (part t at to) h.1 && not (is_there (entry_at rows at h.0 to))) ≡ false → entry_at rows at code to ≡ None → same_goal (code, part t at to) h ≡ false
not_stated t rows at to code h e n = elim (and_cases (same_string (part t at to) h.1) (not (is_there (entry_at rows at h.0 to))) e) [
  | inl a ↦ differs t at to code h a
  | inr b ↦ settled_code t rows at to code h (not-false (is_there (entry_at rows at h.0 to)) b) n
]

not_there : {A : Type 0} (o : Option A) → not (is_there o) ≡ true → o ≡ None
not_there None h = refl
not_there (Some a) h = absurd (cc)

pub now_stated : (G : Grammar) (t : List WSym) (rows : Rows) (at to i : ℕ) (d : Hypothesis) (y : Noted) → i < length G.hypotheses → NoneStated G t rows at to i →
    y ≡ record { code = (get_or G.hypotheses i d).goal.0; to = to; rank = 0; id = (get_or G.hypotheses i d).id; parts = [] } →
    (same_string (part t at to) (get_or G.hypotheses i d).goal.1 && not (is_there (entry_at rows at (get_or G.hypotheses i d).goal.0 to))) ≡ true → IsStated G t rows at to y
now_stated G t rows at to i d y l n q e =
    let h = get_or G.hypotheses i d in
    let p = and_parts (same_string (part t at to) h.goal.1) (not (is_there (entry_at rows at h.goal.0 to))) e in
    is_stated G t rows at to i d y l n q (not_there (entry_at rows at h.goal.0 to) p.1) p.0
