-- How many typecodes wait for an entry in a cell.
use Rattle.mm_subst.specs.Symbols.{is_same}
use Rattle.mm_chart.proofs.Symbols.{same-true, eq-same}
use Rattle.mm_subst.specs.declared.symbol.WSym.{WSym}
use Rattle.std.proofs.Common.{◌≡◌, ℕ, zero, suc, ◌+◌, ◌≤◌, ◌<◌, List, [], ◌∷◌, Option, None, Some, Bool, true, false, cond, not, ◌||◌, refl, sym, ◌∙◌, ap, arith, eqb, inl, inr, length, get_or}
use Rattle.std.specs.List.{list_any}
use Rattle.std.proofs.lemmas.Bool.{cases_Bool, eq-eqb, or_cases, or_left, or_right, and_from}
use Rattle.mm_chart.specs.Options.{is_there, or_else}
use Rattle.mm_chart.specs.Items.{Hypothesis, Assertion, Grammar}
use Rattle.mm_chart.specs.Charts.{Noted, Rows, entry_at, is_for, HasCode, IsNew}
use Rattle.mm_chart.proofs.Settling.{with, entry_cell}

abbrev pub how_many : {X : Type 0} → (X → Bool) → List X → ℕ
how_many p [] = 0
how_many p (x ∷ xs) = cond (p x) 1 0 + how_many p xs

fewer_or_same : {X : Type 0} (p q : X → Bool) (xs : List X) → ((x : X) → q x ≡ true → p x ≡ true) → how_many q xs ≤ how_many p xs
fewer_or_same p q [] h = omega arith
fewer_or_same p q (x ∷ xs) h =
    let r = fewer_or_same p q xs h in
    elim (cases_Bool (q x)) [
      | inl e ↦ rw (e, h x e) (omega arith)
      | inr e ↦ rw e (omega arith)
    ]

fewer : {X : Type 0} (p q k : X → Bool) (xs : List X) → ((x : X) → q x ≡ true → p x ≡ true) → ((x : X) → k x ≡ true → p x ≡ true) → ((x : X) → k x ≡ true → q x ≡ false) → list_any k xs ≡ true → how_many q xs < how_many p xs
fewer p q k [] h l m a = absurd (cc)
fewer p q k (x ∷ xs) h l m a =
    let r = fewer_or_same p q xs h in
    elim (cases_Bool (k x)) [
      | inl e ↦ rw (l x e, m x e) (omega arith)
      | inr e ↦
          let s = fewer p q k xs h l m (sym (ap (λ (b : Bool). b || list_any k xs) e) ∙ a) in
          elim (cases_Bool (q x)) [
            | inl f ↦ rw (f, h x f) (omega arith)
            | inr f ↦ rw f (omega arith)
          ]
    ]

abbrev pub is_open : Rows → ℕ → ℕ → WSym → Bool
is_open rows at to code = not (is_there (entry_at rows at code to))

abbrev pub waiting : Grammar → Rows → ℕ → ℕ → ℕ
waiting G rows at to = how_many (λ h. is_open rows at to h.goal.0) G.hypotheses + how_many (λ a. is_open rows at to a.code) G.assertions

open_before : (a b : Option Noted) → not (is_there (or_else a b)) ≡ true → not (is_there a) ≡ true
open_before None b h = refl
open_before (Some x) b h = h

closed_now : (a : Option Noted) (x : Noted) → not (is_there (or_else a (Some x))) ≡ false
closed_now None x = refl
closed_now (Some y) x = refl

was_open : (rows : Rows) (at to : ℕ) (e : Noted) (code : WSym) → at < length rows → is_open (with rows at e) at to code ≡ true → is_open rows at to code ≡ true
was_open rows at to e code l h =
    open_before (entry_at rows at code to) (cond (is_for code to e) (Some e) None) (ap (λ (o : Option Noted). not (is_there o)) (sym (entry_cell rows at code to e l)) ∙ h)

now_closed : (rows : Rows) (at to : ℕ) (e : Noted) (code : WSym) → at < length rows → e.to ≡ to → is_same code e.code ≡ true → is_open (with rows at e) at to code ≡ false
now_closed rows at to e code l q h =
    let c : e.code ≡ code = sym (same-true code e.code h) in
    ap (λ (o : Option Noted). not (is_there o)) (entry_cell rows at code to e l ∙ ap (λ (b : Bool). or_else (entry_at rows at code to) (cond b (Some e) None)) (and_from (is_same e.code code) (eqb e.to to) (eq-same e.code code c) (eq-eqb e.to to q)))
    ∙ closed_now (entry_at rows at code to) e

new_open : (rows : Rows) (at to : ℕ) (e : Noted) (code : WSym) → entry_at rows at e.code to ≡ None → is_same code e.code ≡ true → is_open rows at to code ≡ true
new_open rows at to e code n h = ap (λ (c : WSym). is_open rows at to c) (same-true code e.code h) ∙ ap (λ (o : Option Noted). not (is_there o)) n

pub waiting_less : (G : Grammar) (t : List WSym) (rows : Rows) (at to : ℕ) (e : Noted) → at < length rows → IsNew G t rows at to e → waiting G (with rows at e) at to < waiting G rows at to
waiting_less G t rows at to e l n =
    let a = fewer_or_same (λ (h : Hypothesis). is_open rows at to h.goal.0) (λ h. is_open (with rows at e) at to h.goal.0) G.hypotheses (λ h q. was_open rows at to e h.goal.0 l q) in
    let b = fewer_or_same (λ (x : Assertion). is_open rows at to x.code) (λ x. is_open (with rows at e) at to x.code) G.assertions (λ x q. was_open rows at to e x.code l q) in
    elim (or_cases (list_any (λ (h : Hypothesis). is_same h.goal.0 e.code) G.hypotheses) (list_any (λ (x : Assertion). is_same x.code e.code) G.assertions) n.has_code) [
      | inl m ↦
          let c = fewer (λ (h : Hypothesis). is_open rows at to h.goal.0) (λ h. is_open (with rows at e) at to h.goal.0) (λ h. is_same h.goal.0 e.code) G.hypotheses (λ h q. was_open rows at to e h.goal.0 l q) (λ h q. new_open rows at to e h.goal.0 n.new q) (λ h q. now_closed rows at to e h.goal.0 l n.ends q) m in
          omega arith
      | inr m ↦
          let c = fewer (λ (x : Assertion). is_open rows at to x.code) (λ x. is_open (with rows at e) at to x.code) (λ x. is_same x.code e.code) G.assertions (λ x q. was_open rows at to e x.code l q) (λ x q. new_open rows at to e x.code n.new q) (λ x q. now_closed rows at to e x.code l n.ends q) m in
          omega arith
    ]

any_at : {X : Type 0} (p : X → Bool) (xs : List X) (i : ℕ) (d : X) → i < length xs → p (get_or xs i d) ≡ true → list_any p xs ≡ true
any_at p [] i d l h = absurd (omega arith)
any_at p (x ∷ xs) zero d l h = or_left (p x) (list_any p xs) h
any_at p (x ∷ xs) (suc i) d l h = or_right (p x) (list_any p xs) (any_at p xs i d (omega arith) h)

pub code_of_hypothesis : (G : Grammar) (i : ℕ) (d : Hypothesis) → i < length G.hypotheses → HasCode G (get_or G.hypotheses i d).goal.0
code_of_hypothesis G i d l = let c = (get_or G.hypotheses i d).goal.0 in
    or_left (list_any (λ h. is_same h.goal.0 c) G.hypotheses) (list_any (λ a. is_same a.code c) G.assertions) (any_at (λ (h : Hypothesis). is_same h.goal.0 c) G.hypotheses i d l (eq-same c c refl))

pub code_of_assertion : (G : Grammar) (i : ℕ) (d : Assertion) → i < length G.assertions → HasCode G (get_or G.assertions i d).code
code_of_assertion G i d l = let c = (get_or G.assertions i d).code in
    or_right (list_any (λ h. is_same h.goal.0 c) G.hypotheses) (list_any (λ a. is_same a.code c) G.assertions) (any_at (λ (a : Assertion). is_same a.code c) G.assertions i d l (eq-same c c refl))
