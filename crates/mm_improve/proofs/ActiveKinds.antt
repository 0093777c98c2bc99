-- The active hypotheses of a statement are hypotheses.
use Rattle.std.proofs.Common.{◌≡◌, ℕ, suc, zero, ◌≤◌, ◌<◌, Bool, true, false, cond, List, [], ◌∷◌, ◌++◌, Option, length, nat_le, refl, sym, ◌∙◌, ap, subst, arith, length-append}
use Rattle.std.specs.List.{AllByRecursion}
use Rattle.std.proofs.lemmas.List.{get_or_append_left}
use Rattle.mm_tables.specs.Moves.{in_force}
use Rattle.mm_scope.specs.Contents.{statements_of, stated_at, active_at, events_of, past_before}
use Rattle.mm_scope.specs.Events.{Event, constant, variable, float, essential, asserted, theorem, distinct, opened, closed, labels, statements, hypothesis_moves, active_hypotheses, active_distinct}
use Rattle.mm_stated.specs.Mandatory.{statement_at, an_assertion}
use Rattle.mm_stated.specs.Stated.{Stated, no_statement, a_hypothesis, is_hypothesis}
use Rattle.mm_stated.specs.declared.statement.Kind.{Kind}
use Rattle.mm_stated.specs.declared.statement.Kind.TheVariants as kind
use Rattle.mm_plain.proofs.Reading.{as_many}

-- these are hypotheses among the statements
abbrev AreHypotheses : List Stated → List ℕ → Type 0
AreHypotheses xs ids = AllByRecursion (λ k. (k < length xs) × (is_hypothesis (statement_at xs k).kind ≡ true)) ids

longer : (xs : List Stated) (s : Stated) (ids : List ℕ) → AreHypotheses xs ids → AreHypotheses (xs ++ s ∷ []) ids
longer xs s [] h = tt
longer xs s (k ∷ ids) h = ((omega (arith, h.0.0, length-append xs (s ∷ [])), ap (λ (x : Stated). is_hypothesis x.kind) (get_or_append_left xs (s ∷ []) no_statement k h.0.0) ∙ h.0.1), longer xs s ids h.1)

pushed : (xs : List Stated) (ids : List ℕ) (k : ℕ) → AreHypotheses xs ids → (k < length xs) × (is_hypothesis (statement_at xs k).kind ≡ true) → AreHypotheses xs (ids ++ k ∷ [])
pushed xs [] k h one = (one, tt)
pushed xs (m ∷ ids) k h one = (h.0, pushed xs ids k h.1 one)

seam : (xs : List Stated) (s : Stated) → statement_at (xs ++ s ∷ []) (length xs) ≡ s
seam [] s = refl
seam (x ∷ xs) s = seam xs s

one_more : (past : List Event) (s : Stated) (ids : List ℕ) → is_hypothesis s.kind ≡ true → AreHypotheses (statements past) ids → AreHypotheses (statements past ++ s ∷ []) (ids ++ length (labels past) ∷ [])
one_more past s ids is h =
    let xs = statements past in
    let e : length (labels past) ≡ length xs = sym (as_many past) in
    pushed (xs ++ s ∷ []) ids (length (labels past)) (longer xs s ids h)
    (omega (arith, e, length-append xs (s ∷ [])), ap (λ (k : ℕ). is_hypothesis (statement_at (xs ++ s ∷ []) k).kind) e ∙ ap (λ (x : Stated). is_hypothesis x.kind) (seam xs s) ∙ is)

are_active : (n : ℕ) (past : List Event) → AreHypotheses (statements past) (in_force n (hypothesis_moves past))
unfolding in_force hypothesis_moves statements
are_active n [] = tt
are_active n (constant t m ∷ past) = are_active n past
are_active n (variable t m ∷ past) = are_active n past
are_active n (distinct ss ∷ past) = are_active n past
are_active zero (float l ss d ∷ past) = one_more past (a_hypothesis kind.Float ss d) (in_force zero (hypothesis_moves past)) refl (are_active zero past)
are_active (suc n) (float l ss d ∷ past) = longer (statements past) (a_hypothesis kind.Float ss d) (in_force (suc n) (hypothesis_moves past)) (are_active (suc n) past)
are_active zero (essential l ss d ∷ past) = one_more past (a_hypothesis kind.Essential ss d) (in_force zero (hypothesis_moves past)) refl (are_active zero past)
are_active (suc n) (essential l ss d ∷ past) = longer (statements past) (a_hypothesis kind.Essential ss d) (in_force (suc n) (hypothesis_moves past)) (are_active (suc n) past)
are_active n (asserted l ss d ∷ past) = longer (statements past) (an_assertion (statements past) (active_hypotheses past) (active_distinct past) kind.Axiom ss 0 0 d) (in_force n (hypothesis_moves past)) (are_active n past)
are_active n (theorem l ss from to d ∷ past) = longer (statements past) (an_assertion (statements past) (active_hypotheses past) (active_distinct past) kind.Theorem ss from to d) (in_force n (hypothesis_moves past)) (are_active n past)
are_active zero (opened p ∷ past) = are_active zero past
are_active (suc n) (opened p ∷ past) = are_active n past
are_active n (closed ∷ past) = are_active (suc n) past

later_event : (e : Event) (past : List Event) (ids : List ℕ) → AreHypotheses (statements past) ids → AreHypotheses (statements (e ∷ past)) ids
unfolding statements
later_event (constant t m) past ids h = h
later_event (variable t m) past ids h = h
later_event (distinct ss) past ids h = h
later_event (opened p) past ids h = h
later_event closed past ids h = h
later_event (float l ss d) past ids h = longer (statements past) (a_hypothesis kind.Float ss d) ids h
later_event (essential l ss d) past ids h = longer (statements past) (a_hypothesis kind.Essential ss d) ids h
later_event (asserted l ss d) past ids h = longer (statements past) (an_assertion (statements past) (active_hypotheses past) (active_distinct past) kind.Axiom ss 0 0 d) ids h
later_event (theorem l ss from to d) past ids h = longer (statements past) (an_assertion (statements past) (active_hypotheses past) (active_distinct past) kind.Theorem ss from to d) ids h

from_before : (id : ℕ) (past : List Event) (ids : List ℕ) → AreHypotheses (statements (past_before id past)) ids → AreHypotheses (statements past) ids
unfolding past_before
from_before id [] ids h = h
from_before id (e ∷ past) ids h = by (nat_le (length (labels (e ∷ past))) id) h (λ k. later_event e past ids (from_before id past ids k))
  where
    by : (b : Bool) → AreHypotheses (statements (cond b (e ∷ past) (past_before id past))) ids → (AreHypotheses (statements (past_before id past)) ids → AreHypotheses (statements (e ∷ past)) ids) → AreHypotheses (statements (e ∷ past)) ids
    by true h f = h
    by false h f = f h

kinds : (xs : List Stated) (ids : List ℕ) → AreHypotheses xs ids → AllByRecursion (λ m. is_hypothesis (statement_at xs m).kind ≡ true) ids
kinds xs [] h = tt
kinds xs (m ∷ ids) h = (h.0.1, kinds xs ids h.1)

pub active_are_hypotheses : (bytes : List ℕ) (at : ℕ) → AllByRecursion (λ m. is_hypothesis (stated_at bytes m).kind ≡ true) (active_at bytes at)
unfolding active_at statements_of
active_are_hypotheses bytes at =
    let ids = active_hypotheses (past_before at (events_of bytes)) in
    kinds (statements (events_of bytes)) ids (from_before at (events_of bytes) ids (are_active zero (past_before at (events_of bytes))))
