-- The moments that are noted are the labelled statements.
use Rattle.std.proofs.Common.{◌≡◌, ◌<◌, ◌≤◌, ℕ, zero, suc, Bool, true, false, cond, nat_le, List, [], ◌∷◌, ◌++◌, Some, length, slice_get, slice_index, refl, sym, ap, ◌∙◌, subst, arith, length-append, ◌⊎◌, inl, inr}
use Rattle.std.proofs.lemmas.List.{get_or_append_left}
use Rattle.std.proofs.Math.Seq.{get_or-append_seam}
use Rattle.mm_tables.specs.Layered.{layered}
use Rattle.mm_tables.specs.Moves.{Move, in_force, notes, before}
use Rattle.mm_tables.specs.Moves as move
use Rattle.mm_tables.proofs.LookBack.{in_force_at, moments_are_noted}
use Rattle.mm_scope.specs.Contents.{past_before}
use Rattle.mm_scope.specs.Events.{Event, constant, variable, float, essential, asserted, theorem, distinct, opened, closed, symbols, labels, hypothesis_moves, variable_moves, distinct_moves, active_hypotheses, active_variables, active_distinct}
use Rattle.mm_scope.proofs.Hypotheses.{skip, here}
use Rattle.mm_scope.proofs.Layering.{knowns}
use Rattle.mm_scope.proofs.Stacks.{below_or}

one_label : (l : List ℕ) (ls : List (List ℕ)) → suc (length ls) ≡ length (ls ++ l ∷ [])
one_label l ls = omega (arith, length-append ls (l ∷ []))

within : (n k : ℕ) → nat_le n k ≡ true → n ≤ k
within n k h = grind (arith, h)

module _ {X : Type 0} (moves : List Event → List (Move X)) where
  -- where the moves stood before a statement
  abbrev Follows : ℕ → List Event → Type 0
  Follows k past = before k (moves past) ≡ moves (past_before k past)

  -- an event that is no move
  no_move : (k : ℕ) (e : Event) (past : List Event) → moves (e ∷ past) ≡ moves past → length (labels (e ∷ past)) ≡ length (labels past) → Follows k past → Follows k (e ∷ past)
  unfolding past_before
  no_move k e past em el follows = ap (before k) em ∙ follows ∙ by (nat_le (length (labels (e ∷ past))) k) refl
    where
      by : (b : Bool) → nat_le (length (labels (e ∷ past))) k ≡ b → moves (past_before k past) ≡ moves (cond b (e ∷ past) (past_before k past))
      by true h = ap moves (here k past (omega (arith, el, within (length (labels (e ∷ past))) k h))) ∙ sym em
      by false h = refl

  -- an event that is one move
  one_move : (k : ℕ) (e : Event) (past : List Event) (m : Move X) → moves (e ∷ past) ≡ m ∷ moves past → notes (m ∷ moves past) ≡ length (labels (e ∷ past)) → Follows k past → Follows k (e ∷ past)
  unfolding past_before before
  one_move k e past m em en follows =
      ap (before k) em ∙ ap (λ n. cond (nat_le n k) (m ∷ moves past) (before k (moves past))) en ∙ by (nat_le (length (labels (e ∷ past))) k)
    where
      by : (b : Bool) → cond b (m ∷ moves past) (before k (moves past)) ≡ moves (cond b (e ∷ past) (past_before k past))
      by true = sym em
      by false = follows

  -- an event that is a moment and then a move
  two_moves : (k : ℕ) (e : Event) (past : List Event) (xs : List X) → moves (e ∷ past) ≡ move.item xs ∷ move.noted ∷ moves past → suc (notes (moves past)) ≡ length (labels (e ∷ past))
      → Follows k past → Follows k (e ∷ past)
  unfolding past_before before notes
  two_moves k e past xs em en follows =
      ap (before k) em
      ∙ ap (λ n. cond (nat_le n k) (move.item xs ∷ move.noted ∷ moves past) (cond (nat_le n k) (move.noted ∷ moves past) (before k (moves past)))) en
      ∙ by (nat_le (length (labels (e ∷ past))) k)
    where
      by : (b : Bool) → cond b (move.item xs ∷ move.noted ∷ moves past) (cond b (move.noted ∷ moves past) (before k (moves past))) ≡ moves (cond b (e ∷ past) (past_before k past))
      by true = sym em
      by false = follows

-- each labelled statement is a moment
hypothesis_notes : (past : List Event) → notes (hypothesis_moves past) ≡ length (labels past)
unfolding notes hypothesis_moves labels
hypothesis_notes [] = refl
hypothesis_notes (constant t n ∷ past) = hypothesis_notes past
hypothesis_notes (variable t n ∷ past) = hypothesis_notes past
hypothesis_notes (float l ss d ∷ past) = ap suc (hypothesis_notes past) ∙ one_label l (labels past)
hypothesis_notes (essential l ss d ∷ past) = ap suc (hypothesis_notes past) ∙ one_label l (labels past)
hypothesis_notes (asserted l ss d ∷ past) = ap suc (hypothesis_notes past) ∙ one_label l (labels past)
hypothesis_notes (theorem l ss from to d ∷ past) = ap suc (hypothesis_notes past) ∙ one_label l (labels past)
hypothesis_notes (distinct ss ∷ past) = hypothesis_notes past
hypothesis_notes (opened p ∷ past) = hypothesis_notes past
hypothesis_notes (closed ∷ past) = hypothesis_notes past

hypothesis_before : (k : ℕ) (past : List Event) → before k (hypothesis_moves past) ≡ hypothesis_moves (past_before k past)
unfolding notes hypothesis_moves labels before past_before
hypothesis_before k [] = refl
hypothesis_before k (constant t n ∷ past) = no_move hypothesis_moves k (constant t n) past refl refl (hypothesis_before k past)
hypothesis_before k (variable t n ∷ past) = no_move hypothesis_moves k (variable t n) past refl refl (hypothesis_before k past)
hypothesis_before k (float l ss d ∷ past) = two_moves hypothesis_moves k (float l ss d) past (length (labels past) ∷ []) refl (hypothesis_notes (float l ss d ∷ past)) (hypothesis_before k past)
hypothesis_before k (essential l ss d ∷ past) = two_moves hypothesis_moves k (essential l ss d) past (length (labels past) ∷ []) refl (hypothesis_notes (essential l ss d ∷ past)) (hypothesis_before k past)
hypothesis_before k (asserted l ss d ∷ past) = one_move hypothesis_moves k (asserted l ss d) past move.noted refl (hypothesis_notes (asserted l ss d ∷ past)) (hypothesis_before k past)
hypothesis_before k (theorem l ss from to d ∷ past) = one_move hypothesis_moves k (theorem l ss from to d) past move.noted refl (hypothesis_notes (theorem l ss from to d ∷ past)) (hypothesis_before k past)
hypothesis_before k (distinct ss ∷ past) = no_move hypothesis_moves k (distinct ss) past refl refl (hypothesis_before k past)
hypothesis_before k (opened p ∷ past) = one_move hypothesis_moves k (opened p) past move.opened refl (hypothesis_notes past) (hypothesis_before k past)
hypothesis_before k (closed ∷ past) = one_move hypothesis_moves k (closed) past move.closed refl (hypothesis_notes past) (hypothesis_before k past)

pub hypothesis_moments : (past : List Event) → length (layered (hypothesis_moves past)).moments ≡ length (labels past)
hypothesis_moments past = moments_are_noted (hypothesis_moves past) ∙ hypothesis_notes past

pub hypothesis_then : (k : ℕ) (past : List Event) → k < length (labels past) → slice_get (layered (hypothesis_moves past)).moments k ≡ Some (active_hypotheses (past_before k past))
hypothesis_then k past h = in_force_at k (hypothesis_moves past) (subst (λ n. k < n) (sym (hypothesis_notes past)) h) ∙ ap (λ ms. Some (in_force zero ms)) (hypothesis_before k past)

-- each labelled statement is a moment
variable_notes : (past : List Event) → notes (variable_moves past) ≡ length (labels past)
unfolding notes variable_moves labels
variable_notes [] = refl
variable_notes (constant t n ∷ past) = variable_notes past
variable_notes (variable t n ∷ past) = variable_notes past
variable_notes (float l ss d ∷ past) = ap suc (variable_notes past) ∙ one_label l (labels past)
variable_notes (essential l ss d ∷ past) = ap suc (variable_notes past) ∙ one_label l (labels past)
variable_notes (asserted l ss d ∷ past) = ap suc (variable_notes past) ∙ one_label l (labels past)
variable_notes (theorem l ss from to d ∷ past) = ap suc (variable_notes past) ∙ one_label l (labels past)
variable_notes (distinct ss ∷ past) = variable_notes past
variable_notes (opened p ∷ past) = variable_notes past
variable_notes (closed ∷ past) = variable_notes past

variable_before : (k : ℕ) (past : List Event) → before k (variable_moves past) ≡ variable_moves (past_before k past)
unfolding notes variable_moves labels before past_before
variable_before k [] = refl
variable_before k (constant t n ∷ past) = no_move variable_moves k (constant t n) past refl refl (variable_before k past)
variable_before k (variable t n ∷ past) = one_move variable_moves k (variable t n) past (move.item (n ∷ [])) refl (variable_notes past) (variable_before k past)
variable_before k (float l ss d ∷ past) = one_move variable_moves k (float l ss d) past move.noted refl (variable_notes (float l ss d ∷ past)) (variable_before k past)
variable_before k (essential l ss d ∷ past) = one_move variable_moves k (essential l ss d) past move.noted refl (variable_notes (essential l ss d ∷ past)) (variable_before k past)
variable_before k (asserted l ss d ∷ past) = one_move variable_moves k (asserted l ss d) past move.noted refl (variable_notes (asserted l ss d ∷ past)) (variable_before k past)
variable_before k (theorem l ss from to d ∷ past) = one_move variable_moves k (theorem l ss from to d) past move.noted refl (variable_notes (theorem l ss from to d ∷ past)) (variable_before k past)
variable_before k (distinct ss ∷ past) = no_move variable_moves k (distinct ss) past refl refl (variable_before k past)
variable_before k (opened p ∷ past) = one_move variable_moves k (opened p) past move.opened refl (variable_notes past) (variable_before k past)
variable_before k (closed ∷ past) = one_move variable_moves k (closed) past move.closed refl (variable_notes past) (variable_before k past)

pub variable_moments : (past : List Event) → length (layered (variable_moves past)).moments ≡ length (labels past)
variable_moments past = moments_are_noted (variable_moves past) ∙ variable_notes past

pub variable_then : (k : ℕ) (past : List Event) → k < length (labels past) → slice_get (layered (variable_moves past)).moments k ≡ Some (active_variables (past_before k past))
variable_then k past h = in_force_at k (variable_moves past) (subst (λ n. k < n) (sym (variable_notes past)) h) ∙ ap (λ ms. Some (in_force zero ms)) (variable_before k past)

-- each labelled statement is a moment
distinct_notes : (past : List Event) → notes (distinct_moves past) ≡ length (labels past)
unfolding notes distinct_moves labels
distinct_notes [] = refl
distinct_notes (constant t n ∷ past) = distinct_notes past
distinct_notes (variable t n ∷ past) = distinct_notes past
distinct_notes (float l ss d ∷ past) = ap suc (distinct_notes past) ∙ one_label l (labels past)
distinct_notes (essential l ss d ∷ past) = ap suc (distinct_notes past) ∙ one_label l (labels past)
distinct_notes (asserted l ss d ∷ past) = ap suc (distinct_notes past) ∙ one_label l (labels past)
distinct_notes (theorem l ss from to d ∷ past) = ap suc (distinct_notes past) ∙ one_label l (labels past)
distinct_notes (distinct ss ∷ past) = distinct_notes past
distinct_notes (opened p ∷ past) = distinct_notes past
distinct_notes (closed ∷ past) = distinct_notes past

distinct_before : (k : ℕ) (past : List Event) → before k (distinct_moves past) ≡ distinct_moves (past_before k past)
unfolding notes distinct_moves labels before past_before
distinct_before k [] = refl
distinct_before k (constant t n ∷ past) = no_move distinct_moves k (constant t n) past refl refl (distinct_before k past)
distinct_before k (variable t n ∷ past) = no_move distinct_moves k (variable t n) past refl refl (distinct_before k past)
distinct_before k (float l ss d ∷ past) = one_move distinct_moves k (float l ss d) past move.noted refl (distinct_notes (float l ss d ∷ past)) (distinct_before k past)
distinct_before k (essential l ss d ∷ past) = one_move distinct_moves k (essential l ss d) past move.noted refl (distinct_notes (essential l ss d ∷ past)) (distinct_before k past)
distinct_before k (asserted l ss d ∷ past) = one_move distinct_moves k (asserted l ss d) past move.noted refl (distinct_notes (asserted l ss d ∷ past)) (distinct_before k past)
distinct_before k (theorem l ss from to d ∷ past) = one_move distinct_moves k (theorem l ss from to d) past move.noted refl (distinct_notes (theorem l ss from to d ∷ past)) (distinct_before k past)
distinct_before k (distinct ss ∷ past) = one_move distinct_moves k (distinct ss) past (move.item (ss ∷ [])) refl (distinct_notes past) (distinct_before k past)
distinct_before k (opened p ∷ past) = one_move distinct_moves k (opened p) past move.opened refl (distinct_notes past) (distinct_before k past)
distinct_before k (closed ∷ past) = one_move distinct_moves k (closed) past move.closed refl (distinct_notes past) (distinct_before k past)

pub distinct_moments : (past : List Event) → length (layered (distinct_moves past)).moments ≡ length (labels past)
distinct_moments past = moments_are_noted (distinct_moves past) ∙ distinct_notes past

pub distinct_then : (k : ℕ) (past : List Event) → k < length (labels past) → slice_get (layered (distinct_moves past)).moments k ≡ Some (active_distinct (past_before k past))
distinct_then k past h = in_force_at k (distinct_moves past) (subst (λ n. k < n) (sym (distinct_notes past)) h) ∙ ap (λ ms. Some (in_force zero ms)) (distinct_before k past)

-- how many symbols were known before each statement
pub known_moments : (past : List Event) → length (knowns past) ≡ length (labels past)
unfolding knowns labels
known_moments [] = refl
known_moments (constant t n ∷ past) = known_moments past
known_moments (variable t n ∷ past) = known_moments past
known_moments (float l ss d ∷ past) = omega (arith, length-append (knowns past) (length (symbols past) ∷ []), length-append (labels past) (l ∷ []), known_moments past)
known_moments (essential l ss d ∷ past) = omega (arith, length-append (knowns past) (length (symbols past) ∷ []), length-append (labels past) (l ∷ []), known_moments past)
known_moments (asserted l ss d ∷ past) = omega (arith, length-append (knowns past) (length (symbols past) ∷ []), length-append (labels past) (l ∷ []), known_moments past)
known_moments (theorem l ss from to d ∷ past) = omega (arith, length-append (knowns past) (length (symbols past) ∷ []), length-append (labels past) (l ∷ []), known_moments past)
known_moments (distinct ss ∷ past) = known_moments past
known_moments (opened p ∷ past) = known_moments past
known_moments (closed ∷ past) = known_moments past

abbrev KnownThen : ℕ → List Event → Type 0
KnownThen k past = k < length (labels past) → slice_index (knowns past) k ≡ length (symbols (past_before k past))

known_same : (k : ℕ) (e : Event) (past : List Event) → labels (e ∷ past) ≡ labels past → knowns (e ∷ past) ≡ knowns past → KnownThen k past → KnownThen k (e ∷ past)
known_same k e past el ek then small =
    let earlier : k < length (labels past) = subst (λ ls. k < length ls) el small in
    ap (λ ks. slice_index ks k) ek ∙ then earlier ∙ ap (λ p. length (symbols p)) (sym (skip k e past small))

known_more : (k : ℕ) (e : Event) (past : List Event) → suc (length (labels past)) ≡ length (labels (e ∷ past)) → knowns (e ∷ past) ≡ knowns past ++ length (symbols past) ∷ []
    → KnownThen k past → KnownThen k (e ∷ past)
known_more k e past el ek then small =
    ap (λ ks. slice_index ks k) ek ∙ by (below_or k (length (labels past))) ∙ ap (λ p. length (symbols p)) (sym (skip k e past small))
  where
    by : (k < length (labels past)) ⊎ (length (labels past) ≤ k) → slice_index (knowns past ++ length (symbols past) ∷ []) k ≡ length (symbols (past_before k past))
    by (inl less) = get_or_append_left (knowns past) (length (symbols past) ∷ []) 0 k (omega (arith, less, known_moments past)) ∙ then less
    by (inr more) =
        let last : k ≡ length (knowns past) = omega (arith, more, small, el, known_moments past) in
        ap (slice_index (knowns past ++ length (symbols past) ∷ [])) last ∙ get_or-append_seam (knowns past) (length (symbols past)) [] 0
        ∙ ap (λ p. length (symbols p)) (sym (here k past more))

pub known_then : (k : ℕ) (past : List Event) → k < length (labels past) → slice_index (knowns past) k ≡ length (symbols (past_before k past))
unfolding knowns labels
known_then k [] small = absurd (omega (arith, small))
known_then k (constant t n ∷ past) small = known_same k (constant t n) past refl refl (known_then k past) small
known_then k (variable t n ∷ past) small = known_same k (variable t n) past refl refl (known_then k past) small
known_then k (float l ss d ∷ past) small = known_more k (float l ss d) past (one_label l (labels past)) refl (known_then k past) small
known_then k (essential l ss d ∷ past) small = known_more k (essential l ss d) past (one_label l (labels past)) refl (known_then k past) small
known_then k (asserted l ss d ∷ past) small = known_more k (asserted l ss d) past (one_label l (labels past)) refl (known_then k past) small
known_then k (theorem l ss from to d ∷ past) small = known_more k (theorem l ss from to d) past (one_label l (labels past)) refl (known_then k past) small
known_then k (distinct ss ∷ past) small = known_same k (distinct ss) past refl refl (known_then k past) small
known_then k (opened p ∷ past) small = known_same k (opened p) past refl refl (known_then k past) small
known_then k (closed ∷ past) small = known_same k (closed) past refl refl (known_then k past) small
