-- The active `$f` of a database have variables that differ, and so have the mandatory ones of each assertion.
use Rattle.std.proofs.Common.{◌≡◌, ◌<◌, ℕ, zero, suc, Bool, true, false, cond, ◌||◌, List, [], ◌∷◌, ◌++◌, Option, None, Some, All, length, get_or, slice_index, nat_eq, filter, filter_map, refl, sym, ap, ◌∙◌, subst, arith, length-append, append-nil, ◌≤◌}
use Rattle.std.proofs.Math.Seq.{get_or-append_seam}
use Rattle.std.proofs.lemmas.Bool.{or_from, or_parts, false_from_ne_true}
use Rattle.std.proofs.lemmas.List.{get_or_append_left}
use Rattle.std.proofs.lemmas.List.Elements.{All-push, All-nil, filter_map-append}
use Rattle.std.proofs.lemmas.List.Folds.{list_any-append}
use Rattle.std.proofs.lemmas.Option.{slice_get-get_or}
use Rattle.std.specs.List.{list_any, cons_option}
use Rattle.mm_tables.specs.Moves.{in_force}
use Rattle.mm_stated.specs.Mandatory.{statement_at, variables_of, an_assertion, mandatory_of, symbols_with, is_mandatory}
use Rattle.mm_stated.specs.Stated.{Stated, no_statement, a_hypothesis, variable_of}
use Rattle.mm_stated.specs.declared.statement.Kind.{Kind}
use Rattle.mm_stated.specs.declared.statement.Kind.TheVariants as kind
use Rattle.mm_tokens.specs.declared.pieces.Span.{Span}
use Rattle.mm_scope.specs.Events.{Event, constant, variable, float, essential, asserted, theorem, distinct, opened, closed, labels, statements, hypothesis_moves, active_hypotheses, active_distinct}
use Rattle.mm_scope.specs.Looks.{moves, is_floated_of}
use Rattle.mm_scope.specs.declared.ending.Ending.{Ending}
use Rattle.mm_scope.specs.declared.ending.Ending.TheVariants.{Active, Floated}
use Rattle.mm_grammar.specs.Rules.{HasFloat, FollowsRules}
use Rattle.mm_grammar.proofs.Scoping.{has_float}

-- no number stands twice
abbrev pub AreSingle : List ℕ → Type 0
AreSingle [] = Unit {0}
AreSingle (n ∷ ns) = (list_any (nat_eq n) ns ≡ false) × AreSingle ns

swapped : (m n : ℕ) → nat_eq m n ≡ false → nat_eq n m ≡ false
swapped m n h = grind (arith, h)

none_pushed : (n m : ℕ) (ns : List ℕ) → list_any (nat_eq n) ns ≡ false → nat_eq n m ≡ false → list_any (nat_eq n) (ns ++ m ∷ []) ≡ false
none_pushed n m ns h g = list_any-append (nat_eq n) ns (m ∷ []) ∙ or_from (list_any (nat_eq n) ns) (nat_eq n m || false) h (or_from (nat_eq n m) false g refl)

single_pushed : (ns : List ℕ) (m : ℕ) → AreSingle ns → list_any (nat_eq m) ns ≡ false → AreSingle (ns ++ m ∷ [])
single_pushed [] m s new = (refl, tt)
single_pushed (n ∷ ns) m s new =
    let w = or_parts (nat_eq m n) (list_any (nat_eq m) ns) new in
    (none_pushed n m ns s.0 (swapped m n w.0), single_pushed ns m s.1 w.1)

-- the variables of the `$f` among what ends with blocks
abbrev floated : Ending → Option ℕ
floated (Active n) = None
floated (Floated n) = Some n

abbrev floats : List Ending → List ℕ
floats es = filter_map floated es

same_any : (n : ℕ) (es : List Ending) → list_any (nat_eq n) (floats es) ≡ list_any (is_floated_of n) es
same_any n [] = refl
same_any n (Active m ∷ es) = same_any n es
same_any n (Floated m ∷ es) = ap (λ b. nat_eq n m || b) (same_any n es)

no_float : (past : List Event) (n : ℕ) → ¬ HasFloat past n → list_any (nat_eq n) (floats (in_force zero (moves past))) ≡ false
no_float past n free =
    same_any n (in_force zero (moves past)) ∙ false_from_ne_true (list_any (is_floated_of n) (in_force zero (moves past))) (λ e. free (has_float past n e))

-- where any number of closed blocks is left, the active `$f` have different variables
floats_single : (past : List Event) (k : ℕ) → FollowsRules past → AreSingle (floats (in_force k (moves past)))
unfolding moves in_force
floats_single [] k r = tt
floats_single (variable t m ∷ past) zero r =
    subst AreSingle (sym (filter_map-append floated (in_force zero (moves past)) (Active m ∷ []) ∙ append-nil (floats (in_force zero (moves past))))) (floats_single past zero r.1)
floats_single (variable t m ∷ past) (suc k) r = floats_single past (suc k) r.1
floats_single (float l ss d ∷ past) zero r =
    subst AreSingle (sym (filter_map-append floated (in_force zero (moves past)) (Floated (slice_index ss 1) ∷ [])))
    (single_pushed (floats (in_force zero (moves past))) (slice_index ss 1) (floats_single past zero r.1) (no_float past (slice_index ss 1) r.0.1.free))
floats_single (float l ss d ∷ past) (suc k) r = floats_single past (suc k) r.1
floats_single (opened p ∷ past) zero r = floats_single past zero r.1
floats_single (opened p ∷ past) (suc k) r = floats_single past k r.1
floats_single (closed ∷ past) k r = floats_single past (suc k) r.1
floats_single (constant t m ∷ past) k r = floats_single past k r.1
floats_single (essential l ss d ∷ past) k r = floats_single past k r.1
floats_single (asserted l ss d ∷ past) k r = floats_single past k r.1
floats_single (theorem l ss from to d ∷ past) k r = floats_single past k r.1
floats_single (distinct ss ∷ past) k r = floats_single past k r.1

-- each statement has a label
abbrev asserting : List Event → Kind → List ℕ → ℕ → ℕ → Option Span → Stated
asserting past k ss from to d = an_assertion (statements past) (active_hypotheses past) (active_distinct past) k ss from to d

one_more_each : {A B : Type 0} (xs : List A) (x : A) (ys : List B) (y : B) → length xs ≡ length ys → length (xs ++ x ∷ []) ≡ length (ys ++ y ∷ [])
one_more_each xs x ys y e = omega (arith, e, length-append xs (x ∷ []), length-append ys (y ∷ []))

pub as_many : (past : List Event) → length (statements past) ≡ length (labels past)
unfolding statements labels
as_many [] = refl
as_many (float l ss d ∷ past) = one_more_each (statements past) (a_hypothesis kind.Float ss d) (labels past) l (as_many past)
as_many (essential l ss d ∷ past) = one_more_each (statements past) (a_hypothesis kind.Essential ss d) (labels past) l (as_many past)
as_many (asserted l ss d ∷ past) = one_more_each (statements past) (asserting past kind.Axiom ss 0 0 d) (labels past) l (as_many past)
as_many (theorem l ss from to d ∷ past) = one_more_each (statements past) (asserting past kind.Theorem ss from to d) (labels past) l (as_many past)
as_many (constant t n ∷ past) = as_many past
as_many (variable t n ∷ past) = as_many past
as_many (distinct ss ∷ past) = as_many past
as_many (opened p ∷ past) = as_many past
as_many (closed ∷ past) = as_many past

-- ids of so many statements
abbrev pub AreBelow : ℕ → List ℕ → Type 0
AreBelow n [] = Unit {0}
AreBelow n (id ∷ ids) = (id < n) × AreBelow n ids

below_more : (n m : ℕ) (ids : List ℕ) → n ≤ m → AreBelow n ids → AreBelow m ids
below_more n m [] less h = tt
below_more n m (id ∷ ids) less h = (omega (arith, less, h.0), below_more n m ids less h.1)

below_pushed : (n : ℕ) (ids : List ℕ) (id : ℕ) → AreBelow n ids → id < n → AreBelow n (ids ++ id ∷ [])
below_pushed n [] id h small = (small, tt)
below_pushed n (x ∷ xs) id h small = (h.0, below_pushed n xs id h.1 small)

below_filtered : (n : ℕ) (test : ℕ → Bool) (ids : List ℕ) → AreBelow n ids → AreBelow n (filter test ids)
below_filtered n test [] h = tt
below_filtered n test (id ∷ ids) h = by (test id) (below_filtered n test ids h.1)
  where
    by : (b : Bool) → AreBelow n (filter test ids) → AreBelow n (cond b (id ∷ filter test ids) (filter test ids))
    by true later = (h.0, later)
    by false later = later

no_fewer : (ls : List (List ℕ)) (l : List ℕ) → length ls ≤ length (ls ++ l ∷ [])
no_fewer ls l = omega (arith, length-append ls (l ∷ []))

-- the active hypotheses are earlier statements, where any number of closed blocks is left
below_longer : (ls : List (List ℕ)) (l : List ℕ) (ids : List ℕ) → AreBelow (length ls) ids → AreBelow (length (ls ++ l ∷ [])) ids
below_longer ls l ids h = below_more (length ls) (length (ls ++ l ∷ [])) ids (no_fewer ls l) h

below_one_more : (ls : List (List ℕ)) (l : List ℕ) (ids : List ℕ) → AreBelow (length ls) ids → AreBelow (length (ls ++ l ∷ [])) (ids ++ length ls ∷ [])
below_one_more ls l ids h = below_pushed (length (ls ++ l ∷ [])) ids (length ls) (below_longer ls l ids h) (omega (arith, length-append ls (l ∷ [])))

hypotheses_below : (past : List Event) (k : ℕ) → AreBelow (length (labels past)) (in_force k (hypothesis_moves past))
unfolding hypothesis_moves in_force labels
hypotheses_below [] k = tt
hypotheses_below (float l ss d ∷ past) zero = below_one_more (labels past) l (in_force zero (hypothesis_moves past)) (hypotheses_below past zero)
hypotheses_below (float l ss d ∷ past) (suc k) = below_longer (labels past) l (in_force (suc k) (hypothesis_moves past)) (hypotheses_below past (suc k))
hypotheses_below (essential l ss d ∷ past) zero = below_one_more (labels past) l (in_force zero (hypothesis_moves past)) (hypotheses_below past zero)
hypotheses_below (essential l ss d ∷ past) (suc k) = below_longer (labels past) l (in_force (suc k) (hypothesis_moves past)) (hypotheses_below past (suc k))
hypotheses_below (asserted l ss d ∷ past) k = below_longer (labels past) l (in_force k (hypothesis_moves past)) (hypotheses_below past k)
hypotheses_below (theorem l ss from to d ∷ past) k = below_longer (labels past) l (in_force k (hypothesis_moves past)) (hypotheses_below past k)
hypotheses_below (opened p ∷ past) zero = hypotheses_below past zero
hypotheses_below (opened p ∷ past) (suc k) = hypotheses_below past k
hypotheses_below (closed ∷ past) k = hypotheses_below past (suc k)
hypotheses_below (constant t m ∷ past) k = hypotheses_below past k
hypotheses_below (variable t m ∷ past) k = hypotheses_below past k
hypotheses_below (distinct ss ∷ past) k = hypotheses_below past k

-- one statement more leaves the variables of earlier ones
variables_stay : (xs : List Stated) (s : Stated) (ids : List ℕ) → AreBelow (length xs) ids → variables_of (xs ++ s ∷ []) ids ≡ variables_of xs ids
unfolding variables_of
variables_stay xs s [] h = refl
variables_stay xs s (id ∷ ids) h =
    ap (λ x. cons_option (variable_of x) (variables_of (xs ++ s ∷ []) ids)) (get_or_append_left xs (s ∷ []) no_statement id h.0)
    ∙ ap (cons_option (variable_of (statement_at xs id))) (variables_stay xs s ids h.1)

variables_pushed : (xs : List Stated) (s : Stated) (ids : List ℕ) (n : ℕ) → length xs ≡ n → AreBelow (length xs) ids
    → variables_of (xs ++ s ∷ []) (ids ++ n ∷ []) ≡ variables_of xs ids ++ cons_option (variable_of s) []
unfolding variables_of
variables_pushed xs s ids n e h =
    filter_map-append (λ id. variable_of (statement_at (xs ++ s ∷ []) id)) ids (n ∷ [])
    ∙ ap (λ vs. vs ++ cons_option (variable_of (statement_at (xs ++ s ∷ []) n)) []) (variables_stay xs s ids h)
    ∙ ap (λ x. variables_of xs ids ++ cons_option (variable_of x) []) (ap (λ k. get_or (xs ++ s ∷ []) k no_statement) (sym e) ∙ get_or-append_seam xs s [] no_statement)

-- the variables of the active `$f` are those of the active hypotheses
module _ (past : List Event) (s : Stated) (k : ℕ) where
  below : AreBelow (length (statements past)) (in_force k (hypothesis_moves past))
  below = subst (λ n. AreBelow n (in_force k (hypothesis_moves past))) (sym (as_many past)) (hypotheses_below past k)

  as_before : floats (in_force k (moves past)) ≡ variables_of (statements past) (in_force k (hypothesis_moves past))
      → floats (in_force k (moves past)) ≡ variables_of (statements past ++ s ∷ []) (in_force k (hypothesis_moves past))
  as_before e = e ∙ sym (variables_stay (statements past) s (in_force k (hypothesis_moves past)) below)

  one_pushed : floats (in_force k (moves past)) ≡ variables_of (statements past) (in_force k (hypothesis_moves past))
      → floats (in_force k (moves past)) ++ cons_option (variable_of s) [] ≡ variables_of (statements past ++ s ∷ []) (in_force k (hypothesis_moves past) ++ length (labels past) ∷ [])
  one_pushed e =
      ap (λ vs. vs ++ cons_option (variable_of s) []) e
      ∙ sym (variables_pushed (statements past) s (in_force k (hypothesis_moves past)) (length (labels past)) (as_many past) below)

floats_are : (past : List Event) (k : ℕ) → FollowsRules past → floats (in_force k (moves past)) ≡ variables_of (statements past) (in_force k (hypothesis_moves past))
unfolding moves in_force hypothesis_moves statements variables_of
floats_are [] k r = refl
floats_are (variable t m ∷ past) zero r =
    filter_map-append floated (in_force zero (moves past)) (Active m ∷ []) ∙ append-nil (floats (in_force zero (moves past))) ∙ floats_are past zero r.1
floats_are (variable t m ∷ past) (suc k) r = floats_are past (suc k) r.1
floats_are (float l ss d ∷ past) zero r =
    filter_map-append floated (in_force zero (moves past)) (Floated (slice_index ss 1) ∷ [])
    ∙ ap (λ v. floats (in_force zero (moves past)) ++ cons_option v []) (sym (slice_get-get_or ss 1 0 (omega (arith, r.0.1.two))))
    ∙ one_pushed past (a_hypothesis kind.Float ss d) zero (floats_are past zero r.1)
floats_are (float l ss d ∷ past) (suc k) r = as_before past (a_hypothesis kind.Float ss d) (suc k) (floats_are past (suc k) r.1)
floats_are (essential l ss d ∷ past) zero r =
    sym (append-nil (floats (in_force zero (moves past)))) ∙ one_pushed past (a_hypothesis kind.Essential ss d) zero (floats_are past zero r.1)
floats_are (essential l ss d ∷ past) (suc k) r = as_before past (a_hypothesis kind.Essential ss d) (suc k) (floats_are past (suc k) r.1)
floats_are (asserted l ss d ∷ past) k r = as_before past (asserting past kind.Axiom ss 0 0 d) k (floats_are past k r.1)
floats_are (theorem l ss from to d ∷ past) k r = as_before past (asserting past kind.Theorem ss from to d) k (floats_are past k r.1)
floats_are (opened p ∷ past) zero r = floats_are past zero r.1
floats_are (opened p ∷ past) (suc k) r = floats_are past k r.1
floats_are (closed ∷ past) k r = floats_are past (suc k) r.1
floats_are (constant t m ∷ past) k r = floats_are past k r.1
floats_are (distinct ss ∷ past) k r = floats_are past k r.1

-- fewer ids have fewer variables
any_kept : (n : ℕ) (r : Option ℕ) (xs ys : List ℕ) → list_any (nat_eq n) (cons_option r xs) ≡ false → (list_any (nat_eq n) xs ≡ false → list_any (nat_eq n) ys ≡ false)
    → list_any (nat_eq n) (cons_option r ys) ≡ false
any_kept n None xs ys h later = later h
any_kept n (Some m) xs ys h later = let w = or_parts (nat_eq n m) (list_any (nat_eq n) xs) h in or_from (nat_eq n m) (list_any (nat_eq n) ys) w.0 (later w.1)

any_left : (n : ℕ) (r : Option ℕ) (xs : List ℕ) → list_any (nat_eq n) (cons_option r xs) ≡ false → list_any (nat_eq n) xs ≡ false
any_left n None xs h = h
any_left n (Some m) xs h = (or_parts (nat_eq n m) (list_any (nat_eq n) xs) h).1

single_left : (r : Option ℕ) (xs : List ℕ) → AreSingle (cons_option r xs) → AreSingle xs
single_left None xs h = h
single_left (Some m) xs h = h.1

single_kept : (r : Option ℕ) (xs ys : List ℕ) → AreSingle (cons_option r xs) → ((n : ℕ) → list_any (nat_eq n) xs ≡ false → list_any (nat_eq n) ys ≡ false)
    → (AreSingle xs → AreSingle ys) → AreSingle (cons_option r ys)
single_kept None xs ys h any later = later h
single_kept (Some m) xs ys h any later = (any m h.0, later h.1)

module _ (f : ℕ → Option ℕ) (test : ℕ → Bool) where
  any_filtered : (n : ℕ) (ids : List ℕ) → list_any (nat_eq n) (filter_map f ids) ≡ false → list_any (nat_eq n) (filter_map f (filter test ids)) ≡ false
  any_filtered n [] h = h
  any_filtered n (id ∷ ids) h = by (test id) (any_filtered n ids)
    where
      by : (b : Bool) → (list_any (nat_eq n) (filter_map f ids) ≡ false → list_any (nat_eq n) (filter_map f (filter test ids)) ≡ false)
          → list_any (nat_eq n) (filter_map f (cond b (id ∷ filter test ids) (filter test ids))) ≡ false
      by true later = any_kept n (f id) (filter_map f ids) (filter_map f (filter test ids)) h later
      by false later = later (any_left n (f id) (filter_map f ids) h)

  single_filtered : (ids : List ℕ) → AreSingle (filter_map f ids) → AreSingle (filter_map f (filter test ids))
  single_filtered [] h = h
  single_filtered (id ∷ ids) h = by (test id) (single_filtered ids)
    where
      by : (b : Bool) → (AreSingle (filter_map f ids) → AreSingle (filter_map f (filter test ids))) → AreSingle (filter_map f (cond b (id ∷ filter test ids) (filter test ids)))
      by true later = single_kept (f id) (filter_map f ids) (filter_map f (filter test ids)) h (λ n. any_filtered n ids) later
      by false later = later (single_left (f id) (filter_map f ids) h)

-- the mandatory `$f` of a statement, among these statements, have different variables
pub record HasSingle (xs : List Stated) (s : Stated) : Type 0 where
  pub below : AreBelow (length xs) s.mandatory
  pub single : AreSingle (variables_of xs s.mandatory)

single_longer : (xs : List Stated) (t s : Stated) → HasSingle xs s → HasSingle (xs ++ t ∷ []) s
single_longer xs t s h = record {
  below = below_more (length xs) (length (xs ++ t ∷ [])) s.mandatory (omega (arith, length-append xs (t ∷ []))) h.below;
  single = subst AreSingle (sym (variables_stay xs t s.mandatory h.below)) h.single;
}

single_hypothesis : (xs : List Stated) (s : Stated) → s.mandatory ≡ [] → HasSingle xs s
unfolding variables_of
single_hypothesis xs s e = record { below = subst (AreBelow (length xs)) (sym e) tt; single = subst (λ ids. AreSingle (variables_of xs ids)) (sym e) tt }

single_assertion : (past : List Event) (k : Kind) (ss : List ℕ) (from to : ℕ) (d : Option Span) → FollowsRules past → HasSingle (statements past) (asserting past k ss from to d)
unfolding mandatory_of variables_of
single_assertion past k ss from to d r =
    let xs : List Stated = statements past in
    let ids : List ℕ = active_hypotheses past in
    let test : ℕ → Bool = λ id. is_mandatory (symbols_with xs ids ss) (statement_at xs id) in
    record {
      below = below_filtered (length xs) test ids (subst (λ n. AreBelow n ids) (sym (as_many past)) (hypotheses_below past zero));
      single = single_filtered (λ id. variable_of (statement_at xs id)) test ids (subst AreSingle (floats_are past zero r) (floats_single past zero r));
    }

all_longer : (xs : List Stated) (t : Stated) → All (HasSingle xs) xs → HasSingle xs t → All (HasSingle (xs ++ t ∷ [])) (xs ++ t ∷ [])
all_longer xs t all one = All-push (HasSingle (xs ++ t ∷ [])) xs t (λ k d small. single_longer xs t _ (all k d small)) (single_longer xs t t one)

pub all_single : (past : List Event) → FollowsRules past → All (HasSingle (statements past)) (statements past)
unfolding statements
all_single [] r = All-nil _
all_single (float l ss d ∷ past) r = all_longer (statements past) (a_hypothesis kind.Float ss d) (all_single past r.1) (single_hypothesis (statements past) (a_hypothesis kind.Float ss d) refl)
all_single (essential l ss d ∷ past) r = all_longer (statements past) (a_hypothesis kind.Essential ss d) (all_single past r.1) (single_hypothesis (statements past) (a_hypothesis kind.Essential ss d) refl)
all_single (asserted l ss d ∷ past) r = all_longer (statements past) (asserting past kind.Axiom ss 0 0 d) (all_single past r.1) (single_assertion past kind.Axiom ss 0 0 d r.1)
all_single (theorem l ss from to d ∷ past) r = all_longer (statements past) (asserting past kind.Theorem ss from to d) (all_single past r.1) (single_assertion past kind.Theorem ss from to d r.1)
all_single (constant t n ∷ past) r = all_single past r.1
all_single (variable t n ∷ past) r = all_single past r.1
all_single (distinct ss ∷ past) r = all_single past r.1
all_single (opened p ∷ past) r = all_single past r.1
all_single (closed ∷ past) r = all_single past r.1
