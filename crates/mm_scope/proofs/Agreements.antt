-- The tables hold what looking back finds, after each event that declares or states something.
use Rattle.std.proofs.Common.{◌≡◌, ℕ, zero, suc, ◌+◌, ◌<◌, Bool, true, false, cond, not, ◌||◌, List, [], ◌∷◌, ◌++◌, Option, None, Some, length, position, slice_index, refl, sym, ap, ◌∙◌, subst, arith, nat_eq, nat_lt, length-append}
use Rattle.std.proofs.Math.ListN.{length-set}
use Rattle.std.proofs.lemmas.Bool.{eqb-true, false≢true, true≢false}
use Rattle.std.proofs.lemmas.List.Quantifiers.{position-Some}
use Rattle.std.proofs.lemmas.List.Folds.{list_any_at}
use Rattle.std.specs.List.{list_any, position_or_len}
use Rattle.std.specs.Option.{is_some}
use Rattle.std.specs.Str.{bytes_eq}
use Rattle.mm_scope.specs.Contexts.{Context, add_to, activated, with_float}
use Rattle.mm_tables.specs.Standings.{Standings}
use Rattle.mm_tables.specs.Tables.{nothing, with_symbol, with_state, standing_at}
use Rattle.mm_scope.specs.Events.{Event, constant, variable, float, essential, asserted, theorem, distinct, symbols, labels, statements, active_hypotheses, active_distinct, open_blocks}
use Rattle.mm_scope.specs.Looks.{known_as, moves, constants, is_active_of, is_floated_of}
use Rattle.mm_tables.specs.Layered.{Layered, pushed}
use Rattle.mm_tables.specs.Moves.{in_force}
use Rattle.mm_scope.specs.Moves.{stack, IsBalanced}
use Rattle.mm_tokens.specs.declared.pieces.Span.{Span}
use Rattle.mm_stated.specs.Mandatory.{an_assertion_with, an_assertion, mandatory_of}
use Rattle.mm_stated.specs.Needed.{needed_by}
use Rattle.mm_stated.specs.Stated.{Stated, a_hypothesis}
use Rattle.mm_stated.specs.declared.statement.Kind.{Kind}
use Rattle.mm_stated.specs.declared.statement.Kind.TheVariants as kind
use Rattle.mm_tables.specs.declared.table.Standing.{Standing}
use Rattle.mm_scope.specs.declared.ending.Ending.TheVariants.{Active, Floated}
use Rattle.mm_scope.proofs.Floats.{last_float}
use Rattle.mm_scope.proofs.LookBack.{holds}
use Rattle.mm_scope.proofs.Stacks.{once_pushed}
use Rattle.mm_scope.proofs.Declared.{Sets, sets_state, sets_symbol, nothing_past, or_comm, or_false, flag_on, flag_kept, any_pushed}
use Rattle.mm_scope.proofs.Simulation.{Agrees}

-- a text that is not there
first_below : (n : ℕ) → nat_lt 0 (suc n) ≡ true
first_below n = grind arith

one_more : (n m : ℕ) → nat_lt (1 + n) (suc m) ≡ nat_lt n m
one_more n m = grind arith

by_head : (b : Bool) (k n : ℕ) (later : Bool) → nat_lt k n ≡ later → nat_lt (cond (not b) (1 + k) 0) (suc n) ≡ (b || later)
by_head true k n later h = first_below n
by_head false k n later h = one_more k n ∙ h

found_any : {A : Type 0} (p : A → Bool) (xs : List A) → nat_lt (position_or_len p xs) (length xs) ≡ list_any p xs
found_any p [] = refl
found_any p (x ∷ xs) = by_head (p x) (position_or_len p xs) (length xs) (list_any p xs) (found_any p xs)

none_found : (b : Bool) (n : ℕ) → cond b (Some n) None ≡ None → b ≡ false
none_found true n h = absurd (true≢false (ap is_some h))
none_found false n h = refl

pub not_there : {A : Type 0} (p : A → Bool) (xs : List A) → position p xs ≡ None → list_any p xs ≡ false
not_there p xs h = sym (found_any p xs) ∙ none_found (nat_lt (position_or_len p xs) (length xs)) (position_or_len p xs) h

pub is_there : (t : List ℕ) (xs : List (List ℕ)) (n : ℕ) → position (bytes_eq t) xs ≡ Some n → (n < length xs) × (list_any (bytes_eq t) xs ≡ true)
is_there t xs n h =
    let found = position-Some (bytes_eq t) xs n [] h in
    (found.0, list_any_at (bytes_eq t) xs n [] found.0 found.1)

-- a text at the end, and one that is there
added : (x : List ℕ) (xs ys : List (List ℕ)) → xs ≡ ys → list_any (bytes_eq x) ys ≡ false
    → (xs ++ x ∷ []) ≡ cond (list_any (bytes_eq x) ys) ys (ys ++ x ∷ [])
added x xs ys e fresh = ap (λ l. l ++ x ∷ []) e ∙ ap (λ b. cond b ys (ys ++ x ∷ [])) (sym fresh)

new_label : (l : List ℕ) (xs ys : List (List ℕ)) → xs ≡ ys → list_any (bytes_eq l) ys ≡ false
    → cond (list_any (bytes_eq l) xs) xs (xs ++ l ∷ []) ≡ ys ++ l ∷ []
new_label l xs ys e fresh = ap (λ ls. cond (list_any (bytes_eq l) ls) ls (ls ++ l ∷ [])) e ∙ ap (λ b. cond b ys (ys ++ l ∷ [])) fresh

new_sets : (t : Standings) (x : List ℕ) (s : Standing) (n : ℕ) → length t.standings ≡ n → Sets t (with_symbol t x s) n s
new_sets t x s n e = subst (λ m. Sets t (with_symbol t x s) m s) e (sets_symbol t x s)

new_nothing : (t : Standings) (n : ℕ) → length t.standings ≡ n → standing_at t n ≡ nothing
new_nothing t n e = subst (λ m. standing_at t m ≡ nothing) e (nothing_past t)

new_sizes : (t : Standings) (x : List ℕ) (s : Standing) → length t.standings ≡ length t.texts → length (t.standings ++ s ∷ []) ≡ length (t.texts ++ x ∷ [])
new_sizes t x s e = omega (arith, e, length-append t.standings (s ∷ []), length-append t.texts (x ∷ []))

-- a constant
pub agrees_constant : (past : List Event) (c : Context) (t : List ℕ) (n : ℕ) → length c.table.standings ≡ n → list_any (bytes_eq t) (symbols past) ≡ false
    → Agrees past c → Agrees (constant t n ∷ past) (add_to c (constant t n))
unfolding add_to symbols labels statements constants moves open_blocks last_float
agrees_constant past c t n e fresh a =
    let s : Standing = record { constant = true; active = false; floated = false; float = 0 } in
    let u : Standings = with_symbol c.table t s in
    let sets : Sets c.table u n s = new_sets c.table t s n e in
    record {
      texts = added t c.table.texts (symbols past) a.texts fresh;
      sizes = new_sizes c.table t s a.sizes;
      labelled = a.labelled;
      constant_flags = λ k. flag_on (λ x. x.constant) c.table u n s sets refl k (list_any (nat_eq k) (constants past)) (a.constant_flags k) ∙ or_comm (list_any (nat_eq k) (constants past)) (nat_eq k n);
      active_flags = λ k. flag_kept (λ x. x.active) c.table u n s sets (ap (λ x. x.active) (sym (new_nothing c.table n e))) k ∙ a.active_flags k;
      floated_flags = λ k. flag_kept (λ x. x.floated) c.table u n s sets (ap (λ x. x.floated) (sym (new_nothing c.table n e))) k ∙ a.floated_flags k;
      float_ids = λ k. flag_kept (λ x. x.float) c.table u n s sets (ap (λ x. x.float) (sym (new_nothing c.table n e))) k ∙ a.float_ids k;
      once_active = a.once_active;
      once_floated = a.once_floated;
      endings = a.endings;
      marks = a.marks;
      balanced = a.balanced;
      places = a.places;
      stated = a.stated;
    }

at_same : (get : Standing → Bool) (t : Standings) (k n : ℕ) → nat_eq k n ≡ true → get (standing_at t n) ≡ false → get (standing_at t k) ≡ false
at_same get t k n same off = ap (λ j. get (standing_at t j)) (eqb-true k n same) ∙ off

-- a variable, whatever the table was
agrees_active : (past : List Event) (c : Context) (t : List ℕ) (n : ℕ) (u : Standings) (s : Standing) → Sets c.table u n s
    → u.texts ≡ symbols (variable t n ∷ past) → length u.standings ≡ length u.texts → s.active ≡ true → s.constant ≡ (standing_at c.table n).constant
    → s.floated ≡ (standing_at c.table n).floated → s.float ≡ (standing_at c.table n).float → (standing_at c.table n).active ≡ false → Agrees past c
    → (v : Layered ℕ) → Agrees (variable t n ∷ past) (record c { table = u; endings = c.endings ++ Active n ∷ []; variables = v })
unfolding labels statements constants moves stack IsBalanced open_blocks last_float
agrees_active past c t n u s sets texts sizes on same_constant same_floated same_float off a v = record {
  texts = texts;
  sizes = sizes;
  labelled = a.labelled;
  constant_flags = λ k. flag_kept (λ x. x.constant) c.table u n s sets same_constant k ∙ a.constant_flags k;
  active_flags = λ k. flag_on (λ x. x.active) c.table u n s sets on k (list_any (is_active_of k) c.endings) (a.active_flags k) ∙ sym (any_pushed (is_active_of k) c.endings (Active n));
  floated_flags = λ k. flag_kept (λ x. x.floated) c.table u n s sets same_floated k ∙ a.floated_flags k
      ∙ sym (or_false (list_any (is_floated_of k) c.endings)) ∙ sym (any_pushed (is_floated_of k) c.endings (Active n));
  float_ids = λ k. flag_kept (λ x. x.float) c.table u n s sets same_float k ∙ a.float_ids k;
  once_active = λ k. once_pushed (is_active_of k) c.endings (Active n) (a.once_active k) (λ same. sym (a.active_flags k) ∙ at_same (λ x. x.active) c.table k n same off);
  once_floated = λ k. once_pushed (is_floated_of k) c.endings (Active n) (a.once_floated k) (λ same. absurd (false≢true same));
  endings = ap (λ es. es ++ Active n ∷ []) a.endings;
  marks = a.marks;
  balanced = a.balanced;
  places = a.places;
  stated = a.stated;
}

new_shape : (c : Context) (t : List ℕ) (m n : ℕ) → position (bytes_eq t) c.table.texts ≡ None → length c.table.texts ≡ n
    → add_to c (variable t m) ≡ record c { table = with_symbol c.table t (activated nothing); endings = c.endings ++ Active n ∷ []; variables = pushed c.variables (m ∷ []) }
unfolding add_to
new_shape c t m n e len = rw (e, len) refl

again_shape : (c : Context) (t : List ℕ) (m n : ℕ) → position (bytes_eq t) c.table.texts ≡ Some n
    → add_to c (variable t m) ≡ record c { table = with_state c.table n (activated (standing_at c.table n)); endings = c.endings ++ Active n ∷ []; variables = pushed c.variables (m ∷ []) }
unfolding add_to
again_shape c t m n e = rw e refl

forced : (past : List Event) (c : Context) → Agrees past c → c.endings ≡ in_force zero (moves past)
forced past c a = a.endings ∙ (holds (moves past) a.balanced).now

pub agrees_variable : (past : List Event) (c : Context) (t : List ℕ) (r : Option ℕ) → position (bytes_eq t) (symbols past) ≡ r → (known_as past t r).active ≡ false
    → Agrees past c → Agrees (variable t (known_as past t r).number ∷ past) (add_to c (variable t (known_as past t r).number))
unfolding symbols
agrees_variable past c t None e off a =
    let n : ℕ = length (symbols past) in
    let s : Standing = activated nothing in
    let len : length c.table.standings ≡ n = a.sizes ∙ ap length a.texts in
    let none = new_nothing c.table n len in
    subst (Agrees (variable t n ∷ past)) (sym (new_shape c t n n (ap (position (bytes_eq t)) a.texts ∙ e) (ap length a.texts)))
    (agrees_active past c t n (with_symbol c.table t s) s (new_sets c.table t s n len) (added t c.table.texts (symbols past) a.texts (not_there (bytes_eq t) (symbols past) e))
    (new_sizes c.table t s a.sizes) refl (ap (λ x. x.constant) (sym none)) (ap (λ x. x.floated) (sym none)) (ap (λ x. x.float) (sym none)) (ap (λ x. x.active) none) a (pushed c.variables (n ∷ [])))
agrees_variable past c t (Some n) e off a =
    let s : Standing = activated (standing_at c.table n) in
    let found = is_there t (symbols past) n e in
    let small : n < length c.table.standings = omega (arith, found.0, a.sizes, ap length a.texts) in
    subst (Agrees (variable t n ∷ past)) (sym (again_shape c t n n (ap (position (bytes_eq t)) a.texts ∙ e)))
    (agrees_active past c t n (with_state c.table n s) s (sets_state c.table n s small) (a.texts ∙ ap (λ b. cond b (symbols past) (symbols past ++ t ∷ [])) (sym found.1))
    (length-set c.table.standings n s ∙ a.sizes) refl refl refl refl (a.active_flags n ∙ ap (list_any (is_active_of n)) (forced past c a) ∙ off) a (pushed c.variables (n ∷ [])))

-- the variable of a `$f` has none yet
abbrev pub IsReady : List Event → ℕ → Type 0
IsReady past v = (v < length (symbols past)) × (list_any (is_floated_of v) (in_force zero (moves past)) ≡ false)

pub ready_as : (past : List Event) (t : List ℕ) (r : Option ℕ) → position (bytes_eq t) (symbols past) ≡ r → (known_as past t r).active ≡ true → (known_as past t r).floated ≡ false
    → IsReady past (known_as past t r).number
ready_as past t None e on off = absurd (false≢true on)
ready_as past t (Some n) e on off = ((is_there t (symbols past) n e).0, off)

one_float : (b : Bool) (s t : Standing) (m n : ℕ) → s.float ≡ m → t.float ≡ n → (cond b s t).float ≡ cond b m n
one_float true s t m n e f = e
one_float false s t m n e f = f

pub agrees_float : (past : List Event) (c : Context) (l ss : List ℕ) (d : Option Span) → list_any (bytes_eq l) (labels past) ≡ false → IsReady past (slice_index ss 1)
    → Agrees past c → Agrees (float l ss d ∷ past) (add_to c (float l ss d))
unfolding add_to symbols labels statements constants moves stack IsBalanced open_blocks last_float
agrees_float past c l ss d fresh ready a =
    let v : ℕ = slice_index ss 1 in
    let s : Standing = with_float (standing_at c.table v) (length c.labels) in
    let u : Standings = with_state c.table v s in
    let small : v < length c.table.standings = omega (arith, ready.0, a.sizes, ap length a.texts) in
    let sets : Sets c.table u v s = sets_state c.table v s small in
    let off : (standing_at c.table v).floated ≡ false = a.floated_flags v ∙ ap (list_any (is_floated_of v)) (forced past c a) ∙ ready.1 in
    record {
      texts = a.texts;
      sizes = length-set c.table.standings v s ∙ a.sizes;
      labelled = new_label l c.labels (labels past) a.labelled fresh;
      constant_flags = λ k. flag_kept (λ x. x.constant) c.table u v s sets refl k ∙ a.constant_flags k;
      active_flags = λ k. flag_kept (λ x. x.active) c.table u v s sets refl k ∙ a.active_flags k
          ∙ sym (or_false (list_any (is_active_of k) c.endings)) ∙ sym (any_pushed (is_active_of k) c.endings (Floated v));
      floated_flags = λ k. flag_on (λ x. x.floated) c.table u v s sets refl k (list_any (is_floated_of k) c.endings) (a.floated_flags k) ∙ sym (any_pushed (is_floated_of k) c.endings (Floated v));
      float_ids = λ k. ap (λ x. x.float) (sets k) ∙ one_float (nat_eq k v) s (standing_at c.table k) (length (labels past)) (last_float past k) (ap length a.labelled) (a.float_ids k);
      once_active = λ k. once_pushed (is_active_of k) c.endings (Floated v) (a.once_active k) (λ same. absurd (false≢true same));
      once_floated = λ k. once_pushed (is_floated_of k) c.endings (Floated v) (a.once_floated k) (λ same. sym (a.floated_flags k) ∙ at_same (λ x. x.floated) c.table k v same off);
      endings = ap (λ es. es ++ Floated v ∷ []) a.endings;
      marks = a.marks;
      balanced = a.balanced;
      places = a.places;
      stated = ap (λ xs. xs ++ a_hypothesis kind.Float ss d ∷ []) a.stated;
    }

-- statements that end nothing
pub agrees_essential : (past : List Event) (c : Context) (l ss : List ℕ) (d : Option Span) → list_any (bytes_eq l) (labels past) ≡ false
    → Agrees past c → Agrees (essential l ss d ∷ past) (add_to c (essential l ss d))
unfolding add_to symbols labels statements constants moves open_blocks last_float
agrees_essential past c l ss d fresh a = record {
  texts = a.texts;
  sizes = a.sizes;
  labelled = new_label l c.labels (labels past) a.labelled fresh;
  constant_flags = a.constant_flags;
  active_flags = a.active_flags;
  floated_flags = a.floated_flags;
  float_ids = a.float_ids;
  once_active = a.once_active;
  once_floated = a.once_floated;
  endings = a.endings;
  marks = a.marks;
  balanced = a.balanced;
  places = a.places;
  stated = ap (λ xs. xs ++ a_hypothesis kind.Essential ss d ∷ []) a.stated;
}

-- one assertion more, with the mandatory hypotheses and pairs that looking back finds
one_assertion : (k : Kind) (ss : List ℕ) (from to : ℕ) (d : Option Span) (xs ys : List Stated) (hs is : List ℕ) (gs fs : List (List ℕ)) → xs ≡ ys → hs ≡ is → gs ≡ fs
    → xs ++ an_assertion xs hs gs k ss from to d ∷ [] ≡ ys ++ an_assertion ys is fs k ss from to d ∷ []
one_assertion k ss from to d xs ys hs is gs fs e f g =
    ap (λ zs. zs ++ an_assertion zs hs gs k ss from to d ∷ []) e ∙ ap (λ zs. ys ++ an_assertion ys zs gs k ss from to d ∷ []) f
    ∙ ap (λ zs. ys ++ an_assertion ys is zs k ss from to d ∷ []) g

pub agrees_asserted : (past : List Event) (c : Context) (l ss : List ℕ) (d : Option Span) → list_any (bytes_eq l) (labels past) ≡ false
    → needed_by c.table c.statements c.essentials.now ss ≡ mandatory_of c.statements c.hypotheses ss → c.hypotheses ≡ active_hypotheses past → c.partings.now ≡ active_distinct past
    → Agrees past c → Agrees (asserted l ss d ∷ past) (add_to c (asserted l ss d))
unfolding add_to symbols labels statements constants moves open_blocks last_float
agrees_asserted past c l ss d fresh needed act groups a = record {
  texts = a.texts;
  sizes = a.sizes;
  labelled = new_label l c.labels (labels past) a.labelled fresh;
  constant_flags = a.constant_flags;
  active_flags = a.active_flags;
  floated_flags = a.floated_flags;
  float_ids = a.float_ids;
  once_active = a.once_active;
  once_floated = a.once_floated;
  endings = a.endings;
  marks = a.marks;
  balanced = a.balanced;
  places = a.places;
  stated = ap (λ hs. c.statements ++ an_assertion_with c.statements hs c.partings.now kind.Axiom ss 0 0 d ∷ []) needed
      ∙ one_assertion kind.Axiom ss 0 0 d c.statements (statements past) c.hypotheses (active_hypotheses past) c.partings.now (active_distinct past) a.stated act groups;
}

pub agrees_theorem : (past : List Event) (c : Context) (l ss : List ℕ) (from to : ℕ) (d : Option Span) → list_any (bytes_eq l) (labels past) ≡ false
    → needed_by c.table c.statements c.essentials.now ss ≡ mandatory_of c.statements c.hypotheses ss → c.hypotheses ≡ active_hypotheses past → c.partings.now ≡ active_distinct past
    → Agrees past c → Agrees (theorem l ss from to d ∷ past) (add_to c (theorem l ss from to d))
unfolding add_to symbols labels statements constants moves open_blocks last_float
agrees_theorem past c l ss from to d fresh needed act groups a = record {
  texts = a.texts;
  sizes = a.sizes;
  labelled = new_label l c.labels (labels past) a.labelled fresh;
  constant_flags = a.constant_flags;
  active_flags = a.active_flags;
  floated_flags = a.floated_flags;
  float_ids = a.float_ids;
  once_active = a.once_active;
  once_floated = a.once_floated;
  endings = a.endings;
  marks = a.marks;
  balanced = a.balanced;
  places = a.places;
  stated = ap (λ hs. c.statements ++ an_assertion_with c.statements hs c.partings.now kind.Theorem ss from to d ∷ []) needed
      ∙ one_assertion kind.Theorem ss from to d c.statements (statements past) c.hypotheses (active_hypotheses past) c.partings.now (active_distinct past) a.stated act groups;
}

pub agrees_distinct : (past : List Event) (c : Context) (ss : List ℕ) → Agrees past c → Agrees (distinct ss ∷ past) (add_to c (distinct ss))
unfolding add_to symbols labels statements constants moves open_blocks last_float
agrees_distinct past c ss a = record {
  texts = a.texts;
  sizes = a.sizes;
  labelled = a.labelled;
  constant_flags = a.constant_flags;
  active_flags = a.active_flags;
  floated_flags = a.floated_flags;
  float_ids = a.float_ids;
  once_active = a.once_active;
  once_floated = a.once_floated;
  endings = a.endings;
  marks = a.marks;
  balanced = a.balanced;
  places = a.places;
  stated = a.stated;
}
