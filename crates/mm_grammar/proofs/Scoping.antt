-- What is in force was brought in a block that has not ended, and what was so brought is in force.
use Rattle.std.proofs.Common.{◌≡◌, ◌≤◌, ◌+◌, ℕ, zero, suc, Bool, true, false, ◌||◌, List, [], ◌∷◌, ◌++◌, nat_eq, slice_index, refl, sym, ap, ◌∙◌, subst, arith, ◌⊎◌, inl, inr}
use Rattle.std.proofs.lemmas.Bool.{eqb-true, false≢true, or_left, or_right}
use Rattle.std.proofs.lemmas.List.Folds.{list_any-append}
use Rattle.std.specs.List.{list_any}
use Rattle.mm_tables.specs.Moves.{in_force}
use Rattle.mm_scope.specs.Events.{Event, constant, variable, float, essential, asserted, theorem, distinct, opened, closed}
use Rattle.mm_scope.specs.Laws.{openings, closings, NoneEnds, IsConstant, IsInScope}
use Rattle.mm_scope.specs.Looks.{moves, constants, is_active_of, is_floated_of}
use Rattle.mm_scope.specs.declared.ending.Ending.{Ending}
use Rattle.mm_scope.specs.declared.ending.Ending.TheVariants.{Active, Floated}
use Rattle.mm_grammar.specs.Rules.{HasFloat}

-- what an event brings
abbrev Brings : Event → Ending → Type 0
Brings (variable t n) x = x ≡ Active n
Brings (float l ss d) x = x ≡ Floated (slice_index ss 1)
Brings _ x = ⊥

record IsBrought (p : Ending → Bool) (past : List Event) (k : ℕ) : Type 0 where
  event : Event
  ending : Ending
  later : List Event
  earlier : List Event
  whole : past ≡ later ++ event ∷ earlier
  brings : Brings event ending
  is : p ending ≡ true
  stays : NoneEnds later
  enough : k + closings later ≤ openings later

either_or : (a b : Bool) → (a || (b || false)) ≡ true → (a ≡ true) ⊎ (b ≡ true)
either_or true b h = inl refl
either_or false true h = inr refl
either_or false false h = absurd (false≢true h)

more : (p : Ending → Bool) (e : Event) (past : List Event) (k j : ℕ) → ((later : List Event) → j + closings later ≤ openings later → k + closings (e ∷ later) ≤ openings (e ∷ later))
    → IsBrought p past j → IsBrought p (e ∷ past) k
more p e past k j count b = record {
  event = b.event;
  ending = b.ending;
  later = e ∷ b.later;
  earlier = b.earlier;
  whole = ap (λ l. e ∷ l) b.whole;
  brings = b.brings;
  is = b.is;
  stays = (omega (arith, count b.later b.enough), b.stays);
  enough = count b.later b.enough;
}

-- the newest event brings it, or an older one
newest : (p : Ending → Bool) (e : Event) (x : Ending) (past : List Event) → Brings e x → list_any p (in_force zero (moves past) ++ x ∷ []) ≡ true
    → (list_any p (in_force zero (moves past)) ≡ true → IsBrought p (e ∷ past) zero) → IsBrought p (e ∷ past) zero
unfolding openings closings
newest p e x past brings h older = elim (either_or (list_any p (in_force zero (moves past))) (p x) (sym (list_any-append p (in_force zero (moves past)) (x ∷ [])) ∙ h)) [
  | inl there ↦ older there
  | inr here ↦ record { event = e; ending = x; later = []; earlier = past; whole = refl; brings = brings; is = here; stays = tt; enough = omega arith }
]

brought : (p : Ending → Bool) (past : List Event) (k : ℕ) → list_any p (in_force k (moves past)) ≡ true → IsBrought p past k
unfolding moves in_force openings closings
brought p [] k h = absurd (false≢true h)
brought p (variable t m ∷ past) zero h = newest p (variable t m) (Active m) past refl h (λ there. more p (variable t m) past zero zero (λ later c. c) (brought p past zero there))
brought p (variable t m ∷ past) (suc k) h = more p (variable t m) past (suc k) (suc k) (λ later c. c) (brought p past (suc k) h)
brought p (float l ss d ∷ past) zero h = newest p (float l ss d) (Floated (slice_index ss 1)) past refl h (λ there. more p (float l ss d) past zero zero (λ later c. c) (brought p past zero there))
brought p (float l ss d ∷ past) (suc k) h = more p (float l ss d) past (suc k) (suc k) (λ later c. c) (brought p past (suc k) h)
brought p (opened q ∷ past) zero h = more p (opened q) past zero zero (λ later c. omega (arith, c)) (brought p past zero h)
brought p (opened q ∷ past) (suc k) h = more p (opened q) past (suc k) k (λ later c. omega (arith, c)) (brought p past k h)
brought p (closed ∷ past) k h = more p closed past k (suc k) (λ later c. omega (arith, c)) (brought p past (suc k) h)
brought p (constant t m ∷ past) k h = more p (constant t m) past k k (λ later c. c) (brought p past k h)
brought p (essential l ss d ∷ past) k h = more p (essential l ss d) past k k (λ later c. c) (brought p past k h)
brought p (asserted l ss d ∷ past) k h = more p (asserted l ss d) past k k (λ later c. c) (brought p past k h)
brought p (theorem l ss from to d ∷ past) k h = more p (theorem l ss from to d) past k k (λ later c. c) (brought p past k h)
brought p (distinct ss ∷ past) k h = more p (distinct ss) past k k (λ later c. c) (brought p past k h)

or_last : (a b : Bool) → b ≡ true → (a || (b || false)) ≡ true
or_last true b h = refl
or_last false b h = ap (λ c. c || false) h

still : (p : Ending → Bool) (xs : List Ending) (x : Ending) → list_any p xs ≡ true → list_any p (xs ++ x ∷ []) ≡ true
still p xs x h = list_any-append p xs (x ∷ []) ∙ or_left (list_any p xs) (list_any p (x ∷ [])) h

last : (p : Ending → Bool) (xs : List Ending) (x : Ending) → p x ≡ true → list_any p (xs ++ x ∷ []) ≡ true
last p xs x h = list_any-append p xs (x ∷ []) ∙ or_last (list_any p xs) (p x) h

none_ends : (later : List Event) → NoneEnds later → zero + closings later ≤ openings later
unfolding openings closings
none_ends [] stays = omega arith
none_ends (e ∷ later) stays = omega (arith, stays.0)

first_in_force : (p : Ending → Bool) (e : Event) (x : Ending) (earlier : List Event) → Brings e x → p x ≡ true → list_any p (in_force zero (moves (e ∷ earlier))) ≡ true
unfolding moves in_force
first_in_force p (variable t n) x earlier b h = last p (in_force zero (moves earlier)) (Active n) (ap p (sym b) ∙ h)
first_in_force p (float l ss d) x earlier b h = last p (in_force zero (moves earlier)) (Floated (slice_index ss 1)) (ap p (sym b) ∙ h)
first_in_force p _ x earlier b h = absurd b

stays_in_force : (p : Ending → Bool) (e : Event) (x : Ending) (earlier : List Event) → Brings e x → p x ≡ true
    → (later : List Event) (k : ℕ) → k + closings later ≤ openings later → NoneEnds later → list_any p (in_force k (moves (later ++ e ∷ earlier))) ≡ true
unfolding moves in_force openings closings
stays_in_force p e x earlier b h [] zero enough stays = first_in_force p e x earlier b h
stays_in_force p e x earlier b h [] (suc k) enough stays = absurd (omega (arith, enough))
stays_in_force p e x earlier b h (variable t m ∷ later) zero enough stays =
    still p (in_force zero (moves (later ++ e ∷ earlier))) (Active m) (stays_in_force p e x earlier b h later zero enough stays.1)
stays_in_force p e x earlier b h (variable t m ∷ later) (suc k) enough stays = stays_in_force p e x earlier b h later (suc k) enough stays.1
stays_in_force p e x earlier b h (float l ss d ∷ later) zero enough stays =
    still p (in_force zero (moves (later ++ e ∷ earlier))) (Floated (slice_index ss 1)) (stays_in_force p e x earlier b h later zero enough stays.1)
stays_in_force p e x earlier b h (float l ss d ∷ later) (suc k) enough stays = stays_in_force p e x earlier b h later (suc k) enough stays.1
stays_in_force p e x earlier b h (opened q ∷ later) zero enough stays = stays_in_force p e x earlier b h later zero (none_ends later stays.1) stays.1
stays_in_force p e x earlier b h (opened q ∷ later) (suc k) enough stays = stays_in_force p e x earlier b h later k (omega (arith, enough)) stays.1
stays_in_force p e x earlier b h (closed ∷ later) k enough stays = stays_in_force p e x earlier b h later (suc k) (omega (arith, enough)) stays.1
stays_in_force p e x earlier b h (constant t m ∷ later) k enough stays = stays_in_force p e x earlier b h later k enough stays.1
stays_in_force p e x earlier b h (essential l ss d ∷ later) k enough stays = stays_in_force p e x earlier b h later k enough stays.1
stays_in_force p e x earlier b h (asserted l ss d ∷ later) k enough stays = stays_in_force p e x earlier b h later k enough stays.1
stays_in_force p e x earlier b h (theorem l ss from to d ∷ later) k enough stays = stays_in_force p e x earlier b h later k enough stays.1
stays_in_force p e x earlier b h (distinct ss ∷ later) k enough stays = stays_in_force p e x earlier b h later k enough stays.1

-- the variables that are active
scope_by : (n : ℕ) (past : List Event) (e : Event) (x : Ending) (later earlier : List Event) → Brings e x → is_active_of n x ≡ true → past ≡ later ++ e ∷ earlier → NoneEnds later → IsInScope past n
scope_by n past (variable t m) x later earlier b h whole stays =
    let same : n ≡ m = eqb-true n m (ap (is_active_of n) (sym b) ∙ h) in
    record { text = t; later = later; earlier = earlier; whole = whole ∙ ap (λ k. later ++ variable t k ∷ earlier) (sym same); stays = stays }
scope_by n past (float l ss d) x later earlier b h whole stays = absurd (false≢true (ap (is_active_of n) (sym b) ∙ h))
scope_by n past _ x later earlier b h whole stays = absurd b

pub in_scope : (past : List Event) (n : ℕ) → list_any (is_active_of n) (in_force zero (moves past)) ≡ true → IsInScope past n
in_scope past n h = let b = brought (is_active_of n) past zero h in scope_by n past b.event b.ending b.later b.earlier b.brings b.is b.whole b.stays

same_number : (n : ℕ) → nat_eq n n ≡ true
same_number n = grind arith

pub active_in_scope : (past : List Event) (n : ℕ) → IsInScope past n → list_any (is_active_of n) (in_force zero (moves past)) ≡ true
active_in_scope past n f =
    ap (λ q. list_any (is_active_of n) (in_force zero (moves q))) f.whole
    ∙ stays_in_force (is_active_of n) (variable f.text n) (Active n) f.earlier refl (same_number n) f.later zero (none_ends f.later f.stays) f.stays

-- the variables that have an active `$f`
float_by : (n : ℕ) (past : List Event) (e : Event) (x : Ending) (later earlier : List Event) → Brings e x → is_floated_of n x ≡ true → past ≡ later ++ e ∷ earlier → NoneEnds later → HasFloat past n
float_by n past (float l ss d) x later earlier b h whole stays =
    let same : n ≡ slice_index ss 1 = eqb-true n (slice_index ss 1) (ap (is_floated_of n) (sym b) ∙ h) in
    record { label = l; stated = ss; described = d; later = later; earlier = earlier; whole = whole; second = sym same; stays = stays }
float_by n past (variable t m) x later earlier b h whole stays = absurd (false≢true (ap (is_floated_of n) (sym b) ∙ h))
float_by n past _ x later earlier b h whole stays = absurd b

pub has_float : (past : List Event) (n : ℕ) → list_any (is_floated_of n) (in_force zero (moves past)) ≡ true → HasFloat past n
has_float past n h = let b = brought (is_floated_of n) past zero h in float_by n past b.event b.ending b.later b.earlier b.brings b.is b.whole b.stays

pub floated_in_scope : (past : List Event) (n : ℕ) → HasFloat past n → list_any (is_floated_of n) (in_force zero (moves past)) ≡ true
floated_in_scope past n f =
    ap (λ q. list_any (is_floated_of n) (in_force zero (moves q))) f.whole
    ∙ stays_in_force (is_floated_of n) (float f.label f.stated f.described) (Floated (slice_index f.stated 1)) f.earlier refl
    (subst (λ m. nat_eq n m ≡ true) (sym f.second) (same_number n)) f.later zero (none_ends f.later f.stays) f.stays

-- the constants
passed : (e : Event) (past : List Event) (n : ℕ) → IsConstant past n → IsConstant (e ∷ past) n
passed e past n f = record { text = f.text; later = e ∷ f.later; earlier = f.earlier; whole = ap (λ l. e ∷ l) f.whole }

pub is_constant : (past : List Event) (n : ℕ) → list_any (nat_eq n) (constants past) ≡ true → IsConstant past n
unfolding constants
is_constant [] n h = absurd (false≢true h)
is_constant (constant t m ∷ past) n h = by (nat_eq n m) refl h (is_constant past n)
  where
    by : (is : Bool) → nat_eq n m ≡ is → (is || list_any (nat_eq n) (constants past)) ≡ true → (list_any (nat_eq n) (constants past) ≡ true → IsConstant past n) → IsConstant (constant t m ∷ past) n
    by true e g older = record { text = t; later = []; earlier = past; whole = ap (λ k. constant t k ∷ past) (sym (eqb-true n m e)) }
    by false e g older = passed (constant t m) past n (older g)
is_constant (e ∷ past) n h = passed e past n (is_constant past n h)

constant_there : (t : List ℕ) (n : ℕ) (earlier later : List Event) → list_any (nat_eq n) (constants (later ++ constant t n ∷ earlier)) ≡ true
unfolding constants
constant_there t n earlier [] = or_left (nat_eq n n) (list_any (nat_eq n) (constants earlier)) (same_number n)
constant_there t n earlier (constant u m ∷ later) =
    or_right (nat_eq n m) (list_any (nat_eq n) (constants (later ++ constant t n ∷ earlier))) (constant_there t n earlier later)
constant_there t n earlier (e ∷ later) = constant_there t n earlier later

pub constant_in : (past : List Event) (n : ℕ) → IsConstant past n → list_any (nat_eq n) (constants past) ≡ true
constant_in past n f = ap (λ q. list_any (nat_eq n) (constants q)) f.whole ∙ constant_there f.text n f.earlier f.later
