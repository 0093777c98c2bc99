-- What REPLACE comes to, from what its parts answer.
use Rattle.std.proofs.Common.{◌≡◌, ◌≢◌, ℕ, ◌+◌, ◌-◌, ◌<◌, ◌≤◌, Bool, true, false, List, [], ◌∷◌, ◌++◌, map, length, refl, sym, ◌∙◌, ap, subst, arith, Option, None, Some}
use Rattle.std.specs.Prelude.{Result, Ok, Err, nat_lt}
use Rattle.std.specs.List.{All}
use Rattle.mm_base.specs.Refusals.{unless, given}
use Rattle.mm_scope.specs.Contents.{labels_of}
use Rattle.mm_subst.specs.declared.symbol.WSym.{WSym}
use Rattle.mm_subst.specs.Substitutions.{Pairs, applied, with_values}
use Rattle.mm_subst.specs.Statements.{statement_of}
use Rattle.mm_subst.proofs.Replaced.{applied-nil, applied-cons}
use Rattle.mm_unify.specs.declared.listing.Listing.{Listing}
use Rattle.mm_unify.specs.declared.listing.Settings.{Settings}
use Rattle.mm_unify.specs.Search.{Answer}
use Rattle.mm_plain.specs.Binding.{bound, bound_in, HasWorkKeys}
use Rattle.mm_plain.specs.Children.{children_of}
use Rattle.mm_plain.specs.declared.plain.Plain.{Plain}
use Rattle.mm_plain.specs.Drawing.{IsFitting, AreFitting, fresh_for}
use Rattle.mm_plain.specs.Grafts.{cleared, cleared_in, raised}
use Rattle.mm_plain.specs.Lengths.{is_long_step, first_long}
use Rattle.mm_plain.specs.Numbers.{HasOwnLabels, IsOwnLabel, number_in}
use Rattle.mm_plain.specs.Premises.{premises_of}
use Rattle.mm_plain.specs.Shape.{Each, Proof, unknown, unknowns, known, put, placed, size_of, height_of, step_at, steps_of, target_of}
use Rattle.mm_plain.specs.Sources.{label_of}
use Rattle.mm_plain.specs.Valid.{Setting, IsSound, most_steps, most_levels, placed_in}
use Rattle.mm_plain.proofs.Binding.{bound-unknown, bound-known, each_itself}
use Rattle.mm_plain.proofs.Bounds.{sound_short}
use Rattle.mm_plain.proofs.Children.{put-put}
use Rattle.mm_plain.proofs.Drawing.{fitting-known, sound-fitting}
use Rattle.mm_plain.proofs.Equations.{by_trees, size_of-unknown, target_of-unknown}
use Rattle.mm_plain.proofs.First.{none-first_from}
use Rattle.mm_plain.proofs.Nested.{step-put_root}
use Rattle.mm_plain.proofs.Owned.{stands-own}
use Rattle.mm_plain.proofs.Puts.{size-before}
use Rattle.mm_plain.proofs.Read.{label_of-known, label_of-unknown}
use Rattle.mm_tree.specs.Replacing.{IsReplaced, are_long, long_at, long_step, number_cleared, number_over, refilled_in, replaced_in}
use Rattle.mm_tree.specs.declared.fault.ReplaceFault.{ReplaceFault}
use Rattle.mm_tree.specs.declared.fault.ReplaceFault.TheVariants as replace
use Rattle.mm_edit.specs.Applying.{applying_only, bound_by, unless_long}
use Rattle.mm_edit.specs.Assigning.{draws, listed_named, named}
use Rattle.mm_edit.specs.Edited.{IsListing, IsRefusal, answer_in, replace_fault_of}
use Rattle.mm_edit.specs.Listed.{has_none, listed, only_unifier}
use Rattle.mm_edit.specs.Replacing.{only_or_none, refilling, renamed}
use Rattle.mm_edit.specs.Steps.{has_many, is_deep, is_spent}
use Rattle.mm_edit.specs.declared.edit_fault.EditFault.{EditFault}
use Rattle.mm_edit.specs.declared.edit_fault.EditFault.TheVariants.{TooManySteps, TooDeep, TooLong, WorkSpent, NoUnifier, Memory}
use Rattle.mm_edit.proofs.Listings.{chosen-in, keys-in, none-in}

-- ## Sound trees name statements of the database, and have no string that is too long

own-step : (bytes : List ℕ) (at : ℕ) → at < length (labels_of bytes) → (x : Plain) → IsFitting bytes at x → IsOwnLabel bytes (label_of x)
own-step bytes at h = by_trees (λ x. IsFitting bytes at x → IsOwnLabel bytes (label_of x))
    (λ t f. subst (IsOwnLabel bytes) (sym (label_of-unknown t)) tt)
    (λ t l s kids e f. subst (IsOwnLabel bytes) (sym (label_of-known t l s kids)) (stands-own bytes at l h (fitting-known bytes at t l s kids f).0))

own-steps : (bytes : List ℕ) (at : ℕ) → at < length (labels_of bytes) → (xs : List Plain) → Each (IsFitting bytes at) xs → Each (λ y. IsOwnLabel bytes (label_of y)) xs
own-steps bytes at h [] f = tt
own-steps bytes at h (x ∷ xs) f = (own-step bytes at h x f.0, own-steps bytes at h xs f.1)

pub own-sound : (c : Setting) (x : Plain) → c.at < length (labels_of c.bytes) → IsSound c x → HasOwnLabels c.bytes x
unfolding HasOwnLabels AreFitting
own-sound c x h s = own-steps c.bytes c.at h (steps_of x) (sound-fitting c x s)

pub own-all : (c : Setting) (xs : List Plain) → c.at < length (labels_of c.bytes) → Each (IsSound c) xs → Each (HasOwnLabels c.bytes) xs
own-all c [] h s = tt
own-all c (x ∷ xs) h s = (own-sound c x h s.0, own-all c xs h s.1)

pub short-sound : (c : Setting) (x : Plain) → IsSound c x → first_long c.bytes x ≡ None
short-sound c x s = none-first_from (is_long_step c.bytes) 1 (steps_of x) (sound_short c x s)

pub short-all : (c : Setting) (xs : List Plain) → Each (IsSound c) xs → Each (λ x. first_long c.bytes x ≡ None) xs
short-all c [] s = tt
short-all c (x ∷ xs) s = (short-sound c x s.0, short-all c xs s.1)

-- ## The substitution that changes nothing

applied-none : (s : List WSym) → applied [] s ≡ s
applied-none [] = applied-nil []
applied-none (x ∷ xs) = applied-cons [] x xs ∙ ap (λ t. x ∷ t) (applied-none xs)

values-none : (sigma : Pairs) → with_values [] sigma ≡ sigma
values-none [] = refl
values-none (p ∷ ps) = ap (λ (v : List WSym). (p.0, v) ∷ with_values [] ps) (applied-none p.1) ∙ ap (λ (qs : Pairs). p ∷ qs) (values-none ps)

bound-none : (x : Plain) → bound [] x ≡ x
bound-none = by_trees (λ x. bound [] x ≡ x)
    (λ t. bound-unknown [] t ∙ ap unknown (applied-none t))
    (λ t l s kids e.
    bound-known [] t l s kids
    ∙ ap (λ (u : List WSym). known u l (with_values [] s) (map (bound []) kids)) (applied-none t)
    ∙ ap (λ (r : Pairs). known t l r (map (bound []) kids)) (values-none s)
    ∙ ap (known t l s) (each_itself (bound []) kids e))

all-none : (xs : List Plain) → map (bound []) xs ≡ xs
all-none [] = refl
all-none (x ∷ xs) = ap (λ (y : Plain). y ∷ map (bound []) xs) (bound-none x) ∙ ap (λ (ys : List Plain). x ∷ ys) (all-none xs)

all-same : (f : EditFault) (xs : List Plain) → map (bound_by (Err f)) xs ≡ xs
all-same f [] = refl
all-same f (x ∷ xs) = ap (λ (ys : List Plain). x ∷ ys) (all-same f xs)

-- ## A step that is cleared and then named

pub named-cleared : (bytes : List ℕ) (p : Proof) (k id : ℕ) → (1 ≤ k) × (k ≤ size_of p.plain)
    → (named bytes (cleared_in p k) (number_cleared p.plain k) id ≡ named bytes p k id) × (target_of (step_at (cleared p.plain k) (number_cleared p.plain k)) ≡ target_of (step_at p.plain k))
named-cleared bytes p k id there =
    let x : Plain = p.plain in
    let t : List WSym = target_of (step_at x k) in
    let leaf : Plain = unknown t in
    let j : ℕ = number_cleared x k in
    let sigma : Pairs = fresh_for bytes p.next id in
    let hs : List (List WSym) = premises_of bytes id in
    let before = size-before x k there.0 there.1 in
    let at : number_in x k (size_of leaf) ≡ j = omega (arith, size_of-unknown t, before) in
    let is : step_at (put x k leaf) j ≡ leaf = ap (step_at (put x k leaf)) (sym at) ∙ step-put_root leaf x k there.0 there.1 in
    let same : target_of (step_at (put x k leaf) j) ≡ t = ap target_of is ∙ target_of-unknown t in
    let plain : placed (put x k leaf) j id sigma hs ≡ placed x k id sigma hs
    = ap (λ (u : List WSym). put (put x k leaf) j (known u id sigma (unknowns sigma hs))) same
    ∙ ap (λ (n : ℕ). put (put x k leaf) n (known t id sigma (unknowns sigma hs))) (sym at)
    ∙ put-put leaf (known t id sigma (unknowns sigma hs)) x k there.0 there.1 in
    (ap (λ (y : Plain). let r : Proof = record { plain = y; next = p.next + draws bytes id } in r) plain, same)

-- ## The last refusals

abbrev pub later : List ℕ → Proof → ℕ → List Plain → Option ℕ → Result Proof EditFault
later bytes r m olds None = refilling bytes r m olds
later bytes r m olds (Some s) = Err (TooLong s)

abbrev pub onward : List ℕ → Proof → ℕ → List Plain → Pairs → Result Proof EditFault
onward bytes n m kids theta = later bytes (bound_in theta n) m (map (bound theta) kids) (first_long bytes (bound theta n.plain))

given-so : (bytes : List ℕ) (u : Result Pairs EditFault) (n : Proof) (m : ℕ) (kids : List Plain) → first_long bytes n.plain ≡ None
    → given (applying_only bytes u n) (λ r. refilling bytes r m (map (bound_by u) kids)) ≡ onward bytes n m kids (only_or_none u)
unfolding given
given-so bytes (Ok theta) n m kids short = go (first_long bytes (bound theta n.plain))
  where
    go : (o : Option ℕ) → given (unless_long o (bound_in theta n)) (λ r. refilling bytes r m (map (bound theta) kids)) ≡ later bytes (bound_in theta n) m (map (bound theta) kids) o
    go None = refl
    go (Some s) = refl
given-so bytes (Err f) n m kids short =
    ap (refilling bytes n m) (all-same f kids ∙ sym (all-none kids))
    ∙ sym (ap (λ (y : Plain). later bytes (record { plain = y; next = n.next }) m (map (bound []) kids) (first_long bytes y)) (bound-none n.plain)
    ∙ ap (later bytes n m (map (bound []) kids)) short)

long-none : (b : Bool) (m : ℕ) → long_at None b m ≡ None → b ≡ false
long-none true m h = cc
long-none false m h = refl

long-some : (b : Bool) (m s : ℕ) → long_at None b m ≡ Some s → (b ≡ true) × (m ≡ s)
long-some true m s h = (refl, cc)
long-some false m s h = cc

above : (m n : ℕ) → m < n → nat_lt m n ≡ true
above m n h = grind arith

within : (m n : ℕ) → n ≤ m → nat_lt m n ≡ false
within m n h = grind arith

pub done-so : (bytes : List ℕ) (r : Proof) (m : ℕ) (olds : List Plain) (o : Option ℕ) (now : Proof) (u : Unit) → IsReplaced (Ok u) now (long_at o (are_long bytes olds) m) (refilled_in r m olds) → later bytes r m olds o ≡ Ok now
unfolding unless
done-so bytes r m olds (Some s) now u h = absurd (some-none h.0)
  where
    some-none : Some s ≡ None → ⊥
    some-none e = cc
done-so bytes r m olds None now u h =
    let few = within most_steps (size_of (refilled_in r m olds).plain) h.2 in
    let low = within most_levels (height_of (refilled_in r m olds).plain) h.3 in
    rw (long-none (are_long bytes olds) m h.0, few, low) (ap (λ (q : Proof). let a : Result Proof EditFault = Ok q in a) (sym h.1))

pub refused-so : (bytes : List ℕ) (r : Proof) (m : ℕ) (olds : List Plain) (o : Option ℕ) (now : Proof) (g : ReplaceFault) → IsReplaced (Err g) now (long_at o (are_long bytes olds) m) (refilled_in r m olds)
    → IsRefusal (later bytes r m olds o) (replace_fault_of g)
unfolding unless
refused-so bytes r m olds (Some s) now (replace.TooLong k) h other = let z : s ≡ k = cc in ap (λ (n : ℕ). let a : Result Proof EditFault = Err (TooLong n) in a) z
refused-so bytes r m olds None now (replace.TooLong k) h other =
    let w = long-some (are_long bytes olds) m k h in
    rw w.0 (ap (λ (n : ℕ). let a : Result Proof EditFault = Err (TooLong n) in a) w.1)
refused-so bytes r m olds (Some s) now replace.TooManySteps h other = absurd (some-none h.0)
  where
    some-none : Some s ≡ None → ⊥
    some-none e = cc
refused-so bytes r m olds None now replace.TooManySteps h other =
    rw (long-none (are_long bytes olds) m h.0, above most_steps (size_of (refilled_in r m olds).plain) h.1) refl
refused-so bytes r m olds (Some s) now replace.TooDeep h other = absurd (some-none h.0)
  where
    some-none : Some s ≡ None → ⊥
    some-none e = cc
refused-so bytes r m olds None now replace.TooDeep h other =
    rw (long-none (are_long bytes olds) m h.0, within most_steps (size_of (refilled_in r m olds).plain) h.1, above most_levels (height_of (refilled_in r m olds).plain) h.2) refl
refused-so bytes r m olds o now replace.Memory h other = absurd (other refl)

-- ## The whole

pub rename-so : (bytes : List ℕ) (set : Settings) (p : Proof) (k id : ℕ) (t : Listing) → (1 ≤ k) × (k ≤ size_of p.plain) → is_spent p (draws bytes id) ≡ false → IsListing t (listed_named bytes set p k id)
    → has_none (answer_in t) ≡ false → first_long bytes (named bytes p k id).plain ≡ None
    → renamed bytes set p k id ≡ onward bytes (named bytes p k id) (number_over bytes p.plain k id) (children_of (step_at p.plain k)) (only_or_none (only_unifier (answer_in t)))
unfolding unless
rename-so bytes set p k id t there spent l some short =
    let w = named-cleared bytes p k id there in
    let j : ℕ = number_cleared p.plain k in
    let m : ℕ = number_over bytes p.plain k id in
    let kids : List Plain = children_of (step_at p.plain k) in
    let same : listed_named bytes set (cleared_in p k) j id ≡ listed_named bytes set p k id = ap (λ (u : List WSym). listed bytes set u (applied (fresh_for bytes p.next id) (statement_of bytes id))) w.1 in
    let none : has_none (listed_named bytes set (cleared_in p k) j id) ≡ false = ap has_none same ∙ none-in t (listed_named bytes set p k id) l ∙ some in
    let only : only_unifier (listed_named bytes set (cleared_in p k) j id) ≡ only_unifier (answer_in t) = ap only_unifier same ∙ chosen-in t (listed_named bytes set p k id) None l in
    rw (spent, none) (ap (λ (u : Result Pairs EditFault). given (applying_only bytes u (named bytes (cleared_in p k) j id)) (λ r. refilling bytes r m (map (bound_by u) kids))) only
    ∙ ap (λ (q : Proof). given (applying_only bytes (only_unifier (answer_in t)) q) (λ r. refilling bytes r m (map (bound_by (only_unifier (answer_in t))) kids))) w.0
    ∙ given-so bytes (only_unifier (answer_in t)) (named bytes p k id) m kids short)

pub spent-renamed : (bytes : List ℕ) (set : Settings) (p : Proof) (k id : ℕ) (f : EditFault) → (f ≢ Memory → (f ≡ WorkSpent) × (is_spent p (draws bytes id) ≡ true)) → IsRefusal (renamed bytes set p k id) f
unfolding unless
spent-renamed bytes set p k id f h other = let w = h other in rw w.1 (ap (λ (e : EditFault). let r : Result Proof EditFault = Err e in r) (sym w.0))

pub none-renamed : (bytes : List ℕ) (set : Settings) (p : Proof) (k id : ℕ) (t : Listing) → (1 ≤ k) × (k ≤ size_of p.plain) → is_spent p (draws bytes id) ≡ false → IsListing t (listed_named bytes set p k id)
    → has_none (answer_in t) ≡ true → renamed bytes set p k id ≡ Err NoUnifier
unfolding unless
none-renamed bytes set p k id t there spent l none =
    let w = named-cleared bytes p k id there in
    let j : ℕ = number_cleared p.plain k in
    let same : listed_named bytes set (cleared_in p k) j id ≡ listed_named bytes set p k id = ap (λ (u : List WSym). listed bytes set u (applied (fresh_for bytes p.next id) (statement_of bytes id))) w.1 in
    let gone : has_none (listed_named bytes set (cleared_in p k) j id) ≡ true = ap has_none same ∙ none-in t (listed_named bytes set p k id) l ∙ none in
    rw (spent, gone) refl

pub keys-only-or-none : (u : Result Pairs EditFault) → ((theta : Pairs) → u ≡ Ok theta → HasWorkKeys theta) → HasWorkKeys (only_or_none u)
keys-only-or-none (Ok theta) h = h theta refl
keys-only-or-none (Err f) h = λ i d low. absurd (omega arith)

pub moved : (bytes : List ℕ) (p q : Proof) (k id : ℕ) (sigma theta other : Pairs) (r : Result Unit ReplaceFault) (now : Proof) → q ≡ raised (draws bytes id) p → sigma ≡ fresh_for bytes p.next id → theta ≡ other
    → IsReplaced r now (long_step bytes q k id sigma theta) (replaced_in bytes q k id sigma theta)
    → IsReplaced r now (long_step bytes (raised (draws bytes id) p) k id (fresh_for bytes p.next id) other) (replaced_in bytes (raised (draws bytes id) p) k id (fresh_for bytes p.next id) other)
moved bytes p q k id sigma theta other r now e f g h =
    let n : Proof = raised (draws bytes id) p in
    let s : Pairs = fresh_for bytes p.next id in
    subst (λ (t : Pairs). IsReplaced r now (long_step bytes n k id s t) (replaced_in bytes n k id s t)) g
    (subst (λ (u : Pairs). IsReplaced r now (long_step bytes n k id u theta) (replaced_in bytes n k id u theta)) f
    (subst (λ (x : Proof). IsReplaced r now (long_step bytes x k id sigma theta) (replaced_in bytes x k id sigma theta)) e h))
